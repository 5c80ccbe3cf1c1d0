-- What follows from the words: when status 2 comes, and completeness of `run` and `dump`.
use Rattle.std.proofs.Common.{◌≡◌, ◌∙◌, ◌==◌, ◌&&◌, ◌⊎◌, ℕ, Bool, cond, true, false, List, [], ◌∷◌, None, Option, Some, refl, sym, ap, subst, inl, inr, arith, codes}
use Rattle.std.specs.Prelude.{Result, Ok, Err, MatchResult, is_some}
use Rattle.std.specs.Str.{bytes_eq}
use Rattle.std.proofs.lemmas.Bool.{false≢true, not-true}
use Rattle.std.proofs.lemmas.Slice.Eq.{bytes_eq-Decides}
use Rattle.clap.proofs.WalkLemmas.{both}
use Rattle.m3_image_sections.specs.Parts.{Image}
use Rattle.m3_image_dump.specs.Texts.{IsDump}
use Rattle.m3c_words.specs.Orders.{Options, Order, build, run, exec, dump}
use Rattle.m3c_words.specs.Asked.{asked, usual_options}
use Rattle.m3c_words.proofs.PlainExec.{exec_asked}
use Rattle.m3c_words_laws.specs.Reads.{AreTexts, Reads}
use Rattle.m3c_words_laws.proofs.Laws.{asked_reads, reads_asked}
use Rattle.m3c_image_commands.specs.declared.answers.Answer.{Answer}
use Rattle.m3c_image_commands.specs.declared.answers.Refusal.{Refusal}
use Rattle.m3c_image_commands.specs.Statuses.{CountRose, Shelving, Putting, Took, Tells}
use Rattle.m3c_image_commands.specs.Reports.{Setting, Ended, within}
use Rattle.m3c_image_commands.specs.ImageCommands.{by_schedule, on_input}
use Rattle.m3c_image_commands.specs.Complete.{CutsShort}
use Rattle.m3c_image_commands.proofs.CompleteLemmas.{runs_whole, dumps_whole}
use Rattle.m3c_source_commands.specs.Judging.{ByChecker}
use Rattle.m3c_source_commands.specs.Orders.{Commands, usage, no_words, carried_out, Fulfils}
use Rattle.m3c_source_commands.proofs.UsageLemmas.{never_usage}
use Rattle.m3c.specs.Command.{Call, UsageByWords, IsCalm, IsBuildComplete, IsRunComplete, IsDumpComplete, RanImage, DumpedImage, RanOut, file_of, is_name}

pub some_same : {A : Type 0} (x y : A) → Some x ≡ Some y → x ≡ y
some_same x y e = cc

pub some_none : {A : Type 0} (x : A) → Some x ≡ None → ⊥
some_none x e = cc

-- ---- `exec FILE`

exec_name : (command name : List ℕ) → command ≡ codes "exec" → is_name name ≡ true → asked (command ∷ name ∷ []) ≡ Some (exec (name ∷ []) usual_options)
exec_name command [] e named = absurd (false≢true named)
exec_name command (b ∷ bytes) e named =
    ap (λ (c : List ℕ). asked (c ∷ (b ∷ bytes) ∷ [])) e ∙ exec_asked b bytes (not-true (b == 45) named)

two_words : (command file name : List ℕ) (t : Bool) → (bytes_eq command (codes "exec") && is_name file) ≡ t → cond t (Some file) None ≡ Some name
    → asked (command ∷ file ∷ []) ≡ Some (exec (name ∷ []) usual_options)
two_words command file name false e f = let no : None ≡ Some name = f in absurd cc
two_words command file name true e f =
    let parts = both (bytes_eq command (codes "exec")) (is_name file) e in
    exec_name command file ((bytes_eq-Decides command (codes "exec")).0 parts.0) parts.1 ∙ ap (λ (n : List ℕ). Some (exec (n ∷ []) usual_options)) (some_same file name f)

-- words that name a file ask for its run within the usual limits
pub exec_words : (words : List (List ℕ)) (name : List ℕ) → file_of words ≡ Some name → asked words ≡ Some (exec (name ∷ []) usual_options)
exec_words [] name e = absurd cc
exec_words (command ∷ []) name e = absurd cc
exec_words (command ∷ file ∷ []) name e = two_words command file name (bytes_eq command (codes "exec") && is_name file) refl e
exec_words (command ∷ file ∷ more ∷ words) name e = absurd cc

-- when status 2 comes, by what the words ask for
pub record UsageAsked (call : Call) (status : ℕ) : Type 0 where
  pub only : status ≡ 2 → asked call.words ≡ None
  pub always : asked call.words ≡ None → (status ≡ 2) ⊎ ((status ≡ 5) ⊎ ((status ≡ 4) × CountRose call.err.faults))

-- and so by the sentences
pub by_sentences : (call : Call) (status : ℕ) → AreTexts call.words → UsageAsked call status → UsageByWords call status
by_sentences call status texts u = record {
  only = λ e order r. some_none order (sym (reads_asked call.words order r) ∙ u.only e);
  always = λ none. go none (asked call.words) refl;
}
  where
    go : ((order : Order) → Reads call.words order → ⊥) → (o : Option Order) → asked call.words ≡ o → (status ≡ 2) ⊎ ((status ≡ 5) ⊎ ((status ≡ 4) × CountRose call.err.faults))
    go none None e = u.always e
    go none (Some order) e = absurd (none order (asked_reads call.words order texts e))

-- such words ask for nothing else
module _ (call : Call) (status : ℕ) (order : Order) (asks : asked call.words ≡ Some order) where
  pub usage_never : (status ≡ 2 → ⊥) → UsageAsked call status
  usage_never other = record { only = λ e. absurd (other e); always = λ none. absurd (some_none order (sym asks ∙ none)) }

pub exec_runs_none : (call : Call) (status : ℕ) (files : List (List ℕ)) (options : Options) → asked call.words ≡ Some (exec files options) → IsRunComplete call status
exec_runs_none call status files options asks name others i schedule given run_asked ready calm =
    let same : exec files options ≡ run name others = some_same (exec files options) (run name others) (sym asks ∙ run_asked) in absurd cc

pub exec_dumps_none : (call : Call) (status : ℕ) (files : List (List ℕ)) (options : Options) → asked call.words ≡ Some (exec files options) → IsDumpComplete call status
exec_dumps_none call status files options asks name i bytes dump_asked held read calm =
    let same : exec files options ≡ dump name = some_same (exec files options) (dump name) (sym asks ∙ dump_asked) in absurd cc

pub exec_builds_none : (call : Call) (status : ℕ) (files : List (List ℕ)) (options : Options) → asked call.words ≡ Some (exec files options) → IsBuildComplete call status
exec_builds_none call status files options asks held image name text puts build_asked h g short p calm store =
    let same : exec files options ≡ build image (name ∷ []) = some_same (exec files options) (build image (name ∷ [])) (sym asks ∙ build_asked) in absurd cc

-- ---- any other command

module _ (call : Call) (status : ℕ) where
  pub usage_of : Commands ByChecker call.words call.shelf call.out call.err call.image status → UsageAsked call status
  usage_of (usage told none s p (inl h)) = record { only = λ e. none; always = λ a. inl h.0 }
  usage_of (usage told none s p (inr h)) = record { only = λ e. none; always = λ a. inr (inr h) }
  usage_of (no_words told s p (inl h)) = record { only = λ e. (let five = h.0 in absurd (omega arith)); always = λ a. inr (inl h.0) }
  usage_of (no_words told s p (inr h)) = record { only = λ e. (let four = h.0 in absurd (omega arith)); always = λ a. inr (inr h) }
  usage_of (carried_out order result told asks h t) =
      usage_never call told order asks (λ e. never_usage ByChecker order call.shelf call.out call.err call.image result told h t e)

ran_told : (call : Call) (status : ℕ) (i : Image) (setting : Setting) (tells : Bool) (result : Result Answer Refusal) → MatchResult result (λ a. Ended i setting tells call.out a.status a.line.items) (CutsShort call.out)
    → Tells call.err result status → IsCalm call → RanImage call i setting tells status ⊎ RanOut call status
ran_told call status i setting tells (Ok a) h (inl t) calm =
    inl (a.line.items, subst (λ (s : ℕ). Ended i setting tells call.out s a.line.items) (sym t.0) h, t.1)
ran_told call status i setting tells (Ok a) h (inr t) calm = absurd (calm.err t.1)
ran_told call status i setting tells (Err r) h (inl t) calm = inr (t.0 ∙ h.0.status, h.1)
ran_told call status i setting tells (Err r) h (inr t) calm = absurd (calm.err t.1)

dumped_told : (call : Call) (status : ℕ) (i : Image) (result : Result Answer Refusal)
    → MatchResult result (λ a. (a.status ≡ 0) × (a.line.items ≡ []) × ((text : List ℕ) × IsDump i text × Took call.out.taken text)) (CutsShort call.out)
    → Tells call.err result status → IsCalm call → DumpedImage call i status ⊎ RanOut call status
dumped_told call status i (Ok a) h (inl t) calm =
    inl (h.2.0, t.0 ∙ h.0, h.2.1, h.2.2, subst (λ (line : List ℕ). Took call.err.taken line) h.1 t.1)
dumped_told call status i (Ok a) h (inr t) calm = absurd (calm.err t.1)
dumped_told call status i (Err r) h (inl t) calm = inr (t.0 ∙ h.0.status, h.1)
dumped_told call status i (Err r) h (inr t) calm = absurd (calm.err t.1)

fulfilled_as : (call : Call) (order other : Order) (result : Result Answer Refusal) → asked call.words ≡ Some order → asked call.words ≡ Some other
    → Fulfils ByChecker order call.shelf call.out call.image result → Fulfils ByChecker other call.shelf call.out call.image result
fulfilled_as call order other result a b h = subst (λ (o : Order). Fulfils ByChecker o call.shelf call.out call.image result) (some_same order other (sym a ∙ b)) h

pub run_of : (call : Call) (status : ℕ) → Commands ByChecker call.words call.shelf call.out call.err call.image status → IsRunComplete call status
run_of call status (usage told none s p says) name options i schedule given asks ready calm = absurd (some_none (run name options) (sym asks ∙ none))
run_of call status (no_words told s p (inl h)) name options i schedule given asks ready calm = inr (h.0, p)
run_of call status (no_words told s p (inr h)) name options i schedule given asks ready calm = absurd (calm.err h.1)
run_of call status (carried_out order result told ordered h t) name options i schedule given asks ready calm =
    let runs = fulfilled_as call order (run name options) result ordered asks h in
    ran_told call told i (by_schedule (on_input (within options.bounds) given) schedule) (is_some options.switches) result
    (runs_whole call.shelf call.out name options.switches options.input (within options.bounds) call.image result runs i schedule given ready calm.shelf calm.out) t calm

pub dump_of : (call : Call) (status : ℕ) → Commands ByChecker call.words call.shelf call.out call.err call.image status → IsDumpComplete call status
dump_of call status (usage told none s p says) name i bytes asks held read calm = absurd (some_none (dump name) (sym asks ∙ none))
dump_of call status (no_words told s p (inl h)) name i bytes asks held read calm = inr (h.0, p)
dump_of call status (no_words told s p (inr h)) name i bytes asks held read calm = absurd (calm.err h.1)
dump_of call status (carried_out order result told ordered h t) name i bytes asks held read calm =
    let dumps = fulfilled_as call order (dump name) result ordered asks h in
    dumped_told call told i result (dumps_whole call.shelf call.out name call.image result dumps i bytes held read calm.shelf calm.out) t calm

-- the same words
pub commands_of : (words given : List (List ℕ)) (shelf : Shelving) (out err : Putting) (image : List ℕ) (status : ℕ) → given ≡ words → Commands ByChecker given shelf out err image status → Commands ByChecker words shelf out err image status
commands_of words given shelf out err image status e h = subst (λ (w : List (List ℕ)). Commands ByChecker w shelf out err image status) e h
