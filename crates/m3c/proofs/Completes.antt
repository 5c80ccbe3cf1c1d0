-- Completeness follows from the table.
use Rattle.std.proofs.Common.{◌≡◌, ℕ, ◌<◌, ◌≤◌, ◌==◌, ◌||◌, Bool, true, false, List, [], ◌∷◌, length, codes, Option, None, Some, refl, sym, ap, ◌∙◌, subst, inl, inr, ◌⊎◌, arith}
use Rattle.std.specs.Prelude.{IfSome, IsSomeAnd, IsTrue, Result}
use Rattle.std.specs.List.{list_any}
use Rattle.std.specs.FinMap.{get}
use Rattle.std.proofs.lemmas.Bool.{false≢true}
use Rattle.std.proofs.lemmas.Bool.Decides.{nat_tests}
use Rattle.m3_base.specs.declared.outcomes.FaultKind.TheVariants.{Overflow}
use Rattle.m3_base.specs.declared.outcomes.Outcome.{Outcome}
use Rattle.m3_base.specs.declared.outcomes.Outcome.TheVariants.{Done, Fault}
use Rattle.m3_ports.specs.Files.{Files, IsNotHeld, IsHeldOver}
use Rattle.m3_plain.specs.Terms.{Term, outcome_of}
use Rattle.m3_plain.specs.PlainForm.{IsPlain}
use Rattle.m3c_words.specs.Orders.{exec}
use Rattle.m3c_words.specs.Asked.{usual_options}
use Rattle.m3c_image_commands.specs.declared.answers.Answer.{Answer}
use Rattle.m3c_image_commands.specs.declared.answers.Refusal.{Refusal}
use Rattle.m3c_image_commands.specs.Statuses.{CountRose, Tells, Took}
use Rattle.m3c_image_commands.specs.Reports.{end_status}
use Rattle.m3c_source_commands.specs.Judging.{ByChecker}
use Rattle.m3c_source_commands.specs.Orders.{Commands, Fulfils}
use Rattle.m3c_source_commands.proofs.UsageLemmas.{never_usage}
use Rattle.m3c.specs.Command.{Call, IsSilent, IsRead, Ran, Answers, AnswersOther, IsComplete, NotPlainText, PutFailed, of_words, of_text, IsOther, file_of, Promises, file_cap}
use Rattle.m3c.proofs.Rows.{row_no_memory, row_write_fault}
use Rattle.m3c.proofs.Builds.{build_of}
use Rattle.m3c_words_laws.specs.Reads.{AreTexts}
use Rattle.m3c.proofs.ByWords.{by_sentences, dump_of, exec_builds_none, exec_dumps_none, exec_runs_none, exec_words, run_of, usage_never, usage_of}

or_parts : (a b : Bool) → (a || b) ≡ true → (a ≡ true) ⊎ (b ≡ true)
or_parts true b e = inl refl
or_parts false b e = inr e

same_number : (a b : ℕ) → (a == b) ≡ true → b ≡ a
same_number a b e = grind (arith, nat_tests)

some_same : {A : Type 0} (x y : A) → Some x ≡ Some y → x ≡ y
some_same x y e = cc

some_none : {A : Type 0} (x : A) → Some x ≡ None → ⊥
some_none x e = cc

held_text : (told : Option Files) (files : Files) (name text : List ℕ) → told ≡ Some files → IfSome told (λ f. get f name ≡ Some text) → get files name ≡ Some text
held_text told files name text e h = subst (λ o. IfSome o (λ f. get f name ≡ Some text)) e h

same_text : (call : Call) (files : Files) (name text name' text' : List ℕ) → call.file ≡ Some name → call.shelf.held.0 ≡ Some files → get files name ≡ Some text → IsRead call name' text' → text ≡ text'
same_text call files name text name' text' f h g r =
    let n : name' ≡ name = some_same name' name (sym r.named ∙ f) in
    let g' = held_text call.shelf.held.0 files name' text' h r.held in
    some_same text text' (sym g ∙ ap (λ x. get files x) (sym n) ∙ g')

same_run : (call : Call) (files : Files) (name text : List ℕ) (puts : List Term) (outcome : Outcome) → call.file ≡ Some name → call.shelf.held.0 ≡ Some files → get files name ≡ Some text → IsPlain text puts → Ran call outcome → outcome ≡ outcome_of puts
same_run call files name text puts outcome f h g p r =
    let t = same_text call files name text r.name r.text f h g r.read in
    sym r.ends ∙ ap outcome_of (sym (r.only puts (subst (λ x. IsPlain x puts) t p)))

module _ (call : Call) (status : ℕ) (table : Answers call status) (files : Files) (name text : List ℕ) (puts : List Term) (f : call.file ≡ Some name) (h : call.shelf.held.0 ≡ Some files) (g : get files name ≡ Some text) (short : length text ≤ file_cap) (p : IsPlain text puts) (no_fault : CountRose call.shelf.faults → ⊥) (no_out : CountRose call.out.faults → ⊥) (no_err : CountRose call.err.faults → ⊥) where
  abbrev Complete : Type 0
  Complete = ((status ≡ end_status (outcome_of puts)) × Ran call (outcome_of puts)) ⊎ ((status ≡ 5) × IsSilent call)

  at_0 : status ≡ 0 → Complete
  at_0 e =
      let r = table.done e in
      let o = same_run call files name text puts Done f h g p r in
      inl (e ∙ ap end_status o, subst (λ x. Ran call x) o r)

  at_10 : status ≡ 10 → Complete
  at_10 e =
      let r = table.fault e in
      let o = same_run call files name text puts (Fault Overflow 0 r.0) f h g p r.1 in
      inl (e ∙ ap end_status o, subst (λ x. Ran call x) o r.1)

  at_4 : status ≡ 4 → Complete
  at_4 e = absurd (no_rise (table.write_fault e))
    where
      no_rise : PutFailed call ⊎ CountRose call.err.faults → ⊥
      no_rise (inl r) = no_out r.rose
      no_rise (inr r) = no_err r

  at_6 : status ≡ 6 → Complete
  at_6 e =
      let a = table.absent e in
      let n : a.name ≡ name = some_same a.name name (sym a.named ∙ f) in
      let free : IsNotHeld files a.name = subst (λ o. IfSome o (λ x. IsNotHeld x a.name)) h a.holds.1 in
      absurd (some_none text (sym g ∙ ap (λ x. get files x) (sym n) ∙ free))

  at_7 : status ≡ 7 → Complete
  at_7 e =
      let a = table.too_long e in
      let n : a.name ≡ name = some_same a.name name (sym a.named ∙ f) in
      let over : IsHeldOver files a.name file_cap = subst (λ o. IfSome o (λ x. IsHeldOver x a.name file_cap)) h a.holds.1 in
      let over' : IsSomeAnd (Some text) (λ bytes. file_cap < length bytes) = subst (λ o. IsSomeAnd o (λ bytes. file_cap < length bytes)) (ap (λ x. get files x) n ∙ g) over in
      absurd (omega (arith, over', short))

  complete : Complete
  complete =
      split (0 == status) _ (λ e. at_0 (same_number 0 status e)) (λ r.
      split (3 == status) _ (λ e. let a = table.read_fault (same_number 3 status e) in absurd (no_fault a.holds)) (λ r.
      split (4 == status) _ (λ e. at_4 (same_number 4 status e)) (λ r.
      split (5 == status) _ (λ e. let n = table.no_memory (same_number 5 status e) in inr (same_number 5 status e, n.0)) (λ r.
      split (6 == status) _ (λ e. at_6 (same_number 6 status e)) (λ r.
      split (7 == status) _ (λ e. at_7 (same_number 7 status e)) (λ r.
      split (10 == status) _ (λ e. at_10 (same_number 10 status e)) (λ r. absurd (false≢true r)) r) r) r) r) r) r) table.known
    where
      split : (a b : Bool) → (a ≡ true → Complete) → (b ≡ true → Complete) → (a || b) ≡ true → Complete
      split a b x y e = elim (or_parts a b e) [ inl t ↦ x t | inr t ↦ y t ]

-- each status of the table is another than that of words that ask for nothing
known_other : (call : Call) (status : ℕ) → Answers call status → status ≡ 2 → ⊥
known_other call status table e =
    let known : IsTrue (list_any (λ s. s == 2) (0 ∷ 3 ∷ 4 ∷ 5 ∷ 6 ∷ 7 ∷ 10 ∷ [])) = subst (λ (n : ℕ). IsTrue (list_any (λ s. s == n) (0 ∷ 3 ∷ 4 ∷ 5 ∷ 6 ∷ 7 ∷ 10 ∷ []))) e table.known in
    false≢true known

pub promised : (call : Call) (status : ℕ) (name : List ℕ) → AreTexts call.words → file_of call.words ≡ Some name → Answers call status → Promises call status
promised call status name texts named table =
    let asks = exec_words call.words name named in
    record {
      table = inl table;
      usage = by_sentences call status texts (usage_never call status _ asks (known_other call status table));
      complete = λ files name text puts f h g short p a b c. complete call status table files name text puts f h g short p a b c;
      run_complete = exec_runs_none call status _ _ asks;
      dump_complete = exec_dumps_none call status _ _ asks;
      build_complete = exec_builds_none call status _ _ asks;
    }

-- another command says nothing of the plain form
not_plain : (call : Call) (files : Files) (name text : List ℕ) (puts : List Term) → call.file ≡ Some name → call.shelf.held.0 ≡ Some files → get files name ≡ Some text → IsPlain text puts → IsOther call.file call.shelf.held.0 → ⊥
not_plain call files name text puts f h g p (inl none) = some_none name (sym f ∙ none)
not_plain call files name text puts f h g p (inr n) =
    let same : text ≡ n.text = same_text call files name text n.name n.text f h g (record { named = n.named; short = n.short; held = n.told }) in
    n.other puts (subst (λ x. IsPlain x puts) same p)

is_other : (call : Call) (status : ℕ) → AnswersOther call status → IsOther call.file call.shelf.held.0
is_other call status (of_words s none commands) = inl none
is_other call status (of_text name s result named text carried told) = inr text

other_complete : (call : Call) (status : ℕ) → AnswersOther call status → IsComplete call status
other_complete call status answers files name text puts f h g short p a b c = absurd (not_plain call files name text puts f h g p (is_other call status answers))

pub text_promised_by : (call : Call) (status : ℕ) (name : List ℕ) (result : Result Answer Refusal) → AreTexts call.words → file_of call.words ≡ Some name → call.file ≡ Some name → NotPlainText call.file call.shelf.held.0
    → Fulfils ByChecker (exec (name ∷ []) usual_options) call.shelf call.out call.image result → Tells call.err result status → Promises call status
text_promised_by call status name result texts words named text carried told =
    let asks = exec_words call.words name words in
    let answers : AnswersOther call status = of_text name status result named text carried told in
    record {
      table = inr answers;
      usage = by_sentences call status texts (usage_never call status _ asks (λ e. never_usage ByChecker (exec (name ∷ []) usual_options) call.shelf call.out call.err call.image result status carried told e));
      complete = other_complete call status answers;
      run_complete = exec_runs_none call status _ _ asks;
      dump_complete = exec_dumps_none call status _ _ asks;
      build_complete = exec_builds_none call status _ _ asks;
    }

pub words_promised : (call : Call) (status : ℕ) → AreTexts call.words → call.file ≡ None → Commands ByChecker call.words call.shelf call.out call.err call.image status → Promises call status
words_promised call status texts none commands =
    let answers : AnswersOther call status = of_words status none commands in
    record {
      table = inr answers;
      usage = by_sentences call status texts (usage_of call status commands);
      complete = other_complete call status answers;
      run_complete = run_of call status commands;
      dump_complete = dump_of call status commands;
      build_complete = build_of call status commands;
    }

-- memory ran out before anything was done
pub memory_promised : (call : Call) (status : ℕ) (name : List ℕ) → AreTexts call.words → file_of call.words ≡ Some name → IsSilent call → ((status ≡ 5) × Took call.err.taken (codes "out of memory\n")) ⊎ ((status ≡ 4) × CountRose call.err.faults)
    → Promises call status
memory_promised call status name texts named silent (inl t) = promised call status name texts named (subst (λ (s : ℕ). Answers call s) (sym t.0) (row_no_memory call (silent, t.1)))
memory_promised call status name texts named silent (inr t) = promised call status name texts named (subst (λ (s : ℕ). Answers call s) (sym t.0) (row_write_fault call (inr t.1)))
