-- `exec FILE` without options: what its file holds decides which rows say what it answers.
use Rattle.std.proofs.Common.{◌≡◌, ◌∙◌, ◌⊎◌, ℕ, false, List, [], ◌∷◌, ◌++◌, Option, None, Some, refl, sym, ap, subst, inl, inr, map, codes}
use Rattle.std.specs.Prelude.{Result, Ok, Err}
use Rattle.m3_base.specs.Schedules.{IsSchedule, lines_of}
use Rattle.m3_base.specs.declared.outcomes.Entry.{Entry}
use Rattle.m3_image.specs.Images.{read_of}
use Rattle.m3_image_sections.specs.Parts.{Image}
use Rattle.m3_image_sections.specs.declared.refusal.ImageRefusal.{ImageRefusal}
use Rattle.m3_plain_image.specs.Image.{plain_image}
use Rattle.m3_ports.specs.Files.{Files}
use Rattle.std.specs.Prelude.{String, string_bytes}
use Rattle.std.proofs.lemmas.Str.{IsUtf8-string_bytes}
use Rattle.m3c_words_laws.specs.Reads.{AreTexts}
use Rattle.m3c_words.specs.Orders.{Order, exec}
use Rattle.m3c_words.specs.Asked.{usual_options}
use Rattle.m3c_image_commands.specs.declared.answers.Answer.{Answer}
use Rattle.m3c_image_commands.specs.declared.answers.Refusal.{Refusal}
use Rattle.m3c_image_commands.specs.Statuses.{Shelving, Putting, StoresNothing, Only, Refuses, Unfetched, read_fault, no_memory, absent, too_long, Says, Tells}
use Rattle.m3c_image_commands.specs.ImageCommands.{by_schedule, on_input}
use Rattle.m3c_image_commands.specs.Reports.{Ended, RanAsFar}
use Rattle.m3c_source_commands.specs.Judging.{ByChecker}
use Rattle.m3c_source_commands.specs.Orders.{Commands, usage, no_words, carried_out, Fulfils, usual_setting}
use Rattle.m3c_image_commands.specs.Refusals.{IsScheduleLine}
use Rattle.m3c_source_commands.specs.SourceCommands.{AreTextsOf, ExecAnswer, not_run, no_schedule, run_ended, IsImageOf, IsNotPlain, IsPlainImage, OfExec, TextsRanAsFar}
use Rattle.m3c_source_commands.proofs.OrderLemmas.{is_schedule}
use Rattle.m3c.specs.Command.{Call, CountRose, IsRead, Answers, NotPlainText, PutFailed, Promises, file_of, file_cap}
use Rattle.m3c.proofs.Texts.{HasText, head_same, one_text, only_file}
use Rattle.m3c.proofs.Rows.{row_fetch, row_memory, row_put, row_run}
use Rattle.m3c.proofs.ByWords.{exec_words, some_same, some_none}
use Rattle.m3c.proofs.Completes.{memory_promised, promised, text_promised_by, words_promised}

-- ---- the text of the only file

text_as : (held : Option Files) (name name' text text' : List ℕ) → name ≡ name' → text ≡ text' → HasText held name text → HasText held name' text'
text_as held name name' text text' n t h = subst (λ (x : List ℕ). HasText held x text') n (subst (λ (x : List ℕ). HasText held name x) t h)

not_plain : (file : Option (List ℕ)) (held : Option Files) (name text : List ℕ) (texts : List (List ℕ)) → file ≡ Some name → texts ≡ text ∷ [] → HasText held name text → IsNotPlain (name ∷ []) texts → NotPlainText file held
not_plain file held name text texts named is has other =
    record { name = name; text = text; named = named; short = has.short; told = has.told; other = λ puts p. other name text puts refl is p }

-- ---- its run

none_said : (schedule : List Entry) → IsSchedule [] schedule → schedule ≡ []
unfolding lines_of
none_said [] h = refl
none_said (entry ∷ schedule) h = let said = h.said in absurd (cc)

no_entries : (text : List ℕ) (schedule : List Entry) → text ≡ [] → IsSchedule text schedule → schedule ≡ []
no_entries text schedule e h = none_said schedule (subst (λ (t : List ℕ). IsSchedule t schedule) e h)

same_image : (i j : Image) (bytes : List ℕ) → read_of bytes ≡ Ok i → read_of bytes ≡ Ok j → i ≡ j
same_image i j bytes a b = let both : ◌≡◌ {A = Result Image ImageRefusal} (Ok i) (Ok j) = sym a ∙ b in cc

as_usual : (i j : Image) (schedule : List Entry) (input : List ℕ) (out : Putting) (status : ℕ) (line : List ℕ) → i ≡ j → schedule ≡ [] → input ≡ [] → Ended i (by_schedule (on_input usual_setting input) schedule) false out status line → Ended j usual_setting false out status line
as_usual i j schedule input out status line e s b h =
    subst (λ (x : Image). Ended x usual_setting false out status line) e
    (subst (λ (xs : List Entry). Ended i (by_schedule usual_setting xs) false out status line) s
    (subst (λ (x : List ℕ). Ended i (by_schedule (on_input usual_setting x) schedule) false out status line) b h))

module _ (call : Call) (name : List ℕ) (named : call.file ≡ Some name) where
  plain_row : (texts : List (List ℕ)) (text : List ℕ) → texts ≡ text ∷ [] → HasText call.shelf.held.0 name text → IsPlainImage (name ∷ []) texts call.image
      → (i : Image) (status told : ℕ) (line : List ℕ) → read_of call.image ≡ Ok i → Ended i usual_setting false call.out status line → Says call.err status line told → Answers call told
  plain_row texts text is has image i status told line read ended says =
      let p = image.program in
      let same : name ≡ image.name = head_same name image.name p.file in
      let t : text ≡ p.text = head_same text p.text (sym is ∙ p.source) in
      let h : HasText call.shelf.held.0 image.name p.text = text_as call.shelf.held.0 name image.name text p.text same t has in
      let r : IsRead call image.name p.text = record { named = named ∙ ap Some same; short = h.short; held = h.told } in
      row_run call image.name p.text image.puts r p.plain p.only image.bytes status told line
      (as_usual i (plain_image image.name image.puts) [] [] call.out status line (same_image i (plain_image image.name image.puts) call.image read image.bytes) refl refl ended) says

  answer_row : (texts : List (List ℕ)) (switches bytes : List ℕ) (status told : ℕ) (line : List ℕ) → AreTextsOf call.shelf.held.0 (name ∷ []) texts → switches ≡ [] → bytes ≡ []
      → ExecAnswer ByChecker (name ∷ []) texts call.image switches (IsSchedule switches) (on_input usual_setting bytes) false call.out status line → Says call.err status line told
      → Answers call told ⊎ NotPlainText call.file call.shelf.held.0
  answer_row texts switches bytes status told line read s b (not_run l other r p) says =
      let one = one_text call.shelf.held.0 name texts read in
      inr (not_plain call.file call.shelf.held.0 name one.0 texts named one.1 one.2 other)
  answer_row texts switches bytes status told line read s b (no_schedule n l accepted h) says = absurd (is_schedule l (subst (λ (x : List ℕ). IsScheduleLine x l) s h.1))
  answer_row texts switches bytes status told line read s b (run_ended i schedule n l (inl image) of may ended) says =
      let one = one_text call.shelf.held.0 name texts read in
      inl (plain_row texts one.0 one.1 one.2 image i n told l of (as_usual i i schedule bytes call.out n l refl (no_entries switches schedule s may) b ended) says)
  answer_row texts switches bytes status told line read s b (run_ended i schedule n l (inr others) of may ended) says =
      let one = one_text call.shelf.held.0 name texts read in
      inr (not_plain call.file call.shelf.held.0 name one.0 texts named one.1 one.2 others.0)

-- ---- a refusal

unfetched_only : (shelf : Shelving) (name : List ℕ) (status : ℕ) (front back : List ℕ) → Unfetched shelf (OfExec shelf.held.0 (name ∷ []) None None) status front back → Unfetched shelf (Only name file_cap) status front back
unfetched_only shelf name status front back (read_fault n c of rose) = read_fault n c (only_file shelf.held.0 name n c of) rose
unfetched_only shelf name status front back no_memory = no_memory
unfetched_only shelf name status front back (absent n c of rose free) = absent n c (only_file shelf.held.0 name n c of) rose free
unfetched_only shelf name status front back (too_long n c of rose over) = too_long n c (only_file shelf.held.0 name n c of) rose over

-- a put of the run failed
module _ (call : Call) (name : List ℕ) (named : call.file ≡ Some name) where
  plain_failed : (texts : List (List ℕ)) (text : List ℕ) → texts ≡ text ∷ [] → HasText call.shelf.held.0 name text → IsPlainImage (name ∷ []) texts call.image
      → (i : Image) → read_of call.image ≡ Ok i → RanAsFar i usual_setting call.out → CountRose call.out.faults → PutFailed call
  plain_failed texts text is has image i read far rose =
      let p = image.program in
      let same : name ≡ image.name = head_same name image.name p.file in
      let t : text ≡ p.text = head_same text p.text (sym is ∙ p.source) in
      let h : HasText call.shelf.held.0 image.name p.text = text_as call.shelf.held.0 name image.name text p.text same t has in
      record {
        rose = rose;
        name = image.name;
        text = p.text;
        read = record { named = named ∙ ap Some same; short = h.short; held = h.told };
        puts = image.puts;
        plain = p.plain;
        image = image.bytes;
        far = subst (λ (x : Image). RanAsFar x usual_setting call.out) (same_image i (plain_image image.name image.puts) call.image read image.bytes) far;
      }

  far_as_usual : (i : Image) (schedule : List Entry) (input : List ℕ) → schedule ≡ [] → input ≡ [] → RanAsFar i (by_schedule (on_input usual_setting input) schedule) call.out → RanAsFar i usual_setting call.out
  far_as_usual i schedule input s b h =
      subst (λ (xs : List Entry). RanAsFar i (by_schedule usual_setting xs) call.out) s
      (subst (λ (x : List ℕ). RanAsFar i (by_schedule (on_input usual_setting x) schedule) call.out) b h)

  failed_row : (texts : List (List ℕ)) (switches bytes : List ℕ) → AreTextsOf call.shelf.held.0 (name ∷ []) texts → switches ≡ [] → bytes ≡ []
      → TextsRanAsFar ByChecker (name ∷ []) texts call.image (IsSchedule switches) (on_input usual_setting bytes) call.out → CountRose call.out.faults → PutFailed call ⊎ NotPlainText call.file call.shelf.held.0
  failed_row texts switches bytes read s b far rose = go far.1
    where
      one : (text : List ℕ) × (texts ≡ text ∷ []) × HasText call.shelf.held.0 name text
      one = one_text call.shelf.held.0 name texts read

      go : IsImageOf ByChecker (name ∷ []) texts call.image → PutFailed call ⊎ NotPlainText call.file call.shelf.held.0
      go (inl image) = inl (plain_failed texts one.0 one.1 one.2 image far.3.0 far.3.1 (far_as_usual far.3.0 far.0 bytes (no_entries switches far.0 s far.2) b far.3.2) rose)
      go (inr others) = inr (not_plain call.file call.shelf.held.0 name one.0 texts named one.1 one.2 others.0)

-- ---- the command

module _ (call : Call) (name : List ℕ) (words : file_of call.words ≡ Some name) (named : call.file ≡ Some name) (texts : AreTexts call.words) (status : ℕ) where
  exec_promised : (result : Result Answer Refusal) → Fulfils ByChecker (exec (name ∷ []) usual_options) call.shelf call.out call.image result → Tells call.err result status → Promises call status
  exec_promised (Ok a) h told =
      let g = h.answer in
      elim (answer_row call name named g.0 g.2.0 g.2.1 a.status status a.line.items g.1 g.2.2 g.2.3 g.2.4 told) [
        | inl table ↦ promised call status name texts words table
        | inr text ↦ text_promised_by call status name (Ok a) texts words named text h told
      ]
  exec_promised (Err r) h told = go h.refusal
    where
      go : Refuses call.shelf (OfExec call.shelf.held.0 (name ∷ []) None None) call.out r → Promises call status
      go (inl u) = promised call status name texts words (row_fetch call name r status named u.1 (unfetched_only call.shelf name r.status r.front.now r.name.now u.0) told)
      go (inr (inl lacks)) = promised call status name texts words (row_memory call r status lacks.0 lacks.1 told)
      go (inr (inr failed)) =
          let f = h.cut failed.0.status in
          elim (failed_row call name named f.0 f.2.0 f.2.1 f.1 f.2.2 f.2.3 f.2.4 failed.1) [
            | inl put ↦ promised call status name texts words (row_put call r.status status (r.front.now ++ r.name.now ++ codes "\n") failed.0.status put told)
            | inr text ↦ text_promised_by call status name (Err r) texts words named text h told
          ]

  commanded : Commands ByChecker call.words call.shelf call.out call.err call.image status → Promises call status
  commanded (usage told none s p says) = absurd (some_none (exec (name ∷ []) usual_options) (sym (exec_words call.words name words) ∙ none))
  commanded (no_words told s p says) = memory_promised call told name texts words p says
  commanded (carried_out order result told asks h t) =
      let is : order ≡ exec (name ∷ []) usual_options = some_same order (exec (name ∷ []) usual_options) (sym asks ∙ exec_words call.words name words) in
      exec_promised result (subst (λ (o : Order). Fulfils ByChecker o call.shelf call.out call.image result) is h) t

-- what the words say
pub command_promised : (call : Call) (status : ℕ) → AreTexts call.words → call.file ≡ file_of call.words → Commands ByChecker call.words call.shelf call.out call.err call.image status → Promises call status
command_promised call status texts is commands = go (file_of call.words) refl
  where
    go : (o : Option (List ℕ)) → file_of call.words ≡ o → Promises call status
    go None e = words_promised call status texts (is ∙ e) commands
    go (Some name) e = commanded call name e (is ∙ e) texts status commands

-- the words of a program are texts
pub are_texts : {Z : Type 0} (words : List (String Z)) → AreTexts (map string_bytes words)
are_texts [] = tt
are_texts (word ∷ words) = (IsUtf8-string_bytes word, are_texts words)

-- `exec FILE` stores nothing
exec_stays : (words : List (List ℕ)) (shelf : Shelving) (out err : Putting) (image name : List ℕ) (status : ℕ) → file_of words ≡ Some name → Commands ByChecker words shelf out err image status → StoresNothing shelf
exec_stays words shelf out err image name status e (usage told none s p says) = s
exec_stays words shelf out err image name status e (no_words told s p says) = s
exec_stays words shelf out err image name status e (carried_out order result told asks h t) =
    let is : order ≡ exec (name ∷ []) usual_options = some_same order (exec (name ∷ []) usual_options) (sym asks ∙ exec_words words name e) in
    (subst (λ (o : Order). Fulfils ByChecker o shelf out image result) is h).held

pub stays : (words : List (List ℕ)) (shelf : Shelving) (out err : Putting) (image : List ℕ) (status : ℕ) → Commands ByChecker words shelf out err image status → (file_of words ≡ None) ⊎ StoresNothing shelf
stays words shelf out err image status commands = go (file_of words) refl
  where
    go : (o : Option (List ℕ)) → file_of words ≡ o → (file_of words ≡ None) ⊎ StoresNothing shelf
    go None e = inl e
    go (Some name) e = inr (exec_stays words shelf out err image name status e commands)
