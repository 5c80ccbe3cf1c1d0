-- `run` and `dump` of files that are held are complete.
use Rattle.std.proofs.Common.{◌≡◌, ◌∙◌, ◌<◌, ◌+◌, ◌⊎◌, ℕ, Bool, List, [], ◌∷◌, ◌++◌, length, map, Option, None, Some, refl, sym, ap, subst, inl, inr, arith, codes, length-append}
use Rattle.std.specs.Prelude.{Result, Ok, Err, IfSome, IsOk, IsSomeAnd, is_some}
use Rattle.std.specs.FinMap.{get}
use Rattle.std.proofs.lemmas.List.{length-map}
use Rattle.m3_ports.specs.Files.{Files, IsNotHeld, IsHeldOver}
use Rattle.m3_base.specs.Schedules.{IsSchedule, entry_in, lines_of}
use Rattle.m3_base.specs.declared.outcomes.Entry.{Entry}
use Rattle.m3_image.specs.Images.{read_of}
use Rattle.m3_image_sections.specs.Parts.{Image}
use Rattle.m3_image_dump.specs.Texts.{IsDump}
use Rattle.m3_image_sections.specs.declared.refusal.ImageRefusal.{ImageRefusal}
use Rattle.m3c_image_commands.specs.declared.answers.Answer.{Answer}
use Rattle.m3c_image_commands.specs.declared.answers.Refusal.{Refusal}
use Rattle.m3c_image_commands.specs.Statuses.{Shelving, Putting, CountRose, PutsNothing, Took, IsRead, IsGiven, Unfetched, read_fault, no_memory, absent, too_long, Only, OfOptions, Refuses, image_cap, file_cap}
use Rattle.m3c_image_commands.specs.Reports.{Setting, Ended}
use Rattle.m3c_image_commands.specs.ImageCommands.{by_schedule, on_input, ImageAnswer, image_refused, ended, RunAnswer, OfRun, Runs, DumpAnswer, not_dumped, dumped, CutsDump, no_memory as no_more, not_put, Dumps}
use Rattle.m3c_image_commands.specs.Refusals.{IsScheduleLine, of_bad_line, of_too_many}
use Rattle.m3c_image_commands.specs.Complete.{IsHeld, IsHeldIfNamed, HoldsAll, CutsShort, RunsWhole, DumpsWhole}

some_same : {A : Type 0} (x y : A) → Some x ≡ Some y → x ≡ y
some_same x y e = cc

-- ---- a file that is held

held_read : (held : Option Files) (name : List ℕ) (cap : ℕ) (bytes read : List ℕ) → IsHeld held name cap bytes → IfSome held (λ files. get files name ≡ Some read) → read ≡ bytes
held_read held name cap bytes read h r =
    some_same read bytes (sym (subst (λ (o : Option Files). IfSome o (λ files. get files name ≡ Some read)) h.told r) ∙ h.stored)

named_read : (held : Option Files) (name : Option (List ℕ)) (bytes read : List ℕ) → IsHeldIfNamed held name bytes → IsGiven held name read → read ≡ bytes
named_read held None bytes read h r = r ∙ sym h
named_read held (Some name) bytes read h r = held_read held name file_cap bytes read h r.1

is_held : (held : Option Files) (name : List ℕ) (cap : ℕ) (bytes : List ℕ) → IsHeld held name cap bytes → IfSome held (λ files. IsNotHeld files name) → ⊥
is_held held name cap bytes h free =
    let none : get h.files name ≡ None = subst (λ (o : Option Files). IfSome o (λ files. IsNotHeld files name)) h.told free in
    let both : Some bytes ≡ None = sym h.stored ∙ none in
    absurd cc

is_short : (held : Option Files) (name : List ℕ) (cap : ℕ) (bytes : List ℕ) → IsHeld held name cap bytes → IfSome held (λ files. IsHeldOver files name cap) → ⊥
is_short held name cap bytes h over =
    let more : IsHeldOver h.files name cap = subst (λ (o : Option Files). IfSome o (λ files. IsHeldOver files name cap)) h.told over in
    let much : cap < length bytes = subst (λ (o : Option (List ℕ)). IsSomeAnd o (λ all. cap < length all)) h.stored more in
    let few = h.short in
    omega arith

-- each of the files that a command reads is held within its cap
abbrev AllHeld : Option Files → (List ℕ → ℕ → Type 0) → Type 0
AllHeld held Reads = (name : List ℕ) (cap : ℕ) → Reads name cap → (bytes : List ℕ) × IsHeld held name cap bytes

named_held : (held : Option Files) (named : Option (List ℕ)) (bytes name : List ℕ) → IsHeldIfNamed held named bytes → named ≡ Some name → IsHeld held name file_cap bytes
named_held held None bytes name h e = absurd cc
named_held held (Some n) bytes name h e = subst (λ (x : List ℕ). IsHeld held x file_cap bytes) (some_same n name e) h

at_cap : (held : Option Files) (name : List ℕ) (cap cap' : ℕ) (bytes : List ℕ) → cap' ≡ cap → IsHeld held name cap bytes → IsHeld held name cap' bytes
at_cap held name cap cap' bytes e h = subst (λ (c : ℕ). IsHeld held name c bytes) (sym e) h

only_held : (held : Option Files) (name bytes : List ℕ) → IsHeld held name image_cap bytes → AllHeld held (Only name image_cap)
only_held held name bytes h n c o = (bytes, at_cap held n image_cap c bytes o.1 (subst (λ (x : List ℕ). IsHeld held x image_cap bytes) (sym o.0) h))

options_held : (held : Option Files) (switches input : Option (List ℕ)) (text given : List ℕ) → IsHeldIfNamed held switches text → IsHeldIfNamed held input given → AllHeld held (OfOptions held switches input)
options_held held switches input text given s g n c (inl o) = (text, at_cap held n file_cap c text o.1 (named_held held switches text n s o.0))
options_held held switches input text given s g n c (inr o) = (given, at_cap held n file_cap c given o.1.1 (named_held held input given n g o.1.0))

run_held : (held : Option Files) (name : List ℕ) (switches input : Option (List ℕ)) (i : Image) (schedule : List Entry) (given : List ℕ) → HoldsAll held name switches input i schedule given → AllHeld held (OfRun held name switches input)
run_held held name switches input i schedule given r n c (inl o) = only_held held name r.bytes r.image n c o
run_held held name switches input i schedule given r n c (inr o) = options_held held switches input r.text given r.of_switches r.of_input n c o.1

-- where they are held and no fault comes, only memory can be wanting
abbrev SaysMemory : ℕ → List ℕ → List ℕ → Type 0
SaysMemory status front name = (status ≡ 5) × (front ≡ codes "out of memory") × (name ≡ [])

fetched_or_memory : (shelf : Shelving) (Reads : List ℕ → ℕ → Type 0) (status : ℕ) (front name : List ℕ) → AllHeld shelf.held.0 Reads → (CountRose shelf.faults → ⊥)
    → Unfetched shelf Reads status front name → SaysMemory status front name
fetched_or_memory shelf Reads status front name held calm (read_fault n cap of rose) = absurd (calm rose)
fetched_or_memory shelf Reads status front name held calm no_memory = (refl, refl, refl)
fetched_or_memory shelf Reads status front name held calm (absent n cap of rose free) = let h = held n cap of in absurd (is_held shelf.held.0 n cap h.0 h.1 free)
fetched_or_memory shelf Reads status front name held calm (too_long n cap of rose over) = let h = held n cap of in absurd (is_short shelf.held.0 n cap h.0 h.1 over)

refused_short : (shelf : Shelving) (Reads : List ℕ → ℕ → Type 0) (out : Putting) (r : Refusal) → AllHeld shelf.held.0 Reads → (CountRose shelf.faults → ⊥) → (CountRose out.faults → ⊥)
    → Refuses shelf Reads out r → CutsShort out r
refused_short shelf Reads out r held calm quiet (inl u) =
    let m = fetched_or_memory shelf Reads r.status r.front.now r.name.now held calm u.0 in
    (record { status = m.0; front = m.1; name = m.2 }, u.1)
refused_short shelf Reads out r held calm quiet (inr (inl m)) = m
refused_short shelf Reads out r held calm quiet (inr (inr o)) = absurd (quiet o.1)

-- ---- switches that are a schedule

said_past : (good rest : List (List ℕ)) (bad : List ℕ) (entries : List Entry) → map entry_in (good ++ bad ∷ rest) ≡ map (λ e. Some e) entries → entry_in bad ≡ None → ⊥
said_past [] rest bad [] said none = absurd cc
said_past [] rest bad (e ∷ entries) said none = absurd cc
said_past (g ∷ good) rest bad [] said none = absurd cc
said_past (g ∷ good) rest bad (e ∷ entries) said none = said_past good rest bad entries (cc) none

said_length : (lines : List (List ℕ)) (entries : List Entry) → map entry_in lines ≡ map (λ e. Some e) entries → length lines ≡ length entries
said_length lines entries said = sym (length-map lines entry_in) ∙ ap (λ (xs : List (Option Entry)). length xs) said ∙ length-map entries (λ e. Some e)

never_bad : (text line : List ℕ) (schedule : List Entry) → IsSchedule text schedule → IsScheduleLine text line → ⊥
never_bad text line schedule s (of_bad_line number bad) =
    said_past bad.good bad.rest bad.bad schedule (ap (λ (xs : List (List ℕ)). map entry_in xs) (sym bad.lines) ∙ s.said) bad.refused
never_bad text line schedule s (of_too_many many) =
    let same : length (many.good ++ many.next ∷ many.rest) ≡ length schedule = ap (λ (xs : List (List ℕ)). length xs) (sym many.lines) ∙ said_length (lines_of text) schedule s.said in
    let parts : length (many.good ++ many.next ∷ many.rest) ≡ length many.good + length (many.next ∷ many.rest) = length-append many.good (many.next ∷ many.rest) in
    let full = many.full in
    let few = s.few in
    omega arith

same_entries : (a b : List Entry) → map (λ (e : Entry). Some e) a ≡ map (λ (e : Entry). Some e) b → a ≡ b
same_entries [] [] e = refl
same_entries [] (y ∷ b) e = absurd cc
same_entries (x ∷ a) [] e = absurd cc
same_entries (x ∷ a) (y ∷ b) e = let rest = same_entries a b (cc) in cc

one_schedule : (text : List ℕ) (a b : List Entry) → IsSchedule text a → IsSchedule text b → a ≡ b
one_schedule text a b s t = same_entries a b (sym s.said ∙ t.said)

-- ---- run

one_image : (bytes : List ℕ) (i j : Image) → read_of bytes ≡ Ok i → read_of bytes ≡ Ok j → i ≡ j
one_image bytes i j a b = let both : Ok i ≡ Ok j = sym a ∙ b in cc

never_refused : (bytes : List ℕ) (i : Image) (refusal : ImageRefusal) → read_of bytes ≡ Ok i → read_of bytes ≡ Err refusal → ⊥
never_refused bytes i refusal e bad = let both : Ok i ≡ Err refusal = sym e ∙ bad in absurd cc

is_ok_of : (bytes : List ℕ) (i : Image) → read_of bytes ≡ Ok i → IsOk (read_of bytes)
is_ok_of bytes i e = subst (λ (r : Result Image ImageRefusal). IsOk r) (sym e) refl

module _ (out : Putting) (i : Image) (setting : Setting) (tells : Bool) where
  ran_image : (bytes : List ℕ) (status : ℕ) (line : List ℕ) → read_of bytes ≡ Ok i → ImageAnswer bytes setting tells out status line → Ended i setting tells out status line
  ran_image bytes status line e (image_refused r bad p) = absurd (never_refused bytes i r e bad)
  ran_image bytes status line e (ended j s l read done) = subst (λ (x : Image). Ended x setting tells out status line) (one_image bytes j i read e) done

ran_whole : (out : Putting) (i : Image) (limits : Setting) (tells : Bool) (status : ℕ) (line bytes text : List ℕ) (schedule : List Entry) → read_of bytes ≡ Ok i → IsSchedule text schedule
    → RunAnswer bytes text limits tells out status line → Ended i (by_schedule limits schedule) tells out status line
ran_whole out i limits tells status line bytes text schedule e lines (inl (other, is, answer)) =
    let same : other ≡ schedule = one_schedule text other schedule (is (is_ok_of bytes i e)) lines in
    subst (λ (s : List Entry). Ended i (by_schedule limits s) tells out status line) same (ran_image out i (by_schedule limits other) tells bytes status line e answer)
ran_whole out i limits tells status line bytes text schedule e lines (inr bad) = absurd (never_bad text line schedule lines bad.0.1)

module _ (shelf : Shelving) (out : Putting) (name : List ℕ) where
  pub runs_whole : (switches input : Option (List ℕ)) (limits : Setting) (image : List ℕ) (result : Result Answer Refusal) → Runs shelf out name switches input limits image result → RunsWhole shelf out name switches input limits result
  runs_whole switches input limits image (Ok a) runs i schedule given ready calm quiet =
      let answer = runs.answer in
      let bytes : image ≡ ready.bytes = held_read shelf.held.0 name image_cap ready.bytes image ready.image answer.0.1 in
      let text : answer.1.0 ≡ ready.text = named_read shelf.held.0 switches ready.text answer.1.0 ready.of_switches answer.1.2 in
      let taken : answer.1.1 ≡ given = named_read shelf.held.0 input given answer.1.1 ready.of_input answer.1.3 in
      ran_whole out i (on_input limits given) (is_some switches) a.status a.line.items ready.bytes ready.text schedule ready.read ready.lines
      (subst (λ (x : List ℕ). RunAnswer ready.bytes ready.text (on_input limits x) (is_some switches) out a.status a.line.items) taken
      (subst (λ (x : List ℕ). RunAnswer ready.bytes x (on_input limits answer.1.1) (is_some switches) out a.status a.line.items) text
      (subst (λ (x : List ℕ). RunAnswer x answer.1.0 (on_input limits answer.1.1) (is_some switches) out a.status a.line.items) bytes answer.1.4)))
  runs_whole switches input limits image (Err r) runs i schedule given ready calm quiet =
      refused_short shelf (OfRun shelf.held.0 name switches input) out r (run_held shelf.held.0 name switches input i schedule given ready) calm quiet runs.refusal

  -- ---- dump

  cut_dump : (image : List ℕ) (r : Refusal) → (CountRose out.faults → ⊥) → CutsDump image out r → CutsShort out r
  cut_dump image r quiet (no_more m p) = (m, p)
  cut_dump image r quiet (not_put i text read says lacks rose front) = absurd (quiet rose)

  dump_short : (file bytes image : List ℕ) (r : Refusal) → IsHeld shelf.held.0 file image_cap bytes → (CountRose shelf.faults → ⊥) → (CountRose out.faults → ⊥)
      → (Unfetched shelf (Only file image_cap) r.status r.front.now r.name.now × PutsNothing out) ⊎ (IsRead shelf.held.0 file image_cap image × CutsDump image out r) → CutsShort out r
  dump_short file bytes image r held calm quiet (inl u) = refused_short shelf (Only file image_cap) out r (only_held shelf.held.0 file bytes held) calm quiet (inl u)
  dump_short file bytes image r held calm quiet (inr d) = cut_dump image r quiet d.1

  abbrev Dumped : Image → ℕ → List ℕ → Type 0
  Dumped i status line = (status ≡ 0) × (line ≡ []) × ((text : List ℕ) × IsDump i text × Took out.taken text)

  dumped_whole : (i : Image) (bytes : List ℕ) (status : ℕ) (line : List ℕ) → read_of bytes ≡ Ok i → DumpAnswer bytes out status line → Dumped i status line
  dumped_whole i bytes status line e (not_dumped r bad p) = absurd (never_refused bytes i r e bad)
  dumped_whole i bytes status line e (dumped j text read says took) = (refl, refl, (text, subst (λ (x : Image). IsDump x text) (one_image bytes j i read e) says, took))

  pub dumps_whole : (image : List ℕ) (result : Result Answer Refusal) → Dumps shelf out name image result → DumpsWhole shelf out name result
  dumps_whole image (Ok a) dumps i bytes held e calm quiet =
      let answer = dumps.answer in
      let same : image ≡ bytes = held_read shelf.held.0 name image_cap bytes image held answer.0.1 in
      dumped_whole i bytes a.status a.line.items e (subst (λ (x : List ℕ). DumpAnswer x out a.status a.line.items) same answer.1)
  dumps_whole image (Err r) dumps i bytes held e calm quiet = dump_short name bytes image r held calm quiet dumps.refusal
