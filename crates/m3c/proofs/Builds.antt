-- `build` of a file in the plain form is complete.
use Rattle.std.proofs.Common.{◌≡◌, ◌∙◌, ◌<◌, ◌≤◌, ◌⊎◌, ℕ, List, [], ◌∷◌, length, Option, None, Some, refl, sym, ap, subst, inl, inr, arith}
use Rattle.std.specs.Prelude.{Result, Ok, Err, IfSome, IsSomeAnd}
use Rattle.std.specs.FinMap.{get}
use Rattle.m3_ports.specs.Files.{Files, IsNotHeld, IsHeldOver}
use Rattle.m3_image.specs.Images.{read_of}
use Rattle.m3_plain.specs.Terms.{Term}
use Rattle.m3_plain.specs.PlainForm.{IsPlain}
use Rattle.m3_plain_image.specs.Image.{plain_image}
use Rattle.m3c_words.specs.Orders.{Order, build}
use Rattle.m3c_image_commands.specs.declared.answers.Answer.{Answer}
use Rattle.m3c_image_commands.specs.declared.answers.Refusal.{Refusal}
use Rattle.m3c_image_commands.specs.Statuses.{CountRose, StoresNothing, Tells, Unfetched, read_fault, no_memory, absent, too_long}
use Rattle.m3c_source_commands.specs.Judging.{ByChecker}
use Rattle.m3c_source_commands.specs.Orders.{Commands, usage, no_words, carried_out, Fulfils}
use Rattle.m3c_source_commands.specs.SourceCommands.{AreTextsOf, BuildAnswer, not_built, stored, BuildRefuses, IsImageOf, IsNotPlain, OfFiles}
use Rattle.m3c.specs.Command.{Call, IsBuildComplete, IsCalm, Stored, file_cap}
use Rattle.m3c.proofs.ByWords.{some_none, some_same}
use Rattle.m3c.proofs.Texts.{head_same, one_text, only_file}

-- the file is held within its cap, and in the plain form
module _ (call : Call) (status : ℕ) (files : Files) (image name text : List ℕ) (puts : List Term) (held : call.shelf.held.0 ≡ Some files) (got : get files name ≡ Some text) (short : length text ≤ file_cap) (plain : IsPlain text puts) (calm : IsCalm call) (store : CountRose call.shelf.store_faults → ⊥) where
  abbrev Complete : Type 0
  Complete = ((status ≡ 0) × Stored call image name puts) ⊎ ((status ≡ 5) × StoresNothing call.shelf)

  read_text : (texts : List (List ℕ)) → AreTextsOf call.shelf.held.0 (name ∷ []) texts → texts ≡ text ∷ []
  read_text texts read =
      let one = one_text call.shelf.held.0 name texts read in
      let told : get files name ≡ Some one.0 = subst (λ (o : Option Files). IfSome o (λ files. get files name ≡ Some one.0)) held (one.2.told) in
      one.1 ∙ ap (λ (t : List ℕ). t ∷ []) (some_same one.0 text (sym told ∙ got))

  is_plain : (texts : List (List ℕ)) → AreTextsOf call.shelf.held.0 (name ∷ []) texts → IsNotPlain (name ∷ []) texts → ⊥
  is_plain texts read other = other name text puts refl (read_text texts read) plain

  its_image : (texts : List (List ℕ)) → AreTextsOf call.shelf.held.0 (name ∷ []) texts → IsImageOf ByChecker (name ∷ []) texts call.image → read_of call.image ≡ Ok (plain_image name puts)
  its_image texts read (inr others) = absurd (is_plain texts read others.0)
  its_image texts read (inl i) =
      let p = i.program in
      let same : i.name ≡ name = head_same i.name name (sym p.file) in
      let t : text ≡ p.text = head_same text p.text (sym (read_text texts read) ∙ p.source) in
      let q : puts ≡ i.puts = p.only puts (subst (λ (x : List ℕ). IsPlain x puts) t plain) in
      subst (λ (n : List ℕ). read_of call.image ≡ Ok (plain_image n puts)) same (subst (λ (ps : List Term). read_of call.image ≡ Ok (plain_image i.name ps)) (sym q) i.bytes)

  built : (texts : List (List ℕ)) (code : ℕ) (line : List ℕ) → AreTextsOf call.shelf.held.0 (name ∷ []) texts → BuildAnswer ByChecker call.shelf (name ∷ []) texts image call.image code line → call.out.taken.1 ≡ call.out.taken.0 → status ≡ code → Complete
  built texts code line read (not_built l other r s) p e = absurd (is_plain texts read other)
  built texts code line read (stored is s) p e = inl (e, record { bytes = its_image texts read is; under = s; silent = p })

  unfetched : (code : ℕ) (front back : List ℕ) → Unfetched call.shelf (OfFiles call.shelf.held.0 (name ∷ [])) code front back → StoresNothing call.shelf → status ≡ code → Complete
  unfetched code front back (read_fault n c of rose) s e = absurd (calm.shelf rose)
  unfetched code front back no_memory s e = inr (e, s)
  unfetched code front back (absent n c of rose free) s e =
      let only = only_file call.shelf.held.0 name n c (inl of) in
      let none : get files n ≡ None = subst (λ (o : Option Files). IfSome o (λ files. IsNotHeld files n)) held free in
      absurd (some_none text (sym got ∙ ap (λ (x : List ℕ). get files x) (sym only.0) ∙ none))
  unfetched code front back (too_long n c of rose over) s e =
      let only = only_file call.shelf.held.0 name n c (inl of) in
      let more : IsHeldOver files n c = subst (λ (o : Option Files). IfSome o (λ files. IsHeldOver files n c)) held over in
      let long : IsSomeAnd (Some text) (λ bytes. c < length bytes) = subst (λ o. IsSomeAnd o (λ bytes. c < length bytes)) (ap (λ (x : List ℕ). get files x) only.0 ∙ got) more in
      let cap = only.1 in
      absurd (omega (arith, long, short, cap))

  refused : (r : Refusal) → BuildRefuses call.shelf (name ∷ []) image call.image r → status ≡ r.status → Complete
  refused r (inl u) e = unfetched r.status r.front.now r.name.now u.0 u.1 e
  refused r (inr (inl lacks)) e = inr (e ∙ lacks.0.status, lacks.1)
  refused r (inr (inr failed)) e = absurd (store failed.1.0)

  of_result : (result : Result Answer Refusal) → Fulfils ByChecker (build image (name ∷ [])) call.shelf call.out call.image result → Tells call.err result status → Complete
  of_result (Ok a) h (inl t) = built h.0.0 a.status a.line.items h.0.1 h.0.2 h.1 t.0
  of_result (Ok a) h (inr t) = absurd (calm.err t.1)
  of_result (Err r) h (inl t) = refused r h.0 t.0
  of_result (Err r) h (inr t) = absurd (calm.err t.1)

pub build_of : (call : Call) (status : ℕ) → Commands ByChecker call.words call.shelf call.out call.err call.image status → IsBuildComplete call status
build_of call status (usage told none s p says) files image name text puts asks held got short plain calm store = absurd (some_none (build image (name ∷ [])) (sym asks ∙ none))
build_of call status (no_words told s p (inl t)) files image name text puts asks held got short plain calm store = inr (t.0, s)
build_of call status (no_words told s p (inr t)) files image name text puts asks held got short plain calm store = absurd (calm.err t.1)
build_of call status (carried_out order result told ordered h t) files image name text puts asks held got short plain calm store =
    let is : order ≡ build image (name ∷ []) = some_same order (build image (name ∷ [])) (sym ordered ∙ asks) in
    of_result call told files image name text puts held got short plain calm store result (subst (λ (o : Order). Fulfils ByChecker o call.shelf call.out call.image result) is h) t
