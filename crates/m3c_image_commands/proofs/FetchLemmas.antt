-- Calls that fetch, one after the other, and what they read.
use Rattle.std.proofs.Common.{◌≡◌, ℕ, ◌≤◌, List, Option, sym, ap, ◌∙◌, subst, inl, inr, arith}
use Rattle.std.specs.Prelude.{Some, IfSome, Result, Ok, Err, IfErr}
use Rattle.m3_ports.specs.Counts.{Rose}
use Rattle.m3_ports.specs.Files.{Files, IsNotHeld, IsHeldOver}
use Rattle.m3c_image_commands.specs.declared.answers.Refusal.{Refusal}
use Rattle.m3c_image_commands.specs.Statuses.{Shelving, IsKept, IsRead, IsGiven, file_cap, image_cap, Only, OfNamed, OfOptions, Unfetched, read_fault, no_memory, absent, too_long, Fetches}
use Rattle.m3c_image_commands.specs.ImageCommands.{OfRun}

-- both as one
abbrev pub joined : Shelving → Shelving → Shelving
joined a b = record {
  held = (a.held.0, b.held.1);
  faults = (a.faults.0, b.faults.1);
  store_faults = (a.store_faults.0, b.store_faults.1);
  absences = (a.absences.0, b.absences.1);
  excesses = (a.excesses.0, b.excesses.1);
}

-- the second begins where the first ended
pub record Follows (a b : Shelving) : Type 0 where
  pub held : a.held.1 ≡ b.held.0
  pub faults : a.faults.1 ≡ b.faults.0
  pub store_faults : a.store_faults.1 ≡ b.store_faults.0
  pub absences : a.absences.1 ≡ b.absences.0
  pub excesses : a.excesses.1 ≡ b.excesses.0

-- no count fell
pub record Rises (a : Shelving) : Type 0 where
  pub held : a.held.1 ≡ a.held.0
  pub faults : IsKept a.faults
  pub store_faults : IsKept a.store_faults
  pub absences : IsKept a.absences
  pub excesses : IsKept a.excesses

rose_on : (a b b' c : ℕ) → a ≤ b → b ≡ b' → Rose b' c → Rose a c
rose_on a b b' c h e (inl l) = inl (omega arith)
rose_on a b b' c h e (inr m) = inr m

kept_on : (a b b' c : ℕ) → a ≤ b → b ≡ b' → b' ≤ c → a ≤ c
kept_on a b b' c h e l = omega arith

-- what one list of files is among the files of another
abbrev pub Among : (List ℕ → ℕ → Type 0) → (List ℕ → ℕ → Type 0) → Type 0
Among R Q = (n : List ℕ) (c : ℕ) → R n c → Q n c

unfetched_as : (R Q : List ℕ → ℕ → Type 0) (shelf : Shelving) (status : ℕ) (front name : List ℕ) → Among R Q → Unfetched shelf R status front name → Unfetched shelf Q status front name
unfetched_as R Q shelf status front name m (read_fault n c i r) = read_fault n c (m n c i) r
unfetched_as R Q shelf status front name m no_memory = no_memory
unfetched_as R Q shelf status front name m (absent n c i r h) = absent n c (m n c i) r h
unfetched_as R Q shelf status front name m (too_long n c i r h) = too_long n c (m n c i) r h

unfetched_as_err : {A : Type 0} (R Q : List ℕ → ℕ → Type 0) (shelf : Shelving) (result : Result A Refusal) → Among R Q → IfErr result (λ r. Unfetched shelf R r.status r.front.now r.name.now) → IfErr result (λ r. Unfetched shelf Q r.status r.front.now r.name.now)
unfetched_as_err R Q shelf (Ok x) m h = h
unfetched_as_err R Q shelf (Err r) m h = unfetched_as R Q shelf r.status r.front.now r.name.now m h

-- the same call, of which more files are said to be read
pub fetches_as : {A : Type 0} {R Q : List ℕ → ℕ → Type 0} {shelf : Shelving} {result : Result A Refusal} → Among R Q → Fetches shelf R result → Fetches shelf Q result
fetches_as {A} {R} {Q} {shelf} {result} m g = record {
  held = g.held;
  faults = g.faults;
  store_faults = g.store_faults;
  absences = g.absences;
  excesses = g.excesses;
  unfetched = unfetched_as_err R Q shelf result m g.unfetched;
}

module _ (a b : Shelving) (f : Follows a b) (k : Rises a) where
  held_before : b.held.0 ≡ a.held.0
  held_before = sym f.held ∙ k.held

  unfetched_on : (R : List ℕ → ℕ → Type 0) (status : ℕ) (front name : List ℕ) → Unfetched b R status front name → Unfetched (joined a b) R status front name
  unfetched_on R status front name (read_fault n c i r) = read_fault n c i (rose_on a.faults.0 a.faults.1 b.faults.0 b.faults.1 k.faults f.faults r)
  unfetched_on R status front name no_memory = no_memory
  unfetched_on R status front name (absent n c i r h) = absent n c i (rose_on a.absences.0 a.absences.1 b.absences.0 b.absences.1 k.absences f.absences r) (subst (λ held. IfSome held (λ files. IsNotHeld files n)) held_before h)
  unfetched_on R status front name (too_long n c i r h) = too_long n c i (rose_on a.excesses.0 a.excesses.1 b.excesses.0 b.excesses.1 k.excesses f.excesses r) (subst (λ held. IfSome held (λ files. IsHeldOver files n c)) held_before h)

  unfetched_on_err : {A : Type 0} (R : List ℕ → ℕ → Type 0) (result : Result A Refusal) → IfErr result (λ r. Unfetched b R r.status r.front.now r.name.now) → IfErr result (λ r. Unfetched (joined a b) R r.status r.front.now r.name.now)
  unfetched_on_err R (Ok x) h = h
  unfetched_on_err R (Err r) h = unfetched_on R r.status r.front.now r.name.now h

  pub fetches_on : {A : Type 0} (R : List ℕ → ℕ → Type 0) (result : Result A Refusal) → Fetches b R result → Fetches (joined a b) R result
  fetches_on R result g = record {
    held = g.held ∙ held_before;
    faults = kept_on a.faults.0 a.faults.1 b.faults.0 b.faults.1 k.faults f.faults g.faults;
    store_faults = kept_on a.store_faults.0 a.store_faults.1 b.store_faults.0 b.store_faults.1 k.store_faults f.store_faults g.store_faults;
    absences = kept_on a.absences.0 a.absences.1 b.absences.0 b.absences.1 k.absences f.absences g.absences;
    excesses = kept_on a.excesses.0 a.excesses.1 b.excesses.0 b.excesses.1 k.excesses f.excesses g.excesses;
    unfetched = unfetched_on_err R result g.unfetched;
  }

pub rises : {A : Type 0} {R : List ℕ → ℕ → Type 0} {a : Shelving} {result : Result A Refusal} → Fetches a R result → Rises a
rises g = record { held = g.held; faults = g.faults; store_faults = g.store_faults; absences = g.absences; excesses = g.excesses }

-- an error of one call is that of another
fetches_err : {A B : Type 0} {R : List ℕ → ℕ → Type 0} {s : Shelving} {r : Refusal} → Fetches {A = A} s R (Err r) → Fetches {A = B} s R (Err r)
fetches_err g = record { held = g.held; faults = g.faults; store_faults = g.store_faults; absences = g.absences; excesses = g.excesses; unfetched = g.unfetched }

pub fails_as : {A B : Type 0} {R P : List ℕ → ℕ → Type 0} {s : Shelving} {r : Refusal} → Among R P → Fetches {A = A} s R (Err r) → Fetches {A = B} s P (Err r)
fails_as {A} {B} {R} {P} {s} {r} m g = fetches_err {A = A} {B = B} (fetches_as {A = A} {R = R} {Q = P} {shelf = s} {result = Err r} m g)

-- a call that fetches behind another
pub goes_after : {A B : Type 0} {R Q P : List ℕ → ℕ → Type 0} {a b : Shelving} {first : Result A Refusal} {second : Result B Refusal} → Among Q P → Fetches a R first → Fetches b Q second → Follows a b → Fetches (joined a b) P second
goes_after {A} {B} {R} {Q} {P} {a} {b} {first} {second} m g h f =
    fetches_as {R = Q} {Q = P} {shelf = joined a b} {result = second} m (fetches_on a b f (rises {result = first} g) Q second h)

-- the same where the second one's error is told
pub fails_after : {A B C : Type 0} {R Q P : List ℕ → ℕ → Type 0} {a b : Shelving} {first : Result A Refusal} {r : Refusal} → Among Q P → Fetches a R first → Fetches {A = B} b Q (Err r) → Follows a b → Fetches {A = C} (joined a b) P (Err r)
fails_after {A} {B} {C} {R} {Q} {P} {a} {b} {first} {r} m g h f =
    fails_as {A = B} {B = C} {R = Q} {P = P} {s = joined a b} {r = r} m (fetches_on a b f (rises {result = first} g) Q (Err r) h)

-- ---- the files of options

pub among_named : (given : Option (List ℕ)) (name : List ℕ) → given ≡ Some name → Among (Only name file_cap) (OfNamed given)
among_named given name e n c o = (e ∙ ap (λ (x : List ℕ). Some x) (sym o.0), o.1)

pub among_switches : (held : Option Files) (switches input : Option (List ℕ)) → Among (OfNamed switches) (OfOptions held switches input)
among_switches held switches input n c o = inl o

-- the input, once the switches were read
pub among_input : (held : Option Files) (switches input : Option (List ℕ)) (text : List ℕ) → IsGiven held switches text → Among (OfNamed input) (OfOptions held switches input)
among_input held switches input text g n c o = inr ((text, g), o)

-- the options, of a shelf that held the same before
pub options_before : (a b : Option Files) (switches input : Option (List ℕ)) → a ≡ b → Among (OfOptions a switches input) (OfOptions b switches input)
options_before a b switches input e n c o = subst (λ (x : Option Files). OfOptions x switches input n c) e o

-- the options of a run, once the image was read
pub among_run : (a b : Option Files) (name image : List ℕ) (switches input : Option (List ℕ)) → a ≡ b → IsRead b name image_cap image → Among (OfOptions a switches input) (OfRun b name switches input)
among_run a b name image switches input e r n c o = inr ((image, r), options_before a b switches input e n c o)
