-- Who sleeps longest on a condition.
use Rattle.std.proofs.Common.{◌≡◌, ℕ, zero, suc, ◌+◌, ◌≤◌, ◌<◌, Bool, true, false, List, [], ◌∷◌, Option, Some, None, refl, sym, ap, ◌∙◌, subst, arith}
use Rattle.std.specs.Prelude.{nat_le, if◌then◌else◌}
use Rattle.std.proofs.lemmas.Bool.Decides.{nat_tests}
use Rattle.m3_runs.specs.Languages.{Thread, Language}
use Rattle.m3_runs.specs.States.{thread_at}
use Rattle.m3_runs.specs.Services.{Sleeper, earlier, sleeps_on_at, place_at, sleeper_if, longest_from}
use Rattle.m3_runs.specs.Laws.{SleepsOn, SleepsLongest, WakesLongest}
use Rattle.m3_runs.proofs.Choosing.{by_test}

module _ {S V M : Type 0} (L : Language S V M) (condition : V) where
  abbrev Threads : Type 0
  Threads = List (Option (Thread S V))

  abbrev Sleeps : Threads → ℕ → ℕ → Type 0
  Sleeps ts n place = SleepsOn L ts condition n place

  -- it is so many places behind the number from which it was looked for
  record Found (n : ℕ) (ts : Threads) (s : Sleeper) : Type 0 where
    behind : ℕ
    number : s.number ≡ n + behind
    sleeps : Sleeps ts behind s.place
    first : (k place : ℕ) → Sleeps ts k place → s.place ≤ place

  abbrev IsLongest : ℕ → Threads → Option Sleeper → Type 0
  IsLongest n ts None = (k place : ℕ) → Sleeps ts k place → ⊥
  IsLongest n ts (Some s) = Found n ts s

  tail : (o : Option (Thread S V)) (ts : Threads) (k place : ℕ) → Sleeps (o ∷ ts) (suc k) place → Sleeps ts k place
  tail o ts k place h = record { thread = h.thread; there = h.there; sleeps = h.sleeps; placed = h.placed }

  front : (o : Option (Thread S V)) (ts : Threads) (k place : ℕ) → Sleeps ts k place → Sleeps (o ∷ ts) (suc k) place
  front o ts k place h = record { thread = h.thread; there = h.there; sleeps = h.sleeps; placed = h.placed }

  -- the first of a row, if it sleeps
  head_is : (t : Thread S V) (ts : Threads) (place : ℕ) → Sleeps (Some t ∷ ts) zero place → (sleeps_on_at L condition t.status ≡ true) × (place_at L t.status ≡ place)
  head_is t ts place h =
      let e : Some t ≡ Some h.thread = h.there in
      let same : t ≡ h.thread = cc in
      (subst (λ x. sleeps_on_at L condition x.status ≡ true) (sym same) h.sleeps, subst (λ x. place_at L x.status ≡ place) (sym same) h.placed)

  no_head : (ts : Threads) (place : ℕ) → Sleeps (None ∷ ts) zero place → ⊥
  no_head ts place h = let e : None ≡ Some h.thread = h.there in let no_one : ⊥ = cc in no_one

  none_behind : (o : Option (Thread S V)) (ts : Threads) → ((place : ℕ) → Sleeps (o ∷ ts) zero place → ⊥) → ((k place : ℕ) → Sleeps ts k place → ⊥) → (k place : ℕ) → Sleeps (o ∷ ts) k place → ⊥
  none_behind o ts f g zero place h = f place h
  none_behind o ts f g (suc k) place h = g k place (tail o ts k place h)

  first_behind : (o : Option (Thread S V)) (ts : Threads) (least : ℕ) → ((place : ℕ) → Sleeps (o ∷ ts) zero place → least ≤ place) → ((k place : ℕ) → Sleeps ts k place → least ≤ place) → (k place : ℕ) → Sleeps (o ∷ ts) k place → least ≤ place
  first_behind o ts least f g zero place h = f place h
  first_behind o ts least f g (suc k) place h = g k place (tail o ts k place h)

  shifted : (n : ℕ) (o : Option (Thread S V)) (ts : Threads) (r : Option Sleeper) → ((place : ℕ) → Sleeps (o ∷ ts) zero place → ⊥) → IsLongest (suc n) ts r → IsLongest n (o ∷ ts) r
  shifted n o ts None f h = none_behind o ts f h
  shifted n o ts (Some s) f h =
      let q = h.number in
      record { behind = suc h.behind; number = omega (arith, q); sleeps = front o ts h.behind s.place h.sleeps; first = first_behind o ts s.place (λ place k. absurd (f place k)) h.first }

  abbrev Head : ℕ → Thread S V → Sleeper
  Head n t = record { number = n; place = place_at L t.status }

  head_first : (n : ℕ) (t : Thread S V) (ts : Threads) → sleeps_on_at L condition t.status ≡ true → ((k place : ℕ) → Sleeps ts k place → place_at L t.status ≤ place) → Found n (Some t ∷ ts) (Head n t)
  head_first n t ts e f = record {
    behind = 0;
    number = omega arith;
    sleeps = record { thread = t; there = refl; sleeps = e; placed = refl };
    first = first_behind (Some t) ts (place_at L t.status) (λ place h. let q = (head_is t ts place h).1 in omega (arith, q)) f;
  }

  with_head : (n : ℕ) (t : Thread S V) (ts : Threads) (r : Option Sleeper) → sleeps_on_at L condition t.status ≡ true → IsLongest (suc n) ts r → IsLongest n (Some t ∷ ts) (earlier (Some (Head n t)) r)
  with_head n t ts None e h = head_first n t ts e (λ k place q. absurd (h k place q))
  with_head n t ts (Some s) e h = by_test (nat_le (place_at L t.status) s.place) (IsLongest n (Some t ∷ ts) (earlier (Some (Head n t)) (Some s)))
      (λ le.
      let less : place_at L t.status ≤ s.place = grind (arith, nat_tests, le) in
      subst (λ b. IsLongest n (Some t ∷ ts) (if b then Some (Head n t) else Some s)) (sym le)
      (head_first n t ts e (λ k place q. let later = h.first k place q in omega (arith, less, later))))
      (λ gt.
      let more : s.place < place_at L t.status = grind (arith, nat_tests, gt) in
      let number = h.number in
      subst (λ b. IsLongest n (Some t ∷ ts) (if b then Some (Head n t) else Some s)) (sym gt)
      (record {
        behind = suc h.behind;
        number = omega (arith, number);
        sleeps = front (Some t) ts h.behind s.place h.sleeps;
        first = first_behind (Some t) ts s.place (λ place k. let q = (head_is t ts place k).1 in omega (arith, q, more)) h.first;
      }))

  longest : (n : ℕ) (ts : Threads) → IsLongest n ts (longest_from L condition n ts)
  longest n [] = λ k place h. let e : None ≡ Some h.thread = h.there in let no_one : ⊥ = cc in no_one
  longest n (None ∷ ts) = shifted n None ts (longest_from L condition (suc n) ts) (no_head ts) (longest (suc n) ts)
  longest n (Some t ∷ ts) = by_test (sleeps_on_at L condition t.status) (IsLongest n (Some t ∷ ts) (earlier (sleeper_if L condition n (Some t)) (longest_from L condition (suc n) ts)))
      (λ e. subst (λ b. IsLongest n (Some t ∷ ts) (earlier (if b then Some (Head n t) else None) (longest_from L condition (suc n) ts))) (sym e)
      (with_head n t ts (longest_from L condition (suc n) ts) e (longest (suc n) ts)))
      (λ e. subst (λ b. IsLongest n (Some t ∷ ts) (earlier (if b then Some (Head n t) else None) (longest_from L condition (suc n) ts))) (sym e)
      (shifted n (Some t) ts (longest_from L condition (suc n) ts) (λ place h. let bad : true ≡ false = sym (head_is t ts place h).0 ∙ e in let no_one : ⊥ = cc in no_one) (longest (suc n) ts)))

  from_start : (ts : Threads) (r : Option Sleeper) → IsLongest 0 ts r → SleepsLongest L ts condition r
  from_start ts None h = h
  from_start ts (Some s) h =
      let q = h.number in
      let same : h.behind ≡ s.number = omega (arith, q) in
      (subst (λ i. Sleeps ts i s.place) same h.sleeps, h.first)

pub wakes_longest : {S V M : Type 0} (L : Language S V M) → WakesLongest L
wakes_longest L threads condition = from_start L condition threads (longest_from L condition 0 threads) (longest L condition 0 threads)
