-- Who sleeps longest on a condition, found from the front of the list.
use Rattle.std.proofs.Common.{◌≡◌, ℕ, ◌+◌, ◌<◌, ◌≤◌, List, length, Option, Some, None, true, false, sym, ap, ◌∙◌, inl, inr, arith}
use Rattle.std.specs.Prelude.{slice_get}
use Rattle.std.proofs.lemmas.Bool.{cases_lt}
use Rattle.m3_threads.specs.declared.status.Thread.{Thread}
use Rattle.m3_threads.specs.All.{queue_place}
use Rattle.m3_threads.specs.Actions.{sleeps_on, SleepsLongest}
use Rattle.m3_threads.specs.PlacesInside.{IsLongestBelow, IsLongestAt}
use Rattle.m3_threads.proofs.Places.{some_same, get_within}

-- a thread below k + 1 is below k, or it is the one at k
below-or-here : (ts : List Thread) (k j : ℕ) (t u : Thread) → slice_get ts k ≡ Some t → j < k + 1 → slice_get ts j ≡ Some u → (P : Type 0) → (j < k → P) → (u ≡ t → P) → P
below-or-here ts k j t u e l g P low here =
    elim (cases_lt j k) [
      | inl less ↦ low less
      | inr more ↦ let same : j ≡ k = omega arith in here (some_same (sym g ∙ ap (slice_get ts) same ∙ e))
    ]

pub longest-skips : (at : ℕ) (ts : List Thread) (k : ℕ) (t : Thread) (best : Option ℕ) → slice_get ts k ≡ Some t → sleeps_on at t ≡ false → IsLongestBelow at ts k best → IsLongestBelow at ts (k + 1) best
longest-skips at ts k t None e awake h = λ j u l g. below-or-here ts k j t u e l g (sleeps_on at u ≡ false) (λ less. h j u less g) (λ same. ap (sleeps_on at) same ∙ awake)
longest-skips at ts k t (Some b) e awake h = (
  h.0,
  record {
    there = h.1.there;
    sleeps = h.1.sleeps;
    first = λ j u l g s. below-or-here ts k j t u e l g (queue_place h.0 ≤ queue_place u) (λ less. h.1.first j u less g s) (λ same. let not = sym (ap (sleeps_on at) same ∙ awake) ∙ s in cc);
  },
)

pub longest-stays : (at : ℕ) (ts : List Thread) (k b : ℕ) (t x : Thread) → slice_get ts k ≡ Some t → slice_get ts b ≡ Some x → queue_place x ≤ queue_place t → IsLongestBelow at ts k (Some b) → IsLongestBelow at ts (k + 1) (Some b)
longest-stays at ts k b t x e g less h =
    let same : x ≡ h.0 = some_same (sym g ∙ h.1.there) in (
      h.0,
      record {
        there = h.1.there;
        sleeps = h.1.sleeps;
        first = λ j u l m s. below-or-here ts k j t u e l m (queue_place h.0 ≤ queue_place u) (λ low. h.1.first j u low m s)
            (λ here. let p = ap queue_place same in let q = ap queue_place here in omega arith);
      },
    )

pub longest-new : (at : ℕ) (ts : List Thread) (k : ℕ) (t : Thread) → slice_get ts k ≡ Some t → sleeps_on at t ≡ true → IsLongestBelow at ts k None → IsLongestBelow at ts (k + 1) (Some k)
longest-new at ts k t e sleeps h = (
  t,
  record {
    there = e;
    sleeps = sleeps;
    first = λ j u l g s. below-or-here ts k j t u e l g (queue_place t ≤ queue_place u) (λ less. let not = sym (h j u less g) ∙ s in cc) (λ same. let q = ap queue_place same in omega arith);
  },
)

pub longest-better : (at : ℕ) (ts : List Thread) (k b : ℕ) (t x : Thread) → slice_get ts k ≡ Some t → sleeps_on at t ≡ true → slice_get ts b ≡ Some x → queue_place t ≤ queue_place x → IsLongestBelow at ts k (Some b) → IsLongestBelow at ts (k + 1) (Some k)
longest-better at ts k b t x e sleeps g less h =
    let same : x ≡ h.0 = some_same (sym g ∙ h.1.there) in (
      t,
      record {
        there = e;
        sleeps = sleeps;
        first = λ j u l m s. below-or-here ts k j t u e l m (queue_place t ≤ queue_place u)
            (λ low. let old = h.1.first j u low m s in let p = ap queue_place same in omega arith)
            (λ here. let q = ap queue_place here in omega arith);
      },
    )

pub longest-nobody : (at : ℕ) (ts : List Thread) → IsLongestBelow at ts 0 None
longest-nobody at ts = λ j t l e. absurd (omega arith)

pub longest-all : (at : ℕ) (ts : List Thread) (k : ℕ) → length ts ≤ k → IsLongestBelow at ts k None → SleepsLongest at ts None
longest-all at ts k past h = λ j t g. h j t (let within = get_within ts j t g in omega arith) g

pub longest-found : (at : ℕ) (ts : List Thread) (k b : ℕ) → length ts ≤ k → IsLongestBelow at ts k (Some b) → IsLongestAt at ts b
longest-found at ts k b past h = (
  h.0,
  h.1.there,
  record {
    there = (b, h.1.there);
    sleeps = h.1.sleeps;
    first = λ j u g s. h.1.first j u (let within = get_within ts j u g in omega arith) g s;
  },
)
