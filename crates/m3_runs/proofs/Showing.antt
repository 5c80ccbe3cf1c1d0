-- States that show one another show the same variables.
use Rattle.std.proofs.Common.{◌≡◌, ℕ, suc, ◌+◌, List, Option, ap, ◌∙◌, arith}
use Rattle.std.specs.Prelude.{map}
use Rattle.m3_runs.specs.Languages.{Thread, Language}
use Rattle.m3_runs.specs.States.{State, thread_at, shown_by}
use Rattle.m3_runs.specs.Follows.{Each, none, more, Both, neither, both, Standing, SameThread, SameShown, SameParts, Room, Invariant, Follows}
use Rattle.m3_runs.specs.Answers.{ShownTheSame}

add_suc : (k n : ℕ) → k + suc n ≡ suc k + n
add_suc k n = omega arith

zero_add : (n : ℕ) → n ≡ 0 + n
zero_add n = omega arith

add_0 : (k : ℕ) → k + 0 ≡ k
add_0 k = omega arith

module _ {W SA VA MA SB VB MB : Type 0} (R : Standing W SA VA MA SB VB MB) (K : Language SA VA MA) (L : Language SB VB MB) (I : Invariant SA VA MA) (J : Invariant SB VB MB) (room : Room R) (F : Follows R K L I J room) where
  module _ (w : W) (u : State SA VA MA) (u' : State SB VB MB) (same : SameParts R w u.parts u'.parts) (good : I.between u) (good' : J.between u') where
    thread_shown : (n : ℕ) (t : Option (Thread SA VA)) (t' : Option (Thread SB VB)) → thread_at u.parts.threads n ≡ t → thread_at u'.parts.threads n ≡ t' → Both (SameThread R w) t t' → Each (Each (SameShown R w)) (shown_by K u.parts.memory t) (shown_by L u'.parts.memory t')
    thread_shown n t t' at at' neither = none
    thread_shown n t t' at at' (both x y h) = F.shows w u u' n x y good good' (record { state = same; there = at; there' = at'; same = h })

    -- the threads from one number on, which are these
    threads_shown : (n : ℕ) (ts : List (Option (Thread SA VA))) (ts' : List (Option (Thread SB VB))) → ((k : ℕ) → thread_at u.parts.threads (k + n) ≡ thread_at ts k) → ((k : ℕ) → thread_at u'.parts.threads (k + n) ≡ thread_at ts' k) → Each (Both (SameThread R w)) ts ts' →
        Each (Each (Each (SameShown R w))) (map (shown_by K u.parts.memory) ts) (map (shown_by L u'.parts.memory) ts')
    threads_shown n ts ts' at at' none = none
    threads_shown n ts ts' at at' (more t t' us us' h hs) =
        more (shown_by K u.parts.memory t) (shown_by L u'.parts.memory t') (map (shown_by K u.parts.memory) us) (map (shown_by L u'.parts.memory) us') (thread_shown n t t' (ap (thread_at u.parts.threads) (zero_add n) ∙ at 0) (ap (thread_at u'.parts.threads) (zero_add n) ∙ at' 0) h)
        (threads_shown (suc n) us us' (λ k. ap (thread_at u.parts.threads) (add_suc k n) ∙ at (suc k)) (λ k. ap (thread_at u'.parts.threads) (add_suc k n) ∙ at' (suc k)) hs)

  pub shown_so : ShownTheSame R K L I J
  shown_so w s s' good good' sh = threads_shown w s s' sh.parts good good' 0 s.parts.threads s'.parts.threads (λ k. ap (thread_at s.parts.threads) (add_0 k)) (λ k. ap (thread_at s'.parts.threads) (add_0 k)) sh.parts.threads
