-- How many words a stack has.
use Rattle.std.specs.Prelude.{ℕ, zero, suc, ◌≡◌, ◌==◌, true, false, List, [], ◌∷◌, length, find, Option, None, Some, slice_get}
use Rattle.std.proofs.Common.{refl, ap, ◌∙◌, cond}
use Rattle.m3_threads.specs.declared.status.Thread.{Thread}
use Rattle.m3_threads.specs.All.{Everyone, is_named, thread_named, words_of, AreSoundThreads}
use Rattle.m3_threads.specs.Going.{of_thread}

found-at : (n : ℕ) (ts : List Thread) (t : Thread) → find (is_named n) ts ≡ Some t → (j : ℕ) × (slice_get ts j ≡ Some t)
found-at n [] t e = cc
found-at n (x ∷ xs) t e =
    elim (x.number == n) as (λ b. cond b (Some x) (find (is_named n) xs) ≡ Some t → (j : ℕ) × (slice_get (x ∷ xs) j ≡ Some t)) [
      | true ↦ λ h. (zero, h)
      | false ↦ λ h. let r = found-at n xs t h in (suc r.0, r.1)
    ] e

words-is : (x y : List ℕ) → Some x ≡ Some y → x ≡ y
words-is x y e = cc

depth-at : (all : Everyone) (n : ℕ) (words : List ℕ) (o : Option Thread) → AreSoundThreads all.allowed all.stack all.forks all.waits all.threads all.stacks
    → thread_named all n ≡ o → Some words ≡ of_thread (words_of all) o → length words ≡ all.stack
depth-at all n words None sound e h = cc
depth-at all n words (Some t) sound e h =
    let place = found-at n all.threads t e in
    ap (λ (ws : List ℕ). length ws) (words-is words (words_of all t) h) ∙ sound.words place.0 t place.1

pub depth_same : (all : Everyone) (n : ℕ) (words : List ℕ) → AreSoundThreads all.allowed all.stack all.forks all.waits all.threads all.stacks
    → Some words ≡ of_thread (words_of all) (thread_named all n) → length words ≡ all.stack
depth_same all n words sound h = depth-at all n words (thread_named all n) sound refl h
