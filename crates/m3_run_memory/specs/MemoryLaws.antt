-- The laws of a machine's whole memory.
use Rattle.std.specs.Prelude.{ℕ, ◌≡◌, ◌<◌, ◌^◌, ◌&&◌, nat_le, nat_lt, Bool, true, false, List, length, Option, Some, is_some, IsSome, IsTrue, slice_index}
use Rattle.std.proofs.Common.{refl, sym, ap, ◌∙◌, arith, cond, ⊎_elim}
use Rattle.std.proofs.lemmas.Bool.{cases_Bool}
use Rattle.std.proofs.lemmas.Bool.Decides.{nat_tests}
use Rattle.m3_isa.specs.Memory.{Memory}
use Rattle.m3_heap.specs.Heap.{Heap}
use Rattle.m3_threads.specs.All.{Everyone, stack_in}
use Rattle.m3_threads.specs.Spaces.{slot_at, place_at, is_in_stack, held, replaceable}
use Rattle.m3_run_memory.specs.Kept.{KeepsMemory}
use Rattle.m3_run_memory.specs.OutsideLaws.{outside_keeps_itself as outside-itself, outside_keeps_on as outside-on}

here : Everyone → ℕ → Option ℕ
here all x = Some (slice_index (stack_in all (slot_at x)) (place_at x))

pub readable_memory : (all : Everyone) (m : Memory) (can : ℕ → Bool) (x : ℕ) → (IsTrue (can x) → IsSome (m x)) → IsTrue (replaceable all can x) → IsSome (held all m x)
unfolding here
readable_memory all m can x outside e = ⊎_elim
    (λ (hit : is_in_stack all x ≡ true). ap (λ b. is_some (cond b (here all x) (m x))) hit)
    (λ (miss : is_in_stack all x ≡ false). ap (λ b. is_some (cond b (here all x) (m x))) miss ∙ outside (sym (ap (λ b. cond b true (can x)) miss) ∙ e))
    (cases_Bool (is_in_stack all x))

low-in-stack : (at n : ℕ) → (nat_le (2 ^ 40) at && (nat_lt (slot_at at) 64 && nat_lt (place_at at) n)) ≡ true → at < 2 ^ 63
low-in-stack at n e = grind (arith, nat_tests)

pub low_memory : (all : Everyone) (m : Memory) (x : ℕ) → (IsSome (m x) → x < 2 ^ 63) → IsSome (held all m x) → x < 2 ^ 63
unfolding here
low_memory all m x outside e = ⊎_elim
    (λ (hit : is_in_stack all x ≡ true). low-in-stack x (length (stack_in all (slot_at x))) hit)
    (λ (miss : is_in_stack all x ≡ false). outside (sym (ap (λ b. is_some (cond b (here all x) (m x))) miss) ∙ e))
    (cases_Bool (is_in_stack all x))

pub keeps_itself : (all : Everyone) (globals constants : List ℕ) (heap : Heap) → KeepsMemory all all globals globals constants constants heap heap
keeps_itself all globals constants heap = record { stacks = record { same_depths = refl; rest = refl }; outside = outside-itself globals constants heap }

with-stacks : Everyone → List (List ℕ) → Everyone
with-stacks all stacks = record all { stacks = stacks }

pub keeps_on : (a b d : Everyone) (g g' g'' c c' c'' : List ℕ) (s t u : Heap) → KeepsMemory a b g g' c c' s t → KeepsMemory b d g' g'' c' c'' t u → KeepsMemory a d g g'' c c'' s u
unfolding with-stacks
keeps_on a b d g g' g'' c c' c'' s t u p q = record {
  stacks = record {
    same_depths = q.stacks.same_depths ∙ p.stacks.same_depths;
    rest = q.stacks.rest ∙ ap (λ (x : Everyone). with-stacks x d.stacks) p.stacks.rest;
  };
  outside = outside-on g g' g'' c c' c'' s t u p.outside q.outside;
}
