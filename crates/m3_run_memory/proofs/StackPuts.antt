-- What the stacks and the memory outside hold after a word was put.
use Rattle.std.specs.Prelude.{ℕ, zero, suc, ◌≡◌, ◌≢◌, ◌<◌, ◌≤◌, ◌^◌, ◌==◌, ◌&&◌, nat_le, nat_lt, Bool, true, false, List, [], ◌∷◌, length, Option, Some, slice_index, slice_index_or, slice_set}
use Rattle.std.proofs.Common.{refl, sym, ap, ◌∙◌, arith, cond, ⊎_elim, length-set}
use Rattle.std.proofs.lemmas.Bool.{cases_Bool, cases_eq, eq-eqb, ne_eqb, false≢true}
use Rattle.std.proofs.lemmas.Bool.Decides.{nat_tests}
use Rattle.m3_isa.specs.Memory.{Memory}
use Rattle.m3_threads.specs.All.{Everyone, stack_in, with_stack}
use Rattle.m3_threads.specs.Spaces.{slot_at, place_at, is_in_stack, held, put_inside, put_outside}
use Rattle.m3_run_memory.specs.Kept.{depths, KeepsStacks}

-- ---- one list of lists

word-same : (ws : List ℕ) (i w : ℕ) → i < length ws → slice_index (slice_set ws i w) i ≡ w
word-same [] i w h = absurd (omega arith)
word-same (x ∷ xs) zero w h = refl
word-same (x ∷ xs) (suc i) w h = word-same xs i w (omega arith)

word-other : (ws : List ℕ) (i j w : ℕ) → j ≢ i → slice_index (slice_set ws i w) j ≡ slice_index ws j
word-other [] i j w n = refl
word-other (x ∷ xs) zero zero w n = absurd (n refl)
word-other (x ∷ xs) zero (suc j) w n = refl
word-other (x ∷ xs) (suc i) zero w n = refl
word-other (x ∷ xs) (suc i) (suc j) w n = word-other xs i j w (λ e. n (ap suc e))

list-same : (ls : List (List ℕ)) (s : ℕ) (ws : List ℕ) → 0 < length (slice_index_or ls s []) → slice_index_or (slice_set ls s ws) s [] ≡ ws
list-same [] s ws h = absurd (omega arith)
list-same (l ∷ ls) zero ws h = refl
list-same (l ∷ ls) (suc s) ws h = list-same ls s ws h

list-other : (ls : List (List ℕ)) (s t : ℕ) (ws : List ℕ) → t ≢ s → slice_index_or (slice_set ls s ws) t [] ≡ slice_index_or ls t []
list-other [] s t ws n = refl
list-other (l ∷ ls) zero zero ws n = absurd (n refl)
list-other (l ∷ ls) zero (suc t) ws n = refl
list-other (l ∷ ls) (suc s) zero ws n = refl
list-other (l ∷ ls) (suc s) (suc t) ws n = list-other ls s t ws (λ e. n (ap suc e))

same-length : (ls : List (List ℕ)) (s t i w : ℕ) → length (slice_index_or (slice_set ls s (slice_set (slice_index_or ls s []) i w)) t []) ≡ length (slice_index_or ls t [])
same-length [] s t i w = refl
same-length (l ∷ ls) zero zero i w = length-set l i w
same-length (l ∷ ls) zero (suc t) i w = refl
same-length (l ∷ ls) (suc s) zero i w = refl
same-length (l ∷ ls) (suc s) (suc t) i w = same-length ls s t i w

same-depths : (ls : List (List ℕ)) (s i w : ℕ) → depths (slice_set ls s (slice_set (slice_index_or ls s []) i w)) ≡ depths ls
same-depths [] s i w = refl
same-depths (l ∷ ls) zero i w = ap (λ n. n ∷ depths ls) (length-set l i w)
same-depths (l ∷ ls) (suc s) i w = ap (λ ds. length l ∷ ds) (same-depths ls s i w)

-- ---- all stacks

-- the stacks with a word set in one, whether or not it is there
set_word : Everyone → ℕ → ℕ → Everyone
set_word all at w = with_stack all (slot_at at) (slice_set (stack_in all (slot_at at)) (place_at at) w)

in-stack-set : (all : Everyone) (at w x : ℕ) → is_in_stack (set_word all at w) x ≡ is_in_stack all x
unfolding set_word
in-stack-set all at w x = ap (λ n. nat_le (2 ^ 40) x && (nat_lt (slot_at x) 64 && nat_lt (place_at x) n)) (same-length all.stacks (slot_at at) (slot_at x) (place_at at) w)

pub in-stack-put : (all : Everyone) (at w x : ℕ) → is_in_stack (put_inside all at w) x ≡ is_in_stack all x
unfolding set_word
in-stack-put all at w x = elim (is_in_stack all at) as (λ b. is_in_stack (cond b (set_word all at w) all) x ≡ is_in_stack all x) [
  | true ↦ in-stack-set all at w x
  | false ↦ refl
]

pub keeps-put : (all : Everyone) (at w : ℕ) → KeepsStacks all (put_inside all at w)
unfolding set_word
keeps-put all at w = elim (is_in_stack all at) as (λ b. KeepsStacks all (cond b (set_word all at w) all)) [
  | true ↦ record { same_depths = same-depths all.stacks (slot_at at) (place_at at) w; rest = refl }
  | false ↦ record { same_depths = refl; rest = refl }
]

-- ---- one address

here : Everyone → ℕ → Option ℕ
here all x = Some (slice_index (stack_in all (slot_at x)) (place_at x))

within : (at n : ℕ) → (nat_le (2 ^ 40) at && (nat_lt (slot_at at) 64 && nat_lt (place_at at) n)) ≡ true → place_at at < n
within at n e = grind (arith, nat_tests)

high : (at n : ℕ) → (nat_le (2 ^ 40) at && (nat_lt (slot_at at) 64 && nat_lt (place_at at) n)) ≡ true → 2 ^ 40 ≤ at
high at n e = grind (arith, nat_tests)

one-address : (x at : ℕ) → 2 ^ 40 ≤ x → 2 ^ 40 ≤ at → slot_at x ≡ slot_at at → place_at x ≡ place_at at → x ≡ at
one-address x at hx ha s p = omega arith

stored-same : (all : Everyone) (at w : ℕ) → is_in_stack all at ≡ true → here (set_word all at w) at ≡ Some w
unfolding here set_word
stored-same all at w hit =
    let inside = within at (length (stack_in all (slot_at at))) hit in
    ap (λ ws. Some (slice_index ws (place_at at))) (list-same all.stacks (slot_at at) (slice_set (stack_in all (slot_at at)) (place_at at) w) (omega (arith, inside)))
    ∙ ap Some (word-same (stack_in all (slot_at at)) (place_at at) w inside)

stored-other : (all : Everyone) (at w x : ℕ) → is_in_stack all at ≡ true → is_in_stack all x ≡ true → x ≢ at → here (set_word all at w) x ≡ here all x
unfolding here set_word
stored-other all at w x hit there other =
    let words = stack_in all (slot_at at) in
    let inside = within at (length words) hit in
    ⊎_elim
    (λ (same : slot_at x ≡ slot_at at).
    let apart : place_at x ≢ place_at at = λ e. other (one-address x at (high x (length (stack_in all (slot_at x))) there) (high at (length words) hit) same e) in
    ap (λ s. Some (slice_index (slice_index_or (slice_set all.stacks (slot_at at) (slice_set words (place_at at) w)) s []) (place_at x))) same
    ∙ ap (λ ws. Some (slice_index ws (place_at x))) (list-same all.stacks (slot_at at) (slice_set words (place_at at) w) (omega (arith, inside)))
    ∙ ap Some (word-other words (place_at at) (place_at x) w apart)
    ∙ ap (λ s. Some (slice_index (slice_index_or all.stacks s []) (place_at x))) (sym same))
    (λ (apart : slot_at x ≢ slot_at at).
    ap (λ ws. Some (slice_index ws (place_at x))) (list-other all.stacks (slot_at at) (slot_at x) (slice_set words (place_at at) w) apart))
    (cases_eq (slot_at x) (slot_at at))

-- ---- all addresses

stored-in-stack : (all : Everyone) (m other : Memory) (at w x : ℕ) → is_in_stack all at ≡ true → other x ≡ m x → held (set_word all at w) other x ≡ cond (x == at) (Some w) (held all m x)
unfolding here set_word
stored-in-stack all m other at w x hit e =
    ap (λ b. cond b (here (set_word all at w) x) (other x)) (in-stack-set all at w x)
    ∙ ⊎_elim
    (λ (same : x ≡ at).
    ap (λ b. cond b (here (set_word all at w) x) (other x)) (ap (λ y. is_in_stack all y) same ∙ hit)
    ∙ ap (λ y. here (set_word all at w) y) same ∙ stored-same all at w hit ∙ sym (ap (λ b. cond b (Some w) (held all m x)) (eq-eqb x at same)))
    (λ (apart : x ≢ at).
    ⊎_elim
    (λ (there : is_in_stack all x ≡ true).
    ap (λ b. cond b (here (set_word all at w) x) (other x)) there ∙ stored-other all at w x hit there apart ∙ sym (ap (λ b. cond b (here all x) (m x)) there))
    (λ (out : is_in_stack all x ≡ false).
    ap (λ b. cond b (here (set_word all at w) x) (other x)) out ∙ e ∙ sym (ap (λ b. cond b (here all x) (m x)) out))
    (cases_Bool (is_in_stack all x))
    ∙ sym (ap (λ b. cond b (Some w) (held all m x)) (ne_eqb x at apart)))
    (cases_eq x at)

stored-outside : (all : Everyone) (m other : Memory) (at w x : ℕ) → is_in_stack all at ≡ false → other x ≡ cond (x == at) (Some w) (m x) → held all other x ≡ cond (x == at) (Some w) (held all m x)
unfolding here
stored-outside all m other at w x miss e = ⊎_elim
    (λ (there : is_in_stack all x ≡ true).
    let apart : x ≢ at = λ same. false≢true (sym miss ∙ sym (ap (λ y. is_in_stack all y) same) ∙ there) in
    ap (λ b. cond b (here all x) (other x)) there ∙ sym (ap (λ b. cond b (here all x) (m x)) there) ∙ sym (ap (λ b. cond b (Some w) (held all m x)) (ne_eqb x at apart)))
    (λ (out : is_in_stack all x ≡ false).
    ap (λ b. cond b (here all x) (other x)) out ∙ e ∙ ap (λ o. cond (x == at) (Some w) o) (sym (ap (λ b. cond b (here all x) (m x)) out)))
    (cases_Bool (is_in_stack all x))

pub stored_in_memory : (all new : Everyone) (m other : Memory) (at w x : ℕ) → new ≡ put_inside all at w → other x ≡ put_outside all m at w x → held new other x ≡ cond (x == at) (Some w) (held all m x)
unfolding set_word
stored_in_memory all new m other at w x is e = ⊎_elim
    (λ (hit : is_in_stack all at ≡ true).
    ap (λ a. held a other x) (is ∙ ap (λ b. cond b (set_word all at w) all) hit)
    ∙ stored-in-stack all m other at w x hit (e ∙ ap (λ b. (cond b m (λ y. cond (y == at) (Some w) (m y))) x) hit))
    (λ (miss : is_in_stack all at ≡ false).
    ap (λ a. held a other x) (is ∙ ap (λ b. cond b (set_word all at w) all) miss)
    ∙ stored-outside all m other at w x miss (e ∙ ap (λ b. (cond b m (λ y. cond (y == at) (Some w) (m y))) x) miss))
    (cases_Bool (is_in_stack all at))

-- ---- whether or not it was put

with-stacks : Everyone → List (List ℕ) → Everyone
with-stacks all stacks = record all { stacks = stacks }

transport-keeps : (all new put : Everyone) → new ≡ put → KeepsStacks all put → KeepsStacks all new
unfolding with-stacks
transport-keeps all new put is k = record {
  same_depths = ap (λ (a : Everyone). depths a.stacks) is ∙ k.same_depths;
  rest = is ∙ k.rest ∙ ap (λ (a : Everyone). with-stacks all a.stacks) (sym is);
}

pub keeps_stacks : (all new : Everyone) (at w : ℕ) (b : Bool) → (b ≡ true → new ≡ put_inside all at w) → (b ≡ false → new ≡ all) → KeepsStacks all new
keeps_stacks all new at w b put refused = ⊎_elim
    (λ (yes : b ≡ true). transport-keeps all new (put_inside all at w) (put yes) (keeps-put all at w))
    (λ (no : b ≡ false). transport-keeps all new all (refused no) (record { same_depths = refl; rest = refl }))
    (cases_Bool b)

pub same_in_stack : (all new : Everyone) (at w x : ℕ) (b : Bool) → (b ≡ true → new ≡ put_inside all at w) → (b ≡ false → new ≡ all) → is_in_stack new x ≡ is_in_stack all x
same_in_stack all new at w x b put refused = ⊎_elim
    (λ (yes : b ≡ true). ap (λ a. is_in_stack a x) (put yes) ∙ in-stack-put all at w x)
    (λ (no : b ≡ false). ap (λ a. is_in_stack a x) (refused no))
    (cases_Bool b)
