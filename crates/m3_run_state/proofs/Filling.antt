-- Words that are put one after another, behind the header of a new cell.
use Rattle.std.specs.Prelude.{ℕ, ◌≡◌, ◌≢◌, ◌+◌, ◌-◌, ◌<◌, ◌≤◌, ◌==◌, true, false, List, [], length, take, Some, slice_get, slice_index}
use Rattle.std.proofs.Common.{refl, sym, ap, ◌∙◌, arith, cond, ⊎_elim, get_or-take, length-take-le, eq-eqb}
use Rattle.std.proofs.lemmas.Bool.{cases_Bool, cases_eq, ne_eqb}
use Rattle.std.proofs.lemmas.Bool.Decides.{nat_tests}
use Rattle.std.proofs.lemmas.Option.{slice_get-get_or}
use Rattle.m3_isa.specs.Memory.{Memory, put}
use Rattle.m3_heap.specs.Heap.{Heap}
use Rattle.m3_threads.specs.All.{Everyone, thread_named}
use Rattle.m3_threads.specs.declared.status.Thread.{Thread}
use Rattle.m3_run_memory.specs.Addresses.{is_from}
use Rattle.m3_image_sections.specs.Parts.{Program}
use Rattle.m3_run_meaning.specs.State.{State, HasOtherWords, memory_of}
use Rattle.m3_run_meaning.specs.NewTexts.{with_words}

-- no words
none_at : (from x : ℕ) → is_from from 0 x ≡ false
none_at from x = grind (arith, nat_tests)

pub with_none : (from : ℕ) (m : Memory) (x : ℕ) → with_words from [] m x ≡ m x
with_none from m x = ap (λ b. cond b (slice_get [] (x - from)) (m x)) (none_at from x)

is_in : (from n x : ℕ) → from ≤ x → x < from + n → is_from from n x ≡ true
is_in from n x low high = grind (arith, nat_tests)

is_out : (from n x : ℕ) → is_from from n x ≡ false → x ≢ from + n → is_from from (n + 1) x ≡ false
is_out from n x out other = grind (arith, nat_tests)

low_of : (from n x : ℕ) → is_from from n x ≡ true → from ≤ x
low_of from n x e = grind (arith, nat_tests)

high_of : (from n x : ℕ) → is_from from n x ≡ true → x < from + n
high_of from n x e = grind (arith, nat_tests)

got : (n : ℕ) (ws : List ℕ) (k : ℕ) → n ≤ length ws → k < n → slice_get (take n ws) k ≡ Some (slice_index ws k)
got n ws k long within =
    let short : length (take n ws) ≡ n = length-take-le n ws long in
    slice_get-get_or (take n ws) k 0 (omega (arith, short)) ∙ ap (λ (w : ℕ). Some w) (get_or-take n ws k 0 within)

-- one word more
pub with_more : (from n : ℕ) (ws : List ℕ) (m : Memory) (x : ℕ) → n < length ws → with_words from (take (n + 1) ws) m x ≡ put (with_words from (take n ws) m) (from + n) (slice_index ws n) x
with_more from n ws m x h =
    let short : length (take n ws) ≡ n = length-take-le n ws (omega arith) in
    let longer : length (take (n + 1) ws) ≡ n + 1 = length-take-le (n + 1) ws (omega arith) in
    let as-long = ap (λ k. cond (is_from from k x) (slice_get (take (n + 1) ws) (x - from)) (m x)) longer in
    let as-short = ap (λ k. cond (is_from from k x) (slice_get (take n ws) (x - from)) (m x)) short in
    ⊎_elim
    (λ (same : x ≡ from + n).
    let place : x - from ≡ n = omega arith in
    as-long ∙ ap (λ b. cond b (slice_get (take (n + 1) ws) (x - from)) (m x)) (is_in from (n + 1) x (omega arith) (omega arith))
    ∙ ap (λ k. slice_get (take (n + 1) ws) k) place ∙ got (n + 1) ws n (omega arith) (omega arith)
    ∙ sym (ap (λ b. cond b (Some (slice_index ws n)) (with_words from (take n ws) m x)) (eq-eqb x (from + n) same)))
    (λ (other : x ≢ from + n).
    as-long
    ∙ ⊎_elim
    (λ (inside : is_from from n x ≡ true).
    let low = low_of from n x inside in
    let high = high_of from n x inside in
    ap (λ b. cond b (slice_get (take (n + 1) ws) (x - from)) (m x)) (is_in from (n + 1) x low (omega (arith, high)))
    ∙ got (n + 1) ws (x - from) (omega arith) (omega (arith, low, high)) ∙ sym (got n ws (x - from) (omega arith) (omega (arith, low, high)))
    ∙ sym (ap (λ b. cond b (slice_get (take n ws) (x - from)) (m x)) inside))
    (λ (outside : is_from from n x ≡ false).
    ap (λ b. cond b (slice_get (take (n + 1) ws) (x - from)) (m x)) (is_out from n x outside other)
    ∙ sym (ap (λ b. cond b (slice_get (take n ws) (x - from)) (m x)) outside))
    (cases_Bool (is_from from n x))
    ∙ sym as-short
    ∙ sym (ap (λ b. cond b (Some (slice_index ws n)) (with_words from (take n ws) m x)) (ne_eqb x (from + n) other)))
    (cases_eq x (from + n))

-- a memory in which words were put has one more
pub fill_step : (p : Program) (now new : State) (m : Memory) (from n : ℕ) (ws : List ℕ) (x : ℕ) → n < length ws → memory_of p now x ≡ with_words from (take n ws) m x
    → memory_of p new x ≡ put (memory_of p now) (from + n) (slice_index ws n) x → memory_of p new x ≡ with_words from (take (n + 1) ws) m x
fill_step p now new m from n ws x within was is = is ∙ ap (λ o. cond (x == from + n) (Some (slice_index ws n)) o) was ∙ sym (with_more from n ws m x within)

-- a word was put, by programs that are the same
pub put_there : (p q r : Program) (now new : State) (at word size x : ℕ) → q ≡ p → r ≡ p → word ≡ size → memory_of r new x ≡ put (memory_of q now) at word x → memory_of p new x ≡ put (memory_of p now) at size x
put_there p q r now new at word size x same-before same-after same-word h =
    sym (ap (λ (z : Program). memory_of z new x) same-after) ∙ h
    ∙ ap (λ (z : Program). put (memory_of z now) at word x) same-before ∙ ap (λ (w : ℕ). put (memory_of p now) at w x) same-word

-- ---- what stays

with-stacks : Everyone → List (List ℕ) → Everyone
with-stacks all stacks = record all { stacks = stacks }

again : Heap → Heap → Heap
again heap new = record heap { cells = new.cells; watched = new.watched }

parts-in : State → State → State
parts-in s u = record s { all = u.all; globals = u.globals; heap = u.heap }

pub others_itself : (s : State) → HasOtherWords s s
others_itself s = record {
  all = record { same_depths = refl; rest = refl };
  globals = refl;
  heap = record { same_layout = refl; rest = refl; watched = λ e. refl };
  rest = refl;
}

pub others_on : (s t u : State) → HasOtherWords s t → HasOtherWords t u → HasOtherWords s u
unfolding with-stacks again parts-in
others_on s t u p q = record {
  all = record {
    same_depths = q.all.same_depths ∙ p.all.same_depths;
    rest = q.all.rest ∙ ap (λ (x : Everyone). with-stacks x u.all.stacks) p.all.rest;
  };
  globals = q.globals ∙ p.globals;
  heap = record {
    same_layout = q.heap.same_layout ∙ p.heap.same_layout;
    rest = q.heap.rest ∙ ap (λ (h : Heap). again h u.heap) p.heap.rest;
    watched = λ e. q.heap.watched (ap (λ (h : Heap). h.nursery) p.heap.rest ∙ e) ∙ p.heap.watched e;
  };
  rest = q.rest ∙ ap (λ (x : State). parts-in x u) p.rest;
}

-- the running thread is found where the words alone are other
pub still_running : (s u : State) (t : Thread) → HasOtherWords s u → thread_named s.all s.running ≡ Some t → thread_named u.all u.running ≡ Some t
still_running s u t p found =
    let same-running : u.running ≡ s.running = ap (λ (x : State). x.running) p.rest in
    ap (λ (n : ℕ). thread_named u.all n) same-running ∙ ap (λ (a : Everyone). thread_named a s.running) p.all.rest ∙ found
