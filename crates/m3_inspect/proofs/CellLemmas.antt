-- The number of a cell as its place in a list of keys; variables one list after another.
use Rattle.std.proofs.Common.{◌≡◌, ℕ, ◌+◌, ◌==◌, Bool, true, false, if◌then◌else◌, List, [], ◌∷◌, ◌++◌, refl, sym, ap, ◌∙◌, arith, append_assoc}
use Rattle.std.specs.List.{list_any, position_or_len}
use Rattle.indexmap.specs.IndexSet.{insert_key}
use Rattle.m3_inspect.specs.declared.values.VarValue.{VarValue}
use Rattle.m3_inspect.specs.Standing.{Holding}
use Rattle.m3_inspect.specs.Shown.{with_cell, cell_number, cells_with, shown_var, shown_vars, cells_after}

-- the number that the list of keys gives a cell, and the keys with it
number_by : (c : ℕ) (cells : List ℕ) (at : ℕ) → position_or_len (λ k. at == k) cells + 1 ≡ cell_number cells at → (b : Bool) → at == c ≡ b → position_or_len (λ k. at == k) (c ∷ cells) + 1 ≡ cell_number (c ∷ cells) at
number_by c cells at rest true e = rw e refl
number_by c cells at rest false e = rw e (omega (arith, rest))

pub number_inserted : (cells : List ℕ) (at : ℕ) → position_or_len (λ k. at == k) cells + 1 ≡ cell_number cells at
number_inserted [] at = refl
number_inserted (c ∷ cells) at = number_by c cells at (number_inserted cells at) (at == c) refl

behind_first : (c : ℕ) (cells more : List ℕ) (b : Bool) → (if b then c ∷ cells else c ∷ more) ≡ c ∷ (if b then cells else more)
behind_first c cells more true = refl
behind_first c cells more false = refl

with_by : (c : ℕ) (cells : List ℕ) (at : ℕ) → insert_key (λ a b. a == b) cells at ≡ with_cell cells at → (b : Bool) → at == c ≡ b → insert_key (λ a b. a == b) (c ∷ cells) at ≡ with_cell (c ∷ cells) at
with_by c cells at rest true e = rw e refl
with_by c cells at rest false e = rw e (behind_first c cells (cells ++ at ∷ []) (list_any (λ k. at == k) cells) ∙ ap (λ (cs : List ℕ). c ∷ cs) rest)

pub with_inserted : (cells : List ℕ) (at : ℕ) → insert_key (λ a b. a == b) cells at ≡ with_cell cells at
with_inserted [] at = refl
with_inserted (c ∷ cells) at = with_by c cells at (with_inserted cells at) (at == c) refl

-- ---- variables

pub shown_append : (cells : List ℕ) (hs gs : List Holding) → shown_vars cells (hs ++ gs) ≡ shown_vars cells hs ++ shown_vars (cells_after cells hs) gs
shown_append cells [] gs = refl
shown_append cells (h ∷ hs) gs = ap (λ (vs : List VarValue). shown_var cells h ∷ vs) (shown_append (cells_with cells h.form h.word) hs gs)

pub after_append : (cells : List ℕ) (hs gs : List Holding) → cells_after cells (hs ++ gs) ≡ cells_after (cells_after cells hs) gs
after_append cells [] gs = refl
after_append cells (h ∷ hs) gs = after_append (cells_with cells h.form h.word) hs gs

-- some variables are shown, and the rest is left
pub vars_more : (vars new total : List VarValue) (cells known : List ℕ) (hs gs : List Holding) → vars ++ shown_vars cells (hs ++ gs) ≡ total → new ≡ vars ++ shown_vars cells hs → known ≡ cells_after cells hs → new ++ shown_vars known gs ≡ total
vars_more vars new total cells known hs gs so_far one more =
    ap (λ (vs : List VarValue). vs ++ shown_vars known gs) one ∙ ap (λ (ks : List ℕ). (vars ++ shown_vars cells hs) ++ shown_vars ks gs) more ∙ append_assoc vars (shown_vars cells hs) (shown_vars (cells_after cells hs) gs)
    ∙ sym (ap (λ (vs : List VarValue). vars ++ vs) (shown_append cells hs gs)) ∙ so_far

pub cells_more : (cells known total : List ℕ) (hs gs : List Holding) → cells_after cells (hs ++ gs) ≡ total → known ≡ cells_after cells hs → cells_after known gs ≡ total
cells_more cells known total hs gs so_far more = ap (λ (ks : List ℕ). cells_after ks gs) more ∙ sym (after_append cells hs gs) ∙ so_far
