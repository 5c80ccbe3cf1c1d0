-- A root is visited.
use Rattle.std.proofs.Common.{◌≡◌, ℕ, ◌+◌, ◌/◌, Bool, true, List, Option, Some, None, refl, sym, ap, subst, ◌∙◌, arith}
use Rattle.std.specs.Prelude.{IsNone, IfSome, ◌↔◌}
use Rattle.std.specs.Option.{IfNone}
use Rattle.m3_heap.specs.Cells.{Cell, total_words}
use Rattle.m3_heap.specs.Moves.{Move, forwarded, with_kept, kept_words}
use Rattle.m3_heap.specs.Reach.{IsBadPointer}
use Rattle.m3_heap.specs.Heap.{Heap, settled, is_minor, IsSoundHeap}
use Rattle.m3_heap.specs.CollectorTracing.{old_cells, moves, Keeps}
use Rattle.m3_heap.proofs.SemiLemmas.{IsVisited, after-visit, with_kept-told, words-told, if-both}
use Rattle.m3_generational.specs.Remembering.{Remembering, watching}
use Rattle.m3_generational.specs.Collecting.{left_of, kept_of, ArePlaced, Forwards}
use Rattle.m3_generational.specs.Inside.{cells_seen, moves_seen, heap_seen, seen, AreCollecting, IsAsOpen, IsGenerations}
use Rattle.m3_generational.specs.declared.spaces.Spaces.{Spaces}
use Rattle.m3_generational.specs.declared.generations.Generations.TheInside.{Inside}
use Rattle.m3_generational.proofs.HeapLemmas.{plain, same-total}
use Rattle.m3_generational.proofs.BeginLemmas.{open-sound}

-- a heap of generations and what a visit makes of its parts
pub record IsVisit (i : Inside) (v : Remembering) (s : Spaces) (word : ℕ) (result : Option ℕ) (before after : ℕ) : Type 0 where
  pub invariant : IsGenerations i
  pub view : seen i ≡ v
  pub opened : v.heap.is_open ≡ true
  pub forwards : Forwards i.spaces s word result before after

pub visit-open : (i : Inside) (v : Remembering) (s : Spaces) (w : ℕ) (r : Option ℕ) (before after : ℕ) → IsVisit i v s w r before after → i.is_open ≡ true
visit-open i v s w r before after h = ap (λ (u : Remembering). u.heap.is_open) h.view ∙ h.opened

pub collecting : (i : Inside) → IsGenerations i → i.is_open ≡ true → AreCollecting i.spaces
collecting i h opened = let Q : Bool → Type 0 = λ b. IsAsOpen b i.spaces in subst Q opened h.as_open

visit-was : (i : Inside) (v : Remembering) (s : Spaces) (w : ℕ) (r : Option ℕ) (before after : ℕ) → IsVisit i v s w r before after → AreCollecting i.spaces
visit-was i v s w r before after h = collecting i h.invariant (visit-open i v s w r before after h)

visit-done : (i : Inside) (v : Remembering) (s : Spaces) (w : ℕ) (r : Option ℕ) (before after : ℕ) → IsVisit i v s w r before after → IsVisited (left_of i.spaces) (kept_of i.spaces) (left_of s) (kept_of s)
visit-done i v s w r before after h =
    let f = h.forwards.forwards in
    after-visit (left_of i.spaces) (kept_of i.spaces) (left_of s) (kept_of s) w r (visit-was i v s w r before after h).moving f.keeps f.left_stays f.kept_stays

pub visit-collecting : (i : Inside) (v : Remembering) (s : Spaces) (w : ℕ) (r : Option ℕ) (before after : ℕ) → IsVisit i v s w r before after → AreCollecting s
visit-collecting i v s w r before after h = record { moving = (visit-done i v s w r before after h).moving; keeping = h.forwards.keeping }

pub visit-sizes : (i : Inside) (v : Remembering) (s : Spaces) (w : ℕ) (r : Option ℕ) (before after : ℕ) → IsVisit i v s w r before after → s.here.size ≡ i.spaces.here.size
visit-sizes i v s w r before after h = (visit-done i v s w r before after h).left_size

-- the heap is as it was, but for the forwarding list
seen-again : (s s' left : Spaces) (marks : List Bool) (asked minors fulls : ℕ) (ms : List Move) → ArePlaced s → ArePlaced s' → s'.here.size ≡ s.here.size → s'.here.base ≡ s.here.base → total_words s'.nursery.cells ≡ total_words s.nursery.cells → cells_seen true s' ≡ cells_seen true s → moves_seen true s' left ≡ ms
    → heap_seen true s' left marks asked minors fulls ≡ record (heap_seen true s left marks asked minors fulls) { moves = ms }
seen-again s s' left marks asked minors fulls ms p p' size base young cells list =
    let n = marks in
    let nursery : s'.nursery.size ≡ s.nursery.size = p'.quarter ∙ ap (λ k. k / 4) size ∙ sym p.quarter in
    ap (λ k. watching n (settled (plain true (cells_seen true s') (moves_seen true s' left) asked k s'.here.base s'.nursery.size (total_words s'.nursery.cells) minors fulls))) size
    ∙ ap (λ k. watching n (settled (plain true (cells_seen true s') (moves_seen true s' left) asked s.here.size k s'.nursery.size (total_words s'.nursery.cells) minors fulls))) base
    ∙ ap (λ k. watching n (settled (plain true (cells_seen true s') (moves_seen true s' left) asked s.here.size s.here.base k (total_words s'.nursery.cells) minors fulls))) nursery
    ∙ ap (λ k. watching n (settled (plain true (cells_seen true s') (moves_seen true s' left) asked s.here.size s.here.base s.nursery.size k minors fulls))) young
    ∙ ap (λ l. watching n (settled (plain true l (moves_seen true s' left) asked s.here.size s.here.base s.nursery.size (total_words s.nursery.cells) minors fulls))) cells
    ∙ ap (λ l. watching n (settled (plain true (cells_seen true s) l asked s.here.size s.here.base s.nursery.size (total_words s.nursery.cells) minors fulls))) list

visit-heap : (i : Inside) (v : Remembering) (s : Spaces) (w : ℕ) (r : Option ℕ) (before after : ℕ) (ms : List Move) → IsVisit i v s w r before after → moves (left_of s) (kept_of s) ≡ ms
    → heap_seen i.is_open s i.left.value i.remembered i.asked i.minors i.fulls ≡ record v.heap { moves = ms }
visit-heap i v s w r before after ms h list =
    let opened = visit-open i v s w r before after h in
    let d = visit-done i v s w r before after h in
    let young = same-total i.spaces.nursery.cells s.nursery.cells h.forwards.young in
    ap (λ b. heap_seen b s i.left.value i.remembered i.asked i.minors i.fulls) opened
    ∙ seen-again i.spaces s i.left.value i.remembered i.asked i.minors i.fulls ms h.invariant.placed h.forwards.keeping.placed d.left_size d.left_base young d.same_cells list
    ∙ ap (λ b. record (heap_seen b i.spaces i.left.value i.remembered i.asked i.minors i.fulls) { moves = ms }) (sym opened)
    ∙ ap (λ (u : Remembering). record u.heap { moves = ms }) h.view

cells-then : (i : Inside) (v : Remembering) (s : Spaces) (w : ℕ) (r : Option ℕ) (before after : ℕ) → IsVisit i v s w r before after → old_cells (left_of i.spaces) (kept_of i.spaces) ≡ v.heap.cells
cells-then i v s w r before after h = ap (λ b. cells_seen b i.spaces) (sym (visit-open i v s w r before after h)) ∙ ap (λ (u : Remembering). u.heap.cells) h.view

moves-then : (i : Inside) (v : Remembering) (s : Spaces) (w : ℕ) (r : Option ℕ) (before after : ℕ) → IsVisit i v s w r before after → moves (left_of i.spaces) (kept_of i.spaces) ≡ v.heap.moves
moves-then i v s w r before after h = ap (λ b. moves_seen b i.spaces i.left.value) (sym (visit-open i v s w r before after h)) ∙ ap (λ (u : Remembering). u.heap.moves) h.view

pub visit-none : (i : Inside) (v : Remembering) (s : Spaces) (w : ℕ) (r : Option ℕ) (before after : ℕ) → IsVisit i v s w r before after → IsNone r ↔ IsBadPointer v.heap.cells w
visit-none i v s w r before after h =
    let P : List Cell → Type 0 = λ l. IsNone r ↔ IsBadPointer l w in
    subst P (cells-then i v s w r before after h) h.forwards.forwards.none

pub visit-value : (i : Inside) (v : Remembering) (s : Spaces) (w : ℕ) (r : Option ℕ) (before after : ℕ) → IsVisit i v s w r before after → IfSome r (λ to. to ≡ forwarded (heap_seen i.is_open s i.left.value i.remembered i.asked i.minors i.fulls).moves w)
visit-value i v s w r before after h =
    let P : Bool → Type 0 = λ b. IfSome r (λ to. to ≡ forwarded (moves_seen b s i.left.value) w) in
    subst P (sym (visit-open i v s w r before after h)) h.forwards.forwards.value

pub visit-kept : (i : Inside) (v : Remembering) (s : Spaces) (w : ℕ) (r : Option ℕ) (before after : ℕ) → IsVisit i v s w r before after
    → IfSome r (λ to. heap_seen i.is_open s i.left.value i.remembered i.asked i.minors i.fulls ≡ record v.heap { moves = with_kept v.heap.moves w to })
visit-kept i v s w r before after h =
    let l = left_of i.spaces in
    let k = kept_of i.spaces in
    if-both (Keeps l k (left_of s) (kept_of s) w) (λ to. to ≡ forwarded (moves (left_of s) (kept_of s)) w) (λ to. heap_seen i.is_open s i.left.value i.remembered i.asked i.minors i.fulls ≡ record v.heap { moves = with_kept v.heap.moves w to })
    r h.forwards.forwards.keeps h.forwards.forwards.value
    (λ to keeps is. visit-heap i v s w r before after (with_kept v.heap.moves w to) h (with_kept-told l k (left_of s) (kept_of s) w to keeps is ∙ ap (λ ms. with_kept ms w to) (moves-then i v s w r before after h)))

if-none : (A B C : Type 0) (o : Option ℕ) → IfNone o A → IfNone o B → (A → B → C) → IfNone o C
if-none A B C None a b f = f a b
if-none A B C (Some n) a b f = tt

pub visit-refused : (i : Inside) (v : Remembering) (s : Spaces) (w : ℕ) (r : Option ℕ) (before after : ℕ) → IsVisit i v s w r before after → IfNone r (heap_seen i.is_open s i.left.value i.remembered i.asked i.minors i.fulls ≡ v.heap)
visit-refused i v s w r before after h =
    let l = left_of i.spaces in
    let k = kept_of i.spaces in
    if-none (left_of s ≡ l) (kept_of s ≡ k) (heap_seen i.is_open s i.left.value i.remembered i.asked i.minors i.fulls ≡ v.heap) r h.forwards.forwards.left_stays h.forwards.forwards.kept_stays
    (λ el ek. visit-heap i v s w r before after v.heap.moves h (ap (λ x. moves x (kept_of s)) el ∙ ap (λ x. moves l x) ek ∙ moves-then i v s w r before after h))

pub visit-cost : (i : Inside) (v : Remembering) (s : Spaces) (w : ℕ) (r : Option ℕ) (before after : ℕ) → IsVisit i v s w r before after
    → after + kept_words v.heap.cells v.heap.moves ≡ before + kept_words v.heap.cells (heap_seen i.is_open s i.left.value i.remembered i.asked i.minors i.fulls).moves
visit-cost i v s w r before after h =
    let l = left_of i.spaces in
    let k = kept_of i.spaces in
    let opened = visit-open i v s w r before after h in
    let d = visit-done i v s w r before after h in
    let cells = cells-then i v s w r before after h in
    let was : kept_words v.heap.cells v.heap.moves ≡ total_words k.cells =
    ap (λ cs. kept_words cs v.heap.moves) (sym cells) ∙ ap (λ ms. kept_words (old_cells l k) ms) (sym (moves-then i v s w r before after h)) ∙ words-told l k (visit-was i v s w r before after h).moving.tracing in
    let now : kept_words v.heap.cells (moves_seen i.is_open s i.left.value) ≡ total_words (kept_of s).cells =
    ap (λ cs. kept_words cs (moves_seen i.is_open s i.left.value)) (sym cells) ∙ ap (λ b. kept_words (old_cells l k) (moves_seen b s i.left.value)) opened
    ∙ ap (λ cs. kept_words cs (moves (left_of s) (kept_of s))) (sym d.same_cells) ∙ words-told (left_of s) (kept_of s) d.moving.tracing in
    omega (arith, was, now, h.forwards.forwards.cost)

pub visit-sound : (i : Inside) (v : Remembering) (s : Spaces) (w : ℕ) (r : Option ℕ) (before after : ℕ) → IsVisit i v s w r before after → IsSoundHeap (heap_seen i.is_open s i.left.value i.remembered i.asked i.minors i.fulls)
visit-sound i v s w r before after h =
    let P : Bool → Type 0 = λ b. IsSoundHeap (heap_seen b s i.left.value i.remembered i.asked i.minors i.fulls) in
    subst P (sym (visit-open i v s w r before after h)) (open-sound s i.left.value i.remembered i.asked i.minors i.fulls (visit-collecting i v s w r before after h))

pub visit-mode : (i : Inside) (v : Remembering) (s : Spaces) (w : ℕ) (r : Option ℕ) (before after : ℕ) → IsVisit i v s w r before after → is_minor (heap_seen true s i.left.value i.remembered i.asked i.minors i.fulls) ≡ s.is_minor
visit-mode i v s w r before after h =
    let d = visit-done i v s w r before after h in
    let young = same-total i.spaces.nursery.cells s.nursery.cells h.forwards.young in
    ap (λ (k : Heap). is_minor k) (seen-again i.spaces s i.left.value i.remembered i.asked i.minors i.fulls (moves_seen true s i.left.value) h.invariant.placed h.forwards.keeping.placed d.left_size d.left_base young d.same_cells refl)
    ∙ h.invariant.mode (visit-open i v s w r before after h) ∙ sym h.forwards.mode
