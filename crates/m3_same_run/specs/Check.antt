-- THE CHECK: two blocks are run side by side on forms. The left procedure leads. What it computes is
-- known to the right one, which does nothing by itself that isn't known; all else both do together.
use Rattle.std.specs.Prelude.{ℕ, zero, suc, ◌==◌, ◌&&◌, Bool, true, false, List, [], ◌∷◌, Option, Some, None, if◌then◌else◌, slice_get}
use Rattle.m3_mid.specs.declared.procs.Slot.{Slot}
use Rattle.m3_mid.specs.declared.procs.Proc.{Proc}
use Rattle.m3_mid.specs.declared.procs.Block.{Block}
use Rattle.m3_mid.specs.declared.procs.End.{End}
use Rattle.m3_mid.specs.declared.procs.End.TheVariants as ends
use Rattle.m3_mid.specs.declared.calls.Raised.{Raised}
use Rattle.m3_mid.specs.declared.ops.Operand.{Operand}
use Rattle.m3_mid.specs.declared.ops.Relation.{Relation}
use Rattle.m3_mid.specs.declared.ops.MidOp.{MidOp}
use Rattle.m3_mid.specs.declared.ops.MidOp.TheVariants as ops
use Rattle.m3_same_forms.specs.declared.forms.Symbol.{Symbol}
use Rattle.m3_same_forms.specs.declared.forms.Symbol.TheVariants as symbols
use Rattle.m3_same_forms.specs.declared.forms.Tag.{Tag}
use Rattle.m3_same_forms.specs.declared.forms.Tag.TheVariants as tags
use Rattle.m3_same_forms.specs.declared.seen.Seen.{Seen}
use Rattle.m3_same_forms.specs.declared.seen.Seen.TheVariants.{Sets, Computes, Tries, Checks, Keeps, Changes, Points}
use Rattle.m3_same_forms.specs.Forms.{Form, Query, Known, Setting, Pair, merge, scaled, same_form, of_symbol}
use Rattle.m3_same_forms.specs.Sides.{form_at}
use Rattle.m3_same_forms.specs.Seen.{asks, operand_form, seen}
use Rattle.m3_same_forms.specs.Same.{same_checked, same_relation, same_deed, same_fault, same_place, same_slots, same_point}
use Rattle.m3_same_forms.specs.Facts.{known, is_form, holds, lasts, is_other_slot, kept}

-- where the two runs stand: what temporaries hold, newest first; what is known; how many words came
-- since the pair of blocks began; and what is left of the right block
pub record Standing : Type 0 where
  pub left : List Setting
  pub right : List Setting
  pub knowns : List Known
  pub fresh : ℕ
  pub ops : List MidOp
  pub end : End

abbrev pub left_form : Standing → ℕ → Form
left_form st t = form_at None st.left t

abbrev pub right_form : List Bool → Standing → ℕ → Form
right_form common st t = form_at (Some common) st.right t

abbrev pub setting : ℕ → Form → List Setting → List Setting
setting t a xs = record { temp = t; value = a } ∷ xs

abbrev pub set_left : Standing → ℕ → Form → Standing
set_left st t a = record st { left = setting t a st.left }

abbrev pub set_right : Standing → ℕ → Form → Standing
set_right st t a = record st { right = setting t a st.right }

abbrev pub learn : Standing → Query → Form → Standing
learn st query a = record st { knowns = record { query = query; value = a } ∷ st.knowns }

-- what is known no longer
abbrev pub forget : (Tag → Bool) → Standing → Standing
forget lasting st = record st { knowns = kept lasting st.knowns }

-- ---- the right one goes on by itself

abbrev pub at_ops : Standing → List MidOp → Standing
at_ops st rest = record st { ops = rest }

abbrev pub set_known : Option Form → ℕ → List MidOp → Standing → (Standing → Standing) → Standing
set_known None to stop st next = at_ops st stop
set_known (Some a) to stop st next = next (set_right st to a)

abbrev pub go_right : Seen → List MidOp → Standing → (Standing → Standing) → Standing
go_right (Sets to a) stop st next = next (set_right st to a)
go_right (Computes to query) stop st next = set_known (known query st.knowns) to stop st next
go_right (Tries to operator a b place) stop st next =
    set_known (known (asks (tags.Checked operator) a b []) st.knowns) to stop st next
go_right (Checks relation a b fault place) stop st next =
    if holds relation a b st.knowns then next st else at_ops st stop
go_right (Keeps n a) stop st next = at_ops st stop
go_right (Changes deed a b c) stop st next = at_ops st stop
go_right Points stop st next = at_ops st stop

abbrev pub advance : List Slot → List Bool → List MidOp → Standing → Standing
advance slots common [] st = at_ops st []
advance slots common (op ∷ rest) st =
    go_right (seen slots (right_form common st) op) (op ∷ rest) st (advance slots common rest)

abbrev pub in_block : Option Block → Standing → (Standing → Standing) → Standing
in_block None st next = st
in_block (Some block) st next = next (record st { ops = block.ops.now; end = block.end })

abbrev pub follow : Proc → List MidOp → End → Standing → (Standing → Standing) → Standing
follow q [] (ends.Goto b) st next = in_block (slice_get q.blocks.now b) st next
follow q _ _ st next = st

-- through so many jumps too
abbrev pub resolve : List Slot → List Bool → Proc → ℕ → Standing → Standing
resolve slots common q zero st = advance slots common st.ops st
resolve slots common q (suc n) st =
    let there = advance slots common st.ops st in
    follow q there.ops there.end there (resolve slots common q n)

-- ---- what both do

-- a word that is new
abbrev pub new_word : Standing → Standing
new_word st = record st { fresh = suc st.fresh }

abbrev pub newest : ℕ → Form
newest n = of_symbol (symbols.New n)

abbrev pub told : Option ℕ → ℕ → List Setting → List Setting
told None n xs = xs
told (Some t) n xs = setting t (newest n) xs

abbrev pub told_raised : Option Raised → (exception number tidy : ℕ) → List Setting → List Setting
told_raised None e m t xs = xs
told_raised (Some raised) e m t xs =
    setting raised.tidy (newest t)
    (setting raised.number (newest m) (setting raised.exception (newest e) xs))

-- The temporaries that an answer sets, by the words of its result, of the exception with its number
-- and its pointer, and of whether the exception is any.
abbrev pub answered_by : MidOp → (result exception number tidy any : ℕ) → List Setting → List Setting
answered_by (ops.Call callee row result raised shown) n e m t a xs =
    told_raised raised e m t (told result n xs)
answered_by (ops.Make to cell sizes shown) n e m t a xs = setting to (newest n) xs
answered_by (ops.Service service row to raised place shown) n e m t a xs =
    told raised a (told to n xs)
answered_by _ n e m t a xs = xs

-- by five words that are new
abbrev pub answered : MidOp → ℕ → List Setting → List Setting
answered op n xs =
    answered_by op n (suc n) (suc (suc n)) (suc (suc (suc n))) (suc (suc (suc (suc n)))) xs

abbrev pub passed : MidOp → MidOp → Standing → Standing
passed op op' st = record st {
  left = answered op st.fresh st.left;
  right = answered op' st.fresh st.right;
  knowns = kept lasts st.knowns;
  fresh = suc (suc (suc (suc (suc st.fresh))));
}

-- both set a temporary to what a checked operator gives
abbrev pub both_tried : ℕ → ℕ → Query → Standing → Standing
both_tried to to' query st =
    let a = newest st.fresh in set_right (set_left (learn (new_word st) query a) to a) to' a

abbrev pub when : Bool → Standing → Option Standing
when true st = Some st
when false st = None

abbrev pub points_matched : MidOp → MidOp → List Bool → Standing → Option Standing
points_matched op op' common st =
    when (same_point (left_form st) (right_form common st) op op') (passed op op' st)

abbrev pub matched : MidOp → MidOp → (f f' : ℕ → Form) → Seen → Seen → Standing → Option Standing
matched op op' f f' (Tries to o a b place) (Tries to' o' a' b' place') st =
    when (same_checked o o' && same_place place place' && same_form a a' && same_form b b')
    (both_tried to to' (asks (tags.Checked o) a b []) st)
matched op op' f f' (Checks r a b fault place) (Checks r' a' b' fault' place') st =
    when (same_relation r r' && same_fault fault fault' && same_place place place'
    && same_form a a' && same_form b b')
    (learn st (asks (tags.Compared r) a b []) (of_symbol symbols.One))
matched op op' f f' (Keeps n a) (Keeps n' a') st =
    when (n == n' && same_form a a')
    (learn (forget (is_other_slot n) st) (asks (tags.OwnSlot n) [] [] []) a)
matched op op' f f' (Changes deed a b c) (Changes deed' a' b' c') st =
    when (same_deed deed deed' && same_form a a' && same_form b b' && same_form c c')
    (forget lasts st)
matched op op' f f' Points Points st = when (same_point f f' op op') (passed op op' st)
matched op op' f f' _ _ st = None

abbrev pub with_right : List Slot → List Bool → MidOp → Seen → List MidOp → Standing → Option Standing
with_right slots common op x [] st = None
with_right slots common op x (op' ∷ rest) st =
    let f' = right_form common st in
    matched op op' (left_form st) f' x (seen slots f' op') (at_ops st rest)

-- the right one goes on by itself, and then both do the same
abbrev pub meeting : List Slot → List Bool → Proc → ℕ → MidOp → Seen → Standing → Option Standing
meeting slots common q jumps op x st =
    let there = resolve slots common q jumps st in with_right slots common op x there.ops there

-- ---- one operation of the left procedure

abbrev pub compute_left : Option Form → ℕ → Query → Standing → Standing
compute_left (Some a) to query st = set_left st to a
compute_left None to query st =
    let a = newest st.fresh in set_left (learn (new_word st) query a) to a

abbrev pub step_known : Option Form → ℕ → Standing → Option Standing → Option Standing
step_known (Some a) to st meets = Some (set_left st to a)
step_known None to st meets = meets

-- `meets`: what comes where both do the same
abbrev pub step_seen : Seen → Standing → Option Standing → Option Standing
step_seen (Sets to a) st meets = Some (set_left st to a)
step_seen (Computes to query) st meets = Some (compute_left (known query st.knowns) to query st)
step_seen (Tries to o a b place) st meets =
    step_known (known (asks (tags.Checked o) a b []) st.knowns) to st meets
step_seen (Checks r a b fault place) st meets = if holds r a b st.knowns then Some st else meets
step_seen _ st meets = meets

abbrev pub step : List Slot → List Bool → Proc → ℕ → MidOp → Standing → Option Standing
step slots common q jumps op st =
    let x = seen slots (left_form st) op in step_seen x st (meeting slots common q jumps op x st)

abbrev pub and_then : Option Standing → (Standing → Option Standing) → Option Standing
and_then None next = None
and_then (Some st) next = next st

abbrev pub steps : List Slot → List Bool → Proc → ℕ → List MidOp → Standing → Option Standing
steps slots common q jumps [] st = Some st
steps slots common q jumps (op ∷ rest) st =
    and_then (step slots common q jumps op st) (steps slots common q jumps rest)

-- ---- jumps

abbrev pub symbol_form : List Bool → Standing → Symbol → Form
symbol_form common st (symbols.Left t) = left_form st t
symbol_form common st (symbols.Right t) = right_form common st t
symbol_form common st (symbols.New n) = []
symbol_form common st symbol = of_symbol symbol

-- a form of a pair's entry, as it is now
abbrev pub now_onto : List Bool → Standing → Form → Form → Form
now_onto common st out [] = out
now_onto common st out (x ∷ xs) =
    now_onto common st (merge (scaled x.times (symbol_form common st x.symbol)) out) xs

abbrev pub form_now : List Bool → Standing → Form → Form
form_now common st a = now_onto common st [] a

abbrev pub query_now : List Bool → Standing → Query → Query
query_now common st x =
    asks x.tag (form_now common st x.first) (form_now common st x.second) (form_now common st x.third)

abbrev pub fits_at : List Bool → Standing → List Setting → ℕ → Bool
fits_at common st settings t =
    same_form (form_now common st (form_at (Some common) settings t)) (right_form common st t)

-- Each temporary that a list names is what the settings say.
abbrev pub all_fit : List Bool → Standing → List Setting → List Setting → Bool
all_fit common st settings [] = true
all_fit common st settings (x ∷ xs) =
    fits_at common st settings x.temp && all_fit common st settings xs

abbrev pub all_known : List Bool → Standing → List Known → Bool
all_known common st [] = true
all_known common st (x ∷ xs) =
    is_form (form_now common st x.value) (known (query_now common st x.query) st.knowns)
    && all_known common st xs

-- Each temporary of the left procedure that a list names holds what the list says.
abbrev pub all_left : List Bool → Standing → List Setting → Bool
all_left common st [] = true
all_left common st (x ∷ xs) =
    same_form (form_now common st x.value) (left_form st x.temp) && all_left common st xs

-- Only a temporary that was set on either side, or that the pair names, can be another one now.
abbrev pub enters_right : List Bool → Standing → Pair → Bool
enters_right common st pair =
    all_fit common st pair.settings pair.settings && all_fit common st pair.settings st.left
    && all_fit common st pair.settings st.right && all_known common st pair.knowns

abbrev pub enters : List Bool → Standing → Pair → Bool
enters common st pair =
    all_left common st pair.left_settings && enters_right common st pair

abbrev pub goes_to : List Bool → List Pair → ℕ → ℕ → Standing → Bool
goes_to common [] b b' st = false
goes_to common (pair ∷ pairs) b b' st =
    if pair.left == b && pair.right == b' then enters common st pair
    else goes_to common pairs b b' st

abbrev pub goes_at : List Bool → List Pair → ℕ → ℕ → Standing → Option Pair → Bool
goes_at common pairs b b' st None = goes_to common pairs b b' st
goes_at common pairs b b' st (Some pair) =
    if pair.left == b && pair.right == b' then enters common st pair
    else goes_to common pairs b b' st

-- The pair at the place of the left block is looked at first.
abbrev pub jumps_to : List Bool → List Pair → ℕ → ℕ → Standing → Bool
jumps_to common pairs b b' st = goes_at common pairs b b' st (slice_get pairs b)

-- ---- ends of blocks

abbrev pub same_words : List Bool → Standing → Operand → Operand → Bool
same_words common st a b =
    same_form (operand_form (left_form st) a) (operand_form (right_form common st) b)

abbrev pub same_value : List Bool → Standing → Option Operand → Option Operand → Bool
same_value common st None None = true
same_value common st (Some a) (Some b) = same_words common st a b
same_value common st _ _ = false

abbrev pub learn_test : Standing → Relation → Operand → Operand → Form → Standing
learn_test st relation a b value =
    let query = asks (tags.Compared relation) (operand_form (left_form st) a) (operand_form (left_form st) b) [] in
    learn st query value

abbrev pub end_with : List Bool → List Pair → End → End → Standing → Bool
end_with common proof (ends.Goto b) (ends.Goto b') st = jumps_to common proof b b' st
end_with common proof (ends.If r x y b c) (ends.If r' x' y' b' c') st =
    same_relation r r' && same_words common st x x' && same_words common st y y'
    && jumps_to common proof b b' (learn_test st r x y (of_symbol symbols.One))
    && jumps_to common proof c c' (learn_test st r x y [])
end_with common proof (ends.Return x) (ends.Return x') st = same_value common st x x'
end_with common proof (ends.FaultAt fault place) (ends.FaultAt fault' place') st =
    same_fault fault fault' && same_place place place'
end_with common proof (ends.Raise x y z) (ends.Raise x' y' z') st =
    same_words common st x x' && same_words common st y y' && same_words common st z z'
end_with common proof _ _ st = false

abbrev pub no_ops : List MidOp → Bool
no_ops [] = true
no_ops (op ∷ rest) = false

abbrev pub ended : List Bool → List Pair → End → Standing → Bool
ended common proof end there = no_ops there.ops && end_with common proof end there.end there

abbrev pub ends_so : List Slot → List Bool → List Pair → End → Option Standing → Bool
ends_so slots common proof end None = false
ends_so slots common proof end (Some st) =
    ended common proof end (advance slots common st.ops st)

-- ---- pairs

abbrev pub is_old : Symbol → Bool
is_old (symbols.New n) = false
is_old _ = true

abbrev pub old_form : Form → Bool
old_form [] = true
old_form (x ∷ xs) = is_old x.symbol && old_form xs

abbrev pub old_settings : List Setting → Bool
old_settings [] = true
old_settings (x ∷ xs) = old_form x.value && old_settings xs

abbrev pub old_both : Pair → Bool
old_both pair = old_settings pair.left_settings && old_settings pair.settings

abbrev pub old_query : Query → Bool
old_query x = old_form x.first && old_form x.second && old_form x.third

abbrev pub old_knowns : List Known → Bool
old_knowns [] = true
old_knowns (x ∷ xs) = old_query x.query && old_form x.value && old_knowns xs

abbrev pub standing_at : Pair → Block → Standing
standing_at pair block = record {
  left = pair.left_settings;
  right = pair.settings;
  knowns = pair.knowns;
  fresh = 0;
  ops = block.ops.now;
  end = block.end;
}

abbrev pub blocks_so : List Bool → Proc → Proc → ℕ → List Pair → Pair → Option Block → Option Block → Bool
blocks_so common p q jumps proof pair (Some block) (Some block') =
    let there = steps p.slots.now common q jumps block.ops.now (standing_at pair block') in
    ends_so p.slots.now common proof block.end there
blocks_so common p q jumps proof pair _ _ = false

abbrev pub pair_so : List Bool → Proc → Proc → ℕ → List Pair → Pair → Bool
pair_so common p q jumps proof pair =
    old_both pair && old_knowns pair.knowns
    && blocks_so common p q jumps proof pair (slice_get p.blocks.now pair.left) (slice_get q.blocks.now pair.right)

abbrev pub pairs_so : List Bool → Proc → Proc → ℕ → List Pair → List Pair → Bool
pairs_so common p q jumps proof [] = true
pairs_so common p q jumps proof (pair ∷ pairs) =
    pair_so common p q jumps proof pair && pairs_so common p q jumps proof pairs

abbrev pub no_settings : List Setting → Bool
no_settings [] = true
no_settings (x ∷ xs) = false

abbrev pub no_knowns : List Known → Bool
no_knowns [] = true
no_knowns (x ∷ xs) = false

abbrev pub no_facts : Pair → Bool
no_facts pair =
    no_settings pair.left_settings && no_settings pair.settings && no_knowns pair.knowns

-- the first pair with the two first blocks says nothing
abbrev pub starts : List Pair → ℕ → ℕ → Bool
starts [] b b' = false
starts (pair ∷ pairs) b b' =
    if pair.left == b && pair.right == b' then no_facts pair
    else starts pairs b b'

-- the frames are the same: the slots, and how many of them hold formals
abbrev pub same_frame : Proc → Proc → Bool
same_frame p q = p.formals == q.formals && same_slots p.slots.now q.slots.now

abbrev pub same_run : List Bool → Proc → Proc → ℕ → List Pair → Bool
same_run common p q jumps proof =
    same_frame p q && starts proof p.start q.start && pairs_so common p q jumps proof proof
