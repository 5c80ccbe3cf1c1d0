-- What is known: questions with their answers.
use Rattle.std.specs.Prelude.{ℕ, ◌==◌, ◌&&◌, not, Bool, true, false, List, [], ◌∷◌, Option, Some, None, if◌then◌else◌}
use Rattle.m3_mid.specs.declared.ops.Relation.{Relation}
use Rattle.m3_same_forms.specs.declared.forms.Symbol.TheVariants as symbols
use Rattle.m3_same_forms.specs.declared.forms.Tag.{Tag}
use Rattle.m3_same_forms.specs.declared.forms.Tag.TheVariants as tags
use Rattle.m3_same_forms.specs.Forms.{Form, Query, Known, same_form, of_symbol}
use Rattle.m3_same_forms.specs.Seen.{asks}
use Rattle.m3_same_forms.specs.Same.{same_tag}

abbrev pub same_query : Query → Query → Bool
same_query x y =
    same_tag x.tag y.tag && same_form x.first y.first && same_form x.second y.second
    && same_form x.third y.third

abbrev pub known : Query → List Known → Option Form
known query [] = None
known query (x ∷ xs) = if same_query x.query query then Some x.value else known query xs

abbrev pub is_form : Form → Option Form → Bool
is_form a None = false
is_form a (Some b) = same_form a b

-- the relation is known to hold
abbrev pub holds : Relation → Form → Form → List Known → Bool
holds relation a b knowns =
    is_form (of_symbol symbols.One) (known (asks (tags.Compared relation) a b []) knowns)

-- ---- what is forgotten: when memory changes, what was read in it; when a slot of the activation's
-- own does, what was in it

abbrev pub lasts : Tag → Bool
lasts (tags.Operator operator) = true
lasts (tags.Checked operator) = true
lasts (tags.Compared relation) = true
lasts tags.Environment = true
lasts (tags.OwnSlot n) = true
lasts _ = false

abbrev pub is_other_slot : ℕ → Tag → Bool
is_other_slot n (tags.OwnSlot m) = not (m == n)
is_other_slot n _ = true

-- what lasts when memory changes, or when an own slot does
abbrev pub stays : Option ℕ → Tag → Bool
stays None = lasts
stays (Some n) = is_other_slot n

abbrev pub kept : (Tag → Bool) → List Known → List Known
kept lasting [] = []
kept lasting (x ∷ xs) =
    if lasting x.query.tag then x ∷ kept lasting xs else kept lasting xs
