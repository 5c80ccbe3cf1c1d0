-- How the pointers of a value are told: a list of work that is still to be done, the last task first.
use Rattle.std.specs.Prelude.{◌≡◌, ℕ, zero, suc, ◌+◌, ◌-◌, ◌*◌, ◌<◌, ◌≤◌, ◌^◌, List, [], ◌∷◌, ◌++◌, length, take, drop, All, Bool, true, false, Option, Some, None}
use Rattle.std.specs.Option.{option_map_or}
use Rattle.std.specs.Ordering.{nat_cmp}
use Rattle.std.specs.BTreeMap.{BTreeMap, get}
use Rattle.m3_types.specs.declared.nodes.Field.{Field}
use Rattle.m3_types.specs.declared.nodes.TypeNode.{TypeNode}
use Rattle.m3_types.specs.declared.nodes.TypeNode.TheVariants.{Fields, FixedArray}
use Rattle.m3_types.specs.Definitions.{node_at, head_at}
use Rattle.m3_types.specs.Kinds.{size_of}
use Rattle.m3_types_sizes.specs.Sizes.{field_words, EachField, HasSize, IsSized}
use Rattle.m3_layout.specs.declared.walk.Run.{Run}
use Rattle.m3_layout.specs.declared.walk.Whole.{Whole}
use Rattle.m3_layout.specs.declared.walk.Task.{Task}
use Rattle.m3_layout.specs.declared.walk.Task.TheVariants.{OneValue, FieldsFrom, ElementsLeft}
use Rattle.m3_layout.specs.Pointers.{field_pointers, element_pointers}
use Rattle.m3_layout.specs.Depths.{value_words, value_pointers}

-- the fields of a record type
abbrev pub fields_in : Option TypeNode → List Field
fields_in (Some (Fields fields)) = fields.now
fields_in _ = []

abbrev pub is_record : Option TypeNode → Bool
is_record (Some (Fields fields)) = true
is_record _ = false

-- the index type and the element type of a fixed array
abbrev pub array_parts : Option TypeNode → Option (ℕ × ℕ)
array_parts (Some (FixedArray index element)) = Some (index.0, element.0)
array_parts _ = None

abbrev pub fields_at : List TypeNode → ℕ → List Field
fields_at nodes i = fields_in (node_at nodes i)

-- the pointers that a task still tells
abbrev pub task_pointers : List TypeNode → Task → List ℕ
task_pointers nodes (OneValue t at) = value_pointers nodes at t.0
task_pointers nodes (FieldsFrom whole next at) = field_pointers (value_words nodes) (value_pointers nodes) at (drop next (fields_at nodes whole.kind.0))
task_pointers nodes (ElementsLeft whole element left at) = element_pointers (value_words nodes element.0) (λ k. value_pointers nodes k element.0) at left

-- what a task goes through has a size, and ends below 2 ^ 64
abbrev pub IsReady : List TypeNode → Task → Type 0
IsReady nodes (OneValue t at) = IsSized nodes (length nodes) t.0 × (at + value_words nodes t.0 < 2 ^ 64)
IsReady nodes (FieldsFrom whole next at) = EachField (HasSize nodes) (drop next (fields_at nodes whole.kind.0)) × (at + field_words (value_words nodes) (drop next (fields_at nodes whole.kind.0)) < 2 ^ 64)
IsReady nodes (ElementsLeft whole element left at) = IsSized nodes (length nodes) element.0 × (at + left * value_words nodes element.0 < 2 ^ 64)

-- what all tasks of a list still tell
abbrev pub pending : List TypeNode → List Task → List ℕ
pending nodes [] = []
pending nodes (task ∷ tasks) = pending nodes tasks ++ task_pointers nodes task

-- The list has the first pointers of a whole value, and these are the rest of them.
abbrev pub IsOpen : List TypeNode → List ℕ → Whole → List ℕ → Type 0
IsOpen nodes offsets whole rest = (whole.start ≤ length offsets) × (drop whole.start offsets ++ rest ≡ value_pointers nodes whole.at whole.kind.0)

abbrev pub IsBegun : List TypeNode → List ℕ → Task → List ℕ → Type 0
IsBegun nodes offsets (OneValue t at) rest = Unit {0}
IsBegun nodes offsets (FieldsFrom whole next at) rest = IsOpen nodes offsets whole rest
IsBegun nodes offsets (ElementsLeft whole element left at) rest = IsOpen nodes offsets whole rest

-- each task, with those after it, tells the rest of the whole value that it belongs to
abbrev pub AreBegun : List TypeNode → List ℕ → List Task → Type 0
AreBegun nodes offsets [] = Unit {0}
AreBegun nodes offsets (task ∷ tasks) = IsBegun nodes offsets task (pending nodes tasks ++ task_pointers nodes task) × AreBegun nodes offsets tasks

-- the part of a list that a run names
abbrev pub run_of : List ℕ → Run → List ℕ
run_of offsets run = take (run.end - run.start) (drop run.start offsets)

-- the run names the pointers of a value of the type
pub record IsRun (nodes : List TypeNode) (offsets : List ℕ) (i : ℕ) (run : Run) : Type 0 where
  pub ordered : run.start ≤ run.end
  pub within : run.end ≤ length offsets
  pub right : run_of offsets run ≡ value_pointers nodes run.at i

abbrev pub AreRuns : List TypeNode → List ℕ → BTreeMap ℕ Run → Type 0
AreRuns nodes offsets runs = (i : ℕ) (run : Run) → get nat_cmp runs i ≡ Some run → IsRun nodes offsets i run

pub record IsWalk (nodes : List TypeNode) (offsets : List ℕ) (tasks : List Task) (runs : BTreeMap ℕ Run) : Type 0 where
  pub ready : All (IsReady nodes) tasks
  pub begun : AreBegun nodes offsets tasks
  pub known : AreRuns nodes offsets runs

-- ---- how much work there is

abbrev pub effort_of_node : List TypeNode → (ℕ → ℕ) → TypeNode → ℕ
effort_of_node nodes e (Fields fields) = 2 + field_words (λ i. 1 + e i) fields.now
effort_of_node nodes e (FixedArray index element) = 2 + size_of (head_at nodes index.0) * (1 + e element.0)
effort_of_node nodes e _ = 1

abbrev pub effort_to_depth : List TypeNode → ℕ → ℕ → ℕ
effort_to_depth nodes zero i = 1
effort_to_depth nodes (suc depth) i = option_map_or (effort_of_node nodes (effort_to_depth nodes depth)) (node_at nodes i) 1

abbrev pub value_effort : List TypeNode → ℕ → ℕ
value_effort nodes i = effort_to_depth nodes (length nodes) i

abbrev pub task_effort : List TypeNode → Task → ℕ
task_effort nodes (OneValue t at) = value_effort nodes t.0
task_effort nodes (FieldsFrom whole next at) = 1 + field_words (λ i. 1 + value_effort nodes i) (drop next (fields_at nodes whole.kind.0))
task_effort nodes (ElementsLeft whole element left at) = 1 + left * (1 + value_effort nodes element.0)

abbrev pub total_effort : List TypeNode → List Task → ℕ
total_effort nodes [] = 0
total_effort nodes (task ∷ tasks) = task_effort nodes task + total_effort nodes tasks
