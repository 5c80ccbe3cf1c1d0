-- REACH, WORDS AND FRAMES: which cells a state still needs, how many words they take, and how many
-- the frames of a thread do. No run of the source ends for want of these; they say when the machine
-- may.
use Rattle.std.specs.Prelude.{ℕ, zero, suc, ◌+◌, ◌*◌, ◌==◌, ◌&&◌, ◌||◌, Bool, true, false, List, [], ◌∷◌, ◌++◌, length, take, sum_by, Option, Some}
use Rattle.std.specs.Option.{option_map_or}
use Rattle.std.specs.List.{list_any, flat_map, filter, range_with_len}
use Rattle.std.specs.Int.{div_ceil}
use Rattle.m3_types.specs.declared.nodes.TypeNode.{TypeNode}
use Rattle.m3_types.specs.declared.nodes.TypeNode.TheVariants as node
use Rattle.m3_types_sizes.specs.Sizes.{words_to_depth, field_words}
use Rattle.m3_runs.specs.Languages as asked
use Rattle.m3_runs.specs.Languages.{New, Cell, Concatenated, ByteText, Subtext, ThreadCell, Service, Action, Calls, Makes, Forks, Serves, Passes, Status, Ready, Wants, Waits, Joins, Thread, Parts}
use Rattle.m3_values.specs.Values.{Value, Values, End, More, Pointer, Record, Array}
use Rattle.m3_values.specs.Programs.{Program}
use Rattle.m3_values.specs.Types.{depth, node_of, open_dimensions, object_fields, element}
use Rattle.m3_values.specs.Arrays.{shape}
use Rattle.m3_values.specs.Places.{Name, Referent, Fresh, Thing, Is, At}
use Rattle.m3_values.specs.Store as store
use Rattle.m3_values.specs.Store.{Store, cell_at, is_mutex}
use Rattle.m3_source_meaning.specs.Showing.{thing_at}
use Rattle.m3_source_meaning.specs.Programs.{Activation, Activity, Within}

-- ---- the cells that something names

abbrev mutual
  pub in_value : Value → List ℕ
  in_value (Pointer c) = c ∷ []
  in_value (Record fields) = in_values fields
  in_value (Array below elements) = in_values elements
  in_value _ = []

  pub in_values : Values → List ℕ
  in_values End = []
  in_values (More v vs) = in_value v ++ in_values vs

abbrev pub in_name : Name → List ℕ
in_name (Referent c) = c ∷ []
in_name (Fresh v) = in_value v
in_name _ = []

abbrev pub in_thing : Thing → List ℕ
in_thing (Is v) = in_value v
in_thing (At place) = in_name place.name

abbrev pub in_things : List Thing → List ℕ
in_things things = flat_map in_thing things

abbrev pub in_cell : store.Cell → List ℕ
in_cell (store.Made kind content holder) = in_value content
in_cell (store.Bytes bytes) = []
in_cell (store.Forked number result is_joined) = option_map_or in_value result []

-- ---- what a thread needs

abbrev pub in_new : New Thing → List ℕ
in_new (Cell kind sizes) = in_things sizes
in_new (Concatenated t u) = in_thing t ++ in_thing u
in_new (ByteText v) = in_thing v
in_new (Subtext t start count) = in_thing t ++ in_thing start ++ in_thing count
in_new (ThreadCell number) = []

abbrev pub in_service : Service Thing → List ℕ
in_service (asked.Put form v) = in_thing v
in_service (asked.Join t alertable) = in_thing t
in_service (asked.Acquire m) = in_thing m
in_service (asked.Release m) = in_thing m
in_service (asked.Wait m c alertable) = in_thing m ++ in_thing c
in_service (asked.Signal c) = in_thing c
in_service (asked.Broadcast c) = in_thing c
in_service (asked.Alert t) = in_thing t
in_service _ = []

-- The values of the action at which a thread stands: so the closure of a thread that hasn't begun,
-- and the mutex and the condition of one that sleeps or was woken.
abbrev pub in_action : Action Thing → List ℕ
in_action (Calls procedure environment formals) = in_things formals
in_action (Makes new) = in_new new
in_action (Forks closure) = in_thing closure
in_action (Serves service) = in_service service
in_action Passes = []

abbrev pub in_status : Status Thing → List ℕ
in_status Ready = []
in_status (Wants m) = in_thing m
in_status (Waits m c place alertable) = in_thing m ++ in_thing c
in_status (Joins t alertable) = in_thing t

module _ (p : Program) where
  abbrev pub State : Type 0
  State = Parts Activity Thing Store

  -- its variables and aliases in scope, its pending values and its fixed places
  abbrev pub in_activation : Store → Activation → List ℕ
  in_activation s a =
      flat_map (λ x. option_map_or in_thing (thing_at p a.here a.standing s x) []) a.standing.scope
      ++ in_things a.standing.held

  abbrev pub in_activity : Store → Activity → List ℕ
  in_activity s (Within a) = in_activation s a
  in_activity s _ = []

  abbrev pub in_thread : Store → Thread Activity Thing → List ℕ
  in_thread s t =
      in_action t.action ++ in_status t.status ++ in_thing t.cell
      ++ flat_map (in_activity s) t.stack

  abbrev pub in_thread_if : Store → Option (Thread Activity Thing) → List ℕ
  in_thread_if s t = option_map_or (in_thread s) t []

  -- what the variables of modules and the threads that have not ended name
  abbrev pub roots : State → List ℕ
  roots parts =
      flat_map in_value parts.memory.globals ++ flat_map (in_thread_if parts.memory) parts.threads

  -- ---- REACH

  abbrev pub is_among : ℕ → List ℕ → Bool
  is_among c cells = list_any (λ d. d == c) cells

  abbrev pub names : Store → (from to : ℕ) → Bool
  names s from to = is_among to (option_map_or in_cell (cell_at s from) [])

  -- over so many cells
  abbrev pub is_reached_by : (steps : ℕ) → State → ℕ → Bool
  is_reached_by zero parts c = is_among c (roots parts)
  is_reached_by (suc steps) parts c =
      is_reached_by steps parts c
      || list_any (λ d. is_reached_by steps parts d && names parts.memory d c)
      (range_with_len 0 (length parts.memory.cells))

  -- the cells that are reached, by their names
  abbrev pub reach : State → List ℕ
  reach parts =
      filter (is_reached_by (length parts.memory.cells) parts)
      (range_with_len 0 (length parts.memory.cells))

  -- ---- WORDS

  abbrev pub value_words : ℕ → ℕ
  value_words t = words_to_depth p.nodes (depth p) t

  abbrev pub product : List ℕ → ℕ
  product [] = 1
  product (n ∷ ns) = n * product ns

  abbrev pub below : (dimensions : ℕ) → ℕ → ℕ
  below zero t = t
  below (suc dimensions) t = option_map_or (below dimensions) (element p t) t

  -- an array of so many open dimensions with its sizes, or a value of a type without any
  abbrev pub open_words : (dimensions kind : ℕ) → Value → ℕ
  open_words zero kind v = 1 + value_words kind
  open_words (suc n) kind v =
      1 + suc n + product (take (suc n) (shape v)) * value_words (below (suc n) kind)

  abbrev pub target_words : ℕ → Value → ℕ
  target_words t v = open_words (open_dimensions p t) t v

  abbrev pub mutex_words : Bool → ℕ
  mutex_words true = 1
  mutex_words false = 0

  abbrev pub made_words : Option TypeNode → (kind : ℕ) → Value → ℕ
  made_words (Some (node.RefTo brand target)) kind v = target_words target.0 v
  made_words (Some (node.OpenArray element)) kind v = target_words kind v
  made_words _ kind v =
      1 + mutex_words (is_mutex p kind) + field_words value_words (object_fields p kind)

  abbrev pub cell_words : store.Cell → ℕ
  cell_words (store.Made kind content holder) = made_words (node_of p kind) kind content
  cell_words (store.Bytes bytes) = 2 + div_ceil (length bytes) 8
  cell_words (store.Forked number result is_joined) = 4

  -- the words of all cells that are reached
  abbrev pub words : State → ℕ
  words parts =
      sum_by (λ c. option_map_or cell_words (cell_at parts.memory c) 0) (reach parts)

  -- ---- FRAMES, where it is known how many words one of each procedure takes

  abbrev pub activity_words : (frame_words : ℕ → ℕ) → Activity → ℕ
  activity_words frame_words (Within a) = frame_words a.here.procedure
  activity_words frame_words _ = 0

  abbrev pub frames : (frame_words : ℕ → ℕ) → Thread Activity Thing → ℕ
  frames frame_words t = 32 + sum_by (activity_words frame_words) t.stack
