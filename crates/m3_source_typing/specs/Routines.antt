-- WHICH ACTUALS FIT A ROUTINE, and the type of what it gives.
use Rattle.std.specs.Prelude.{ℕ, pos, ◌&&◌, not, Bool, true, false, List, [], ◌∷◌, Option, Some, None}
use Rattle.std.specs.List.{list_all}
use Rattle.m3_core.specs.declared.calls.Routine.{Routine}
use Rattle.m3_core.specs.declared.calls.Routine.TheVariants as routine
use Rattle.m3_types.specs.declared.nodes.Secret.TheVariants as secret
use Rattle.m3_types.specs.declared.nodes.TypeNode.{TypeNode}
use Rattle.m3_types.specs.declared.nodes.TypeNode.TheVariants as node
use Rattle.m3_values.specs.Constants.{texts_of}
use Rattle.m3_values.specs.Programs.{Program}
use Rattle.m3_values.specs.Types.{Bounds, bounds, node_of, unveiled}
use Rattle.m3_values.specs.Store.{is_text_type, is_thread_type}
use Rattle.m3_source_typing.specs.ValueTypes.{class_of}
use Rattle.m3_source_typing.specs.Stores.{are_bytes}
use Rattle.m3_source_typing.specs.Operators.{is_ordinal, is_number, is_integer, is_boolean, is_part, is_references, is_text_in, within_bounds}

abbrev pub bytes : Bounds
bytes = record { first = pos 0; last = pos 255 }

abbrev pub lengths : Bounds
lengths = record { first = pos 0; last = pos 9223372036854775807 }

abbrev pub is_any_in : Option TypeNode → Bool
is_any_in (Some node.RefAny) = true
is_any_in _ = false

abbrev pub is_thread_in : Option TypeNode → Bool
is_thread_in (Some (node.Opaque bound secret.Thread)) = true
is_thread_in _ = false

module _ (p : Program) where
  abbrev pub is_text : ℕ → Bool
  is_text t = is_text_in (node_of p t)

  -- the texts of the program are texts
  abbrev pub are_texts : Bool
  are_texts = list_all are_bytes (texts_of p.texts)

  -- a text whose bytes are read
  abbrev pub reads_text : ℕ → Bool
  reads_text t = are_texts && is_text t

  -- how many bytes a text has
  abbrev pub takes_length : ℕ → Bool
  takes_length t = is_ordinal p t && within_bounds (Some lengths) (bounds p t)

  abbrev pub is_cell : ℕ → Bool
  is_cell t = is_references (class_of p t)

  -- an object: no cell that is a value of the type is a text or a thread
  abbrev pub is_object : ℕ → Bool
  is_object t =
      is_cell t && (not (is_text_type p (node_of p (unveiled p t)))
      && not (is_thread_type p (node_of p (unveiled p t))))

  abbrev pub takes_byte : ℕ → Bool
  takes_byte t = is_ordinal p t && within_bounds (Some bytes) (bounds p t)

  abbrev pub both_parts : (t u k : ℕ) → Bool
  both_parts t u k =
      (is_ordinal p t && is_ordinal p u) && (is_ordinal p k && (is_part p t k && is_part p u k))

  -- integers as words, and the integer of a word
  abbrev pub words_fit : (t u k : ℕ) → Bool
  words_fit t u k =
      (is_number p t && is_number p u) && (is_integer p k && (is_part p t k && is_part p u k))

  abbrev pub routine_fits : Routine → (actuals : List ℕ) → (result : Option ℕ) → Bool
  routine_fits routine.Put (t ∷ []) None = is_text t
  routine_fits routine.PutInt (t ∷ []) None = is_number p t
  routine_fits routine.PutChar (t ∷ []) None = is_ordinal p t
  routine_fits routine.GetChar [] (Some k) = takes_byte k
  routine_fits routine.EndOfInput [] (Some k) = is_boolean p k
  routine_fits routine.TextCat (t ∷ u ∷ []) (Some k) = (is_text t && is_text u) && is_text k
  routine_fits routine.TextEqual (t ∷ u ∷ []) (Some k) =
      (reads_text t && reads_text u) && is_boolean p k
  routine_fits routine.TextGetChar (t ∷ n ∷ []) (Some k) =
      (reads_text t && is_ordinal p n) && takes_byte k
  routine_fits routine.TextLength (t ∷ []) (Some k) = reads_text t && takes_length k
  routine_fits routine.TextEmpty (t ∷ []) (Some k) = reads_text t && is_boolean p k
  routine_fits routine.TextSub (t ∷ n ∷ m ∷ []) (Some k) =
      (is_text t && (is_ordinal p n && is_ordinal p m)) && is_text k
  routine_fits routine.TextFromChar (t ∷ []) (Some k) = is_ordinal p t && is_text k
  routine_fits routine.WordPlus (t ∷ u ∷ []) (Some k) = words_fit t u k
  routine_fits routine.WordTimes (t ∷ u ∷ []) (Some k) = words_fit t u k
  routine_fits routine.WordMinus (t ∷ u ∷ []) (Some k) = words_fit t u k
  routine_fits routine.WordDivide (t ∷ u ∷ []) (Some k) = words_fit t u k
  routine_fits routine.WordMod (t ∷ u ∷ []) (Some k) = words_fit t u k
  routine_fits routine.WordLess (t ∷ u ∷ []) (Some k) =
      (is_number p t && is_number p u) && is_boolean p k
  routine_fits routine.WordLessEqual (t ∷ u ∷ []) (Some k) =
      (is_number p t && is_number p u) && is_boolean p k
  routine_fits routine.WordGreater (t ∷ u ∷ []) (Some k) =
      (is_number p t && is_number p u) && is_boolean p k
  routine_fits routine.WordGreaterEqual (t ∷ u ∷ []) (Some k) =
      (is_number p t && is_number p u) && is_boolean p k
  routine_fits routine.WordAnd (t ∷ u ∷ []) (Some k) = words_fit t u k
  routine_fits routine.WordOr (t ∷ u ∷ []) (Some k) = words_fit t u k
  routine_fits routine.WordXor (t ∷ u ∷ []) (Some k) = words_fit t u k
  routine_fits routine.WordShift (t ∷ u ∷ []) (Some k) = words_fit t u k
  routine_fits routine.WordRotate (t ∷ u ∷ []) (Some k) = words_fit t u k
  routine_fits routine.WordNot (t ∷ []) (Some k) = words_fit t t k
  routine_fits routine.Fork (t ∷ []) (Some k) = is_object t && is_thread_in (node_of p k)
  routine_fits routine.Join (t ∷ []) (Some k) = is_cell t && is_any_in (node_of p k)
  routine_fits routine.AlertJoin (t ∷ []) (Some k) = is_cell t && is_any_in (node_of p k)
  routine_fits routine.Wait (m ∷ c ∷ []) None = is_cell m && is_cell c
  routine_fits routine.AlertWait (m ∷ c ∷ []) None = is_cell m && is_cell c
  routine_fits routine.Acquire (m ∷ []) None = is_cell m
  routine_fits routine.Release (m ∷ []) None = is_cell m
  routine_fits routine.Signal (c ∷ []) None = is_cell c
  routine_fits routine.Broadcast (c ∷ []) None = is_cell c
  routine_fits routine.MySelf [] (Some k) = is_thread_in (node_of p k)
  routine_fits routine.Alert (t ∷ []) None = is_cell t
  routine_fits routine.TestAlert [] (Some k) = is_boolean p k
  routine_fits routine.Min (t ∷ u ∷ []) (Some k) = both_parts t u k
  routine_fits routine.Max (t ∷ u ∷ []) (Some k) = both_parts t u k
  routine_fits routine.Ord (t ∷ []) (Some k) = is_ordinal p t && (is_ordinal p k && is_part p t k)
  routine_fits routine.Val (t ∷ []) (Some k) = is_ordinal p t && is_ordinal p k
  routine_fits _ actuals result = false
