use Rattle.std.specs.Prelude.{◌≡◌, ◌++◌, ◌*◌, min, map, Some, IfSome}
use Rattle.std.specs.List.{range_with_len}
use Rattle.m3_run_meaning.specs.State.{memory_of}
use Rattle.m3_run_meaning.specs.Texts.{text_byte}
use Rattle.m3_run_state.specs.Seen.{state_of, program_of}
use Rattle.m3_run_state.proofs.parts.Parts.put_part.Given as goal

-- no fault came, and the bytes of the words so far were put
abbrev pub invariant-pieces : goal.invariant-pieces
invariant-pieces g l =
    (g.O.Sink.faults l.out ≡ g.O.Sink.faults l.initial.out)
    × IfSome (g.O.Sink.taken l.initial.out) (λ bytes. g.O.Sink.taken l.out ≡ Some (bytes ++ map (text_byte (memory_of (program_of l.self) (state_of l.self)) l.part.text) (range_with_len 0 (min l.part.count (8 * l.k)))))
