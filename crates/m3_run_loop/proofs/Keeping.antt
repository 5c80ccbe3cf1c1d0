-- What a memory keeps over some steps and some more.
use Rattle.std.proofs.Common.{◌∙◌}
use Rattle.m3_heap.specs.declared.store.Store.{Ghosts}
use Rattle.m3_run_memory.specs.declared.memory.Memory.{Memory}
use Rattle.m3_run_loop.specs.Leading.{KeepsWhole}

pub keeps_more : {S : Type 0} {g : Ghosts S} (a b c : Memory S g) → KeepsWhole a b → KeepsWhole b c → KeepsWhole a c
keeps_more a b c h k = record {
  forks = k.forks ∙ h.forks;
  waits = k.waits ∙ h.waits;
  depth = k.depth ∙ h.depth;
  words = k.words ∙ h.words;
  constants = k.constants ∙ h.constants;
  fitting = λ shapes f. k.fitting shapes (h.fitting shapes f);
}
