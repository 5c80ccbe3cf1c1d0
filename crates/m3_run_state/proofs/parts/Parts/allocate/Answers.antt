use Rattle.std.proofs.Common.{ℕ, List, ap, ◌∙◌}
use Rattle.std.proofs.Math.Logic.{∥∥₁_elim, ∥∥₁_prop}
use Rattle.m3_run_state.specs.Seen.{state_of}
use Rattle.m3_run_state.proofs.NewCells.{made_last, is_low}
use Rattle.m3_run_state.proofs.parts.Parts.allocate.Goals as goal

pub invariant_of-self : goal.invariant_of-self
invariant_of-self g c =
    let m = c.args.self.now in record {
      small = m.small;
      counted = m.counted;
      words = c.allocate.ensures.words ∙ m.words;
      loaded = c.allocate.ensures.constants ∙ m.loaded;
      roomy = m.roomy;
      sized = m.sized;
      fitting = λ e. ∥∥₁_elim (m.fitting e) ∥∥₁_prop (λ f. ∣ c.allocate.ensures.fitting _ f ∣₁);
    }

pub returns-clause-allocated : goal.returns-clause-allocated
returns-clause-allocated g c = record { allots = c.allocate.ensures.allots; laws = (g.met.S.Store.sound c.allocate.new.self.heap.store).laws; rest = ap (λ (gs : List ℕ). record (state_of c.args.self.now) { globals = gs; heap = g.S.Store.heap c.allocate.new.self.heap.store }) c.allocate.ensures.globals }

pub returns-clause-new : goal.returns-clause-new
returns-clause-new g c = made_last c.allocate.result c.args.kind c.args.words (g.S.Store.heap c.args.self.now.memory.outside.heap.store) (g.S.Store.heap c.allocate.new.self.heap.store) c.allocate.ensures.allots

pub returns-clause-low : goal.returns-clause-low
returns-clause-low g c =
    is_low c.allocate.result c.args.kind c.args.words (g.S.Store.heap c.args.self.now.memory.outside.heap.store) (g.S.Store.heap c.allocate.new.self.heap.store) c.allocate.ensures.allots (g.met.S.Store.sound c.args.self.now.memory.outside.heap.store).free (g.met.S.Store.sound c.allocate.new.self.heap.store).cells c.requires
