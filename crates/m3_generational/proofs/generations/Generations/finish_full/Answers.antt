use Rattle.std.proofs.Common.{sym, ◌∙◌}
use Rattle.std.proofs.lemmas.Bool.{false≢true}
use Rattle.m3_generational.proofs.EndLemmas.{IsFullEnd, exchanged, full-end, full-finishes, end-resting, end-sound, end-size}
use Rattle.m3_generational.proofs.generations.Generations.finish_full.Given as given
use Rattle.m3_generational.proofs.generations.Generations.finish_full.Goals as goal

ends : (g : given.Over) (c : goal.After-self-3-1 g) → IsFullEnd (g.M.Maps.shapes c.args.maps.now) c.self.inside c.args.self.now c.trace_full-is_traced.new.spaces c.swap.new.x c.swap.new.y c.clear-2.new.self c.of.result.value
ends g c = record {
  invariant = c.self.invariant;
  view = c.self.view_is;
  opened = c.requires.open;
  full = c.requires.full;
  traced = c.if-not-is_traced.ensures.traced;
  keeping = c.trace_full-is_traced.ensures.keeping;
  filled = c.swap.ensures.x_after;
  emptied = c.swap.ensures.y_after;
  base = c.clear-2.ensures.base;
  size = c.clear-2.ensures.size;
  empty = c.clear-2.ensures.cells;
  snapshot = c.of.ensures;
}

pub invariant_of-self-2 : goal.invariant_of-self-2
invariant_of-self-2 g c =
    let e = full-end (g.M.Maps.shapes c.args.maps.now) c.self.inside c.args.self.now c.trace_full-is_traced.new.spaces c.swap.new.x c.swap.new.y c.clear-2.new.self c.of.result.value (ends g c) in
    let s = exchanged c.trace_full-is_traced.new.spaces c.swap.new.x c.swap.new.y c.clear-2.new.self in
    record {
      placed = e.placed;
      marks = c.clear.ensures.length ∙ c.self.invariant.marks ∙ sym (end-size (g.M.Maps.shapes c.args.maps.now) c.self.inside c.args.self.now c.trace_full-is_traced.new.spaces s c.of.result.value e);
      as_open = end-resting (g.M.Maps.shapes c.args.maps.now) c.self.inside c.args.self.now c.trace_full-is_traced.new.spaces s c.of.result.value e;
      beyond = λ _ place _. c.clear.ensures.clear place;
      mode = λ opened. absurd (false≢true opened);
    }

pub returns-clause-done : goal.returns-clause-done
returns-clause-done g c =
    full-finishes (g.M.Maps.shapes c.args.maps.now) c.self.inside c.args.self.now c.trace_full-is_traced.new.spaces c.swap.new.x c.swap.new.y c.clear-2.new.self c.of.result.value c.clear.new.self c.one_more-self-inside.result c.args.steps.now c.trace_full-is_traced.new.steps (ends g c) c.one_more-self-inside.ensures c.clear.ensures.clear c.if-not-is_traced.ensures.cost

pub returns-clause-sound : goal.returns-clause-sound
returns-clause-sound g c =
    let s = exchanged c.trace_full-is_traced.new.spaces c.swap.new.x c.swap.new.y c.clear-2.new.self in
    end-sound (g.M.Maps.shapes c.args.maps.now) c.self.inside c.args.self.now c.trace_full-is_traced.new.spaces s c.of.result.value c.clear.new.self 0 c.self.inside.minors c.one_more-self-inside.result (full-end (g.M.Maps.shapes c.args.maps.now) c.self.inside c.args.self.now c.trace_full-is_traced.new.spaces c.swap.new.x c.swap.new.y c.clear-2.new.self c.of.result.value (ends g c))
