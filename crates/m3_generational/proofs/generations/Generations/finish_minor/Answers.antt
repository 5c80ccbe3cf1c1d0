use Rattle.std.proofs.Common.{true, sym, ◌∙◌, arith}
use Rattle.std.proofs.lemmas.Bool.{false≢true}
use Rattle.m3_generational.proofs.EndLemmas.{mode-told, collecting-told, IsMinorEnd, emptied, minor-end, minor-finishes, end-resting, end-sound, end-size}
use Rattle.m3_heap.proofs.WordLemmas.{kept-total}
use Rattle.m3_generational.specs.Collecting.{minor_left}
use Rattle.m3_generational.proofs.ForwardLemmas.{traces-minor}
use Rattle.m3_generational.proofs.MinorLemmas.{tenured-limit}
use Rattle.m3_generational.proofs.generations.Generations.finish_minor.Given as given
use Rattle.m3_generational.proofs.generations.Generations.finish_minor.Goals as goal

ends : (g : given.Over) (c : goal.After-self-3-1 g) → IsMinorEnd (g.M.Maps.shapes c.args.maps.now) c.self.inside c.args.self.now c.trace_minor-is_traced.new.spaces c.clear-2.new.self c.of.result.value
ends g c = record {
  invariant = c.self.invariant;
  view = c.self.view_is;
  opened = c.requires.open;
  minor = c.requires.minor;
  traced = c.if-not-is_traced.ensures.traced;
  keeping = c.trace_minor-is_traced.ensures.keeping;
  base = c.clear-2.ensures.base;
  size = c.clear-2.ensures.size;
  empty = c.clear-2.ensures.cells;
  snapshot = c.of.ensures;
}

pub trace_minor-is_traced-requires-clause-marks : goal.trace_minor-is_traced-requires-clause-marks
trace_minor-is_traced-requires-clause-marks g c =
    let i = c.self.inside in
    let m = mode-told i c.args.self.now true c.self.invariant c.self.view_is c.requires.open c.requires.minor in
    let there = collecting-told i c.args.self.now c.self.invariant c.self.view_is c.requires.open in
    let limit = tenured-limit i.spaces m there.keeping in
    let room = kept-total (minor_left i.spaces) i.spaces.here (traces-minor i.spaces m there.moving.tracing) in
    omega (arith, limit, room.1, c.self.invariant.marks)

pub invariant_of-self-2 : goal.invariant_of-self-2
invariant_of-self-2 g c =
    let e = minor-end (g.M.Maps.shapes c.args.maps.now) c.self.inside c.args.self.now c.trace_minor-is_traced.new.spaces c.clear-2.new.self c.of.result.value (ends g c) in
    record {
      placed = e.placed;
      marks = c.clear.ensures.length ∙ c.self.invariant.marks ∙ sym (end-size (g.M.Maps.shapes c.args.maps.now) c.self.inside c.args.self.now c.trace_minor-is_traced.new.spaces (emptied c.trace_minor-is_traced.new.spaces c.clear-2.new.self) c.of.result.value e);
      as_open = end-resting (g.M.Maps.shapes c.args.maps.now) c.self.inside c.args.self.now c.trace_minor-is_traced.new.spaces (emptied c.trace_minor-is_traced.new.spaces c.clear-2.new.self) c.of.result.value e;
      beyond = λ _ place _. c.clear.ensures.clear place;
      mode = λ opened. absurd (false≢true opened);
    }

pub returns-clause-done : goal.returns-clause-done
returns-clause-done g c =
    minor-finishes (g.M.Maps.shapes c.args.maps.now) c.self.inside c.args.self.now c.trace_minor-is_traced.new.spaces c.clear-2.new.self c.of.result.value c.clear.new.self c.one_more-self-inside.result c.args.steps.now c.trace_minor-is_traced.new.steps (ends g c) c.one_more-self-inside.ensures c.clear.ensures.clear c.if-not-is_traced.ensures.cost

pub returns-clause-sound : goal.returns-clause-sound
returns-clause-sound g c = end-sound (g.M.Maps.shapes c.args.maps.now) c.self.inside c.args.self.now c.trace_minor-is_traced.new.spaces (emptied c.trace_minor-is_traced.new.spaces c.clear-2.new.self) c.of.result.value c.clear.new.self 0 c.one_more-self-inside.result c.self.inside.fulls (minor-end (g.M.Maps.shapes c.args.maps.now) c.self.inside c.args.self.now c.trace_minor-is_traced.new.spaces c.clear-2.new.self c.of.result.value (ends g c))
