use Rattle.std.proofs.Common.{Bool, sym, subst, ap, ◌∙◌, arith}
use Rattle.std.proofs.lemmas.Bool.{false≢true}
use Rattle.m3_generational.specs.Inside.{IsAsOpen}
use Rattle.m3_generational.proofs.VisitLemmas.{IsVisit, collecting, visit-open, visit-collecting, visit-mode, visit-sizes, visit-none, visit-value, visit-kept, visit-refused, visit-cost, visit-sound}
use Rattle.m3_generational.specs.Remembering.{Remembering}
use Rattle.m3_generational.proofs.generations.Generations.visit.Given as given
use Rattle.m3_generational.proofs.generations.Generations.visit.Goals as goal

pub forward_word-requires-clause-tracing : goal.forward_word-requires-clause-tracing
forward_word-requires-clause-tracing g c = (collecting c.self.inside c.self.invariant (ap (λ (u : Remembering). u.heap.is_open) c.self.view_is ∙ c.requires.open)).moving.tracing

pub forward_word-requires-clause-keeping : goal.forward_word-requires-clause-keeping
forward_word-requires-clause-keeping g c = (collecting c.self.inside c.self.invariant (ap (λ (u : Remembering). u.heap.is_open) c.self.view_is ∙ c.requires.open)).keeping

visit : (g : given.Over) (c : goal.After-forward_word g) → IsVisit c.self.inside c.args.self.now c.forward_word.new.spaces c.args.word c.forward_word.result c.tick.new.self c.forward_word.new.steps
visit g c = record { invariant = c.self.invariant; view = c.self.view_is; opened = c.requires.open; forwards = c.forward_word.ensures }

pub invariant_of-self : goal.invariant_of-self
invariant_of-self g c =
    let P : Bool → Type 0 = λ b. IsAsOpen b c.forward_word.new.spaces in
    let then = visit-collecting c.self.inside c.args.self.now c.forward_word.new.spaces c.args.word c.forward_word.result c.tick.new.self c.forward_word.new.steps (visit g c) in
    record {
      placed = then.keeping.placed;
      marks = c.self.invariant.marks ∙ sym (visit-sizes c.self.inside c.args.self.now c.forward_word.new.spaces c.args.word c.forward_word.result c.tick.new.self c.forward_word.new.steps (visit g c));
      as_open = subst P (sym (visit-open c.self.inside c.args.self.now c.forward_word.new.spaces c.args.word c.forward_word.result c.tick.new.self c.forward_word.new.steps (visit g c))) then;
      beyond = λ shut. absurd (false≢true (sym shut ∙ visit-open c.self.inside c.args.self.now c.forward_word.new.spaces c.args.word c.forward_word.result c.tick.new.self c.forward_word.new.steps (visit g c)));
      mode = λ _. visit-mode c.self.inside c.args.self.now c.forward_word.new.spaces c.args.word c.forward_word.result c.tick.new.self c.forward_word.new.steps (visit g c);
    }

pub returns-clause-none : goal.returns-clause-none
returns-clause-none g c = visit-none c.self.inside c.args.self.now c.forward_word.new.spaces c.args.word c.forward_word.result c.tick.new.self c.forward_word.new.steps (visit g c)

pub returns-clause-value : goal.returns-clause-value
returns-clause-value g c = visit-value c.self.inside c.args.self.now c.forward_word.new.spaces c.args.word c.forward_word.result c.tick.new.self c.forward_word.new.steps (visit g c)

pub returns-clause-kept : goal.returns-clause-kept
returns-clause-kept g c = visit-kept c.self.inside c.args.self.now c.forward_word.new.spaces c.args.word c.forward_word.result c.tick.new.self c.forward_word.new.steps (visit g c)

pub returns-clause-refused : goal.returns-clause-refused
returns-clause-refused g c = visit-refused c.self.inside c.args.self.now c.forward_word.new.spaces c.args.word c.forward_word.result c.tick.new.self c.forward_word.new.steps (visit g c)

pub returns-clause-sound : goal.returns-clause-sound
returns-clause-sound g c = visit-sound c.self.inside c.args.self.now c.forward_word.new.spaces c.args.word c.forward_word.result c.tick.new.self c.forward_word.new.steps (visit g c)

pub returns-clause-cost : goal.returns-clause-cost
returns-clause-cost g c = let cost = visit-cost c.self.inside c.args.self.now c.forward_word.new.spaces c.args.word c.forward_word.result c.tick.new.self c.forward_word.new.steps (visit g c) in omega (arith, cost, c.tick.ensures)
