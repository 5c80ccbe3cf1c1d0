use Rattle.std.proofs.Common.{◌≡◌, Bool, List, true, false, refl, sym, subst, ◌∙◌, arith, length, get_or, length-set, get_or-set_other, ap, set, ◌-◌}
use Rattle.m3_generational.specs.Inside.{IsAsOpen}
use Rattle.std.proofs.lemmas.Bool.{false≢true}
use Rattle.m3_generational.proofs.HeapLemmas.{IsPut, with_here, put-closed, put-placed, put-rested, put-value, put-cells, put-rest, put-sound, put-among, put-inside, put-total}
use Rattle.m3_generational.proofs.FitLemmas.{put-off, put-on}
use Rattle.m3_generational.proofs.generations.Generations.set_old.Goals as goal

-- ---- no such word

off : (c : goal.Then-not-replace) → IsPut c.self.inside c.args.self.now c.replace.new.self c.args.at c.args.word false
off c = record {
  invariant = c.self.invariant;
  view = c.self.view_is;
  closed = c.requires.closed;
  low = c.requires.low;
  base = c.replace.ensures.base;
  size = c.replace.ensures.size;
  answer = c.if-not-replace.ensures.answer;
  cells = c.if-not-replace.ensures.cells;
}

pub returns-then-not-replace-clause-value : goal.returns-then-not-replace-clause-value
returns-then-not-replace-clause-value c = put-value c.self.inside c.args.self.now c.replace.new.self c.args.at c.args.word false (off c)

pub returns-then-not-replace-clause-fitting : goal.returns-then-not-replace-clause-fitting
returns-then-not-replace-clause-fitting c = λ shapes was. put-off shapes c.self.inside c.args.self.now c.replace.new.self c.args.at c.args.word (off c) was

pub returns-then-not-replace-clause-sound : goal.returns-then-not-replace-clause-sound
returns-then-not-replace-clause-sound c = put-sound c.self.inside c.args.self.now c.replace.new.self c.self.inside.remembered c.args.at c.args.word false (off c)

-- ---- a word that is set

on : (c : goal.After-base) → IsPut c.self.inside c.args.self.now c.replace.new.self c.args.at c.args.word true
on c = record {
  invariant = c.self.invariant;
  view = c.self.view_is;
  closed = c.requires.closed;
  low = c.requires.low;
  base = c.replace.ensures.base;
  size = c.replace.ensures.size;
  answer = c.if-not-replace.ensures.answer;
  cells = c.if-not-replace.ensures.cells;
}

pub overflow_sub-at : goal.overflow_sub-at
overflow_sub-at c =
    let inside = put-inside c.self.inside c.args.self.now c.replace.new.self c.args.at c.args.word true (on c) refl in
    omega (arith, inside.0, c.base.ensures, c.replace.ensures.base)

pub set-requires : goal.set-requires
set-requires c =
    let inside = put-inside c.self.inside c.args.self.now c.replace.new.self c.args.at c.args.word true (on c) refl in
    omega (arith, inside.0, inside.1, c.base.ensures, c.replace.ensures.base, c.self.invariant.marks)

-- and the same once it is remembered
on-set : (c : goal.After-set) → IsPut c.self.inside c.args.self.now c.replace.new.self c.args.at c.args.word true
on-set c = record {
  invariant = c.self.invariant;
  view = c.self.view_is;
  closed = c.requires.closed;
  low = c.requires.low;
  base = c.replace.ensures.base;
  size = c.replace.ensures.size;
  answer = c.if-not-replace.ensures.answer;
  cells = c.if-not-replace.ensures.cells;
}

marked : (c : goal.After-set) → c.set.new.self ≡ set c.self.inside.remembered (c.args.at - c.self.inside.spaces.here.base) true
marked c = c.set.ensures ∙ ap (λ n. set c.self.inside.remembered (c.args.at - n) true) (c.base.ensures ∙ c.replace.ensures.base)

pub invariant_of-self-2 : goal.invariant_of-self-2
invariant_of-self-2 c =
    let i = c.self.inside in
    let P : Bool → Type 0 = λ b. IsAsOpen b (with_here i.spaces c.replace.new.self) in
    record {
      placed = put-placed i c.args.self.now c.replace.new.self c.args.at c.args.word true (on-set c);
      marks = ap (λ (l : List Bool). length l) (marked c) ∙ length-set i.remembered (c.args.at - i.spaces.here.base) true ∙ c.self.invariant.marks ∙ sym c.replace.ensures.size;
      as_open = subst P (sym (put-closed i c.args.self.now c.replace.new.self c.args.at c.args.word true (on-set c))) (put-rested i c.args.self.now c.replace.new.self c.args.at c.args.word true (on-set c));
      beyond = λ _ place past.
          let inside = put-among i c.args.self.now c.replace.new.self c.args.at c.args.word true (on-set c) refl in
          let total = put-total i c.args.self.now c.replace.new.self c.args.at c.args.word true (on-set c) in
          ap (λ (l : List Bool). get_or l place false) (marked c)
          ∙ get_or-set_other i.remembered (c.args.at - i.spaces.here.base) place true false (λ same. omega (arith, same, inside.0, inside.1, total, past))
          ∙ c.self.invariant.beyond (put-closed i c.args.self.now c.replace.new.self c.args.at c.args.word true (on-set c)) place (omega (arith, total, past));
      mode = λ opened. absurd (false≢true (sym (put-closed i c.args.self.now c.replace.new.self c.args.at c.args.word true (on-set c)) ∙ opened));
    }

pub returns-clause-value : goal.returns-clause-value
returns-clause-value c = put-value c.self.inside c.args.self.now c.replace.new.self c.args.at c.args.word true (on-set c)

pub returns-clause-cells : goal.returns-clause-cells
returns-clause-cells c = put-cells c.self.inside c.args.self.now c.replace.new.self c.args.at c.args.word true (on-set c)

pub returns-clause-rest : goal.returns-clause-rest
returns-clause-rest c = put-rest c.self.inside c.args.self.now c.replace.new.self c.set.new.self c.args.at c.args.word true (on-set c)

pub returns-clause-fitting : goal.returns-clause-fitting
returns-clause-fitting c = λ shapes was. put-on shapes c.self.inside c.args.self.now c.replace.new.self c.set.new.self c.args.at c.args.word (on-set c) (marked c) was

pub returns-clause-sound : goal.returns-clause-sound
returns-clause-sound c = put-sound c.self.inside c.args.self.now c.replace.new.self c.set.new.self c.args.at c.args.word true (on-set c)
