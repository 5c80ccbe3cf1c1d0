-- From the start of the program of some puts to its end.
use Rattle.std.specs.Prelude.{ℕ, ◌≡◌, ◌≤◌, ◌<◌, ◌+◌, ◌^◌, List, [], length, Some}
use Rattle.std.proofs.Common.{refl, sym, ap, subst, ◌∙◌, arith}
use Rattle.m3_base.specs.declared.outcomes.Outcome.{Outcome}
use Rattle.m3_isa.specs.declared.instructions.Op.TheVariants.{Point}
use Rattle.m3_isa.specs.declared.instructions.Instr.{Instr}
use Rattle.m3_heap.specs.Heap.{Heap}
use Rattle.m3_threads.specs.Actions.{started}
use Rattle.m3_run_meaning.specs.State.{State, start}
use Rattle.m3_run_meaning.specs.Runs.{Place, In_turn, At_point, Over, Config, Begins, begins, Leads, starting, stands}
use Rattle.m3_plain.specs.Terms.{Term, points_of, outcome_of}
use Rattle.m3_plain.specs.PlainForm.{IsPlain}
use Rattle.m3_plain.proofs.Bounds.{plain_integers, plain_shallow, plain_few}
use Rattle.m3_plain_image.specs.Code.{alone, plain_code, puts_lines}
use Rattle.m3_plain_image.specs.Image.{plain_program}
use Rattle.m3_plain_runs.specs.EndsAs.{IfOver, IsPlainRun}
use Rattle.m3_plain_runs.proofs.Courses.{first_stage}
use Rattle.m3_plain_runs.proofs.Bodies.{Puts, plain_puts}
use Rattle.m3_plain_runs.proofs.Steps.{Alone}
use Rattle.m3_plain_runs.proofs.Following.{Rest, OnCourse, On, leads-on}

first-instr : (i j : Instr) → Some i ≡ Some j → i ≡ j
first-instr i j e = cc

begins-alone : (name : List ℕ) (puts : List Term) (heap : Heap) (threads stack : ℕ) → Alone (stands (alone Point) (start (plain_program name puts) heap threads stack)) first_stage []
begins-alone name puts heap threads stack =
    record { thread = started 0 0 0; only = refl; number = refl; running = refl; ready = refl; regs = refl; output = refl; instructions = refl }

begins-at : (name : List ℕ) (puts : List Term) (heap : Heap) (threads stack : ℕ) (from : State) → Begins (plain_program name puts) heap threads stack from → from ≡ stands (alone Point) (start (plain_program name puts) heap threads stack)
begins-at name puts heap threads stack from (begins i there) =
    ap (λ (x : Instr). stands x (start (plain_program name puts) heap threads stack)) (first-instr i (alone Point) (sym there))

ends-by : (name : List ℕ) (puts : List Term) (done : Puts puts (plain_code puts) (puts_lines puts)) (place : Place) (put : List ℕ) → OnCourse (plain_program name puts) (puts_lines puts) done.last (outcome_of puts) place put → IfOver puts place put
ends-by name puts done (In_turn s k) put on = tt
ends-by name puts done (At_point s) put on = tt
ends-by name puts done (Over s outcome) put on = record { output = on.output ∙ done.output; points = on.points ∙ done.points; ended = on.ended }

-- the end of the course, of a text in the plain form
done-by : (text : List ℕ) (puts : List Term) → IsPlain text puts → Puts puts (plain_code puts) (puts_lines puts)
done-by text puts plain = plain_puts puts (plain_integers text puts plain) (plain_shallow text puts plain) (plain_few text puts plain)

on-course : (text name : List ℕ) (puts : List Term) (heap : Heap) (threads stack allowed : ℕ) (input : List ℕ) (from : State) (c : Config) (plain : IsPlain text puts) → points_of puts ≤ allowed → allowed < 2 ^ 64
    → Begins (plain_program name puts) heap threads stack from → Leads (plain_program name puts) input allowed (starting from []) c
    → OnCourse (plain_program name puts) (puts_lines puts) (done-by text puts plain).last (outcome_of puts) c.place c.output
on-course text name puts heap threads stack allowed input from c plain enough small begun leads =
    let p = plain_program name puts in
    let lines = puts_lines puts in
    let done = done-by text puts plain in
    let rest : Rest p lines done.last (outcome_of puts) first_stage = record { steps = length p.code; ends = done.ends; within = omega arith } in
    let first : On p lines done.last (outcome_of puts) (starting (stands (alone Point) (start p heap threads stack)) []) = record {
      entries = refl;
      course = record { stage = first_stage; alone = begins-alone name puts heap threads stack; points = refl; instruction = alone Point; there = refl; kind = refl; rest = rest };
    } in
    let on = subst (λ (s : State). On p lines done.last (outcome_of puts) (starting s [])) (sym (begins-at name puts heap threads stack from begun)) first in
    let last = leads-on p lines done.last (outcome_of puts) input allowed (starting from []) c refl (omega (arith, done.points, enough)) small on leads in
    last.course

-- no point was passed at the start
none-passed : (name : List ℕ) (puts : List Term) (heap : Heap) (threads stack : ℕ) (from : State) → Begins (plain_program name puts) heap threads stack from → from.points ≡ 0
none-passed name puts heap threads stack from (begins i there) = refl

pub runs-end : (text name : List ℕ) (puts : List Term) (heap : Heap) (threads stack points : ℕ) (input : List ℕ) (from : State) (c : Config) → IsPlain text puts → points_of puts ≤ points → points < 2 ^ 64
    → Begins (plain_program name puts) heap threads stack from → Leads (plain_program name puts) input (from.points + points) (starting from []) c → IfOver puts c.place c.output
runs-end text name puts heap threads stack points input from c plain enough small begun leads =
    let none = none-passed name puts heap threads stack from begun in
    ends-by name puts (done-by text puts plain) c.place c.output
    (on-course text name puts heap threads stack (from.points + points) input from c plain (omega (arith, none, enough)) (omega (arith, none, small)) begun leads)

-- ---- two runs

-- the instructions of a run that is over are those of the end of the course
counts : (text name : List ℕ) (puts : List Term) (last : State) (outcome : Outcome) (plain : IsPlain text puts) → IsPlainRun name puts last outcome → last.instructions ≡ (done-by text puts plain).last.instructions
counts text name puts last outcome plain r =
    let none = none-passed name puts r.heap r.threads r.stack r.from r.begun in
    let enough = r.enough in
    let small = r.small in
    let on = on-course text name puts r.heap r.threads r.stack (r.from.points + r.points) r.input r.from r.end plain (omega (arith, none, enough)) (omega (arith, none, small)) r.begun r.leads in
    let over = subst (λ (x : Place). OnCourse (plain_program name puts) (puts_lines puts) (done-by text puts plain).last (outcome_of puts) x r.end.output) r.over on in
    over.instructions

pub runs-agree : (text name other : List ℕ) (puts : List Term) (one two : State) (a b : Outcome) → IsPlain text puts → IsPlainRun name puts one a → IsPlainRun other puts two b → two.instructions ≡ one.instructions
runs-agree text name other puts one two a b plain r s = counts text other puts two b plain s ∙ sym (counts text name puts one a plain r)
