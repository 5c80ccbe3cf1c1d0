use Rattle.std.specs.Prelude.{◌≡◌, ◌≤◌, ◌<◌, ◌+◌, ◌-◌, ◌^◌, List, []}
use Rattle.std.proofs.Common.{refl, sym, ap, subst, ◌∙◌, arith, rules}
use Rattle.m3_base.specs.declared.outcomes.Entry.{Entry}
use Rattle.m3_image_sections.specs.Parts.{Program}
use Rattle.m3_run_meaning.specs.Points.{Chooses, StopsAtPoint, first_entry, later_entries}
use Rattle.m3_run_state.specs.Seen.{Rest, state_of, program_of}
use Rattle.m3_machine.specs.declared.runs.Turn.{Turn}
use Rattle.m3_machine.proofs.Taking.{known_still, took_nothing}
use Rattle.m3_machine.proofs.Turning.{beyond, goes_there, begins_turn, stops_here, turned_by, known_beyond, stops_beyond}
use Rattle.m3_machine.proofs.Cutting.{at_any}
use Rattle.m3_machine.proofs.whole.next_turn.Goals as goal

pub returns-in-Some-clause-turned : goal.returns-in-Some-clause-turned
returns-in-Some-clause-turned g c = λ p start k known h entries.
    let m = c.args.parts.now in
    let n = c.pass_point.new.parts in
    let few : m.made < 2 ^ 63 = omega (arith, h.made, h.points, known.course.small) in
    let first : c.first_entry.result ≡ first_entry k.entries = c.first_entry.ensures ∙ ap (λ (es : List Entry). first_entry es) (sym entries) in
    let one = subst (λ (e : Entry). StopsAtPoint (program_of m) e (state_of m) (state_of n) c.in-Some.outcome) first (c.in-Some.ensures.passes few (goes_there p start k c.args.left.now m known h)) in
    let two = subst (λ (q : Program). StopsAtPoint q (first_entry k.entries) (state_of m) (state_of n) c.in-Some.outcome) known.program one in
    ([], took_nothing _, stops_here p k m n c.args.left.now c.args.left.now c.in-Some.outcome h c.requires two)

pub returns-clause-turned : goal.returns-clause-turned
returns-clause-turned g c = λ p start k known h entries.
    let m = c.args.parts.now in
    let n = c.pass_point.new.parts in
    let left = c.args.left.now in
    let points = c.free_points-points.result in
    let others = left - 1 - points in
    let rest = c.pass_point.ensures.rest in
    let few : m.made < 2 ^ 63 = omega (arith, h.made, h.points, known.course.small) in
    let first : c.first_entry.result ≡ first_entry k.entries = c.first_entry.ensures ∙ ap (λ (es : List Entry). first_entry es) (sym entries) in
    let one = subst (λ (e : Entry). Chooses (program_of m) e (state_of m) (state_of n)) first (c.in_default.ensures.passes few (goes_there p start k left m known h)) in
    let chooses = subst (λ (q : Program). Chooses q (first_entry k.entries) (state_of m) (state_of n)) known.program one in
    let turn : Turn = record { done = 0; points = points } in
    let parted : points + others + 1 ≡ left = omega (arith, c.requires, c.free_points-points.ensures.few) in
    let free : 1 ≤ points → later_entries k.entries ≡ [] = λ some. ap (λ (es : List Entry). later_entries es) entries ∙ sym c.later_entries.ensures ∙ c.free_points-points.ensures.free some in
    let begins = begins_turn p start k m n left others turn known.course h chooses (ap (λ (r : Rest). r.made) rest) (c.pass_point.ensures.going (search rules)) c.requires refl parted free in
    let still = known_beyond p start k n (known_still p start k m n (ap (λ (r : Rest). r.program) rest) (ap (λ (r : Rest). r.input) rest) (ap (λ (r : Rest). r.stack) rest) known) in
    let told = c.in_ok-progress.ensures.came p start (beyond k) others still begins in
    let new = c.take_turn.new.turn in
    let now : c.saturating_sub-2.result ≡ new.points + others = omega (arith, c.saturating_sub.ensures, c.saturating_sub-2.ensures, c.take_turn.ensures.fewer, c.requires, c.free_points-points.ensures.few) in (
      told.0,
      told.1,
      turned_by p k others c.take_turn.new.parts new told.0 c.saturating_sub-2.result c.in_ok-progress.progress c.ended.result c.ended.ensures c.in_ok-progress.ensures.ends now told.2,
    )

pub returns-in_err-progress-clause-cut : goal.returns-in_err-progress-clause-cut
returns-in_err-progress-clause-cut g c = at_any _ c.from_residual.result (λ p start k known h entries.
    let m = c.args.parts.now in
    let n = c.pass_point.new.parts in
    let left = c.args.left.now in
    let points = c.free_points-points.result in
    let others = left - 1 - points in
    let rest = c.pass_point.ensures.rest in
    let few : m.made < 2 ^ 63 = omega (arith, h.made, h.points, known.course.small) in
    let first : c.first_entry.result ≡ first_entry k.entries = c.first_entry.ensures ∙ ap (λ (es : List Entry). first_entry es) (sym entries) in
    let one = subst (λ (e : Entry). Chooses (program_of m) e (state_of m) (state_of n)) first (c.in_default.ensures.passes few (goes_there p start k left m known h)) in
    let chooses = subst (λ (q : Program). Chooses q (first_entry k.entries) (state_of m) (state_of n)) known.program one in
    let turn : Turn = record { done = 0; points = points } in
    let parted : points + others + 1 ≡ left = omega (arith, c.requires, c.free_points-points.ensures.few) in
    let free : 1 ≤ points → later_entries k.entries ≡ [] = λ some. ap (λ (es : List Entry). later_entries es) entries ∙ sym c.later_entries.ensures ∙ c.free_points-points.ensures.free some in
    let begins = begins_turn p start k m n left others turn known.course h chooses (ap (λ (r : Rest). r.made) rest) (c.pass_point.ensures.going (search rules)) c.requires refl parted free in
    let still = known_beyond p start k n (known_still p start k m n (ap (λ (r : Rest). r.program) rest) (ap (λ (r : Rest). r.input) rest) (ap (λ (r : Rest). r.stack) rest) known) in
    stops_beyond g.O.Sink p k c.args.out.now c.take_turn.new.out (c.in_err-progress.ensures.cut p start (beyond k) others still begins))
