use Rattle.std.proofs.Common.{◌≡◌, ℕ, ◌+◌, ◌-◌, ◌/◌, ◌<◌, sym, ◌∙◌, arith}
use Rattle.m3_image_sections.specs.Parts.{proc_in}
use Rattle.m3_image_sections.specs.PartViews.{procs_of}
use Rattle.m3_image_sections.proofs.ListLemmas.{length_each}
use Rattle.m3_image_sections.proofs.ProcLemmas.{end_at, end_known, halve_up, halve_down, containing_at, containing_none, fit_follows}
use Rattle.m3_image_sections.proofs.procs.Procs.containing.Goals as goal

pub loop-low-preserved-then-end-instr : goal.loop-low-preserved-then-end-instr
loop-low-preserved-then-end-instr c =
    let ps = procs_of c.args.self.now in
    let ln = length_each 16 proc_in c.args.self.now.count c.args.self.now.bytes.now in
    let i = c.loop-low.invariant in
    let middle : ℕ = c.loop-low.low + (c.loop-low.high - c.loop-low.low) / 2 in
    let e : end_at ps middle ≡ c.end.result = end_known ps middle c.at_place.result c.at_place.ensures ∙ sym c.end.ensures in
    (omega arith, i.1, halve_up ps middle c.args.instr (fit_follows ps c.requires) (omega arith) (omega arith), i.3)

pub loop-low-preserved : goal.loop-low-preserved
loop-low-preserved c =
    let ps = procs_of c.args.self.now in
    let ln = length_each 16 proc_in c.args.self.now.count c.args.self.now.bytes.now in
    let i = c.loop-low.invariant in
    let middle : ℕ = c.loop-low.low + (c.loop-low.high - c.loop-low.low) / 2 in
    let e : end_at ps middle ≡ c.end.result = end_known ps middle c.at_place.result c.at_place.ensures ∙ sym c.end.ensures in
    let above : c.args.instr < end_at ps middle = omega arith in
    (omega arith, omega arith, i.2, λ k le lt. halve_down ps middle c.args.instr (fit_follows ps c.requires) above k le (omega arith))

pub returns-then-low-self : goal.returns-then-low-self
returns-then-low-self c =
    let ps = procs_of c.args.self.now in
    let ln = length_each 16 proc_in c.args.self.now.count c.args.self.now.bytes.now in
    let i = c.loop-low.invariant in
    let behind : c.args.instr < end_at ps c.loop-low.low = i.3 c.loop-low.low (omega arith) (omega arith) in
    let found = containing_at ps c.args.instr c.loop-low.low i.2 (omega arith) behind in
    cc

pub returns-else-low-self : goal.returns-else-low-self
returns-else-low-self c =
    let ps = procs_of c.args.self.now in
    let ln = length_each 16 proc_in c.args.self.now.count c.args.self.now.bytes.now in
    let i = c.loop-low.invariant in
    sym (containing_none ps c.args.instr (λ k lt. i.2 k (omega arith)))
