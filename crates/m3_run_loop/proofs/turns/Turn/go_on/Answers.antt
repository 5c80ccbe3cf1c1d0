use Rattle.std.specs.Prelude.{ℕ, ◌≤◌, ◌-◌, List, length, slice_get, Option, Some, None, IfSome}
use Rattle.std.proofs.Common.{◌≡◌, ◌∙◌, refl, ap, sym, subst, arith}
use Rattle.m3_isa.specs.Effects.{at_hand, effect}
use Rattle.m3_image_decoded.specs.Ready.{image_of}
use Rattle.m3_threads.specs.Spaces.{held, replaceable}
use Rattle.m3_run_memory.specs.Addresses.{outside_of, settable_of}
use Rattle.m3_run_meaning.specs.State.{executed}
use Rattle.m3_run_meaning.specs.State.{seen}
use Rattle.m3_isa.specs.declared.registers.Regs.{Regs}
use Rattle.m3_run_meaning.specs.declared.near.Place.{Place}
use Rattle.m3_run_loop.specs.declared.strides.Fuel.{Fuel}
use Rattle.m3_run_loop.specs.declared.halts.Halt.{Halt}
use Rattle.m3_run_loop.specs.declared.halts.Halt.TheVariants.{Used, Left, Other}
use Rattle.m3_run_loop.specs.Leading.{program_in, KeepsWhole, Stands_in}
use Rattle.m3_base.specs.declared.outcomes.Outcome.TheVariants.{Trap}
use Rattle.m3_run_loop.proofs.PlainSteps.{not-plain, was_plain}
use Rattle.m3_run_loop.proofs.Leading.{stood_on, stood_end, renumber, reover}
use Rattle.m3_run_loop.proofs.Deeds.{goes_plainly, ends_plainly, plain_is_no_point, not_plain_by}
use Rattle.m3_run_loop.proofs.turns.Turn.go_on.Goals as goal

pub returns-in-Went-clause-strides : goal.returns-in-Went-clause-strides
returns-in-Went-clause-strides g c = λ k next st.
    let m = c.args.memory.now in
    let n = c.carry_out.new.mem in
    let p = program_in (image_of c.args.self.image.now).program m in
    let i = c.args.i.now in
    let f = c.args.fuel.now in
    let heap = g.S.Store.heap m.outside.heap.store in
    let heap' = g.S.Store.heap n.outside.heap.store in
    let old = at_hand c.args.r.now c.args.at.now.pc c.args.at.now.fp in
    let new = at_hand c.carry_out.new.r c.carry_out.new.pc c.args.at.now.fp in
    let memory = held m.threads (outside_of m.outside.globals.items m.outside.constants.items heap.cells) in
    let can = replaceable m.threads (settable_of (length m.outside.globals.items) heap.cells) in
    let memory' = held n.threads (outside_of n.outside.globals.items n.outside.constants.items heap'.cells) in
    let plain = was_plain i old new memory memory' can _ (λ is. cc) c.in-Went.ensures.effect in
    let keeps = c.in-Went.ensures.keeps.0 in
    let goes = goes_plainly p c.args.self.stack i old new m.threads n.threads m.outside.globals.items n.outside.globals.items n.outside.constants.items heap heap' plain keeps c.in-Went.ensures.effect in
    let over = stood_on p k c.args.self.stack f.limit (f.left - f.floor) f.points i old new m.threads n.threads m.outside.globals.items n.outside.globals.items heap heap' st next
    (plain_is_no_point i.op plain) (omega (arith, c.requires.some)) goes in
    renumber p n.outside.constants.items k c.args.self.stack f.limit 0 1 (f.left - f.floor - 1) f.points (f.points - f.points) (f.left - (f.left - 1)) (f.left - 1 - f.floor) f.points new n.threads n.outside.globals.items heap'
    keeps.outside.same_constants (omega arith) (omega (arith, c.requires.some)) (omega arith) refl over

pub returns-in-Trapped-clause-strides : goal.returns-in-Trapped-clause-strides
returns-in-Trapped-clause-strides g c = λ k next st.
    let m = c.args.memory.now in
    let n = c.carry_out.new.mem in
    let p = program_in (image_of c.args.self.image.now).program m in
    let i = c.args.i.now in
    let f = c.args.fuel.now in
    let heap = g.S.Store.heap m.outside.heap.store in
    let heap' = g.S.Store.heap n.outside.heap.store in
    let old = at_hand c.args.r.now c.args.at.now.pc c.args.at.now.fp in
    let new = at_hand c.carry_out.new.r c.carry_out.new.pc c.args.at.now.fp in
    let memory = held m.threads (outside_of m.outside.globals.items m.outside.constants.items heap.cells) in
    let can = replaceable m.threads (settable_of (length m.outside.globals.items) heap.cells) in
    let memory' = held n.threads (outside_of n.outside.globals.items n.outside.constants.items heap'.cells) in
    let plain = was_plain i old new memory memory' can _ (λ is. cc) c.in-Trapped.ensures.effect in
    let keeps = c.in-Trapped.ensures.keeps.0 in
    let does = ends_plainly p k.input k.base k.thread i old new m.threads n.threads m.outside.globals.items n.outside.globals.items n.outside.constants.items heap heap' c.in-Trapped.n
    plain keeps c.in-Trapped.ensures.effect c.in-Trapped.ensures.trap in
    let over = stood_end p k c.args.self.stack f.limit (f.left - f.floor) f.points i old m.threads m.outside.globals.items heap (seen (executed k.base) new n.threads n.outside.globals.items heap') (Trap c.in-Trapped.n) st next
    (plain_is_no_point i.op plain) (omega (arith, c.requires.some)) does in
    reover p n.outside.constants.items k (f.points - f.points) (f.left - (f.left - 1)) new n.threads n.outside.globals.items heap' (Trap c.in-Trapped.n)
    keeps.outside.same_constants (omega arith) (omega (arith, c.requires.some)) over

if-some : {A : Type 0} (P Q : A → Type 0) (o : Option A) → ((a : A) → P a → Q a) → IfSome o P → IfSome o Q
if-some P Q None h p = p
if-some P Q (Some a) h p = h a p

no-left : (halt : Halt) → halt ≡ Other → halt ≡ Left → ⊥
no-left halt is e = let z : Other ≡ Left = sym is ∙ e in cc

no-used : (halt : Halt) → halt ≡ Other → halt ≡ Used → ⊥
no-used halt is e = let z : Other ≡ Used = sym is ∙ e in cc

pub returns-in-Other-clause-halts : goal.returns-in-Other-clause-halts
returns-in-Other-clause-halts g c =
    let m = c.args.memory.now in
    let n = c.carry_out.new.mem in
    let i = c.args.i.now in
    let f = c.args.fuel.now in
    let heap = g.S.Store.heap m.outside.heap.store in
    let heap' = g.S.Store.heap n.outside.heap.store in
    let old = at_hand c.args.r.now c.args.at.now.pc c.args.at.now.fp in
    let new = at_hand c.carry_out.new.r c.carry_out.new.pc c.args.at.now.fp in
    let memory = held m.threads (outside_of m.outside.globals.items m.outside.constants.items heap.cells) in
    let can = replaceable m.threads (settable_of (length m.outside.globals.items) heap.cells) in
    let memory' = held n.threads (outside_of n.outside.globals.items n.outside.constants.items heap'.cells) in
    let same : new ≡ old = (not-plain (effect i old memory can) old new memory memory' c.in-Other.ensures.effect).1 in
    let there = ap (λ (x : Regs). record { pc = x.pc; fp = c.args.at.now.fp }) same in
    if-some _ _ c.go_otherwise.result (λ halt h. (
      subst (λ (x : Fuel). x.left ≤ f.left) (sym h.0) (omega arith),
      subst (λ (x : Fuel). x.points ≤ f.points) (sym h.0) (omega arith),
      λ e. ap (λ (x : Fuel). x.floor) h.0,
      λ e. (not_plain_by i old new memory memory' can c.in-Other.ensures.effect, h.1 ∙ there),
      no-left halt h.2,
      no-used halt h.2,
    )) c.go_otherwise.ensures.halts

-- the registers, the counter and the memory are as before, where nothing was done
pub returns-in-Other-clause-strides : goal.returns-in-Other-clause-strides
returns-in-Other-clause-strides g c = λ k next st.
    let m = c.args.memory.now in
    let n = c.carry_out.new.mem in
    let i = c.args.i.now in
    let f = c.args.fuel.now in
    let p = (image_of c.args.self.image.now).program in
    let heap = g.S.Store.heap m.outside.heap.store in
    let heap' = g.S.Store.heap n.outside.heap.store in
    let old = at_hand c.args.r.now c.args.at.now.pc c.args.at.now.fp in
    let new = at_hand c.carry_out.new.r c.carry_out.new.pc c.args.at.now.fp in
    let memory = held m.threads (outside_of m.outside.globals.items m.outside.constants.items heap.cells) in
    let can = replaceable m.threads (settable_of (length m.outside.globals.items) heap.cells) in
    let memory' = held n.threads (outside_of n.outside.globals.items n.outside.constants.items heap'.cells) in
    let same : new ≡ old = (not-plain (effect i old memory can) old new memory memory' c.in-Other.ensures.effect).1 in
    let same-r : c.carry_out.new.r ≡ c.args.r.now = ap (λ (x : Regs). x.r) same in
    let same-pc : c.carry_out.new.pc ≡ c.args.at.now.pc = ap (λ (x : Regs). x.pc) same in
    let same-m = c.in-Other.ensures.other refl in
    let to : Place = record { pc = c.carry_out.new.pc; fp = c.args.at.now.fp } in
    let there : to ≡ c.args.at.now = ap (λ (pc : ℕ). record { pc = pc; fp = c.args.at.now.fp }) same-pc in
    let left = f.left - f.floor in
    let st-r = subst (λ (r : List ℕ). Stands_in p k c.args.self.stack f.limit left f.points r c.args.at.now m) (sym same-r) st in
    let st-at = subst (λ (at : Place). Stands_in p k c.args.self.stack f.limit left f.points c.carry_out.new.r at m) (sym there) st-r in
    let st-m = subst (λ x. Stands_in p k c.args.self.stack f.limit left f.points c.carry_out.new.r to x) (sym same-m) st-at in
    c.go_otherwise.ensures.strides k (ap (λ (pc : ℕ). slice_get p.code pc) same-pc ∙ next) st-m

pub returns-in-Other-clause-keeps : goal.returns-in-Other-clause-keeps
returns-in-Other-clause-keeps g c = subst (λ x. KeepsWhole x c.go_otherwise.new.memory) (c.in-Other.ensures.other refl) c.go_otherwise.ensures.keeps
