use Rattle.std.proofs.Common.{◌≡◌, ℕ, ◌+◌, ◌<◌, ◌^◌, List, [], ◌∷◌, length, ◌∙◌, sym, refl, arith, subst}
use Rattle.std.proofs.lemmas.List.{append-nil}
use Rattle.m3_layout.specs.declared.walk.Whole.{Whole}
use Rattle.m3_layout.specs.declared.walk.Task.TheVariants.{OneValue}
use Rattle.m3_layout.specs.Depths.{value_words}
use Rattle.m3_layout.specs.Walking.{AreRuns}
use Rattle.m3_layout.proofs.Depths.{words_told}
use Rattle.m3_layout.proofs.Walks.{last_ready, runs_more}
use Rattle.m3_layout.proofs.Telling.{copy_goes, run_inside, record_goes, array_goes, reference_told, plain_told, leaf_open, leaf_goes}
use Rattle.m3_layout.proofs.walk.Walk.tell_value.Goals as goal

pub words_of-requires : goal.words_of-requires
words_of-requires c =
    let nodes = c.args.types.now.graph.nodes.items in
    ∣ (length nodes, (last_ready nodes c.args.self.now.offsets.items c.args.self.now.tasks.items (OneValue c.args.t c.args.at) c.args.self.now.runs c.requires).0) ∣₁

pub copy_run-requires-clause-ordered : goal.copy_run-requires-clause-ordered
copy_run-requires-clause-ordered c = (c.requires.known c.args.t.0 c.in-Some.run'.now (sym c.in-Some.ensures.value)).ordered

pub copy_run-requires-clause-within : goal.copy_run-requires-clause-within
copy_run-requires-clause-within c = (c.requires.known c.args.t.0 c.in-Some.run'.now (sym c.in-Some.ensures.value)).within

pub copy_run-requires-clause-inside : goal.copy_run-requires-clause-inside
copy_run-requires-clause-inside c =
    let nodes = c.args.types.now.graph.nodes.items in
    run_inside nodes c.args.self.now.offsets.items c.args.t.0 c.words_of.result c.in-Some.run'.now c.words_of.ensures.shallow (words_told nodes c.args.t.0 c.words_of.result c.words_of.ensures.words c.words_of.ensures.shallow) (c.requires.known c.args.t.0 c.in-Some.run'.now (sym c.in-Some.ensures.value)).right

pub copy_run-requires-clause-fits : goal.copy_run-requires-clause-fits
copy_run-requires-clause-fits c =
    let nodes = c.args.types.now.graph.nodes.items in
    let room : c.args.at + value_words nodes c.args.t.0 < 2 ^ 64 = (last_ready nodes c.args.self.now.offsets.items c.args.self.now.tasks.items (OneValue c.args.t c.args.at) c.args.self.now.runs c.requires).1 in
    let words : c.words_of.result ≡ value_words nodes c.args.t.0 = words_told nodes c.args.t.0 c.words_of.result c.words_of.ensures.words c.words_of.ensures.shallow in
    omega arith

pub returns-in-Some : goal.returns-in-Some
returns-in-Some c =
    let nodes = c.args.types.now.graph.nodes.items in
    let g = copy_goes nodes c.args.self.now.offsets.items c.copy_run.new.offsets.items c.args.self.now.tasks.items c.args.self.now.tasks.items c.args.self.now.runs c.args.t c.args.at c.words_of.result c.in-Some.run'.now (c.requires.known c.args.t.0 c.in-Some.run'.now (sym c.in-Some.ensures.value)).right c.requires c.in_ok-copy_run.ensures refl in
    record { walk = g.walk; same = g.same; less = g.less }

pub returns-then-is_record : goal.returns-then-is_record
returns-then-is_record c =
    let nodes = c.args.types.now.graph.nodes.items in
    let whole : Whole = record { kind = c.args.t; at = c.args.at; start = c.len.result } in
    let g = record_goes nodes c.args.self.now.offsets.items c.args.self.now.tasks.items _ c.args.self.now.runs whole (omega arith) (sym c.is_record.ensures ∙ c.if-is_record.true) c.requires c.in_ok-push.ensures.items in
    record { walk = g.walk; same = g.same; less = g.less }

pub returns-in-Some-array_parts : goal.returns-in-Some-array_parts
returns-in-Some-array_parts c =
    let nodes = c.args.types.now.graph.nodes.items in
    let whole : Whole = record { kind = c.args.t; at = c.args.at; start = c.len.result } in
    let g = array_goes nodes c.args.self.now.offsets.items c.args.self.now.tasks.items _ c.args.self.now.runs whole c.in-Some-array_parts.index c.in-Some-array_parts.element c.member_count-count.result (omega arith) c.in-Some-array_parts.ensures c.member_count-count.ensures c.requires c.in_ok-push-2.ensures.items in
    record { walk = g.walk; same = g.same; less = g.less }

pub close-requires-clause-known : goal.close-requires-clause-known
close-requires-clause-known c =
    let nodes = c.args.types.now.graph.nodes.items in
    subst (λ (o : List ℕ). AreRuns nodes o c.args.self.now.runs) (sym c.in_ok-push-3.ensures.items) (runs_more nodes c.args.self.now.offsets.items (c.args.at ∷ []) c.args.self.now.runs c.requires.known)

pub close-requires-clause-open : goal.close-requires-clause-open
close-requires-clause-open c =
    let nodes = c.args.types.now.graph.nodes.items in
    let old = c.args.self.now.offsets.items in
    let whole : Whole = record { kind = c.args.t; at = c.args.at; start = c.len.result } in
    leaf_open nodes old (c.args.at ∷ []) c.push-then-is_reference.new.self.items whole (omega arith) c.in_ok-push-3.ensures.items (reference_told nodes old c.args.self.now.tasks.items c.args.self.now.runs c.args.t c.args.at (sym c.is_reference.ensures ∙ c.if-is_reference.true) c.requires)

pub returns-then-is_reference : goal.returns-then-is_reference
returns-then-is_reference c =
    let nodes = c.args.types.now.graph.nodes.items in
    let old = c.args.self.now.offsets.items in
    let g = leaf_goes nodes old (c.args.at ∷ []) c.close.new.self.offsets.items c.args.self.now.tasks.items c.close.new.self.tasks.items c.args.t c.args.at c.args.self.now.runs c.close.new.self.runs (c.in_ok-close.ensures.offsets ∙ c.in_ok-push-3.ensures.items) c.in_ok-close.ensures.tasks (reference_told nodes old c.args.self.now.tasks.items c.args.self.now.runs c.args.t c.args.at (sym c.is_reference.ensures ∙ c.if-is_reference.true) c.requires) c.requires c.in_ok-close.ensures.known in
    record { walk = g.walk; same = g.same; less = g.less }

pub close-requires-2-clause-open : goal.close-requires-2-clause-open
close-requires-2-clause-open c =
    let nodes = c.args.types.now.graph.nodes.items in
    let old = c.args.self.now.offsets.items in
    let whole : Whole = record { kind = c.args.t; at = c.args.at; start = c.len.result } in
    leaf_open nodes old [] old whole (omega arith) (sym (append-nil old)) (plain_told nodes old c.args.self.now.tasks.items c.args.self.now.runs c.args.t c.args.at (sym c.is_record.ensures ∙ c.if-is_record.false) c.in_default-array_parts.ensures (sym c.is_reference.ensures ∙ c.if-is_reference.false) c.requires)

pub returns : goal.returns
returns c =
    let nodes = c.args.types.now.graph.nodes.items in
    let old = c.args.self.now.offsets.items in
    let g = leaf_goes nodes old [] _ c.args.self.now.tasks.items _ c.args.t c.args.at c.args.self.now.runs _ (c.in_ok-close-2.ensures.offsets ∙ sym (append-nil old)) c.in_ok-close-2.ensures.tasks (plain_told nodes old c.args.self.now.tasks.items c.args.self.now.runs c.args.t c.args.at (sym c.is_record.ensures ∙ c.if-is_record.false) c.in_default-array_parts.ensures (sym c.is_reference.ensures ∙ c.if-is_reference.false) c.requires) c.requires c.in_ok-close-2.ensures.known in
    record { walk = g.walk; same = g.same; less = g.less }
