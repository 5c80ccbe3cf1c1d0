use Rattle.std.proofs.Common.{◌≡◌, map, refl, sym, ◌∙◌, ap}
use Rattle.std.specs.Prelude.{is_some}
use Rattle.m3_types.specs.Definitions.{head_of, AProcedure, head_of_formal, head_of_raises}
use Rattle.m3_types_subtype.proofs.Signatures.{modes_of_heads, fits, modes_fit, results_fit, raises_fit}
use Rattle.m3_types_subtype.proofs.procedures.signatures_fit.Goals as goal

pub returns-then-not-same_modes : goal.returns-then-not-same_modes
returns-then-not-same_modes c = λ i j.
    let p = c.in-Procedure-Procedure in
    let fs = map head_of_formal p.fs.now in
    let gs = map head_of_formal p.gs.now in
    let x = head_of_raises p.e in
    let y = head_of_raises p.f in
    let h = head_of i c.args.x in
    let k = head_of j c.args.y in
    let eh : h ≡ AProcedure fs (is_some p.r) x = ap (head_of i) p.is-0 in
    let ek : k ≡ AProcedure gs (is_some p.s) y = ap (head_of j) p.is-1 in
    (λ z. absurd (let w : ⊥ = cc in w), λ s. c.if-not-same_modes.ensures.1 (sym (modes_of_heads p.fs.now) ∙ modes_fit h k fs gs (is_some p.r) (is_some p.s) x y eh ek s ∙ modes_of_heads p.gs.now))

pub returns-then-not-both_or_neither : goal.returns-then-not-both_or_neither
returns-then-not-both_or_neither c = λ i j.
    let p = c.in-Procedure-Procedure in
    let fs = map head_of_formal p.fs.now in
    let gs = map head_of_formal p.gs.now in
    let x = head_of_raises p.e in
    let y = head_of_raises p.f in
    let h = head_of i c.args.x in
    let k = head_of j c.args.y in
    let eh : h ≡ AProcedure fs (is_some p.r) x = ap (head_of i) p.is-0 in
    let ek : k ≡ AProcedure gs (is_some p.s) y = ap (head_of j) p.is-1 in
    (λ z. absurd (let w : ⊥ = cc in w), λ s. c.if-not-both_or_neither.ensures.1 (results_fit h k fs gs (is_some p.r) (is_some p.s) x y eh ek s))

pub returns-in_ok-raises_within-in-Procedure-Procedure : goal.returns-in_ok-raises_within-in-Procedure-Procedure
returns-in_ok-raises_within-in-Procedure-Procedure c = λ i j.
    let p = c.in-Procedure-Procedure in
    let fs = map head_of_formal p.fs.now in
    let gs = map head_of_formal p.gs.now in
    let x = head_of_raises p.e in
    let y = head_of_raises p.f in
    let h = head_of i c.args.x in
    let k = head_of j c.args.y in
    let eh : h ≡ AProcedure fs (is_some p.r) x = ap (head_of i) p.is-0 in
    let ek : k ≡ AProcedure gs (is_some p.s) y = ap (head_of j) p.is-1 in
    (λ t. fits h k fs gs (is_some p.r) (is_some p.s) x y eh ek (modes_of_heads p.fs.now ∙ c.if-not-same_modes.ensures.0 refl ∙ sym (modes_of_heads p.gs.now)) (c.if-not-both_or_neither.ensures.0 refl) (c.in_ok-raises_within-in-Procedure-Procedure.ensures.0 t), λ s. c.in_ok-raises_within-in-Procedure-Procedure.ensures.1 (raises_fit h k fs gs (is_some p.r) (is_some p.s) x y eh ek s))
