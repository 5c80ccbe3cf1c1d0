use Rattle.std.proofs.Common.{◌≡◌, ◌-◌, suc, ap, ◌∙◌, sym, arith}
use Rattle.std.proofs.lemmas.Option.{slice_get-get_or, slice_get_past}
use Rattle.m3_isa.specs.CodeBytes.{operation, operations}
use Rattle.m3_isa.proofs.code_bytes.operation.Goals as goal
use Rattle.m3_isa.proofs.code_bytes.operation.Goals.{then-number-eq0-via-then-number-eq0, then-number-eq0-via-else-number-eq0+then-number-gt73}

pub returns : goal.returns
returns c =
    let e : suc c.from.result ≡ c.args.number = omega arith in
    sym (slice_get-get_or operations c.from.result _ (omega arith)) ∙ ap operation e

pub returns-then-number-eq0 : goal.returns-then-number-eq0
returns-then-number-eq0 c =
    elim c.then-number-eq0.branch [
      | then-number-eq0-via-then-number-eq0 w ↦ ap operation (sym w.if-number-eq0.true)
      | then-number-eq0-via-else-number-eq0+then-number-gt73 w ↦
          let place = c.args.number - 1 in
          let e : suc place ≡ c.args.number = omega arith in
          sym (slice_get_past operations place (omega arith)) ∙ ap operation e
    ]
