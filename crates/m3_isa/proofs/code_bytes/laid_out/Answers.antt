use Rattle.std.proofs.Common.{◌≡◌, ℕ, ◌<◌, ap, ◌∙◌, rules}
use Rattle.std.specs.Prelude.{slice_index, drop}
use Rattle.std.specs.Int.{cast_signed, w32}
use Rattle.std.proofs.lemmas.List.{take_rest}
use Rattle.byteorder.specs.Endian.{little_number}
use Rattle.m3_isa.proofs.Codes.{laid_bytes}
use Rattle.m3_isa.proofs.code_bytes.laid_out.Goals as goal

pub returns-clause-bytes : goal.returns-clause-bytes
returns-clause-bytes c =
    let xs = c.args.bytes.now in
    let small : (k : ℕ) → slice_index xs k < 256 = λ k. (c.type_inv.bytes k).fits in
    let imm : c.read_i32.result ≡ cast_signed w32 (little_number 4 (drop 4 xs)) =
    c.read_i32.ensures ∙ ap (λ ys. cast_signed w32 (little_number 4 ys)) (take_rest xs 4) in
    laid_bytes c.args.op xs c.read_i32.result c.requires.eight small c.requires.number imm (search rules)
