use Rattle.std.proofs.Common.{length, refl, sym, subst}
use Rattle.m3_mid_additions.specs.Additions.{IsWithAdded}
use Rattle.m3_mid_additions.proofs.Growing.{same_blocks}
use Rattle.m3_gen_bases.proofs.basing.find_bases.Goals as goal

pub returns-then-not-has_addresses : goal.returns-then-not-has_addresses
returns-then-not-has_addresses c =
    let p = c.args.p.now in
    subst (λ z. IsWithAdded p z) (sym c.in_ok-without_bases.ensures)
    (record { slots = refl; formals = refl; start = refl; blocks = same_blocks (length p.temps.now) p.formals p.blocks.now })

pub returns-then-not-contains : goal.returns-then-not-contains
returns-then-not-contains c =
    let p = c.args.p.now in
    subst (λ z. IsWithAdded p z) (sym c.in_ok-without_bases-2.ensures)
    (record { slots = refl; formals = refl; start = refl; blocks = same_blocks (length p.temps.now) p.formals p.blocks.now })
