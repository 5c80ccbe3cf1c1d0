use Rattle.std.proofs.Common.{ℕ}
use Rattle.std.specs.Prelude.{IsTrue}
use Rattle.std.specs.Ordering.{nat_cmp}
use Rattle.std.specs.BTreeSet.{contains}
use Rattle.std.proofs.lemmas.List.Elements.{All-contains, All-contains_itself, All-weaker}
use Rattle.m3_types_subtype.proofs.raises.raises_within.Goals as goal

pub returns-in_ok-set-in-Only-Only : goal.returns-in_ok-set-in-Only-Only
returns-in_ok-set-in-Only-Only c =
    let p = c.in-Only-Only in
    let set = c.in_ok-set-in-Only-Only.set in
    let has = c.in_ok-set-in-Only-Only.ensures in
    let P : ℕ → Type 0 = λ e. IsTrue (contains nat_cmp set e) in
    rw (p.is-0, p.is-1) (λ t e h. (has e).0 (All-contains P p.a.now e (c.all_in.ensures.0 t) h), λ s. c.all_in.ensures.1 (All-weaker (λ e. _) P (λ e h. (has e).1 (s e h)) p.a.now (All-contains_itself p.a.now)))
