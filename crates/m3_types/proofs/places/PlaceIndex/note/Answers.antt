use Rattle.std.proofs.Common.{◌≡◌, ◌<◌, ◌++◌, ◌∷◌, [], ℕ, Option, Some, length, refl, sym, ◌∙◌, ap, subst, arith}
use Rattle.m3_types.specs.declared.places.Link.{Link}
use Rattle.m3_types.specs.Noting.{newest_of, IsNoted, Descends, AreThere}
use Rattle.m3_types.proofs.Noting.{descends_more, there_either, noted_stays, noted_unchanged, noted_last, newest_here}
use Rattle.m3_types.proofs.places.PlaceIndex.note.Goals as goal

pub invariant_of-self-2 : goal.invariant_of-self-2
invariant_of-self-2 c =
    let links = c.args.self.now.links.items in
    let m = c.args.self.now.newest in
    let count : c.len-number.result ≡ length c.args.self.now.links.items = omega (arith, c.len-number.ensures, c.args.self.now.links.ok.0) in
    let link : Link = record { place = c.args.place; older = c.copied-older.result } in
    let e = c.in_ok-push.ensures.items in
    let older : c.copied-older.result ≡ newest_of m c.args.view c.args.id = c.copied-older.ensures ∙ c.get.ensures.value in
    record {
      descends = subst Descends (sym e) (descends_more links link c.args.self.now.descends (λ o f. c.args.self.now.there c.args.view c.args.id o (sym older ∙ f)));
      there = subst (AreThere c.insert.new.self) (sym e) (there_either c.insert.result m c.insert.new.self c.args.view c.args.id c.len-number.result links link count c.insert.ensures.updates c.insert.ensures.err c.args.self.now.there);
    }

pub returns-in_err-insert-clause-keeps : goal.returns-in_err-insert-clause-keeps
returns-in_err-insert-clause-keeps c = λ v i p h.
    let links = c.args.self.now.links.items in
    let count : c.len-number.result ≡ length c.args.self.now.links.items = omega (arith, c.len-number.ensures, c.args.self.now.links.ok.0) in
    let link : Link = record { place = c.args.place; older = c.copied-older.result } in
    subst (λ ls. IsNoted ls (newest_of c.insert.new.self v i) p) (sym c.in_ok-push.ensures.items) (noted_unchanged c.args.self.now.newest c.insert.new.self c.in_err-insert.ensures.err links link v i p h)

pub returns-clause-keeps : goal.returns-clause-keeps
returns-clause-keeps c = λ v i p h.
    let links = c.args.self.now.links.items in
    let m = c.args.self.now.newest in
    let count : c.len-number.result ≡ length c.args.self.now.links.items = omega (arith, c.len-number.ensures, c.args.self.now.links.ok.0) in
    let link : Link = record { place = c.args.place; older = c.copied-older.result } in
    let older : c.copied-older.result ≡ newest_of m c.args.view c.args.id = c.copied-older.ensures ∙ c.get.ensures.value in
    subst (λ ls. IsNoted ls (newest_of c.insert.new.self v i) p) (sym c.in_ok-push.ensures.items) (noted_stays m c.insert.new.self c.args.view c.args.id c.len-number.result c.in_ok-insert.ensures.updates links link count older v i p h)

pub returns-clause-noted : goal.returns-clause-noted
returns-clause-noted c =
    let links = c.args.self.now.links.items in
    let count : c.len-number.result ≡ length c.args.self.now.links.items = omega (arith, c.len-number.ensures, c.args.self.now.links.ok.0) in
    let link : Link = record { place = c.args.place; older = c.copied-older.result } in
    let P : Option ℕ → Type 0 = λ o. IsNoted (links ++ link ∷ []) o c.args.place in
    subst (λ ls. IsNoted ls (newest_of c.insert.new.self c.args.view c.args.id) c.args.place) (sym c.in_ok-push.ensures.items) (subst P (ap Some (sym count) ∙ sym c.in_ok-insert.ensures.updates.1) (noted_last links link c.args.place refl))
