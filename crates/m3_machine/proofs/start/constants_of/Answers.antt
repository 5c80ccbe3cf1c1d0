use Rattle.std.specs.Prelude.{ℕ, ◌≡◌, ◌<◌, ◌++◌, ◌∷◌, [], List, length, take, Option, unwrap_or, slice_index_or}
use Rattle.std.proofs.Common.{arith, ap, sym, ◌∙◌}
use Rattle.std.proofs.lemmas.List.{take_more}
use Rattle.std.proofs.lemmas.Option.{slice_get-get_or}
use Rattle.m3_image.specs.Views.{image_view}
use Rattle.m3_machine.proofs.start.constants_of.Goals as goal

pub constants-preserved : goal.constants-preserved
constants-preserved c =
    let words = (image_view c.args.image.now).program.constants in
    let n = c.constants.n in
    let within : n < length words = omega (arith, c.constant_count.ensures, c.in-Ok.ensures, c.constants-test.true) in
    let word : c.unwrap_or.result ≡ slice_index_or words n 0 =
    c.unwrap_or.ensures ∙ ap (λ (o : Option ℕ). unwrap_or o 0) (c.constant.ensures ∙ slice_get-get_or words n 0 within) in
    c.in_ok-push.ensures.items ∙ ap (λ (xs : List ℕ). xs ++ c.unwrap_or.result ∷ []) c.constants.invariant
    ∙ ap (λ w. take n words ++ w ∷ []) word ∙ sym (take_more words n 0 within)
