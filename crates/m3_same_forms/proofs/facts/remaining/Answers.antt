use Rattle.std.proofs.Common.{sym, ap, ◌∙◌, ◌++◌, ◌∷◌, []}
use Rattle.m3_same_forms.specs.Facts.{stays}
use Rattle.m3_same_forms.proofs.Keeping.{kept_with, kept_without}
use Rattle.m3_same_forms.proofs.facts.remaining.Goals as goal

pub loop-known-preserved-in-Continue-1 : goal.loop-known-preserved-in-Continue-1
loop-known-preserved-in-Continue-1 c =
    c.in_ok-push.ensures.items ∙ ap (λ xs. xs ++ c.in-Some.known ∷ []) c.loop-known.invariant
    ∙ sym (kept_with (stays c.args.slot) c.loop-known.yielded c.in-Some.known (sym c.is_kept.ensures ∙ c.if-is_kept.true))

pub loop-known-preserved : goal.loop-known-preserved
loop-known-preserved c =
    c.loop-known.invariant ∙ sym (kept_without (stays c.args.slot) c.loop-known.yielded c.in-Some.known (sym c.is_kept.ensures ∙ c.if-is_kept.false))
