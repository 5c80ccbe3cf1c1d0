use Rattle.std.proofs.Common.{◌≡◌, ◌∙◌, ℕ, List, subst, sym}
use Rattle.m3_plain.specs.PlainForm.{IsPlain}
use Rattle.m3c_source_commands.proofs.OrderLemmas.{only_one}
use Rattle.m3c_source_commands.proofs.imaging.read_only.Goals as goal

pub returns-in-Err-clause-not_built : goal.returns-in-Err-clause-not_built
returns-in-Err-clause-not_built c = λ h name text puts f t p.
    let same : text ≡ c.deref.result.now = only_one (λ text. text.items) c.args.sources.now.texts.items c.as_slice-2.result.now c.text-item.result text c.as_slice-2.ensures.value c.text-item.is t ∙ sym c.deref.ensures.value in
    c.in-Err.ensures.not_built (cc) puts (subst (λ (x : List ℕ). IsPlain x puts) same p)
