-- Where CALLM finds no method.
use Rattle.std.specs.Prelude.{ℕ, ◌≡◌, ◌+◌, List, Option, Some, Result, Err}
use Rattle.std.proofs.Common.{sym, ap, ◌∙◌}
use Rattle.m3_base.specs.Words.{add_words}
use Rattle.m3_base.specs.declared.outcomes.Outcome.{Outcome}
use Rattle.m3_isa.specs.Memory.{Memory}
use Rattle.m3_image_sections.specs.declared.procs.ProcPart.{ProcPart}
use Rattle.m3_image_sections.specs.Parts.{CellType}
use Rattle.m3_run_meaning.specs.declared.near.Place.{Place}
use Rattle.m3_run_meaning.specs.Act.{finding, or_trap}
use Rattle.m3_run_meaning.specs.Calls.{method_at, method_from, number_before}

pub method_refused : (found : Option ProcPart) (caller : ProcPart) (types : List CellType) (n : ℕ) (at : Place) (memory : Memory) (cell : ℕ) (outcome : Outcome)
    → found ≡ Some caller → memory (add_words at.fp (caller.body + 3)) ≡ Some cell → method_at types memory cell n ≡ Err outcome → Err outcome ≡ method_from found types n at memory
method_refused found caller types n at memory cell outcome there loaded refused =
    sym (ap (λ (o : Option ProcPart). method_from o types n at memory) there
    ∙ ap (λ (w : Option ℕ). finding (or_trap 2 w) (λ c. finding (method_at types memory c n) (number_before 4))) loaded
    ∙ ap (λ (r : Result ℕ Outcome). finding r (number_before 4)) refused)
