use Rattle.std.proofs.Common.{◌≡◌, ℕ, List, refl, ap}
use Rattle.m3_image_tests.proofs.Samples.{rich, globals_with, same_program, rich_keeps, rich_fits}
use Rattle.m3_image_tests.proofs.writing.rich.Goals as goal

pub returns-clause-form : goal.returns-clause-form
returns-clause-form c =
    let procs : c.in_ok-from_slice.field-0.items ≡ rich.procs = rw (c.in_ok-from_slice.ensures.items, c.proc.ensures, c.proc-2.ensures, c.proc-3.ensures) refl in
    let globals = ap (λ (x : List ℕ). globals_with 7 x) c.in_ok-from_slice-2.ensures.items in
    rich_keeps _ c.in_ok-two_variables.field-0 refl (same_program _ rich c.in_ok-rich_code.ensures procs c.in_ok-types_of_all_kinds.ensures globals c.in_ok-from_slice-3.ensures.items c.in_ok-names.ensures c.in_ok-from_slice-4.ensures.items c.in_ok-names-2.ensures c.in_ok-from_slice-5.ensures.items) c.in_ok-two_variables.ensures.views c.in_ok-two_variables.ensures.numbered

pub returns-clause-size : goal.returns-clause-size
returns-clause-size c =
    let procs : c.in_ok-from_slice.field-0.items ≡ rich.procs = rw (c.in_ok-from_slice.ensures.items, c.proc.ensures, c.proc-2.ensures, c.proc-3.ensures) refl in
    let globals = ap (λ (x : List ℕ). globals_with 7 x) c.in_ok-from_slice-2.ensures.items in
    rich_fits _ c.in_ok-two_variables.field-0 refl (same_program _ rich c.in_ok-rich_code.ensures procs c.in_ok-types_of_all_kinds.ensures globals c.in_ok-from_slice-3.ensures.items c.in_ok-names.ensures c.in_ok-from_slice-4.ensures.items c.in_ok-names-2.ensures c.in_ok-from_slice-5.ensures.items) c.in_ok-two_variables.ensures.views
