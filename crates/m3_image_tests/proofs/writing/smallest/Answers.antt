use Rattle.std.proofs.Common.{◌≡◌, ℕ, List, [], ◌∷◌, refl, ap, ◌∙◌}
use Rattle.std.specs.Prelude.{map}
use Rattle.m3_image_writer.specs.Views.{cell_type}
use Rattle.m3_image_tests.proofs.Samples.{texts, smallest, globals_with, same_program, smallest_keeps, smallest_fits}
use Rattle.m3_image_tests.proofs.writing.smallest.Goals as goal

pub returns-clause-form : goal.returns-clause-form
returns-clause-form c =
    let code : c.in_ok-from_slice.field-0.items ≡ smallest.code = rw (c.in_ok-from_slice.ensures.items, c.instr-point.ensures, c.instr-end.ensures) refl in
    let procs : c.in_ok-from_slice-2.field-0.items ≡ smallest.procs = rw (c.in_ok-from_slice-2.ensures.items, c.proc.ensures, c.proc-2.ensures) refl in
    let pushed : map cell_type c.push-2.new.self.items ≡ cell_type c.texts.result ∷ cell_type c.in_ok-threads.field-0 ∷ [] = rw (c.in_ok-push-2.ensures.items, c.in_ok-push.ensures.items, c.new-types.ensures.items) refl in
    let types : map cell_type c.push-2.new.self.items ≡ smallest.types = pushed ∙ ap (λ x. x ∷ cell_type c.in_ok-threads.field-0 ∷ []) c.texts.ensures ∙ ap (λ x. texts ∷ x ∷ []) c.in_ok-threads.ensures in
    let globals = ap (λ (x : List ℕ). globals_with 4 x) c.new.ensures.items in
    smallest_keeps _ (same_program _ smallest code procs types globals c.new-2.ensures.items c.new-3.ensures.items c.new-4.ensures.items c.new-5.ensures.items c.in_ok-from_slice-3.ensures.items) c.requires

pub returns-clause-size : goal.returns-clause-size
returns-clause-size c =
    let code : c.in_ok-from_slice.field-0.items ≡ smallest.code = rw (c.in_ok-from_slice.ensures.items, c.instr-point.ensures, c.instr-end.ensures) refl in
    let procs : c.in_ok-from_slice-2.field-0.items ≡ smallest.procs = rw (c.in_ok-from_slice-2.ensures.items, c.proc.ensures, c.proc-2.ensures) refl in
    let pushed : map cell_type c.push-2.new.self.items ≡ cell_type c.texts.result ∷ cell_type c.in_ok-threads.field-0 ∷ [] = rw (c.in_ok-push-2.ensures.items, c.in_ok-push.ensures.items, c.new-types.ensures.items) refl in
    let types : map cell_type c.push-2.new.self.items ≡ smallest.types = pushed ∙ ap (λ x. x ∷ cell_type c.in_ok-threads.field-0 ∷ []) c.texts.ensures ∙ ap (λ x. texts ∷ x ∷ []) c.in_ok-threads.ensures in
    let globals = ap (λ (x : List ℕ). globals_with 4 x) c.new.ensures.items in
    smallest_fits _ (same_program _ smallest code procs types globals c.new-2.ensures.items c.new-3.ensures.items c.new-4.ensures.items c.new-5.ensures.items c.in_ok-from_slice-3.ensures.items) c.requires
