-- The frame below another one, by its first words.
use Rattle.std.proofs.Common.{◌≡◌, ℕ, ◌+◌, ◌<◌, true, List, Option, Some, None, sym, ◌∙◌, ap, subst, arith}
use Rattle.std.specs.Prelude.{MatchOption}
use Rattle.std.specs.List.{slice_get}
use Rattle.m3_image_sections.specs.Parts.{Program}
use Rattle.m3_run_frames.specs.declared.frame.Frame.{Frame}
use Rattle.m3_run_frames.specs.Frames.{IsFrame, IsOlder, is_call_at}

pub older_found : (p : Program) (base : ℕ) (stack : List ℕ) (newer : Frame) (first instr back start : ℕ) (o : Option Frame) → slice_get stack newer.first ≡ Some back → slice_get stack (newer.first + 1) ≡ Some start → back ≡ instr + 1
    → start ≡ base + first → first < newer.first → is_call_at p instr ≡ true → MatchOption o ((f : Frame) → IsFrame p stack first instr f → ⊥) (λ f. IsFrame p stack first instr f)
    → MatchOption o ((f : Frame) → IsOlder p base stack newer f → ⊥) (λ f. IsOlder p base stack newer f)
older_found p base stack newer first instr back start None e f from at below call none = λ older h.
    (let a = h.back in
    let b = h.start in
    let c : back ≡ h.instr + 1 = cc in
    let d : start ≡ base + older.first = cc in
    let same_instr : h.instr ≡ instr = omega arith in
    let same_first : older.first ≡ first = omega arith in
    none older (subst (λ (n : ℕ). IsFrame p stack n instr older) same_first (subst (λ (n : ℕ). IsFrame p stack older.first n older) same_instr h.frame)))
older_found p base stack newer first instr back start (Some g) e f from at below call frame =
    let begins = frame.begins in
    record {
      instr = instr;
      back = e ∙ ap (λ (n : ℕ). Some n) from;
      start = f ∙ ap (λ (n : ℕ). Some n) (at ∙ ap (λ (n : ℕ). base + n) (sym begins));
      below = omega arith;
      call = call;
      frame = subst (λ (n : ℕ). IsFrame p stack n instr g) (sym begins) frame;
    }
