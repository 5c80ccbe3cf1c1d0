use Rattle.std.specs.Prelude.{ℕ, ◌≡◌, ◌+◌, ◌%◌, [], ◌∷◌, true, slice_index}
use Rattle.std.proofs.Common.{refl, sym, ap, subst, ◌∙◌, arith}
use Rattle.m3_isa.specs.Memory.{put}
use Rattle.m3_run_meaning.specs.Progress.{became}
use Rattle.m3_run_meaning.specs.State.{Becomes, memory_of, can_set}
use Rattle.m3_run_meaning.specs.Texts.{text_rest}
use Rattle.m3_run_meaning.specs.NewTexts.{Fills, with_words}
use Rattle.m3_run_state.specs.Seen.{Rest, state_of, program_of}
use Rattle.m3_run_state.proofs.NewCells.{HasBlank, blank_can_set}
use Rattle.m3_run_state.proofs.Filling.{with_none, fill_step, put_there, others_on, still_running}
use Rattle.m3_run_state.proofs.parts.Parts.fill_char.Goals as goal

pub returns-clause-fills : goal.returns-clause-fills
returns-clause-fills g c = λ t running.
    let m = c.args.self.now in
    let p = program_of m in
    let s = state_of m in
    let memory = memory_of p s in
    let start = c.args.start in
    let low = c.word-low.result in
    let all = text_rest (low % 256 ∷ []) in
    let one = state_of c.set_word.new.self in
    let two = state_of c.set_word-2.new.self in
    let is-new = c.requires.new in
    let b : HasBlank s.heap.cells start 0 3 = record { front = is-new.0; back = is-new.1; is = is-new.2; sound = (g.met.S.Store.sound m.memory.outside.heap.store).cells } in
    let first : can_set s (start + 1) ≡ true = blank_can_set s start 0 3 1 b m.memory.outside.few (omega arith) (omega arith) in
    let second : can_set one (start + 2) ≡ true = c.set_word.ensures.settable (start + 2) ∙ blank_can_set s start 0 3 2 b m.memory.outside.few (omega arith) (omega arith) in
    let same = ap (λ (r : Rest). r.program) c.set_word.ensures.rest in
    let same-too = ap (λ (r : Rest). r.program) (c.set_word-2.ensures.rest ∙ c.set_word.ensures.rest) in
    let at-first : start + 1 ≡ start + 1 + 0 = omega arith in
    let at-second : start + 2 ≡ start + 1 + 1 = omega arith in
    let byte : low % 256 ≡ slice_index all 1 = omega arith in
    let length-put = λ (x : ℕ). fill_step p s one memory (start + 1) 0 all x (omega arith) (sym (with_none (start + 1) memory x))
    (put_there p p (program_of c.set_word.new.self) s one (start + 1) 1 1 x refl same refl (c.set_word.ensures.set first x)
    ∙ ap (λ a. put memory a 1 x) at-first) in
    let both-put = λ (x : ℕ). fill_step p one two memory (start + 1) 1 all x (omega arith) (length-put x)
    (put_there p (program_of c.set_word.new.self) (program_of c.set_word-2.new.self) one two (start + 2) (low % 256) (slice_index all 1) x same same-too byte (c.set_word-2.ensures.set second x)
    ∙ ap (λ a. put (memory_of p one) a (slice_index all 1) x) at-second) in
    let becomes : Becomes p s (with_words (start + 1) all memory) two = record {
      others = others_on s one two c.set_word.ensures.others c.set_word-2.ensures.others;
      words = both-put;
    } in
    let fills : Fills p c.args.i.a start all s t (became c.give.result (state_of c.give.new.self)) = record {
      filled = two;
      becomes = becomes;
      goes = c.give.ensures.goes t (still_running s two t becomes.others running);
    } in
    subst (λ (w : ℕ). Fills p c.args.i.a start (text_rest (w % 256 ∷ [])) s t (became c.give.result (state_of c.give.new.self))) (c.word-low.ensures t running) fills
