use Rattle.std.specs.Prelude.{ℕ, Ok}
use Rattle.std.proofs.Common.{refl, sym, ap, subst, arith}
use Rattle.m3_image_sections.specs.Parts.{Program}
use Rattle.m3_image_sections.specs.PartViews.{type_of}
use Rattle.m3_run_meaning.specs.Progress.{Ends, became}
use Rattle.m3_run_meaning.specs.State.{State, memory_of}
use Rattle.m3_run_meaning.specs.Making.{Makes}
use Rattle.m3_run_meaning.specs.NewTexts.{Sizes, Fails_at_size, Makes_open, GivesOpen, no_sizes, makes_open, open_words}
use Rattle.m3_run_state.specs.Seen.{Rest, state_of, program_of}
use Rattle.m3_run_state.proofs.Going.{still_going}
use Rattle.m3_run_state.proofs.OpenSizes.{words_said}
use Rattle.m3_run_state.proofs.parts.Parts.make_by_sizes.Goals as goal

pub make_sized-requires-clause-room : goal.make_sized-requires-clause-room
make_sized-requires-clause-room g c = omega (arith, c.read_sizes.ensures.few, c.words_asked-words.ensures)

pub returns-in-Err-clause-makes : goal.returns-in-Err-clause-makes
returns-in-Err-clause-makes g c = λ going room t running.
    let m = c.args.self.now in
    let p = program_of m in
    let s = state_of m in
    let form = type_of c.args.shape in
    let memory = memory_of p s in
    let dims = c.dims-dims.ensures in
    let outcome = c.in-Err.outcome in
    let failed = c.in-Err.ensures.read (omega (arith, dims, room)) in
    let fails = subst (λ (at : ℕ). Fails_at_size memory at form.dims outcome) (c.word-at.ensures t running)
    (subst (λ (n : ℕ). Fails_at_size memory c.word-at.result n outcome) dims failed) in
    subst (λ (u : State). Makes_open p t c.args.i s (Ok form) (Ends u outcome)) (sym c.read_sizes.ensures.same) (no_sizes form outcome refl fails)

pub returns-clause-makes : goal.returns-clause-makes
returns-clause-makes g c = λ going room t running.
    let m = c.args.self.now in
    let p = program_of m in
    let s = state_of m in
    let rd = c.read_sizes.new.self in
    let form = type_of c.args.shape in
    let memory = memory_of p s in
    let dims = c.dims-dims.ensures in
    let sizes = rd.sizes.items in
    let progress = became c.make_sized.result (state_of c.make_sized.new.self) in
    let read = c.in-Ok.ensures.read (omega (arith, dims, room)) in
    let told = subst (λ (at : ℕ). Sizes memory at form.dims sizes) (c.word-at.ensures t running) (subst (λ (n : ℕ). Sizes memory c.word-at.result n sizes) dims read.0) in
    let same = ap (λ (r : Rest). r.program) c.read_sizes.ensures.rest in
    let asked = words_said form sizes c.in-Ok.product c.words-element.result c.dims-dims.result c.words_asked-words.result read.1 c.words-element.ensures dims c.words_asked-words.ensures in
    let depth = ap (λ (x : State). x.all.stack) c.read_sizes.ensures.same in
    let made = c.make_sized.ensures.makes (still_going m rd c.read_sizes.ensures.rest depth going) in
    let cell : Makes p c.args.kind (open_words form sizes) s made.0 made.1 = subst (λ (w : ℕ). Makes p c.args.kind w s made.0 made.1) asked
    (subst (λ (u : State). Makes p c.args.kind c.words_asked-words.result u made.0 made.1) c.read_sizes.ensures.same
    (subst (λ (r : Program). Makes r c.args.kind c.words_asked-words.result (state_of rd) made.0 made.1) same made.2)) in
    let gives = subst (λ (r : Program). GivesOpen r c.args.i.a sizes made.0 made.1 progress) same made.3 in
    makes_open form sizes made.0 made.1 progress refl told (subst (λ (k : ℕ). Makes p k (open_words form sizes) s made.0 made.1) c.requires.kind cell) gives
