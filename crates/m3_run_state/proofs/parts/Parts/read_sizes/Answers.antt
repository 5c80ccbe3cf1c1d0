use Rattle.std.specs.Prelude.{ℕ, ◌≡◌, ◌<◌, ◌+◌, ◌-◌, ◌*◌, ◌^◌, min, List, [], length}
use Rattle.std.proofs.Common.{sym, ap, subst, ◌∙◌, arith}
use Rattle.std.proofs.lemmas.List.{length_push}
use Rattle.m3_base.specs.Words.{add_words}
use Rattle.m3_run_meaning.specs.State.{State, memory_of}
use Rattle.m3_run_meaning.specs.NewTexts.{Sizes, none, more, not_there, too_large, product}
use Rattle.m3_run_state.specs.Seen.{Rest, state_of, program_of}
use Rattle.m3_run_state.proofs.OpenSizes.{product_more, stopped, lt_of_nat_le, le_of_nat_le}
use Rattle.m3_run_state.proofs.parts.Parts.read_sizes.Goals as goal

pub sizes-init : goal.sizes-init
sizes-init g c =
    let m = c.args.self.now in
    let memory = memory_of (program_of m) (state_of m) in
    let empty : c.forget_sizes.new.self.sizes.items ≡ [] = c.forget_sizes.ensures.none in
    let long = ap (λ (xs : List ℕ). length xs) empty in
    let one = ap (λ (xs : List ℕ). product xs) empty in
    record {
      rest = c.forget_sizes.ensures.rest;
      room = c.forget_sizes.ensures.room;
      same = c.forget_sizes.ensures.same;
      few = omega (arith, long);
      read = λ room. (subst (λ (xs : List ℕ). Sizes memory c.args.at 0 xs) (sym empty) none, long, omega (arith, one));
    }

pub sizes-preserved : goal.sizes-preserved
sizes-preserved g c =
    let m = c.args.self.now in
    let p = program_of m in
    let s = state_of m in
    let memory = memory_of p s in
    let now = c.sizes.self in
    let new = c.keep_size.new.self in
    let n = c.sizes.n in
    let size = c.in-Some.size in
    let inv = c.sizes.invariant in
    record {
      rest = c.keep_size.ensures.rest ∙ inv.rest;
      room = c.keep_size.ensures.room ∙ inv.room;
      same = c.keep_size.ensures.same ∙ inv.same;
      few = omega (arith, c.keep_size.ensures.few, inv.few);
      read = λ room.
          let read = inv.read room in
          let kept = c.keep_size.ensures.kept (omega (arith, inv.room, room, read.1, c.sizes-test.true)) in
          let place = add_words c.args.at n in
          let there = ap (λ (k : ℕ). memory_of (program_of now) (state_of now) (add_words c.args.at k)) (sym c.from.ensures) ∙ sym c.in-Some.ensures in
          let loaded = sym (ap (λ (r : Rest). memory_of r.program (state_of now) place) inv.rest ∙ ap (λ (z : State). memory_of p z place) inv.same) ∙ there in
          let small : size < 2 ^ 63 = lt_of_nat_le size (2 ^ 63) (sym c.is_too_large.ensures ∙ c.if-is_too_large.false) in (
            subst (λ (xs : List ℕ). Sizes memory c.args.at (n + 1) xs) (sym kept) (more n size now.sizes.items read.0 loaded small),
            ap (λ (xs : List ℕ). length xs) kept ∙ length_push now.sizes.items size ∙ ap (λ k. k + 1) read.1,
            c.saturating_mul-product.ensures ∙ ap (λ q. min (q * size) (2 ^ 64 - 1)) read.2 ∙ stopped (product now.sizes.items) size (2 ^ 64 - 1)
                ∙ sym (ap (λ q. min q (2 ^ 64 - 1)) (product_more now.sizes.items size)) ∙ sym (ap (λ (xs : List ℕ). min (product xs) (2 ^ 64 - 1)) kept),
          );
    }

pub returns-in-None-clause-read : goal.returns-in-None-clause-read
returns-in-None-clause-read g c = λ room.
    let m = c.args.self.now in
    let p = program_of m in
    let now = c.sizes.self in
    let n = c.sizes.n in
    let inv = c.sizes.invariant in
    let place = add_words c.args.at n in
    let there = ap (λ (k : ℕ). memory_of (program_of now) (state_of now) (add_words c.args.at k)) (sym c.from.ensures) ∙ sym c.in-None.ensures in
    let missing = sym (ap (λ (r : Rest). memory_of r.program (state_of now) place) inv.rest ∙ ap (λ (z : State). memory_of p z place) inv.same) ∙ there in
    not_there n now.sizes.items c.sizes-test.true (inv.read room).0 missing

pub returns-then-is_too_large-clause-read : goal.returns-then-is_too_large-clause-read
returns-then-is_too_large-clause-read g c = λ room.
    let m = c.args.self.now in
    let p = program_of m in
    let now = c.sizes.self in
    let n = c.sizes.n in
    let size = c.in-Some.size in
    let inv = c.sizes.invariant in
    let place = add_words c.args.at n in
    let there = ap (λ (k : ℕ). memory_of (program_of now) (state_of now) (add_words c.args.at k)) (sym c.from.ensures) ∙ sym c.in-Some.ensures in
    let loaded = sym (ap (λ (r : Rest). memory_of r.program (state_of now) place) inv.rest ∙ ap (λ (z : State). memory_of p z place) inv.same) ∙ there in
    too_large n size now.sizes.items c.sizes-test.true (inv.read room).0 loaded (le_of_nat_le size (2 ^ 63) (sym c.is_too_large.ensures ∙ c.if-is_too_large.true))

pub returns-clause-read : goal.returns-clause-read
returns-clause-read g c = λ room.
    let m = c.args.self.now in
    let memory = memory_of (program_of m) (state_of m) in
    let read = c.sizes.invariant.read room in
    let all : c.sizes.n ≡ c.args.dims = omega arith in
    (subst (λ (k : ℕ). Sizes memory c.args.at k c.sizes.self.sizes.items) all read.0, read.2)
