use Rattle.std.proofs.Common.{Ok, refl, arith}
use Rattle.m3_syntax.specs.Lexis.{first_place, stops}
use Rattle.m3_lexer.specs.declared.fronts.Front.TheVariants.{Skipped, Spelled}
use Rattle.m3_lexer.specs.Fronts.{IsFront}
use Rattle.m3_lexer.proofs.ReadsLaws.{skip_step, token_step}
use Rattle.m3_lexer.proofs.tokens.lex.Goals as goal

pub loop-rest-init : goal.loop-rest-init
loop-rest-init c = record { so_far = rw c.new-tokens.ensures.items stops; inside = omega arith; line = omega arith; column = omega arith }

pub loop-rest-preserved-in-Ok-Skipped : goal.loop-rest-preserved-in-Ok-Skipped
loop-rest-preserved-in-Ok-Skipped c =
    let given : IsFront c.loop-rest.rest.now (Ok (Skipped c.in-Ok-Skipped.len)) = rw c.in-Ok-Skipped.field-0-is at c.in-Ok-Skipped.ensures in
    let cut = c.split_at.ensures in
    record {
      so_far = skip_step (first_place c.args.file) c.loop-rest.pos c.place_after-pos.result c.args.src.now c.loop-rest.rest.now c.split_at.result.0.now c.split_at.result.1.now
          c.loop-rest.tokens.items c.in-Ok-Skipped.len c.loop-rest.invariant.so_far given cut.front cut.back c.place_after-pos.ensures.place;
      inside = omega arith;
      line = omega arith;
      column = omega arith;
    }

pub loop-rest-preserved : goal.loop-rest-preserved
loop-rest-preserved c =
    let given : IsFront c.loop-rest.rest.now (Ok (Spelled c.in-Ok-Spelled.kind c.in-Ok-Spelled.len)) = rw c.in-Ok-Spelled.field-0-is at c.in-Ok-Spelled.ensures in
    let cut = c.split_at-in-Ok-Spelled.ensures in
    record {
      so_far = token_step (first_place c.args.file) c.loop-rest.pos c.place_after-pos-in-Ok-Spelled.result c.args.src.now c.loop-rest.rest.now c.split_at-in-Ok-Spelled.result.1.now
          c.loop-rest.tokens.items c.push.new.self.items (record { kind = c.in-Ok-Spelled.kind; text = c.split_at-in-Ok-Spelled.result.0; pos = c.loop-rest.pos }) c.in-Ok-Spelled.len
          c.loop-rest.invariant.so_far given cut.front cut.back refl c.place_after-pos-in-Ok-Spelled.ensures.place c.in_ok-push-in-Ok-Spelled.ensures.items;
      inside = omega arith;
      line = omega arith;
      column = omega arith;
    }
