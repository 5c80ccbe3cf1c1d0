-- The run of the image of a text in the plain form ended as its puts do.
use Rattle.std.proofs.Common.{◌≡◌, ℕ, List, [], ◌∷◌, refl, ap, ◌∙◌, subst, inl, inr, ◌⊎◌, arith}
use Rattle.std.specs.Prelude.{false}
use Rattle.m3_base.specs.declared.outcomes.FaultKind.TheVariants.{Overflow}
use Rattle.m3_base.specs.declared.outcomes.Outcome.{Outcome}
use Rattle.m3_base.specs.declared.outcomes.Outcome.TheVariants.{Done, Fault}
use Rattle.m3_heap.specs.Semi.{new_heap}
use Rattle.m3_run_meaning.specs.State.{State}
use Rattle.m3_run_meaning.specs.Runs.{Over}
use Rattle.m3_run_loop.specs.Leading.{config}
use Rattle.m3_plain.specs.Terms.{Term, Value, Gives, Overflows, value_of, ended_by, outcome_of, output_of, points_of}
use Rattle.m3_plain.specs.PlainForm.{IsPlain}
use Rattle.m3_plain.proofs.Bounds.{plain_points}
use Rattle.m3_plain_image.specs.Image.{plain_image}
use Rattle.m3_plain_runs.specs.EndsAs.{EndsAs}
use Rattle.m3_plain_runs.proofs.Ending.{runs-end}
use Rattle.m3c_image_commands.specs.Statuses.{Putting, Took}
use Rattle.m3c_image_commands.specs.Reports.{Ended, end_status, report}
use Rattle.m3c_source_commands.specs.Orders.{usual_setting}
use Rattle.m3c.specs.Command.{UsualRun}

abbrev pub IsPlainEnd : Outcome → Type 0
IsPlainEnd outcome = (outcome ≡ Done) ⊎ ((at : ℕ) × (outcome ≡ Fault Overflow 0 at))

-- puts end with Done or with an overflow
pub plain_end : (puts : List Term) → IsPlainEnd (outcome_of puts)
plain_end [] = inl refl
plain_end (put ∷ puts) = end_by (value_of put) (outcome_of puts) (plain_end puts)
  where
    end_by : (v : Value) (o : Outcome) → IsPlainEnd o → IsPlainEnd (ended_by v o)
    end_by (Gives z) o h = h
    end_by (Overflows line) o h = inr (line, refl)

-- the run put the values, with the status and the line of its end
pub record Whole (name : List ℕ) (puts : List Term) (out : Putting) (status : ℕ) (line : List ℕ) : Type 0 where
  pub last : State
  pub run : UsualRun name puts (output_of puts) last (outcome_of puts)
  pub points : last.points ≡ points_of puts
  pub output : Took out.taken (output_of puts)
  pub by_status : status ≡ end_status (outcome_of puts)
  pub by_line : line ≡ report (plain_image name puts) false (outcome_of puts) last.points last.instructions last.collections

ends-as : (text name : List ℕ) (puts : List Term) (bytes : List ℕ) (last : State) (outcome : Outcome) → IsPlain text puts → UsualRun name puts bytes last outcome → EndsAs puts last outcome bytes
ends-as text name puts bytes last outcome plain run =
    let few = plain_points text puts plain in
    runs-end text name puts (new_heap usual_setting.heap) usual_setting.threads usual_setting.stack usual_setting.points [] run.start (config (Over last outcome) run.ran.later bytes) plain (omega (arith, few)) (omega arith) run.begins run.ran.leads

pub whole_run : (text name : List ℕ) (puts : List Term) (out : Putting) (status : ℕ) (line : List ℕ) → IsPlain text puts → Ended (plain_image name puts) usual_setting false out status line → Whole name puts out status line
whole_run text name puts out status line plain e =
    let end = ends-as text name puts e.bytes e.to e.outcome plain e.run in
    record {
      last = e.to;
      run = subst (λ (o : Outcome). UsualRun name puts (output_of puts) e.to o) end.ended (subst (λ (b : List ℕ). UsualRun name puts b e.to e.outcome) end.output e.run);
      points = end.points;
      output = subst (λ (b : List ℕ). Took out.taken b) end.output e.put;
      by_status = e.by_status ∙ ap end_status end.ended;
      by_line = e.by_line ∙ ap (λ (o : Outcome). report (plain_image name puts) false o e.to.points e.to.instructions e.to.collections) end.ended;
    }
