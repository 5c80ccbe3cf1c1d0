-- `exec`, and `run` of what `build` stores, end alike.
use Rattle.std.proofs.Common.{◌≡◌, ◌∙◌, ℕ, false, List, [], refl, sym, ap, subst, inl, inr, arith}
use Rattle.m3_base.specs.Schedules.{IsSchedule, lines_of}
use Rattle.m3_base.specs.declared.outcomes.Outcome.{Outcome}
use Rattle.m3_heap.specs.Semi.{new_heap}
use Rattle.m3_image_sections.specs.Parts.{Image}
use Rattle.m3_run_meaning.specs.State.{State}
use Rattle.m3_run_meaning.specs.Runs.{Over}
use Rattle.m3_run_loop.specs.Leading.{config}
use Rattle.m3_plain.specs.Terms.{Term, outcome_of}
use Rattle.m3_plain.specs.PlainForm.{IsPlain}
use Rattle.m3_plain.proofs.Bounds.{plain_points}
use Rattle.m3_plain_image.specs.Image.{plain_image}
use Rattle.m3_plain_runs.specs.EndsAs.{IsPlainRun}
use Rattle.m3_plain_runs.proofs.Ending.{runs-agree}
use Rattle.m3c_image_commands.specs.Statuses.{Took}
use Rattle.m3c_image_commands.specs.Reports.{end_status, report}
use Rattle.m3c_source_commands.specs.Orders.{usual_setting}
use Rattle.m3c_words.specs.Asked.{usual_options}
use Rattle.m3c.specs.Agreeing.{EndsAlike, ExecAndRunAgree}
use Rattle.m3c.specs.Command.{Call, Ran, UsualRun}
use Rattle.m3c.proofs.PlainRuns.{Whole, whole_run}

no_switches : IsSchedule [] []
unfolding lines_of
no_switches = record { said = refl; few = omega arith }

plain_run : (text name : List ℕ) (puts : List Term) (bytes : List ℕ) (last : State) (outcome : Outcome) → IsPlain text puts → UsualRun name puts bytes last outcome → IsPlainRun name puts last outcome
plain_run text name puts bytes last outcome plain run =
    let few = plain_points text puts plain in
    record {
      heap = new_heap usual_setting.heap;
      threads = usual_setting.threads;
      stack = usual_setting.stack;
      points = usual_setting.points;
      input = [];
      from = run.start;
      end = config (Over last outcome) run.ran.later bytes;
      enough = omega (arith, few);
      small = omega arith;
      begun = run.begins;
      leads = run.ran.leads;
      over = refl;
    }

same_report : (i : Image) (a b : Outcome) (p q n m c d : ℕ) → a ≡ b → p ≡ q → n ≡ m → report i false a p n c ≡ report i false b q m d
same_report i a b p q n m c d e f g = rw (e, f, g) refl

alike : (one other : Call) (outcome : Outcome) (status : ℕ) (line : List ℕ) (ran : Ran one outcome) → Whole ran.name ran.puts other.out status line → Took other.err.taken line → EndsAlike one outcome ran other status
alike one other outcome status line ran w said =
    let i = plain_image ran.name ran.puts in
    let counts = runs-agree ran.text ran.name ran.name ran.puts ran.last w.last outcome (outcome_of ran.puts) ran.plain (plain_run ran.text ran.name ran.puts _ ran.last outcome ran.plain ran.run) (plain_run ran.text ran.name ran.puts _ w.last (outcome_of ran.puts) ran.plain w.run) in
    record {
      by_status = w.by_status ∙ ap end_status ran.ends;
      output = w.output;
      says = subst (λ (l : List ℕ). Took other.err.taken l)
          (w.by_line ∙ same_report i (outcome_of ran.puts) outcome w.last.points ran.last.points w.last.instructions ran.last.instructions w.last.collections ran.last.collections ran.ends (w.points ∙ sym ran.points) counts) said;
    }

pub exec_and_run : ExecAndRunAgree
exec_and_run one other outcome status image bytes ran promises asks held same calm =
    let i = plain_image ran.name ran.puts in
    elim (promises.run_complete image usual_options i [] [] asks (record { bytes = bytes; text = []; image = held; of_switches = refl; of_input = refl; read = same ∙ ran.image; lines = no_switches }) calm) [
      | inl r ↦ inl (alike one other outcome status r.0 ran (whole_run ran.text ran.name ran.puts other.out status r.0 ran.plain r.1) r.2)
      | inr out ↦ inr out
    ]
