-- A point is passed, from what its parts told.
use Rattle.std.specs.Prelude.{ℕ, ◌≡◌, None, Some}
use Rattle.std.proofs.Common.{refl, subst}
use Rattle.m3_base.specs.declared.outcomes.Entry.{Entry}
use Rattle.m3_base.specs.declared.outcomes.Outcome.TheVariants.{Deadlock, Trap}
use Rattle.m3_threads.specs.Going.{IsChoice, NoneGoes}
use Rattle.m3_image_sections.specs.Parts.{Program}
use Rattle.m3_run_meaning.specs.State.{State, outside}
use Rattle.m3_run_meaning.specs.Collecting.{Spoils}
use Rattle.m3_run_meaning.specs.Points.{Collected_if, Chooses, StopsAtPoint, passed, runs_on, trapped, nobody_left}

pub chooses : (p q : Program) (entry : Entry) (s mid ready : State) (chosen : ℕ) → mid ≡ passed s → q ≡ p → (NoneGoes s.all (outside p s) → ⊥)
    → Collected_if p mid entry.collect (Some ready) → IsChoice ready.all (outside q ready) entry.to ready.running (Some chosen) → Chooses p entry s (runs_on ready chosen)
chooses p q entry s mid ready chosen counted same some collected choice = record {
  some = some;
  ready = ready;
  collected = subst (λ (m : State). Collected_if p m entry.collect (Some ready)) counted collected;
  chosen = chosen;
  choice = subst (λ (r : Program). IsChoice ready.all (outside r ready) entry.to ready.running (Some chosen)) same choice;
  turns = refl;
}

pub traps_there : (p : Program) (entry : Entry) (s mid u : State) → mid ≡ passed s → (NoneGoes s.all (outside p s) → ⊥) → Collected_if p mid entry.collect None → Spoils p mid u → StopsAtPoint p entry s u (Trap 9)
traps_there p entry s mid u counted some collected spoils =
    trapped u some (subst (λ (m : State). Collected_if p m entry.collect None) counted collected) (subst (λ (m : State). Spoils p m u) counted spoils)

pub leaves_nobody : (p q : Program) (entry : Entry) (s mid ready : State) → mid ≡ passed s → q ≡ p → (NoneGoes s.all (outside p s) → ⊥)
    → Collected_if p mid entry.collect (Some ready) → IsChoice ready.all (outside q ready) entry.to ready.running None → StopsAtPoint p entry s ready Deadlock
leaves_nobody p q entry s mid ready counted same some collected choice =
    nobody_left ready some (subst (λ (m : State). Collected_if p m entry.collect (Some ready)) counted collected)
    (subst (λ (r : Program). NoneGoes ready.all (outside r ready)) same (choice.none.0 refl))
