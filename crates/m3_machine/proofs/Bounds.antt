-- How many instructions a run that is followed has executed at most.
use Rattle.std.specs.Prelude.{ℕ, ◌≡◌, ◌≤◌, ◌<◌, ◌+◌, ◌*◌, true, false, Option, None, Some, slice_get}
use Rattle.std.proofs.Common.{refl, arith, ⊎_elim}
use Rattle.std.proofs.lemmas.Bool.{cases_Bool, cases_lt}
use Rattle.std.proofs.Math.Nat.{mul-le-mul_left}
use Rattle.m3_base.specs.declared.outcomes.Outcome.{Outcome}
use Rattle.m3_base.specs.declared.outcomes.Outcome.TheVariants.{Spent, Trap}
use Rattle.m3_isa.specs.Instructions.{is_point}
use Rattle.m3_isa.specs.declared.instructions.Instr.{Instr}
use Rattle.m3_threads.specs.declared.status.Thread.{Thread}
use Rattle.m3_image_sections.specs.Parts.{Program}
use Rattle.m3_run_meaning.specs.State.{State, running_thread}
use Rattle.m3_run_meaning.specs.Runs.{Place, In_turn, At_point, Over, turn_limit, stands, goes_on, comes_to_point, leaves_code, lasts_too_long}
use Rattle.m3_run_loop.specs.Leading.{Track, config, LeadsTo, Went}
use Rattle.m3_run_laws.specs.Courses.{SoundTurn, SoundPoint, SoundEnd, EndsSoundly, IsSound}
use Rattle.m3_run_laws.proofs.Moving.{next-turn, leads_sound}
use Rattle.m3_machine.specs.Turns.{IsCourse}

few_by : (turns turn p q i j allowed : ℕ) → p ≡ q + turns → turn ≤ 4611686018427387904 → j ≤ q * 4611686018427387904 → i ≤ j + turns * turn → i ≤ p * 4611686018427387904
few_by turns turn p q i j allowed points short few most =
    let more = mul-le-mul_left turns short in
    omega (arith, points, few, most, more)

-- no more points than are allowed, and no more instructions than as many turns may have
abbrev pub Bounded : Track → State → Type 0
Bounded k s = (s.points ≤ k.allowed) × (s.instructions ≤ s.points * 4611686018427387904)

pub sound_at : (p : Program) (start : State) (k : Track) (place : Place) → IsCourse p start k → LeadsTo p k place → IsSound p k.allowed start place
sound_at p start k place known leads = leads_sound p k.input k.allowed start k.from (config place k.entries k.output) (omega (arith, known.small)) known.begins known.sound leads

pub bounded_turn : (p : Program) (start s : State) (k : Track) (n : ℕ) → IsCourse p start k → SoundTurn p k.allowed start s n → Bounded k s
bounded_turn p start s k n known st =
    let more = next-turn st.before (turn_limit p start) in
    (st.within, few_by (st.before + 1) (turn_limit p start) s.points start.points s.instructions start.instructions k.allowed (omega (arith, st.points)) known.short known.few (omega (arith, st.instructions, st.short, more)))

pub bounded_point : (p : Program) (start s : State) (k : Track) → IsCourse p start k → SoundPoint p k.allowed start s → Bounded k s
bounded_point p start s k known st = (st.within, few_by st.turns (turn_limit p start) s.points start.points s.instructions start.instructions k.allowed st.points known.short known.few st.instructions)

ended-so : (p : Program) (start s : State) (k : Track) → IsCourse p start k → SoundEnd p k.allowed start s → Bounded k s
ended-so p start s k known st = (st.within, few_by st.turns (turn_limit p start) s.points start.points s.instructions start.instructions k.allowed st.points known.short known.few st.instructions)

ended-by : (p : Program) (start s : State) (k : Track) (outcome : Outcome) → IsCourse p start k → EndsSoundly p k.allowed start s outcome → Bounded k s
ended-by p start s k Spent known st = bounded_point p start s k known st
ended-by p start s k _ known st = ended-so p start s k known st

pub bounded_end : (p : Program) (start s : State) (k : Track) (outcome : Outcome) → IsCourse p start k → LeadsTo p k (Over s outcome) → Bounded k s
bounded_end p start s k outcome known leads = ended-by p start s k outcome known (sound_at p start k (Over s outcome) known leads)

-- a thread that goes on comes to some place
went-at : (p : Program) (start u : State) (k : Track) (t : Thread) (n : ℕ) (o : Option Instr) → slice_get p.code t.regs.pc ≡ o → IsCourse p start k → running_thread u ≡ Some t → Went p k u n → Bounded k u
went-at p start u k t n None e known running went = bounded_end p start u k (Trap 1) known (went (Over u (Trap 1)) (leaves_code u t running e))
went-at p start u k t n (Some i) e known running went = ⊎_elim
    (λ (point : is_point i.op ≡ true).
    let st : SoundPoint p k.allowed start (stands i u) = sound_at p start k (At_point (stands i u)) known (went (At_point (stands i u)) (comes_to_point u t i running e point)) in
    bounded_point p start (stands i u) k known st)
    (λ (plain : is_point i.op ≡ false). ⊎_elim
    (λ (more : n < turn_limit p u).
    let st : SoundTurn p k.allowed start u n = sound_at p start k (In_turn u n) known (went (In_turn u n) (goes_on u t i running e plain more)) in
    bounded_turn p start u k n known st)
    (λ (long : turn_limit p u ≤ n). bounded_end p start u k (Trap 8) known (went (Over u (Trap 8)) (lasts_too_long u t i running e plain long)))
    (cases_lt n (turn_limit p u)))
    (cases_Bool (is_point i.op))

pub bounded_went : (p : Program) (start u : State) (k : Track) (t : Thread) (n : ℕ) → IsCourse p start k → running_thread u ≡ Some t → Went p k u n → Bounded k u
bounded_went p start u k t n known running went = went-at p start u k t n (slice_get p.code t.regs.pc) refl known running went
