-- What a thread may become in its place.
use Rattle.std.proofs.Common.{◌≡◌, ℕ, true, false, cond, refl}
use Rattle.m3_isa.specs.declared.registers.Regs.{Regs}
use Rattle.m3_threads.specs.declared.status.Thread.{Thread}
use Rattle.m3_threads.specs.declared.status.Status.{Status}
use Rattle.m3_threads.specs.declared.status.Status.TheVariants.{Ready, Wants, Waits, Joins}
use Rattle.m3_threads.specs.All.{is_asleep_at, queue_place_at, NamesRegisters}
use Rattle.m3_threads.specs.PlacesInside.{MayBecome}
use Rattle.m3_threads.specs.Actions.{woken, woken_at, woken_on, sleeps_on, alert_marked, alerted_at}

same : (t : Thread) → MayBecome t t
same t = record { slot = refl; number = refl; asleep = λ h. (h, refl); registers = λ h. h }

woken-asleep : (s : Status) → is_asleep_at (woken_at s) ≡ true → (is_asleep_at s ≡ true) × (queue_place_at (woken_at s) ≡ queue_place_at s)
woken-asleep Ready h = (h, refl)
woken-asleep (Wants m) h = (h, refl)
woken-asleep (Waits m c p a) h = cc
woken-asleep (Joins c a) h = (h, refl)

woken-names : (s : Status) → NamesRegisters s → NamesRegisters (woken_at s)
woken-names Ready h = h
woken-names (Wants m) h = h
woken-names (Waits m c p a) h = h.0
woken-names (Joins c a) h = h

pub may-wake : (t : Thread) → MayBecome t (woken t)
may-wake t = record { slot = refl; number = refl; asleep = woken-asleep t.status; registers = woken-names t.status }

pub may-wake_on : (at : ℕ) (t : Thread) → MayBecome t (woken_on at t)
may-wake_on at t = elim (sleeps_on at t) as (λ b. MayBecome t (cond b (woken t) t)) [ true ↦ may-wake t | false ↦ same t ]

alerted-asleep : (s : Status) → is_asleep_at (alerted_at s) ≡ true → (is_asleep_at s ≡ true) × (queue_place_at (alerted_at s) ≡ queue_place_at s)
alerted-asleep Ready h = (h, refl)
alerted-asleep (Wants m) h = (h, refl)
alerted-asleep (Waits m c p true) h = cc
alerted-asleep (Waits m c p false) h = (h, refl)
alerted-asleep (Joins c a) h = (h, refl)

alerted-names : (s : Status) → NamesRegisters s → NamesRegisters (alerted_at s)
alerted-names Ready h = h
alerted-names (Wants m) h = h
alerted-names (Waits m c p true) h = h.0
alerted-names (Waits m c p false) h = h
alerted-names (Joins c a) h = h

pub may-alert : (t : Thread) → MayBecome t (alert_marked t)
may-alert t = record { slot = refl; number = refl; asleep = alerted-asleep t.status; registers = alerted-names t.status }

-- other registers, and the same status
pub may-compute : (t : Thread) (regs : Regs) → MayBecome t (record t { regs = regs })
may-compute t regs = record { slot = refl; number = refl; asleep = λ h. (h, refl); registers = λ h. h }

-- a thread that is awake and stands at an instruction of these registers
pub may-stand : (old new : Thread) → old.slot ≡ new.slot → old.number ≡ new.number → is_asleep_at new.status ≡ false → NamesRegisters new.status → MayBecome old new
may-stand old new slot number awake names = record { slot = slot; number = number; asleep = λ h. cc; registers = λ _. names }
