-- What a fork leaves of the thread that runs.
use Rattle.std.specs.Prelude.{ℕ, ◌≡◌, ◌+◌, ◌==◌, Bool, true, false, List, [], ◌∷◌, ◌++◌, find, Option, None, Some}
use Rattle.std.proofs.Common.{refl, ap, subst, ◌∙◌, cond}
use Rattle.m3_isa.specs.declared.instructions.Instr.{Instr}
use Rattle.m3_isa.specs.declared.registers.Regs.{Regs}
use Rattle.m3_isa.specs.Memory.{put}
use Rattle.m3_isa.specs.Effects.{reg, answered}
use Rattle.m3_threads.specs.declared.status.Thread.{Thread}
use Rattle.m3_threads.specs.declared.status.Status.{Status}
use Rattle.m3_threads.specs.All.{Everyone, is_named, updated, thread_named}
use Rattle.m3_threads.specs.Going.{status_at, with_status, of_thread}
use Rattle.m3_threads.specs.Actions.{Forks}
use Rattle.m3_image_sections.specs.declared.procs.ProcPart.{ProcPart}
use Rattle.m3_image_sections.specs.Parts.{Program}
use Rattle.m3_run_meaning.specs.State.{State, Becomes, memory_of, with_all, with_regs}
use Rattle.m3_run_meaning.specs.Progress.{Progress, Goes}
use Rattle.m3_run_meaning.specs.NewTexts.{standing_at, Starts_thread}

-- a thread is found where others came behind it
found_before-at : (n : ℕ) (x t : Thread) (xs ys : List Thread) (b : Bool) → (find (is_named n) xs ≡ Some t → find (is_named n) (xs ++ ys) ≡ Some t) → cond b (Some x) (find (is_named n) xs) ≡ Some t
    → cond b (Some x) (find (is_named n) (xs ++ ys)) ≡ Some t
found_before-at n x t xs ys true go h = h
found_before-at n x t xs ys false go h = go h

found_before : (n : ℕ) (xs ys : List Thread) (t : Thread) → find (is_named n) xs ≡ Some t → find (is_named n) (xs ++ ys) ≡ Some t
found_before n [] ys t h = cc
found_before n (x ∷ xs) ys t h = found_before-at n x t xs ys (x.number == n) (found_before n xs ys t) h

pub found_forked : (old new : Everyone) (first closure cell number n : ℕ) (t : Thread) → Forks old first closure cell number new → thread_named old n ≡ Some t → thread_named new n ≡ Some t
found_forked old new first closure cell number n t f h = ap (λ (a : Everyone). thread_named a n) f.3 ∙ found_before n old.threads _ t h

-- where no thread has a number, none is changed
unchanged-at : (change : Thread → Thread) (n : ℕ) (x : Thread) (xs : List Thread) (b : Bool) → (find (is_named n) xs ≡ None → updated change n xs ≡ xs) → cond b (Some x) (find (is_named n) xs) ≡ None
    → cond b (change x ∷ xs) (x ∷ updated change n xs) ≡ x ∷ xs
unchanged-at change n x xs true go h = cc
unchanged-at change n x xs false go h = ap (λ us. x ∷ us) (go h)

pub unchanged : (change : Thread → Thread) (n : ℕ) (xs : List Thread) → find (is_named n) xs ≡ None → updated change n xs ≡ xs
unchanged change n [] h = refl
unchanged change n (x ∷ xs) h = unchanged-at change n x xs (x.number == n) (unchanged change n xs) h

pub none_there : {A : Type 0} (part : Thread → A) (o : Option Thread) → None ≡ of_thread part o → o ≡ None
none_there part None e = refl
none_there part (Some t) e = cc

-- a thread that is found keeps its registers where one stands at an instruction
has_regs : Regs → Option Thread → Type 0
has_regs regs o = (t : Thread) × (o ≡ Some t) × (t.regs ≡ regs)

stands-at : (status : Status) (m n : ℕ) (x t : Thread) (xs : List Thread) (b d : Bool) → (x.number == m) ≡ b → (x.number == n) ≡ d
    → (find (is_named n) xs ≡ Some t → has_regs t.regs (find (is_named n) (updated (with_status status) m xs)))
    → cond d (Some x) (find (is_named n) xs) ≡ Some t
    → has_regs t.regs (find (is_named n) (cond b (with_status status x ∷ xs) (x ∷ updated (with_status status) m xs)))
unfolding has_regs
stands-at status m n x t xs true true eb ed go h =
    let same : x.regs ≡ t.regs = cc in
    (with_status status x, ap (λ c. cond c (Some (with_status status x)) (find (is_named n) xs)) ed, same)
stands-at status m n x t xs false true eb ed go h =
    let same : x.regs ≡ t.regs = cc in
    (x, ap (λ c. cond c (Some x) (find (is_named n) (updated (with_status status) m xs))) ed, same)
stands-at status m n x t xs true false eb ed go h =
    (t, ap (λ c. cond c (Some (with_status status x)) (find (is_named n) xs)) ed ∙ h, refl)
stands-at status m n x t xs false false eb ed go h =
    let rest = go h in
    (rest.0, ap (λ c. cond c (Some x) (find (is_named n) (updated (with_status status) m xs))) ed ∙ rest.1, rest.2)

stands : (status : Status) (m n : ℕ) (xs : List Thread) (t : Thread) → find (is_named n) xs ≡ Some t → has_regs t.regs (find (is_named n) (updated (with_status status) m xs))
stands status m n [] t h = cc
stands status m n (x ∷ xs) t h = stands-at status m n x t xs (x.number == m) (x.number == n) refl refl (stands status m n xs t) h

pub found_standing : (i : Instr) (m n : ℕ) (all : Everyone) (t : Thread) → thread_named all n ≡ Some t → (u : Thread) × (thread_named (standing_at i m all) n ≡ Some u) × (u.regs ≡ t.regs)
unfolding has_regs
found_standing i m n all t h = stands (status_at i) m n all.threads t h

-- a fork, from what its parts told
pub started : (p q : Program) (i : Instr) (cell : ℕ) (first : ProcPart) (begins : Instr) (s f numbered : State) (t : Thread) (progress : Progress) (entry closure number : ℕ)
    → q ≡ p → f ≡ with_all s f.all → number ≡ s.all.forks + 1 → entry ≡ first.first → closure ≡ reg t.regs i.b
    → Forks s.all entry closure cell (s.all.forks + 1) f.all → Becomes q f (put (memory_of q f) (cell + 1) number) numbered
    → progress ≡ Goes (with_regs (with_all numbered (standing_at begins number numbered.all)) (answered t.regs i.a cell))
    → Starts_thread p i cell first begins s t progress
started p q i cell first begins s f numbered t progress entry closure number eq ef en ee ec forks becomes goes = record {
  forked = f.all;
  numbered = numbered;
  forks = subst (λ (e : ℕ). Forks s.all e (reg t.regs i.b) cell (s.all.forks + 1) f.all) ee (subst (λ (c : ℕ). Forks s.all entry c cell (s.all.forks + 1) f.all) ec forks);
  number = subst (λ (n : ℕ). Becomes p (with_all s f.all) (put (memory_of p (with_all s f.all)) (cell + 1) n) numbered) en
      (subst (λ (x : State). Becomes p x (put (memory_of p x) (cell + 1) number) numbered) ef
      (subst (λ (r : Program). Becomes r f (put (memory_of r f) (cell + 1) number) numbered) eq becomes));
  goes = goes ∙ ap (λ (n : ℕ). Goes (with_regs (with_all numbered (standing_at begins n numbered.all)) (answered t.regs i.a cell))) en;
}
