-- What is left of an action when its loads and puts succeed.
use Rattle.std.proofs.Common.{◌≡◌, ℕ, ◌+◌, ◌==◌, Bool, true, false, cond, Option, Some, None, ap, ◌∙◌}
use Rattle.std.proofs.lemmas.Bool.{eq-eqb}
use Rattle.m3_isa.specs.declared.instructions.Instr.{Instr}
use Rattle.m3_isa.specs.Memory.{Memory, put}
use Rattle.m3_threads.specs.declared.status.Thread.{Thread}
use Rattle.m3_threads.specs.All.{Everyone}
use Rattle.m3_threads.specs.Spaces.{is_in_stack, held, replaceable, put_inside, put_outside}
use Rattle.m3_threads.specs.Actions.{After, loading, putting, traps, changes, jumped_to, frees, holder_at}
use Rattle.m3_threads.specs.declared.answers.Done.TheVariants.{Jumped}

pub putting-done : (all : Everyone) (m : Memory) (can : ℕ → Bool) (at w : ℕ) (go : Everyone → Memory → After) → replaceable all can at ≡ true → putting all m can at w go ≡ go (put_inside all at w) (put_outside all m at w)
putting-done all m can at w go e = ap (λ b. cond b (go (put_inside all at w) (put_outside all m at w)) (traps 2 all m)) e

pub putting-traps : (all : Everyone) (m : Memory) (can : ℕ → Bool) (at w : ℕ) (go : Everyone → Memory → After) → replaceable all can at ≡ false → putting all m can at w go ≡ traps 2 all m
putting-traps all m can at w go e = ap (λ b. cond b (go (put_inside all at w) (put_outside all m at w)) (traps 2 all m)) e

pub loading-done : (all : Everyone) (m : Memory) (o : Option ℕ) (w : ℕ) (go : ℕ → After) → o ≡ Some w → loading all m o go ≡ go w
loading-done all m o w go e = ap (λ v. loading all m v go) e

pub loading-traps : (all : Everyone) (m : Memory) (o : Option ℕ) (go : ℕ → After) → o ≡ None → loading all m o go ≡ traps 2 all m
loading-traps all m o go e = ap (λ v. loading all m v go) e

-- the mutex is freed
pub frees-done : (t : Thread) (i : Instr) (all : Everyone) (m : Memory) (can : ℕ → Bool) (go : Everyone → Memory → After) (h : ℕ) → held all m (holder_at t i.a) ≡ Some h → h ≡ t.number + 1 → replaceable all can (holder_at t i.a) ≡ true → frees t i all m can go ≡ go (put_inside all (holder_at t i.a) 0) (put_outside all m (holder_at t i.a) 0)
frees-done t i all m can go h e n r =
    loading-done all m (held all m (holder_at t i.a)) h (λ holder. cond (holder == t.number + 1) (putting all m can (holder_at t i.a) 0 go) (changes Jumped (jumped_to i.imm) t.number all m)) e
    ∙ ap (λ b. cond b (putting all m can (holder_at t i.a) 0 go) (changes Jumped (jumped_to i.imm) t.number all m)) (eq-eqb h (t.number + 1) n)
    ∙ putting-done all m can (holder_at t i.a) 0 go r

-- the memory outside holds the same after a put where it held the same before
pub put_outside-same : (all : Everyone) (m other : Memory) (at w x : ℕ) → m x ≡ other x → put_outside all m at w x ≡ put_outside all other at w x
put_outside-same all m other at w x e =
    elim (is_in_stack all at) as (λ (b : Bool). (cond b m (put m at w)) x ≡ (cond b other (put other at w)) x) [
      | true ↦ e
      | false ↦ ap (λ o. cond (x == at) (Some w) o) e
    ]

-- what can be replaced depends on the word's own address
pub replaceable-same : (all : Everyone) (can other : ℕ → Bool) (at : ℕ) → can at ≡ other at → replaceable all can at ≡ replaceable all other at
replaceable-same all can other at e = ap (λ b. cond (is_in_stack all at) true b) e
