-- A collection of a machine, from what the collection of its parts told.
use Rattle.std.specs.Prelude.{ℕ, ◌≡◌, Bool, true, false, List}
use Rattle.std.specs.Bool.{OnTrue, OnFalse}
use Rattle.std.proofs.Common.{sym, ap, subst, ◌∙◌}
use Rattle.std.proofs.lemmas.Bool.{OnTrue_at, OnFalse_at}
use Rattle.m3_heap.specs.Heap.{KeepsLaws, SameSizes}
use Rattle.m3_heap.specs.declared.store.Store.{Ghosts}
use Rattle.m3_image_sections.specs.Parts.{Program}
use Rattle.m3_image_decoded.specs.Ready.{image_of}
use Rattle.m3_roots.specs.Collected.{Collected, StopsCollection}
use Rattle.m3_roots.specs.Steps.{StepsAtMost}
use Rattle.m3_run_meaning.specs.State.{State, raised}
use Rattle.m3_run_meaning.specs.Collecting.{parts_of, Collects, Spoils}
use Rattle.m3_run_state.specs.declared.parts.Parts.{Parts}
use Rattle.m3_run_state.specs.Seen.{program_of}

with_constants : Program → List ℕ → Program
with_constants p cs = record p { constants = cs }

-- the program of a machine is its image's
pub image_program : {S L : Type 0} {g : Ghosts S} (m : Parts S L g) → m.memory.outside.constants.items ≡ (image_of m.image).program.constants → (image_of m.image).program ≡ program_of m
unfolding with_constants
image_program m loaded = ap (λ (cs : List ℕ). with_constants (image_of m.image).program cs) (sym loaded)

-- whatever a collection was found to be, it took no more steps than it takes at most
abbrev pub Costs : Program → State → State → Type 0
Costs p old new = (c : Collected p (parts_of old) (parts_of new)) → StepsAtMost p c.walks old.heap new.heap old.steps new.steps

pub collects : (p q : Program) (old new : State) (b : Bool) (n : ℕ) → p ≡ q → b ≡ true → OnTrue b (Collected p (parts_of old) (parts_of new)) → OnTrue b (StopsCollection p (parts_of old) → ⊥)
    → OnTrue b (Costs p old new) → new ≡ record old { all = new.all; globals = new.globals; heap = new.heap; collections = n; steps = new.steps } → n ≡ raised 64 old.collections → Collects q old new
collects p q old new b n same e collected whole costs rest counted =
    let c = subst (λ (r : Program). Collected r (parts_of old) (parts_of new)) same (OnTrue_at e collected) in
    record {
      whole = subst (λ (r : Program). StopsCollection r (parts_of old) → ⊥) same (OnTrue_at e whole);
      collected = c;
      steps = subst (λ (r : Program). Costs r old new) same (OnTrue_at e costs) c;
      rest = rest ∙ ap (λ (k : ℕ). record old { all = new.all; globals = new.globals; heap = new.heap; collections = k; steps = new.steps }) counted;
    }

pub spoils : (p q : Program) (old new : State) (b : Bool) → p ≡ q → b ≡ false → OnFalse b (StopsCollection p (parts_of old))
    → KeepsLaws new.heap → SameSizes old.heap new.heap → new.heap.is_open ≡ false → new ≡ record old { all = new.all; globals = new.globals; heap = new.heap; steps = new.steps } → Spoils q old new
spoils p q old new b same e stops laws sizes closed rest = record {
  stops = subst (λ (r : Program). StopsCollection r (parts_of old)) same (OnFalse_at e stops);
  laws = laws;
  sizes = sizes;
  closed = closed;
  rest = rest;
}
