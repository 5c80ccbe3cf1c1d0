-- Where each type that was reached has all its steps in the list, nothing else is reached.
use Rattle.std.proofs.Common.{◌≡◌, ℕ, ◌+◌, ◌<◌, ◌≤◌, List, ◌++◌, length, get_or, take, All, sym, ◌∙◌, ap, subst, arith, true, length-append}
use Rattle.std.specs.Prelude.{nat_eq}
use Rattle.std.proofs.lemmas.List.{take-append-le, take_all}
use Rattle.std.proofs.lemmas.List.Elements.{All-more, All-weaker, All-contains}
use Rattle.std.proofs.lemmas.Map.Views.{Contains-from_any}
use Rattle.std.proofs.lemmas.Bool.Decides.{nat_tests}
use Rattle.m3_types.specs.declared.nodes.TypeNode.{TypeNode}
use Rattle.m3_types.specs.declared.nodes.Reveal.{Reveal}
use Rattle.m3_types_subtype.specs.Subtypes.{Steps, start, further, Subtype}
use Rattle.m3_types_subtype.specs.Reaching.{Has, Extends, IsDone}
use Rattle.m3_types_subtype.proofs.Adding.{has_stays}
use Rattle.m3_types_subtype.proofs.Closure.{subtype_reaches}

pub extends_longer : (old new : List ℕ) → Extends old new → length old ≤ length new
extends_longer old new e = let l : length new ≡ length (old ++ e.0) = ap length e.1 in omega (arith, length-append old e.0)

same_number : (x y : ℕ) → nat_eq x y ≡ true → x ≡ y
same_number x y h = grind (arith, nat_tests)

module _ (nodes : List TypeNode) (reveals : List Reveal) (view b : ℕ) where
  pub done_more : (old new : List ℕ) (next x : ℕ) → Extends old new → next < length old → x ≡ get_or old next x → All (IsDone nodes reveals view b old) (take next old) → IsDone nodes reveals view b new x → All (IsDone nodes reveals view b new) (take (next + 1) new)
  done_more old new next x e l at done now =
      let P = IsDone nodes reveals view b new in
      let before : All P (take next old) = All-weaker (IsDone nodes reveals view b old) P (λ y d. record { closed = λ z s. has_stays old new z e (d.closed z s); apart = d.apart }) (take next old) done in
      let more : All P (take (next + 1) old) = All-more P old next x l before (subst P at now) in
      subst (All P) (sym (ap (take (next + 1)) e.1 ∙ take-append-le (next + 1) old e.0 (omega arith))) more

  pub all_done : (places : List ℕ) (n : ℕ) → length places ≤ n → All (IsDone nodes reveals view b places) (take n places) → All (IsDone nodes reveals view b places) places
  all_done places n l all = subst (All (IsDone nodes reveals view b places)) (take_all n places l) all

  done_at : (places : List ℕ) (x : ℕ) → All (IsDone nodes reveals view b places) places → Has places x → IsDone nodes reveals view b places x
  done_at places x all h = All-contains (IsDone nodes reveals view b places) places x all (Contains-from_any same_number x places h)

  steps_stay : (places : List ℕ) (a z : ℕ) → Has places a → All (IsDone nodes reveals view b places) places → Steps nodes reveals view a z → Has places z
  steps_stay places a z h all start = h
  steps_stay places a z h all (further {x = x} p s) = (done_at places x all (steps_stay places a x h all p)).closed z s

  pub no_subtype : (places : List ℕ) (a : ℕ) → Has places a → All (IsDone nodes reveals view b places) places → Subtype nodes reveals view a b → ⊥
  no_subtype places a h all s =
      let r = subtype_reaches nodes reveals view a b s in
      (done_at places r.0 all (steps_stay places a r.0 h all r.1.0)).apart r.1.1
