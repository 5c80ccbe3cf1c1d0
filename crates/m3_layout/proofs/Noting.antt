-- The place of a type's pointers is noted.
use Rattle.std.proofs.Common.{◌≡◌, ℕ, ◌-◌, List, [], length, take, drop, Option, Some, Bool, true, false, cond, refl, sym, ◌∙◌, ap, subst, arith, ⊎_elim, ◌≢◌}
use Rattle.std.proofs.lemmas.Bool.{cases_eq}
use Rattle.std.proofs.lemmas.Grind.{common_steps}
use Rattle.std.specs.Ordering.{nat_cmp}
use Rattle.std.specs.BTreeMap.{BTreeMap, get, is_at}
use Rattle.std.proofs.lemmas.List.{append-nil, take_rest}
use Rattle.m3_types.specs.declared.nodes.TypeNode.{TypeNode}
use Rattle.m3_layout.specs.declared.walk.Run.{Run}
use Rattle.m3_layout.specs.declared.walk.Whole.{Whole}
use Rattle.m3_layout.specs.Walking.{IsOpen, IsRun, AreRuns}

elsewhere : (k q : ℕ) → q ≢ k → is_at (nat_cmp k) q ≡ false
elsewhere k q ne = grind (arith, common_steps)

at_key : (key i : ℕ) → is_at (nat_cmp key) i ≡ true → key ≡ i
at_key key i h = ⊎_elim (λ e. sym e) (λ ne. let z : is_at (nat_cmp key) i ≡ false = elsewhere key i ne in let y : ⊥ = cc in absurd y) (cases_eq i key)

run_is : {r run : Run} → Some r ≡ Some run → r ≡ run
run_is h = cc

module _ (nodes : List TypeNode) where
  one_noted : (offsets : List ℕ) (key i : ℕ) (r run : Run) (b : Bool) (o : Option Run) → (b ≡ true → key ≡ i) → IsRun nodes offsets key r → (o ≡ Some run → IsRun nodes offsets i run) → cond b (Some r) o ≡ Some run → IsRun nodes offsets i run
  one_noted offsets key i r run true o k new old h = subst (IsRun nodes offsets i) (run_is h) (subst (λ n. IsRun nodes offsets n r) (k refl) new)
  one_noted offsets key i r run false o k new old h = old h

  pub noted : (offsets : List ℕ) (runs runs' : BTreeMap ℕ Run) (key : ℕ) (r : Run) → ((q : ℕ) → get nat_cmp runs' q ≡ cond (is_at (nat_cmp key) q) (Some r) (get nat_cmp runs q)) → AreRuns nodes offsets runs → IsRun nodes offsets key r → AreRuns nodes offsets runs'
  noted offsets runs runs' key r updates known new i run h =
      one_noted offsets key i r run (is_at (nat_cmp key) i) (get nat_cmp runs i) (at_key key i) new (known i run) (sym (updates i) ∙ h)

  pub whole_run : (offsets : List ℕ) (whole : Whole) (end : ℕ) → end ≡ length offsets → IsOpen nodes offsets whole [] → IsRun nodes offsets whole.kind.0 (record { start = whole.start; end = end; at = whole.at })
  whole_run offsets whole end e o =
      record {
        ordered = omega (arith, o.0);
        within = omega arith;
        right = ap (λ n. take (n - whole.start) (drop whole.start offsets)) e ∙ take_rest offsets whole.start ∙ sym (append-nil (drop whole.start offsets)) ∙ o.1;
      }
