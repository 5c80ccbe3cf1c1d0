use Rattle.std.specs.Prelude.{ℕ, List}
use Rattle.std.specs.Bool.{OnTrue}
use Rattle.std.proofs.Common.{subst}
use Rattle.std.proofs.lemmas.Bool.{OnTrue_at, OnTrue_from}
use Rattle.std.proofs.Math.Logic.{∥∥₁_elim}
use Rattle.m3_image_decoded.specs.Ready.{image_of}
use Rattle.m3_roots.specs.Collected.{Parts, StopsCollection}
use Rattle.m3_run_state.proofs.collections.collect_by.Goals as goal

pub collect-requires-clause-fitting : goal.collect-requires-clause-fitting
collect-requires-clause-fitting g c =
    ∥∥₁_elim c.requires.fitting (g.met.S.Store.fits_once c.args.outside.now.heap.store _) (λ f. f)

pub returns-clause-fitting : goal.returns-clause-fitting
returns-clause-fitting g c = λ e. ∣ c.collect.ensures.fitting e ∣₁

pub returns-clause-whole : goal.returns-clause-whole
returns-clause-whole g c = λ room.
    let with-globals : List ℕ → Parts = λ globals. record { all = c.args.threads.now; globals = globals; heap = g.S.Store.heap c.args.outside.now.heap.store } in
    subst (λ (globals : List ℕ). OnTrue c.collect.result (StopsCollection (image_of c.args.image.now).program (with-globals globals) → ⊥)) c.deref_mut.ensures.value (c.collect.ensures.whole room)

pub returns-clause-cost : goal.returns-clause-cost
returns-clause-cost g c = λ room. OnTrue_from c.collect.result _ (λ e collected. OnTrue_at e (c.collect.ensures.cost room) collected.walks collected.framed)
