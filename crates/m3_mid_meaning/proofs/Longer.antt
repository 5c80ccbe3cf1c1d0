-- More blocks change nothing in a run, and more answers go on behind fewer.
use Rattle.std.proofs.Common.{◌≡◌, ◌≢◌, ℕ, zero, suc, ◌+◌, ◌≤◌, List, [], ◌∷◌, ◌++◌, Option, Some, None, refl, sym, ap, ◌∙◌, subst, arith}
use Rattle.std.specs.Prelude.{slice_get}
use Rattle.std.proofs.lemmas.List.{append-nil}
use Rattle.m3_mid.specs.declared.procs.Proc.{Proc}
use Rattle.m3_mid.specs.declared.procs.Block.{Block}
use Rattle.m3_mid.specs.declared.procs.End.{End}
use Rattle.m3_mid.specs.declared.ops.MidOp.{MidOp}
use Rattle.m3_mid_meaning.specs.Memory.{Around}
use Rattle.m3_mid_meaning.specs.States.{State, Ending, Waiting, Next, Goes, Ends}
use Rattle.m3_mid_meaning.specs.Points.{Event, Answer, Effect, Plain, Acts, Outcome}
use Rattle.m3_mid_meaning.specs.Meaning.{effect_of, Exit, To, Over, exit_of}
use Rattle.m3_mid_meaning.specs.Machinery.{Progress, Following, over, behind, go_on, carry_out, leave, run_ops, run_block, run_blocks}
use Rattle.m3_mid_meaning.specs.Runs.{RunsFrom}
use Rattle.m3_mid_meaning.specs.Laws.{BeginsWith}

abbrev Begins : Progress → Outcome → Type 0
Begins None o = Unit {0}
Begins (Some o') o = BeginsWith o'.events o.events

-- more answers change nothing
abbrev IsFinal : List Answer → Ending → Type 0
IsFinal [] ending = Unit {0}
IsFinal (answer ∷ more) ending = ending ≢ Waiting

-- what the second is, with more answers, where the first is over
abbrev Leads : List Answer → Progress → Progress → Type 0
Leads more None r = Unit {0}
Leads more (Some o) r = (IsFinal more o.ending → r ≡ Some o) × Begins r o

-- the second goes on as the first, with more answers behind
abbrev GoesAlong : List Answer → Following → Following → Type 0
GoesAlong more f g = (s : State) (rest : List Answer) → Leads more (f s rest) (g s (rest ++ more))

over_leads : (more : List Answer) (o : Outcome) → Leads more (Some o) (Some o)
over_leads more o = (λ final. refl, ([], sym (append-nil o.events)))

behind_leads : (more : List Answer) (event : Event) (r r' : Progress) → Leads more r r' → Leads more (behind event r) (behind event r')
behind_leads more event None r' h = tt
behind_leads more event (Some o) None h = (λ final. absurd (let e : None ≡ Some o = h.0 final in cc), tt)
behind_leads more event (Some o) (Some o') h =
    (λ final. ap (behind event) (h.0 final), (h.1.0, ap (λ es. event ∷ es) h.1.1))

next_leads : (more : List Answer) (next : Next) (answers : List Answer) (f g : Following) → GoesAlong more f g → Leads more (go_on next answers f) (go_on next (answers ++ more) g)
next_leads more (Goes s) answers f g h = h s answers
next_leads more (Ends ending) answers f g h = over_leads more (record { events = []; ending = ending })

waiting_leads : (event : Event) (b : Answer) (bs : List Answer) (r : Progress) → Leads (b ∷ bs) (behind event (over Waiting)) (behind event r)
waiting_leads event b bs None = (λ ne. absurd (ne refl), tt)
waiting_leads event b bs (Some o) = (λ ne. absurd (ne refl), (o.events, refl))

effect_leads : (more : List Answer) (x : Effect) (answers : List Answer) (f g : Following) → GoesAlong more f g → Leads more (carry_out x answers f) (carry_out x (answers ++ more) g)
effect_leads more (Plain next) answers f g h = next_leads more next answers f g h
effect_leads [] (Acts event reply) [] f g h = over_leads [] (record { events = event ∷ []; ending = Waiting })
effect_leads (b ∷ bs) (Acts event reply) [] f g h = waiting_leads event b bs (go_on (reply b) bs g)
effect_leads more (Acts event reply) (answer ∷ answers) f g h =
    behind_leads more event (go_on (reply answer) answers f) (go_on (reply answer) (answers ++ more) g) (next_leads more (reply answer) answers f g h)

exit_leads : (more : List Answer) (x : Exit) (f g : ℕ → Progress) → ((b : ℕ) → Leads more (f b) (g b)) → Leads more (leave x f) (leave x g)
exit_leads more (To b) f g h = h b
exit_leads more (Over ending) f g h = over_leads more (record { events = []; ending = ending })

module _ (p : Proc) (around : Around) (more : List Answer) where
  ops_lead : (ops : List MidOp) (end : End) (s : State) (answers : List Answer) (f g : ℕ → Following) → ((b : ℕ) → GoesAlong more (f b) (g b)) → Leads more (run_ops p around ops end s answers f) (run_ops p around ops end s (answers ++ more) g)
  ops_lead [] end s answers f g h =
      exit_leads more (exit_of s end) (λ b. f b s answers) (λ b. g b s (answers ++ more)) (λ b. h b s answers)
  ops_lead (op ∷ ops) end s answers f g h =
      effect_leads more (effect_of p.slots.now around s op) answers (λ s' rest. run_ops p around ops end s' rest f) (λ s' rest. run_ops p around ops end s' rest g) (λ s' rest. ops_lead ops end s' rest f g h)

  block_leads : (block : Option Block) (s : State) (answers : List Answer) (f g : ℕ → Following) → ((b : ℕ) → GoesAlong more (f b) (g b)) → Leads more (run_block p around block s answers f) (run_block p around block s (answers ++ more) g)
  block_leads None s answers f g h = over_leads more _
  block_leads (Some block) s answers f g h = ops_lead block.ops.now block.end s answers f g h

  blocks_lead : (m n : ℕ) → m ≤ n → (b : ℕ) → GoesAlong more (run_blocks m p around b) (run_blocks n p around b)
  blocks_lead zero n le b s answers = tt
  blocks_lead (suc m) zero le b s answers = absurd (omega arith)
  blocks_lead (suc m) (suc n) le b s answers =
      block_leads (slice_get p.blocks.now b) s answers (run_blocks m p around) (run_blocks n p around) (blocks_lead m n (omega arith))

  led : (m n : ℕ) → m ≤ n → (b : ℕ) (s : State) (answers : List Answer) (o : Outcome) → run_blocks m p around b s answers ≡ Some o → Leads more (Some o) (run_blocks n p around b s (answers ++ more))
  led m n le b s answers o e =
      subst (λ r. Leads more r (run_blocks n p around b s (answers ++ more))) e (blocks_lead m n le b s answers)

module _ (p : Proc) (around : Around) (b : ℕ) (s : State) where
  longer : (answers : List Answer) (o : Outcome) (m n : ℕ) → m ≤ n → run_blocks m p around b s answers ≡ Some o → run_blocks n p around b s answers ≡ Some o
  longer answers o m n le e =
      subst (λ some. run_blocks n p around b s some ≡ Some o) (append-nil answers) ((led p around [] m n le b s answers o e).0 tt)

  pub one_end : (answers : List Answer) (o o' : Outcome) → RunsFrom p around b s answers o → RunsFrom p around b s answers o' → o ≡ o'
  one_end answers o o' x y =
      let n : ℕ = x.blocks + y.blocks in
      let e : run_blocks n p around b s answers ≡ Some o = longer answers o x.blocks n (omega arith) x.is in
      let e' : run_blocks n p around b s answers ≡ Some o' = longer answers o' y.blocks n (omega arith) y.is in
      let both : Some o ≡ Some o' = sym e ∙ e' in cc

  final : (more : List Answer) (ending : Ending) → ending ≢ Waiting → IsFinal more ending
  final [] ending ne = tt
  final (answer ∷ more) ending ne = ne

  pub stays : (answers : List Answer) (o : Outcome) → RunsFrom p around b s answers o → (more : List Answer) → o.ending ≢ Waiting → RunsFrom p around b s (answers ++ more) o
  stays answers o x more ne =
      let h = led p around more x.blocks x.blocks (omega arith) b s answers o x.is in
      record { blocks = x.blocks; is = h.0 (final more o.ending ne) }

  pub begins : (answers : List Answer) (o : Outcome) → RunsFrom p around b s answers o → (more : List Answer) (o' : Outcome) → RunsFrom p around b s (answers ++ more) o' → BeginsWith o'.events o.events
  begins answers o x more o' y =
      let n : ℕ = x.blocks + y.blocks in
      let h = led p around more x.blocks n (omega arith) b s answers o x.is in
      subst (λ r. Begins r o) (longer (answers ++ more) o' y.blocks n (omega arith) y.is) h.1
