-- An activation comes where its next stop is.
use Rattle.std.proofs.Common.{◌≡◌, ℕ, zero, suc, List, [], ◌∷◌, Option, Some, None, refl, ap, ◌∙◌, subst}
use Rattle.std.specs.Prelude.{slice_get}
use Rattle.m3_mid.specs.declared.procs.Proc.{Proc}
use Rattle.m3_mid.specs.declared.procs.Block.{Block}
use Rattle.m3_mid.specs.declared.procs.End.{End}
use Rattle.m3_mid.specs.declared.ops.MidOp.{MidOp}
use Rattle.m3_mid_meaning.specs.Memory.{Around}
use Rattle.m3_mid_meaning.specs.States.{State, Ending, Undefined, Next, Goes, Ends}
use Rattle.m3_mid_meaning.specs.Points.{Effect, Plain, Acts}
use Rattle.m3_mid_meaning.specs.Meaning.{effect_of, Exit, To, Over, exit_of}
use Rattle.m3_mid_meaning.specs.Stops.{Code, Stop, AtPoint, AtEnd}
use Rattle.m3_mid_meaning.specs.Machinery.{Finding, find_next, find_behind, find_at, find_ops, find_block, find_blocks}
use Rattle.m3_mid_programs.specs.Activations as place
use Rattle.m3_mid_programs.specs.Activations.{Came, Stands, Ended, Comes}
use Rattle.m3_mid_programs.specs.Laws.{IsStopOf, at_point, at_end, ComesToStop}

module _ (p : Proc) (around : Around) where
  abbrev Finds : List MidOp → End → State → ℕ → Finding
  Finds ops end s n = find_ops p around ops end s (find_blocks n p around)

  -- ---- from where it came to the stop

  abbrev Stopped : List MidOp → End → State → Came → Type 0
  Stopped ops end s came = (stop : Stop) × ((n : ℕ) × (Finds ops end s n ≡ Some stop)) × IsStopOf p around came stop

  by_effect : (op : MidOp) (ops : List MidOp) (end : End) (s : State) (n : ℕ) (x : Effect) → effect_of p.slots.now around s op ≡ x → Finds (op ∷ ops) end s n ≡ find_behind x ops end (λ after. Finds ops end after n)
  by_effect op ops end s n x h = ap (λ y. find_behind y ops end (λ after. Finds ops end after n)) h

  by_exit : (end : End) (s : State) (n : ℕ) (x : Exit) → exit_of s end ≡ x → Finds [] end s n ≡ find_at x (λ b. find_blocks n p around b s)
  by_exit end s n x h = ap (λ y. find_at y (λ b. find_blocks n p around b s)) h

  by_block : (b : ℕ) (s : State) (n : ℕ) (block : Option Block) → slice_get p.blocks.now b ≡ block → find_blocks (suc n) p around b s ≡ find_block p around block s (find_blocks n p around)
  by_block b s n block h = ap (λ y. find_block p around y s (find_blocks n p around)) h

  to_stop : (ops : List MidOp) (end : End) (s : State) (came : Came) → Comes p around ops end s came → Stopped ops end s came
  to_stop ops end s came (place.stands op rest _ _ event reply h) =
      let code : Code = record { ops = rest; end = end } in
      (AtPoint event reply code, (0, by_effect op rest end s 0 (Acts event reply) h), at_point s op event reply code h)
  to_stop ops end s came (place.goes op rest _ _ after _ h k) =
      let r = to_stop rest end after came k in
      (r.0, (r.1.0, by_effect op rest end s r.1.0 (Plain (Goes after)) h ∙ r.1.1), r.2)
  to_stop ops end s came (place.ends op rest _ _ ending h) = (AtEnd ending, (0, by_effect op rest end s 0 (Plain (Ends ending)) h), at_end ending)
  to_stop ops end s came (place.leads _ _ b block _ h t k) =
      let r = to_stop block.ops.now block.end s came k in
      let n : ℕ = r.1.0 in
      (r.0, (suc n, by_exit end s (suc n) (To b) h ∙ by_block b s n (Some block) t ∙ r.1.1), r.2)
  to_stop ops end s came (place.leads_nowhere _ _ b h t) = (AtEnd Undefined, (1, by_exit end s 1 (To b) h ∙ by_block b s 0 None t), at_end Undefined)
  to_stop ops end s came (place.leaves _ _ ending h) = (AtEnd ending, (0, by_exit end s 0 (Over ending) h), at_end ending)

  -- ---- from the stop to where it came

  abbrev Coming : List MidOp → End → State → Stop → Type 0
  Coming ops end s stop = (came : Came) × Comes p around ops end s came × IsStopOf p around came stop

  -- what a block leads to, from any end that leads there
  abbrev Leading : ℕ → State → Stop → Type 0
  Leading b s stop = (end : End) → exit_of s end ≡ To b → Coming [] end s stop

  abbrev AllLead : ℕ → Type 0
  AllLead n = (b : ℕ) (s : State) (stop : Stop) → find_blocks n p around b s ≡ Some stop → Leading b s stop

  same_end : (ending : Ending) (stop : Stop) → Some (AtEnd ending) ≡ Some stop → IsStopOf p around (Ended ending) stop
  same_end ending stop e = let same : AtEnd ending ≡ stop = cc in subst (λ x. IsStopOf p around (Ended ending) x) same (at_end ending)

  next_came : (op : MidOp) (ops : List MidOp) (end : End) (s : State) (n : ℕ) (next : Next) (stop : Stop) → ((after : State) → Finds ops end after n ≡ Some stop → Coming ops end after stop) →
      effect_of p.slots.now around s op ≡ Plain next → find_next next (λ after. Finds ops end after n) ≡ Some stop → Coming (op ∷ ops) end s stop
  next_came op ops end s n (Goes after) stop go h e = let r = go after e in (r.0, place.goes op ops end s after r.0 h r.1, r.2)
  next_came op ops end s n (Ends ending) stop go h e = (Ended ending, place.ends op ops end s ending h, same_end ending stop e)

  effect_came : (op : MidOp) (ops : List MidOp) (end : End) (s : State) (n : ℕ) (x : Effect) (stop : Stop) → ((after : State) → Finds ops end after n ≡ Some stop → Coming ops end after stop) →
      effect_of p.slots.now around s op ≡ x → find_behind x ops end (λ after. Finds ops end after n) ≡ Some stop → Coming (op ∷ ops) end s stop
  effect_came op ops end s n (Plain next) stop go h e = next_came op ops end s n next stop go h e
  effect_came op ops end s n (Acts event reply) stop go h e =
      let code : Code = record { ops = ops; end = end } in
      let same : AtPoint event reply code ≡ stop = let all : Some (AtPoint event reply code) ≡ Some stop = e in cc in
      (Stands s op event code, place.stands op ops end s event reply h, subst (λ x. IsStopOf p around (Stands s op event code) x) same (at_point s op event reply code h))

  exit_came : (end : End) (s : State) (n : ℕ) (x : Exit) (stop : Stop) → AllLead n → exit_of s end ≡ x → find_at x (λ b. find_blocks n p around b s) ≡ Some stop → Coming [] end s stop
  exit_came end s n (To b) stop all h e = all b s stop e end h
  exit_came end s n (Over ending) stop all h e = (Ended ending, place.leaves end s ending h, same_end ending stop e)

  ops_came : (ops : List MidOp) (end : End) (s : State) (n : ℕ) (stop : Stop) → AllLead n → Finds ops end s n ≡ Some stop → Coming ops end s stop
  ops_came [] end s n stop all e = exit_came end s n (exit_of s end) stop all refl e
  ops_came (op ∷ ops) end s n stop all e =
      effect_came op ops end s n (effect_of p.slots.now around s op) stop (λ after. ops_came ops end after n stop all) refl e

  block_came : (b : ℕ) (s : State) (n : ℕ) (block : Option Block) (stop : Stop) → AllLead n → slice_get p.blocks.now b ≡ block → find_block p around block s (find_blocks n p around) ≡ Some stop → Leading b s stop
  block_came b s n None stop all t e end h = (Ended Undefined, place.leads_nowhere end s b h t, same_end Undefined stop e)
  block_came b s n (Some block) stop all t e end h =
      let r = ops_came block.ops.now block.end s n stop all e in
      (r.0, place.leads end s b block r.0 h t r.1, r.2)

  all_lead : (n : ℕ) → AllLead n
  all_lead zero b s stop e = absurd (let bad : None ≡ Some stop = e in cc)
  all_lead (suc n) b s stop e = block_came b s n (slice_get p.blocks.now b) stop (all_lead n) refl e

  pub comes_to_stop : (code : Code) (s : State) → ComesToStop p around code s
  comes_to_stop code s = record {
    stop = λ came k.
        let r = to_stop code.ops code.end s came k in (r.0, record { blocks = r.1.0; is = r.1.1 }, r.2);
    came = λ stop k. ops_came code.ops code.end s k.blocks stop (all_lead k.blocks) k.is;
  }
