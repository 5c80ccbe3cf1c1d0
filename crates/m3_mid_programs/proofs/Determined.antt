-- Each activation of middle code has one next move.
use Rattle.std.proofs.Common.{◌≡◌, true, false, List, [], Option, Some, None, refl, sym, ap, ◌∙◌, subst}
use Rattle.std.specs.Prelude.{slice_get}
use Rattle.m3_mid.specs.declared.procs.Proc.{Proc}
use Rattle.m3_mid.specs.declared.procs.Block.{Block}
use Rattle.m3_mid.specs.declared.procs.End.{End}
use Rattle.m3_mid.specs.declared.procs.End.TheVariants as block_ends
use Rattle.m3_mid.specs.declared.ops.MidOp.{MidOp}
use Rattle.m3_runs.specs.Languages as run
use Rattle.m3_runs.specs.Languages.{New, Parts, Entered, Begins, Overflows, Breaks}
use Rattle.m3_runs.specs.Laws.{IsDetermined}
use Rattle.m3_mid_meaning.specs.Memory.{Around}
use Rattle.m3_mid_meaning.specs.States.{State, Next, Goes, Ends}
use Rattle.m3_mid_meaning.specs.Points.{Event, Answer, Effect, Plain, Acts}
use Rattle.m3_mid_meaning.specs.Meaning.{effect_of, To, Over}
use Rattle.m3_mid_programs.specs.Linked.{Linked}
use Rattle.m3_mid_programs.specs.Values.{Value}
use Rattle.m3_mid_programs.specs.Activations as place
use Rattle.m3_mid_programs.specs.Activations.{Memory, Frame, Activation, Activity, Bodies, Applying, Within, Came, Comes}
use Rattle.m3_mid_programs.specs.Actions.{told_as}
use Rattle.m3_mid_programs.specs.Cells as cells
use Rattle.m3_mid_programs.specs.Moves as moving
use Rattle.m3_mid_programs.specs.Moves.{Moves, Callee, has_room, entered_state, with_frame, move_of, left, Enters, GoesOn}
use Rattle.m3_mid_programs.specs.Programs.{mid_language}

-- two effects of one operation are one
acts_same : (e e' : Event) (r r' : Answer → Next) (x : Effect) → x ≡ Acts e r → x ≡ Acts e' r' → (e ≡ e') × (r ≡ r')
acts_same e e' r r' x h h' = let q : Acts e r ≡ Acts e' r' = sym h ∙ h' in (cc, cc)

acts_or_plain : {A : Type 0} (e : Event) (r : Answer → Next) (next : Next) (x : Effect) → x ≡ Acts e r → x ≡ Plain next → A
acts_or_plain e r next x h h' = absurd (let q : Acts e r ≡ Plain next = sym h ∙ h' in cc)

module _ (p : Proc) (around : Around) where
  pub comes_once : (ops : List MidOp) (end : End) (s : State) (c c' : Came) → Comes p around ops end s c → Comes p around ops end s c' → c ≡ c'
  comes_once ops end s c c' (place.stands op rest _ _ event reply h) (place.stands _ _ _ _ event' reply' h') =
      ap (λ e. place.Stands s op e (record { ops = rest; end = end })) (acts_same event event' reply reply' (effect_of p.slots.now around s op) h h').0
  comes_once ops end s c c' (place.stands op rest _ _ event reply h) (place.goes _ _ _ _ after came h' k) = acts_or_plain event reply (Goes after) (effect_of p.slots.now around s op) h h'
  comes_once ops end s c c' (place.stands op rest _ _ event reply h) (place.ends _ _ _ _ ending h') = acts_or_plain event reply (Ends ending) (effect_of p.slots.now around s op) h h'
  comes_once ops end s c c' (place.goes op rest _ _ after came h k) (place.stands _ _ _ _ event reply h') = acts_or_plain event reply (Goes after) (effect_of p.slots.now around s op) h' h
  comes_once ops end s c c' (place.goes op rest _ _ after came h k) (place.goes _ _ _ _ after' came' h' k') =
      let q : Plain (Goes after) ≡ Plain (Goes after') = sym h ∙ h' in
      let same : after' ≡ after = cc in
      comes_once rest end after c c' k (subst (λ t. Comes p around rest end t c') same k')
  comes_once ops end s c c' (place.goes op rest _ _ after came h k) (place.ends _ _ _ _ ending h') = absurd (let q : Plain (Goes after) ≡ Plain (Ends ending) = sym h ∙ h' in cc)
  comes_once ops end s c c' (place.ends op rest _ _ ending h) (place.stands _ _ _ _ event reply h') = acts_or_plain event reply (Ends ending) (effect_of p.slots.now around s op) h' h
  comes_once ops end s c c' (place.ends op rest _ _ ending h) (place.goes _ _ _ _ after came h' k) = absurd (let q : Plain (Goes after) ≡ Plain (Ends ending) = sym h' ∙ h in cc)
  comes_once ops end s c c' (place.ends op rest _ _ ending h) (place.ends _ _ _ _ ending' h') =
      let q : Plain (Ends ending) ≡ Plain (Ends ending') = sym h ∙ h' in
      let same : ending ≡ ending' = cc in ap place.Ended same
  comes_once ops end s c c' (place.leads _ _ b block came h t k) (place.leads _ _ b' block' came' h' t' k') =
      let q : To b ≡ To b' = sym h ∙ h' in
      let same : b' ≡ b = cc in
      let r : Some block ≡ Some block' = sym t ∙ subst (λ n. slice_get p.blocks.now n ≡ Some block') same t' in
      let one : block' ≡ block = cc in
      comes_once block.ops.now block.end s c c' k (subst (λ (x : Block). Comes p around x.ops.now x.end s c') one k')
  comes_once ops end s c c' (place.leads _ _ b block came h t k) (place.leads_nowhere _ _ b' h' t') =
      let q : To b ≡ To b' = sym h ∙ h' in
      let same : b' ≡ b = cc in
      absurd (let r : Some block ≡ None = sym t ∙ subst (λ n. slice_get p.blocks.now n ≡ None) same t' in cc)
  comes_once ops end s c c' (place.leads _ _ b block came h t k) (place.leaves _ _ ending h') = absurd (let q : To b ≡ Over ending = sym h ∙ h' in cc)
  comes_once ops end s c c' (place.leads_nowhere _ _ b h t) (place.leads _ _ b' block' came' h' t' k') =
      let q : To b ≡ To b' = sym h ∙ h' in
      let same : b' ≡ b = cc in
      absurd (let r : None ≡ Some block' = sym t ∙ subst (λ n. slice_get p.blocks.now n ≡ Some block') same t' in cc)
  comes_once ops end s c c' (place.leads_nowhere _ _ b h t) (place.leads_nowhere _ _ b' h' t') = refl
  comes_once ops end s c c' (place.leads_nowhere _ _ b h t) (place.leaves _ _ ending h') = absurd (let q : To b ≡ Over ending = sym h ∙ h' in cc)
  comes_once ops end s c c' (place.leaves _ _ ending h) (place.leads _ _ b' block' came' h' t' k') = absurd (let q : To b' ≡ Over ending = sym h' ∙ h in cc)
  comes_once ops end s c c' (place.leaves _ _ ending h) (place.leads_nowhere _ _ b' h' t') = absurd (let q : To b' ≡ Over ending = sym h' ∙ h in cc)
  comes_once ops end s c c' (place.leaves _ _ ending h) (place.leaves _ _ ending' h') =
      let q : Over ending ≡ Over ending' = sym h ∙ h' in
      let same : ending ≡ ending' = cc in ap place.Ended same

module _ (linked : Linked) where
  -- ---- entering

  enters_once : (called : Option Callee) (m : Memory) (e e' : Entered Activity Value Memory) → Enters linked called m e → Enters linked called m e' → e ≡ e'
  enters_once called m e e' (moving.breaks h) (moving.breaks h') = refl
  enters_once called m e e' (moving.breaks h) (moving.overflows c h' r') = absurd (let q : None ≡ Some c = sym h ∙ h' in cc)
  enters_once called m e e' (moving.breaks h) (moving.begins c came h' r' k') = absurd (let q : None ≡ Some c = sym h ∙ h' in cc)
  enters_once called m e e' (moving.overflows c h r) (moving.breaks h') = absurd (let q : None ≡ Some c = sym h' ∙ h in cc)
  enters_once called m e e' (moving.overflows c h r) (moving.overflows c' h' r') = refl
  enters_once called m e e' (moving.overflows c h r) (moving.begins c' came' h' r' k') =
      let q : Some c ≡ Some c' = sym h ∙ h' in
      let same : c ≡ c' = cc in
      absurd (let x : false ≡ true = sym r ∙ ap (λ (d : Callee). has_room linked d.frame) same ∙ r' in cc)
  enters_once called m e e' (moving.begins c came h r k) (moving.breaks h') = absurd (let q : None ≡ Some c = sym h' ∙ h in cc)
  enters_once called m e e' (moving.begins c came h r k) (moving.overflows c' h' r') =
      let q : Some c ≡ Some c' = sym h ∙ h' in
      let same : c ≡ c' = cc in
      absurd (let x : false ≡ true = sym r' ∙ sym (ap (λ (d : Callee). has_room linked d.frame) same) ∙ r in cc)
  enters_once called m e e' (moving.begins c came h r k) (moving.begins c' came' h' r' k') =
      let q : Some c ≡ Some c' = sym h ∙ h' in
      let same : c' ≡ c = cc in
      let k2 = subst (λ (d : Callee). Comes d.frame.procedure.code d.frame.around [] (block_ends.Goto d.frame.procedure.code.start) (entered_state d m) came') same k' in
      let one = comes_once c.frame.procedure.code c.frame.around [] (block_ends.Goto c.frame.procedure.code.start) (entered_state c m) came came' k k2 in
      ap (λ x. Begins (move_of linked c.frame (with_frame c.frame m) x)) one ∙ ap (λ (d : Callee). Begins (move_of linked d.frame (with_frame d.frame m) came')) (sym same)

  -- ---- going on

  goes_once : (answer : run.Answer Value) (m : Memory) (s : Activity) (move move' : Moves) → GoesOn linked answer m s move → GoesOn linked answer m s move' → move ≡ move'
  goes_once answer m s move move' (moving.next stack order) (moving.next _ _) = refl
  goes_once answer m s move move' (moving.applied stack) (moving.applied _) = refl
  goes_once answer m s move move' (moving.over a event reply ending e h) (moving.over _ event' reply' ending' e' h') =
      let same = (acts_same event event' reply reply' (effect_of a.frame.procedure.code.slots.now a.frame.around a.state a.op) e e').1 in
      let q : Ends ending ≡ Ends ending' = sym h ∙ ap (λ r. r (told_as answer m.words)) same ∙ h' in
      let one : ending ≡ ending' = cc in ap (left a.frame m) one
  goes_once answer m s move move' (moving.over a event reply ending e h) (moving.further _ event' reply' s' came' e' h' k') =
      let same = (acts_same event event' reply reply' (effect_of a.frame.procedure.code.slots.now a.frame.around a.state a.op) e e').1 in
      absurd (let q : Ends ending ≡ Goes s' = sym h ∙ ap (λ r. r (told_as answer m.words)) same ∙ h' in cc)
  goes_once answer m s move move' (moving.further a event reply s' came e h k) (moving.over _ event' reply' ending' e' h') =
      let same = (acts_same event event' reply reply' (effect_of a.frame.procedure.code.slots.now a.frame.around a.state a.op) e e').1 in
      absurd (let q : Goes s' ≡ Ends ending' = sym h ∙ ap (λ r. r (told_as answer m.words)) same ∙ h' in cc)
  goes_once answer m s move move' (moving.further a event reply s1 came e h k) (moving.further _ event' reply' s2 came' e' h' k') =
      let same = (acts_same event event' reply reply' (effect_of a.frame.procedure.code.slots.now a.frame.around a.state a.op) e e').1 in
      let q : Goes s1 ≡ Goes s2 = sym h ∙ ap (λ r. r (told_as answer m.words)) same ∙ h' in
      let one : s2 ≡ s1 = cc in
      let k2 = subst (λ t. Comes a.frame.procedure.code a.frame.around a.rest.ops a.rest.end t came') one k' in
      ap (move_of linked a.frame m) (comes_once a.frame.procedure.code a.frame.around a.rest.ops a.rest.end s1 came came' k k2)

  -- ---- cells

  made_once : (parts : Parts Activity Value Memory) (new : New Value) (v v' : Option Value) (after after' : Parts Activity Value Memory) → cells.MakesCell linked parts new v after → cells.MakesCell linked parts new v' after' → v ≡ v'
  made_once parts new v v' after after' (cells.makes c e) (cells.makes c' e') = refl

  after_once : (parts : Parts Activity Value Memory) (new : New Value) (v v' : Option Value) (after after' : Parts Activity Value Memory) → cells.MakesCell linked parts new v after → cells.MakesCell linked parts new v' after' → after ≡ after'
  after_once parts new v v' after after' (cells.makes c e) (cells.makes c' e') =
      let q : Some c ≡ Some c' = sym e ∙ e' in
      let same : c ≡ c' = cc in
      ap (λ i. record parts { memory = cells.with_new_cell parts new i }) same

  pub determined : IsDetermined (mid_language linked)
  determined = record {
    enters = λ ss q environment vs m e e' h h'. enters_once (moving.callee linked ss q environment vs m) m e e' h h';
    goes = λ s a m move move' h h'. goes_once a m s move move' h h';
    made = λ parts n new v v' after after'. made_once parts new v v' after after';
    makes = λ parts n new v v' after after'. after_once parts new v v' after after';
    collects = λ parts after after' e e'. sym e ∙ e';
  }
