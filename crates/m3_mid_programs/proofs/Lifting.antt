-- What is shown of each procedure, for all lists of answers, is what a program needs.
use Rattle.std.proofs.Common.{◌≡◌, ℕ, List, [], ◌∷◌, length, Option, Some, None, refl, sym, ap, ◌∙◌, subst, arith}
use Rattle.std.specs.Prelude.{◌+◌, suc, map, slice_get}
use Rattle.m3_core.specs.declared.program.ProcDef.{ProcDef}
use Rattle.m3_runs.specs.Languages.{Action, Calls, New, Answer, Gives, Leaves, Entered, Begins, Overflows, Thread, Parts}
use Rattle.m3_runs.specs.Follows as rel
use Rattle.m3_runs.specs.Follows.{Each, none, more, Both, neither, both, Invariant, Standing, SameAnswer, SameAction, SameMove, SameNew, SameShown, SameThread, SameParts, IsActing, Needs, GoesSo, EntersSo, MakesSo, Room, Follows}
use Rattle.m3_runs.proofs.Rows.{each_mapped, each_length}
use Rattle.m3_runs.proofs.Settling as settling
use Rattle.m3_values.specs.Values as value
use Rattle.m3_values.specs.Values.{Procedure, Pointer}
use Rattle.m3_values.specs.Programs.{Program, procedure_at}
use Rattle.m3_values.specs.Places.{Thing, Is, At}
use Rattle.m3_values.specs.Store.{Store}
use Rattle.m3_source_meaning.specs.Meanings.{End}
use Rattle.m3_source_meaning.specs.Phrases.{Here}
use Rattle.m3_source_meaning.specs.Procedures.{ends}
use Rattle.m3_source_meaning.specs.Showing.{shown_variables}
use Rattle.m3_source_meaning.specs.Programs as source
use Rattle.m3_source_meaning.specs.Programs.{SourceState, language, move_of, goes_within, told_more, first_activation, begins_with}
use Rattle.m3_mid_meaning.specs.Words.{pointer}
use Rattle.m3_mid_programs.specs.Linked.{Linked}
use Rattle.m3_mid_programs.specs.Values.{Value, Beside, word}
use Rattle.m3_mid_programs.specs.Activations.{Memory, Activity, Bodies}
use Rattle.m3_mid_programs.specs.Cells as cells
use Rattle.m3_mid_programs.specs.Moves as moves
use Rattle.m3_mid_programs.specs.Moves.{Moves}
use Rattle.m3_mid_programs.specs.Programs.{MidState, mid_language, shown_by}
use Rattle.m3_mid_programs.specs.Histories as histories
use Rattle.m3_mid_programs.specs.Histories.{Call, MovesTo}
use Rattle.m3_mid_programs.specs.Follows as follows
use Rattle.m3_mid_programs.specs.Follows.{SourceCall, bare, standing, start_at, end_at, SameCall, Chain, nothing, ShowSo, SameEnd, EndsSo, ProceduresFollow, IsToldSo, SameActivity, ValuesFollow, ProgramFollows}
use Rattle.m3_mid_programs.proofs.Relations.{action_as, answer_as, shown_as}

zero_add : (n : ℕ) → n ≡ 0 + n
zero_add n = omega arith

add_0 : (k : ℕ) → k + 0 ≡ k
add_0 k = omega arith

add_suc : (k n : ℕ) → k + suc n ≡ suc k + n
add_suc k n = omega arith

module _ {W : Type 0} (p : Program) (linked : Linked) (same_value : W → Thing → Value → Type 0) (same_memory : W → Store → Memory → Type 0) (later : W → W → Type 0) (I : Invariant source.Activity Thing Store) (J : Invariant Activity Value Memory) where
  abbrev Plain : Standing W source.Activity Thing Store Activity Value Memory
  Plain = bare p linked same_value same_memory later I J

  abbrev Whole : Standing W source.Activity Thing Store Activity Value Memory
  Whole = standing p linked same_value same_memory later I J

  abbrev Activities : W → List source.Activity → List Activity → Type 0
  Activities w = Each (SameActivity p linked same_value same_memory later I J w)

  abbrev ToldSo : W → source.Activation → Activity → Type 0
  ToldSo = IsToldSo p linked same_value same_memory later I J

  abbrev SameCalls : W → SourceCall → Call Activity Value Memory → Type 0
  SameCalls = SameCall p linked same_value same_memory later I J

  module _ (room : Room Whole) (procedures : ProceduresFollow p linked same_value same_memory later I J) (values : ValuesFollow p linked same_value same_memory later I J room) where
    whole_answer : (w : W) (a : Answer Thing) (a' : Answer Value) → SameAnswer Plain w a a' → SameAnswer Whole w a a'
    whole_answer w a a' h = answer_as Plain Whole w (λ v v' k. k) a a' h

    bare_answer : (w : W) (a : Answer Thing) (a' : Answer Value) → SameAnswer Whole w a a' → SameAnswer Plain w a a'
    bare_answer w a a' h = answer_as Whole Plain w (λ v v' k. k) a a' h

    whole_action : (w : W) (a : Action Thing) (a' : Action Value) → SameAction Plain w a a' → SameAction Whole w a a'
    whole_action w a a' h = action_as Plain Whole w (λ v v' k. k) a a' h

    -- ---- moments

    told_stays : (w w' : W) (a : source.Activation) (s' : Activity) → later w w' → ToldSo w a s' → ToldSo w' a s'
    told_stays w w' a s' l h = record {
      first = h.first;
      last = h.last;
      since = values.later_still h.last w w' h.since l;
      call = h.call;
      call' = h.call';
      called = h.called;
      here = h.here;
      began = h.began;
      told' = h.told';
      chain = h.chain;
      action' = h.action';
      before = h.before;
      moves = h.moves;
      shows = λ w2 parts parts' n t t' place l2 good good' mem there there' at at'. h.shows w2 parts parts' n t t' place (values.later_still w w' w2 l l2) good good' mem there there' at at';
    }

    activity_stays : (w w' : W) (s : source.Activity) (s' : Activity) → later w w' → SameActivity p linked same_value same_memory later I J w s s' → SameActivity p linked same_value same_memory later I J w' s s'
    activity_stays w w' s s' l (follows.bodies order stack) = follows.bodies order stack
    activity_stays w w' s s' l (follows.applying stack) = follows.applying stack
    activity_stays w w' s s' l (follows.within a _ h) = follows.within a s' (told_stays w w' a s' l h)

    stack_stays : (w w' : W) (ss : List source.Activity) (ss' : List Activity) → later w w' → Activities w ss ss' → Activities w' ss ss'
    stack_stays w w' ss ss' l h = each_mapped (SameActivity p linked same_value same_memory later I J w) (SameActivity p linked same_value same_memory later I J w') ss ss' (λ s s' k. activity_stays w w' s s' l k) h

    -- ---- where an activation leads

    -- a call that was told the same, in a chain up to this moment, and an activation of it
    record Alike (w : W) (c : SourceCall) (c' : Call Activity Value Memory) (a : source.Activation) (move' : Moves) : Type 0 where
      first : W
      called : SameCalls first c c'
      here : a.here ≡ (start_at p c).here
      began : a.first ≡ (start_at p c).memory
      told' : List (histories.Told Value Memory)
      chain : Chain p linked same_value same_memory later I J c first a.told told' w
      moves : MovesTo (mid_language linked) c' told' move'

    move_so : (w w' : W) (c : SourceCall) (c' : Call Activity Value Memory) (a : source.Activation) (move' : Moves) (rest : List source.Activity) (rest' : List Activity) (end : End) → later w w' → Activities w' rest rest' → Alike w c c' a move' →
        SameEnd p linked same_value same_memory later I J w' a end move' → SameMove Whole w' rest rest' (move_of a end) move'
    move_so w w' c c' a move' rest rest' end l st h (follows.waits action action' stands s' s m same mem shows) =
        rel.acts action action' (source.Within (record a { standing = stands })) s' s m (whole_action w' action action' same) (more (source.Within (record a { standing = stands })) s' rest rest' (follows.within (record a { standing = stands }) s' (record {
          first = h.first;
          last = w;
          since = l;
          call = c;
          call' = c';
          called = h.called;
          here = h.here;
          began = h.began;
          told' = h.told';
          chain = h.chain;
          action' = action';
          before = m;
          moves = h.moves;
          shows = shows;
        })) st) mem
    move_so w w' c c' a move' rest rest' end l st h (follows.left answer answer' s m same mem) = rel.leaves answer answer' s m (whole_answer w' answer answer' same) st mem
    move_so w w' c c' a move' rest rest' end l st h (follows.faulted kind at) = rel.faults kind at.file at.line
    move_so w w' c c' a move' rest rest' end l st h (follows.undefined _) = rel.breaks move'

    -- K's activation goes on as L's does
    lead_so : (w : W) (c : SourceCall) (c' : Call Activity Value Memory) (a : source.Activation) (move' : Moves) (rest : List source.Activity) (rest' : List Activity) → Activities w rest rest' → Alike w c c' a move' →
        (moment : W) × later w moment × SameMove Whole moment rest rest' (move_of a (ends p a.here c.definition a.first a.told)) move'
    lead_so w c c' a move' rest rest' st h =
        let k = procedures h.first w c c' a h.told' move' h.here h.called h.chain h.moves in
        let end : End = ends p a.here c.definition a.first a.told in
        let same : end_at p c a.told ≡ end = ap (λ here. ends p here c.definition (start_at p c).memory a.told) (sym h.here) ∙ ap (λ m. ends p a.here c.definition m a.told) (sym h.began) in
        (k.moment, k.since, move_so w k.moment c c' a move' rest rest' end k.since (stack_stays w k.moment rest rest' k.since st) h (subst (λ (x : End). SameEnd p linked same_value same_memory later I J k.moment a x move') same k.same))

    -- ---- going on

    procedure_there : (c : SourceCall) (a : source.Activation) → a.here ≡ (start_at p c).here → procedure_at p c.procedure ≡ Some c.definition → procedure_at p a.here.procedure ≡ Some c.definition
    procedure_there c a here there = ap (λ (h : Here). procedure_at p h.procedure) here ∙ there

    goes_within_so : (w : W) (a : source.Activation) (s' : Activity) (rest : List source.Activity) (rest' : List Activity) (answer : Answer Thing) (answer' : Answer Value) (s : Store) (m : Memory) (move' : Moves) (u : SourceState) (u' : MidState) (n : ℕ) →
        I.within u n (source.Within a ∷ rest) (Leaves answer s) → J.within u' n (s' ∷ rest') (Leaves answer' m) → Activities w rest rest' → ToldSo w a s' → SameAnswer Whole w answer answer' → same_memory w s m → (mid_language linked).goes s' answer' m move' → GoesSo Whole (language p) w (source.Within a) rest rest' answer s move'
    goes_within_so w a s' rest rest' answer answer' s m move' u u' n known known' st h ans mem goes =
        let after : source.Activation = told_more p a answer s in
        let alike : Alike w h.call h.call' after move' = record {
          first = h.first;
          called = h.called;
          here = h.here;
          began = h.began;
          told' = histories.told_more h.told' answer' m;
          chain = follows.more h.last w a.told h.told' answer answer' s m h.chain h.since (bare_answer w answer answer' ans) mem (record {
            state = u;
            state' = u';
            number = n;
            activation = a;
            activation' = s';
            rest = rest;
            rest' = rest';
            here = h.here;
            before = refl;
            known = known;
            known' = known';
          });
          moves = histories.next h.told' h.action' s' h.before m answer' move' h.moves goes;
        } in
        let k = lead_so w h.call h.call' after move' rest rest' st alike in
        record {
          world = k.0;
          later = k.1;
          move = move_of after (ends p after.here h.call.definition after.first after.told);
          goes = ap (λ q. goes_within p after q) (procedure_there h.call a h.here h.called.there);
          same = k.2;
        }

    bodies_so : (w : W) (order : List ℕ) (stack : ℕ) (rest : List source.Activity) (rest' : List Activity) (answer : Answer Thing) (answer' : Answer Value) (s : Store) (m : Memory) → Activities w rest rest' → SameAnswer Whole w answer answer' → same_memory w s m →
        SameMove Whole w rest rest' (source.next_body p order answer s) (moves.next_body stack order answer' m)
    bodies_so w [] stack rest rest' answer answer' s m st (rel.gives v v' h) mem = rel.leaves (Gives None) (Gives None) s m (rel.gives None None neither) st mem
    bodies_so w (q ∷ order) stack rest rest' answer answer' s m st (rel.gives v v' h) mem =
        rel.acts (source.call_of p q []) (moves.call_of q []) (source.Bodies order) (Bodies stack order) s m (rel.calls q (Is (Procedure q None)) (Beside None None) [] [] (values.outermost w q) none)
        (more (source.Bodies order) (Bodies stack order) rest rest' (follows.bodies order stack) st) mem
    bodies_so w [] stack rest rest' answer answer' s m st (rel.raises x v u v' u' h k) mem = rel.leaves answer answer' s m (rel.raises x v u v' u' h k) st mem
    bodies_so w (q ∷ order) stack rest rest' answer answer' s m st (rel.raises x v u v' u' h k) mem = rel.leaves answer answer' s m (rel.raises x v u v' u' h k) st mem
    bodies_so w [] stack rest rest' answer answer' s m st (rel.fails kind) mem = rel.leaves answer answer' s m (rel.fails kind) st mem
    bodies_so w (q ∷ order) stack rest rest' answer answer' s m st (rel.fails kind) mem = rel.leaves answer answer' s m (rel.fails kind) st mem

    goes_so : (w : W) (a : source.Activity) (s' : Activity) (rest : List source.Activity) (rest' : List Activity) (answer : Answer Thing) (answer' : Answer Value) (s : Store) (m : Memory) (move' : Moves) (u : SourceState) (u' : MidState) (n : ℕ) →
        I.within u n (a ∷ rest) (Leaves answer s) → J.within u' n (s' ∷ rest') (Leaves answer' m) → Activities w (a ∷ rest) (s' ∷ rest') → SameAnswer Whole w answer answer' → same_memory w s m → (mid_language linked).goes s' answer' m move' → GoesSo Whole (language p) w a rest rest' answer s move'
    goes_so w a s' rest rest' answer answer' s m move' u u' n known known' (more _ _ _ _ (follows.bodies order stack) st) ans mem (moves.next _ _) = record {
      world = w;
      later = values.same_moment w;
      move = source.next_body p order answer s;
      goes = refl;
      same = bodies_so w order stack rest rest' answer answer' s m st ans mem;
    }
    goes_so w a s' rest rest' answer answer' s m move' u u' n known known' (more _ _ _ _ (follows.applying stack) st) ans mem (moves.applied _) = record {
      world = w;
      later = values.same_moment w;
      move = Leaves answer s;
      goes = refl;
      same = rel.leaves answer answer' s m ans st mem;
    }
    goes_so w a s' rest rest' answer answer' s m move' u u' n known known' (more _ _ _ _ (follows.within act _ h) st) ans mem goes = goes_within_so w act s' rest rest' answer answer' s m move' u u' n known known' st h ans mem goes

    -- ---- entering

    module _ (w : W) (u : SourceState) (u' : MidState) (n : ℕ) (t : Thread source.Activity Thing) (t' : Thread Activity Value) (q : ℕ) (formals : List Thing) (others : List Value) (good : I.acting u n) (good' : J.acting u' n) (acting : IsActing Whole w u.parts u'.parts n t t') where
      abbrev Enters_so : Thing → Entered Activity Value Memory → Type 0
      Enters_so v entered = EntersSo Whole (language p) w t.stack t'.stack q v formals u.parts.memory (room.no_frame u.parts n) entered

      begins_so : (named : ℕ) (around : Option ℕ) (v' : Value) (d : ProcDef) (move' : Moves) → same_value w (Is (Procedure named around)) v' → Each (same_value w) formals others → t.action ≡ Calls q (Is (Procedure named around)) formals → procedure_at p q ≡ Some d →
          (mid_language linked).enters t'.stack q v' others u'.parts.memory (Begins move') → Enters_so (Is (Procedure named around)) (Begins move')
      begins_so named around v' d move' h hs is there e =
          let c : SourceCall = record { procedure = q; definition = d; named = named; around = around; formals = formals; store = u.parts.memory } in
          let c' : Call Activity Value Memory = record { stack = t'.stack; procedure = q; environment = v'; formals = others; memory = u'.parts.memory } in
          let a : source.Activation = first_activation p (start_at p c) in
          let alike : Alike w c c' a move' = record {
            first = w;
            called = record {
              there = there;
              procedure = refl;
              environment = h;
              formals = hs;
              store = acting.state.memory;
              found = record {
                state = u;
                state' = u';
                number = n;
                thread = t;
                thread' = t';
                good = good;
                good' = good';
                there = acting.there;
                there' = acting.there';
                action = is;
                store = refl;
                memory = refl;
                stack = refl;
              };
            };
            here = refl;
            began = refl;
            told' = [];
            chain = nothing;
            moves = histories.first move' e;
          } in
          let k = lead_so w c c' a move' t.stack t'.stack acting.same.stack alike in
          rel.begins_so k.0 (move_of a (ends p a.here d a.first a.told)) move' k.1 (ap (λ o. Begins (begins_with p q around formals u.parts.memory o)) there) k.2

      procedure_so : (named : ℕ) (around : Option ℕ) (v' : Value) (o : Option ProcDef) (entered : Entered Activity Value Memory) → same_value w (Is (Procedure named around)) v' → Each (same_value w) formals others → t.action ≡ Calls q (Is (Procedure named around)) formals →
          procedure_at p q ≡ o → (mid_language linked).enters t'.stack q v' others u'.parts.memory entered → Enters_so (Is (Procedure named around)) entered
      procedure_so named around v' None entered h hs is there e = rel.breaks_so entered (ap (λ o. Begins (begins_with p q around formals u.parts.memory o)) there)
      procedure_so named around v' (Some d) (Begins move') h hs is there e = begins_so named around v' d move' h hs is there e
      procedure_so named around v' (Some d) Overflows h hs is there e = rel.overflows_so (values.frames w u u' n t t' q (Is (Procedure named around)) v' formals others good good' acting is e)

      enters_so : (v : Thing) (v' : Value) (entered : Entered Activity Value Memory) → t.action ≡ Calls q v formals → same_value w v v' → Each (same_value w) formals others → (mid_language linked).enters t'.stack q v' others u'.parts.memory entered → Enters_so v entered
      enters_so (Is (Procedure named around)) v' entered is h hs e = procedure_so named around v' (procedure_at p q) entered h hs is refl e
      enters_so (Is (value.Ordinal z)) v' entered is h hs e = rel.breaks_so entered refl
      enters_so (Is value.Nil) v' entered is h hs e = rel.breaks_so entered refl
      enters_so (Is (Pointer c)) v' entered is h hs e = rel.breaks_so entered refl
      enters_so (Is (value.Text c)) v' entered is h hs e = rel.breaks_so entered refl
      enters_so (Is value.MainThread) v' entered is h hs e = rel.breaks_so entered refl
      enters_so (Is (value.Members ms)) v' entered is h hs e = rel.breaks_so entered refl
      enters_so (Is (value.Record vs)) v' entered is h hs e = rel.breaks_so entered refl
      enters_so (Is (value.Array below vs)) v' entered is h hs e = rel.breaks_so entered refl
      enters_so (At place) v' entered is h hs e = rel.breaks_so entered refl

    -- ---- what is shown

    module _ (w : W) (u : SourceState) (u' : MidState) (n : ℕ) (t : Thread source.Activity Thing) (t' : Thread Activity Value) (good : I.between u) (good' : J.between u') (acting : IsActing Whole w u.parts u'.parts n t t') where
      shows_one : (place : ℕ) (s : source.Activity) (s' : Activity) → slice_get t.stack place ≡ Some s → slice_get t'.stack place ≡ Some s' → SameActivity p linked same_value same_memory later I J w s s' →
          Each (SameShown Whole w) ((language p).shows u.parts.memory s) (shown_by u'.parts.memory s')
      shows_one place s s' at at' (follows.bodies order stack) = none
      shows_one place s s' at at' (follows.applying stack) = none
      shows_one place s s' at at' (follows.within a _ h) =
          shown_as Plain Whole w (λ v v' k. k) (shown_variables p a.here a.standing u.parts.memory) (shown_by u'.parts.memory s')
          (h.shows w u u' n t t' place (values.same_moment w) good good' acting.state.memory acting.there acting.there' at at')

      -- the activations from one place on, which are these
      shows_from : (place : ℕ) (ss : List source.Activity) (ss' : List Activity) → ((k : ℕ) → slice_get t.stack (k + place) ≡ slice_get ss k) → ((k : ℕ) → slice_get t'.stack (k + place) ≡ slice_get ss' k) → Activities w ss ss' →
          Each (Each (SameShown Whole w)) (map ((language p).shows u.parts.memory) ss) (map ((mid_language linked).shows u'.parts.memory) ss')
      shows_from place ss ss' at at' none = none
      shows_from place ss ss' at at' (more s s' us us' h hs) =
          more ((language p).shows u.parts.memory s) ((mid_language linked).shows u'.parts.memory s') (map ((language p).shows u.parts.memory) us) (map ((mid_language linked).shows u'.parts.memory) us')
          (shows_one place s s' (ap (λ k. slice_get t.stack k) (zero_add place) ∙ at 0) (ap (λ k. slice_get t'.stack k) (zero_add place) ∙ at' 0) h)
          (shows_from (suc place) us us' (λ k. ap (λ i. slice_get t.stack i) (add_suc k place) ∙ at (suc k)) (λ k. ap (λ i. slice_get t'.stack i) (add_suc k place) ∙ at' (suc k)) hs)

      shows_so : Each (Each (SameShown Whole w)) (map ((language p).shows u.parts.memory) t.stack) (map ((mid_language linked).shows u'.parts.memory) t'.stack)
      shows_so = shows_from 0 t.stack t'.stack (λ k. ap (λ i. slice_get t.stack i) (add_0 k)) (λ k. ap (λ i. slice_get t'.stack i) (add_0 k)) acting.same.stack

    -- ---- cells

    makes_so : (w : W) (u : SourceState) (u' : MidState) (after' : Parts Activity Value Memory) (n : ℕ) (t : Thread source.Activity Thing) (t' : Thread Activity Value) (new : New Thing) (new' : New Value) (v' : Value) →
        I.acting u n → J.acting u' n → IsActing Whole w u.parts u'.parts n t t' → Needs t.action new → SameNew Whole w new new' → (mid_language linked).makes u'.parts n new' (Some v') after' → MakesSo Whole (language p) u.parts n new v' after'
    makes_so w u u' after' n t t' new new' v' good good' acting needs same (cells.makes made' e) =
        let k = values.made w u u' n t t' new new' made' good good' acting needs same e in
        record {
          world = k.moment;
          value = Is (Pointer (length u.parts.memory.cells));
          after = record u.parts { memory = _ };
          makes = source.makes k.made k.is;
          same = record {
            threads = settling.threads_stay Whole w k.moment (λ v v2 h. values.value_stays w k.moment v v2 k.since h) (λ ss ss' h. stack_stays w k.moment ss ss' k.since h) u.parts.threads u'.parts.threads acting.state.threads;
            memory = k.store;
          };
          given = k.named;
        }

    always_made : (parts' after' : Parts Activity Value Memory) (new' : New Value) (o : Option Value) → cells.MakesCell linked parts' new' o after' → (v : Value) × (o ≡ Some v)
    always_made parts' after' new' o (cells.makes made' e) = (word (pointer parts'.memory.cells), refl)

    no_cell : {A : Type 0} (parts' after' : Parts Activity Value Memory) (n : ℕ) (new' : New Value) → (mid_language linked).makes parts' n new' None after' → A
    no_cell parts' after' n new' e = let made = always_made parts' after' new' None e in absurd (let q : None ≡ Some (made.0) = made.1 in cc)

    pub follows_so : Follows Whole (language p) (mid_language linked) I J room
    follows_so = record {
      same_moment = values.same_moment;
      later_still = values.later_still;
      value_stays = values.value_stays;
      stack_stays = stack_stays;
      as_deep = λ w ss ss' h. each_length (SameActivity p linked same_value same_memory later I J w) ss ss' h;
      enters = λ w u u' n t t' q v v' formals others entered good good' acting is h hs e. enters_so w u u' n t t' q formals others good good' acting v v' entered is h hs e;
      goes = goes_so;
      shows = shows_so;
      makes = makes_so;
      full = λ w u u' after' n t t' new new' good good' acting needs same e. no_cell u'.parts after' n new' e;
      collects = λ w parts parts' after' same e. (w, subst (λ x. SameParts Whole w parts x) e same);
      ignores = λ parts. refl;
      number = values.number;
      is_same = values.is_same;
      bytes = values.bytes;
      holder = values.holder;
      hold = values.hold;
      number_of = values.number_of;
      life = values.life;
      join = values.join;
      end_with = values.end_with;
      begins = values.begins;
      alerted = values.alerted;
    }

  pub program_follows : (room : Room Whole) → ProgramFollows p linked same_value same_memory later I J room
  program_follows room procedures values = follows_so room procedures values
