-- An activation's run is the chain of its moves.
use Rattle.std.proofs.Common.{◌≡◌, ℕ, zero, suc, List, [], ◌∷◌, ◌++◌, Option, Some, None, refl, sym, ap, ◌∙◌, subst}
use Rattle.std.proofs.lemmas.List.{append_assoc, append-nil, map-append}
use Rattle.m3_mid.specs.declared.procs.End.TheVariants as block_ends
use Rattle.m3_mid.specs.declared.ops.MidOp.{MidOp}
use Rattle.m3_runs.specs.Languages as run
use Rattle.m3_runs.specs.Languages.{Action, Move, Leaves, Faults, Breaks, Begins}
use Rattle.m3_mid_meaning.specs.Words.{Word}
use Rattle.m3_mid_meaning.specs.Memory as words
use Rattle.m3_mid_meaning.specs.States.{State, Ending, Returned, Escaped, Faulted, Waiting, Undefined, Next, Goes, Ends}
use Rattle.m3_mid_meaning.specs.Points.{Event, Answer, Acts, Outcome}
use Rattle.m3_mid_meaning.specs.Meaning.{effect_of}
use Rattle.m3_mid_meaning.specs.Stops.{Code, bare, Stop, AtPoint, AtEnd}
use Rattle.m3_mid_meaning.specs.Runs.{RunsFrom}
use Rattle.m3_mid_meaning.specs.Laws.{ended, preceded, FollowsNext, FollowsStop}
use Rattle.m3_mid_meaning.proofs.Chain.{chain}
use Rattle.m3_mid_meaning.proofs.Stepwise.{stepwise}
use Rattle.m3_mid_programs.specs.Linked.{Linked}
use Rattle.m3_mid_programs.specs.Values.{Value}
use Rattle.m3_mid_programs.specs.Activations.{Memory, with_words, Frame, Activation, Activity, Within, Came, Ended, Comes}
use Rattle.m3_mid_programs.specs.Actions.{action_of, told_as}
use Rattle.m3_mid_programs.specs.Moves as moving
use Rattle.m3_mid_programs.specs.Moves.{Moves, Callee, callee, entered_memory, entered_state, with_frame, result_in, without_frame, leaves_with, leaves_by, left, acts, move_of, Enters, GoesOn}
use Rattle.m3_mid_programs.specs.Programs.{mid_language}
use Rattle.m3_mid_programs.specs.Histories as histories
use Rattle.m3_mid_programs.specs.Histories.{Call, Told, told_more, MovesTo}
use Rattle.m3_mid_programs.specs.Laws as laws
use Rattle.m3_mid_programs.specs.Laws.{IsStopOf, at_point, at_end, last_memory, answers_of, Says, RunsSo, MovesAsItRuns}
use Rattle.m3_mid_programs.proofs.Stopping.{comes_to_stop}

abbrev History : Type 0
History = List (Told Value Memory)

last_told : (m after : Memory) (told : History) (answer : run.Answer Value) → last_memory m (told_more told answer after) ≡ after
last_told m after [] answer = refl
last_told m after (t ∷ told) answer = last_told t.memory after told answer

answers_told : (told : History) (answer : run.Answer Value) (m : Memory) → answers_of (told_more told answer m) ≡ answers_of told ++ told_as answer m.words ∷ []
answers_told told answer m = map-append (λ (t : Told Value Memory). told_as t.answer t.memory.words) told (record { answer = answer; memory = m } ∷ [])

-- what leaves an activation is no action
leaving : {A : Type 0} (m : Memory) (memory : words.Memory) (v : Option (Option Value)) (action : Action Value) (s : Activity) (m' : Memory) → leaves_with m memory v ≡ run.Acts action s m' → A
leaving m memory None action s m' e = absurd (let q : Breaks ≡ run.Acts action s m' = e in cc)
leaving m memory (Some v) action s m' e = absurd (let q : Leaves (run.Gives v) (with_words m memory) ≡ run.Acts action s m' = e in cc)

escaping : {A : Type 0} (m : Memory) (exception : ℕ) (n tidy : Word) (memory : words.Memory) (action : Action Value) (s : Activity) (m' : Memory) → leaves_by m exception n tidy memory ≡ run.Acts action s m' → A
escaping m zero n tidy memory action s m' e = absurd (let q : Breaks ≡ run.Acts action s m' = e in cc)
escaping m (suc x) n tidy memory action s m' e = absurd (let q : leaves_by m (suc x) n tidy memory ≡ run.Acts action s m' = e in cc)

left_no_act : {A : Type 0} (f : Frame) (m : Memory) (ending : Ending) (action : Action Value) (s : Activity) (m' : Memory) → left f m ending ≡ run.Acts action s m' → A
left_no_act f m (Returned value memory) action s m' e = leaving (moving.frame_left f m) (without_frame f memory) (result_in f (without_frame f memory) f.procedure.result value) action s m' e
left_no_act f m (Escaped x n tidy memory) action s m' e = escaping (moving.frame_left f m) x n tidy (without_frame f memory) action s m' e
left_no_act f m (Faulted kind at) action s m' e = absurd (let q : Faults kind at.file at.line ≡ run.Acts action s m' = e in cc)
left_no_act f m Waiting action s m' e = absurd (let q : Breaks ≡ run.Acts action s m' = e in cc)
left_no_act f m Undefined action s m' e = absurd (let q : Breaks ≡ run.Acts action s m' = e in cc)

module _ (linked : Linked) where
  acts_within : (a : Activation) (m : Memory) (o : Option (Action Value)) (action : Action Value) (s : Activity) (m' : Memory) → acts linked a m o ≡ run.Acts action s m' → Within a ≡ s
  acts_within a m None action s m' e = absurd (let q : Breaks ≡ run.Acts action s m' = e in cc)
  acts_within a m (Some other) action s m' e = let q : run.Acts other (Within a) m ≡ run.Acts action s m' = e in cc

  module _ (c : Call Activity Value Memory) (e : Callee) where
    abbrev Whole : List Answer → Outcome → Type 0
    Whole answers o = RunsFrom e.frame.procedure.code e.frame.around e.frame.procedure.code.start (entered_state e c.memory) answers o

    abbrev behind : List Event → Outcome → Outcome
    behind events o = record { events = events ++ o.events; ending = o.ending }

    -- up to a stop: whatever follows it, with more answers
    abbrev UpTo : List Answer → List Event → Stop → Type 0
    UpTo answers events stop = (more : List Answer) (o : Outcome) → FollowsStop e.frame.procedure.code e.frame.around stop more o → Whole (answers ++ more) (behind events o)

    record Known (told : History) (move : Moves) : Type 0 where
      events : List Event
      came : Came
      stop : Stop
      at : IsStopOf e.frame.procedure.code e.frame.around came stop
      up_to : UpTo (answers_of told) events stop
      is : move ≡ move_of linked e.frame (last_memory (with_frame e.frame c.memory) told) came

    -- ---- the first move

    began : (came : Came) → Comes e.frame.procedure.code e.frame.around [] (block_ends.Goto e.frame.procedure.code.start) (entered_state e c.memory) came → Known [] (move_of linked e.frame (with_frame e.frame c.memory) came)
    began came k =
        let p = e.frame.procedure.code in
        let start = bare (block_ends.Goto p.start) in
        let s = entered_state e c.memory in
        let r = (comes_to_stop p e.frame.around start s).stop came k in
        record {
          events = [];
          came = came;
          stop = r.0;
          at = r.2;
          up_to = λ more o follows. ((stepwise p e.frame.around s more o).end (block_ends.Goto p.start)).0 (((chain p e.frame.around start s).run more o).1 (r.0, r.1, follows));
          is = refl;
        }

    -- ---- one answer more

    further : (told : History) (answer : run.Answer Value) (m : Memory) (events : List Event) (event : Event) (reply : Answer → Next) (rest : Code) (came : Came) (stop : Stop) → UpTo (answers_of told) events (AtPoint event reply rest) →
        IsStopOf e.frame.procedure.code e.frame.around came stop →
        ((more : List Answer) (o : Outcome) → FollowsStop e.frame.procedure.code e.frame.around stop more o → FollowsNext e.frame.procedure.code e.frame.around rest (reply (told_as answer m.words)) more o) →
        Known (told_more told answer m) (move_of linked e.frame m came)
    further told answer m events event reply rest came stop up at next =
        let given = told_as answer m.words in
        record {
          events = events ++ event ∷ [];
          came = came;
          stop = stop;
          at = at;
          up_to = λ more o follows.
              let whole = up (given ∷ more) (preceded event o) (o, next more o follows, refl) in
              let answers = sym (append_assoc (answers_of told) (given ∷ []) more) ∙ ap (λ xs. xs ++ more) (sym (answers_told told answer m)) in
              let said = sym (append_assoc events (event ∷ []) o.events) in
              subst (λ (x : List Answer). Whole x (behind (events ++ event ∷ []) o)) answers
              (subst (λ (x : List Event). Whole (answers_of told ++ given ∷ more) (record { events = x; ending = o.ending })) said whole);
          is = ap (λ (x : Memory). move_of linked e.frame x came) (sym (last_told (with_frame e.frame c.memory) m told answer));
        }

    going : (told : History) (answer : run.Answer Value) (m : Memory) (events : List Event) (st : State) (op : MidOp) (event : Event) (reply : Answer → Next) (rest : Code) (move : Moves) → effect_of e.frame.procedure.code.slots.now e.frame.around st op ≡ Acts event reply →
        UpTo (answers_of told) events (AtPoint event reply rest) → GoesOn linked answer m (Within (record { frame = e.frame; state = st; op = op; rest = rest })) move → Known (told_more told answer m) move
    going told answer m events st op event reply rest move h up (moving.over _ event' reply' ending h' r) =
        let p = e.frame.procedure.code in
        let q : Acts event reply ≡ Acts event' reply' = sym h ∙ h' in
        let same : reply' ≡ reply = cc in
        let r2 : reply (told_as answer m.words) ≡ Ends ending = subst (λ f. f (told_as answer m.words) ≡ Ends ending) same r in
        further told answer m events event reply rest (Ended ending) (AtEnd ending) up (at_end ending) (λ more o follows. subst (λ n. FollowsNext p e.frame.around rest n more o) (sym r2) follows)
    going told answer m events st op event reply rest move h up (moving.further _ event' reply' s came h' r k) =
        let p = e.frame.procedure.code in
        let q : Acts event reply ≡ Acts event' reply' = sym h ∙ h' in
        let same : reply' ≡ reply = cc in
        let r2 : reply (told_as answer m.words) ≡ Goes s = subst (λ f. f (told_as answer m.words) ≡ Goes s) same r in
        let to = (comes_to_stop p e.frame.around rest s).stop came k in
        further told answer m events event reply rest came to.0 up to.2 (λ more o follows. subst (λ n. FollowsNext p e.frame.around rest n more o) (sym r2) (((chain p e.frame.around rest s).run more o).1 (to.0, to.1, follows)))

    goes_from : (told : History) (answer : run.Answer Value) (m : Memory) (events : List Event) (came : Came) (stop : Stop) (action : Action Value) (s : Activity) (before : Memory) (move : Moves) → IsStopOf e.frame.procedure.code e.frame.around came stop →
        UpTo (answers_of told) events stop → run.Acts action s before ≡ move_of linked e.frame (last_memory (with_frame e.frame c.memory) told) came → GoesOn linked answer m s move → Known (told_more told answer m) move
    goes_from told answer m events came stop action s before move (at_end ending) up is goes = left_no_act e.frame (last_memory (with_frame e.frame c.memory) told) ending action s before (sym is)
    goes_from told answer m events came stop action s before move (at_point st op event reply rest h) up is goes =
        let a : Activation = record { frame = e.frame; state = st; op = op; rest = rest } in
        let same = acts_within a (with_words (last_memory (with_frame e.frame c.memory) told) event.memory) (action_of linked event.action) action s before (sym is) in
        going told answer m events st op event reply rest move h up (subst (λ x. GoesOn linked answer m x move) (sym same) goes)

    -- ---- all moves

    entered : (o : Option Callee) (move : Moves) → o ≡ Some e → Enters linked o c.memory (Begins move) → Known [] move
    entered o move is (moving.breaks h) = absurd (let q : None ≡ Some e = sym h ∙ is in cc)
    entered o move is (moving.begins d came h r k) =
        let q : Some d ≡ Some e = sym h ∙ is in
        let same : d ≡ e = cc in
        let k2 = subst (λ (x : Callee). Comes x.frame.procedure.code x.frame.around [] (block_ends.Goto x.frame.procedure.code.start) (entered_state x c.memory) came) same k in
        subst (λ (x : Callee). Known [] (move_of linked x.frame (with_frame x.frame c.memory) came)) (sym same) (began came k2)

    known : callee linked c.stack c.procedure c.environment c.formals c.memory ≡ Some e → (told : History) (move : Moves) → MovesTo (mid_language linked) c told move → Known told move
    known is told move (histories.first _ enters) = entered (callee linked c.stack c.procedure c.environment c.formals c.memory) move is enters
    known is told move (histories.next before action s m0 m answer _ moves goes) =
        let k = known is before (run.Acts action s m0) moves in
        goes_from before answer m k.events k.came k.stop action s m0 move k.at k.up_to k.is goes

    runs_to : (told : History) (move : Moves) (events : List Event) (came : Came) (stop : Stop) → IsStopOf e.frame.procedure.code e.frame.around came stop → UpTo (answers_of told) events stop → move ≡ move_of linked e.frame (last_memory (with_frame e.frame c.memory) told) came → RunsSo linked e c told move
    runs_to told move events came stop (at_end ending) up is = record {
      outcome = behind events (ended ending);
      run = subst (λ (x : List Answer). Whole x (behind events (ended ending))) (append-nil (answers_of told)) (up [] (ended ending) refl);
      says = subst (λ x. Says linked e.frame (last_memory (with_frame e.frame c.memory) told) (behind events (ended ending)) x) (sym is) (laws.ends (events ++ []) ending);
    }
    runs_to told move events came stop (at_point st op event reply rest h) up is =
        let o : Outcome = preceded event (ended Waiting) in
        let a : Activation = record { frame = e.frame; state = st; op = op; rest = rest } in
        record {
          outcome = behind events o;
          run = subst (λ (x : List Answer). Whole x (behind events o)) (append-nil (answers_of told)) (up [] o refl);
          says = subst (λ x. Says linked e.frame (last_memory (with_frame e.frame c.memory) told) (behind events o) x) (sym is) (laws.waits events event a refl);
        }

pub moves_as_it_runs : MovesAsItRuns
moves_as_it_runs linked c e told move is moves =
    let k = known linked c e is told move moves in
    runs_to linked c e told move k.events k.came k.stop k.at k.up_to k.is
