-- A run of the one language is answered by a run of the other.
use Rattle.std.proofs.Common.{◌≡◌, ℕ, suc, ◌+◌, ◌≤◌, ◌<◌, Bool, true, false, List, [], ◌∷◌, ◌++◌, length, Option, Some, None, refl, sym, ap, ◌∙◌, subst, arith, ◌⊎◌, inl, inr, ⊎_elim}
use Rattle.m3_base.specs.declared.outcomes.Entry.{Entry}
use Rattle.m3_base.specs.declared.outcomes.Outcome.{Outcome}
use Rattle.m3_base.specs.declared.outcomes.Outcome.TheVariants as outcome
use Rattle.m3_runs.specs.Languages.{New, ThreadCell, Action, Calls, Makes, Forks, Serves, Gives, Move, Breaks, Entered, Begins, Overflows, Thread, Begun, Parts, Language}
use Rattle.m3_runs.specs.States.{Given, State, thread_at, living, with_parts, with_threads, beginning}
use Rattle.m3_runs.specs.Choice.{lowest, choice, all_known}
use Rattle.m3_runs.specs.Services.{Done, Comes_to, Stops, answers, serves}
use Rattle.m3_runs.specs.Runs as run
use Rattle.m3_runs.specs.Runs.{Result, Goes, Ends, Undefined, Does, Finishes, Carries_out, Collected_if, Turns, Runs, forked, passed, runs_on, first_entry, later_entries, entries_after}
use Rattle.m3_runs.specs.Keeping.{Keeps}
use Rattle.m3_runs.specs.Follows as rel
use Rattle.m3_runs.specs.Follows.{Each, none, more, Both, neither, both, AsDefined, Standing, SameNew, SameAction, SameAnswer, SameMove, SameThread, SameBegun, SameParts, SameCounts, Shows, IsActing, Needs, EntersSo, MakesSo, Room, Invariant, Follows}
use Rattle.m3_runs.specs.Answers as law
use Rattle.m3_runs.specs.Answers.{Lacks, Answers, RunsTheSame}
use Rattle.m3_runs.proofs.Keeping.{turns_keep}
use Rattle.m3_runs.proofs.Rows.{each_length, each_behind, at_each, living_same, there}
use Rattle.m3_runs.proofs.Choosing.{lowest_same, choice_same, unknown_so, by_test}
use Rattle.m3_runs.proofs.Serving as serving
use Rattle.m3_runs.proofs.Serving.{SameDone, finding_so, answers_so, serves_so}
use Rattle.m3_runs.proofs.Settling as settling
use Rattle.m3_runs.proofs.Settling.{SameResult, FinishesSo, finishes_so, action_status}

module _ {W SA VA MA SB VB MB : Type 0} (R : Standing W SA VA MA SB VB MB) (K : Language SA VA MA) (L : Language SB VB MB) (I : Invariant SA VA MA) (J : Invariant SB VB MB) (room : Room R) (F : Follows R K L I J room) (given : Given) (A : Keeps K given I) (B : Keeps L given J) where
  -- ---- the action of a thread

  -- what K does for an action of L
  data DoesSo (n : ℕ) (t : Thread SA VA) (s : State SA VA MA) (action : Action VA) : Done SB VB MB → Type 0 where
    did : (w : W) (done : Done SA VA MA) (done' : Done SB VB MB) → Does K given n t s action done → SameDone R w done done' → DoesSo n t s action done'
    lacks_cell : (u' : State SB VB MB) → room.no_cell s.parts n → SameCounts R s u' → DoesSo n t s action (Stops u' outcome.HeapFull)
    lacks_frame : (u' : State SB VB MB) → room.no_frame s.parts n → SameCounts R s u' → DoesSo n t s action (Stops u' outcome.StackFull)

  counts_with : (s : State SA VA MA) (s' : State SB VB MB) (parts : Parts SA VA MA) (parts' : Parts SB VB MB) → SameCounts R s s' → SameCounts R (with_parts s parts) (with_parts s' parts')
  counts_with s s' parts parts' h = record { output = h.output; taken = h.taken; points = h.points; running = h.running; waits = h.waits }

  counts_after : (s : State SA VA MA) (s' : State SB VB MB) (parts' : Parts SB VB MB) → SameCounts R s s' → SameCounts R s (with_parts s' parts')
  counts_after s s' parts' h = record { output = h.output; taken = h.taken; points = h.points; running = h.running; waits = h.waits }

  module _ (w : W) (s : State SA VA MA) (s' : State SB VB MB) (n : ℕ) (t : Thread SA VA) (t' : Thread SB VB) (sh : Shows R w s s') (acting : IsActing R w s.parts s'.parts n t t') (good : I.acting s n) (good' : J.acting s' n) where
    entered_so : (p : ℕ) (v : VA) (formals : List VA) (entered' : Entered SB VB MB) (done' : Done SB VB MB) →
        EntersSo R K w t.stack t'.stack p v formals s.parts.memory (room.no_frame s.parts n) entered' →
        ((move' : Move SB VB MB) → entered' ≡ Begins move' → done' ≡ Comes_to s' t'.stack move') → (entered' ≡ Overflows → done' ≡ Stops s' outcome.StackFull) →
        DoesSo n t s (Calls p v formals) done'
    entered_so p v formals entered' done' (rel.begins_so world move move' later e same) f g =
        let ts = settling.threads_stay R w world (λ x x'. F.value_stays w world x x' later) (λ ss ss'. F.stack_stays w world ss ss' later) s.parts.threads s'.parts.threads sh.parts.threads in
        subst (λ d. DoesSo n t s (Calls p v formals) d) (sym (f move' refl))
        (did world (Comes_to s t.stack move) (Comes_to s' t'.stack move') (run.begins p v formals move e) (serving.comes s s' t.stack t'.stack move move' ts sh.counts same))
    entered_so p v formals entered' done' (rel.overflows_so deep) f g = subst (λ d. DoesSo n t s (Calls p v formals) d) (sym (g refl)) (lacks_frame s' deep sh.counts)
    entered_so p v formals entered' done' (rel.breaks_so _ e) f g = did w (Comes_to s t.stack Breaks) done' (run.begins p v formals Breaks e) (serving.breaks s t.stack done')

    made_so : (new : New VA) (v' : VB) (parts' : Parts SB VB MB) (after' : Thread SB VB) → MakesSo R K s.parts n new v' parts' → thread_at parts'.threads n ≡ Some after' →
        DoesSo n t s (Makes new) (answers (with_parts s' parts') after' (Gives (Some v')))
    made_so new v' parts' after' h at =
        let k = there (SameThread R h.world) (thread_at h.after.threads n) (thread_at parts'.threads n) after' (at_each (SameThread R h.world) h.after.threads parts'.threads n h.same.threads) at in
        did h.world (answers (with_parts s h.after) k.0 (Gives (Some h.value))) (answers (with_parts s' parts') after' (Gives (Some v')))
        (run.makes new h.value h.after k.0 h.makes k.1)
        (answers_so R h.world (with_parts s h.after) (with_parts s' parts') k.0 after' (Gives (Some h.value)) (Gives (Some v')) (record { parts = h.same; counts = counts_with s s' h.after parts' sh.counts }) k.2
        (rel.gives (Some h.value) (Some v') (both h.value v' h.given)))

    -- a closure that stands for another, at the same action
    fork_there : (world : W) (a : Action VA) (c' : VB) → SameAction R world a (Forks c') → (c : VA) × (a ≡ Forks c) × R.value world c c'
    fork_there world a c' (rel.forks c _ h) = (c, refl, h)

    begun_so : (world : W) (u : State SA VA MA) (u' : State SB VB MB) (x : Thread SA VA) (x' : Thread SB VB) (v : VA) (v' : VB) (o : Option (Begun SA VA)) (o' : Option (Begun SB VB)) → Shows R world u u' → SameThread R world x x' → R.value world v v' →
        AsDefined (SameBegun R world) o o' → SameDone R world (forked K u x v o) (forked L u' x' v' o')
    begun_so world u u' x x' v v' o o' shows th h begun =
        finding_so R world (SameBegun R world) o o' u u' (λ b. answers (with_threads u (u.parts.threads ++ Some (beginning v b) ∷ [])) x (Gives (Some v))) (λ b. answers (with_threads u' (u'.parts.threads ++ Some (beginning v' b) ∷ [])) x' (Gives (Some v'))) begun
        (λ b b' same.
        let first : SameThread R world (beginning v b) (beginning v' b') = record { action = same.action; status = action_status R world b.action b'.action same.action; alerted = refl; cell = h; stack = same.stack } in
        answers_so R world (with_threads u (u.parts.threads ++ Some (beginning v b) ∷ [])) (with_threads u' (u'.parts.threads ++ Some (beginning v' b') ∷ [])) x x' (Gives (Some v)) (Gives (Some v')) (record {
          parts = record { threads = each_behind (Both (SameThread R world)) u.parts.threads u'.parts.threads (Some (beginning v b)) (Some (beginning v' b')) shows.parts.threads (both (beginning v b) (beginning v' b') first); memory = shows.parts.memory };
          counts = record { output = shows.counts.output; taken = shows.counts.taken; points = shows.counts.points; running = shows.counts.running; waits = shows.counts.waits };
        }) th (rel.gives (Some v) (Some v') (both v v' h)))

    living_too : living s.parts.threads ≡ living s'.parts.threads
    living_too = living_same (SameThread R w) s.parts.threads s'.parts.threads sh.parts.threads

    numbers_too : length s.parts.threads ≡ length s'.parts.threads
    numbers_too = each_length (Both (SameThread R w)) s.parts.threads s'.parts.threads sh.parts.threads

    cell_asked : SameNew R w (ThreadCell (length s.parts.threads)) (ThreadCell (length s'.parts.threads))
    cell_asked = subst (λ i. SameNew R w (ThreadCell (length s.parts.threads)) (ThreadCell i)) numbers_too (rel.thread_cell (length s.parts.threads))

    forks_so : (c : VA) (v' : VB) (parts' : Parts SB VB MB) (after' : Thread SB VB) (moved' : VB) → living s.parts.threads < given.threads →
        MakesSo R K s.parts n (ThreadCell (length s.parts.threads)) v' parts' → thread_at parts'.threads n ≡ Some after' → after'.action ≡ Forks moved' →
        DoesSo n t s (Forks c) (forked L (with_parts s' parts') after' v' (L.begins parts'.memory moved'))
    forks_so c v' parts' after' moved' few h at is =
        let k = there (SameThread R h.world) (thread_at h.after.threads n) (thread_at parts'.threads n) after' (at_each (SameThread R h.world) h.after.threads parts'.threads n h.same.threads) at in
        let same : SameAction R h.world (k.0).action (Forks moved') = subst (λ a. SameAction R h.world (k.0).action a) is (k.2).action in
        let f = fork_there h.world (k.0).action moved' same in
        did h.world (forked K (with_parts s h.after) k.0 h.value (K.begins h.after.memory f.0)) (forked L (with_parts s' parts') after' v' (L.begins parts'.memory moved'))
        (run.forks c h.value h.after k.0 f.0 few h.makes k.1 f.1)
        (begun_so h.world (with_parts s h.after) (with_parts s' parts') k.0 after' h.value v' (K.begins h.after.memory f.0) (L.begins parts'.memory moved')
        (record { parts = h.same; counts = counts_with s s' h.after parts' sh.counts }) k.2 h.given (F.begins h.world h.after.memory parts'.memory f.0 moved' h.same.memory f.2))

    does_so : (a : Action VA) (a' : Action VB) (done' : Done SB VB MB) → t.action ≡ a → SameAction R w a a' → Does L given n t' s' a' done' → DoesSo n t s a done'
    does_so a a' done' is rel.passes run.passes =
        did w (answers s t (Gives None)) (answers s' t' (Gives None)) run.passes (answers_so R w s s' t t' (Gives None) (Gives None) sh acting.same (rel.gives None None neither))
    does_so a a' done' is (rel.calls p v v' vs vs' h hs) (run.begins _ _ _ move' e) =
        entered_so p v vs (Begins move') (Comes_to s' t'.stack move') (F.enters w s s' n t t' p v v' vs vs' (Begins move') good good' acting is h hs e)
        (λ m e. let same : move' ≡ m = cc in ap (Comes_to s' t'.stack) same) (λ e. absurd (let bad : Begins move' ≡ Overflows = e in cc))
    does_so a a' done' is (rel.calls p v v' vs vs' h hs) (run.overflows _ _ _ e) =
        entered_so p v vs Overflows (Stops s' outcome.StackFull) (F.enters w s s' n t t' p v v' vs vs' Overflows good good' acting is h hs e)
        (λ m e. absurd (let bad : Overflows ≡ Begins m = e in cc)) (λ e. refl)
    does_so a a' done' is (rel.makes new new' h) (run.makes _ v' parts' after' e at) =
        made_so new v' parts' after' (F.makes w s s' parts' n t t' new new' v' good good' acting (subst (λ i. Needs i new) (sym is) (rel.needs_new new)) h e) at
    does_so a a' done' is (rel.makes new new' h) (run.finds_no_room _ parts' e) =
        lacks_cell (with_parts s' parts') (F.full w s s' parts' n t t' new new' good good' acting (subst (λ i. Needs i new) (sym is) (rel.needs_new new)) h e) (counts_after s s' parts' sh.counts)
    does_so a a' done' is (rel.forks c c' h) (run.too_many _ few) =
        did w (Stops s outcome.ThreadsFull) (Stops s' outcome.ThreadsFull) (run.too_many c (subst (λ i. given.threads ≤ i) (sym living_too) few)) (serving.stops s s' outcome.ThreadsFull sh.counts)
    does_so a a' done' is (rel.forks c c' h) (run.forks _ v' parts' after' moved' few e at forks) =
        forks_so c v' parts' after' moved' (subst (λ i. i < given.threads) (sym living_too) few)
        (F.makes w s s' parts' n t t' (ThreadCell (length s.parts.threads)) (ThreadCell (length s'.parts.threads)) v' good good' acting (subst (λ i. Needs i (ThreadCell (length s.parts.threads))) (sym is) (rel.needs_cell c (length s.parts.threads))) cell_asked e) at forks
    does_so a a' done' is (rel.forks c c' h) (run.finds_no_cell _ parts' few e) =
        lacks_cell (with_parts s' parts')
        (F.full w s s' parts' n t t' (ThreadCell (length s.parts.threads)) (ThreadCell (length s'.parts.threads)) good good' acting (subst (λ i. Needs i (ThreadCell (length s.parts.threads))) (sym is) (rel.needs_cell c (length s.parts.threads))) cell_asked e) (counts_after s s' parts' sh.counts)
    does_so a a' done' is (rel.serves service other h) (run.served _) =
        did w (serves K given n t service s) (serves L given n t' other s') (run.served service) (serves_so R K L I J room F w given n t t' acting.same service other s s' (λ form v v' e k. F.bytes w s s' n t t' form v v' good good' acting (is ∙ ap Serves e) k) (λ v v' holder k few. F.hold w s s' n holder v v' good good' sh.parts.memory k few) h sh)

  -- ---- a turn

  data CarriesSo (n : ℕ) (s : State SA VA MA) : Result SB VB MB → Type 0 where
    carried : (r : Result SA VA MA) (r' : Result SB VB MB) → Carries_out K given n s r → SameResult R r r' → CarriesSo n s r'
    lacks_cell : (u' : State SB VB MB) → room.no_cell s.parts n → SameCounts R s u' → CarriesSo n s (Ends u' outcome.HeapFull)
    lacks_frame : (u' : State SB VB MB) → room.no_frame s.parts n → SameCounts R s u' → CarriesSo n s (Ends u' outcome.StackFull)

  finish : (n : ℕ) (s : State SA VA MA) (s' : State SB VB MB) (t : Thread SA VA) (t' : Thread SB VB) (done' : Done SB VB MB) (r' : Result SB VB MB) → I.acting s n → J.acting s' n → thread_at s.parts.threads n ≡ Some t → thread_at s'.parts.threads n ≡ Some t' → Does L given n t' s' t'.action done' →
      DoesSo n t s t.action done' → Finishes L n done' r' → CarriesSo n s r'
  finish n s s' t t' done' r' good good' at at' does' (did w done _ does same) fin =
      let k = finishes_so R K L I J room F given A B w n done done' r'
      (λ u stack move e. A.does n t s u stack move good at (subst (λ d. Does K given n t s t.action d) e does))
      (λ u stack move e. B.does n t' s' u stack move good' at' (subst (λ d. Does L given n t' s' t'.action d) e does')) same fin in
      carried k.result r' (run.carries_out t done k.result at does k.finishes) k.same
  finish n s s' t t' done' r' good good' at at' does' (lacks_cell u' known counts) (run.stops _ _) = lacks_cell u' known counts
  finish n s s' t t' done' r' good good' at at' does' (lacks_frame u' known counts) (run.stops _ _) = lacks_frame u' known counts

  carries_so : (w : W) (n : ℕ) (s : State SA VA MA) (s' : State SB VB MB) (r' : Result SB VB MB) → I.acting s n → J.acting s' n → Shows R w s s' → Carries_out L given n s' r' → CarriesSo n s r'
  carries_so w n s s' r' good good' sh (run.carries_out t' done' _ at does fin) =
      let k = there (SameThread R w) (thread_at s.parts.threads n) (thread_at s'.parts.threads n) t' (at_each (SameThread R w) s.parts.threads s'.parts.threads n sh.parts.threads) at in
      let acting : IsActing R w s.parts s'.parts n k.0 t' = record { state = sh.parts; there = k.1; there' = at; same = k.2 } in
      finish n s s' k.0 t' done' r' good good' k.1 at does (does_so w s s' n k.0 t' sh acting good good' (k.0).action t'.action done' refl (k.2).action does) fin

  data TurnsSo (s : State SA VA MA) (entry : Entry) : Result SB VB MB → Type 0 where
    turned : (r : Result SA VA MA) (r' : Result SB VB MB) → Turns K given s entry r → SameResult R r r' → TurnsSo s entry r'
    lacks_cell : (n : ℕ) (u' : State SB VB MB) → choice K s.parts entry.to s.running ≡ Some n → room.no_cell s.parts n → s.output ≡ u'.output → u'.points ≡ s.points + 1 → TurnsSo s entry (Ends u' outcome.HeapFull)
    lacks_frame : (n : ℕ) (u' : State SB VB MB) → choice K s.parts entry.to s.running ≡ Some n → room.no_frame s.parts n → s.output ≡ u'.output → u'.points ≡ s.points + 1 → TurnsSo s entry (Ends u' outcome.StackFull)

  collected_so : (w : W) (parts : Parts SA VA MA) (parts' after' : Parts SB VB MB) (collect : Bool) → SameParts R w parts parts' → Collected_if L parts' collect after' →
      Collected_if K parts collect parts × (w' : W) × SameParts R w' parts after'
  collected_so w parts parts' after' collect same run.left = (run.left, w, same)
  collected_so w parts parts' after' collect same (run.made _ c) = let h = F.collects w parts parts' after' same c in (run.made parts (F.ignores parts), h.0, h.1)

  -- thread n goes, where all is known
  gone : (s : State SA VA MA) (entry : Entry) (k n : ℕ) (r' : Result SB VB MB) → all_known K s.parts.memory s.parts.threads ≡ true → lowest K s.parts ≡ Some k → s.points < given.points → Collected_if K s.parts entry.collect s.parts → choice K s.parts entry.to s.running ≡ Some n →
      CarriesSo n (runs_on n (passed (with_parts s s.parts))) r' → TurnsSo s entry r'
  gone s entry k n r' known low few coll chosen (carried r _ c same) = turned r r' (run.goes k n s.parts r known low few coll chosen c) same
  gone s entry k n r' known low few coll chosen (lacks_cell u' lacks counts) = lacks_cell n u' chosen lacks counts.output (sym counts.points)
  gone s entry k n r' known low few coll chosen (lacks_frame u' lacks counts) = lacks_frame n u' chosen lacks counts.output (sym counts.points)

  turn_known : (w : W) (s : State SA VA MA) (s' : State SB VB MB) (entry : Entry) (r' : Result SB VB MB) → I.between s → J.between s' → Shows R w s s' → all_known K s.parts.memory s.parts.threads ≡ true → Turns L given s' entry r' → TurnsSo s entry r'
  turn_known w s s' entry r' good good' sh known (run.unknown e) =
      absurd (let bad : true ≡ false = sym known ∙ unknown_so R K L I J room F w s.parts s'.parts sh.parts e in cc)
  turn_known w s s' entry r' good good' sh known (run.nobody e low) =
      turned (Ends s outcome.Deadlock) (Ends s' outcome.Deadlock) (run.nobody known (lowest_same R K L I J room F w s.parts s'.parts sh.parts known ∙ low)) (settling.ends s s' outcome.Deadlock sh.counts.output sh.counts.points)
  turn_known w s s' entry r' good good' sh known (run.spent k e low full) =
      turned (Ends s outcome.Spent) (Ends s' outcome.Spent) (run.spent k known (lowest_same R K L I J room F w s.parts s'.parts sh.parts known ∙ low) (subst (λ i. given.points ≤ i) (sym sh.counts.points) full)) (settling.ends s s' outcome.Spent sh.counts.output sh.counts.points)
  turn_known w s s' entry r' good good' sh known (run.goes k n parts' _ e low few coll chosen carries) =
      let c = collected_so w s.parts s'.parts parts' entry.collect sh.parts coll in
      let same : choice K s.parts entry.to s.running ≡ Some n =
      choice_same R K L I J room F c.1 s.parts parts' c.2 entry.to s.running known ∙ ap (choice L parts' entry.to) sh.counts.running ∙ chosen in
      let u = runs_on n (passed (with_parts s s.parts)) in
      let u' = runs_on n (passed (with_parts s' parts')) in
      let shows : Shows R c.1 u u' = record { parts = c.2; counts = record { output = sh.counts.output; taken = sh.counts.taken; points = ap (λ i. i + 1) sh.counts.points; running = refl; waits = sh.counts.waits } } in
      gone s entry k n r' known (lowest_same R K L I J room F w s.parts s'.parts sh.parts known ∙ low) (subst (λ i. i < given.points) (sym sh.counts.points) few) c.0 same (carries_so c.1 n u u' r' (A.begins s entry n s.parts good (subst (λ i. i < given.points) (sym sh.counts.points) few) c.0 same) (B.begins s' entry n parts' good' few coll chosen) shows carries)

  turn_so : (w : W) (s : State SA VA MA) (s' : State SB VB MB) (entry : Entry) (r' : Result SB VB MB) → I.between s → J.between s' → Shows R w s s' → Turns L given s' entry r' → TurnsSo s entry r'
  turn_so w s s' entry r' good good' sh turns = by_test (all_known K s.parts.memory s.parts.threads) (TurnsSo s entry r')
      (λ known. turn_known w s s' entry r' good good' sh known turns)
      (λ unknown. turned Undefined r' (run.unknown unknown) (settling.undefined_so r'))

  -- ---- a run

  ended : (s : State SA VA MA) (u' : State SB VB MB) (schedule : List Entry) (turns : ℕ) (o : Outcome) → TurnsSo s (first_entry schedule) (Ends u' o) → Answers R K L room given s schedule (suc turns) (Ends u' o)
  ended s u' schedule turns o (turned r _ turn (settling.ends u _ _ out points)) = law.ends u u' o (run.ends s u schedule turns o turn) out points
  ended s u' schedule turns o (turned r _ turn (settling.undefined_so _)) = law.undefined (Ends u' o) (run.breaks_off s schedule turns turn)
  ended s u' schedule turns o (lacks_cell n _ chosen known out points) =
      law.no_cell u' (record { before = 0; fewer = omega arith; state = s; runs = run.stays s schedule; thread = n; next = chosen; known = known; output = out; points = points })
  ended s u' schedule turns o (lacks_frame n _ chosen known out points) =
      law.no_frame u' (record { before = 0; fewer = omega arith; state = s; runs = run.stays s schedule; thread = n; next = chosen; known = known; output = out; points = points })

  broken : (s : State SA VA MA) (schedule : List Entry) (turns : ℕ) (r' : Result SB VB MB) → TurnsSo s (first_entry schedule) Undefined → Answers R K L room given s schedule (suc turns) r'
  broken s schedule turns r' (turned r _ turn (settling.undefined_so _)) = law.undefined r' (run.breaks_off s schedule turns turn)

  turn_there : (s : State SA VA MA) (u' : State SB VB MB) (entry : Entry) → TurnsSo s entry (Goes u') → ((w : W) × (u : State SA VA MA) × Turns K given s entry (Goes u) × Shows R w u u') ⊎ Turns K given s entry Undefined
  turn_there s u' entry (turned r _ turn (settling.goes w u _ sh)) = inl (w, u, turn, sh)
  turn_there s u' entry (turned r _ turn (settling.undefined_so _)) = inr turn

  lacks_behind : (P : Parts SA VA MA → ℕ → Type 0) (s u : State SA VA MA) (schedule : List Entry) (turns : ℕ) (u' : State SB VB MB) → Turns K given s (first_entry schedule) (Goes u) → Lacks R K L room given P u (later_entries schedule) turns u' → Lacks R K L room given P s schedule (suc turns) u'
  lacks_behind P s u schedule turns u' turn h = record {
    before = suc h.before;
    fewer = let q = h.fewer in omega (arith, q);
    state = h.state;
    runs = run.turn s u schedule h.before (Goes h.state) turn h.runs;
    thread = h.thread;
    next = h.next;
    known = h.known;
    output = h.output;
    points = h.points;
  }

  behind : (s u : State SA VA MA) (schedule : List Entry) (turns : ℕ) (r' : Result SB VB MB) → Turns K given s (first_entry schedule) (Goes u) → Answers R K L room given u (later_entries schedule) turns r' → Answers R K L room given s schedule (suc turns) r'
  behind s u schedule turns r' turn (law.comes w v v' runs sh) = law.comes w v v' (run.turn s u schedule turns (Goes v) turn runs) sh
  behind s u schedule turns r' turn (law.ends v v' o runs out points) = law.ends v v' o (run.turn s u schedule turns (Ends v o) turn runs) out points
  behind s u schedule turns r' turn (law.no_cell u' h) = law.no_cell u' (lacks_behind room.no_cell s u schedule turns u' turn h)
  behind s u schedule turns r' turn (law.no_frame u' h) = law.no_frame u' (lacks_behind room.no_frame s u schedule turns u' turn h)
  behind s u schedule turns r' turn (law.undefined _ runs) = law.undefined r' (run.turn s u schedule turns Undefined turn runs)

  pub runs_so : RunsTheSame R K L room given I J
  runs_so w s s' schedule turns r' good good' sh (run.stays _ _) = law.comes w s s' (run.stays s schedule) sh
  runs_so w s s' schedule (suc turns) r' good good' sh (run.turn _ u' _ _ _ turn later) =
      ⊎_elim
      (λ k. behind s k.1 schedule turns r' k.2 (runs_so k.0 k.1 u' (later_entries schedule) turns r' (turns_keep K given I A s k.1 (first_entry schedule) good k.2) (turns_keep L given J B s' u' (first_entry schedule) good' turn) k.3 later))
      (λ k. law.undefined r' (run.breaks_off s schedule turns k))
      (turn_there s u' (first_entry schedule) (turn_so w s s' (first_entry schedule) (Goes u') good good' sh turn))
  runs_so w s s' schedule (suc turns) r' good good' sh (run.ends _ u' _ _ o turn) = ended s u' schedule turns o (turn_so w s s' (first_entry schedule) (Ends u' o) good good' sh turn)
  runs_so w s s' schedule (suc turns) r' good good' sh (run.breaks_off _ _ _ turn) = broken s schedule turns Undefined (turn_so w s s' (first_entry schedule) Undefined good good' sh turn)
