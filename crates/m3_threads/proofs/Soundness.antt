-- What keeps the threads sound: their order, their slots, their stacks and their places in the queues.
use Rattle.std.proofs.Common.{◌≡◌, ◌≢◌, ℕ, ◌+◌, ◌^◌, ◌<◌, ◌≤◌, List, [], ◌∷◌, length, Some, false, map, ◌++◌, refl, sym, ap, subst, ◌∙◌, inl, inr, arith, length-append, get_or-set_same, get_or-set_other}
use Rattle.std.specs.Prelude.{slice_get, slice_set, slice_index_or, remove}
use Rattle.std.specs.List.{list_any}
use Rattle.std.proofs.lemmas.Bool.{cases_eq, false≢true}
use Rattle.m3_threads.specs.declared.status.Thread.{Thread}
use Rattle.m3_threads.specs.declared.status.Status.TheVariants.{Ready}
use Rattle.m3_threads.specs.All.{AreSoundThreads, HoldsOfEach, WaitApart, NamesRegisters, is_asleep, is_asleep_at, queue_place}
use Rattle.m3_threads.specs.PlacesInside.{MayBecome}
use Rattle.m3_threads.specs.Actions.{uses}
use Rattle.m3_threads.proofs.Places.{some_same}
use Rattle.m3_threads.proofs.Members.{set-at, length-set_of, set-there, set-elsewhere, ordered-set, length-mapped, map-member, member-map, ordered-map, remove-member, remove-keeps, length-remove_of, ordered-remove, last-member, kept-member, push-member, ordered-push, unused}

no-words : (ws : List ℕ) → length ws ≡ 0 → ws ≡ []
no-words [] e = refl
no-words (x ∷ xs) e = absurd (omega arith)

-- a slot that no thread has after a change was of no thread before it
free-set : (ts : List Thread) (k : ℕ) (t u : Thread) (slot : ℕ) → slice_get ts k ≡ Some u → u.slot ≡ t.slot → HoldsOfEach (λ v. v.slot ≢ slot) (slice_set ts k t) → HoldsOfEach (λ v. v.slot ≢ slot) ts
free-set ts k t u slot e same free = λ j v g. elim (cases_eq j k) [
  | inl here ↦
      let one : v ≡ u = some_same (sym g ∙ ap (slice_get ts) here ∙ e) in
      let slots : v.slot ≡ t.slot = ap (λ w. w.slot) one ∙ same in
      λ q. free k t (set-there ts k t u e) (sym slots ∙ q)
  | inr other ↦ free j v (set-elsewhere ts k j t other ∙ g)
]

-- a thread becomes another that it may become
pub sound-set : (a s f w : ℕ) (ts : List Thread) (st : List (List ℕ)) (k : ℕ) (t u : Thread) → AreSoundThreads a s f w ts st → slice_get ts k ≡ Some u → MayBecome u t → AreSoundThreads a s f w (slice_set ts k t) st
sound-set a s f w ts st k t u h e m = record {
  few = h.few;
  small = h.small;
  large = h.large;
  whole = h.whole;
  room = rw (length-set_of ts k t) h.room;
  slots = λ j v g. elim (set-at ts k t j v g) [
    | inl new ↦ let old = h.slots k u e in let same : v.slot ≡ u.slot = ap (λ w. w.slot) new.1 ∙ sym m.slot in omega arith
    | inr old ↦ h.slots j v old.1
  ];
  apart = ordered-set (λ v w. v.slot ≢ w.slot) ts k t u (λ v n q. n (m.slot ∙ q)) (λ v n q. n (q ∙ sym m.slot)) e h.apart;
  words = λ j v g. elim (set-at ts k t j v g) [
    | inl new ↦ ap (λ n. length (slice_index_or st n [])) (ap (λ w. w.slot) new.1 ∙ sym m.slot) ∙ h.words k u e
    | inr old ↦ h.words j v old.1
  ];
  blank = λ slot free. h.blank slot (free-set ts k t u slot e m.slot free);
  numbers = λ j v g. elim (set-at ts k t j v g) [
    | inl new ↦ let old = h.numbers k u e in let same : v.number ≡ u.number = ap (λ w. w.number) new.1 ∙ sym m.number in omega arith
    | inr old ↦ h.numbers j v old.1
  ];
  rising = ordered-set (λ v w. v.number < w.number) ts k t u (λ v n. let q = m.number in omega arith) (λ v n. let q = m.number in omega arith) e h.rising;
  queued = λ j v g sleeps. elim (set-at ts k t j v g) [
    | inl new ↦
        let asleep = m.asleep (ap is_asleep (sym new.1) ∙ sleeps) in
        let place : queue_place v ≡ queue_place u = ap queue_place new.1 ∙ asleep.1 in
        let old = h.queued k u e asleep.0 in
        omega arith
    | inr old ↦ h.queued j v old.1 sleeps
  ];
  queues = ordered-set WaitApart ts k t u
      (λ v n p q same. let asleep = m.asleep p in n asleep.0 q (sym asleep.1 ∙ same))
      (λ v n p q same. let asleep = m.asleep q in n p asleep.0 (same ∙ asleep.1)) e h.queues;
  registers = λ j v g. elim (set-at ts k t j v g) [
    | inl new ↦ subst (λ x. NamesRegisters x.status) (sym new.1) (m.registers (h.registers k u e))
    | inr old ↦ h.registers j v old.1
  ];
}

-- a thread that was awake sleeps at the end of the queues
pub sound-sleep : (a s f w : ℕ) (ts : List Thread) (st : List (List ℕ)) (k : ℕ) (t u : Thread) → AreSoundThreads a s f w ts st → slice_get ts k ≡ Some u → u.slot ≡ t.slot → u.number ≡ t.number → queue_place t ≡ w → NamesRegisters t.status → AreSoundThreads a s f (w + 1) (slice_set ts k t) st
sound-sleep a s f w ts st k t u h e slot number place names = record {
  few = h.few;
  small = h.small;
  large = h.large;
  whole = h.whole;
  room = rw (length-set_of ts k t) h.room;
  slots = λ j v g. elim (set-at ts k t j v g) [
    | inl new ↦ let old = h.slots k u e in let same : v.slot ≡ u.slot = ap (λ w. w.slot) new.1 ∙ sym slot in omega arith
    | inr old ↦ h.slots j v old.1
  ];
  apart = ordered-set (λ v w. v.slot ≢ w.slot) ts k t u (λ v n q. n (slot ∙ q)) (λ v n q. n (q ∙ sym slot)) e h.apart;
  words = λ j v g. elim (set-at ts k t j v g) [
    | inl new ↦ ap (λ n. length (slice_index_or st n [])) (ap (λ w. w.slot) new.1 ∙ sym slot) ∙ h.words k u e
    | inr old ↦ h.words j v old.1
  ];
  blank = λ n free. h.blank n (free-set ts k t u n e slot free);
  numbers = λ j v g. elim (set-at ts k t j v g) [
    | inl new ↦ let old = h.numbers k u e in let same : v.number ≡ u.number = ap (λ w. w.number) new.1 ∙ sym number in omega arith
    | inr old ↦ h.numbers j v old.1
  ];
  rising = ordered-set (λ v w. v.number < w.number) ts k t u (λ v n. omega arith) (λ v n. omega arith) e h.rising;
  queued = λ j v g sleeps. elim (set-at ts k t j v g) [
    | inl new ↦ let same : queue_place v ≡ w = ap queue_place new.1 ∙ place in omega arith
    | inr old ↦ let low = h.queued j v old.1 sleeps in omega arith
  ];
  queues = λ i j v x l g m p q. elim (set-at ts k t i v g) [
    | inl one ↦ elim (set-at ts k t j x m) [
      | inl two ↦ let y : i ≡ k = one.0 in let z : j ≡ k = two.0 in absurd (omega arith)
      | inr two ↦
          let low = h.queued j x two.1 q in
          let same : queue_place v ≡ w = ap queue_place one.1 ∙ place in
          λ o. absurd (omega arith)
    ]
    | inr one ↦ elim (set-at ts k t j x m) [
      | inl two ↦
          let low = h.queued i v one.1 p in
          let same : queue_place x ≡ w = ap queue_place two.1 ∙ place in
          λ o. absurd (omega arith)
      | inr two ↦ h.queues i j v x l one.1 two.1 p q
    ]
  ];
  registers = λ j v g. elim (set-at ts k t j v g) [
    | inl new ↦ subst (λ x. NamesRegisters x.status) (sym new.1) names
    | inr old ↦ h.registers j v old.1
  ];
}

-- each thread becomes another that it may become
pub sound-map : (a s n w : ℕ) (ts : List Thread) (st : List (List ℕ)) (f : Thread → Thread) → ((t : Thread) → MayBecome t (f t)) → AreSoundThreads a s n w ts st → AreSoundThreads a s n w (map f ts) st
sound-map a s n w ts st f may h = record {
  few = h.few;
  small = h.small;
  large = h.large;
  whole = h.whole;
  room = rw (length-mapped f ts) h.room;
  slots = λ j v g. let m = map-member f ts j v g in let old = h.slots j m.0 m.1 in let same : v.slot ≡ m.0.slot = ap (λ w. w.slot) m.2 ∙ sym (may m.0).slot in omega arith;
  apart = ordered-map (λ v w. v.slot ≢ w.slot) f ts (λ t u n q. n ((may t).slot ∙ q ∙ sym (may u).slot)) h.apart;
  words = λ j v g. let m = map-member f ts j v g in ap (λ k. length (slice_index_or st k [])) (ap (λ w. w.slot) m.2 ∙ sym (may m.0).slot) ∙ h.words j m.0 m.1;
  blank = λ slot free. h.blank slot (λ j v g q. free j (f v) (member-map f ts j v g) (sym (may v).slot ∙ q));
  numbers = λ j v g. let m = map-member f ts j v g in let old = h.numbers j m.0 m.1 in let same : v.number ≡ m.0.number = ap (λ w. w.number) m.2 ∙ sym (may m.0).number in omega arith;
  rising = ordered-map (λ v w. v.number < w.number) f ts (λ t u l. let p = (may t).number in let q = (may u).number in omega arith) h.rising;
  queued = λ j v g sleeps.
      let m = map-member f ts j v g in
      let asleep = (may m.0).asleep (ap is_asleep (sym m.2) ∙ sleeps) in
      let place : queue_place v ≡ queue_place m.0 = ap queue_place m.2 ∙ asleep.1 in
      let old = h.queued j m.0 m.1 asleep.0 in
      omega arith;
  queues = ordered-map WaitApart f ts (λ t u n p q same.
      let one = (may t).asleep p in let two = (may u).asleep q in n one.0 two.0 (sym one.1 ∙ same ∙ two.1)) h.queues;
  registers = λ j v g. let m = map-member f ts j v g in subst (λ x. NamesRegisters x.status) (sym m.2) ((may m.0).registers (h.registers j m.0 m.1));
}

-- ---- stacks

-- the stack of another slot stays
stack-elsewhere : (st : List (List ℕ)) (k n : ℕ) (ws : List ℕ) → n ≢ k → slice_index_or (slice_set st k ws) n [] ≡ slice_index_or st n []
stack-elsewhere st k n ws other = get_or-set_other st k n ws [] other

stack-there : (st : List (List ℕ)) (k : ℕ) (ws : List ℕ) → k < length st → slice_index_or (slice_set st k ws) k [] ≡ ws
stack-there st k ws within = get_or-set_same st k ws [] within

-- other words, as many as before, in the stack of a slot
pub sound-stack : (a s f w : ℕ) (ts : List Thread) (st : List (List ℕ)) (k : ℕ) (ws : List ℕ) → AreSoundThreads a s f w ts st → k < a → length ws ≡ length (slice_index_or st k []) → AreSoundThreads a s f w ts (slice_set st k ws)
sound-stack a s f w ts st k ws h below same = record {
  few = h.few;
  small = h.small;
  large = h.large;
  whole = length-set_of st k ws ∙ h.whole;
  room = h.room;
  slots = h.slots;
  apart = h.apart;
  words = λ j v g. elim (cases_eq v.slot k) [
    | inl here ↦
        ap (λ n. length (slice_index_or (slice_set st k ws) n [])) here ∙ ap (λ l. length l) (stack-there st k ws (omega (arith, h.whole)))
        ∙ same ∙ ap (λ n. length (slice_index_or st n [])) (sym here) ∙ h.words j v g
    | inr other ↦ ap (λ l. length l) (stack-elsewhere st k v.slot ws other) ∙ h.words j v g
  ];
  blank = λ slot free. elim (cases_eq slot k) [
    | inl here ↦
        let none : length ws ≡ 0 = same ∙ ap (λ n. length (slice_index_or st n [])) (sym here) ∙ ap (λ l. length l) (h.blank slot free) in
        ap (λ n. slice_index_or (slice_set st k ws) n []) here ∙ stack-there st k ws (omega (arith, h.whole)) ∙ no-words ws none
    | inr other ↦ stack-elsewhere st k slot ws other ∙ h.blank slot free
  ];
  numbers = h.numbers;
  rising = h.rising;
  queued = h.queued;
  queues = h.queues;
  registers = h.registers;
}

-- a thread ends, and its stack has no words from then on
pub sound-end : (a s f w : ℕ) (ts : List Thread) (st : List (List ℕ)) (k : ℕ) (t : Thread) → AreSoundThreads a s f w ts st → slice_get ts k ≡ Some t → AreSoundThreads a s f w (remove ts k) (slice_set st t.slot [])
sound-end a s f w ts st k t h e = record {
  few = h.few;
  small = h.small;
  large = h.large;
  whole = length-set_of st t.slot [] ∙ h.whole;
  room = let r = h.room in omega (arith, length-remove_of ts k);
  slots = λ j v g. let m = remove-member ts k j v g in h.slots m.0 v m.1;
  apart = ordered-remove (λ v w. v.slot ≢ w.slot) ts k h.apart;
  words = λ j v g.
      let m = remove-member ts k j v g in
      let other : v.slot ≢ t.slot = elim m.2 [
        | inl low ↦ let p : m.0 ≡ j = low.0 in let q : j < k = low.1 in h.apart m.0 k v t (omega arith) m.1 e
        | inr high ↦ let p : m.0 ≡ j + 1 = high.0 in let q : k ≤ j = high.1 in λ same. h.apart k m.0 t v (omega arith) e m.1 (sym same)
      ] in
      ap (λ l. length l) (stack-elsewhere st t.slot v.slot [] other) ∙ h.words m.0 v m.1;
  blank = λ slot free. elim (cases_eq slot t.slot) [
    | inl here ↦ ap (λ n. slice_index_or (slice_set st t.slot []) n []) here ∙ stack-there st t.slot [] (let low = h.slots k t e in omega (arith, h.whole))
    | inr other ↦
        stack-elsewhere st t.slot slot [] other ∙ h.blank slot (λ j v g. elim (cases_eq j k) [
          | inl here ↦
              let one : v ≡ t = some_same (sym g ∙ ap (slice_get ts) here ∙ e) in
              λ q. other (sym q ∙ ap (λ u. u.slot) one)
          | inr there ↦ let r = remove-keeps ts k j v g there in free r.0 v r.1
        ])
  ];
  numbers = λ j v g. let m = remove-member ts k j v g in h.numbers m.0 v m.1;
  rising = ordered-remove (λ v w. v.number < w.number) ts k h.rising;
  queued = λ j v g. let m = remove-member ts k j v g in h.queued m.0 v m.1;
  queues = ordered-remove WaitApart ts k h.queues;
  registers = λ j v g. let m = remove-member ts k j v g in h.registers m.0 v m.1;
}

-- a thread with a number above the others comes to them in a free slot, with a whole stack
pub sound-push : (a s f f' w : ℕ) (ts : List Thread) (st : List (List ℕ)) (t : Thread) (ws : List ℕ) → AreSoundThreads a s f w ts st → length ts < a → t.slot < a → list_any (uses t.slot) ts ≡ false → HoldsOfEach (λ v. v.number < t.number) ts → f ≤ f' → t.number ≤ f' → t.status ≡ Ready → length ws ≡ s → AreSoundThreads a s f' w (ts ++ t ∷ []) (slice_set st t.slot ws)
sound-push a s f f' w ts st t ws h room slot free above more given ready long =
    let others = unused t.slot ts free in
    record {
      few = h.few;
      small = h.small;
      large = h.large;
      whole = length-set_of st t.slot ws ∙ h.whole;
      room = omega (arith, length-append ts (t ∷ []));
      slots = λ j v g. elim (push-member ts t j v g) [
        | inl old ↦ h.slots j v old
        | inr new ↦ let same : v.slot ≡ t.slot = ap (λ w. w.slot) new.1 in omega arith
      ];
      apart = ordered-push (λ v w. v.slot ≢ w.slot) ts t others h.apart;
      words = λ j v g. elim (push-member ts t j v g) [
        | inl old ↦ ap (λ l. length l) (stack-elsewhere st t.slot v.slot ws (others j v old)) ∙ h.words j v old
        | inr new ↦
            ap (λ u. length (slice_index_or (slice_set st t.slot ws) u.slot [])) new.1
            ∙ ap (λ l. length l) (stack-there st t.slot ws (omega (arith, h.whole))) ∙ long
      ];
      blank = λ n none.
          let last = last-member ts t in
          let other : n ≢ t.slot = λ q. none last.0 t last.1 (sym q) in
          stack-elsewhere st t.slot n ws other ∙ h.blank n (λ j v g. none j v (kept-member ts t j v g));
      numbers = λ j v g. elim (push-member ts t j v g) [
        | inl old ↦ let n = h.numbers j v old in omega arith
        | inr new ↦ let same : v.number ≡ t.number = ap (λ w. w.number) new.1 in omega arith
      ];
      rising = ordered-push (λ v w. v.number < w.number) ts t above h.rising;
      queued = λ j v g sleeps. elim (push-member ts t j v g) [
        | inl old ↦ h.queued j v old sleeps
        | inr new ↦ absurd (false≢true (sym (ap (λ u. is_asleep_at u.status) new.1 ∙ ap is_asleep_at ready) ∙ sleeps))
      ];
      queues = ordered-push WaitApart ts t (λ j v g p q. absurd (false≢true (sym (ap is_asleep_at ready) ∙ q))) h.queues;
      registers = λ j v g. elim (push-member ts t j v g) [
        | inl old ↦ h.registers j v old
        | inr new ↦ subst (λ x. NamesRegisters x) (sym (ap (λ u. u.status) new.1 ∙ ready)) tt
      ];
    }

-- nobody, and no stack with words
pub sound-nobody : (a s : ℕ) (st : List (List ℕ)) → a ≤ 64 → 8 ≤ s → s ≤ 2 ^ 20 → length st ≡ a → ((slot : ℕ) → slice_index_or st slot [] ≡ []) → AreSoundThreads a s 0 0 [] st
sound-nobody a s st few large small whole blank = record {
  few = few;
  small = small;
  large = large;
  whole = whole;
  room = omega arith;
  slots = λ j v g. cc;
  apart = λ i j v w l g m. cc;
  words = λ j v g. cc;
  blank = λ slot free. blank slot;
  numbers = λ j v g. cc;
  rising = λ i j v w l g m. cc;
  queued = λ j v g. cc;
  queues = λ i j v w l g m. cc;
  registers = λ j v g. cc;
}
