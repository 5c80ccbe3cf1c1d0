-- Threads that are the same but for their words, and the words of one thread changed.
use Rattle.std.proofs.Common.{◌≡◌, ◌≢◌, ℕ, zero, suc, ◌<◌, List, [], ◌∷◌, map, length, get_or, set, Some, refl, sym, ap, ◌∙◌, inl, inr, subst, arith, get_or-set_same, get_or-set_other}
use Rattle.std.specs.Prelude.{slice_set}
use Rattle.std.specs.List.{slice_get}
use Rattle.std.proofs.lemmas.Bool.{cases_lt}
use Rattle.std.proofs.lemmas.Option.{slice_get_within, slice_get-get_or}
use Rattle.m3_threads.specs.declared.status.Thread.{Thread}
use Rattle.m3_threads.specs.All.{Everyone, thread_named, updated, words_of}
use Rattle.m3_threads.specs.Lending.{with_regs_of, rewritten-whole, stacks_after}
use Rattle.m3_threads.proofs.Places.{place_rising, some_same}
use Rattle.m3_threads.proofs.Members.{set-there, set-elsewhere, length-set_of}
use Rattle.m3_roots.specs.Collected.{with_registers}
use Rattle.m3_roots.specs.ThreadsGathered.{with_thread_words, AreSoundIn, Alike}

own_registers : (t u : Thread) → Some t ≡ Some u → u ≡ with_registers u.regs.r t
own_registers t u e = let same : t ≡ u = some_same e in ap (λ (x : Thread). with_registers u.regs.r x) (sym same)

pub alike_self : (all : Everyone) → Alike all all
alike_self all = record { count = refl; same = λ k t u a b. own_registers t u (sym a ∙ b); depths = refl; rest = refl }

-- a thread that is in a list of as many is in the other
pub there_too : (ts us : List Thread) (k : ℕ) (t : Thread) → length us ≡ length ts → slice_get ts k ≡ Some t → (u : Thread) × (slice_get us k ≡ Some u)
there_too ts us k t e h =
    let lt = slice_get_within ts k t h in
    (get_or us k t, slice_get-get_or us k t (omega arith))

again : (t u v : Thread) → u ≡ with_registers u.regs.r t → v ≡ with_registers v.regs.r u → v ≡ with_registers v.regs.r t
again t u v e f = f ∙ ap (λ (x : Thread). with_registers v.regs.r x) e

pub alike_twice : (a b c : Everyone) → Alike a b → Alike b c → Alike a c
alike_twice a b c h k = record {
  count = k.count ∙ h.count;
  same = λ n t v at bt. (let u = there_too a.threads b.threads n t h.count at in again t u.0 v (h.same n t u.0 at u.1) (k.same n u.0 v u.1 bt));
  depths = k.depths ∙ h.depths;
  rest = k.rest ∙ ap (λ (x : Everyone). record x { threads = c.threads; stacks = c.stacks }) h.rest;
}

-- ---- the words of one thread changed

pub record ChangedAt (all new : Everyone) (k : ℕ) (t : Thread) (r stack : List ℕ) : Type 0 where
  pub here : slice_get new.threads k ≡ Some (with_registers r t)
  pub words : words_of new (with_registers r t) ≡ stack
  pub others : (j : ℕ) → j ≢ k → slice_get new.threads j ≡ slice_get all.threads j
  pub other_words : (j : ℕ) (u : Thread) → j ≢ k → slice_get all.threads j ≡ Some u → words_of new u ≡ words_of all u
  pub alike : Alike all new

length-set_as : (xs : List (List ℕ)) (k : ℕ) (x : List ℕ) → length x ≡ length (get_or xs k []) → map length (set xs k x) ≡ map length xs
length-set_as [] k x e = refl
length-set_as (y ∷ ys) zero x e = ap (λ (n : ℕ). n ∷ map length ys) e
length-set_as (y ∷ ys) (suc k) x e = ap (λ (ns : List ℕ). length y ∷ ns) (length-set_as ys k x e)

changed_same : (ts : List Thread) (k : ℕ) (t : Thread) (r : List ℕ) → slice_get ts k ≡ Some t → (j : ℕ) (v u : Thread) → slice_get ts j ≡ Some v → slice_get (slice_set ts k (with_registers r t)) j ≡ Some u → u ≡ with_registers u.regs.r v
changed_same ts k t r at j v u was now = elim (cases_lt j k) [
  | inl less ↦ (let ne : j ≢ k = λ e. omega arith in own_registers v u (sym was ∙ sym (set-elsewhere ts k j (with_registers r t) ne) ∙ now))
  | inr more ↦ (elim (cases_lt k j) [
    | inl less ↦ (let ne : j ≢ k = λ e. omega arith in own_registers v u (sym was ∙ sym (set-elsewhere ts k j (with_registers r t) ne) ∙ now))
    | inr same ↦ (
        let e : j ≡ k = omega arith in
        let a : Some v ≡ Some t = sym was ∙ ap (slice_get ts) e ∙ at in
        let b : Some u ≡ Some (with_registers r t) = sym now ∙ ap (slice_get (slice_set ts k (with_registers r t))) e ∙ set-there ts k (with_registers r t) t at in
        let v_is : v ≡ t = some_same a in
        let u_is : u ≡ with_registers r t = some_same b in
        u_is ∙ ap (λ (x : Thread). with_registers r x) (sym v_is) ∙ ap (λ (x : List ℕ). with_registers x v) (ap (λ (x : Thread). x.regs.r) (sym u_is)))
  ])
]

-- the changes by the number of a thread are those at its place
pub changed_by_number : (all : Everyone) (k : ℕ) (t : Thread) (r stack : List ℕ) → AreSoundIn all → slice_get all.threads k ≡ Some t → length stack ≡ length (words_of all t)
    → with_thread_words all t r stack ≡ record all { threads = slice_set all.threads k (with_registers r t); stacks = slice_set all.stacks t.slot stack }
changed_by_number all k t r stack sound at depth =
    let place = place_rising all.threads k t sound.rising at in
    let named : thread_named all t.number ≡ Some t = place.found ∙ at in
    let threads : updated (with_regs_of (record t.regs { r = r })) t.number all.threads ≡ slice_set all.threads k (with_registers r t) = place.change (with_regs_of (record t.regs { r = r })) t at in
    let stacks : stacks_after all stack (thread_named all t.number) ≡ slice_set all.stacks t.slot stack = ap (stacks_after all stack) named ∙ ap (slice_set all.stacks t.slot) (rewritten-whole (words_of all t) stack depth) in
    ap (λ (xs : List (List ℕ)). record all { threads = updated (with_regs_of (record t.regs { r = r })) t.number all.threads; stacks = xs }) stacks
    ∙ ap (λ (ts : List Thread). record all { threads = ts; stacks = slice_set all.stacks t.slot stack }) threads

slot_there : (all : Everyone) (k : ℕ) (t : Thread) → AreSoundIn all → slice_get all.threads k ≡ Some t → t.slot < length all.stacks
slot_there all k t sound at = let lt = sound.slots k t at in let whole = sound.whole in omega arith

slots_apart : (all : Everyone) (k j : ℕ) (t u : Thread) → AreSoundIn all → slice_get all.threads k ≡ Some t → slice_get all.threads j ≡ Some u → j ≢ k → u.slot ≢ t.slot
slots_apart all k j t u sound at bt ne = elim (cases_lt j k) [
  | inl less ↦ sound.apart j k u t less bt at
  | inr more ↦ (elim (cases_lt k j) [
    | inl less ↦ (λ e. sound.apart k j t u less at bt (sym e))
    | inr same ↦ (let e : j ≡ k = omega arith in absurd (ne e))
  ])
]

changed_record : (all : Everyone) (k : ℕ) (t : Thread) (r stack : List ℕ) → AreSoundIn all → slice_get all.threads k ≡ Some t → length stack ≡ length (words_of all t)
    → ChangedAt all (record all { threads = slice_set all.threads k (with_registers r t); stacks = slice_set all.stacks t.slot stack }) k t r stack
changed_record all k t r stack sound at depth = record {
  here = set-there all.threads k (with_registers r t) t at;
  words = get_or-set_same all.stacks t.slot stack [] (slot_there all k t sound at);
  others = λ j ne. set-elsewhere all.threads k j (with_registers r t) ne;
  other_words = λ j u ne bt. get_or-set_other all.stacks t.slot u.slot stack [] (slots_apart all k j t u sound at bt ne);
  alike = record {
    count = length-set_of all.threads k (with_registers r t);
    same = λ j v u was now. changed_same all.threads k t r at j v u was now;
    depths = length-set_as all.stacks t.slot stack depth;
    rest = refl;
  };
}

pub changed_at : (all new : Everyone) (k : ℕ) (t : Thread) (r stack : List ℕ) → AreSoundIn all → slice_get all.threads k ≡ Some t → length stack ≡ length (words_of all t) → new ≡ with_thread_words all t r stack → ChangedAt all new k t r stack
changed_at all new k t r stack sound at depth becomes =
    subst (λ (x : Everyone). ChangedAt all x k t r stack) (sym (becomes ∙ changed_by_number all k t r stack sound at depth)) (changed_record all k t r stack sound at depth)
