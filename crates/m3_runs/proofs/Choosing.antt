-- Threads that stand for one another may go alike, and the same one is chosen.
use Rattle.std.proofs.Common.{◌≡◌, ℕ, zero, suc, Bool, true, false, List, Option, Some, None, refl, sym, ap, ◌∙◌}
use Rattle.std.specs.Prelude.{◌==◌, ◌&&◌, ◌||◌}
use Rattle.m3_runs.specs.Languages.{Status, Thread, Life, Parts, Language}
use Rattle.m3_runs.specs.States.{thread_at}
use Rattle.m3_runs.specs.Choice.{is_free, has_ended, is_there, if_so, may_go_at, may_go_if, may_go, lowest_from, lowest, named_or, choice, is_known_at, is_known_if, all_known}
use Rattle.m3_runs.specs.Follows as rel
use Rattle.m3_runs.specs.Follows.{Each, none, more, Both, neither, both, AsDefined, undefined, defined, IsOne, Standing, SameStatus, SameThread, SameLife, SameParts, Room, Invariant, Follows}

pub by_test : (b : Bool) (P : Type 0) → (b ≡ true → P) → (b ≡ false → P) → P
by_test true P f g = f refl
by_test false P f g = g refl

and_left : (a b : Bool) → (a && b) ≡ true → a ≡ true
and_left true b e = refl
and_left false b e = e

and_right : (a b : Bool) → (a && b) ≡ true → b ≡ true
and_right true b e = e
and_right false b e = absurd (let bad : false ≡ true = e in cc)

and_both : (a b : Bool) → a ≡ true → b ≡ true → (a && b) ≡ true
and_both true true e h = refl
and_both true false e h = h
and_both false b e h = e

known_too : {A B : Type 0} (P : A → B → Type 0) (o : Option A) (o' : Option B) → AsDefined P o o' → is_there o ≡ true → is_there o' ≡ true
known_too P o o' (undefined _) e = absurd (let bad : false ≡ true = e in cc)
known_too P o o' (defined x y h) e = refl

free_same : (o o' : Option ℕ) → AsDefined IsOne o o' → is_there o ≡ true → is_free o ≡ is_free o'
free_same o o' (undefined _) e = absurd (let bad : false ≡ true = e in cc)
free_same o o' (defined x y h) e = ap (λ i. i == 0) h

if_same : (b b' : Bool) (n : ℕ) (o o' : Option ℕ) → b ≡ b' → o ≡ o' → if_so b n o ≡ if_so b' n o'
if_same b b' n o o' e h = ap (λ i. if_so i n o) e ∙ ap (if_so b' n) h

module _ {W SA VA MA SB VB MB : Type 0} (R : Standing W SA VA MA SB VB MB) (K : Language SA VA MA) (L : Language SB VB MB) (I : Invariant SA VA MA) (J : Invariant SB VB MB) (room : Room R) (F : Follows R K L I J room) (w : W) (m : MA) (m' : MB) (mem : R.memory w m m') where
  lives_same : (x : Life VA) (y : Life VB) → SameLife R w x y → has_ended (Some x) ≡ has_ended (Some y)
  lives_same x y rel.alive = refl
  lives_same x y (rel.ended v v' h) = refl
  lives_same x y rel.joined = refl

  ended_same : (o : Option (Life VA)) (o' : Option (Life VB)) → AsDefined (SameLife R w) o o' → is_there o ≡ true → has_ended o ≡ has_ended o'
  ended_same o o' (undefined _) e = absurd (let bad : false ≡ true = e in cc)
  ended_same o o' (defined x y h) e = lives_same x y h

  status_known : (st : Status VA) (st' : Status VB) → SameStatus R w st st' → is_known_at K st m ≡ true → is_known_at L st' m' ≡ true
  status_known st st' rel.ready e = refl
  status_known st st' (rel.wants v v' h) e = known_too IsOne (K.holder m v) (L.holder m' v') (F.holder w m m' v v' mem h) e
  status_known st st' (rel.waits v u v' u' place alertable h k) e = refl
  status_known st st' (rel.joins v v' alertable h) e = known_too (SameLife R w) (K.life m v) (L.life m' v') (F.life w m m' v v' mem h) e

  status_goes : (st : Status VA) (st' : Status VB) (alerted : Bool) → SameStatus R w st st' → is_known_at K st m ≡ true → may_go_at K st alerted m ≡ may_go_at L st' alerted m'
  status_goes st st' alerted rel.ready e = refl
  status_goes st st' alerted (rel.wants v v' h) e = free_same (K.holder m v) (L.holder m' v') (F.holder w m m' v v' mem h) e
  status_goes st st' alerted (rel.waits v u v' u' place alertable h k) e = refl
  status_goes st st' alerted (rel.joins v v' alertable h) e =
      ap (λ b. (alertable && alerted) || b) (ended_same (K.life m v) (L.life m' v') (F.life w m m' v v' mem h) e)

  known_if : (t : Option (Thread SA VA)) (t' : Option (Thread SB VB)) → Both (SameThread R w) t t' → is_known_if K m t ≡ true → is_known_if L m' t' ≡ true
  known_if t t' neither e = refl
  known_if t t' (both x y h) e = status_known x.status y.status h.status e

  goes_if : (t : Option (Thread SA VA)) (t' : Option (Thread SB VB)) → Both (SameThread R w) t t' → is_known_if K m t ≡ true → may_go_if K m t ≡ may_go_if L m' t'
  goes_if t t' neither e = refl
  goes_if t t' (both x y h) e = status_goes x.status y.status x.alerted h.status e ∙ ap (λ a. may_go_at L y.status a m') h.alerted

  -- rows of threads of which all is known
  pub all_known_so : (ts : List (Option (Thread SA VA))) (ts' : List (Option (Thread SB VB))) → Each (Both (SameThread R w)) ts ts' → all_known K m ts ≡ true → all_known L m' ts' ≡ true
  all_known_so ts ts' none e = refl
  all_known_so ts ts' (more t t' us us' h hs) e =
      and_both (is_known_if L m' t') (all_known L m' us') (known_if t t' h (and_left (is_known_if K m t) (all_known K m us) e))
      (all_known_so us us' hs (and_right (is_known_if K m t) (all_known K m us) e))

  lowest_from_same : (n : ℕ) (ts : List (Option (Thread SA VA))) (ts' : List (Option (Thread SB VB))) → Each (Both (SameThread R w)) ts ts' → all_known K m ts ≡ true → lowest_from K m n ts ≡ lowest_from L m' n ts'
  lowest_from_same n ts ts' none e = refl
  lowest_from_same n ts ts' (more t t' us us' h hs) e =
      if_same (may_go_if K m t) (may_go_if L m' t') n (lowest_from K m (suc n) us) (lowest_from L m' (suc n) us')
      (goes_if t t' h (and_left (is_known_if K m t) (all_known K m us) e))
      (lowest_from_same (suc n) us us' hs (and_right (is_known_if K m t) (all_known K m us) e))

  goes_at : (n : ℕ) (ts : List (Option (Thread SA VA))) (ts' : List (Option (Thread SB VB))) → Each (Both (SameThread R w)) ts ts' → all_known K m ts ≡ true → may_go_if K m (thread_at ts n) ≡ may_go_if L m' (thread_at ts' n)
  goes_at n ts ts' none e = refl
  goes_at zero ts ts' (more t t' us us' h hs) e = goes_if t t' h (and_left (is_known_if K m t) (all_known K m us) e)
  goes_at (suc n) ts ts' (more t t' us us' h hs) e = goes_at n us us' hs (and_right (is_known_if K m t) (all_known K m us) e)

module _ {W SA VA MA SB VB MB : Type 0} (R : Standing W SA VA MA SB VB MB) (K : Language SA VA MA) (L : Language SB VB MB) (I : Invariant SA VA MA) (J : Invariant SB VB MB) (room : Room R) (F : Follows R K L I J room) (w : W) (parts : Parts SA VA MA) (parts' : Parts SB VB MB) (same : SameParts R w parts parts') where
  pub lowest_same : all_known K parts.memory parts.threads ≡ true → lowest K parts ≡ lowest L parts'
  lowest_same e = lowest_from_same R K L I J room F w parts.memory parts'.memory same.memory 0 parts.threads parts'.threads same.threads e

  may_go_same : (n : ℕ) → all_known K parts.memory parts.threads ≡ true → may_go K parts n ≡ may_go L parts' n
  may_go_same n e = goes_at R K L I J room F w parts.memory parts'.memory same.memory n parts.threads parts'.threads same.threads e

  named_same : (entry : Option ℕ) (o o' : Option ℕ) → all_known K parts.memory parts.threads ≡ true → o ≡ o' → named_or K parts entry o ≡ named_or L parts' entry o'
  named_same None o o' e h = h
  named_same (Some n) o o' e h = if_same (may_go K parts n) (may_go L parts' n) n o o' (may_go_same n e) h

  pub choice_same : (entry : Option ℕ) (running : ℕ) → all_known K parts.memory parts.threads ≡ true → choice K parts entry running ≡ choice L parts' entry running
  choice_same entry running e =
      named_same entry (if_so (may_go K parts running) running (lowest K parts)) (if_so (may_go L parts' running) running (lowest L parts')) e
      (if_same (may_go K parts running) (may_go L parts' running) running (lowest K parts) (lowest L parts') (may_go_same running e) (lowest_same e))

  -- where it isn't known of the one, nor is it of the other
  pub unknown_so : all_known L parts'.memory parts'.threads ≡ false → all_known K parts.memory parts.threads ≡ false
  unknown_so e = by_test (all_known K parts.memory parts.threads) (all_known K parts.memory parts.threads ≡ false)
      (λ k. absurd (let bad : true ≡ false = sym (all_known_so R K L I J room F w parts.memory parts'.memory same.memory parts.threads parts'.threads same.threads k) ∙ e in cc))
      (λ k. k)
