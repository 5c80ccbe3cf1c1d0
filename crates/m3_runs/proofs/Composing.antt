-- What stands for something that stands for a third stands for that one.
use Rattle.std.proofs.Common.{List, Option, ◌∙◌}
use Rattle.m3_runs.specs.Languages.{New, Service, Action, Status, Thread}
use Rattle.m3_runs.specs.Follows as rel
use Rattle.m3_runs.specs.Follows.{Each, none, more, Both, neither, both, Standing, SameNew, SameService, SameAction, SameStatus, SameThread}

pub each_through : {A B C : Type 0} (P : A → B → Type 0) (Q : B → C → Type 0) (T : A → C → Type 0) (xs : List A) (ys : List B) (zs : List C) → ((x : A) (y : B) (z : C) → P x y → Q y z → T x z) → Each P xs ys → Each Q ys zs → Each T xs zs
each_through P Q T xs ys zs f none none = none
each_through P Q T xs ys zs f (more x y xs' ys' h hs) (more _ z _ zs' k ks) = more x z xs' zs' (f x y z h k) (each_through P Q T xs' ys' zs' f hs ks)

both_through : {A B C : Type 0} (P : A → B → Type 0) (Q : B → C → Type 0) (T : A → C → Type 0) (x : Option A) (y : Option B) (z : Option C) → ((x : A) (y : B) (z : C) → P x y → Q y z → T x z) → Both P x y → Both Q y z → Both T x z
both_through P Q T x y z f neither neither = neither
both_through P Q T x y z f (both a b h) (both _ c k) = both a c (f a b c h k)

module _ {W1 W2 W3 SA VA MA SB VB MB SC VC MC : Type 0} (P : Standing W1 SA VA MA SB VB MB) (Q : Standing W2 SB VB MB SC VC MC) (T : Standing W3 SA VA MA SC VC MC) (w1 : W1) (w2 : W2) (w3 : W3)
    (value : (u : VA) (v : VB) (x : VC) → P.value w1 u v → Q.value w2 v x → T.value w3 u x) (stack : (us : List SA) (vs : List SB) (xs : List SC) → P.stack w1 us vs → Q.stack w2 vs xs → T.stack w3 us xs) where
  values_through : (us : List VA) (vs : List VB) (xs : List VC) → Each (P.value w1) us vs → Each (Q.value w2) vs xs → Each (T.value w3) us xs
  values_through us vs xs h k = each_through (P.value w1) (Q.value w2) (T.value w3) us vs xs value h k

  new_through : (a : New VA) (b : New VB) (c : New VC) → SameNew P w1 a b → SameNew Q w2 b c → SameNew T w3 a c
  new_through a b c (rel.cell kind us vs h) (rel.cell _ _ xs k) = rel.cell kind us xs (values_through us vs xs h k)
  new_through a b c (rel.concatenated t u t' u' h1 h2) (rel.concatenated _ _ t2 u2 k1 k2) = rel.concatenated t u t2 u2 (value t t' t2 h1 k1) (value u u' u2 h2 k2)
  new_through a b c (rel.byte_text v v' h) (rel.byte_text _ v2 k) = rel.byte_text v v2 (value v v' v2 h k)
  new_through a b c (rel.subtext t i n t' i' n' h1 h2 h3) (rel.subtext _ _ _ t2 i2 n2 k1 k2 k3) = rel.subtext t i n t2 i2 n2 (value t t' t2 h1 k1) (value i i' i2 h2 k2) (value n n' n2 h3 k3)
  new_through a b c (rel.thread_cell number) (rel.thread_cell _) = rel.thread_cell number

  service_through : (a : Service VA) (b : Service VB) (c : Service VC) → SameService P w1 a b → SameService Q w2 b c → SameService T w3 a c
  service_through a b c (rel.put form v v' h) (rel.put _ _ v2 k) = rel.put form v v2 (value v v' v2 h k)
  service_through a b c rel.get_byte rel.get_byte = rel.get_byte
  service_through a b c rel.end_of_input rel.end_of_input = rel.end_of_input
  service_through a b c (rel.join v v' alertable h) (rel.join _ v2 _ k) = rel.join v v2 alertable (value v v' v2 h k)
  service_through a b c (rel.acquire v v' h) (rel.acquire _ v2 k) = rel.acquire v v2 (value v v' v2 h k)
  service_through a b c (rel.release v v' h) (rel.release _ v2 k) = rel.release v v2 (value v v' v2 h k)
  service_through a b c (rel.wait v u v' u' alertable h1 h2) (rel.wait _ _ v2 u2 _ k1 k2) = rel.wait v u v2 u2 alertable (value v v' v2 h1 k1) (value u u' u2 h2 k2)
  service_through a b c (rel.signal v v' h) (rel.signal _ v2 k) = rel.signal v v2 (value v v' v2 h k)
  service_through a b c (rel.broadcast v v' h) (rel.broadcast _ v2 k) = rel.broadcast v v2 (value v v' v2 h k)
  service_through a b c rel.my_self rel.my_self = rel.my_self
  service_through a b c (rel.alert v v' h) (rel.alert _ v2 k) = rel.alert v v2 (value v v' v2 h k)
  service_through a b c rel.test_alert rel.test_alert = rel.test_alert

  action_through : (a : Action VA) (b : Action VB) (c : Action VC) → SameAction P w1 a b → SameAction Q w2 b c → SameAction T w3 a c
  action_through a b c (rel.calls p v v' us vs h hs) (rel.calls _ _ v2 _ xs k ks) = rel.calls p v v2 us xs (value v v' v2 h k) (values_through us vs xs hs ks)
  action_through a b c (rel.makes new new' h) (rel.makes _ new2 k) = rel.makes new new2 (new_through new new' new2 h k)
  action_through a b c (rel.forks v v' h) (rel.forks _ v2 k) = rel.forks v v2 (value v v' v2 h k)
  action_through a b c (rel.serves s s' h) (rel.serves _ s2 k) = rel.serves s s2 (service_through s s' s2 h k)
  action_through a b c rel.passes rel.passes = rel.passes

  status_through : (a : Status VA) (b : Status VB) (c : Status VC) → SameStatus P w1 a b → SameStatus Q w2 b c → SameStatus T w3 a c
  status_through a b c rel.ready rel.ready = rel.ready
  status_through a b c (rel.wants v v' h) (rel.wants _ v2 k) = rel.wants v v2 (value v v' v2 h k)
  status_through a b c (rel.waits v u v' u' place alertable h1 h2) (rel.waits _ _ v2 u2 _ _ k1 k2) = rel.waits v u v2 u2 place alertable (value v v' v2 h1 k1) (value u u' u2 h2 k2)
  status_through a b c (rel.joins v v' alertable h) (rel.joins _ v2 _ k) = rel.joins v v2 alertable (value v v' v2 h k)

  thread_through : (a : Thread SA VA) (b : Thread SB VB) (c : Thread SC VC) → SameThread P w1 a b → SameThread Q w2 b c → SameThread T w3 a c
  thread_through a b c h k = record {
    action = action_through a.action b.action c.action h.action k.action;
    status = status_through a.status b.status c.status h.status k.status;
    alerted = h.alerted ∙ k.alerted;
    cell = value a.cell b.cell c.cell h.cell k.cell;
    stack = stack a.stack b.stack c.stack h.stack k.stack;
  }

  pub threads_through : (xs : List (Option (Thread SA VA))) (ys : List (Option (Thread SB VB))) (zs : List (Option (Thread SC VC))) → Each (Both (SameThread P w1)) xs ys → Each (Both (SameThread Q w2)) ys zs → Each (Both (SameThread T w3)) xs zs
  threads_through xs ys zs h k = each_through (Both (SameThread P w1)) (Both (SameThread Q w2)) (Both (SameThread T w3)) xs ys zs
      (λ x y z. both_through (SameThread P w1) (SameThread Q w2) (SameThread T w3) x y z thread_through) h k
