-- Relations of actions and answers look at values alone.
use Rattle.std.proofs.Common.{ℕ, List}
use Rattle.m3_runs.specs.Languages.{New, Service, Action, Answer}
use Rattle.m3_runs.specs.Follows as rel
use Rattle.m3_runs.specs.Follows.{Each, Both, Standing, SameNew, SameService, SameAction, SameAnswer, SameShown}
use Rattle.m3_runs.proofs.Rows.{each_mapped, both_mapped}

module _ {W SA VA MA SB VB MB : Type 0} (R Q : Standing W SA VA MA SB VB MB) (w : W) (same : (v : VA) (v' : VB) → R.value w v v' → Q.value w v v') where
  values_as : (vs : List VA) (vs' : List VB) → Each (R.value w) vs vs' → Each (Q.value w) vs vs'
  values_as vs vs' h = each_mapped (R.value w) (Q.value w) vs vs' same h

  pub new_as : (new : New VA) (new' : New VB) → SameNew R w new new' → SameNew Q w new new'
  new_as new new' (rel.cell kind sizes others h) = rel.cell kind sizes others (values_as sizes others h)
  new_as new new' (rel.concatenated t u t' u' h k) = rel.concatenated t u t' u' (same t t' h) (same u u' k)
  new_as new new' (rel.byte_text v v' h) = rel.byte_text v v' (same v v' h)
  new_as new new' (rel.subtext t i n t' i' n' h k l) = rel.subtext t i n t' i' n' (same t t' h) (same i i' k) (same n n' l)
  new_as new new' (rel.thread_cell number) = rel.thread_cell number

  service_as : (service : Service VA) (other : Service VB) → SameService R w service other → SameService Q w service other
  service_as service other (rel.put form v v' h) = rel.put form v v' (same v v' h)
  service_as service other rel.get_byte = rel.get_byte
  service_as service other rel.end_of_input = rel.end_of_input
  service_as service other (rel.join v v' alertable h) = rel.join v v' alertable (same v v' h)
  service_as service other (rel.acquire v v' h) = rel.acquire v v' (same v v' h)
  service_as service other (rel.release v v' h) = rel.release v v' (same v v' h)
  service_as service other (rel.wait v u v' u' alertable h k) = rel.wait v u v' u' alertable (same v v' h) (same u u' k)
  service_as service other (rel.signal v v' h) = rel.signal v v' (same v v' h)
  service_as service other (rel.broadcast v v' h) = rel.broadcast v v' (same v v' h)
  service_as service other rel.my_self = rel.my_self
  service_as service other (rel.alert v v' h) = rel.alert v v' (same v v' h)
  service_as service other rel.test_alert = rel.test_alert

  pub action_as : (a : Action VA) (a' : Action VB) → SameAction R w a a' → SameAction Q w a a'
  action_as a a' (rel.calls p v v' vs vs' h hs) = rel.calls p v v' vs vs' (same v v' h) (values_as vs vs' hs)
  action_as a a' (rel.makes new new' h) = rel.makes new new' (new_as new new' h)
  action_as a a' (rel.forks v v' h) = rel.forks v v' (same v v' h)
  action_as a a' (rel.serves service other h) = rel.serves service other (service_as service other h)
  action_as a a' rel.passes = rel.passes

  pub answer_as : (a : Answer VA) (a' : Answer VB) → SameAnswer R w a a' → SameAnswer Q w a a'
  answer_as a a' (rel.gives v v' h) = rel.gives v v' (both_mapped (R.value w) (Q.value w) v v' same h)
  answer_as a a' (rel.raises exception v u v' u' h k) = rel.raises exception v u v' u' (same v v' h) (same u u' k)
  answer_as a a' (rel.fails kind) = rel.fails kind

  pub shown_as : (vs : List (ℕ × VA)) (vs' : List (ℕ × VB)) → Each (SameShown R w) vs vs' → Each (SameShown Q w) vs vs'
  shown_as vs vs' h = each_mapped (SameShown R w) (SameShown Q w) vs vs' (λ v v' k. record { place = k.place; value = same v.1 v'.1 k.value }) h
