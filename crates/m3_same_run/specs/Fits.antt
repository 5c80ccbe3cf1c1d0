-- When two states stand where a check says.
use Rattle.std.specs.Prelude.{◌≡◌, Bool, List, Some, None}
use Rattle.m3_mid_meaning.specs.Words.{Word}
use Rattle.m3_mid_meaning.specs.Memory.{Around}
use Rattle.m3_mid_meaning.specs.States.{State}
use Rattle.m3_same_forms.specs.declared.forms.Symbol.{Symbol}
use Rattle.m3_same_forms.specs.Meaning.{AllMean, IsWords, AllTrue}
use Rattle.m3_same_forms.specs.Sides.{form_at}
use Rattle.m3_same_run.specs.Check.{Standing}

-- The two states hold what the check says: temporaries what their forms stand for, all else the same,
-- and what is known is true.
pub record Fits (around : Around) (common : List Bool) (v : Symbol → Word) (st : Standing) (s s' : State) : Type 0 where
  pub words : IsWords around v
  pub left : AllMean v st.fresh (form_at None st.left) s.temps
  pub right : AllMean v st.fresh (form_at (Some common) st.right) s'.temps
  pub rest : s' ≡ record s { temps = s'.temps }
  pub knowns : AllTrue around v st.fresh s.own s.environment s.memory st.knowns
