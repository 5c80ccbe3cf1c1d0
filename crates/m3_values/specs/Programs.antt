-- A CHECKED PROGRAM, as far as its meaning needs it: what Core has, without how it is kept.
use Rattle.std.specs.Prelude.{ℕ, List, Option, slice_get}
use Rattle.m3_types.specs.declared.nodes.Reveal.{Reveal}
use Rattle.m3_types.specs.declared.nodes.TypeNode.{TypeNode}
use Rattle.m3_core.specs.declared.program.Core.{Core}
use Rattle.m3_core.specs.declared.program.ExcDef.{ExcDef}
use Rattle.m3_core.specs.declared.program.ProcDef.{ProcDef}
use Rattle.m3_core.specs.declared.program.VarDef.{VarDef}
use Rattle.m3_core.specs.declared.texts.Text.{Text}
use Rattle.m3_core.specs.declared.values.Value.{Value}

pub record Program : Type 0 where
  -- the definitions of types, and what stands behind opaque ones
  pub nodes : List TypeNode
  pub reveals : List Reveal
  -- the procedures and module bodies, the variables of modules and interfaces, the exceptions
  pub procedures : List ProcDef
  pub globals : List VarDef
  pub exceptions : List ExcDef
  -- the texts and the other constants that stand in the program
  pub texts : List Text
  pub constants : List Value
  -- the module bodies in the order in which they run, by their numbers
  pub order : List ℕ
  -- the number of the exception Thread.Alerted
  pub alerted : ℕ

abbrev pub program_of : Core → Program
program_of core = record {
  nodes = core.types.graph.nodes.items;
  reveals = core.types.graph.reveals.items;
  procedures = core.procs.now;
  globals = core.globals.now;
  exceptions = core.exceptions.now;
  texts = core.texts.now;
  constants = core.values.now;
  order = core.order.now;
  alerted = core.alerted;
}

abbrev pub procedure_at : Program → ℕ → Option ProcDef
procedure_at p number = slice_get p.procedures number
