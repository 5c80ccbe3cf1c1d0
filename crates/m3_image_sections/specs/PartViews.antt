-- What the lists of the code stand for.
use Rattle.std.specs.Prelude.{ℕ, List, length}
use Rattle.m3_tables.specs.Views.{numbers_of}
use Rattle.m3_isa.specs.declared.instructions.Instr.{Instr}
use Rattle.m3_image_sections.specs.declared.procs.ProcPart.{ProcPart}
use Rattle.m3_image_sections.specs.declared.procs.Procs.{Procs}
use Rattle.m3_image_sections.specs.declared.lists.Longs.{Longs}
use Rattle.m3_image_sections.specs.declared.lists.Pairs.{Pairs}
use Rattle.m3_image_sections.specs.declared.lists.Names.{Names}
use Rattle.m3_image_sections.specs.declared.types.TypeView.{TypeView}
use Rattle.m3_image_sections.specs.declared.types.Types.{Types}
use Rattle.m3_image_sections.specs.declared.types.Globals as code_globals
use Rattle.m3_image_sections.specs.declared.code.Code.{Code}
use Rattle.m3_image_sections.specs.declared.variables.VarView.{VarView}
use Rattle.m3_image_sections.specs.declared.variables.Variables.{Variables}
use Rattle.m3_image_sections.specs.Reading.{code_in}
use Rattle.m3_image_sections.specs.Fields.{long_in, text_at, each, many_in}
use Rattle.m3_image_sections.specs.Parts.{CellType, Globals, Variable, pair_in, proc_in, type_at, variable_at}

abbrev pub longs_of : Longs → List ℕ
longs_of list = each 8 long_in list.count list.bytes.now

abbrev pub pairs_of : Pairs → List (ℕ × ℕ)
pairs_of list = each 8 pair_in list.count list.bytes.now

abbrev pub names_of : Names → List (List ℕ)
names_of list = many_in text_at list.count list.bytes.now

abbrev pub procs_of : Procs → List ProcPart
procs_of list = each 16 proc_in list.count list.bytes.now

abbrev pub type_of : TypeView → CellType
type_of t =
    record { kind = t.kind; parent = t.parent; words = t.words; dims = t.dims; methods = numbers_of t.methods; pointers = numbers_of t.pointers }

abbrev pub types_of : Types → List CellType
types_of list = many_in type_at (length list.bytes.now) list.bytes.now

abbrev pub globals_of : code_globals.Globals → Globals
globals_of g = record { words = g.words; pointers = numbers_of g.pointers }

abbrev pub code_list : Code → List Instr
code_list c = code_in c.bytes.now

abbrev pub variable_of : VarView → Variable
variable_of v = record { proc = v.proc; word = v.word; name = v.name.now; form = v.form; spans = pairs_of v.spans }

abbrev pub variables_list : Variables → List Variable
variables_list list = many_in variable_at list.count list.bytes.now
