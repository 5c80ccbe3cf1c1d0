-- The text of what a machine shows, line by line.
use Rattle.std.specs.Prelude.{ℕ, List, [], ◌++◌, codes, decimal}
use Rattle.std.specs.Fmt.{signed_decimal}
use Rattle.std.specs.List.{slice_get, flat_map}
use Rattle.std.specs.Option.{option_map_or}
use Rattle.m3_image_sections.specs.Parts.{Image}
use Rattle.m3_inspect.specs.declared.values.Value.{Value}
use Rattle.m3_inspect.specs.declared.values.Value.TheVariants.{Number, Nil, Cell}
use Rattle.m3_inspect.specs.declared.values.VarValue.{VarValue}
use Rattle.m3_inspect.specs.Shown.{ShownFrame, ShownThread, Shown}

abbrev pub value_text : Value → List ℕ
value_text (Number n) = signed_decimal n
value_text Nil = codes "NIL"
value_text (Cell c) = codes "cell " ++ decimal c

-- the name of a variable, and none past the last
abbrev pub name_of : Image → ℕ → List ℕ
name_of i number = option_map_or (λ v. v.name) (slice_get i.variables number) []

-- a line of a variable behind the words that it begins with
abbrev pub var_line : Image → List ℕ → VarValue → List ℕ
var_line i begin v = begin ++ name_of i v.var ++ codes " = " ++ value_text v.value ++ codes "\n"

abbrev pub vars_text : Image → List ℕ → List VarValue → List ℕ
vars_text i begin vars = flat_map (var_line i begin) vars

abbrev pub frame_text : Image → ShownFrame → List ℕ
frame_text i f = codes " proc " ++ decimal f.proc ++ codes "\n" ++ vars_text i (codes "  ") f.vars

abbrev pub thread_text : Image → ShownThread → List ℕ
thread_text i t = codes "thread " ++ decimal t.number ++ codes "\n" ++ flat_map (frame_text i) t.frames

abbrev pub text_of : Image → Shown → List ℕ
text_of i s = vars_text i (codes "global ") s.globals ++ flat_map (thread_text i) s.threads
