use Rattle.std.proofs.Common.{◌≡◌, ◌++◌, drop, flat_map}
use Rattle.m3_image.specs.Views.{image_view}
use Rattle.m3_inspect.specs.Texts.{var_line, vars_text}
use Rattle.m3_inspect.proofs.texts.put_vars.Given as goal

abbrev pub invariant-vars : goal.invariant-vars
invariant-vars l =
    l.text.items ++ flat_map (var_line (image_view l.fn.image) l.fn.begin) (drop l.var-index l.fn.vars) ≡ l.fn.text.items ++ vars_text (image_view l.fn.image) l.fn.begin l.fn.vars
