-- What the sections of the code stand for.
use Rattle.std.specs.Option.{option_map}
use Rattle.m3_image_sections.specs.declared.sections.Sections as code_sections
use Rattle.m3_image_sections.specs.Sections.{Sections}

abbrev pub sections_view : code_sections.Sections → Sections
sections_view s = record {
  version = s.version;
  code = s.code.now;
  procs = s.procs.now;
  types = s.types.now;
  globals = s.globals.now;
  constants = s.constants.now;
  places = s.places.now;
  exceptions = s.exceptions.now;
  tables = s.tables.now;
  variables = option_map (λ x. x.now) s.variables;
}
