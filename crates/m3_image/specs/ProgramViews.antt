-- What the sections and the program of the code stand for.
use Rattle.m3_image.specs.declared.program.Places as code_places
use Rattle.m3_image.specs.declared.program.Program as code_program
use Rattle.m3_image_sections.specs.Parts.{Places, Program}
use Rattle.m3_image_sections.specs.PartViews.{longs_of, pairs_of, names_of, procs_of, types_of, globals_of, code_list}

abbrev pub places_of : code_places.Places → Places
places_of p = record { files = names_of p.files; places = pairs_of p.places }

abbrev pub program_view : code_program.Program → Program
program_view p = record {
  code = code_list p.code;
  procs = procs_of p.procs;
  types = types_of p.types;
  globals = globals_of p.globals;
  constants = longs_of p.constants;
  files = names_of p.files;
  places = pairs_of p.places;
  exceptions = names_of p.exceptions;
  tables = p.tables.now;
}
