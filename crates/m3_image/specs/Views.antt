-- What the types of the code stand for.
use Rattle.m3_image.specs.declared.image.ImageView.{ImageView}
use Rattle.m3_image_sections.specs.Parts.{Image}
pub use Rattle.m3_image_sections.specs.PartViews.{longs_of, pairs_of, names_of, procs_of, type_of, types_of, globals_of, code_list, variable_of, variables_list}
pub use Rattle.m3_image.specs.ProgramViews.{places_of, program_view}
pub use Rattle.m3_image_sections.specs.SectionViews.{sections_view}

abbrev pub image_view : ImageView → Image
image_view v = record { version = v.version; program = program_view v.program; variables = variables_list v.variables }
