use Rattle.m3_image_writer.specs.Fields.{text_bytes}
use Rattle.m3_image_writer.specs.Image.{fixed_bytes}
use Rattle.m3_image_writer.specs.Sections.{code_bytes, procs_bytes, types_bytes, globals_bytes, constants_bytes, places_bytes, exceptions_bytes}
use Rattle.m3_image_writer.proofs.Lengths.{sections_short}
use Rattle.m3_image_writer.proofs.Joined.{piece, eight_joined}
use Rattle.m3_image_writer.proofs.image.put_sections.Goals as goal

pub put_code-requires-clause-size : goal.put_code-requires-clause-size
put_code-requires-clause-size c = rw c.deref.ensures.value (sections_short c.args.parts.now c.requires.size).code

pub put_procs-requires : goal.put_procs-requires
put_procs-requires c = rw c.deref-2.ensures.value (sections_short c.args.parts.now c.requires.size).procs

pub put_types-requires : goal.put_types-requires
put_types-requires c = rw c.deref-3.ensures.value (sections_short c.args.parts.now c.requires.size).types

pub put_globals-requires : goal.put_globals-requires
put_globals-requires c = (sections_short c.args.parts.now c.requires.size).globals

pub put_constants-requires : goal.put_constants-requires
put_constants-requires c = rw c.deref-4.ensures.value (sections_short c.args.parts.now c.requires.size).constants

pub put_places-requires : goal.put_places-requires
put_places-requires c = (sections_short c.args.parts.now c.requires.size).places

pub put_exceptions-requires : goal.put_exceptions-requires
put_exceptions-requires c = rw c.deref-5.ensures.value (sections_short c.args.parts.now c.requires.size).exceptions

pub put_text-requires : goal.put_text-requires
put_text-requires c = rw c.deref-6.ensures.value (sections_short c.args.parts.now c.requires.size).tables

pub returns-clause-bytes : goal.returns-clause-bytes
unfolding fixed_bytes
returns-clause-bytes c =
    let p = c.args.parts.now in
    eight_joined c.args.out.now.items (text_bytes (code_bytes p.code.items)) (text_bytes (procs_bytes p.procs.items)) (text_bytes (types_bytes p.types.items)) (text_bytes (globals_bytes p.globals)) (text_bytes (constants_bytes p.constants.items)) (text_bytes (places_bytes p.places)) (text_bytes (exceptions_bytes p.exceptions.items)) (text_bytes p.tables.items)
    c.put_code.new.out.items c.put_procs.new.out.items c.put_types.new.out.items c.put_globals.new.out.items c.put_constants.new.out.items c.put_places.new.out.items c.put_exceptions.new.out.items c.put_text.new.out.items
    (piece (λ x. text_bytes (code_bytes x)) c.args.out.now.items c.put_code.new.out.items c.deref.result.now p.code.items c.in_ok-put_code.ensures.bytes c.deref.ensures.value)
    (piece (λ x. text_bytes (procs_bytes x)) c.put_code.new.out.items c.put_procs.new.out.items c.deref-2.result.now p.procs.items c.in_ok-put_procs.ensures.bytes c.deref-2.ensures.value)
    (piece (λ x. text_bytes (types_bytes x)) c.put_procs.new.out.items c.put_types.new.out.items c.deref-3.result.now p.types.items c.in_ok-put_types.ensures.bytes c.deref-3.ensures.value)
    c.in_ok-put_globals.ensures.bytes
    (piece (λ x. text_bytes (constants_bytes x)) c.put_globals.new.out.items c.put_constants.new.out.items c.deref-4.result.now p.constants.items c.in_ok-put_constants.ensures.bytes c.deref-4.ensures.value)
    c.in_ok-put_places.ensures.bytes
    (piece (λ x. text_bytes (exceptions_bytes x)) c.put_places.new.out.items c.put_exceptions.new.out.items c.deref-5.result.now p.exceptions.items c.in_ok-put_exceptions.ensures.bytes c.deref-5.ensures.value)
    (piece text_bytes c.put_exceptions.new.out.items c.put_text.new.out.items c.deref-6.result.now p.tables.items c.in_ok-put_text.ensures c.deref-6.ensures.value)

pub returns-clause-again : goal.returns-clause-again
returns-clause-again c =
    record {
      code = rw c.deref.ensures.value at c.in_ok-put_code.ensures.again;
      procs = rw c.deref-2.ensures.value at c.in_ok-put_procs.ensures.again;
      types = rw c.deref-3.ensures.value at c.in_ok-put_types.ensures.again;
      globals = c.in_ok-put_globals.ensures.again;
      constants = rw c.deref-4.ensures.value at c.in_ok-put_constants.ensures.again;
      places = c.in_ok-put_places.ensures.again;
      exceptions = rw c.deref-5.ensures.value at c.in_ok-put_exceptions.ensures.again;
    }
