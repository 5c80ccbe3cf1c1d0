-- What the types of the code stand for.
use Rattle.std.specs.Prelude.{ℕ, List}
use Rattle.m3_tables.specs.declared.numbers.Numbers.{Numbers}
use Rattle.m3_tables.specs.declared.fields.Listing.{Listing}
use Rattle.m3_tables.specs.declared.fields.Listing.TheVariants as listing
use Rattle.m3_tables.specs.declared.derivation.Derivation.{Derivation}
use Rattle.m3_tables.specs.declared.fields.Entries.{Entries}
use Rattle.m3_tables.specs.declared.fields.Contents.{Contents}
use Rattle.m3_tables.specs.declared.fields.Ways.{Ways}
use Rattle.m3_tables.specs.declared.fields.WayView.{WayView}
use Rattle.m3_tables.specs.Numbers.{numbers}
use Rattle.m3_tables.specs.Rows as rows
use Rattle.m3_tables.specs.Fields.{path_of, ways_in, entries_in}

abbrev pub numbers_of : Numbers → List ℕ
numbers_of list = numbers list.count list.bytes.now

abbrev pub bases_of : WayView → rows.Bases
bases_of way = record { added = numbers_of way.added; subtracted = numbers_of way.subtracted }

abbrev pub ways_of : Ways → List rows.Bases
ways_of ways = ways_in ways.count ways.bytes.now

abbrev pub entry_of : Derivation → rows.Entry
entry_of d = record { location = d.location; path = path_of d.path; ways = ways_in d.ways d.bytes.now }

abbrev pub entries_of : Entries → List rows.Entry
entries_of entries = entries_in entries.count entries.bytes.now

abbrev pub contents_of : Contents → rows.Contents
contents_of c = record { arguments = numbers_of c.arguments; passed = numbers_of c.passed; derived = entries_of c.derived }

abbrev pub tidies_of : Listing → rows.Tidies
tidies_of (listing.Ground places) = rows.All_of (numbers_of places)
tidies_of (listing.Change removed added) = rows.Changed (numbers_of removed) (numbers_of added)
tidies_of listing.Same = rows.Unchanged
