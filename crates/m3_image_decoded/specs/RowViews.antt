-- The table whose tidy places were put into lists.
use Rattle.m3_tables.specs.declared.table.TableView.{TableView}
use Rattle.m3_image_decoded.specs.declared.rows.TidyLists.{TidyLists}

abbrev pub table_of : TidyLists → TableView
table_of t = t.table
