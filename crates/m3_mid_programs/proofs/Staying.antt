-- What stands for a value does so for ever.
use Rattle.std.proofs.Common.{◌≡◌, ℕ, List, Option, Some}
use Rattle.m3_values.specs.Values as value
use Rattle.m3_values.specs.Values.{Values}
use Rattle.m3_values.specs.Programs.{Program}
use Rattle.m3_mid_meaning.specs.Words.{Word}
use Rattle.m3_mid_programs.specs.Linked.{Linked}
use Rattle.m3_mid_programs.specs.Standing as standing
use Rattle.m3_mid_programs.specs.Standing.{IsRow, AreRows, RowsStay}

module _ (p : Program) (linked : Linked) (frames later : ℕ → Option ℕ) (known : (a frame : ℕ) → frames a ≡ Some frame → later a ≡ Some frame) where
  mutual
    row_stays : (v : value.Value) (ws : List Word) → IsRow p linked frames v ws → IsRow p linked later v ws
    row_stays v ws (standing.ordinal z) = standing.ordinal z
    row_stays v ws standing.no_reference = standing.no_reference
    row_stays v ws standing.no_procedure = standing.no_procedure
    row_stays v ws (standing.reference c) = standing.reference c
    row_stays v ws (standing.text t) = standing.text t
    row_stays v ws standing.main_thread = standing.main_thread
    row_stays v ws (standing.outermost q) = standing.outermost q
    row_stays v ws (standing.inner q a frame e) = standing.inner q a frame (known a frame e)
    row_stays v ws (standing.members ms first count) = standing.members ms first count
    row_stays v ws (standing.record_of vs _ rows) = standing.record_of vs ws (rows_stay vs ws rows)
    row_stays v ws (standing.array below vs _ rows) = standing.array below vs ws (rows_stay vs ws rows)

    rows_stay : (vs : Values) (ws : List Word) → AreRows p linked frames vs ws → AreRows p linked later vs ws
    rows_stay vs ws standing.end = standing.end
    rows_stay vs ws (standing.more v us xs ys row rows) = standing.more v us xs ys (row_stays v xs row) (rows_stay us ys rows)

pub rows_last : RowsStay
rows_last p linked frames later known v ws row = row_stays p linked frames later known v ws row
