use Rattle.std.proofs.Common.{ℕ, ◌-◌, ◌<◌, ◌≤◌}
use Rattle.m3_tables.specs.Sections.{instruction_in}
use Rattle.m3_tables.proofs.table.TableView.row.Given as goal

-- the instructions of rows before low are below the one looked for, and those from high on are above
abbrev pub invariant-loop-low : goal.invariant-loop-low
invariant-loop-low l =
    (l.high ≤ l.self.rows) × ((k : ℕ) → k < l.low → instruction_in l.self.section.bytes.now k < l.instr)
    × ((k : ℕ) → l.high ≤ k → k < l.self.rows → l.instr < instruction_in l.self.section.bytes.now k)

abbrev pub decreases-loop-low : goal.decreases-loop-low
decreases-loop-low l = l.high - l.low
