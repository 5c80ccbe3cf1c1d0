use Rattle.std.proofs.Common.{◌≡◌, ℕ, ◌&&◌, ◌||◌, not, length}
use Rattle.std.specs.List.{list_all}
use Rattle.m3_tables.specs.Sections.{is_derived}
use Rattle.m3_tables.specs.Views.{entries_of}
use Rattle.m3_tables.specs.Windows.{has_mark, mark_at, places_apart}
use Rattle.m3_tables.proofs.fields.Entries.mark_places.Given as goal

abbrev pub invariant-loop-entry : goal.invariant-loop-entry
invariant-loop-entry l =
    let has = has_mark l.initial.marks l.from in
    let rest = entries_of l.entry-iterator in
    let all = entries_of l.fn.self in
    record {
      marked : (n : ℕ) → (mark_at l.marks l.from n || (has n && is_derived rest n)) ≡ (has n && is_derived all n);
      apart : (list_all (λ e. not (mark_at l.marks l.from e.location)) rest && places_apart has rest) ≡ places_apart has all;
      length : length l.marks ≡ length l.initial.marks;
    }
