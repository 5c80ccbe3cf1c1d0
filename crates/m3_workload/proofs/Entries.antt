-- An entry more stands behind those before it.
use Rattle.std.proofs.Common.{ℕ, zero, suc, ◌≡◌, List, [], ◌∷◌, ◌++◌, sym, subst, append_assoc, append-nil, ◌∙◌}
use Rattle.m3_base.specs.declared.outcomes.Entry.{Entry}
use Rattle.m3_workload.specs.Schedules.{next, entry_at, entries_behind}

pub goes_on : (before : List Entry) (n m x : ℕ) → n ≡ suc m
    → (before ++ entry_at (next x) ∷ []) ++ entries_behind m (next x) ≡ before ++ entries_behind n x
unfolding entries_behind
goes_on before n m x same =
    subst (λ k. (before ++ entry_at (next x) ∷ []) ++ entries_behind m (next x) ≡ before ++ entries_behind k x) (sym same)
    (append_assoc before (entry_at (next x) ∷ []) (entries_behind m (next x)))

pub is_whole : (entries all : List Entry) (n x : ℕ) → n ≡ zero → entries ++ entries_behind n x ≡ all → entries ≡ all
unfolding entries_behind
is_whole entries all n x none same =
    sym (append-nil entries) ∙ subst (λ k. entries ++ entries_behind k x ≡ all) none same
