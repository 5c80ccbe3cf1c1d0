-- What the views of the code stand for.
use Rattle.std.proofs.Common.{◌≡◌, ℕ, ◌-◌, List, [], Option, None, refl, sym, ◌∙◌}
use Rattle.std.specs.List.{slice_get}
use Rattle.m3_tables.specs.Rows.{Entry}
use Rattle.m3_tables.specs.declared.fields.Listing.{Listing}
use Rattle.m3_tables.specs.declared.fields.Listing.TheVariants as listing
use Rattle.m3_tables.specs.Rows.{Unchanged}
use Rattle.m3_tables.specs.Views.{tidies_of}

pub not_unchanged : (x : Listing) → ((x ≡ listing.Same) → ⊥) → (tidies_of x ≡ Unchanged) → ⊥
not_unchanged (listing.Ground places) h e = cc
not_unchanged (listing.Change removed added) h e = cc
not_unchanged listing.Same h e = h refl

-- no entries are left, so there is none at a later place
pub none_left : (xs : List Entry) (n i : ℕ) (total : Option Entry) → xs ≡ [] → slice_get xs (n - i) ≡ total → None ≡ total
none_left xs n i total e so_far = let gone : slice_get xs (n - i) ≡ None = rw e refl in sym gone ∙ so_far
