-- Fields one after the other, as a loop reads them.
use Rattle.std.proofs.Common.{◌≡◌, ℕ, zero, suc, ◌+◌, ◌-◌, ◌<◌, ◌≤◌, List, length, Option, Some, None, refl, sym, ap, ◌∙◌, arith}
use Rattle.m3_tables.specs.Rows.{Bases, Entry}
use Rattle.m3_tables.specs.Fields.{◌>>=◌, bases_at, ways_in, past_ways, entry_at, past_entries}

-- ---- ways

pub past_ways-step : (count i : ℕ) (bytes after : List ℕ) (way : Bases) (total : Option (List ℕ)) → i < count → Some (way, after) ≡ bases_at bytes → past_ways (count - i) bytes ≡ total → past_ways (count - (i + 1)) after ≡ total
unfolding past_ways
past_ways-step count i bytes after way total lt h so_far =
    let k : count - i ≡ suc (count - (i + 1)) = omega arith in
    let one : past_ways (count - i) bytes ≡ past_ways (count - (i + 1)) after = rw (k, ← h) refl in
    sym one ∙ so_far

pub past_ways-stop : (count i : ℕ) (bytes : List ℕ) (total : Option (List ℕ)) → i < count → None ≡ bases_at bytes → past_ways (count - i) bytes ≡ total → None ≡ total
unfolding past_ways
past_ways-stop count i bytes total lt h so_far =
    let k : count - i ≡ suc (count - (i + 1)) = omega arith in
    let one : past_ways (count - i) bytes ≡ None = rw (k, ← h) refl in
    sym one ∙ so_far

pub past_ways-end : (count i : ℕ) (bytes : List ℕ) (total : Option (List ℕ)) → count ≤ i → past_ways (count - i) bytes ≡ total → Some bytes ≡ total
unfolding past_ways
past_ways-end count i bytes total le so_far =
    let k : count - i ≡ 0 = omega arith in
    let one : past_ways (count - i) bytes ≡ Some bytes = rw k refl in
    sym one ∙ so_far

-- where the bytes after the ways are there, so are all the ways
bind_some : {A B : Type 0} (o : Option A) (f : A → Option B) (y : B) → (o >>= f) ≡ Some y → (x : A) × (o ≡ Some x) × (f x ≡ Some y)
bind_some (Some x) f y e = (x, refl, e)
bind_some None f y e = absurd cc

pub length_ways_in : (n : ℕ) (bytes rest : List ℕ) → past_ways n bytes ≡ Some rest → length (ways_in n bytes) ≡ n
unfolding past_ways ways_in
length_ways_in zero bytes rest e = refl
length_ways_in (suc n) bytes rest e =
    let way = bind_some (bases_at bytes) (λ w. past_ways n w.1) rest e in
    rw way.1 (ap suc (length_ways_in n way.0.1 rest way.2))

-- ---- derived words

pub past_entries-step : (count i : ℕ) (bytes after : List ℕ) (entry : Entry) (total : Option (List ℕ)) → i < count → Some (entry, after) ≡ entry_at bytes → past_entries (count - i) bytes ≡ total → past_entries (count - (i + 1)) after ≡ total
unfolding past_entries
past_entries-step count i bytes after entry total lt h so_far =
    let k : count - i ≡ suc (count - (i + 1)) = omega arith in
    let one : past_entries (count - i) bytes ≡ past_entries (count - (i + 1)) after = rw (k, ← h) refl in
    sym one ∙ so_far

pub past_entries-stop : (count i : ℕ) (bytes : List ℕ) (total : Option (List ℕ)) → i < count → None ≡ entry_at bytes → past_entries (count - i) bytes ≡ total → None ≡ total
unfolding past_entries
past_entries-stop count i bytes total lt h so_far =
    let k : count - i ≡ suc (count - (i + 1)) = omega arith in
    let one : past_entries (count - i) bytes ≡ None = rw (k, ← h) refl in
    sym one ∙ so_far

pub past_entries-end : (count i : ℕ) (bytes : List ℕ) (total : Option (List ℕ)) → count ≤ i → past_entries (count - i) bytes ≡ total → Some bytes ≡ total
unfolding past_entries
past_entries-end count i bytes total le so_far =
    let k : count - i ≡ 0 = omega arith in
    let one : past_entries (count - i) bytes ≡ Some bytes = rw k refl in
    sym one ∙ so_far
