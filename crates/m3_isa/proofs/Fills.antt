-- A fill stops where a word isn't there or can't be replaced.
use Rattle.std.proofs.Common.{◌≡◌, ℕ, zero, suc, ◌<◌, Bool, false, Option, Some, None, if◌then◌else◌, refl, sym, ap, ◌∙◌, inl, inr, arith}
use Rattle.std.proofs.lemmas.Bool.{cases_lt}
use Rattle.m3_base.specs.Words.{add_words}
use Rattle.m3_isa.specs.Memory.{Memory, put}
use Rattle.m3_isa.specs.Effects.{filled, IsMemory, put_where_writable, filled_one}

pub stops_at_load : (o : Option Memory) (now : Memory) (can : ℕ → Bool) (from to : ℕ) → IsMemory o now → now from ≡ None → filled_one can from to o ≡ None
stops_at_load None now can from to h e = refl
stops_at_load (Some memory) now can from to h e = ap (put_where_writable can memory to) (sym (h from) ∙ e)

refused : (can : ℕ → Bool) (memory : Memory) (at : ℕ) (o : Option ℕ) → can at ≡ false → put_where_writable can memory at o ≡ None
refused can memory at None e = refl
refused can memory at (Some word) e = ap (λ b. if b then Some (put memory at word) else None) e

pub stops_at_store : (o : Option Memory) (can : ℕ → Bool) (from to : ℕ) → can to ≡ false → filled_one can from to o ≡ None
stops_at_store None can from to e = refl
stops_at_store (Some memory) can from to e = refused can memory to (memory from) e

pub filled-stops : (m : Memory) (can : ℕ → Bool) (from d k n : ℕ) → k < n → filled_one can (add_words from k) (add_words (add_words from d) k) (filled m can from d k) ≡ None → filled m can from d n ≡ None
filled-stops m can from d k zero h e = absurd (omega arith)
filled-stops m can from d k (suc n) h e =
    elim (cases_lt k n) [
      | inl low ↦ ap (filled_one can (add_words from n) (add_words (add_words from d) n)) (filled-stops m can from d k n low e)
      | inr high ↦
          let same : n ≡ k = omega arith in
          ap (λ j. filled_one can (add_words from j) (add_words (add_words from d) j) (filled m can from d j)) same ∙ e
    ]
