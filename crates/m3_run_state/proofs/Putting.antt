-- What PUT does, from what its parts told.
use Rattle.std.specs.Prelude.{ℕ, ◌≡◌, ◌+◌, ◌-◌, ◌*◌, ◌<◌, min, Bool, if◌then◌else◌, List, [], ◌++◌, map, Option, Some, IfSome, Result, Ok, Err, OnErr}
use Rattle.std.specs.List.{range_with_len}
use Rattle.std.proofs.Common.{sym, ap, subst, ◌∙◌, arith}
use Rattle.m3_base.specs.Words.{add_words}
use Rattle.m3_isa.specs.Memory.{Memory}
use Rattle.m3_isa.specs.Effects.{reg, next}
use Rattle.m3_isa.specs.declared.instructions.Instr.{Instr}
use Rattle.m3_isa.specs.declared.registers.Regs.{Regs}
use Rattle.m3_image_sections.specs.Parts.{Program}
use Rattle.m3_run_meaning.specs.State.{State}
use Rattle.m3_run_meaning.specs.Act.{Act, Puts, bytes_of, stops_with_trap, loading}
use Rattle.m3_run_meaning.specs.Progress.{Progress, Follows}
use Rattle.m3_run_meaning.specs.Texts.{text_bytes}
use Rattle.m3_run_meaning.specs.Acts.{has_text, puts_text, puts_bytes}
use Rattle.m3_ports.specs.Files.{LeavesAtFault}
use Rattle.m3_ports.specs.declared.sinks.Sink.{Ghosts as SinkGhosts}
use Rattle.m3_run_state.specs.Seen.{Took}
use Rattle.m3_run_state.specs.Cuts.{CutsOff}
use Rattle.m3_run_state.proofs.TextBytes.{put_more, put_none, joined}

-- the length was loaded, and its words were looked for
pub put_loaded : (i : Instr) (regs : Regs) (memory : Memory) (text : ℕ) (o : Option ℕ) → text ≡ reg regs i.a → o ≡ memory (add_words text 1)
    → loading o (λ count. puts_bytes memory text count regs) ≡ puts_text i regs memory
put_loaded i regs memory text o is loaded =
    ap (λ (w : Option ℕ). loading w (λ count. puts_bytes memory text count regs)) loaded
    ∙ ap (λ (x : ℕ). loading (memory (add_words x 1)) (λ count. puts_bytes memory x count regs)) is

pub put_found : (memory : Memory) (text count : ℕ) (regs : Regs) (b : Bool) → b ≡ has_text memory text 0 count
    → (if b then Puts (text_bytes memory text 0 count) (next regs) else stops_with_trap 2) ≡ puts_bytes memory text count regs
put_found memory text count regs b is = ap (λ (c : Bool). if c then Puts (text_bytes memory text 0 count) (next regs) else stops_with_trap 2) is

-- what holds of an act holds of the same one
pub put_as : (p : Program) (s : State) (progress : Progress) (before after : Option (List ℕ)) (one other : Act) → one ≡ other → Took before after (bytes_of one) × Follows p one s progress
    → Took before after (bytes_of other) × Follows p other s progress
put_as p s progress before after one other same h = subst (λ (act : Act). Took before after (bytes_of act) × Follows p act s progress) same h

-- ---- piece by piece

pub start_pieces : (before : Option (List ℕ)) (g : ℕ → ℕ) (count : ℕ) → IfSome before (λ bytes. before ≡ Some (bytes ++ map g (range_with_len 0 (min count (8 * 0)))))
start_pieces before g count =
    let none : 0 ≡ min count (8 * 0) = omega arith in
    subst (λ (n : ℕ). IfSome before (λ bytes. before ≡ Some (bytes ++ map g (range_with_len 0 n)))) none (put_none before)

pub more_pieces : (before now after : Option (List ℕ)) (g : ℕ → ℕ) (count k left : ℕ) (piece : List ℕ) → 8 * k < count → left ≡ min (count - 8 * k) 8
    → IfSome before (λ bytes. now ≡ Some (bytes ++ map g (range_with_len 0 (min count (8 * k))))) → IfSome now (λ bytes. after ≡ Some (bytes ++ piece)) → piece ≡ map g (range_with_len (8 * k) left)
    → IfSome before (λ bytes. after ≡ Some (bytes ++ map g (range_with_len 0 (min count (8 * (k + 1))))))
more_pieces before now after g count k left piece below is so-far took all =
    let here : 8 * k ≡ min count (8 * k) = omega arith in
    let next-one : min count (8 * k) + left ≡ min count (8 * (k + 1)) = omega arith in
    subst (λ (n : ℕ). IfSome before (λ bytes. after ≡ Some (bytes ++ map g (range_with_len 0 n)))) next-one
    (put_more before now after g (min count (8 * k)) left piece so-far took (all ∙ ap (λ (n : ℕ). map g (range_with_len n left)) here))

-- the put of a piece failed
pub cut_pieces : {O : Type 0} (s : SinkGhosts O) (before at after : O) (g : ℕ → ℕ) (count k left : ℕ) (piece : List ℕ) → 8 * k < count → left ≡ min (count - 8 * k) 8
    → IfSome (s.taken before) (λ bytes. s.taken at ≡ Some (bytes ++ map g (range_with_len 0 (min count (8 * k)))))
    → IfSome (s.taken at) (λ taken. (all : List ℕ) × LeavesAtFault (s.waiting at) taken piece all × (s.taken after ≡ Some all))
    → piece ≡ map g (range_with_len (8 * k) left) → CutsOff s before after [] (map g (range_with_len 0 count))
cut_pieces s before at after g count k left piece below is so-far failed all =
    let here : min count (8 * k) ≡ 8 * k = omega arith in
    let rest = count - (8 * k + left) in
    let whole : 8 * k + left + rest ≡ count = omega arith in
    record {
      at = at;
      part = map g (range_with_len 0 (8 * k));
      piece = piece;
      took = subst (λ (n : ℕ). IfSome (s.taken before) (λ bytes. s.taken at ≡ Some (bytes ++ map g (range_with_len 0 n)))) here so-far;
      next = (
        map g (range_with_len (8 * k + left) rest),
        ap (λ (n : ℕ). map g (range_with_len 0 n)) (sym whole) ∙ joined g (8 * k + left) rest
            ∙ ap (λ (xs : List ℕ). xs ++ map g (range_with_len (8 * k + left) rest)) (joined g (8 * k) left ∙ ap (λ (xs : List ℕ). map g (range_with_len 0 (8 * k)) ++ xs) (sym all)),
      );
      left = failed;
    }

-- what is put of a text that was found
pub cut_as : {O : Type 0} (s : SinkGhosts O) (before after : O) (bytes : List ℕ) (regs : Regs) (one other : Act) → one ≡ other → one ≡ Puts bytes regs → CutsOff s before after [] bytes
    → (bytes : List ℕ) × (other ≡ Puts bytes regs) × CutsOff s before after [] bytes
cut_as s before after bytes regs one other same puts h = (bytes, sym same ∙ puts, h)

-- what holds after any failure
pub at_any : {T E : Type 0} (P : Type 0) (r : Result T E) → P → OnErr r P
at_any P (Ok _) h = tt
at_any P (Err _) h = h
