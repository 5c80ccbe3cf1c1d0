-- The example is sound, and what it puts.
use Rattle.std.proofs.Common.{◌≡◌, ◌≢◌, ℕ, zero, suc, inl, inr, true, false, List, [], ◌∷◌, Some, None, refl, sym, ap, ◌∙◌, subst, arith}
use Rattle.std.specs.Prelude.{◌==◌, ◌||◌, slice_get, ◌⊎◌}
use Rattle.std.proofs.lemmas.Bool.Decides.{nat_tests}
use Rattle.m3_runs.proofs.Choosing.{by_test}
use Rattle.m3_runs_tests.specs.Code as code
use Rattle.m3_runs_tests.specs.Code.{Kind, Numeric, Pointer, Derived, Block, Start}
use Rattle.m3_runs_tests.specs.Sound as sound
use Rattle.m3_runs_tests.specs.Sound.{Live, Closed, Sets, Within_live, SoundOp, SoundRow, SoundEnd, SoundOps, SoundStart, Sound}
use Rattle.m3_runs_tests.specs.Example.{is_in, example, example_places, ExampleIsSound}

-- what holds of each number of a list
abbrev AllOf : (ℕ → Type 0) → List ℕ → Type 0
AllOf P [] = Unit {0}
AllOf P (x ∷ xs) = P x × AllOf P xs

all_in : (P : ℕ → Type 0) (xs : List ℕ) → AllOf P xs → (u : ℕ) → is_in xs u ≡ true → P u
all_in P [] all u e = absurd (let bad : false ≡ true = e in cc)
all_in P (x ∷ xs) all u e = by_test (u == x) (P u)
    (λ t. let same : u ≡ x = grind (arith, nat_tests, t) in subst P (sym same) all.0)
    (λ f. all_in P xs all.1 u (sym (ap (λ b. b || is_in xs u) f) ∙ e))

abbrev Closes : List ℕ → ℕ → Type 0
Closes xs t = (b : ℕ) → example.kind t ≡ Derived b → (is_in xs b ≡ true) × (example.kind b ≡ Pointer)

closes : (xs : List ℕ) → AllOf (Closes xs) xs → Closed example example_places 8 (is_in xs)
closes xs all t b e k = all_in (Closes xs) xs all t e b k

-- what is no derived pointer needs no base; the second temporary needs the first one
plain : (xs : List ℕ) (t : ℕ) (kind : Kind) → example.kind t ≡ kind → ((b : ℕ) → kind ≢ Derived b) → Closes xs t
plain xs t kind e never b k = absurd (never b (sym e ∙ k))

a_pointer : (b : ℕ) → Pointer ≢ Derived b
a_pointer b e = let no : ⊥ = cc in no

of_first : (xs : List ℕ) → is_in xs 1 ≡ true → Closes xs 2
of_first xs e b k =
    let same : 1 ≡ b = let h : Derived 1 ≡ Derived b = k in let q : 1 ≡ b = cc in q in
    subst (λ i. (is_in xs i ≡ true) × (example.kind i ≡ Pointer)) same (e, refl)

abbrev Keeps : List ℕ → ℕ → ℕ → Type 0
Keeps xs t u = (u ≡ t) ⊎ ((is_in xs u ≡ true) × (u ≢ t) × (example_places.place u ≢ example_places.place t) × ((b : ℕ) → example.kind u ≡ Derived b → b ≢ t))

sets : (xs ys : List ℕ) (t : ℕ) → AllOf (Keeps xs t) ys → Sets example example_places 8 (is_in xs) t (is_in ys)
sets xs ys t all u e = all_in (Keeps xs t) ys all u e

within : (ys xs : List ℕ) → AllOf (λ u. is_in xs u ≡ true) ys → Within_live example example_places 8 (is_in ys) (is_in xs)
within ys xs all u e = all_in (λ u. is_in xs u ≡ true) ys all u e

some_one : {A : Type 0} (x y : A) → Some x ≡ Some y → x ≡ y
some_one x y e = let q : x ≡ y = cc in q

nothing_closed : Closed example example_places 8 (is_in [])
nothing_closed = closes [] tt

one_closed : Closed example example_places 8 (is_in (1 ∷ []))
one_closed = closes (1 ∷ []) (plain (1 ∷ []) 1 Pointer refl a_pointer, tt)

two_closed : Closed example example_places 8 (is_in (1 ∷ 2 ∷ []))
two_closed = closes (1 ∷ 2 ∷ []) (plain (1 ∷ 2 ∷ []) 1 Pointer refl a_pointer, (of_first (1 ∷ 2 ∷ []) refl, tt))

three_closed : Closed example example_places 8 (is_in (1 ∷ 2 ∷ 3 ∷ []))
three_closed = closes (1 ∷ 2 ∷ 3 ∷ []) (plain (1 ∷ 2 ∷ 3 ∷ []) 1 Pointer refl a_pointer, (of_first (1 ∷ 2 ∷ 3 ∷ []) refl, (plain (1 ∷ 2 ∷ 3 ∷ []) 3 Pointer refl a_pointer, tt)))

four_closed : Closed example example_places 8 (is_in (4 ∷ []))
four_closed = closes (4 ∷ []) (plain (4 ∷ []) 4 Pointer refl a_pointer, tt)

five_closed : Closed example example_places 8 (is_in (5 ∷ []))
five_closed = closes (5 ∷ []) (plain (5 ∷ []) 5 Numeric refl (λ b e. let no : ⊥ = cc in no), tt)

-- ---- rows

abbrev first_row : SoundRow example example_places 8 1 1
first_row = record {
  kept = is_in [];
  is = λ t. grind (arith, nat_tests);
  closed = nothing_closed;
  sets = sets [] (1 ∷ []) 1 (inl refl, tt);
  next_closed = one_closed;
}

-- neither is set where the third one or the number is: they have other places, and another base
first_apart : (xs : List ℕ) (t : ℕ) → is_in xs 1 ≡ true → 1 ≢ t → example_places.place 1 ≢ example_places.place t → Keeps xs t 1
first_apart xs t e differs apart = inr (e, differs, apart, λ b k. absurd (let no : ⊥ = cc in no))

second_apart : (xs : List ℕ) (t : ℕ) → is_in xs 2 ≡ true → 2 ≢ t → example_places.place 2 ≢ example_places.place t → 1 ≢ t → Keeps xs t 2
second_apart xs t e differs apart base =
    inr (e, differs, apart, λ b k. let h : Derived 1 ≡ Derived b = k in let q : 1 ≡ b = cc in subst (λ i. i ≢ t) q base)

abbrev second_row : SoundRow example example_places 8 3 2
second_row = record {
  kept = is_in (1 ∷ 2 ∷ []);
  is = λ t. grind (arith, nat_tests);
  closed = two_closed;
  sets = sets (1 ∷ 2 ∷ []) (1 ∷ 2 ∷ 3 ∷ []) 3 (
    first_apart (1 ∷ 2 ∷ []) 3 refl (λ e. absurd (omega (arith, e))) (λ e. absurd (omega (arith, e))),
    (second_apart (1 ∷ 2 ∷ []) 3 refl (λ e. absurd (omega (arith, e))) (λ e. absurd (omega (arith, e))) (λ e. absurd (omega (arith, e))), (inl refl, tt)),
  );
  next_closed = three_closed;
}

abbrev third_row : SoundRow example example_places 8 5 3
third_row = record {
  kept = is_in (1 ∷ 2 ∷ []);
  is = λ t. grind (arith, nat_tests);
  closed = two_closed;
  sets = sets (1 ∷ 2 ∷ []) (1 ∷ 2 ∷ []) 5 (
    first_apart (1 ∷ 2 ∷ []) 5 refl (λ e. absurd (omega (arith, e))) (λ e. absurd (omega (arith, e))),
    (second_apart (1 ∷ 2 ∷ []) 5 refl (λ e. absurd (omega (arith, e))) (λ e. absurd (omega (arith, e))) (λ e. absurd (omega (arith, e))), tt),
  );
  next_closed = two_closed;
}

abbrev last_row : SoundRow example example_places 8 5 6
last_row = record {
  kept = is_in [];
  is = λ t. grind (arith, nat_tests);
  closed = nothing_closed;
  sets = sets [] [] 5 tt;
  next_closed = nothing_closed;
}

-- ---- blocks

puts : (n : ℕ) → SoundOps example example_places 8 (is_in []) (code.Number 5 n ∷ []) (code.Act (code.Serve code.Put 5) [] 5 6)
puts n = sound.op (is_in []) (is_in (5 ∷ [])) (code.Number 5 n) [] _ (sound.number 5 n (sets [] (5 ∷ []) 5 (inl refl, tt)) tt) five_closed
    (sound.end (is_in (5 ∷ [])) _ (sound.act (code.Serve code.Put 5) [] 5 6 refl last_row sound.none (within [] (5 ∷ []) tt)))

block_sound : (b : ℕ) (block : Block) → slice_get example.blocks b ≡ Some block → Closed example example_places 8 (example_places.live b) × SoundOps example example_places 8 (example_places.live b) block.ops block.end
block_sound zero block e = subst (λ x. Closed example example_places 8 (is_in []) × SoundOps example example_places 8 (is_in []) x.ops x.end) (some_one _ block e)
    (nothing_closed, sound.end (is_in []) _ (sound.act (code.New 2) [] 1 1 tt first_row sound.none (within [] [] tt)))
block_sound (suc zero) block e = subst (λ x. Closed example example_places 8 (is_in (1 ∷ [])) × SoundOps example example_places 8 (is_in (1 ∷ [])) x.ops x.end) (some_one _ block e) (
  one_closed,
  sound.op (is_in (1 ∷ [])) (is_in (1 ∷ 2 ∷ [])) (code.Advance 2 1 1) [] _
      (sound.advance 2 1 1 (sets (1 ∷ []) (1 ∷ 2 ∷ []) 2 (first_apart (1 ∷ []) 2 refl (λ e. absurd (omega (arith, e))) (λ e. absurd (omega (arith, e))), (inl refl, tt))) refl (sound.derives 1)) two_closed
      (sound.end (is_in (1 ∷ 2 ∷ [])) _ (sound.act (code.New 1) (1 ∷ []) 3 2 tt second_row (sound.more 1 [] refl sound.none) (within (1 ∷ 2 ∷ []) (1 ∷ 2 ∷ []) (refl, (refl, tt))))),
)
block_sound (suc (suc zero)) block e = subst (λ x. Closed example example_places 8 (is_in (1 ∷ 2 ∷ 3 ∷ [])) × SoundOps example example_places 8 (is_in (1 ∷ 2 ∷ 3 ∷ [])) x.ops x.end) (some_one _ block e) (
  three_closed,
  sound.op (is_in (1 ∷ 2 ∷ 3 ∷ [])) (is_in (1 ∷ 2 ∷ [])) (code.Store 2 3) [] _
      (sound.store 2 3 (within (1 ∷ 2 ∷ []) (1 ∷ 2 ∷ 3 ∷ []) (refl, (refl, tt))) refl refl (sound.derived 1) refl) two_closed
      (sound.end (is_in (1 ∷ 2 ∷ [])) _ (sound.act code.Point (1 ∷ []) 5 3 tt third_row (sound.more 1 [] refl sound.none) (within (1 ∷ 2 ∷ []) (1 ∷ 2 ∷ []) (refl, (refl, tt))))),
)
block_sound (suc (suc (suc zero))) block e = subst (λ x. Closed example example_places 8 (is_in (1 ∷ 2 ∷ [])) × SoundOps example example_places 8 (is_in (1 ∷ 2 ∷ [])) x.ops x.end) (some_one _ block e) (
  two_closed,
  sound.op (is_in (1 ∷ 2 ∷ [])) (is_in (4 ∷ [])) (code.Load 4 2) [] _
      (sound.load 4 2 (sets (1 ∷ 2 ∷ []) (4 ∷ []) 4 (inl refl, tt)) refl (sound.derived 1) refl) four_closed
      (sound.end (is_in (4 ∷ [])) _ (sound.choose 4 4 5 refl (inr refl) (within [] (4 ∷ []) tt) (within [] (4 ∷ []) tt))),
)
block_sound (suc (suc (suc (suc zero)))) block e = subst (λ x. Closed example example_places 8 (is_in []) × SoundOps example example_places 8 (is_in []) x.ops x.end) (some_one _ block e) (nothing_closed, puts 2)
block_sound (suc (suc (suc (suc (suc zero))))) block e = subst (λ x. Closed example example_places 8 (is_in []) × SoundOps example example_places 8 (is_in []) x.ops x.end) (some_one _ block e) (nothing_closed, puts 1)
block_sound (suc (suc (suc (suc (suc (suc zero)))))) block e = subst (λ x. Closed example example_places 8 (is_in []) × SoundOps example example_places 8 (is_in []) x.ops x.end) (some_one _ block e)
    (nothing_closed, sound.op (is_in []) (is_in (5 ∷ [])) (code.Number 5 0) [] _ (sound.number 5 0 (sets [] (5 ∷ []) 5 (inl refl, tt)) tt) five_closed (sound.end (is_in (5 ∷ [])) _ (sound.return 5 refl)))
block_sound (suc (suc (suc (suc (suc (suc (suc b))))))) block e = absurd (let bad : None ≡ Some block = e in cc)

start_sound : (q : ℕ) (start : Start) → slice_get example.starts q ≡ Some start → SoundStart example example_places 8 start
start_sound zero start e = subst (SoundStart example example_places 8) (some_one (record { block = 0; formal = 0 }) start e) (record { closed = nothing_closed; alone = λ u h. absurd (let bad : false ≡ true = h in cc) })
start_sound (suc q) start e = absurd (let bad : None ≡ Some start = e in cc)

pub example_sound : ExampleIsSound
example_sound = record { heap = omega arith; blocks = block_sound; starts = start_sound }
