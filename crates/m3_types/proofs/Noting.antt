-- What noting one place more makes of links and keys.
use Rattle.std.proofs.Common.{◌≡◌, ℕ, zero, suc, ◌+◌, ◌<◌, ◌⊎◌, inl, inr, Bool, true, false, List, [], ◌∷◌, ◌++◌, length, length-append, Option, Some, None, refl, sym, ◌∙◌, ap, subst, arith, ⊎_elim}
use Rattle.std.specs.Prelude.{◌&&◌, nat_eq, slice_get, Contains}
use Rattle.std.specs.Option.{option_map_or}
use Rattle.std.proofs.lemmas.List.Elements.{Contains-append_left, Contains-push}
use Rattle.std.proofs.lemmas.Bool.{and_parts}
use Rattle.std.proofs.lemmas.Bool.Decides.{nat_tests}
use Rattle.std.specs.HashMap.{HashMap, Updates, IsUnchanged}
use Rattle.std.specs.Prelude.{Result, Ok, Err, OnOk, OnErr}
use Rattle.std.specs.Map.{lookup}
use Rattle.m3_types.specs.declared.places.Link.{Link}
use Rattle.m3_types.specs.Noting.{same_key, newest_of, IsNoted, here, before, Descends, AreThere}

pub some_is : {A : Type 0} {x y : A} → Some x ≡ Some y → x ≡ y
some_is h = cc

pub get_front : {A : Type 0} (xs : List A) (y : A) (k : ℕ) (x : A) → slice_get xs k ≡ Some x → slice_get (xs ++ y ∷ []) k ≡ Some x
get_front [] y k x h = absurd (let z : ⊥ = cc in z)
get_front (v ∷ xs) y zero x h = h
get_front (v ∷ xs) y (suc k) x h = get_front xs y k x h

pub get_last : {A : Type 0} (xs : List A) (y : A) → slice_get (xs ++ y ∷ []) (length xs) ≡ Some y
get_last [] y = refl
get_last (v ∷ xs) y = get_last xs y

-- what stands in a list with one element more stood there, or is that element
pub get_cases : {A : Type 0} (xs : List A) (y : A) (k : ℕ) (x : A) → slice_get (xs ++ y ∷ []) k ≡ Some x → (slice_get xs k ≡ Some x) ⊎ ((k ≡ length xs) × (y ≡ x))
get_cases [] y zero x h = inr (refl, some_is h)
get_cases [] y (suc k) x h = absurd (let z : ⊥ = cc in z)
get_cases (v ∷ xs) y zero x h = inl h
get_cases (v ∷ xs) y (suc k) x h = ⊎_elim (λ e. inl e) (λ e. inr (ap suc e.0, e.1)) (get_cases xs y k x h)

pub number_eq : (x y : ℕ) → nat_eq x y ≡ true → x ≡ y
number_eq x y h = grind (arith, nat_tests)

module _ (links : List Link) (link : Link) where
  pub noted_more : (o : Option ℕ) (p : ℕ) → IsNoted links o p → IsNoted (links ++ link ∷ []) o p
  noted_more o p h = more links o p h
    where
      more : (ls : List Link) (o : Option ℕ) (p : ℕ) → IsNoted ls o p → IsNoted (ls ++ link ∷ []) o p
      more ls o p (here {number = n} {link = l} g e) = here (get_front ls link n l g) e
      more ls o p (before {number = n} {link = l} g h) = before (get_front ls link n l g) (more ls l.older p h)

  pub noted_last : (p : ℕ) → link.place ≡ p → IsNoted (links ++ link ∷ []) (Some (length links)) p
  noted_last p e = here (get_last links link) e

  pub noted_before : (p : ℕ) → IsNoted links link.older p → IsNoted (links ++ link ∷ []) (Some (length links)) p
  noted_before p h = before (get_last links link) (noted_more link.older p h)

  pub descends_more : Descends links → ((older : ℕ) → link.older ≡ Some older → older < length links) → Descends (links ++ link ∷ [])
  descends_more d last n o l g e =
      ⊎_elim (λ old. d n o l old e) (λ new. subst (λ k. o < k) (sym new.0) (last o (ap (λ m. m.older) new.1 ∙ e))) (get_cases links link n l g)

  pub there_more : {S : Type 0} (m : HashMap (ℕ × ℕ) ℕ S) → AreThere m links → AreThere m (links ++ link ∷ [])
  there_more m h v i n e = let l = h v i n e in omega (arith, length-append links (link ∷ []))

module _ {S : Type 0} (m n : HashMap (ℕ × ℕ) ℕ S) (view id number : ℕ) (u : Updates same_key m n (view, id) (Some number)) where
  pub newest_here : newest_of n view id ≡ Some number
  newest_here = u.1

  -- under the key the new link, under each other key the one from before
  newest_cases : (v i : ℕ) → ((v ≡ view) × (i ≡ id)) ⊎ (newest_of n v i ≡ newest_of m v i)
  newest_cases v i = by (same_key (view, id) (v, i)) refl
    where
      by : (b : Bool) → same_key (view, id) (v, i) ≡ b → ((v ≡ view) × (i ≡ id)) ⊎ (newest_of n v i ≡ newest_of m v i)
      by true e = let q = and_parts (nat_eq view v) (nat_eq id i) e in inl (sym (number_eq view v q.0), sym (number_eq id i q.1))
      by false e = inr (u.2 (v, i) e)

  newest_at : (v i : ℕ) → v ≡ view → i ≡ id → newest_of n v i ≡ Some number
  newest_at v i a b = subst (λ k. newest_of n k i ≡ Some number) (sym a) (subst (λ k. newest_of n view k ≡ Some number) (sym b) newest_here)

  old_at : (v i : ℕ) → v ≡ view → i ≡ id → newest_of m v i ≡ newest_of m view id
  old_at v i a b = ap (λ k. newest_of m k i) a ∙ ap (λ k. newest_of m view k) b

  pub noted_stays : (links : List Link) (link : Link) → number ≡ length links → link.older ≡ newest_of m view id → (v i p : ℕ) → IsNoted links (newest_of m v i) p → IsNoted (links ++ link ∷ []) (newest_of n v i) p
  noted_stays links link e older v i p h =
      ⊎_elim
      (λ q. subst (λ o. IsNoted (links ++ link ∷ []) o p) (ap Some (sym e) ∙ sym (newest_at v i q.0 q.1)) (noted_before links link p (subst (λ o. IsNoted links o p) (old_at v i q.0 q.1 ∙ sym older) h)))
      (λ q. subst (λ o. IsNoted (links ++ link ∷ []) o p) (sym q) (noted_more links link (newest_of m v i) p h))
      (newest_cases v i)

  pub there_stays : (links : List Link) (link : Link) → number ≡ length links → AreThere m links → AreThere n (links ++ link ∷ [])
  there_stays links link e h v i k f =
      let long = length-append links (link ∷ []) in
      ⊎_elim
      (λ q. let g : k ≡ number = some_is (sym f ∙ newest_at v i q.0 q.1) in omega arith)
      (λ q. let g = h v i k (sym q ∙ f) in omega arith)
      (newest_cases v i)

-- where an insertion fails the keys keep what they have
module _ {S : Type 0} (m n : HashMap (ℕ × ℕ) ℕ S) (e : IsUnchanged m n) where
  newest_unchanged : (v i : ℕ) → newest_of n v i ≡ newest_of m v i
  newest_unchanged v i = ap (λ es. lookup (same_key (v, i)) es) e

  pub noted_unchanged : (links : List Link) (link : Link) (v i p : ℕ) → IsNoted links (newest_of m v i) p → IsNoted (links ++ link ∷ []) (newest_of n v i) p
  noted_unchanged links link v i p h = subst (λ o. IsNoted (links ++ link ∷ []) o p) (sym (newest_unchanged v i)) (noted_more links link (newest_of m v i) p h)

  there_unchanged : (links : List Link) (link : Link) → AreThere m links → AreThere n (links ++ link ∷ [])
  there_unchanged links link h v i k f = there_more links link m h v i k (sym (newest_unchanged v i) ∙ f)

-- whether the insertion succeeds or not, each key has a link that is there
pub there_either : {S T E : Type 0} (r : Result T E) (m n : HashMap (ℕ × ℕ) ℕ S) (view id number : ℕ) (links : List Link) (link : Link) → number ≡ length links → OnOk r (Updates same_key m n (view, id) (Some number)) → OnErr r (IsUnchanged m n) → AreThere m links → AreThere n (links ++ link ∷ [])
there_either (Ok t) m n view id number links link l u e h = there_stays m n view id number u links link l h
there_either (Err t) m n view id number links link l u e h = there_unchanged m n e links link h

-- ---- going from link to link

pub link_smaller : (links : List Link) → Descends links → (at : Option ℕ) (number : ℕ) (link : Link) → at ≡ Some number → slice_get links number ≡ Some link → option_map_or suc link.older 0 < option_map_or suc at 0
link_smaller links d at number link e g = by link.older refl
  where
    by : (o : Option ℕ) → link.older ≡ o → option_map_or suc link.older 0 < option_map_or suc at 0
    by None f = subst (λ a. option_map_or suc link.older 0 < option_map_or suc a 0) (sym e) (subst (λ o. option_map_or suc o 0 < suc number) (sym f) (omega arith))
    by (Some older) f = let l : older < number = d number older link g f in subst (λ a. option_map_or suc link.older 0 < option_map_or suc a 0) (sym e) (subst (λ o. option_map_or suc o 0 < suc number) (sym f) (omega arith))

link_cases : (links : List Link) (number : ℕ) (link : Link) (p : ℕ) → slice_get links number ≡ Some link → IsNoted links (Some number) p → (link.place ≡ p) ⊎ IsNoted links link.older p
link_cases links number link p g (here {link = l} f e) = inl (ap (λ m. m.place) (some_is (sym g ∙ f)) ∙ e)
link_cases links number link p g (before {link = l} f h) = inr (subst (λ m. IsNoted links m.older p) (sym (some_is (sym g ∙ f))) h)

pub link_done : (links : List Link) (at : Option ℕ) (number : ℕ) (link : Link) → at ≡ Some number → slice_get links number ≡ Some link → (old new : List ℕ) → new ≡ old ++ link.place ∷ [] → (p : ℕ) → Contains old p ⊎ IsNoted links at p → Contains new p ⊎ IsNoted links link.older p
link_done links at number link e g old new is p h =
    ⊎_elim
    (λ c. inl (subst (λ xs. Contains xs p) (sym is) (Contains-append_left old (link.place ∷ []) p c)))
    (λ n.
    ⊎_elim (λ q. inl (subst (λ xs. Contains xs p) (sym is) (subst (Contains (old ++ link.place ∷ [])) q (Contains-push old link.place)))) (λ q. inr q)
    (link_cases links number link p g (subst (λ o. IsNoted links o p) e n)))
    h

pub link_gone : (links : List Link) (at : Option ℕ) (number : ℕ) → at ≡ Some number → slice_get links number ≡ None → (places : List ℕ) (p : ℕ) → Contains places p ⊎ IsNoted links at p → Contains places p
link_gone links at number e none places p h =
    ⊎_elim (λ c. c) (λ n. absurd (gone (subst (λ o. IsNoted links o p) e n))) h
  where
    gone : IsNoted links (Some number) p → ⊥
    gone (here f e) = let z : ⊥ = cc in z
    gone (before f h) = let z : ⊥ = cc in z
