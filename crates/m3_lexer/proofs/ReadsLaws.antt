-- Tokens of one part of a text and of the next are those of both.
use Rattle.std.proofs.Common.{◌≡◌, ℕ, List, [], ◌∷◌, ◌++◌, take, drop, Ok, subst, sym}
use Rattle.std.proofs.lemmas.List.{append-nil, take-append-drop}
use Rattle.m3_lexer.specs.declared.fronts.Front.TheVariants.{Skipped, Spelled}
use Rattle.m3_lexer.specs.Fronts.{IsFront}
use Rattle.m3_base.specs.declared.places.Pos.{Pos}
use Rattle.m3_syntax.specs.declared.tokens.Token.{Token}
use Rattle.m3_syntax.specs.Lexis.{Reads, stops, skips, takes, IsSkip, Stands, place_after}

pub Reads-then : {p q r : Pos} {a b c : List ℕ} {ts us : List Token} → Reads p a ts q b → Reads q b us r c → Reads p a (ts ++ us) r c
Reads-then stops second = second
Reads-then (skips front more e s rest) second = skips front more e s (Reads-then rest second)
Reads-then (takes t more e h s rest) second = takes t more e h s (Reads-then rest second)

pub then_skip : (p q : Pos) (a b : List ℕ) (ts : List Token) (front more : List ℕ) → Reads p a ts q b → b ≡ front ++ more → IsSkip front → Reads p a ts (place_after q front) more
then_skip p q a b ts front more first e s =
    subst (λ (us : List Token). Reads p a us (place_after q front) more) (append-nil ts) (Reads-then first (skips front more e s stops))

pub then_take : (p q : Pos) (a b : List ℕ) (ts : List Token) (t : Token) (more : List ℕ) → Reads p a ts q b → b ≡ t.text.now ++ more → t.pos ≡ q → Stands b t.text.now t.kind
    → Reads p a (ts ++ t ∷ []) (place_after q t.text.now) more
then_take p q a b ts t more first e at s = Reads-then first (takes t more e at s stops)

-- what is skipped at the front of the rest
pub skip_step : (p q place : Pos) (a b front more : List ℕ) (ts : List Token) (n : ℕ) → Reads p a ts q b → IsFront b (Ok (Skipped n))
    → front ≡ take n b → more ≡ drop n b → place ≡ place_after q front → Reads p a ts place more
skip_step p q place a b front more ts n first given front-is more-is place-is =
    let cut : b ≡ front ++ more = rw (front-is, more-is) (sym (take-append-drop n b)) in
    let skipped : IsSkip front = subst IsSkip (sym front-is) given.2 in
    subst (λ (r : Pos). Reads p a ts r more) (sym place-is) (then_skip p q a b ts front more first cut skipped)

-- a token at the front of the rest
pub token_step : (p q place : Pos) (a b more : List ℕ) (ts us : List Token) (t : Token) (n : ℕ) → Reads p a ts q b → IsFront b (Ok (Spelled t.kind n))
    → t.text.now ≡ take n b → more ≡ drop n b → t.pos ≡ q → place ≡ place_after q t.text.now → us ≡ ts ++ t ∷ [] → Reads p a us place more
token_step p q place a b more ts us t n first given text-is more-is at place-is us-is =
    let cut : b ≡ t.text.now ++ more = rw (text-is, more-is) (sym (take-append-drop n b)) in
    let stands : Stands b t.text.now t.kind = subst (λ (f : List ℕ). Stands b f t.kind) (sym text-is) given.2 in
    subst (λ (r : Pos). Reads p a us r more) (sym place-is)
    (subst (λ (vs : List Token). Reads p a vs (place_after q t.text.now) more) (sym us-is) (then_take p q a b ts t more first cut at stands))
