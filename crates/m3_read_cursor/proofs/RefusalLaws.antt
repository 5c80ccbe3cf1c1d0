-- What is refused at a token of a file is what the file is refused for.
use Rattle.std.proofs.Common.{ℕ, zero, suc, ◌≡◌, ◌≤◌, ◌<◌, List, [], ◌∷◌, refl, sym, subst, length, drop, arith, lit≤}
use Rattle.std.specs.List.{Contains}
use Rattle.m3_base.specs.declared.places.Pos.{Pos}
use Rattle.m3_base.specs.declared.refusals.Refused.{Refused}
use Rattle.m3_base.specs.declared.refusals.Refused.TheVariants.{Rule}
use Rattle.m3_syntax.specs.declared.tokens.Token.{Token}
use Rattle.m3_read_cursor.specs.Refusals.{IsBroken, IsRefusal, refused}

-- what stands first behind some tokens is one of them all
contains : (tokens : List Token) (n : ℕ) (token : Token) (rest : List Token) → drop n tokens ≡ token ∷ rest → Contains tokens token
contains [] zero token rest e = absurd (cc)
contains [] (suc n) token rest e = absurd (cc)
contains (first ∷ tokens) zero token rest e = (0, omega arith, cc)
contains (first ∷ tokens) (suc n) token rest e =
    let found : Contains tokens token = contains tokens n token rest e in (suc found.0, omega (arith, found.1), found.2)

module _ (end : Pos) (tokens : List Token) (n : ℕ) where
  ended : IsBroken end tokens (refused 11 end [])
  ended = record { phase = refl; unit = refl; first_rule = lit≤ tt; last_rule = lit≤ tt; at_token = λ h. absurd (omega arith); too_deep = λ h. absurd (omega arith); at_name = λ h. absurd (omega arith); at_end = λ _. refl; many = λ h. absurd (omega arith); at_limit = λ h. absurd (omega arith) }

  at_10 : (rest : List Token) → drop n tokens ≡ rest → IsBroken end tokens (refused 10 end rest)
  at_10 [] e = ended
  at_10 (token ∷ rest) e = record { phase = refl; unit = refl; first_rule = lit≤ tt; last_rule = lit≤ tt; at_token = λ _. (token, contains tokens n token rest e, refl); too_deep = λ h. absurd (omega arith); at_name = λ h. absurd (omega arith); at_end = λ h. absurd (omega arith); many = λ h. absurd (omega arith); at_limit = λ h. absurd (omega arith) }

  at_13 : (rest : List Token) → drop n tokens ≡ rest → IsBroken end tokens (refused 13 end rest)
  at_13 [] e = ended
  at_13 (token ∷ rest) e = record { phase = refl; unit = refl; first_rule = lit≤ tt; last_rule = lit≤ tt; at_token = λ h. absurd (omega arith); too_deep = λ _. (token, contains tokens n token rest e, refl); at_name = λ h. absurd (omega arith); at_end = λ h. absurd (omega arith); many = λ h. absurd (omega arith); at_limit = λ h. absurd (omega arith) }

  -- the first of the tokens behind n may not stand there
  pub unexpected_at : (e : Refused) → e ≡ Rule (refused 10 end (drop n tokens)) → IsRefusal end tokens e
  unexpected_at e h = subst (λ x. IsRefusal end tokens x) (sym h) (at_10 (drop n tokens) refl)

  -- it lies too deep
  pub too_deep_at : (e : Refused) → e ≡ Rule (refused 13 end (drop n tokens)) → IsRefusal end tokens e
  too_deep_at e h = subst (λ x. IsRefusal end tokens x) (sym h) (at_13 (drop n tokens) refl)

module _ (end : Pos) (tokens : List Token) (more : 500000 < length tokens) where
  at_14 : (rest : List Token) → drop 500000 tokens ≡ rest → IsBroken end tokens (refused 14 end rest)
  at_14 [] e = ended end tokens 0
  at_14 (token ∷ rest) e = record { phase = refl; unit = refl; first_rule = lit≤ tt; last_rule = lit≤ tt; at_token = λ h. absurd (omega arith); too_deep = λ h. absurd (omega arith); at_name = λ h. absurd (omega arith); at_end = λ h. absurd (omega arith); many = λ _. more; at_limit = λ _. rw e refl }

  -- token 500,001 is refused
  pub too_many_at : (e : Refused) → e ≡ Rule (refused 14 end (drop 500000 tokens)) → IsRefusal end tokens e
  too_many_at e h = subst (λ x. IsRefusal end tokens x) (sym h) (at_14 (drop 500000 tokens) refl)
