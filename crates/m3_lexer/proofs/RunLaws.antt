-- Of two readings of one text one goes on from where the other ends; so a text has one.
use Rattle.std.proofs.Common.{◌≡◌, ℕ, List, [], ◌∷◌, ◌++◌, refl, sym, ap, subst, ◌∙◌, inl, inr}
use Rattle.std.specs.Prelude.{◌⊎◌}
use Rattle.std.proofs.lemmas.List.{append-nil}
use Rattle.m3_base.specs.declared.places.Pos.{Pos}
use Rattle.m3_base.specs.declared.refusals.Refusal.{Refusal}
use Rattle.m3_syntax.specs.declared.tokens.Token.{Token}
use Rattle.m3_syntax.specs.declared.tokens.TokenKind.{TokenKind}
use Rattle.m3_syntax.specs.Lexis.{place_after, IsToken, IsSkip, Breaks, Reads, stops, skips, takes}
use Rattle.m3_lexer.specs.Lexing.{Seen, seen, all_seen, OneList, TokensOrRefusal, OneRefusal}
use Rattle.m3_lexer.proofs.Heads.{token_some}
use Rattle.m3_lexer.proofs.Uniqueness.{one_skip, skip_some, one_token}
use Rattle.m3_lexer.proofs.RuleLaws.{breaks_some, one_rule, skip_sound}

-- the second reading, which ends at r, where c stands, goes on from where the first ends
record GoesOn (q r : Pos) (b c : List ℕ) (ts us : List Token) : Type 0 where
  pub tokens : List Token
  pub on : Reads q b tokens r c
  pub same : all_seen us ≡ all_seen ts ++ all_seen tokens

Either : (q r : Pos) (b c : List ℕ) (ts us : List Token) → Type 0
Either q r b c ts us = GoesOn q r b c ts us ⊎ GoesOn r q c b us ts

one_more : (t u : Token) (q r : Pos) (b c : List ℕ) (ts us : List Token) → seen t ≡ seen u → Either q r b c ts us → Either q r b c (t ∷ ts) (u ∷ us)
unfolding Either
one_more t u q r b c ts us e (inl g) =
    inl (record { tokens = g.tokens; on = g.on; same = ap (λ (x : Seen). x ∷ all_seen us) (sym e) ∙ ap (λ (l : List Seen). seen t ∷ l) g.same })
one_more t u q r b c ts us e (inr g) =
    inr (record { tokens = g.tokens; on = g.on; same = ap (λ (x : Seen). x ∷ all_seen ts) e ∙ ap (λ (l : List Seen). seen u ∷ l) g.same })

-- a token's fields tell what is seen of it
seen_same : (t u : Token) → t.kind ≡ u.kind → t.text.now ≡ u.text.now → t.pos ≡ u.pos → seen t ≡ seen u
seen_same t u k e p =
    let f : TokenKind → Seen = λ x. record { kind = x; text = t.text.now; pos = t.pos } in
    let g : List ℕ → Seen = λ x. record { kind = u.kind; text = x; pos = t.pos } in
    let h : Pos → Seen = λ x. record { kind = u.kind; text = u.text.now; pos = x } in
    ap f k ∙ ap g e ∙ ap h p

moved : (p q r : Pos) (a b c : List ℕ) (ts : List Token) → p ≡ q → a ≡ b → Reads q b ts r c → Reads p a ts r c
moved p q r a b c ts e f h = subst (λ (x : Pos). Reads x a ts r c) (sym e) (subst (λ (l : List ℕ). Reads q l ts r c) (sym f) h)

compare : {p q r : Pos} {a b c : List ℕ} {ts us : List Token} → Reads p a ts q b → Reads p a us r c → Either q r b c ts us
unfolding Either
compare {us = us} stops second = inl (record { tokens = us; on = second; same = refl })
compare {ts = ts} (skips f m e s rest) stops = inr (record { tokens = ts; on = skips f m e s rest; same = refl })
compare {p = p} {r = r} {c = c} {us = us} (skips f m e s rest) (skips g n e' s' rest') =
    let same = one_skip f g m n (sym e ∙ e') s s' in
    compare rest (moved (place_after p f) (place_after p g) r m n c us (ap (place_after p) same.0) same.1 rest')
compare (skips f m e s rest) (takes u n e' h' st rest') = absurd (st.unskipped f m e s)
compare {ts = ts} (takes t m e h st rest) stops = inr (record { tokens = ts; on = takes t m e h st rest; same = refl })
compare (takes t m e h st rest) (skips g n e' s' rest') = absurd (st.unskipped g n e' s')
compare {p = p} {q = q} {r = r} {a = a} {b = b} {c = c} (takes {tokens = ts} t m e h st rest) (takes {tokens = us} u n e' h' st' rest') =
    let same = one_token a t.text.now u.text.now m n t.kind u.kind e e' st st' in
    one_more t u q r b c ts us (seen_same t u same.2 same.0 (h ∙ sym h'))
    (compare rest (moved (place_after p t.text.now) (place_after p u.text.now) r m n c us (ap (place_after p) same.0) same.1 rest'))

-- nothing stands behind the end
record Ended (q r : Pos) (c : List ℕ) (ts : List Token) : Type 0 where
  pub none : all_seen ts ≡ []
  pub place : q ≡ r
  pub rest : c ≡ []

nil_front : (a b : List ℕ) → [] ≡ a ++ b → a ≡ []
nil_front [] b e = refl
nil_front (x ∷ a) b e = absurd cc

ended : {q r : Pos} {b c : List ℕ} {ts : List Token} → b ≡ [] → Reads q b ts r c → Ended q r c ts
ended e stops = record { none = refl; place = refl; rest = e }
ended e (skips f m e' s rest) = absurd (skip_some (subst IsSkip (nil_front f m (sym e ∙ e')) s))
ended e (takes t m e' h st rest) = absurd (token_some t.kind (subst (λ (l : List ℕ). IsToken l t.kind) (nil_front t.text.now m (sym e ∙ e')) st.token))

-- no reading goes on where a rule is broken
record Stuck (q r : Pos) (b c : List ℕ) : Type 0 where
  pub place : q ≡ r
  pub rest : b ≡ c

stuck : {q r : Pos} {b c : List ℕ} {ts : List Token} (rule : ℕ) → Breaks b rule → Reads q b ts r c → Stuck q r b c
stuck rule broken stops = record { place = refl; rest = refl }
stuck {b = b} rule broken (skips f m e s rest) = absurd (skip_sound b f m rule e s broken)
stuck rule broken (takes t m e h st rest) = absurd (st.unbroken rule broken)

lists_from : (p q : Pos) (ts us : List Token) → Either p q [] [] ts us → (all_seen ts ≡ all_seen us) × (p ≡ q)
unfolding Either
lists_from p q ts us (inl g) =
    let end = ended refl g.on in
    (sym (g.same ∙ ap (λ (l : List Seen). all_seen ts ++ l) end.none ∙ append-nil (all_seen ts)), end.place)
lists_from p q ts us (inr g) =
    let end = ended refl g.on in
    (g.same ∙ ap (λ (l : List Seen). all_seen us ++ l) end.none ∙ append-nil (all_seen us), sym end.place)

pub one_list_lem : OneList
one_list_lem file text ts us p q a b = lists_from p q ts us (compare a b)

refuses : (p : Pos) (rest : List ℕ) (rule : ℕ) (q : Pos) (ts us : List Token) → Breaks rest rule → Either p q [] rest ts us → ⊥
unfolding Either
refuses p rest rule q ts us broken (inl g) = breaks_some rule (subst (λ (l : List ℕ). Breaks l rule) (ended refl g.on).rest broken)
refuses p rest rule q ts us broken (inr g) = breaks_some rule (subst (λ (l : List ℕ). Breaks l rule) (stuck rule broken g.on).rest broken)

pub tokens_or_refusal_lem : TokensOrRefusal
tokens_or_refusal_lem file text ts p r a b = refuses p b.rest r.rule r.pos ts b.tokens b.broken (compare a b.before)

refusal_same : (r s : Refusal) → r.phase ≡ s.phase → r.unit ≡ s.unit → r.pos ≡ s.pos → r.rule ≡ s.rule → r ≡ s
refusal_same r s a b c d =
    let f : ℕ → Refusal = λ x. record { phase = x; unit = r.unit; pos = r.pos; rule = r.rule } in
    let g : ℕ → Refusal = λ x. record { phase = s.phase; unit = x; pos = r.pos; rule = r.rule } in
    let h : Pos → Refusal = λ x. record { phase = s.phase; unit = s.unit; pos = x; rule = r.rule } in
    let k : ℕ → Refusal = λ x. record { phase = s.phase; unit = s.unit; pos = s.pos; rule = x } in
    ap f a ∙ ap g b ∙ ap h c ∙ ap k d

stopped_same : (q r : Pos) (b c : List ℕ) (ts us : List Token) (m n : ℕ) → Breaks b m → Breaks c n → Either q r b c ts us → (q ≡ r) × (m ≡ n)
unfolding Either
stopped_same q r b c ts us m n x y (inl g) = let s = stuck m x g.on in (s.place, one_rule b m n x (subst (λ (l : List ℕ). Breaks l n) (sym s.rest) y))
stopped_same q r b c ts us m n x y (inr g) = let s = stuck n y g.on in (sym s.place, one_rule c m n (subst (λ (l : List ℕ). Breaks l m) (sym s.rest) x) y)

pub one_refusal_lem : OneRefusal
one_refusal_lem file text r s a b =
    let same = stopped_same r.pos s.pos a.rest b.rest a.tokens b.tokens r.rule s.rule a.broken b.broken (compare a.before b.before) in
    refusal_same r s (a.phase ∙ sym b.phase) (a.unit ∙ sym b.unit) same.0 same.1
