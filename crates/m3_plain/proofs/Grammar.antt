-- What the reader of statements finds is what the grammar says.
use Rattle.std.proofs.Common.{◌≡◌, ℕ, ◌≤◌, ℤ, List, [], ◌∷◌, ◌++◌, length, Option, None, Some, refl, sym, ap, ◌∙◌, subst, inl, inr, ◌⊎◌, arith, append_assoc, append-nil, length-append}
use Rattle.m3_plain.specs.declared.plain.Arith.{Arith}
use Rattle.m3_plain.specs.declared.plain.Arith.TheVariants.{Add, Sub, Mul}
use Rattle.m3_plain.specs.declared.tokens.Kind.{Kind}
use Rattle.m3_plain.specs.declared.tokens.Kind.TheVariants.{Module, Main, Import, Io, Begin, End, PutInt, Semicolon, Dot, Open, Close, Operator, Literal}
use Rattle.m3_plain.specs.declared.tokens.Token.{Token}
use Rattle.m3_plain.specs.Terms.{Term, Number, Apply, nodes, all_nodes}
use Rattle.m3_plain.specs.PlainForm.{kinds, IsProduct, IsSum, IsStatement, IsBody, IsModule}
use Rattle.m3_plain.specs.Parsing.{After, literal_of, operator_of, Left, joined, left_after, product_after, with_literal, with_operator, with_line, sum_on, sum_at, operator_at, PutAt, IsEnd, Statements, Parses}
use Rattle.m3_plain.proofs.Parsings.{found_nothing, found_same, same_rest, same_put, sum_ends, end_begins, put_begins, header, io_end, semicolon_end}

-- ---- tokens of given kinds

after_front : (front rest : List Token) → After (kinds front) (front ++ rest) rest
after_front [] rest = refl
after_front (t ∷ ts) rest = (refl, after_front ts rest)

kinds_after : (ks : List Kind) (front rest : List Token) → kinds front ≡ ks → After ks (front ++ rest) rest
kinds_after ks front rest e = subst (λ k. After k (front ++ rest) rest) e (after_front front rest)

record Front (ks : List Kind) (tokens rest : List Token) : Type 0 where
  front : List Token
  parts : tokens ≡ front ++ rest
  same : kinds front ≡ ks

front_after : (ks : List Kind) (tokens rest : List Token) → After ks tokens rest → Front ks tokens rest
front_after [] tokens rest a = record { front = []; parts = a; same = refl }
front_after (k ∷ ks) [] rest a = absurd a
front_after (k ∷ ks) (t ∷ ts) rest a =
    let f = front_after ks ts rest a.1 in
    record { front = t ∷ f.front; parts = ap (λ x. t ∷ x) f.parts; same = ap (λ x. x ∷ kinds f.front) a.0 ∙ ap (λ x. k ∷ x) f.same }

-- ---- a Product and a Sum are read

abbrev sum_from : Left → List Token → Option (Term × List Token)
sum_from left [] = None
sum_from left (t ∷ ts) = with_literal (literal_of t.kind) (λ n. sum_on left (Number n) ts)

sum_at_from : (tokens : List Token) → sum_at tokens ≡ sum_from None tokens
sum_at_from [] = refl
sum_at_from (t ∷ ts) = refl

pub one_kind : (k : Kind) (tokens : List Token) → kinds tokens ≡ k ∷ [] → (t : Token) × (tokens ≡ t ∷ []) × (t.kind ≡ k)
one_kind k [] e = absurd (nil_cons e)
  where
    nil_cons : ◌≡◌ {A = List Kind} [] (k ∷ []) → ⊥
    nil_cons e = cc
one_kind k (t ∷ []) e = (t, refl, head e)
  where
    head : ◌≡◌ {A = List Kind} (t.kind ∷ []) (k ∷ []) → t.kind ≡ k
    head e = cc
one_kind k (t ∷ u ∷ ts) e = absurd (long e)
  where
    long : ◌≡◌ {A = List Kind} (t.kind ∷ u.kind ∷ kinds ts) (k ∷ []) → ⊥
    long e = cc

abbrev pub sign : Arith → ℕ → Token
sign op line = record { kind = Operator op; line = line }

-- an operator of a Sum, and what follows it
plus_on : (line : ℕ) (left : Left) (p : Term) (more : List Token) → sum_on left p (sign Add line ∷ more) ≡ sum_from (left_after Add line left p) more
plus_on line left p [] = refl
plus_on line left p (t ∷ ts) = refl

minus_on : (line : ℕ) (left : Left) (p : Term) (more : List Token) → sum_on left p (sign Sub line ∷ more) ≡ sum_from (left_after Sub line left p) more
minus_on line left p [] = refl
minus_on line left p (t ∷ ts) = refl

product_read : (a : Term) (front : List Token) (left : Left) (rest : List Token) → IsProduct a front → sum_from left (front ++ rest) ≡ sum_on left a rest
product_read (Number n) front left rest h =
    let t = one_kind (Literal n) front h in
    ap (λ f. sum_from left (f ++ rest)) t.1 ∙ ap (λ k. with_literal (literal_of k) (λ n. sum_on left (Number n) rest)) t.2
product_read (Apply Mul line a (Number n)) front left rest h =
    let u = one_kind (Literal n) h.1 h.4 in
    ap (λ f. sum_from left (f ++ rest)) (h.2 ∙ ap (λ b. h.0 ++ (sign Mul line ∷ b)) u.1)
    ∙ ap (λ f. sum_from left f) (append_assoc h.0 (sign Mul line ∷ u.0 ∷ []) rest)
    ∙ product_read a h.0 left (sign Mul line ∷ u.0 ∷ rest) h.3
    ∙ ap (λ k. with_literal (literal_of k) (λ n. sum_on left (Apply Mul line a (Number n)) rest)) u.2
product_read (Apply Mul line a (Apply op at b c)) front left rest h = absurd h
product_read (Apply Add line a b) front left rest h = absurd h
product_read (Apply Sub line a b) front left rest h = absurd h

-- the last Product of a Sum, and what waits for it
abbrev left_part : Term → Left
left_part (Apply Add line a b) = Some (a, (Add, line))
left_part (Apply Sub line a b) = Some (a, (Sub, line))
left_part (Apply Mul line a b) = None
left_part (Number n) = None

abbrev product_part : Term → Term
product_part (Apply Add line a b) = b
product_part (Apply Sub line a b) = b
product_part (Apply Mul line a b) = Apply Mul line a b
product_part (Number n) = Number n

parts_join : (a : Term) → joined (left_part a) (product_part a) ≡ a
parts_join (Apply Add line a b) = refl
parts_join (Apply Sub line a b) = refl
parts_join (Apply Mul line a b) = refl
parts_join (Number n) = refl

sum_read : (a : Term) (front rest : List Token) → IsSum a front → sum_from None (front ++ rest) ≡ sum_on (left_part a) (product_part a) rest
sum_read (Apply Add line a b) front rest h =
    ap (λ f. sum_from None (f ++ rest)) h.2
    ∙ ap (λ f. sum_from None f) (append_assoc h.0 (sign Add line ∷ h.1) rest)
    ∙ sum_read a h.0 (sign Add line ∷ (h.1 ++ rest)) h.3
    ∙ plus_on line (left_part a) (product_part a) (h.1 ++ rest)
    ∙ ap (λ x. sum_from (Some (x, (Add, line))) (h.1 ++ rest)) (parts_join a)
    ∙ product_read b h.1 (Some (a, (Add, line))) rest h.4
sum_read (Apply Sub line a b) front rest h =
    ap (λ f. sum_from None (f ++ rest)) h.2
    ∙ ap (λ f. sum_from None f) (append_assoc h.0 (sign Sub line ∷ h.1) rest)
    ∙ sum_read a h.0 (sign Sub line ∷ (h.1 ++ rest)) h.3
    ∙ minus_on line (left_part a) (product_part a) (h.1 ++ rest)
    ∙ ap (λ x. sum_from (Some (x, (Sub, line))) (h.1 ++ rest)) (parts_join a)
    ∙ product_read b h.1 (Some (a, (Sub, line))) rest h.4
sum_read (Apply Mul line a b) front rest h = product_read (Apply Mul line a b) front None rest h
sum_read (Number n) front rest h = product_read (Number n) front None rest h

-- a Sum is read as far as no operator follows it
sum_found : (a : Term) (front rest : List Token) → IsSum a front → operator_at rest ≡ None → sum_at (front ++ rest) ≡ Some (a, rest)
sum_found a front rest h o =
    sum_at_from (front ++ rest) ∙ sum_read a front rest h ∙ sum_ends (left_part a) (product_part a) rest o
    ∙ ap (λ x. Some (x, rest)) (parts_join a)

no_sign : (k : Kind) (front rest : List Token) → operator_of k ≡ None → kinds front ≡ k ∷ [] → operator_at (front ++ rest) ≡ None
no_sign k front rest o e =
    let t = one_kind k front e in
    ap (λ f. operator_at (f ++ rest)) t.1 ∙ ap (λ x. with_line (operator_of x) t.0.line rest) t.2 ∙ ap (λ x. with_line x t.0.line rest) o

statement_found : (put : Term) (tokens rest : List Token) → IsStatement put tokens → PutAt (tokens ++ rest) put rest
statement_found put tokens rest s =
    let sum = s.sum ++ (s.back ++ rest) in
    let flat : tokens ++ rest ≡ s.front ++ sum =
    ap (λ t. t ++ rest) s.parts ∙ append_assoc s.front (s.sum ++ s.back) rest ∙ ap (λ t. s.front ++ t) (append_assoc s.sum s.back rest) in
    record {
      sum = sum;
      close = s.back ++ rest;
      call = subst (λ t. After (Io ∷ Dot ∷ PutInt ∷ Open ∷ []) t sum) (sym flat) (kinds_after (Io ∷ Dot ∷ PutInt ∷ Open ∷ []) s.front sum s.call);
      term = sum_found put s.sum (s.back ++ rest) s.argument (no_sign Close s.back rest refl s.close);
      end = kinds_after (Close ∷ []) s.back rest s.close;
    }

end_found : (back : List Token) → kinds back ≡ End ∷ Main ∷ Dot ∷ [] → IsEnd back
end_found back e = subst (λ t. After (End ∷ Main ∷ Dot ∷ []) t []) (append-nil back) (kinds_after (End ∷ Main ∷ Dot ∷ []) back [] e)

no_kinds : (tokens : List Token) → kinds tokens ≡ [] → tokens ≡ []
no_kinds [] e = refl
no_kinds (t ∷ ts) e = absurd (cons_nil e)
  where
    cons_nil : ◌≡◌ {A = List Kind} (t.kind ∷ kinds ts) [] → ⊥
    cons_nil e = cc

body_found : (puts : List Term) (body back : List Token) → IsBody puts body → kinds back ≡ End ∷ Main ∷ Dot ∷ [] → Statements puts (body ++ back)
body_found [] body back h e = subst (λ b. IsEnd (b ++ back)) (sym h) (end_found back e)
body_found (put ∷ []) body back h e =
    let last = h.1 ++ back in
    let flat : body ++ back ≡ h.0 ++ last = ap (λ b. b ++ back) h.2 ∙ append_assoc h.0 h.1 back in
    let after = last_found h.1 back h.4 e in
    (last, subst (λ t. PutAt t put last) (sym flat) (statement_found put h.0 last h.3), after)
  where
    last_found : (last back : List Token) → ((kinds last ≡ []) ⊎ (kinds last ≡ Semicolon ∷ [])) → kinds back ≡ End ∷ Main ∷ Dot ∷ [] → ((◌≡◌ {A = List Term} [] []) × IsEnd (last ++ back)) ⊎ ((next : List Token) × After (Semicolon ∷ []) (last ++ back) next × Statements [] next)
    last_found last back (inl n) e = inl (refl, subst (λ l. IsEnd (l ++ back)) (sym (no_kinds last n)) (end_found back e))
    last_found last back (inr s) e = inr (back, kinds_after (Semicolon ∷ []) last back s, end_found back e)
body_found (put ∷ next ∷ puts) body back h e =
    let more = h.2 ++ back in
    let rest = h.1 ++ more in
    let flat : body ++ back ≡ h.0 ++ rest = ap (λ b. b ++ back) h.3 ∙ append_assoc h.0 (h.1 ++ h.2) back ∙ ap (λ t. h.0 ++ t) (append_assoc h.1 h.2 back) in
    (rest, subst (λ t. PutAt t put rest) (sym flat) (statement_found put h.0 rest h.4), inr (more, kinds_after (Semicolon ∷ []) h.1 more h.5, body_found (next ∷ puts) h.2 back h.6 e))

-- a module of the grammar is read
pub module_parses : (puts : List Term) (tokens : List Token) → IsModule puts tokens → Parses tokens puts
module_parses puts tokens m =
    record {
      rest = m.body ++ m.back;
      header = subst (λ t. After header t (m.body ++ m.back)) (sym m.parts) (kinds_after header m.front (m.body ++ m.back) m.header);
      statements = body_found puts m.body m.back m.statements m.trailer;
    }

-- ---- what is read is of the grammar

literal_kind : (k : Kind) (n : ℤ) → literal_of k ≡ Some n → k ≡ Literal n
literal_kind (Literal m) n e = ap Literal (found_same m n e)
literal_kind Module n e = absurd (found_nothing n e)
literal_kind Main n e = absurd (found_nothing n e)
literal_kind Import n e = absurd (found_nothing n e)
literal_kind Io n e = absurd (found_nothing n e)
literal_kind Begin n e = absurd (found_nothing n e)
literal_kind End n e = absurd (found_nothing n e)
literal_kind PutInt n e = absurd (found_nothing n e)
literal_kind Semicolon n e = absurd (found_nothing n e)
literal_kind Dot n e = absurd (found_nothing n e)
literal_kind Open n e = absurd (found_nothing n e)
literal_kind Close n e = absurd (found_nothing n e)
literal_kind (Operator op) n e = absurd (found_nothing n e)

operator_kind : (k : Kind) (op : Arith) → operator_of k ≡ Some op → k ≡ Operator op
operator_kind (Operator o) op e = ap Operator (found_same o op e)
operator_kind (Literal m) op e = absurd (found_nothing op e)
operator_kind Module op e = absurd (found_nothing op e)
operator_kind Main op e = absurd (found_nothing op e)
operator_kind Import op e = absurd (found_nothing op e)
operator_kind Io op e = absurd (found_nothing op e)
operator_kind Begin op e = absurd (found_nothing op e)
operator_kind End op e = absurd (found_nothing op e)
operator_kind PutInt op e = absurd (found_nothing op e)
operator_kind Semicolon op e = absurd (found_nothing op e)
operator_kind Dot op e = absurd (found_nothing op e)
operator_kind Open op e = absurd (found_nothing op e)
operator_kind Close op e = absurd (found_nothing op e)

-- what waits, and the Product, are spelled by these tokens
abbrev Before : Left → Term → List Token → Type 0
Before None p before = IsProduct p before
Before (Some (s, (Add, line))) p before = (f g : List Token) × (before ≡ f ++ (sign Add line ∷ g)) × IsSum s f × IsProduct p g
Before (Some (s, (Sub, line))) p before = (f g : List Token) × (before ≡ f ++ (sign Sub line ∷ g)) × IsSum s f × IsProduct p g
Before (Some (s, (Mul, line))) p before = ⊥

product_is_sum : (p : Term) (before : List Token) → IsProduct p before → IsSum p before
product_is_sum (Number n) before h = h
product_is_sum (Apply Mul line a b) before h = h
product_is_sum (Apply Add line a b) before h = absurd h
product_is_sum (Apply Sub line a b) before h = absurd h

joined_sum : (left : Left) (p : Term) (before : List Token) → Before left p before → IsSum (joined left p) before
joined_sum None p before h = product_is_sum p before h
joined_sum (Some (s, (Add, line))) p before h = h
joined_sum (Some (s, (Sub, line))) p before h = h
joined_sum (Some (s, (Mul, line))) p before h = absurd h

more_after : (f g more before : List Token) (x : Token) → before ≡ f ++ (x ∷ g) → before ++ more ≡ f ++ (x ∷ (g ++ more))
more_after f g more before x e = ap (λ b. b ++ more) e ∙ append_assoc f (x ∷ g) more

-- one more operator and literal were read
grown : (op : Arith) (line : ℕ) (n : ℤ) (left : Left) (p : Term) (before : List Token) (u : Token) → kinds (u ∷ []) ≡ Literal n ∷ [] → Before left p before → Before (left_after op line left p) (product_after op line p n) (before ++ (sign op line ∷ u ∷ []))
grown Mul line n None p before u k h = (before, u ∷ [], refl, h, k)
grown Mul line n (Some (s, (Add, at))) p before u k h =
    (h.0, h.1 ++ (sign Mul line ∷ u ∷ []), more_after h.0 h.1 (sign Mul line ∷ u ∷ []) before (sign Add at) h.2, h.3, (h.1, u ∷ [], refl, h.4, k))
grown Mul line n (Some (s, (Sub, at))) p before u k h =
    (h.0, h.1 ++ (sign Mul line ∷ u ∷ []), more_after h.0 h.1 (sign Mul line ∷ u ∷ []) before (sign Sub at) h.2, h.3, (h.1, u ∷ [], refl, h.4, k))
grown Mul line n (Some (s, (Mul, at))) p before u k h = absurd h
grown Add line n left p before u k h = (before, u ∷ [], refl, joined_sum left p before h, k)
grown Sub line n left p before u k h = (before, u ∷ [], refl, joined_sum left p before h, k)

found_operator : {R : Type 0} (o : Option Arith) (next : Arith → Option (Term × List Token)) (sum : Term) (tokens : List Token) (r : Term × List Token) → (◌≡◌ {A = Option (Term × List Token)} (Some (sum, tokens)) (Some r) → R) → ((op : Arith) → o ≡ Some op → next op ≡ Some r → R) → with_operator o next sum tokens ≡ Some r → R
found_operator None next sum tokens r done more e = done e
found_operator (Some op) next sum tokens r done more e = more op refl e

found_literal : {R : Type 0} (o : Option ℤ) (next : ℤ → Option (Term × List Token)) (r : Term × List Token) → ((n : ℤ) → o ≡ Some n → next n ≡ Some r → R) → with_literal o next ≡ Some r → R
found_literal None next r more e = absurd (found_nothing r e)
found_literal (Some n) next r more e = more n refl e

-- a Sum at the front of these tokens
record SumAt (tokens : List Token) (a : Term) (rest : List Token) : Type 0 where
  front : List Token
  parts : tokens ≡ front ++ rest
  sum : IsSum a front

sum_done : (left : Left) (p : Term) (before tokens : List Token) (r : Term × List Token) → Before left p before → ◌≡◌ {A = Option (Term × List Token)} (Some (joined left p, tokens)) (Some r) → SumAt (before ++ tokens) r.0 r.1
sum_done left p before tokens r h e =
    let q = found_same (joined left p, tokens) r e in
    record {
      front = before;
      parts = ap (λ (x : Term × List Token). before ++ x.1) q;
      sum = subst (λ (x : Term × List Token). IsSum x.0 before) q (joined_sum left p before h);
    }

same_sign : (t : Token) (op : Arith) → operator_of t.kind ≡ Some op → t ≡ sign op t.line
same_sign t op e = ap (λ (k : Kind). let s : Token = record { kind = k; line = t.line } in s) (operator_kind t.kind op e)

sum_on_at : (left : Left) (p : Term) (tokens before : List Token) (r : Term × List Token) → Before left p before → sum_on left p tokens ≡ Some r → SumAt (before ++ tokens) r.0 r.1
sum_on_at left p [] before r h e = sum_done left p before [] r h e
sum_on_at left p (t ∷ []) before r h e =
    found_operator (operator_of t.kind) _ (joined left p) (t ∷ []) r (sum_done left p before (t ∷ []) r h) (λ op k e. absurd (found_nothing r e)) e
sum_on_at left p (t ∷ u ∷ ts) before r h e =
    found_operator (operator_of t.kind) _ (joined left p) (t ∷ u ∷ ts) r (sum_done left p before (t ∷ u ∷ ts) r h)
    (λ op k e. found_literal (literal_of u.kind) _ r (λ n m e.
    let ks : kinds (u ∷ []) ≡ Literal n ∷ [] = ap (λ k. k ∷ []) (literal_kind u.kind n m) in
    let s = sum_on_at (left_after op t.line left p) (product_after op t.line p n) ts (before ++ (sign op t.line ∷ u ∷ [])) r (grown op t.line n left p before u ks h) e in
    let flat : before ++ (t ∷ u ∷ ts) ≡ (before ++ (sign op t.line ∷ u ∷ [])) ++ ts = ap (λ x. before ++ (x ∷ u ∷ ts)) (same_sign t op k) ∙ sym (append_assoc before (sign op t.line ∷ u ∷ []) ts) in
    record { front = s.front; parts = flat ∙ s.parts; sum = s.sum }) e) e

sum_at_front : (tokens : List Token) (r : Term × List Token) → sum_at tokens ≡ Some r → SumAt tokens r.0 r.1
sum_at_front [] r e = absurd (found_nothing r e)
sum_at_front (t ∷ ts) r e =
    found_literal (literal_of t.kind) _ r (λ n m e. sum_on_at None (Number n) ts (t ∷ []) r (ap (λ k. k ∷ []) (literal_kind t.kind n m)) e) e

-- a statement at the front
record StatementAt (tokens : List Token) (put : Term) (rest : List Token) : Type 0 where
  front : List Token
  parts : tokens ≡ front ++ rest
  statement : IsStatement put front

put_front : (tokens rest : List Token) (put : Term) → PutAt tokens put rest → StatementAt tokens put rest
put_front tokens rest put p =
    let a = front_after (Io ∷ Dot ∷ PutInt ∷ Open ∷ []) tokens p.sum p.call in
    let s = sum_at_front p.sum (put, p.close) p.term in
    let c = front_after (Close ∷ []) p.close rest p.end in
    let flat : tokens ≡ (a.front ++ (s.front ++ c.front)) ++ rest =
    a.parts ∙ ap (λ x. a.front ++ x) (s.parts ∙ ap (λ x. s.front ++ x) c.parts ∙ sym (append_assoc s.front c.front rest)) ∙ sym (append_assoc a.front (s.front ++ c.front) rest) in
    record {
      front = a.front ++ (s.front ++ c.front);
      parts = flat;
      statement = record { front = a.front; sum = s.front; back = c.front; parts = refl; call = a.same; argument = s.sum; close = c.same };
    }

-- statements and the end
record BodyAt (tokens : List Token) (puts : List Term) : Type 0 where
  body : List Token
  back : List Token
  parts : tokens ≡ body ++ back
  statements : IsBody puts body
  trailer : kinds back ≡ End ∷ Main ∷ Dot ∷ []

end_back : (tokens : List Token) → IsEnd tokens → kinds tokens ≡ End ∷ Main ∷ Dot ∷ []
end_back tokens e =
    let f = front_after (End ∷ Main ∷ Dot ∷ []) tokens [] e in ap kinds (f.parts ∙ append-nil f.front) ∙ f.same

one_statement : (tokens rest : List Token) (put : Term) → StatementAt tokens put rest → IsEnd rest → BodyAt tokens (put ∷ [])
one_statement tokens rest put s e = record {
  body = s.front;
  back = rest;
  parts = s.parts;
  statements = (s.front, [], sym (append-nil s.front), s.statement, inl refl);
  trailer = end_back rest e;
}

more_statements : (tokens rest next : List Token) (put : Term) (puts : List Term) → StatementAt tokens put rest → After (Semicolon ∷ []) rest next → BodyAt next puts → BodyAt tokens (put ∷ puts)
more_statements tokens rest next put [] s a b =
    let f = front_after (Semicolon ∷ []) rest next a in
    let flat : tokens ≡ (s.front ++ f.front) ++ b.back =
    s.parts ∙ ap (λ x. s.front ++ x) (f.parts ∙ ap (λ x. f.front ++ x) (b.parts ∙ ap (λ x. x ++ b.back) b.statements)) ∙ sym (append_assoc s.front f.front b.back) in
    record { body = s.front ++ f.front; back = b.back; parts = flat; statements = (s.front, f.front, refl, s.statement, inr f.same); trailer = b.trailer }
more_statements tokens rest next put (q ∷ puts) s a b =
    let f = front_after (Semicolon ∷ []) rest next a in
    let flat : tokens ≡ (s.front ++ (f.front ++ b.body)) ++ b.back =
    s.parts ∙ ap (λ x. s.front ++ x) (f.parts ∙ ap (λ x. f.front ++ x) b.parts ∙ sym (append_assoc f.front b.body b.back)) ∙ sym (append_assoc s.front (f.front ++ b.body) b.back) in
    record { body = s.front ++ (f.front ++ b.body); back = b.back; parts = flat; statements = (s.front, f.front, b.body, refl, s.statement, f.same, b.statements); trailer = b.trailer }

body_at : (puts : List Term) (tokens : List Token) → Statements puts tokens → BodyAt tokens puts
body_at [] tokens s = record { body = []; back = tokens; parts = refl; statements = refl; trailer = end_back tokens s }
body_at (put ∷ puts) tokens s = after_one tokens s.0 put puts (put_front tokens s.0 put s.1) (λ next st. body_at puts next st) s.2
  where
    after_one : (tokens rest : List Token) (put : Term) (puts : List Term) → StatementAt tokens put rest → ((next : List Token) → Statements puts next → BodyAt next puts) → ((puts ≡ []) × IsEnd rest) ⊎ ((next : List Token) × After (Semicolon ∷ []) rest next × Statements puts next) → BodyAt tokens (put ∷ puts)
    after_one tokens rest put puts s more (inl e) = subst (λ ps. BodyAt tokens (put ∷ ps)) (sym e.0) (one_statement tokens rest put s e.1)
    after_one tokens rest put puts s more (inr n) = more_statements tokens rest n.0 put puts s n.1 (more n.0 n.2)

-- what is read is a module of the grammar
pub parses_module : (puts : List Term) (tokens : List Token) → Parses tokens puts → IsModule puts tokens
parses_module puts tokens p =
    let f = front_after header tokens p.rest p.header in
    let b = body_at puts p.rest p.statements in
    record { front = f.front; body = b.body; back = b.back; parts = f.parts ∙ ap (λ x. f.front ++ x) b.parts; header = f.same; statements = b.statements; trailer = b.trailer }

-- tokens make one module
statements_same : (a b : List Term) (tokens : List Token) → Statements a tokens → Statements b tokens → a ≡ b
statements_same [] [] tokens s t = refl
statements_same [] (q ∷ qs) tokens s t = let io = put_begins tokens t.0 q t.1 in absurd (end_begins tokens io.0 Io io_end io.1 s)
statements_same (p ∷ ps) [] tokens s t = let io = put_begins tokens s.0 p s.1 in absurd (end_begins tokens io.0 Io io_end io.1 t)
statements_same (p ∷ ps) (q ∷ qs) tokens s t =
    let same = same_put tokens p q s.0 t.0 s.1 t.1 in
    after_both p q ps qs s.0 t.0 same.0 same.1 (λ n x y. statements_same ps qs n x y) s.2 t.2
  where
    after_both : (p q : Term) (ps qs : List Term) (rest rest' : List Token) → p ≡ q → rest ≡ rest' → ((n : List Token) → Statements ps n → Statements qs n → ps ≡ qs)
        → ((ps ≡ []) × IsEnd rest) ⊎ ((next : List Token) × After (Semicolon ∷ []) rest next × Statements ps next)
        → ((qs ≡ []) × IsEnd rest') ⊎ ((next : List Token) × After (Semicolon ∷ []) rest' next × Statements qs next) → p ∷ ps ≡ q ∷ qs
    after_both p q ps qs rest rest' e f same (inl a) (inl b) = ap (λ x. x ∷ ps) e ∙ ap (λ x. q ∷ x) (a.0 ∙ sym b.0)
    after_both p q ps qs rest rest' e f same (inl a) (inr b) = absurd (end_begins rest b.0 Semicolon semicolon_end (subst (λ x. After (Semicolon ∷ []) x b.0) (sym f) b.1) a.1)
    after_both p q ps qs rest rest' e f same (inr a) (inl b) = absurd (end_begins rest a.0 Semicolon semicolon_end a.1 (subst IsEnd (sym f) b.1))
    after_both p q ps qs rest rest' e f same (inr a) (inr b) =
        let n = same_rest (Semicolon ∷ []) rest b.0 a.0 (subst (λ x. After (Semicolon ∷ []) x b.0) (sym f) b.1) a.1 in
        ap (λ x. x ∷ ps) e ∙ ap (λ x. q ∷ x) (same a.0 a.2 (subst (λ x. Statements qs x) n b.2))

pub one_module : (a b : List Term) (tokens : List Token) → IsModule a tokens → IsModule b tokens → a ≡ b
one_module a b tokens m n =
    let p = module_parses a tokens m in
    let q = module_parses b tokens n in
    statements_same a b p.rest p.statements (subst (λ x. Statements b x) (same_rest header tokens q.rest p.rest q.header p.header) q.statements)

-- ---- a term has no more nodes than tokens

product_nodes : (a : Term) (front : List Token) → IsProduct a front → nodes a ≤ length front
product_nodes (Number n) front h = let t = one_kind (Literal n) front h in omega (arith, ap length t.1)
product_nodes (Apply Mul line a (Number n)) front h =
    let l = product_nodes a h.0 h.3 in
    let t = one_kind (Literal n) h.1 h.4 in
    omega (arith, ap length h.2, length-append h.0 (sign Mul line ∷ h.1), ap length t.1)
product_nodes (Apply Mul line a (Apply op at b c)) front h = absurd h
product_nodes (Apply Add line a b) front h = absurd h
product_nodes (Apply Sub line a b) front h = absurd h

sum_nodes : (a : Term) (front : List Token) → IsSum a front → nodes a ≤ length front
sum_nodes (Apply Add line a b) front h =
    let l = sum_nodes a h.0 h.3 in
    let r = product_nodes b h.1 h.4 in
    omega (arith, ap length h.2, length-append h.0 (sign Add line ∷ h.1))
sum_nodes (Apply Sub line a b) front h =
    let l = sum_nodes a h.0 h.3 in
    let r = product_nodes b h.1 h.4 in
    omega (arith, ap length h.2, length-append h.0 (sign Sub line ∷ h.1))
sum_nodes (Apply Mul line a b) front h = product_nodes (Apply Mul line a b) front h
sum_nodes (Number n) front h = product_nodes (Number n) front h

statement_nodes : (put : Term) (front : List Token) → IsStatement put front → nodes put ≤ length front
statement_nodes put front s =
    let l = sum_nodes put s.sum s.argument in
    omega (arith, ap length s.parts, length-append s.front (s.sum ++ s.back), length-append s.sum s.back)

body_nodes : (puts : List Term) (body : List Token) → IsBody puts body → all_nodes puts ≤ length body
body_nodes [] body h = omega arith
body_nodes (put ∷ []) body h =
    let l = statement_nodes put h.0 h.3 in omega (arith, ap length h.2, length-append h.0 h.1)
body_nodes (put ∷ q ∷ puts) body h =
    let l = statement_nodes put h.0 h.4 in
    let r = body_nodes (q ∷ puts) h.2 h.6 in
    omega (arith, ap length h.3, length-append h.0 (h.1 ++ h.2), length-append h.1 h.2)

pub module_nodes : (puts : List Term) (tokens : List Token) → IsModule puts tokens → all_nodes puts ≤ length tokens
module_nodes puts tokens m =
    let l = body_nodes puts m.body m.statements in
    omega (arith, ap length m.parts, length-append m.front (m.body ++ m.back), length-append m.body m.back)
