-- The reader of statements goes on by a token, an operator or a statement.
use Rattle.std.specs.Prelude.{IsTrue, ◌↔◌}
use Rattle.std.proofs.lemmas.Bool.{false≢true}
use Rattle.std.proofs.Common.{Bool, true, false, ◌≡◌, ◌≢◌, ℕ, ◌+◌, ◌-◌, ◌<◌, ◌≤◌, ℤ, List, [], ◌∷◌, ◌++◌, length, get_or, take, drop, Option, None, Some, refl, sym, ap, ◌∙◌, subst, inl, inr, ◌⊎◌, arith, append_assoc, append-nil, length-take, length-drop}
use Rattle.std.proofs.lemmas.List.{drop_more, take_rest}
use Rattle.m3_plain.specs.declared.plain.Arith.{Arith}
use Rattle.m3_plain.specs.declared.tokens.Kind.{Kind}
use Rattle.m3_plain.specs.declared.tokens.Kind.TheVariants.{Module, Main, Import, Io, Begin, End, PutInt, Semicolon, Dot, Open, Close}
use Rattle.m3_plain.specs.declared.tokens.Token.{Token}
use Rattle.std.proofs.lemmas.List.{map-append}
use Rattle.m3_plain.specs.declared.plain.Plain.{Plain}
use Rattle.m3_plain.specs.Terms.{Term, Number, term_of, terms_of}
use Rattle.m3_plain.specs.Parsing.{After, literal_of, operator_of, Left, joined, with_rest, with_line, operator_at, left_after, product_after, with_literal, with_operator, sum_on, sum_at, literal_at, PutAt, IsEnd, Statements, Parses}

abbrev none : Token
none = record { kind = Module; line = 0 }

-- ---- tokens of given kinds

pub same_rest : (kinds : List Kind) (tokens r r' : List Token) → After kinds tokens r → After kinds tokens r' → r ≡ r'
same_rest [] tokens r r' h h' = sym h ∙ h'
same_rest (k ∷ ks) [] r r' h h' = absurd h
same_rest (k ∷ ks) (t ∷ ts) r r' h h' = same_rest ks ts r r' h.1 h'.1

pub begins_yes : (tokens : List Token) (kind : Kind) → 1 ≤ length tokens → (get_or tokens 0 none).kind ≡ kind → (rest : List Token) × After (kind ∷ []) tokens rest
begins_yes [] kind h e = absurd (omega arith)
begins_yes (t ∷ ts) kind h e = (ts, (e, refl))

pub begins_no : (tokens : List Token) (kind : Kind) → 1 ≤ length tokens → (get_or tokens 0 none).kind ≢ kind → ((rest : List Token) × After (kind ∷ []) tokens rest) → ⊥
begins_no [] kind h e a = absurd (omega arith)
begins_no (t ∷ ts) kind h e a = e a.1.0

pub begins_is : (b : Bool) (tokens : List Token) (kind : Kind) → 1 ≤ length tokens → (IsTrue b → (get_or tokens 0 none).kind ≡ kind) → (b ≡ false → (get_or tokens 0 none).kind ≢ kind) → IsTrue b ↔ ((rest : List Token) × After (kind ∷ []) tokens rest)
begins_is true tokens kind h same other = (λ t. begins_yes tokens kind h (same t), λ _. refl)
begins_is false tokens kind h same other = (λ t. absurd (false≢true t), λ found. absurd (begins_no tokens kind h (other refl) found))

pub no_tokens : (kinds : List Kind) (i : ℕ) (left rest : List Token) → i < length kinds → length left < 1 → After (drop i kinds) left rest → ⊥
no_tokens kinds i [] rest h l a =
    let a' = subst (λ ks. After ks [] rest) (drop_more kinds i Module h) a in a'
no_tokens kinds i (t ∷ ts) rest h l a = absurd (omega arith)

pub other_kind : (kinds : List Kind) (i : ℕ) (left rest : List Token) → i < length kinds → 1 ≤ length left → (get_or left 0 none).kind ≢ get_or kinds i Module → After (drop i kinds) left rest → ⊥
other_kind kinds i [] rest h l e a = absurd (omega arith)
other_kind kinds i (t ∷ ts) rest h l e a =
    let a' = subst (λ ks. After ks (t ∷ ts) rest) (drop_more kinds i Module h) a in e a'.0

-- ---- sums

pub found_nothing : {A : Type 0} (a : A) → None ≡ Some a → ⊥
found_nothing a e = cc

pub found_same : {A : Type 0} (a b : A) → Some a ≡ Some b → a ≡ b
found_same a b e = cc

pair_parts : (m n : ℤ) (xs ys : List Token) → ◌≡◌ {A = ℤ × List Token} (m, xs) (n, ys) → (m ≡ n) × (xs ≡ ys)
pair_parts m n xs ys e = (ap (λ (p : ℤ × List Token). p.0) e, ap (λ (p : ℤ × List Token). p.1) e)

rest_parts : (o : Option ℤ) (ts : List Token) (n : ℤ) (rest : List Token) → with_rest o ts ≡ Some (n, rest) → (o ≡ Some n) × (ts ≡ rest)
rest_parts None ts n rest e = absurd (found_nothing (n, rest) e)
rest_parts (Some m) ts n rest e = let p = pair_parts m n ts rest (found_same (m, ts) (n, rest) e) in (ap Some p.0, p.1)

no_rest : (o : Option ℤ) (ts : List Token) → with_rest o ts ≡ None → o ≡ None
no_rest None ts e = refl
no_rest (Some m) ts e = absurd (found_nothing (m, ts) (sym e))

line_parts : (o : Option Arith) (l line : ℕ) (ts rest : List Token) (op : Arith) → with_line o l ts ≡ Some (op, (line, rest)) → (o ≡ Some op) × (l ≡ line) × (ts ≡ rest)
line_parts None l line ts rest op e = absurd (found_nothing (op, (line, rest)) e)
line_parts (Some op') l line ts rest op e =
    let p = found_same (op', (l, ts)) (op, (line, rest)) e in
    (ap (λ (x : Arith × (ℕ × List Token)). Some x.0) p, ap (λ (x : Arith × (ℕ × List Token)). x.1.0) p, ap (λ (x : Arith × (ℕ × List Token)). x.1.1) p)

no_line : (o : Option Arith) (l : ℕ) (ts : List Token) → with_line o l ts ≡ None → o ≡ None
no_line None l ts e = refl
no_line (Some op) l ts e = absurd (found_nothing (op, (l, ts)) (sym e))

-- one more operator and literal of a Sum
pub sum_goes_on : (left : Left) (product : Term) (tokens after rest : List Token) (op : Arith) (line : ℕ) (n : ℤ) → operator_at tokens ≡ Some (op, (line, after)) → literal_at after ≡ Some (n, rest) → sum_on left product tokens ≡ sum_on (left_after op line left product) (product_after op line product n) rest
sum_goes_on left product [] after rest op line n o e = absurd (found_nothing (op, (line, after)) o)
sum_goes_on left product (t ∷ []) after rest op line n o e =
    let q = line_parts (operator_of t.kind) t.line line [] after op o in
    absurd (found_nothing (n, rest) (ap literal_at q.2 ∙ e))
sum_goes_on left product (t ∷ u ∷ ts) after rest op line n o e =
    let q = line_parts (operator_of t.kind) t.line line (u ∷ ts) after op o in
    let p = rest_parts (literal_of u.kind) ts n rest (ap literal_at q.2 ∙ e) in
    ap (λ o. with_operator o (λ op. with_literal (literal_of u.kind) (λ n. sum_on (left_after op t.line left product) (product_after op t.line product n) ts)) (joined left product) (t ∷ u ∷ ts)) q.0
    ∙ ap (λ o. with_literal o (λ n. sum_on (left_after op t.line left product) (product_after op t.line product n) ts)) p.0
    ∙ ap (λ r. sum_on (left_after op t.line left product) (product_after op t.line product n) r) p.1
    ∙ ap (λ x. sum_on (left_after op x left product) (product_after op x product n) rest) q.1

-- no Sum, where no literal follows an operator
pub sum_stops : (left : Left) (product : Term) (tokens after : List Token) (op : Arith) (line : ℕ) → operator_at tokens ≡ Some (op, (line, after)) → literal_at after ≡ None → sum_on left product tokens ≡ None
sum_stops left product [] after op line o e = absurd (found_nothing (op, (line, after)) o)
sum_stops left product (t ∷ []) after op line o e =
    let q = line_parts (operator_of t.kind) t.line line [] after op o in
    ap (λ o. with_operator o (λ op. None) (joined left product) (t ∷ [])) q.0
sum_stops left product (t ∷ u ∷ ts) after op line o e =
    let q = line_parts (operator_of t.kind) t.line line (u ∷ ts) after op o in
    ap (λ o. with_operator o (λ op. with_literal (literal_of u.kind) (λ n. sum_on (left_after op t.line left product) (product_after op t.line product n) ts)) (joined left product) (t ∷ u ∷ ts)) q.0
    ∙ ap (λ o. with_literal o (λ n. sum_on (left_after op t.line left product) (product_after op t.line product n) ts)) (no_rest (literal_of u.kind) ts (ap literal_at q.2 ∙ e))

-- the whole Sum, where no operator follows
pub sum_ends : (left : Left) (product : Term) (tokens : List Token) → operator_at tokens ≡ None → sum_on left product tokens ≡ Some (joined left product, tokens)
sum_ends left product [] o = refl
sum_ends left product (t ∷ []) o = ap (λ o. with_operator o (λ op. None) (joined left product) (t ∷ [])) (no_line (operator_of t.kind) t.line [] o)
sum_ends left product (t ∷ u ∷ ts) o =
    ap (λ o. with_operator o (λ op. with_literal (literal_of u.kind) (λ n. sum_on (left_after op t.line left product) (product_after op t.line product n) ts)) (joined left product) (t ∷ u ∷ ts)) (no_line (operator_of t.kind) t.line (u ∷ ts) o)

operator_parts : (tokens : List Token) (op : Arith) (line : ℕ) (after : List Token) → operator_at tokens ≡ Some (op, (line, after)) → (t : Token) × (tokens ≡ t ∷ after)
operator_parts [] op line after o = absurd (found_nothing (op, (line, after)) o)
operator_parts (t ∷ ts) op line after o = let q = line_parts (operator_of t.kind) t.line line ts after op o in (t, ap (λ x. t ∷ x) q.2)

literal_shorter : (tokens rest : List Token) (n : ℤ) → literal_at tokens ≡ Some (n, rest) → length rest < length tokens
literal_shorter [] rest n e = absurd (found_nothing (n, rest) e)
literal_shorter (t ∷ ts) rest n e = let p = rest_parts (literal_of t.kind) ts n rest e in omega (arith, ap length p.1)

pub sum_shorter : (tokens after rest : List Token) (op : Arith) (line : ℕ) (n : ℤ) → operator_at tokens ≡ Some (op, (line, after)) → literal_at after ≡ Some (n, rest) → length rest < length tokens
sum_shorter tokens after rest op line n o e =
    let q = operator_parts tokens op line after o in
    let l = literal_shorter after rest n e in
    omega (arith, ap length q.1)

-- ---- statements

-- one statement of given tokens
pub same_put : (tokens : List Token) (put put' : Term) (rest rest' : List Token) → PutAt tokens put rest → PutAt tokens put' rest' → (put ≡ put') × (rest ≡ rest')
same_put tokens put put' rest rest' p p' =
    let s = same_rest (Io ∷ Dot ∷ PutInt ∷ Open ∷ []) tokens p.sum p'.sum p.call p'.call in
    let e = found_same (put, p.close) (put', p'.close) (sym p.term ∙ ap sum_at s ∙ p'.term) in
    let c = ap (λ (x : Term × List Token). x.1) e in
    (ap (λ (x : Term × List Token). x.0) e, same_rest (Close ∷ []) p.close rest rest' p.end (subst (λ x. After (Close ∷ []) x rest') (sym c) p'.end))

pub no_call : (tokens : List Token) → ((rest : List Token) → After (Io ∷ Dot ∷ PutInt ∷ Open ∷ []) tokens rest → ⊥) → (put : Term) (rest : List Token) → PutAt tokens put rest → ⊥
no_call tokens h put rest p = h p.sum p.call

pub no_sum : (tokens sum : List Token) → After (Io ∷ Dot ∷ PutInt ∷ Open ∷ []) tokens sum → sum_at sum ≡ None → (put : Term) (rest : List Token) → PutAt tokens put rest → ⊥
no_sum tokens sum a e put rest p =
    let s = same_rest (Io ∷ Dot ∷ PutInt ∷ Open ∷ []) tokens sum p.sum a p.call in
    found_nothing (put, p.close) (sym e ∙ ap sum_at s ∙ p.term)

pub no_close : (tokens sum close : List Token) (term : Term) → After (Io ∷ Dot ∷ PutInt ∷ Open ∷ []) tokens sum → sum_at sum ≡ Some (term, close) → ((rest : List Token) → After (Close ∷ []) close rest → ⊥) → (put : Term) (rest : List Token) → PutAt tokens put rest → ⊥
no_close tokens sum close term a e h put rest p =
    let s = same_rest (Io ∷ Dot ∷ PutInt ∷ Open ∷ []) tokens sum p.sum a p.call in
    let c = ap (λ (x : Term × List Token). x.1) (found_same (term, close) (put, p.close) (sym e ∙ ap sum_at s ∙ p.term)) in
    h rest (subst (λ x. After (Close ∷ []) x rest) (sym c) p.end)

-- the end doesn't begin a statement
pub end_begins : (tokens rest : List Token) (k : Kind) → k ≢ End → After (k ∷ []) tokens rest → IsEnd tokens → ⊥
end_begins [] rest k h a e = a
end_begins (t ∷ ts) rest k h a e = h (sym a.0 ∙ e.0)

pub put_begins : (tokens rest : List Token) (put : Term) → PutAt tokens put rest → (rest : List Token) × After (Io ∷ []) tokens rest
put_begins [] rest put p = absurd p.call
put_begins (t ∷ ts) rest put p = (ts, (p.call.0, refl))

-- ---- bodies

pub io_end : Io ≢ End
io_end e = cc

pub semicolon_end : Semicolon ≢ End
semicolon_end e = cc

goes_on : (sofar : List Term) (rest left next : List Token) (put : Term) (all m : List Term) → ((r : List Token) × After (Io ∷ []) rest r) → PutAt rest put left → After (Semicolon ∷ []) left next → all ≡ sofar ++ m → Statements m rest → (more : List Term) × (all ≡ (sofar ++ put ∷ []) ++ more) × Statements more next
goes_on sofar rest left next put all [] io p a e s = absurd (end_begins rest io.0 Io io_end io.1 s)
goes_on sofar rest left next put all (put' ∷ m) io p a e s =
    let same = same_put rest put put' left s.0 p s.1 in
    goes_after sofar rest left s.0 next put put' all m same.0 same.1 a e s.2
  where
    goes_after : (sofar : List Term) (rest left left' next : List Token) (put put' : Term) (all m : List Term) → put ≡ put' → left ≡ left' → After (Semicolon ∷ []) left next → all ≡ sofar ++ put' ∷ m → ((m ≡ []) × IsEnd left') ⊎ ((next' : List Token) × After (Semicolon ∷ []) left' next' × Statements m next') → (more : List Term) × (all ≡ (sofar ++ put ∷ []) ++ more) × Statements more next
    goes_after sofar rest left left' next put put' all m same same_left a e (inl end) =
        absurd (end_begins left next Semicolon semicolon_end a (subst IsEnd (sym same_left) end.1))
    goes_after sofar rest left left' next put put' all m same same_left a e (inr more) =
        let a' = subst (λ x. After (Semicolon ∷ []) x more.0) (sym same_left) more.1 in
        let n = same_rest (Semicolon ∷ []) left more.0 next a' a in
        (m, e ∙ ap (λ x. sofar ++ x ∷ m) (sym same) ∙ sym (append_assoc sofar (put ∷ []) m), subst (λ x. Statements m x) n more.2)

stops : (rest left : List Token) (put : Term) (m : List Term) → ((r : List Token) × After (Io ∷ []) rest r) → PutAt rest put left → (((r : List Token) × After (Semicolon ∷ []) left r) → ⊥) → (IsEnd left → ⊥) → Statements m rest → ⊥
stops rest left put [] io p semi end s = end_begins rest io.0 Io io_end io.1 s
stops rest left put (put' ∷ m) io p semi end s =
    let same = same_put rest put put' left s.0 p s.1 in
    stops_after left s.0 m same.1 semi end s.2
  where
    stops_after : (left left' : List Token) (m : List Term) → left ≡ left' → (((r : List Token) × After (Semicolon ∷ []) left r) → ⊥) → (IsEnd left → ⊥) → ((m ≡ []) × IsEnd left') ⊎ ((next' : List Token) × After (Semicolon ∷ []) left' next' × Statements m next') → ⊥
    stops_after left left' m same semi end (inl e) = end (subst IsEnd (sym same) e.1)
    stops_after left left' m same semi end (inr more) = semi (more.0, subst (λ x. After (Semicolon ∷ []) x more.0) (sym same) more.1)

begins_none : (rest : List Token) (m : List Term) → (((r : List Token) × After (Io ∷ []) rest r) → ⊥) → (IsEnd rest → ⊥) → Statements m rest → ⊥
begins_none rest [] io end s = end s
begins_none rest (put ∷ m) io end s = io (put_begins rest s.0 put s.1)

put_none : (rest : List Token) (m : List Term) → ((r : List Token) × After (Io ∷ []) rest r) → ((put : Term) (left : List Token) → PutAt rest put left → ⊥) → Statements m rest → ⊥
put_none rest [] io not_put s = end_begins rest io.0 Io io_end io.1 s
put_none rest (put ∷ m) io not_put s = not_put put s.0 s.1

semicolon_drop : (left : List Token) → ((r : List Token) × After (Semicolon ∷ []) left r) → After (Semicolon ∷ []) left (drop 1 left)
semicolon_drop [] a = absurd a.1
semicolon_drop (t ∷ ts) a = (a.1.0, refl)

module _ (start : List Token) where
  -- the puts so far lead from the first statement to the tokens that are left
  pub record Leaves (sofar : List Term) (left : List Token) : Type 0 where
    pub back : (more : List Term) → Statements more left → Statements (sofar ++ more) start
    pub forth : (all : List Term) → Statements all start → (more : List Term) × (all ≡ sofar ++ more) × Statements more left

  pub leaves_start : Leaves [] start
  leaves_start = record { back = λ more s. s; forth = λ all s. (all, refl, s) }

  pub leaves_put : (sofar : List Term) (rest left next : List Token) (put : Term) → Leaves sofar rest → ((r : List Token) × After (Io ∷ []) rest r) → PutAt rest put left → After (Semicolon ∷ []) left next → Leaves (sofar ++ put ∷ []) next
  leaves_put sofar rest left next put l io p a = record {
    back = λ more s. subst (λ ts. Statements ts start) (sym (append_assoc sofar (put ∷ []) more)) (l.back (put ∷ more) (left, p, inr (next, a, s)));
    forth = λ all s. let m = l.forth all s in goes_on sofar rest left next put all m.0 io p a m.1 m.2;
  }

  -- the last statement, with no semicolon after it
  pub leaves_last : (sofar : List Term) (rest left : List Token) (put : Term) → Leaves sofar rest → PutAt rest put left → IsEnd left → Statements (sofar ++ put ∷ []) start
  leaves_last sofar rest left put l p e = l.back (put ∷ []) (left, p, inl (refl, e))

  pub leaves_no_last : (sofar : List Term) (rest left : List Token) (put : Term) → Leaves sofar rest → ((r : List Token) × After (Io ∷ []) rest r) → PutAt rest put left → (((r : List Token) × After (Semicolon ∷ []) left r) → ⊥) → (IsEnd left → ⊥) → (all : List Term) → Statements all start → ⊥
  leaves_no_last sofar rest left put l io p semi end all s = let m = l.forth all s in stops rest left put m.0 io p semi end m.2

  -- no statement is left
  pub leaves_end : (sofar : List Term) (rest : List Token) → Leaves sofar rest → IsEnd rest → Statements sofar start
  leaves_end sofar rest l e = subst (λ ts. Statements ts start) (append-nil sofar) (l.back [] e)

  pub leaves_no_end : (sofar : List Term) (rest : List Token) → Leaves sofar rest → (((r : List Token) × After (Io ∷ []) rest r) → ⊥) → (IsEnd rest → ⊥) → (all : List Term) → Statements all start → ⊥
  leaves_no_end sofar rest l io end all s = let m = l.forth all s in begins_none rest m.0 io end m.2

  -- a statement is left, and it is none
  pub leaves_no_put : (sofar : List Term) (rest : List Token) → Leaves sofar rest → ((r : List Token) × After (Io ∷ []) rest r) → ((put : Term) (left : List Token) → PutAt rest put left → ⊥) → (all : List Term) → Statements all start → ⊥
  leaves_no_put sofar rest l io not_put all s = let m = l.forth all s in put_none rest m.0 io not_put m.2

-- the tokens after a semicolon
pub semicolon_rest : (left : List Token) → ((r : List Token) × After (Semicolon ∷ []) left r) → After (Semicolon ∷ []) left (take (length left - 1) (drop 1 left))
semicolon_rest left a = subst (λ r. After (Semicolon ∷ []) left r) (sym (take_rest left 1)) (semicolon_drop left a)

-- ---- what is left is shorter

after_shorter : (kinds : List Kind) (tokens rest : List Token) → After kinds tokens rest → length rest + length kinds ≡ length tokens
after_shorter [] tokens rest a = let e = ap length a in omega arith
after_shorter (k ∷ ks) [] rest a = absurd a
after_shorter (k ∷ ks) (t ∷ ts) rest a = let l = after_shorter ks ts rest a.1 in omega arith

operator_shorter : (o : Option Arith) (next : Arith → Option (Term × List Token)) (sum x : Term) (tokens rest : List Token) → ((op : Arith) → next op ≡ Some (x, rest) → length rest ≤ length tokens) → with_operator o next sum tokens ≡ Some (x, rest) → length rest ≤ length tokens
operator_shorter None next sum x tokens rest h e =
    let l = ap (λ (p : Term × List Token). length p.1) (found_same (sum, tokens) (x, rest) e) in omega arith
operator_shorter (Some op) next sum x tokens rest h e = h op e

literal_found : (o : Option ℤ) (next : ℤ → Option (Term × List Token)) (x : Term) (n : ℕ) (rest : List Token) → ((z : ℤ) → next z ≡ Some (x, rest) → length rest ≤ n) → with_literal o next ≡ Some (x, rest) → length rest ≤ n
literal_found None next x n rest h e = absurd (found_nothing (x, rest) e)
literal_found (Some z) next x n rest h e = h z e

sum_on_shorter : (left : Left) (product : Term) (tokens : List Token) (x : Term) (rest : List Token) → sum_on left product tokens ≡ Some (x, rest) → length rest ≤ length tokens
sum_on_shorter left product [] x rest e =
    let l = ap (λ (p : Term × List Token). length p.1) (found_same (joined left product, []) (x, rest) e) in omega arith
sum_on_shorter left product (t ∷ []) x rest e = operator_shorter (operator_of t.kind) _ (joined left product) x (t ∷ []) rest (λ op e. absurd (found_nothing (x, rest) e)) e
sum_on_shorter left product (t ∷ u ∷ ts) x rest e =
    operator_shorter (operator_of t.kind) _ (joined left product) x (t ∷ u ∷ ts) rest
    (λ op e. literal_found (literal_of u.kind) _ x (length (t ∷ u ∷ ts)) rest (λ n e. let l = sum_on_shorter (left_after op t.line left product) (product_after op t.line product n) ts x rest e in omega arith) e) e

sum_at_shorter : (tokens : List Token) (x : Term) (rest : List Token) → sum_at tokens ≡ Some (x, rest) → length rest ≤ length tokens
sum_at_shorter [] x rest e = absurd (found_nothing (x, rest) e)
sum_at_shorter (t ∷ ts) x rest e =
    literal_found (literal_of t.kind) _ x (length (t ∷ ts)) rest (λ n e. let l = sum_on_shorter None (Number n) ts x rest e in omega arith) e

pub put_shorter : (rest left : List Token) (put : Term) → PutAt rest put left → length left < length rest
put_shorter rest left put p =
    let a = after_shorter (Io ∷ Dot ∷ PutInt ∷ Open ∷ []) rest p.sum p.call in
    let b = sum_at_shorter p.sum put p.close p.term in
    let c = after_shorter (Close ∷ []) p.close left p.end in
    omega arith

pub semicolon_shorter : (rest left : List Token) (put : Term) → PutAt rest put left → length (take (length left - 1) (drop 1 left)) < length rest
semicolon_shorter rest left put p =
    let l = put_shorter rest left put p in
    omega (arith, length-take (length left - 1) (drop 1 left), length-drop 1 left)

-- ---- the whole module

abbrev pub header : List Kind
header = Module ∷ Main ∷ Semicolon ∷ Import ∷ Io ∷ Semicolon ∷ Begin ∷ []

pub same_parse : (tokens rest : List Token) → After header tokens rest → (sofar : List Term) (puts : List Plain) → terms_of puts ≡ sofar → Statements sofar rest → Parses tokens (terms_of puts)
same_parse tokens rest a sofar puts e s = record { rest = rest; header = a; statements = subst (λ ts. Statements ts rest) (sym e) s }

pub no_parse : (tokens rest : List Token) → After header tokens rest → ((all : List Term) → Statements all rest → ⊥) → (puts : List Term) → Parses tokens puts → ⊥
no_parse tokens rest a h puts p = h puts (subst (λ x. Statements puts x) (same_rest header tokens p.rest rest p.header a) p.statements)

pub more_terms : (puts : List Plain) (put : Plain) → terms_of (puts ++ put ∷ []) ≡ terms_of puts ++ term_of put ∷ []
more_terms puts put = map-append term_of puts (put ∷ [])

pub same_leaves : (start : List Token) (puts : List Plain) (sofar : List Term) (rest : List Token) → terms_of puts ≡ sofar → Leaves start sofar rest → Leaves start (terms_of puts) rest
same_leaves start puts sofar rest e l = subst (λ ts. Leaves start ts rest) (sym e) l

pub not_true : {P : Type 0} (b : Bool) → b ≡ false → (P → IsTrue b) → P → ⊥
not_true b e h p = false≢true (sym e ∙ h p)
