-- What the grammar says of the terms that are put: how many values there are at once, and that numbers are integers.
use Rattle.std.proofs.Common.{◌≡◌, ℕ, ◌+◌, ◌≤◌, ◌<◌, ◌^◌, ℤ, pos, List, [], ◌∷◌, ◌++◌, length, true, refl, sym, ap, ◌∙◌, subst, arith}
use Rattle.std.specs.Prelude.{IsTrue, max}
use Rattle.std.proofs.lemmas.Bool.Decides.{nat_tests}
use Rattle.m3_base.specs.Integers.{is_integer}
use Rattle.m3_plain.specs.declared.plain.Arith.TheVariants.{Add, Sub, Mul}
use Rattle.m3_plain.specs.declared.tokens.Kind.{Kind}
use Rattle.m3_plain.specs.declared.tokens.Kind.TheVariants.{Literal}
use Rattle.m3_plain.specs.declared.tokens.Token.{Token}
use Rattle.m3_plain.specs.Terms.{Term, Number, Apply, Value, Gives, Overflows, AreIntegers, AllIntegers, values_at_once, nodes, all_nodes, AreShallow, value_of, put_first, values_of, points_of}
use Rattle.m3_plain.specs.PlainForm.{number_of, IsLiteral, IsSpelled, Spells, IsProduct, IsSum, IsStatement, IsBody, IsModule, IsPlain}
use Rattle.m3_plain.proofs.Grammar.{one_kind, sign, module_nodes}

-- ---- values at once: a Sum, a Product and a literal

product_shallow : (t : Term) (tokens : List Token) → IsProduct t tokens → values_at_once t ≤ 2
product_shallow (Number n) tokens h = omega arith
product_shallow (Apply Mul line a (Number n)) tokens h = omega (arith, product_shallow a h.0 h.3)
product_shallow (Apply Mul line a (Apply op at b c)) tokens h = absurd h
product_shallow (Apply Add line a b) tokens h = absurd h
product_shallow (Apply Sub line a b) tokens h = absurd h

sum_shallow : (t : Term) (tokens : List Token) → IsSum t tokens → values_at_once t ≤ 3
sum_shallow (Apply Add line a b) tokens h = omega (arith, sum_shallow a h.0 h.3, product_shallow b h.1 h.4)
sum_shallow (Apply Sub line a b) tokens h = omega (arith, sum_shallow a h.0 h.3, product_shallow b h.1 h.4)
sum_shallow (Apply Mul line a b) tokens h = omega (arith, product_shallow (Apply Mul line a b) tokens h)
sum_shallow (Number n) tokens h = omega arith

statement_shallow : (put : Term) (tokens : List Token) → IsStatement put tokens → values_at_once put ≤ 16
statement_shallow put tokens s = omega (arith, sum_shallow put s.sum s.argument)

body_shallow : (puts : List Term) (tokens : List Token) → IsBody puts tokens → AreShallow puts
body_shallow [] tokens h = tt
body_shallow (put ∷ []) tokens h = (statement_shallow put h.0 h.3, tt)
body_shallow (put ∷ q ∷ puts) tokens h = (statement_shallow put h.0 h.4, body_shallow (q ∷ puts) h.2 h.6)

pub module_shallow : (puts : List Term) (tokens : List Token) → IsModule puts tokens → AreShallow puts
module_shallow puts tokens m = body_shallow puts m.body m.statements

-- ---- numbers

abbrev Fits : Kind → Type 0
Fits (Literal n) = IsTrue (is_integer n)
Fits _ = Unit {0}

abbrev AllFit : List Token → Type 0
AllFit [] = Unit {0}
AllFit (t ∷ ts) = Fits t.kind × AllFit ts

number_fits : (n : ℤ) (m : ℕ) → n ≡ pos m → m < 2 ^ 63 → IsTrue (is_integer n)
number_fits n m e h = let small : is_integer (pos m) ≡ true = grind (arith, nat_tests) in ap is_integer e ∙ small

spelled_fits : (k : Kind) (bytes : List ℕ) → IsSpelled k bytes → Fits k
spelled_fits (Literal n) bytes h = number_fits n (number_of bytes) h.value h.fits
spelled_fits _ bytes h = tt

spells_fit : (line : ℕ) (tokens : List Token) (text : List ℕ) → Spells line tokens text → AllFit tokens
spells_fit line [] text h = tt
spells_fit line (t ∷ ts) text h = (spelled_fits t.kind h.1.bytes h.1.spelled, spells_fit t.line ts h.0 h.2)

front_fits : (front back : List Token) → AllFit (front ++ back) → AllFit front
front_fits [] back h = tt
front_fits (t ∷ ts) back h = (h.0, front_fits ts back h.1)

back_fits : (front back : List Token) → AllFit (front ++ back) → AllFit back
back_fits [] back h = h
back_fits (t ∷ ts) back h = back_fits ts back h.1

cut : (tokens front back : List Token) → tokens ≡ front ++ back → AllFit tokens → AllFit front × AllFit back
cut tokens front back e h = let k = subst AllFit e h in (front_fits front back k, back_fits front back k)

literal_integer : (n : ℤ) (tokens : List Token) (t : Token) → tokens ≡ t ∷ [] → t.kind ≡ Literal n → AllFit tokens → IsTrue (is_integer n)
literal_integer n tokens t e k h = let f = subst AllFit e h in subst Fits k f.0

product_integers : (t : Term) (tokens : List Token) → IsProduct t tokens → AllFit tokens → AreIntegers t
product_integers (Number n) tokens h fit = let one = one_kind (Literal n) tokens h in literal_integer n tokens one.0 one.1 one.2 fit
product_integers (Apply Mul line a (Number n)) tokens h fit =
    let parts = cut tokens h.0 (sign Mul line ∷ h.1) h.2 fit in
    let one = one_kind (Literal n) h.1 h.4 in
    (product_integers a h.0 h.3 parts.0, literal_integer n h.1 one.0 one.1 one.2 parts.1.1)
product_integers (Apply Mul line a (Apply op at b c)) tokens h fit = absurd h
product_integers (Apply Add line a b) tokens h fit = absurd h
product_integers (Apply Sub line a b) tokens h fit = absurd h

sum_integers : (t : Term) (tokens : List Token) → IsSum t tokens → AllFit tokens → AreIntegers t
sum_integers (Apply Add line a b) tokens h fit =
    let parts = cut tokens h.0 (sign Add line ∷ h.1) h.2 fit in
    (sum_integers a h.0 h.3 parts.0, product_integers b h.1 h.4 parts.1.1)
sum_integers (Apply Sub line a b) tokens h fit =
    let parts = cut tokens h.0 (sign Sub line ∷ h.1) h.2 fit in
    (sum_integers a h.0 h.3 parts.0, product_integers b h.1 h.4 parts.1.1)
sum_integers (Apply Mul line a b) tokens h fit = product_integers (Apply Mul line a b) tokens h fit
sum_integers (Number n) tokens h fit = product_integers (Number n) tokens h fit

statement_integers : (put : Term) (tokens : List Token) → IsStatement put tokens → AllFit tokens → AreIntegers put
statement_integers put tokens s fit =
    let parts = cut tokens s.front (s.sum ++ s.back) s.parts fit in
    sum_integers put s.sum s.argument (front_fits s.sum s.back parts.1)

body_integers : (puts : List Term) (tokens : List Token) → IsBody puts tokens → AllFit tokens → AllIntegers puts
body_integers [] tokens h fit = tt
body_integers (put ∷ []) tokens h fit = let parts = cut tokens h.0 h.1 h.2 fit in (statement_integers put h.0 h.3 parts.0, tt)
body_integers (put ∷ q ∷ puts) tokens h fit =
    let parts = cut tokens h.0 (h.1 ++ h.2) h.3 fit in
    (statement_integers put h.0 h.4 parts.0, body_integers (q ∷ puts) h.2 h.6 (back_fits h.1 h.2 parts.1))

-- the numbers of a text in the plain form are integers of the language
pub plain_integers : (text : List ℕ) (puts : List Term) → IsPlain text puts → AllIntegers puts
plain_integers text puts p =
    let fit = spells_fit 1 p.tokens text p.spelled in
    let m = p.grammar in
    let parts = cut p.tokens m.front (m.body ++ m.back) m.parts fit in
    body_integers puts m.body m.statements (front_fits m.body m.back parts.1)

pub plain_shallow : (text : List ℕ) (puts : List Term) → IsPlain text puts → AreShallow puts
plain_shallow text puts p = module_shallow puts p.tokens p.grammar

pub plain_few : (text : List ℕ) (puts : List Term) → IsPlain text puts → all_nodes puts ≤ 2000
plain_few text puts p = let few = p.few in omega (arith, module_nodes puts p.tokens p.grammar)

one_node : (t : Term) → 1 ≤ nodes t
one_node (Number n) = omega arith
one_node (Apply op line a b) = omega arith

one_more : (v : Value) (own more : ℕ) (values : List ℤ) → 1 ≤ own → length values ≤ more → length (put_first v values) ≤ own + more
one_more (Overflows line) own more values h k = omega arith
one_more (Gives z) own more values h k = omega arith

values_few : (puts : List Term) → length (values_of puts) ≤ all_nodes puts
values_few [] = omega arith
values_few (put ∷ puts) = one_more (value_of put) (nodes put) (all_nodes puts) (values_of puts) (one_node put) (values_few puts)

-- a text passes few points
pub plain_points : (text : List ℕ) (puts : List Term) → IsPlain text puts → points_of puts ≤ 2001
plain_points text puts p = omega (arith, values_few puts, plain_few text puts p)
