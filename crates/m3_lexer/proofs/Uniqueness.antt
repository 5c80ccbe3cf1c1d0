-- A front is a token of one kind at most, and at a place one front at most is skipped or is a token.
use Rattle.std.proofs.Common.{◌≡◌, ℕ, ℤ, suc, ◌+◌, eqb, cond, List, [], ◌∷◌, ◌++◌, length, take, drop, Option, Some, None, Result, Ok, refl, sym, ap, subst, ◌∙◌, inl, inr, arith}
use Rattle.std.specs.List.{find}
use Rattle.std.specs.Str.{bytes_eq}
use Rattle.std.proofs.lemmas.List.{take_at, drop_at, append-nil, length-append}
use Rattle.m3_base.specs.Words.{signed_of}
use Rattle.m3_syntax.specs.declared.tokens.Word.{Word}
use Rattle.m3_syntax.specs.declared.tokens.Word.TheVariants as words
use Rattle.m3_syntax.specs.declared.tokens.Sign.{Sign}
use Rattle.m3_syntax.specs.declared.tokens.Sign.TheVariants as signs
use Rattle.m3_syntax.specs.declared.tokens.TokenKind.{TokenKind}
use Rattle.m3_syntax.specs.declared.tokens.TokenKind.TheVariants.{Ident, Keyword, Number, CharLit, TextLit, Symbol}
use Rattle.m3_syntax.specs.Spellings.{text_of_word, text_of_sign}
use Rattle.m3_syntax.specs.Lexis.{is_blank, value, digits_of, IsSkip, blank, comment, pragma, IsDecimal, IsBased, IsToken, Stands}
use Rattle.m3_lexer.specs.declared.names.TheConstants.{WORDS}
use Rattle.m3_lexer.specs.declared.fronts.Front.{Front}
use Rattle.m3_lexer.specs.declared.fronts.Front.TheVariants.{Spelled}
use Rattle.m3_lexer.specs.Reading.{plus, closed_len, sign_at, character_at}
use Rattle.m3_lexer.proofs.Heads.{class_of_kind, token_class, token_some}
use Rattle.m3_lexer.proofs.TakeLaws.{cut}
use Rattle.m3_lexer.proofs.MarkLaws.{closed_only}
use Rattle.m3_lexer.proofs.CharacterLaws.{some_is, character_only}
use Rattle.m3_lexer.proofs.NumberLaws.{decimal_bound}
use Rattle.std.specs.Char.{is_ascii_digit}

-- ---- fronts of one length are the same

pub same_front : (a b x y : List ℕ) → a ++ x ≡ b ++ y → length a ≡ length b → (a ≡ b) × (x ≡ y)
same_front a b x y e len = (
  sym (take_at a x (length a) refl) ∙ ap (take (length a)) e ∙ take_at b y (length a) (sym len),
  sym (drop_at a x (length a) refl) ∙ ap (drop (length a)) e ∙ drop_at b y (length a) (sym len),
)

-- ---- what is skipped

marked_size : ℕ → ℕ → List ℕ → Option ℕ
marked_size left right [] = None
marked_size left right (c ∷ inner) = plus 2 (closed_len left right 1 inner)

skip_size : List ℕ → Option ℕ
skip_size [] = None
skip_size (c ∷ rest) = cond (is_blank c) (Some 1) (cond (eqb c 40) (marked_size 40 41 rest) (marked_size 60 62 rest))

skip_is : (front more : List ℕ) → IsSkip front → skip_size (front ++ more) ≡ Some (length front)
unfolding skip_size marked_size
skip_is front more (blank c e h) = subst (λ (f : List ℕ). skip_size (f ++ more) ≡ Some (length f)) (sym e) (rw h refl)
skip_is front more (comment inner e h) =
    subst (λ (f : List ℕ). skip_size (f ++ more) ≡ Some (length f)) (sym e) (ap (plus 2) (closed_only 40 41 1 inner more h) ∙ ap (λ (n : ℕ). Some n) (omega arith))
skip_is front more (pragma inner e h) =
    subst (λ (f : List ℕ). skip_size (f ++ more) ≡ Some (length f)) (sym e) (ap (plus 2) (closed_only 60 62 1 inner more h) ∙ ap (λ (n : ℕ). Some n) (omega arith))

pub one_skip : (a b x y : List ℕ) → a ++ x ≡ b ++ y → IsSkip a → IsSkip b → (a ≡ b) × (x ≡ y)
one_skip a b x y e s t =
    let len : length a ≡ length b = some_is (length a) (length b) (sym (skip_is a x s) ∙ ap skip_size e ∙ skip_is b y t) in
    same_front a b x y e len

pub skip_some : IsSkip [] → ⊥
skip_some (blank c e h) = absurd cc
skip_some (comment inner e h) = absurd cc
skip_some (pragma inner e h) = absurd cc

-- ---- kinds

word_at : List ℕ → Option Word
word_at text = find (λ w. bytes_eq (text_of_word w) text) WORDS

word_again : (w : Word) → word_at (text_of_word w) ≡ Some w
unfolding word_at
word_again words.And = refl
word_again words.Any = refl
word_again words.Array = refl
word_again words.As = refl
word_again words.Begin = refl
word_again words.Bits = refl
word_again words.Branded = refl
word_again words.By = refl
word_again words.Case = refl
word_again words.Const = refl
word_again words.Div = refl
word_again words.Do = refl
word_again words.Else = refl
word_again words.Elsif = refl
word_again words.End = refl
word_again words.Eval = refl
word_again words.Except = refl
word_again words.Exception = refl
word_again words.Exit = refl
word_again words.Exports = refl
word_again words.Finally = refl
word_again words.For = refl
word_again words.From = refl
word_again words.Generic = refl
word_again words.If = refl
word_again words.Import = refl
word_again words.In = refl
word_again words.Interface = refl
word_again words.Lock = refl
word_again words.Loop = refl
word_again words.Methods = refl
word_again words.Mod = refl
word_again words.Module = refl
word_again words.Not = refl
word_again words.Object = refl
word_again words.Of = refl
word_again words.Or = refl
word_again words.Overrides = refl
word_again words.Procedure = refl
word_again words.Raise = refl
word_again words.Raises = refl
word_again words.Readonly = refl
word_again words.Record = refl
word_again words.Ref = refl
word_again words.Repeat = refl
word_again words.Return = refl
word_again words.Reveal = refl
word_again words.Root = refl
word_again words.Set = refl
word_again words.Then = refl
word_again words.To = refl
word_again words.Try = refl
word_again words.Type = refl
word_again words.Typecase = refl
word_again words.Unsafe = refl
word_again words.Until = refl
word_again words.Untraced = refl
word_again words.Value = refl
word_again words.Var = refl
word_again words.While = refl
word_again words.With = refl

one_word : (w v : Word) → text_of_word w ≡ text_of_word v → w ≡ v
one_word w v e = some_is w v (sym (word_again w) ∙ ap word_at e ∙ word_again v)

sign_whole : List ℕ → Option (Sign × ℕ)
sign_whole [] = None
sign_whole (c ∷ rest) = sign_at c rest

sign_again : (s : Sign) → sign_whole (text_of_sign s) ≡ Some (s, length (text_of_sign s))
unfolding sign_whole
sign_again signs.Plus = refl
sign_again signs.Minus = refl
sign_again signs.Star = refl
sign_again signs.Slash = refl
sign_again signs.Assign = refl
sign_again signs.Equal = refl
sign_again signs.Hash = refl
sign_again signs.Less = refl
sign_again signs.LessEqual = refl
sign_again signs.Greater = refl
sign_again signs.GreaterEqual = refl
sign_again signs.Ampersand = refl
sign_again signs.Caret = refl
sign_again signs.Dot = refl
sign_again signs.DotDot = refl
sign_again signs.Comma = refl
sign_again signs.Semicolon = refl
sign_again signs.Colon = refl
sign_again signs.Bar = refl
sign_again signs.Arrow = refl
sign_again signs.Subtype = refl
sign_again signs.OpenParen = refl
sign_again signs.CloseParen = refl
sign_again signs.OpenBracket = refl
sign_again signs.CloseBracket = refl
sign_again signs.OpenBrace = refl
sign_again signs.CloseBrace = refl

one_sign : (s t : Sign) → text_of_sign s ≡ text_of_sign t → s ≡ t
one_sign s t e =
    ap (λ (p : Sign × ℕ). p.0) (some_is (s, length (text_of_sign s)) (t, length (text_of_sign t)) (sym (sign_again s) ∙ ap sign_whole e ∙ sign_again t))

tails : (a : ℕ) (xs ys : List ℕ) → a ∷ xs ≡ a ∷ ys → xs ≡ ys
tails a xs ys e = cc

not_both : (front : List ℕ) (m n : ℤ) → IsDecimal front m → IsBased front n → ⊥
not_both front m n d b =
    let bound = decimal_bound front front [] m (sym (append-nil front)) d in
    let shape : front ≡ digits_of front ++ 95 ∷ b.digits = sym (cut is_ascii_digit front) ∙ ap (λ (l : List ℕ). digits_of front ++ l) b.parts in
    let size : length front ≡ length (digits_of front) + suc (length b.digits) = ap length shape ∙ length-append (digits_of front) (95 ∷ b.digits) in
    omega (arith, bound, size)

one_number : (front : List ℕ) (m n : ℤ) → IsToken front (Number m) → IsToken front (Number n) → m ≡ n
one_number front m n (inl d) (inl e) = d.is ∙ sym e.is
one_number front m n (inl d) (inr b) = absurd (not_both front m n d b)
one_number front m n (inr b) (inl d) = absurd (not_both front n m d b)
one_number front m n (inr a) (inr b) =
    let same : a.digits ≡ b.digits = tails 95 a.digits b.digits (sym a.parts ∙ b.parts) in
    a.is ∙ ap (λ (l : List ℕ). signed_of (value (value 10 (digits_of front)) l)) same ∙ sym b.is

spelled_kind : (k l : TokenKind) (m n : ℕ) (r : Result Front ℕ) → r ≡ Ok (Spelled k m) → r ≡ Ok (Spelled l n) → k ≡ l
spelled_kind k l m n r a b = cc

one_character : (front : List ℕ) (a b : ℕ) → IsToken front (CharLit a) → IsToken front (CharLit b) → CharLit a ≡ CharLit b
one_character front a b t u =
    let same : t.0 ++ 39 ∷ [] ≡ u.0 ++ 39 ∷ [] = tails 39 (t.0 ++ 39 ∷ []) (u.0 ++ 39 ∷ []) (sym t.1 ∙ u.1) in
    spelled_kind (CharLit a) (CharLit b) (length t.0 + 2) (length u.0 + 2) (character_at (t.0 ++ 39 ∷ [])) (character_only t.0 [] a t.2) (ap character_at same ∙ character_only u.0 [] b u.2)

kinds : (front : List ℕ) (k l : TokenKind) → IsToken front k → IsToken front l → class_of_kind k ≡ class_of_kind l → k ≡ l
kinds front Ident Ident t u same = refl
kinds front Ident (Keyword v) t u same = absurd (t.1 v u)
kinds front Ident (Number n) t u same = absurd (omega arith)
kinds front Ident (CharLit b) t u same = absurd (omega arith)
kinds front Ident TextLit t u same = absurd (omega arith)
kinds front Ident (Symbol t') t u same = absurd (omega arith)
kinds front (Keyword w) Ident t u same = absurd (u.1 w t)
kinds front (Keyword w) (Keyword v) t u same = ap (λ (x : Word). Keyword x) (one_word w v (sym t ∙ u))
kinds front (Keyword w) (Number n) t u same = absurd (omega arith)
kinds front (Keyword w) (CharLit b) t u same = absurd (omega arith)
kinds front (Keyword w) TextLit t u same = absurd (omega arith)
kinds front (Keyword w) (Symbol t') t u same = absurd (omega arith)
kinds front (Number m) Ident t u same = absurd (omega arith)
kinds front (Number m) (Keyword v) t u same = absurd (omega arith)
kinds front (Number m) (Number n) t u same = ap (λ (x : ℤ). Number x) (one_number front m n t u)
kinds front (Number m) (CharLit b) t u same = absurd (omega arith)
kinds front (Number m) TextLit t u same = absurd (omega arith)
kinds front (Number m) (Symbol t') t u same = absurd (omega arith)
kinds front (CharLit a) Ident t u same = absurd (omega arith)
kinds front (CharLit a) (Keyword v) t u same = absurd (omega arith)
kinds front (CharLit a) (Number n) t u same = absurd (omega arith)
kinds front (CharLit a) (CharLit b) t u same = one_character front a b t u
kinds front (CharLit a) TextLit t u same = absurd (omega arith)
kinds front (CharLit a) (Symbol t') t u same = absurd (omega arith)
kinds front TextLit Ident t u same = absurd (omega arith)
kinds front TextLit (Keyword v) t u same = absurd (omega arith)
kinds front TextLit (Number n) t u same = absurd (omega arith)
kinds front TextLit (CharLit b) t u same = absurd (omega arith)
kinds front TextLit TextLit t u same = refl
kinds front TextLit (Symbol t') t u same = absurd (omega arith)
kinds front (Symbol s) Ident t u same = absurd (omega arith)
kinds front (Symbol s) (Keyword v) t u same = absurd (omega arith)
kinds front (Symbol s) (Number n) t u same = absurd (omega arith)
kinds front (Symbol s) (CharLit b) t u same = absurd (omega arith)
kinds front (Symbol s) TextLit t u same = absurd (omega arith)
kinds front (Symbol s) (Symbol t') t u same = ap (λ (x : Sign). Symbol x) (one_sign s t' (sym t ∙ u))

-- a front is a token of one kind
pub one_kind : (front : List ℕ) (k l : TokenKind) → IsToken front k → IsToken front l → k ≡ l
one_kind [] k l t u = absurd (token_some k t)
one_kind (c ∷ front) k l t u = kinds (c ∷ front) k l t u (sym (token_class c front k t) ∙ token_class c front l u)

-- at a place stands one token
pub one_token : (text a b x y : List ℕ) (k l : TokenKind) → text ≡ a ++ x → text ≡ b ++ y → Stands text a k → Stands text b l → (a ≡ b) × (x ≡ y) × (k ≡ l)
one_token text a b x y k l e f s t =
    let above = s.longest b y l f t.token in
    let below = t.longest a x k e s.token in
    let same = same_front a b x y (sym e ∙ f) (omega arith) in
    (same.0, same.1, one_kind b k l (subst (λ (g : List ℕ). IsToken g k) same.0 s.token) t.token)
