-- The texts of the plain form are those that are read.
use Rattle.std.proofs.Common.{◌≡◌, ℕ, ◌<◌, ◌≤◌, List, [], length, None, Some, sym, ◌∙◌, subst, arith}
use Rattle.m3_plain.specs.declared.tokens.Token.{Token}
use Rattle.m3_plain.specs.Terms.{Term, all_nodes, AreShallow}
use Rattle.m3_plain.specs.PlainForm.{IsModule, IsPlain}
use Rattle.m3_plain.specs.Lexing.{lexed}
use Rattle.m3_plain.specs.Parsing.{Parses}
use Rattle.m3_plain.proofs.Parsings.{found_nothing, found_same}
use Rattle.m3_plain.proofs.Grammar.{module_parses, parses_module, one_module, module_nodes}
use Rattle.m3_plain.proofs.Bounds.{module_shallow}
use Rattle.m3_plain.proofs.Lexical.{read_spelled, spelled_read}

plain_tokens : (text : List ℕ) (puts : List Term) (p : IsPlain text puts) → lexed [] 1 [] text ≡ Some p.tokens
plain_tokens text puts p = let h = p.few in spelled_read p.tokens [] 1 text p.spelled (omega arith)

pub plain_text : (text : List ℕ) (tokens tokens' : List Token) (puts : List Term) → length text < 4294967295 → lexed [] 1 [] text ≡ Some tokens → tokens' ≡ tokens → Parses tokens' puts → IsPlain text puts
plain_text text tokens tokens' puts short e same p =
    let s = read_spelled text tokens e in
    record { tokens = tokens; spelled = s.0; grammar = parses_module puts tokens (subst (λ t. Parses t puts) same p); few = s.1; short = short }

same_module : (text : List ℕ) (tokens : List Token) (others : List Term) → lexed [] 1 [] text ≡ Some tokens → IsPlain text others → IsModule others tokens
same_module text tokens others e p =
    subst (λ t. IsModule others t) (found_same p.tokens tokens (sym (plain_tokens text others p) ∙ e)) p.grammar

pub plain_only : (text : List ℕ) (tokens tokens' : List Token) (puts others : List Term) → lexed [] 1 [] text ≡ Some tokens → tokens' ≡ tokens → Parses tokens' puts → IsPlain text others → others ≡ puts
plain_only text tokens tokens' puts others e same p o =
    one_module others puts tokens (same_module text tokens others e o) (parses_module puts tokens (subst (λ t. Parses t puts) same p))

pub plain_few : (text : List ℕ) (tokens tokens' : List Token) (puts : List Term) → lexed [] 1 [] text ≡ Some tokens → tokens' ≡ tokens → Parses tokens' puts → all_nodes puts ≤ 2000
plain_few text tokens tokens' puts e same p =
    let s = read_spelled text tokens e in
    let n = module_nodes puts tokens (parses_module puts tokens (subst (λ t. Parses t puts) same p)) in
    omega (arith, s.1)

pub plain_shallow : (text : List ℕ) (tokens tokens' : List Token) (puts : List Term) → lexed [] 1 [] text ≡ Some tokens → tokens' ≡ tokens → Parses tokens' puts → AreShallow puts
plain_shallow text tokens tokens' puts e same p = module_shallow puts tokens (parses_module puts tokens (subst (λ t. Parses t puts) same p))

pub not_lexed : (text : List ℕ) → lexed [] 1 [] text ≡ None → (puts : List Term) → IsPlain text puts → ⊥
not_lexed text e puts p = found_nothing p.tokens (sym e ∙ plain_tokens text puts p)

pub not_parsed : (text : List ℕ) (tokens tokens' : List Token) → lexed [] 1 [] text ≡ Some tokens → tokens' ≡ tokens → ((puts : List Term) → Parses tokens' puts → ⊥) → (puts : List Term) → IsPlain text puts → ⊥
not_parsed text tokens tokens' e same h puts p =
    h puts (subst (λ t. Parses t puts) (sym same) (module_parses puts tokens (same_module text tokens puts e p)))
