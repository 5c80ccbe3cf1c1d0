-- The rules that refuse a source: each has a number and the text that is printed with it.
use Rattle.std.specs.Prelude.{ℕ, List, [], ◌∷◌, Option, None, Some, if◌then◌else◌, ◌==◌, codes}
use Rattle.std.specs.Option.{option_or}

-- a rule's number and its text
abbrev pub Texts : Type 0
Texts = List (ℕ × List ℕ)

-- the text that a table gives for a number
abbrev pub text_in : Texts → ℕ → Option (List ℕ)
text_in [] rule = None
text_in (entry ∷ rest) rule = if entry.0 == rule then Some entry.1 else text_in rest rule

-- the rules of the lexis
abbrev pub lexical_rules : Texts
lexical_rules =
    (1, codes "bad byte") ∷
    (2, codes "open comment") ∷
    (3, codes "open pragma") ∷
    (4, codes "open text") ∷
    (5, codes "bad escape") ∷
    (6, codes "bad character literal") ∷
    (7, codes "number too large") ∷
    (8, codes "bad base") ∷
    (9, codes "real literal") ∷
    []

-- the rules of the grammar
abbrev pub syntactic_rules : Texts
syntactic_rules =
    (10, codes "unexpected token") ∷
    (11, codes "end of file") ∷
    (12, codes "end name differs") ∷
    (13, codes "nesting too deep") ∷
    (14, codes "too many tokens") ∷
    []

-- the rules of generics
abbrev pub generic_rules : Texts
generic_rules =
    (15, codes "unknown generic") ∷
    (16, codes "wrong number of actuals") ∷
    (17, codes "actual is no interface") ∷
    (18, codes "too many tokens in all") ∷
    []

-- the rules of units and names
abbrev pub naming_rules : Texts
naming_rules =
    (20, codes "unknown unit") ∷
    (21, codes "duplicate unit") ∷
    (22, codes "import cycle") ∷
    (23, codes "unknown name") ∷
    (24, codes "duplicate name") ∷
    (25, codes "predeclared name") ∷
    (26, codes "no main module") ∷
    (27, codes "two main modules") ∷
    (28, codes "floating name") ∷
    (29, codes "unsafe or left out") ∷
    (30, codes "no full revelation") ∷
    (31, codes "two full revelations") ∷
    (32, codes "procedure without body") ∷
    (33, codes "two bodies") ∷
    (34, codes "body in interface") ∷
    (35, codes "not an opaque type") ∷
    []

-- the rules of types and constants
abbrev pub constant_rules : Texts
constant_rules =
    (40, codes "not constant") ∷
    (41, codes "constant overflow") ∷
    (42, codes "constant zero divisor") ∷
    (43, codes "constant out of range") ∷
    (44, codes "wrong kind of constant") ∷
    (45, codes "bad revelation") ∷
    (46, codes "illegal recursion") ∷
    (47, codes "type not allowed here") ∷
    (48, codes "set too large") ∷
    (49, codes "bad declaration") ∷
    []

-- the rules of expressions
abbrev pub expression_rules : Texts
expression_rules =
    (50, codes "operands do not fit") ∷
    (51, codes "not assignable") ∷
    (52, codes "not a designator") ∷
    (53, codes "not writable") ∷
    (54, codes "wrong type for VAR") ∷
    (55, codes "bad actual list") ∷
    (56, codes "not callable") ∷
    (57, codes "no such field or method") ∷
    (58, codes "not a reference") ∷
    (59, codes "not an array") ∷
    (60, codes "type expected") ∷
    (61, codes "value expected") ∷
    (62, codes "no such member") ∷
    (63, codes "bad constructor") ∷
    (64, codes "types not related") ∷
    (65, codes "bad type for NEW") ∷
    (66, codes "bad NEW argument") ∷
    (67, codes "nested procedure assigned") ∷
    (68, codes "bad built-in argument") ∷
    []

-- the rules of statements
abbrev pub statement_rules : Texts
statement_rules =
    (70, codes "result unused") ∷
    (71, codes "exit outside loop") ∷
    (72, codes "bad return") ∷
    (73, codes "bad case label") ∷
    (74, codes "labels overlap") ∷
    (75, codes "bad FOR bounds") ∷
    (76, codes "condition not boolean") ∷
    (77, codes "not a mutex") ∷
    (78, codes "not an exception") ∷
    (79, codes "bad exception argument") ∷
    (80, codes "bad handler") ∷
    (81, codes "bad TYPECASE type") ∷
    (82, codes "EVAL without value") ∷
    []

-- the rules of sizes
abbrev pub size_rules : Texts
size_rules =
    (90, codes "too many types") ∷
    (91, codes "too many procedures") ∷
    (92, codes "frame too large") ∷
    (93, codes "type too large") ∷
    (94, codes "too many globals") ∷
    (95, codes "program too large") ∷
    []

-- the text of a rule: no two phases have a rule of one number
abbrev pub rule_text_of : ℕ → Option (List ℕ)
rule_text_of rule =
    option_or (option_or (option_or (option_or (option_or (option_or (option_or (text_in lexical_rules rule) (text_in syntactic_rules rule)) (text_in generic_rules rule)) (text_in naming_rules rule)) (text_in constant_rules rule)) (text_in expression_rules rule)) (text_in statement_rules rule)) (text_in size_rules rule)
