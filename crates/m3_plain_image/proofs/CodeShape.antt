-- How many instructions and lines the code of a term has.
use Rattle.std.proofs.Common.{◌≡◌, ℕ, zero, suc, ◌+◌, ◌*◌, ◌≤◌, List, [], ◌∷◌, ◌++◌, length, refl, ap, arith, length-append}
use Rattle.m3_plain.specs.Terms.{Term, Number, Apply, nodes, all_nodes}
use Rattle.m3_plain_image.specs.Code.{alone, operation_code, code_size, operators, term_code, term_lines, puts_code, puts_size, puts_lines, puts_operators, faults_code}
use Rattle.m3_isa.specs.declared.instructions.Op.TheVariants.{Putn}

pub length-term_code : (t : Term) (faults place register : ℕ) → length (term_code faults place register t) ≡ code_size t
length-term_code (Number n) faults place register = refl
length-term_code (Apply op line a b) faults place register =
    let left = length-term_code a faults place register in
    let right = length-term_code b faults (place + operators a) (register + 1) in
    let last = operation_code op register (faults + (place + operators a + operators b)) ∷ [] in
    let cb = term_code faults (place + operators a) (register + 1) b in
    omega (arith, left, right, length-append (term_code faults place register a) (cb ++ last), length-append cb last)

pub length-term_lines : (t : Term) → length (term_lines t) ≡ operators t
length-term_lines (Number n) = refl
length-term_lines (Apply op line a b) =
    omega (arith, length-term_lines a, length-term_lines b, length-append (term_lines a) (term_lines b ++ line ∷ []), length-append (term_lines b) (line ∷ []))

pub length-puts_code : (puts : List Term) (faults place : ℕ) → length (puts_code faults place puts) ≡ puts_size puts
length-puts_code [] faults place = refl
length-puts_code (put ∷ puts) faults place =
    let own = length-term_code put faults place 0 in
    let more = length-puts_code puts faults (place + operators put) in
    omega (arith, own, more, length-append (term_code faults place 0 put) (alone Putn ∷ puts_code faults (place + operators put) puts))

pub length-puts_lines : (puts : List Term) → length (puts_lines puts) ≡ puts_operators puts
length-puts_lines [] = refl
length-puts_lines (put ∷ puts) = omega (arith, length-term_lines put, length-puts_lines puts, length-append (term_lines put) (puts_lines puts))

pub length-faults_code : (place n : ℕ) → length (faults_code place n) ≡ n
length-faults_code place zero = refl
length-faults_code place (suc n) = omega (arith, length-faults_code (place + 1) n)

-- a term of few nodes has little code
pub code_size_le : (t : Term) → code_size t + operators t ≤ 4 * nodes t
code_size_le (Number n) = omega arith
code_size_le (Apply op line a b) = omega (arith, code_size_le a, code_size_le b)

pub one_node : (t : Term) → 1 ≤ nodes t
one_node (Number n) = omega arith
one_node (Apply op line a b) = omega arith

pub puts_size_le : (puts : List Term) → puts_size puts + puts_operators puts ≤ 1 + 5 * all_nodes puts
puts_size_le [] = omega arith
puts_size_le (put ∷ puts) = omega (arith, code_size_le put, one_node put, puts_size_le puts)

operators_of_term : (t : Term) → operators t ≤ nodes t
operators_of_term (Number n) = omega arith
operators_of_term (Apply op line a b) = omega (arith, operators_of_term a, operators_of_term b)

pub operators_le : (puts : List Term) → puts_operators puts ≤ all_nodes puts
operators_le [] = omega arith
operators_le (put ∷ puts) = omega (arith, operators_of_term put, operators_le puts)
