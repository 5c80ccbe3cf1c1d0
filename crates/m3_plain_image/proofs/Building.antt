-- One more put is compiled, and one more fault.
use Rattle.std.proofs.Common.{◌≡◌, ℕ, zero, suc, pos, ◌+◌, ◌-◌, ◌*◌, ◌<◌, ◌≤◌, List, [], ◌∷◌, ◌++◌, length, get_or, drop, refl, sym, ap, ◌∙◌, subst, arith, append_assoc, append-nil}
use Rattle.std.proofs.lemmas.List.{drop_more, drop_all}
use Rattle.m3_isa.specs.declared.instructions.Op.TheVariants.{Point, Putn, Endp, Endt, Fault}
use Rattle.m3_isa.specs.declared.instructions.Instr.{Instr}
use Rattle.m3_plain.specs.declared.plain.Plain.{Plain}
use Rattle.m3_plain.specs.Terms.{Term, Number, Apply, nodes, term_of, terms_of, all_nodes, AreShallow, values_at_once}
use Rattle.m3_plain_image.specs.Code.{on_register, alone, code_size, operators, term_code, term_lines, puts_code, puts_size, puts_lines, puts_operators, faults_code, body_code, thread_code, plain_code}
use Rattle.m3_plain_image.proofs.CodeShape.{code_size_le, one_node}

pub rest_terms : (puts : List Plain) (i : ℕ) (put : Plain) → i < length puts → put ≡ get_or puts i put → terms_of (drop i puts) ≡ term_of put ∷ terms_of (drop (i + 1) puts)
rest_terms puts i put h e = ap terms_of (drop_more puts i put h) ∙ ap (λ p. term_of p ∷ terms_of (drop (i + 1) puts)) (sym e)

pub no_terms : (puts : List Plain) (i : ℕ) → length puts ≤ i → terms_of (drop i puts) ≡ []
no_terms puts i h = ap terms_of (drop_all i puts h)

-- ---- sizes

pub next_size : (size more whole : ℕ) (put : Term) (left rest : List Term) → left ≡ put ∷ rest → more ≡ code_size put → size + puts_size left ≡ 1 + whole → size + (more + 1) + puts_size rest ≡ 1 + whole
next_size size more whole put left rest e is h = omega (arith, ap puts_size e, is, h)

pub last_size : (size whole : ℕ) (left : List Term) → left ≡ [] → size + puts_size left ≡ 1 + whole → size ≡ whole
last_size size whole left e h = omega (arith, ap puts_size e, h)

pub small_term : (put : Term) (left rest : List Term) → left ≡ put ∷ rest → all_nodes left ≤ 2000 → code_size put ≤ 8000
small_term put left rest e h = omega (arith, ap all_nodes e, code_size_le put, h)

-- ---- code and lines

pub next_code : (old new1 new2 whole : List Instr) (i : Instr) (faults place place2 : ℕ) (put : Term) (left rest : List Term) → left ≡ put ∷ rest → new1 ≡ old ++ term_code faults place 0 put → new2 ≡ new1 ++ i ∷ [] → i ≡ alone Putn → place2 ≡ place + operators put
    → old ++ puts_code faults place left ≡ whole → new2 ++ puts_code faults place2 rest ≡ whole
next_code old new1 new2 whole i faults place place2 put left rest e e1 e2 is m h =
    let own = term_code faults place 0 put in
    let more = puts_code faults place2 rest in
    ap (λ l. l ++ more) (e2 ∙ ap (λ l. l ++ i ∷ []) e1)
    ∙ append_assoc (old ++ own) (i ∷ []) more
    ∙ append_assoc old own (i ∷ more)
    ∙ ap (λ x. old ++ (own ++ x ∷ more)) is
    ∙ ap (λ x. old ++ (own ++ alone Putn ∷ puts_code faults x rest)) m
    ∙ ap (λ l. old ++ puts_code faults place l) (sym e)
    ∙ h

pub next_lines : (old new all : List ℕ) (put : Term) (left rest : List Term) → left ≡ put ∷ rest → new ≡ old ++ term_lines put → old ++ puts_lines left ≡ all → new ++ puts_lines rest ≡ all
next_lines old new all put left rest e is whole =
    ap (λ l. l ++ puts_lines rest) is ∙ append_assoc old (term_lines put) (puts_lines rest) ∙ ap (λ l. old ++ puts_lines l) (sym e) ∙ whole

pub next_shallow : (put : Term) (left rest : List Term) → left ≡ put ∷ rest → AreShallow left → (0 + values_at_once put ≤ 16) × AreShallow rest
next_shallow put left rest e h = let k = subst AreShallow e h in ((let f = k.0 in omega arith), k.1)

pub next_room : (lines : ℕ) (put : Term) (left rest : List Term) → left ≡ put ∷ rest → lines + all_nodes left ≤ 2000 → (lines + operators put ≤ 2000) × (lines + operators put + all_nodes rest ≤ 2000)
next_room lines put left rest e h =
    let few = fewer_operators put in
    (omega (arith, ap all_nodes e, few, h), omega (arith, ap all_nodes e, few, h))
  where
    fewer_operators : (t : Term) → operators t ≤ nodes t
    fewer_operators (Number n) = omega arith
    fewer_operators (Apply op line a b) = omega (arith, fewer_operators a, fewer_operators b)

pub last_code : (old new whole : List Instr) (i : Instr) (faults place : ℕ) (left : List Term) → left ≡ [] → new ≡ old ++ i ∷ [] → i ≡ alone Endp → old ++ puts_code faults place left ≡ whole → new ≡ whole
last_code old new whole i faults place left e is x h = is ∙ ap (λ x. old ++ x ∷ []) x ∙ ap (λ l. old ++ puts_code faults place l) (sym e) ∙ h

pub last_lines : (old all : List ℕ) (left : List Term) → left ≡ [] → old ++ puts_lines left ≡ all → old ≡ all
last_lines old all left e whole = sym (append-nil old) ∙ ap (λ l. old ++ puts_lines l) (sym e) ∙ whole

-- ---- faults

more_faults : (place count : ℕ) → place < count → faults_code place (count - place) ≡ on_register Fault 0 (pos place) ∷ faults_code (place + 1) (count - (place + 1))
more_faults place count h = let e : count - place ≡ suc (count - (place + 1)) = omega arith in ap (faults_code place) e

pub next_fault : (old new whole : List Instr) (i : Instr) (place count : ℕ) → place < count → new ≡ old ++ i ∷ [] → i ≡ on_register Fault 0 (pos place) → old ++ faults_code place (count - place) ≡ whole → new ++ faults_code (place + 1) (count - (place + 1)) ≡ whole
next_fault old new whole i place count h is x e =
    ap (λ l. l ++ faults_code (place + 1) (count - (place + 1))) is
    ∙ append_assoc old (i ∷ []) (faults_code (place + 1) (count - (place + 1)))
    ∙ ap (λ y. old ++ y ∷ faults_code (place + 1) (count - (place + 1))) x
    ∙ ap (λ l. old ++ l) (sym (more_faults place count h))
    ∙ e

pub last_fault : (old whole : List Instr) (place count : ℕ) → count ≤ place → old ++ faults_code place (count - place) ≡ whole → old ≡ whole
last_fault old whole place count h e =
    let none : count - place ≡ 0 = omega arith in
    sym (append-nil old) ∙ ap (λ n. old ++ faults_code place n) (sym none) ∙ e

-- ---- the whole

pub whole_code : (first one two three : List Instr) (i : Instr) (n size : ℕ) (puts : List Term) → first ≡ [] → one ≡ first ++ i ∷ [] → i ≡ alone Point → size ≡ puts_size puts → two ≡ one ++ puts_code (1 + size) 0 puts → three ≡ two ++ faults_code 0 n → n ≡ puts_operators puts
    → three ≡ body_code puts
whole_code first one two three i n size puts none a point is b c m =
    c
    ∙ ap (λ l. l ++ faults_code 0 n) (b ∙ ap (λ l. l ++ puts_code (1 + size) 0 puts) (a ∙ ap (λ l. l ++ i ∷ []) none ∙ ap (λ x. x ∷ []) point))
    ∙ ap (λ x. alone Point ∷ (puts_code (1 + size) 0 puts ++ faults_code 0 x)) m
    ∙ ap (λ x. alone Point ∷ (puts_code (1 + x) 0 puts ++ faults_code 0 (puts_operators puts))) is

pub with_thread : (seen new old : List Instr) (a b : Instr) (puts : List Term) → seen ≡ new → new ≡ old ++ a ∷ b ∷ [] → a ≡ alone Point → b ≡ alone Endt → old ≡ body_code puts → seen ≡ plain_code puts
with_thread seen new old a b puts s e x y is =
    s ∙ e ∙ ap (λ i. old ++ i ∷ b ∷ []) x ∙ ap (λ i. old ++ alone Point ∷ i ∷ []) y ∙ ap (λ l. l ++ thread_code) is
