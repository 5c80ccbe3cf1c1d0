-- What is written of the parts of an image is read again.
use Rattle.std.proofs.Common.{◌≡◌, ℕ, suc, ◌+◌, ◌^◌, ◌<◌, List, [], ◌∷◌, ◌++◌, length, get_or, drop, Option, Some, refl, sym, ap, ◌∙◌, append_assoc, arith, length-append, inl, inr}
use Rattle.std.specs.Prelude.{map}
use Rattle.std.specs.List.{flat_map, AllByRecursion}
use Rattle.std.proofs.lemmas.Bool.{le-ltb, lt-ltb, cases_lt}
use Rattle.std.proofs.lemmas.List.{append-nil, drop_at}
use Rattle.m3_tables.specs.declared.place.Location.{Location}
use Rattle.m3_tables.specs.declared.place.Location.TheVariants.{Register, Slot}
use Rattle.m3_tables.specs.Numbers.{word_in}
use Rattle.m3_tables.specs.Fields.{word_at, list_at}
use Rattle.m3_tables_writer.specs.Writing.{word_bytes, list_bytes}
use Rattle.m3_tables_writer.specs.Plain.{place_number}
use Rattle.m3_image_sections.specs.declared.procs.ProcPart.{ProcPart}
use Rattle.m3_image_sections.specs.Fields.{long_in, text_at, counted_at}
use Rattle.m3_image_sections.specs.Parts.{proc_in, type_at, globals_at, constants_at, pair_in, places_at, names_at, variable_at, variables_at}
use Rattle.m3_image_writer.specs.declared.parts.TypePart.{TypePart}
use Rattle.m3_image_writer.specs.declared.parts.GlobalPart.{GlobalPart}
use Rattle.m3_image_writer.specs.declared.parts.PlacePart.{PlacePart}
use Rattle.m3_image_writer.specs.declared.parts.VarPart.{VarPart}
use Rattle.m3_image_writer.specs.Fields.{long_bytes, text_bytes, place_bytes}
use Rattle.m3_image_writer.specs.Sections.{proc_bytes, type_bytes, globals_bytes, constants_bytes, places_bytes, exceptions_bytes}
use Rattle.m3_image_writer.specs.Variables.{span_bytes, var_bytes, variables_bytes}
use Rattle.m3_image_writer.specs.Again.{Reads, ReadsAll, ReadsFixed}
use Rattle.m3_image_writer.specs.Views.{cell_type, globals_of, places_of, span_of, variable_of}
use Rattle.m3_image_writer.proofs.Lengths.{length-word_bytes, AreShort}
use Rattle.m3_image_writer.proofs.Again.{word_again, after_word, word_at_again, long_again, text_again, counted_again, many_again}

-- ---- numbers one after the other

length-pair : (a b : ℕ) → length (word_bytes a ++ word_bytes b) ≡ 8
length-pair a b = omega (arith, length-append (word_bytes a) (word_bytes b), length-word_bytes a, length-word_bytes b)

-- a list is what it is
pub map_same : {A : Type 0} (xs : List A) → map (λ x. x) xs ≡ xs
map_same [] = refl
map_same (x ∷ xs) = ap (λ (ys : List _). x ∷ ys) (map_same xs)

pub pair_again : (a b : ℕ) → a < 2 ^ 32 → b < 2 ^ 32 → (rest : List ℕ) → pair_in ((word_bytes a ++ word_bytes b) ++ rest) ≡ (a, b)
pair_again a b la lb rest =
    let apart : (word_bytes a ++ word_bytes b) ++ rest ≡ word_bytes a ++ (word_bytes b ++ rest) = append_assoc (word_bytes a) (word_bytes b) rest in
    ap pair_in apart ∙ rw (word_again a (word_bytes b ++ rest) la, after_word a (word_bytes b ++ rest), word_again b rest lb) refl

pub place_again : (place : ℕ × ℕ) → place.0 < 2 ^ 32 → place.1 < 2 ^ 32 → ReadsFixed 8 pair_in (place_bytes place) place
unfolding place_bytes
place_again place l0 l1 = record { size_is = length-pair place.0 place.1; again = pair_again place.0 place.1 l0 l1 }

after_two : (a b : ℕ) (rest : List ℕ) → drop 8 (word_bytes a ++ (word_bytes b ++ rest)) ≡ rest
after_two a b rest =
    ap (λ (x : List ℕ). drop 8 x) (sym (append_assoc (word_bytes a) (word_bytes b) rest)) ∙ drop_at (word_bytes a ++ word_bytes b) rest 8 (length-pair a b)

after_three : (a b c : ℕ) (rest : List ℕ) → drop 12 (word_bytes a ++ (word_bytes b ++ (word_bytes c ++ rest))) ≡ rest
after_three a b c rest =
    let front = word_bytes a ++ word_bytes b ++ word_bytes c in
    let apart : word_bytes a ++ (word_bytes b ++ (word_bytes c ++ rest)) ≡ front ++ rest = simp append_assoc in
    let len : length front ≡ 12 = omega (arith, length-append (word_bytes a ++ word_bytes b) (word_bytes c), length-pair a b, length-word_bytes c) in
    ap (λ (x : List ℕ). drop 12 x) apart ∙ drop_at front rest 12 len

length-proc_bytes : (p : ProcPart) → length (proc_bytes p) ≡ 16
unfolding proc_bytes
length-proc_bytes p =
    let l1 = length-append (word_bytes p.first) (word_bytes p.count ++ (word_bytes p.body ++ word_bytes p.frame)) in
    let l2 = length-append (word_bytes p.count) (word_bytes p.body ++ word_bytes p.frame) in
    omega (arith, length-pair p.body p.frame, length-word_bytes p.first, length-word_bytes p.count)

proc_in_again : (p : ProcPart) → p.first < 2 ^ 32 → p.count < 2 ^ 32 → p.body < 2 ^ 32 → p.frame < 2 ^ 32 → (rest : List ℕ) → proc_in (proc_bytes p ++ rest) ≡ p
unfolding proc_bytes
proc_in_again p lf lc lb lr rest =
    let r = word_bytes p.frame ++ rest in
    let b = word_bytes p.body ++ r in
    let k = word_bytes p.count ++ b in
    let apart : (word_bytes p.first ++ (word_bytes p.count ++ (word_bytes p.body ++ word_bytes p.frame))) ++ rest ≡ word_bytes p.first ++ k = simp append_assoc in
    let second : word_in (drop 4 (word_bytes p.first ++ k)) ≡ p.count = rw (after_word p.first k) (word_again p.count b lc) in
    let third : word_in (drop 8 (word_bytes p.first ++ k)) ≡ p.body = rw (after_two p.first p.count b) (word_again p.body r lb) in
    let fourth : word_in (drop 12 (word_bytes p.first ++ k)) ≡ p.frame = rw (after_three p.first p.count p.body r) (word_again p.frame rest lr) in
    ap proc_in apart ∙ rw (word_again p.first k lf, second, third, fourth) refl

pub proc_again : (p : ProcPart) → p.first < 2 ^ 32 → p.count < 2 ^ 32 → p.body < 2 ^ 32 → p.frame < 2 ^ 32 → ReadsFixed 16 proc_in (proc_bytes p) p
proc_again p lf lc lb lr = record { size_is = length-proc_bytes p; again = proc_in_again p lf lc lb lr }

-- a place has a number of four bytes
place_small : (l : Location) → place_number l < 2 ^ 32
place_small (Register r) =
    elim (cases_lt r 16) [
      | inl low ↦ rw (lt-ltb r 16 low) (omega arith)
      | inr high ↦ rw (le-ltb r 16 high) (omega arith)
    ]
place_small (Slot s) =
    elim (cases_lt (s + 16) (2 ^ 32)) [
      | inl low ↦ rw (lt-ltb (s + 16) (2 ^ 32) low) low
      | inr high ↦ rw (le-ltb (s + 16) (2 ^ 32) high) (omega arith)
    ]

pub span_again : (span : ℕ × Location) → span.0 < 2 ^ 32 → ReadsFixed 8 pair_in (span_bytes span) (span_of span)
unfolding span_bytes
span_again span lt =
    record { size_is = length-pair span.0 (place_number span.1); again = pair_again span.0 (place_number span.1) lt (place_small span.1) }

-- ---- types and globals

pub record IsSmallType (t : TypePart) : Type 0 where
  pub kind : t.kind < 2 ^ 32
  pub parent : t.parent < 2 ^ 32
  pub words : t.words < 2 ^ 32
  pub dims : t.dims < 2 ^ 32
  pub methods : Reads list_at (list_bytes t.methods.items) t.methods.items
  pub pointers : Reads list_at (list_bytes t.pointers.items) t.pointers.items

pub type_again : (t : TypePart) → IsSmallType t → Reads type_at (type_bytes t) (cell_type t)
unfolding type_at type_bytes
type_again t small rest =
    let p = list_bytes t.pointers.items ++ rest in
    let m = list_bytes t.methods.items ++ p in
    let d = word_bytes t.dims ++ m in
    let w = word_bytes t.words ++ d in
    let q = word_bytes t.parent ++ w in
    let apart : (word_bytes t.kind ++ (word_bytes t.parent ++ (word_bytes t.words ++ (word_bytes t.dims ++ (list_bytes t.methods.items ++ list_bytes t.pointers.items))))) ++ rest ≡ word_bytes t.kind ++ q = simp append_assoc in
    let kind = ap word_at apart ∙ word_at_again t.kind q small.kind in
    rw (kind, word_at_again t.parent w small.parent, word_at_again t.words d small.words, word_at_again t.dims m small.dims, small.methods p, small.pointers rest) refl

pub globals_again : (g : GlobalPart) → g.words < 2 ^ 32 → Reads list_at (list_bytes g.pointers.items) g.pointers.items → ReadsAll globals_at (globals_bytes g) (globals_of g)
unfolding globals_at globals_bytes
globals_again g words pointers =
    let end : list_at (list_bytes g.pointers.items) ≡ Some (g.pointers.items, []) = ap list_at (sym (append-nil (list_bytes g.pointers.items))) ∙ pointers [] in
    rw (word_at_again g.words (list_bytes g.pointers.items) words, end) refl

-- what is read whatever follows is read where nothing does
pub reads_all : {A : Type 0} (read : List ℕ → Option (A × List ℕ)) (bytes : List ℕ) (x : A) → Reads read bytes x → ReadsAll read bytes x
reads_all read bytes x h = ap read (sym (append-nil bytes)) ∙ h []

-- ---- constants, places and exceptions

pub all_long : (ns : List ℕ) → ((i : ℕ) → get_or ns i 0 < 2 ^ 64) → AllByRecursion (λ n. n < 2 ^ 64) ns
all_long [] h = tt
all_long (n ∷ ns) h = (h 0, all_long ns (λ i. h (suc i)))

all_longs : (ns : List ℕ) → AllByRecursion (λ n. n < 2 ^ 64) ns → AllByRecursion (λ n. ReadsFixed 8 long_in (long_bytes n) n) ns
all_longs [] small = tt
all_longs (n ∷ ns) small = (long_again n small.0, all_longs ns small.1)

pub constants_again : (ns : List ℕ) → AllByRecursion (λ n. n < 2 ^ 64) ns → length ns < 2 ^ 32 → ReadsAll constants_at (constants_bytes ns) ns
unfolding constants_bytes
constants_again ns small lt =
    reads_all constants_at (word_bytes (length ns) ++ flat_map long_bytes ns) ns (rw (map_same ns) at (counted_again 8 long_in long_bytes (λ n. n) ns (all_longs ns small) lt))

each_text : (texts : List (List ℕ)) → AllByRecursion (λ text. length text < 2 ^ 32) texts → AllByRecursion (λ text. Reads text_at (text_bytes text) text) texts
each_text [] short = tt
each_text (text ∷ texts) short = (text_again text short.0, each_text texts short.1)

texts_again : (texts : List (List ℕ)) → AreShort texts → Reads names_at (word_bytes (length texts) ++ flat_map text_bytes texts) texts
texts_again texts short = rw (map_same texts) at (many_again text_at text_bytes (λ text. text) texts (each_text texts short.each) short.count)

pub exceptions_again : (exceptions : List (List ℕ)) → AreShort exceptions → ReadsAll names_at (exceptions_bytes exceptions) exceptions
unfolding exceptions_bytes
exceptions_again exceptions short =
    reads_all names_at (word_bytes (length exceptions) ++ flat_map text_bytes exceptions) exceptions (texts_again exceptions short)

pub places_again : (p : PlacePart) → AreShort p.files.items → AllByRecursion (λ place. ReadsFixed 8 pair_in (place_bytes place) place) p.places.items → length p.places.items < 2 ^ 32 → ReadsAll places_at (places_bytes p) (places_of p)
unfolding places_at places_bytes
places_again p files places lt =
    let f = word_bytes (length p.files.items) ++ flat_map text_bytes p.files.items in
    let l = word_bytes (length p.places.items) ++ flat_map place_bytes p.places.items in
    let apart : word_bytes (length p.files.items) ++ (flat_map text_bytes p.files.items ++ l) ≡ f ++ l = sym (append_assoc (word_bytes (length p.files.items)) (flat_map text_bytes p.files.items) l) in
    let one : names_at (word_bytes (length p.files.items) ++ (flat_map text_bytes p.files.items ++ l)) ≡ Some (p.files.items, l) = ap names_at apart ∙ texts_again p.files.items files l in
    let two : counted_at 8 pair_in l ≡ Some (p.places.items, []) = reads_all (counted_at 8 pair_in) l p.places.items (rw (map_same p.places.items) at (counted_again 8 pair_in place_bytes (λ place. place) p.places.items places lt)) in
    rw (one, two) refl

-- ---- variables

pub record IsSmallVariable (v : VarPart) : Type 0 where
  pub proc : v.proc < 2 ^ 32
  pub word : v.word < 2 ^ 32
  pub name : length v.name < 2 ^ 32
  pub spans : AllByRecursion (λ span. ReadsFixed 8 pair_in (span_bytes span) (span_of span)) v.spans.items
  pub count : length v.spans.items < 2 ^ 32

pub variable_again : (v : VarPart) → IsSmallVariable v → Reads variable_at (var_bytes v) (variable_of v)
unfolding variable_at var_bytes
variable_again v small rest =
    let spans = word_bytes (length v.spans.items) ++ flat_map span_bytes v.spans.items in
    let s = spans ++ rest in
    let f = v.form ∷ s in
    let n = text_bytes v.name ++ f in
    let w = word_bytes v.word ++ n in
    let apart : (word_bytes v.proc ++ (word_bytes v.word ++ (text_bytes v.name ++ (v.form ∷ spans)))) ++ rest ≡ word_bytes v.proc ++ w = simp append_assoc in
    let proc = ap word_at apart ∙ word_at_again v.proc w small.proc in
    let end = counted_again 8 pair_in span_bytes span_of v.spans.items small.spans small.count rest in
    rw (proc, word_at_again v.word n small.word, text_again v.name small.name f, end) refl

pub variables_again : (variables : List VarPart) → AllByRecursion (λ v. Reads variable_at (var_bytes v) (variable_of v)) variables → length variables < 2 ^ 32 → ReadsAll variables_at (variables_bytes variables) (map variable_of variables)
unfolding variables_bytes
variables_again variables each lt =
    reads_all variables_at (word_bytes (length variables) ++ flat_map var_bytes variables) (map variable_of variables) (many_again variable_at var_bytes variable_of variables each lt)
