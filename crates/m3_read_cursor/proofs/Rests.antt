-- What a reader keeps as it goes on.
use Rattle.std.proofs.Common.{ℕ, ◌≡◌, ◌≤◌, List, [], ◌∷◌, Option, None, Some, refl, sym, ap, subst, length, drop, arith}
use Rattle.m3_syntax.specs.declared.tokens.Token.{Token}
use Rattle.m3_read_cursor.specs.declared.reader.Reader.{Reader}
use Rattle.m3_read_cursor.specs.Readers.{Follows, Kept, kept, Keeps, keeps, IsRest, whole, next, faults}

-- ---- the tokens of a file

-- nothing is left behind the last token
nothing_left : (file rest : List Token) → IsRest file rest → IsRest file []
nothing_left file [] h = h
nothing_left file (token ∷ rest) h = nothing_left file rest (next token h)

-- less is left behind a token
past_token : (file before after : List Token) → 1 ≤ length before → after ≡ drop 1 before → IsRest file before → IsRest file after
past_token file [] after some e h = absurd (omega (arith, some))
past_token file (token ∷ rest) after some e h = subst (λ x. IsRest file x) (sym e) (next token h)

-- ---- a step of a reader

same_faults : {A : Type 0} {least : ℕ} {old new : Option A} → least ≤ faults old → new ≡ old → least ≤ faults new
same_faults {A} {least} {old} {new} h e = subst (λ x. least ≤ faults x) (sym e) h

-- the reader went past a token
pub stepped : (old new : Reader) → new.stop ≡ old.stop → new.wrong_closing ≡ old.wrong_closing → 1 ≤ length old.rest.now → new.rest.now ≡ drop 1 old.rest.now
    → (what : Kept) → Keeps what old → Keeps what new
stepped old new stop closing some rest what (keeps {file = file} s c within) =
    keeps {reader = new} (same_faults s stop) (same_faults c closing) (past_token file old.rest.now new.rest.now some rest within)

-- the reader kept a fault, and went to the end
pub failed : (old new : Reader) → faults old.stop ≤ faults new.stop → new.wrong_closing ≡ old.wrong_closing → new.rest.now ≡ [] → (what : Kept) → Keeps what old → Keeps what new
failed old new stop closing rest what (keeps {file = file} s c within) =
    keeps {reader = new} (omega (arith, s, stop)) (same_faults c closing) (subst (λ x. IsRest file x) (sym rest) (nothing_left file old.rest.now within))

-- the reader kept a wrong closing name
pub misnamed : (old new : Reader) → new.stop ≡ old.stop → faults old.wrong_closing ≤ faults new.wrong_closing → new.rest.now ≡ old.rest.now → (what : Kept) → Keeps what old → Keeps what new
misnamed old new stop closing rest what (keeps {file = file} s c within) =
    keeps {reader = new} (same_faults s stop) (omega (arith, c, closing)) (subst (λ x. IsRest file x) (sym rest) within)

-- one fault is kept at most
pub one_fault : {A : Type 0} (found : Option A) (fault : A) → faults found ≤ faults (Some fault)
one_fault None fault = omega arith
one_fault (Some found) fault = omega arith

-- ---- what follows from it

pub stays : (reader : Reader) → Follows reader reader
stays reader = record { onward = omega arith; still = λ what h. h }

pub follows_on : {first second third : Reader} → Follows first second → Follows second third → Follows first third
follows_on h k = record { onward = omega (arith, h.onward, k.onward); still = λ what x. k.still what (h.still what x) }

none_kept : {A : Type 0} (least : ℕ) (old new : Option A) → least ≡ faults old → least ≤ faults new → new ≡ None → old ≡ None
none_kept least None new q h e = refl
none_kept least (Some fault) new q h e = let none : faults new ≡ 0 = ap faults e in absurd (omega (arith, q, h, none))

stop_of : (least : ℕ) (what : Kept) (file : List Token) (new : Reader) → what ≡ kept least 0 file → Keeps what new → least ≤ faults new.stop
stop_of least what file new q (keeps {stops = stops} s c within) = let same : stops ≡ least = cc in omega (arith, same, s)

closing_of : (least : ℕ) (what : Kept) (file : List Token) (new : Reader) → what ≡ kept 0 least file → Keeps what new → least ≤ faults new.wrong_closing
closing_of least what file new q (keeps {closings = closings} s c within) = let same : closings ≡ least = cc in omega (arith, same, c)

rest_of : (file : List Token) (what : Kept) (new : Reader) → what ≡ kept 0 0 file → Keeps what new → IsRest file new.rest.now
rest_of file what new q (keeps {file = same} s c within) = let e : same ≡ file = cc in subst (λ x. IsRest x new.rest.now) e within

-- reading that has not stopped had not stopped before
pub still : {old new : Reader} → Follows old new → new.stop ≡ None → old.stop ≡ None
still {old} {new} h e =
    none_kept (faults old.stop) old.stop new.stop refl
    (stop_of (faults old.stop) _ old.rest.now new refl (h.still (kept (faults old.stop) 0 old.rest.now) (keeps (omega arith) (omega arith) whole))) e

-- where no closing name is wrong, none was before
pub unclosed : {old new : Reader} → Follows old new → new.wrong_closing ≡ None → old.wrong_closing ≡ None
unclosed {old} {new} h e =
    none_kept (faults old.wrong_closing) old.wrong_closing new.wrong_closing refl
    (closing_of (faults old.wrong_closing) _ old.rest.now new refl (h.still (kept 0 (faults old.wrong_closing) old.rest.now) (keeps (omega arith) (omega arith) whole))) e

-- the tokens are still those of the file
pub still_within : {old new : Reader} → Follows old new → (file : List Token) → IsRest file old.rest.now → IsRest file new.rest.now
still_within {old} {new} h file rest = rest_of file _ new refl (h.still (kept 0 0 file) (keeps (omega arith) (omega arith) rest))
