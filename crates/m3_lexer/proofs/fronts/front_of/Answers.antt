use Rattle.std.proofs.Common.{◌≡◌, false, ◌&&◌, get_or, sym, subst, ◌∙◌}
use Rattle.std.specs.Prelude.{◌==◌}
use Rattle.std.proofs.lemmas.Bool.{and_left, and_right, ne_eqb}
use Rattle.m3_lexer.specs.Reading.{begins}
use Rattle.m3_lexer.specs.Fronts.{IsFront}
use Rattle.m3_lexer.proofs.FrontLaws.{Plain}
use Rattle.m3_lexer.proofs.BytesLaws.{rest_of, blank_bytes, name_is_bytes, name_bytes, number_bytes, character_bytes, text_bytes, comment_bytes, pragma_bytes, sign_bytes, bad_bytes}
use Rattle.m3_lexer.proofs.fronts.front_of.Goals as goal
use Rattle.m3_lexer.proofs.fronts.front_of.Goals.{else-first-eq40-via-then-first-eq40+else-begins, else-first-eq40-via-else-first-eq40, else-first-eq60-via-then-first-eq60+else-begins-2, else-first-eq60-via-else-first-eq60}

pub kind_of_name-requires : goal.kind_of_name-requires
kind_of_name-requires c =
    name_is_bytes c.args.bytes.now c.name_len-len.result c.requires.some (sym c.is_ascii_alphabetic.ensures.value ∙ c.if-is_ascii_alphabetic.true) c.name_len-len.ensures

pub returns-then-is_blank : goal.returns-then-is_blank
returns-then-is_blank c = blank_bytes c.args.bytes.now c.requires.some (sym c.is_blank.ensures ∙ c.if-is_blank.true)

pub returns-then-is_ascii_alphabetic : goal.returns-then-is_ascii_alphabetic
returns-then-is_ascii_alphabetic c =
    name_bytes c.args.bytes.now c.name_len-len.result c.kind_of_name.result c.requires.some (sym c.is_ascii_alphabetic.ensures.value ∙ c.if-is_ascii_alphabetic.true) c.name_len-len.ensures c.kind_of_name.ensures

pub returns-then-is_ascii_digit : goal.returns-then-is_ascii_digit
returns-then-is_ascii_digit c =
    subst (IsFront c.args.bytes.now) (sym c.number.ensures) (number_bytes c.args.bytes.now c.requires.some (sym c.is_ascii_digit.ensures.value ∙ c.if-is_ascii_digit.true))

pub returns-then-first-eq39 : goal.returns-then-first-eq39
returns-then-first-eq39 c = subst (IsFront c.args.bytes.now) (sym c.character.ensures) (character_bytes c.args.bytes.now c.requires.some c.if-first-eq39.true)

pub returns-then-first-eq34 : goal.returns-then-first-eq34
returns-then-first-eq34 c = subst (IsFront c.args.bytes.now) (sym c.text.ensures) (text_bytes c.args.bytes.now c.requires.some c.if-first-eq34.true)

pub returns-then-begins : goal.returns-then-begins
returns-then-begins c =
    subst (IsFront c.args.bytes.now) (sym c.skipped.ensures) (comment_bytes c.args.bytes.now c.requires.some c.if-first-eq40.true (sym c.begins.ensures ∙ c.if-begins.true))

pub returns-then-begins-2 : goal.returns-then-begins-2
returns-then-begins-2 c =
    subst (IsFront c.args.bytes.now) (sym c.skipped-then-begins-2.ensures) (pragma_bytes c.args.bytes.now c.requires.some c.if-first-eq60.true (sym c.begins-then-first-eq60.ensures ∙ c.if-begins-2.true))

pub returns-in-Some : goal.returns-in-Some
returns-in-Some c =
    let first = get_or c.args.bytes.now 0 0 in
    let rest = rest_of c.args.bytes.now in
    let uncommented : ((first == 40) && begins 42 rest) ≡ false = elim c.else-first-eq40.branch [
      | else-first-eq40-via-then-first-eq40+else-begins w ↦ and_right (first == 40) (begins 42 rest) (sym w.begins.ensures ∙ w.if-begins.false)
      | else-first-eq40-via-else-first-eq40 w ↦ and_left (first == 40) (begins 42 rest) (ne_eqb first 40 w.if-first-eq40.false)
    ] in
    let unpragmaed : ((first == 60) && begins 42 rest) ≡ false = elim c.else-first-eq60.branch [
      | else-first-eq60-via-then-first-eq60+else-begins-2 w ↦ and_right (first == 60) (begins 42 rest) (sym w.begins-then-first-eq60.ensures ∙ w.if-begins-2.false)
      | else-first-eq60-via-else-first-eq60 w ↦ and_left (first == 60) (begins 42 rest) (ne_eqb first 60 w.if-first-eq60.false)
    ] in
    let plain : Plain first rest = record {
      clear = record { ink = sym c.is_blank.ensures ∙ c.if-is_blank.false; uncommented = uncommented; unpragmaed = unpragmaed };
      letter = sym c.is_ascii_alphabetic.ensures.value ∙ c.if-is_ascii_alphabetic.false;
      digit = sym c.is_ascii_digit.ensures.value ∙ c.if-is_ascii_digit.false;
      mark = ne_eqb first 39 c.if-first-eq39.false;
      quote = ne_eqb first 34 c.if-first-eq34.false;
    } in
    sign_bytes c.args.bytes.now c.in-Some.sign c.in-Some.len c.requires.some plain (sym c.in-Some.ensures)

pub returns-in-None : goal.returns-in-None
returns-in-None c =
    let first = get_or c.args.bytes.now 0 0 in
    let rest = rest_of c.args.bytes.now in
    let uncommented : ((first == 40) && begins 42 rest) ≡ false = elim c.else-first-eq40.branch [
      | else-first-eq40-via-then-first-eq40+else-begins w ↦ and_right (first == 40) (begins 42 rest) (sym w.begins.ensures ∙ w.if-begins.false)
      | else-first-eq40-via-else-first-eq40 w ↦ and_left (first == 40) (begins 42 rest) (ne_eqb first 40 w.if-first-eq40.false)
    ] in
    let unpragmaed : ((first == 60) && begins 42 rest) ≡ false = elim c.else-first-eq60.branch [
      | else-first-eq60-via-then-first-eq60+else-begins-2 w ↦ and_right (first == 60) (begins 42 rest) (sym w.begins-then-first-eq60.ensures ∙ w.if-begins-2.false)
      | else-first-eq60-via-else-first-eq60 w ↦ and_left (first == 60) (begins 42 rest) (ne_eqb first 60 w.if-first-eq60.false)
    ] in
    let plain : Plain first rest = record {
      clear = record { ink = sym c.is_blank.ensures ∙ c.if-is_blank.false; uncommented = uncommented; unpragmaed = unpragmaed };
      letter = sym c.is_ascii_alphabetic.ensures.value ∙ c.if-is_ascii_alphabetic.false;
      digit = sym c.is_ascii_digit.ensures.value ∙ c.if-is_ascii_digit.false;
      mark = ne_eqb first 39 c.if-first-eq39.false;
      quote = ne_eqb first 34 c.if-first-eq34.false;
    } in
    bad_bytes c.args.bytes.now c.requires.some plain (sym c.in-None.ensures)
