use Rattle.std.proofs.Common.{◌∙◌, refl, sym, ap, Some, map, codes, Bor, List, ℕ}
use Rattle.std.specs.Prelude.{option_and_then}
use Rattle.clap.specs.Matches.{found_of}
use Rattle.clap.specs.Walk.{rows_of}
use Rattle.m3c_words.specs.Asked.{as_files}
use Rattle.m3c_words.proofs.Found.{all_in_rows}
use Rattle.m3c_words.proofs.Readings.{files_are}
use Rattle.m3c_words.proofs.words.files_of.Goals as goal

pub returns-in_default : goal.returns-in_default
returns-in_default c = ap (option_and_then as_files) (c.in_default.ensures ∙ all_in_rows (found_of c.args.matches.now) (codes "FILE"))

pub returns-then-not-are_files : goal.returns-then-not-are_files
returns-then-not-are_files c =
    let rows = rows_of (found_of c.args.matches.now) in
    let files = files_are rows c.in-Some.words.now (c.in-Some.ensures ∙ all_in_rows (found_of c.args.matches.now) (codes "FILE")) in
    let test = sym c.are_files.ensures ∙ c.if-not-are_files.true in
    rw (files, test) refl

pub returns : goal.returns
returns c =
    let rows = rows_of (found_of c.args.matches.now) in
    let files = files_are rows c.in-Some.words.now (c.in-Some.ensures ∙ all_in_rows (found_of c.args.matches.now) (codes "FILE")) in
    let test = sym c.are_files.ensures ∙ c.if-not-are_files.false in
    rw (files, test) (ap (λ (names : List (Bor (List ℕ))). Some (map (λ name. name.now) names)) c.in_ok-from_slice.ensures.items)
