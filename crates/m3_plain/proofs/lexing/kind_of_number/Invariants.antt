use Rattle.std.proofs.Common.{◌≡◌, ◌+◌, ◌-◌, ◌*◌, drop}
use Rattle.std.specs.Prelude.{fold}
use Rattle.std.specs.List.{list_all}
use Rattle.std.specs.Char.{is_ascii_digit}
use Rattle.m3_plain.specs.PlainForm.{number_of}
use Rattle.m3_plain.proofs.lexing.kind_of_number.Given as goal

-- the digits that are left make the number of all of them of the number so far
abbrev pub invariant-loop-b : goal.invariant-loop-b
invariant-loop-b l = record {
  number : fold (λ n digit. 10 * n + (digit - 48)) l.number (drop l.b-index l.word) ≡ number_of l.word;
  digits : list_all is_ascii_digit (drop l.b-index l.word) ≡ list_all is_ascii_digit l.word;
}
