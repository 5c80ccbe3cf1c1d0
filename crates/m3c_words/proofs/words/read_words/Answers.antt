use Rattle.std.proofs.Common.{◌∙◌, refl, sym}
use Rattle.std.proofs.lemmas.Bool.{false≢true}
use Rattle.m3c_words.proofs.Readings.{met, not_met, read, unread}
use Rattle.m3c_words.proofs.words.read_words.Goals as goal

pub returns-in-Some : goal.returns-in-Some
returns-in-Some c =
    let found = read _ _ c.in-Ok.matches c.in_ok-whole_command.ensures c.in-Ok.ensures.matches c.in-Ok.ensures.kinds in
    let named = met _ _ _ c.in-Some.ensures.name c.in-Some.ensures.rows in
    rw (found ∙ named) c.request_of.ensures

pub returns-in-Ok : goal.returns-in-Ok
returns-in-Ok c =
    let found = read _ _ c.in-Ok.matches c.in_ok-whole_command.ensures c.in-Ok.ensures.matches c.in-Ok.ensures.kinds in
    rw (found ∙ not_met _ c.in-None.ensures.name) refl

pub returns : goal.returns
returns c =
    rw (unread _ _ c.in-Err.error c.in_ok-whole_command.ensures c.in-Err.ensures.kinds
    (λ lack. false≢true (sym c.if-is_want_of_memory.false ∙ c.is_want_of_memory.ensures.1 lack))) refl
