use Rattle.std.proofs.Common.{ap, refl, ◌∙◌, List, ℕ, Bor, map}
use Rattle.std.specs.Prelude.{string_bytes}
use Rattle.m3c_source_commands.specs.Orders.{no_words}
use Rattle.m3c.proofs.ByWords.{commands_of}
use Rattle.m3c.proofs.Execs.{are_texts, command_promised, stays}
use Rattle.m3c.proofs.command.m3c.Goals as goal

pub returns-in-Ok : goal.returns-in-Ok
returns-in-Ok g c =
    let same = ap (λ (texts : List (Bor (List ℕ))). map (λ text. text.now) texts) c.deref-in-Ok.ensures.value ∙ c.in-Ok.ensures ∙ ap (λ words. map string_bytes words) c.deref.ensures.value in
    let done = commands_of _ _ _ _ _ _ _ same c.command.ensures in
    record { promises = command_promised _ _ (are_texts c.args.words.items) refl done; held = stays _ _ _ _ _ _ done }

pub returns-clause-promises : goal.returns-clause-promises
returns-clause-promises g c = command_promised _ _ (are_texts c.args.words.items) refl (no_words _ refl refl c.tell.ensures)
