-- What an activation of middle code does at a point, as an action of a run, and what it is told.
use Rattle.std.specs.Prelude.{ℕ, zero, suc, nat_lt, Bool, true, false, List, [], ◌∷◌, map, Option, Some, None}
use Rattle.std.specs.Option.{unwrap_or}
use Rattle.m3_mid.specs.declared.calls.Service.{Service}
use Rattle.m3_mid.specs.declared.calls.Service.TheVariants as services
use Rattle.m3_runs.specs.Languages as run
use Rattle.m3_runs.specs.Languages.{Gives, Raises, Fails}
use Rattle.m3_mid_meaning.specs.Words.{Word, number, ◌>>=◌}
use Rattle.m3_mid_meaning.specs.Memory as words
use Rattle.m3_mid_meaning.specs.Actions.{Action, Calls, Makes, Serves, Passes}
use Rattle.m3_mid_meaning.specs.Points.{Answer}
use Rattle.m3_mid_programs.specs.Linked.{Procedure, Linked, procedure_at}
use Rattle.m3_mid_programs.specs.Values.{Value, Words, Beside, word, the_word}

-- ---- calls

-- so many words, and those behind them
abbrev pub parted : ℕ → List Word → Option (List Word × List Word)
parted zero ws = Some ([], ws)
parted (suc n) [] = None
parted (suc n) (w ∷ ws) = parted n ws >>= λ parts. Some (w ∷ parts.0, parts.1)

-- words as rows of these lengths, and those behind them
abbrev pub rows_of : List ℕ → List Word → Option (List Value × List Word)
rows_of [] ws = Some ([], ws)
rows_of (n ∷ ns) ws =
    parted n ws >>= λ parts. rows_of ns parts.1 >>= λ more. Some (Words parts.0 ∷ more.0, more.1)

-- a result of two words and more is stored at an address
abbrev pub is_wide : Option ℕ → Bool
is_wide None = false
is_wide (Some words) = nat_lt 1 words

-- the address for a wide result is the one word behind the formals; behind those of any other call
-- nothing is passed
abbrev pub address_in : (is_wide : Bool) → List Word → Option (Option Word)
address_in true (at ∷ []) = Some (Some at)
address_in false [] = Some None
address_in _ _ = None

abbrev pub call_of : (procedure : ℕ) → Procedure → (environment : Option Word) → List Word
    → Option (run.Action Value)
call_of procedure q environment passed =
    rows_of q.formals passed >>= λ parts. address_in (is_wide q.result) parts.1 >>= λ at.
    Some (run.Calls procedure (Beside environment at) parts.0)

-- ---- services

-- the services by their operands
abbrev pub service_of : Service → List Word → Option (run.Action Value)
service_of services.Put (t ∷ []) = Some (run.Serves (run.Put run.Text (word t)))
service_of services.PutNumber (n ∷ []) = Some (run.Serves (run.Put run.Decimal (word n)))
service_of services.PutByte (n ∷ []) = Some (run.Serves (run.Put run.Byte (word n)))
service_of services.GetByte [] = Some (run.Serves run.GetByte)
service_of services.EndOfInput [] = Some (run.Serves run.EndOfInput)
service_of services.Concatenate (t ∷ u ∷ []) = Some (run.Makes (run.Concatenated (word t) (word u)))
service_of services.ByteText (n ∷ []) = Some (run.Makes (run.ByteText (word n)))
service_of services.Subtext (t ∷ start ∷ n ∷ []) =
    Some (run.Makes (run.Subtext (word t) (word start) (word n)))
service_of services.Fork (closure ∷ []) = Some (run.Forks (word closure))
service_of services.Join (t ∷ []) = Some (run.Serves (run.Join (word t) false))
service_of services.AlertJoin (t ∷ []) = Some (run.Serves (run.Join (word t) true))
service_of services.Acquire (m ∷ []) = Some (run.Serves (run.Acquire (word m)))
service_of services.Release (m ∷ []) = Some (run.Serves (run.Release (word m)))
service_of services.Wait (m ∷ c ∷ []) = Some (run.Serves (run.Wait (word m) (word c) false))
service_of services.AlertWait (m ∷ c ∷ []) = Some (run.Serves (run.Wait (word m) (word c) true))
service_of services.Signal (c ∷ []) = Some (run.Serves (run.Signal (word c)))
service_of services.Broadcast (c ∷ []) = Some (run.Serves (run.Broadcast (word c)))
service_of services.MySelf [] = Some (run.Serves run.MySelf)
service_of services.Alert (t ∷ []) = Some (run.Serves (run.Alert (word t)))
service_of services.TestAlert [] = Some (run.Serves run.TestAlert)
service_of _ _ = None

-- ---- the action

module _ (linked : Linked) where
  -- the action of a run; none where the words that are passed aren't what the callee takes
  abbrev pub action_of : Action → Option (run.Action Value)
  action_of (Calls procedure environment passed) =
      procedure_at linked procedure >>= λ q. call_of procedure q environment passed
  action_of (Makes cell sizes) =
      linked.kinds cell >>= λ kind. Some (run.Makes (run.Cell kind (map word sizes)))
  action_of (Serves service values) = service_of service values
  action_of Passes = Some run.Passes

-- ---- the answer

abbrev pub word_or_0 : Option Word → Word
word_or_0 w = unwrap_or w (number 0)

-- an answer without an exception or a fault
abbrev pub gives : words.Memory → Word → Answer
gives memory result = record {
  memory = memory;
  result = result;
  exception = 0;
  number = number 0;
  tidy = number 0;
  fault = None;
}

-- What an operation is told, when memory is this. A wide result stands in memory already.
abbrev pub told_as : run.Answer Value → words.Memory → Answer
told_as (Gives v) memory = gives memory (word_or_0 (v >>= the_word))
told_as (Raises exception n tidy) memory = record (gives memory (number 0)) {
  exception = suc exception;
  number = word_or_0 (the_word n);
  tidy = word_or_0 (the_word tidy);
}
told_as (Fails kind) memory = record (gives memory (number 0)) { fault = Some kind }
