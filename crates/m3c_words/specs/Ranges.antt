-- The limits of a run without options, and those of `bench`.
use Rattle.std.specs.Prelude.{ℕ, ◌≡◌, false}
use Rattle.m3c_words.specs.declared.limits.Limits.{Limits}

-- points, words of one half of the heap, words of each stack, and threads, over a heap without generations
abbrev pub AreLimits : ℕ → ℕ → ℕ → ℕ → Limits → Type 0
AreLimits points heap stack threads limits =
    (limits.points ≡ points) × (limits.heap ≡ heap) × (limits.stack ≡ stack) × (limits.threads ≡ threads) × (limits.young ≡ false)

abbrev pub AreUsual : Limits → Type 0
AreUsual = AreLimits 1000000000 1048576 65536 8

abbrev pub AreOfBench : Limits → Type 0
AreOfBench = AreLimits 1000000 32768 16384 8
