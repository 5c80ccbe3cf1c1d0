-- Counts over several calls.
use Rattle.std.proofs.Common.{ℕ, ◌≤◌, inl, inr, arith}
use Rattle.m3_ports.specs.Counts.{Rose}

-- a count that rose later rose in all
pub rose_later : (a b c : ℕ) → a ≤ b → Rose b c → Rose a c
rose_later a b c h (inl l) = inl (omega arith)
rose_later a b c h (inr e) = inr e
