use Rattle.std.proofs.Common.{◌≡◌, ◌≤◌, ◌+◌, drop}
use Rattle.m3_plain.specs.Terms.{terms_of, all_nodes}
use Rattle.m3_plain_image.specs.Code.{puts_size}
use Rattle.m3_plain_image.proofs.code.size_of_puts.Given as goal

-- the size so far, and that of the puts that are left, is the whole one
abbrev pub invariant-loop-put : goal.invariant-loop-put
invariant-loop-put l = record {
  size : l.size + puts_size (terms_of (drop l.put-index l.puts)) ≡ 1 + puts_size (terms_of l.puts);
  few : all_nodes (terms_of (drop l.put-index l.puts)) ≤ 2000;
}
