use Rattle.std.proofs.Common.{◌≡◌, ◌+◌, ◌≤◌, ◌++◌, drop, vec_len}
use Rattle.m3_plain.specs.Terms.{AreShallow, terms_of, all_nodes}
use Rattle.m3_plain_image.specs.Code.{puts_code, puts_lines}
use Rattle.m3_plain_image.proofs.code.emit_puts.Given as goal

-- the code so far, and that of the puts that are left, is the whole code
abbrev pub invariant-loop-put : goal.invariant-loop-put
invariant-loop-put l = record {
  code : l.code.instructions.items ++ puts_code l.faults (vec_len l.code.lines) (terms_of (drop l.put-index l.puts)) ≡ l.fn.code.instructions.items ++ puts_code l.faults 0 (terms_of l.puts);
  lines : l.code.lines.items ++ puts_lines (terms_of (drop l.put-index l.puts)) ≡ puts_lines (terms_of l.puts);
  shallow : AreShallow (terms_of (drop l.put-index l.puts));
  room : vec_len l.code.lines + all_nodes (terms_of (drop l.put-index l.puts)) ≤ 2000;
}
