use Rattle.std.proofs.Common.{subst}
use Rattle.std.specs.List.Sorted.{IsPermutation}
use Rattle.std.proofs.lemmas.List.Sorted.{IsNonDecreasingBy-from_sort}
use Rattle.m3_image_dump.proofs.rows.in_order.Goals as goal

pub returns : goal.returns
returns c = record {
  same = subst (λ xs. IsPermutation xs c.sort.new.self.items) c.in_ok-rising.ensures.items c.in_ok-sort.ensures.permutation;
  order = IsNonDecreasingBy-from_sort (λ x. x) c.sort.new.self.items c.in_ok-sort.ensures.sorted;
}
