use Rattle.std.proofs.Common.{◌∙◌, ◌+◌, List, length, ap, subst, rules}
use Rattle.std.proofs.lemmas.List.Sorted.{IsNonDecreasingBy-from_sort_by_key}
use Rattle.ir_holds.specs.Heights.{AreTops}
use Rattle.ir_holds.specs.declared.heights.Height.{Height}
use Rattle.ir_holds.proofs.heights.Heights.of.Goals as goal

pub returns-clause-are : goal.returns-clause-are
returns-clause-are c = record {
  rising = IsNonDecreasingBy-from_sort_by_key (λ (h : Height). h.at) _ c.in_ok-sort_by_key.ensures.sorted (λ a r q k. search rules);
  size = c.in_ok-tops.ensures.size ∙ ap (λ (xs : List Height). length xs + 1) c.deref.ensures.value;
  tops = subst (λ (xs : List Height). AreTops xs c.in_ok-tops.tops.items) c.deref.ensures.value c.in_ok-tops.ensures.tops;
}
