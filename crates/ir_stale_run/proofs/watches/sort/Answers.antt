use Rattle.std.proofs.Common.{refl, rules}
use Rattle.std.proofs.lemmas.List.Sorted.{IsNonDecreasingBy-from_sort_by_key}
use Rattle.ir_stale_run.specs.declared.span.Span.{Span}
use Rattle.ir_stale_run.proofs.watches.sort.Goals as goal

pub returns : goal.returns
returns c = record {
  next = refl;
  opened = refl;
  same = c.in_ok-sort_by_key.ensures.permutation;
  sorted = IsNonDecreasingBy-from_sort_by_key (λ (s : Span). s.read) _ c.in_ok-sort_by_key.ensures.sorted (λ a r q k. search rules);
}
