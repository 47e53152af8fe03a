use Rattle.std.proofs.Common.{refl, rules}
use Rattle.std.proofs.lemmas.List.Sorted.{IsNonDecreasingBy-from_sort_by_key}
use Rattle.ir_who_word.specs.declared.hold.Hold.{Hold}
use Rattle.ir_who_word.proofs.tracks.sort.Goals as goal

pub returns : goal.returns
returns c = record {
  next = refl;
  put = refl;
  from = refl;
  same = c.in_ok-sort_by_key.ensures.permutation;
  sorted = IsNonDecreasingBy-from_sort_by_key (λ (h : Hold). h.leave) _ c.in_ok-sort_by_key.ensures.sorted (λ a r q k. search rules);
}
