use Rattle.std.proofs.Common.{List, length, ◌≡◌, take, drop, ◌++◌, sym, subst, ◌∙◌, rules}
use Rattle.std.specs.List.Sorted.{IsNonDecreasingBy}
use Rattle.std.proofs.lemmas.List.{take_at}
use Rattle.std.proofs.lemmas.List.Sorted.{IsNonDecreasingBy-from_sort_by_key, answers_always}
use Rattle.ir_symbols.specs.Symbols.{Symbol, symbol_address}
use Rattle.ir_symbols.specs.Tables.{IsSortOf}
use Rattle.ir_symbols.proofs.table.SymbolTable.of.Goals as goal

-- what the vector holds then
items : (c : goal.In_ok-sort_by_key) → take c.args.symbols.len
    (c.sort_by_key.new.self ++ drop (length c.sort_by_key.new.self) c.args.symbols.items) ≡ c.sort_by_key.new.self
items c = take_at c.sort_by_key.new.self _ c.args.symbols.len (c.in_ok-sort_by_key.ensures.len ∙ c.as_mut_slice.ensures.len)

rising : (c : goal.In_ok-sort_by_key) → IsNonDecreasingBy symbol_address c.sort_by_key.new.self
rising c = IsNonDecreasingBy-from_sort_by_key symbol_address c.sort_by_key.new.self c.in_ok-sort_by_key.ensures.sorted (λ a r q k. search rules)

sorted : (c : goal.In_ok-sort_by_key) → IsSortOf c.as_mut_slice.result.now c.sort_by_key.new.self
sorted c = record {
  permutation = c.in_ok-sort_by_key.ensures.permutation;
  rising = rising c;
  stable = c.in_ok-sort_by_key.ensures.stable symbol_address (answers_always _ _ _ (λ f a r g h. search rules));
}

pub invariant_of-result : goal.invariant_of-result
invariant_of-result c = subst (IsNonDecreasingBy symbol_address) (sym (items c)) (rising c)

pub returns : goal.returns
returns c = subst (IsSortOf c.args.symbols.items) (sym (items c))
    (subst (λ (l : List Symbol). IsSortOf l c.sort_by_key.new.self) c.as_mut_slice.ensures.value (sorted c))
