-- What callers may cite of the store.
-- what is so of each element of a list, and what keeps its number while a table grows
pub use Rattle.ir_lemmas.proofs.CallerLemmas.{all_of_push, slice_get_satisfies}
pub use Rattle.ir_state_store.proofs.Lists.{all_by_recursion_weaker, kept_element_is_equal, below_length_kept}
