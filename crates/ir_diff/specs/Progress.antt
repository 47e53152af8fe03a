-- How far a common part is put together.
use Rattle.std.specs.Prelude.{◌≡◌, ℕ, ◌-◌, List, length}
use Rattle.std.specs.List.{slice_index_or}
use Rattle.ir_runs.specs.Verdicts.{sum_below}
use Rattle.ir_trace.specs.Recorded.{Recorded, recorded_thread}
use Rattle.ir_past.specs.Answers.{AreCoherent}
use Rattle.ir_past.specs.Progress.{Makes}
use Rattle.ir_past.specs.declared.makers.Makers.{Makers}
use Rattle.ir_diff.specs.Common.{part_of_thread, IsPart}

-- how many first events of each thread, by a list of these numbers
abbrev pub counts_of_part : List ℕ → ℕ → ℕ
counts_of_part c t = slice_index_or c t 0

-- these are the write entries of a coherent trace
pub record AreMakersOf (r : Recorded) (m : Makers) : Type 0 where
  pub coherent : AreCoherent r
  pub makes : Makes r (length r.threads) 0 m

-- a common part of this many events of each thread was put together
pub record IsBuiltTable (a b : Recorded) (c : List ℕ) : Type 0 where
  pub size : length c ≡ length a.threads
  pub order : List ℕ
  pub built : IsPart a b order
  pub counts : (t : ℕ) → counts_of_part c t ≡ part_of_thread order t

-- how many events of all threads are left
abbrev pub left_over : Recorded → List ℕ → ℕ
left_over a c = sum_below (length a.threads) (λ t. length (recorded_thread a t).events - counts_of_part c t)
