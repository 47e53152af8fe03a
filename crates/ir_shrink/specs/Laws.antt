-- What is known of all runs by items that aren't better.
use Rattle.std.specs.Prelude.{◌≤◌, ◌⊎◌, ℕ, List}
use Rattle.ir_record.specs.declared.item.Item.{Item}
use Rattle.ir_runs.specs.Run.{Step}
use Rattle.ir_shrink.specs.Items.{IsPlannedByItems}
use Rattle.ir_shrink.specs.Shrinking.{Goal, FailsGoal, IsNoBetter}
use Rattle.ir_shrink.specs.Switches.{switch_count}

-- each run by them doesn't fulfil all, or has no fewer than so many switches
abbrev pub EachRunIsNoBetter : Type 0
EachRunIsNoBetter = (goal : Goal) (count : ℕ) (items : List Item) (run : List Step) → IsNoBetter goal count items
    → IsPlannedByItems goal.guest goal.plan items run → FailsGoal goal run ⊎ (count ≤ switch_count run)
