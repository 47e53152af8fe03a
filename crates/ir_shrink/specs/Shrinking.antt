-- What a run is shrunk to.
use Rattle.std.specs.Prelude.{◌≡◌, ◌≢◌, ◌≤◌, ◌<◌, ◌+◌, ◌⊎◌, ℕ, Bool, true, false, List, [], ◌∷◌, ◌++◌, length, map, take, drop, Option, Some, slice_get}
use Rattle.std.specs.List.{list_all, slice_index_or, AllByRecursion}
use Rattle.ir_image.specs.Guest.{Guest}
use Rattle.ir_flat.specs.Flat.{Flat}
use Rattle.ir_hunt.specs.Finding.{CameTo}
use Rattle.ir_hunt.specs.Stale.{FulfilsStale, FailsStale}
use Rattle.ir_order.specs.Recording.{IsPlannedInTurns}
use Rattle.ir_record.specs.Recording.{turns_of_items, IsTraceOf}
use Rattle.ir_record.specs.declared.item.Item.{Item}
use Rattle.ir_record_command.specs.Plan.{Plan}
use Rattle.ir_runs.specs.Run.{Step}
use Rattle.ir_schedule.specs.Conditions.{Condition, as_condition, fulfils, end_state}
use Rattle.ir_trace.specs.Recorded.{Recorded}
use Rattle.ir_shrink.specs.Items.{AreJoined, plain_item, endless_of, IsPlannedByItems}
use Rattle.ir_shrink.specs.Switches.{switch_count}
use Rattle.ir_shrink.specs.declared.plan.ShrinkPlan.{ShrinkPlan}

-- what the runs of a guest have to fulfil
pub record Goal : Type 0 where
  pub guest : Guest
  -- how each run goes but for its order
  pub plan : Plan
  -- what has to hold of what a run came to, all of it
  pub conditions : List Condition
  -- whether a stale write of a run has to rest on what was read: one, or none; or nothing is asked
  pub wanted : Option Bool

-- the goal of a plan
abbrev pub goal_of : Guest → ShrinkPlan → Goal
goal_of guest plan = record { guest = guest; plan = plan.record; conditions = map as_condition plan.conditions.now; wanted = plan.stale }

-- a run fulfils each condition, and has what is wanted of its stale writes
pub record FulfilsGoal (goal : Goal) (run : List Step) : Type 0 where
  pub flat : Flat
  pub came : CameTo goal.guest goal.plan run flat
  pub each : list_all (λ c. fulfils c (end_state flat)) goal.conditions ≡ true
  pub stale : FulfilsStale goal.guest goal.plan goal.wanted run

-- a run doesn't fulfil the condition at a place
pub record FailsAt (goal : Goal) (run : List Step) (place : ℕ) : Type 0 where
  pub flat : Flat
  pub came : CameTo goal.guest goal.plan run flat
  pub condition : Condition
  pub is : slice_get goal.conditions place ≡ Some condition
  pub fails : fulfils condition (end_state flat) ≡ false

-- a run doesn't fulfil some condition, or hasn't what is wanted of its stale writes
abbrev pub FailsGoal : Goal → List Step → Type 0
FailsGoal goal run = ((place : ℕ) × FailsAt goal run place) ⊎ FailsStale goal.guest goal.plan goal.wanted run

-- the run by the turns of these items, of which there are some, and which are of the guest's threads, has so many switches, and fulfils all. Each
-- turn takes a step, and the run has no other steps. No two items that follow each other could be one
pub record IsKeptRun (goal : Goal) (items : List Item) (count : ℕ) : Type 0 where
  pub run : List Step
  pub of_threads : AllByRecursion (λ t. t.0 < length goal.guest.entries) (turns_of_items items)
  pub some : turns_of_items items ≢ []
  pub joined : AreJoined items
  pub in_turns : IsPlannedInTurns goal.guest goal.plan (turns_of_items items) run
  pub each : map (λ e. e.0) run ≡ map (λ t. t.0) (turns_of_items items)
  pub fulfilled : FulfilsGoal goal run
  pub switches_are : switch_count run ≡ count

-- items without so many of them from a place on
abbrev pub without : ℕ → ℕ → List Item → List Item
without place count items = take place items ++ drop (place + count) items

-- the item at a place with endless turns, in which its thread goes on as far as it can, without so many items after it
abbrev pub endless_at : ℕ → ℕ → ℕ → List Item → List Item
endless_at endless place count items = take place items ++ record (slice_index_or items place (plain_item 0 0)) { count = endless } ∷ drop (place + 1 + count) items

-- the run by items, and then passes over all threads, isn't better: it doesn't fulfil all, or it has no fewer than so many switches
pub record IsNoBetter (goal : Goal) (count : ℕ) (items : List Item) : Type 0 where
  pub run : List Step
  pub by_items : IsPlannedByItems goal.guest goal.plan items run
  pub why : FailsGoal goal run ⊎ (count ≤ switch_count run)

-- nothing is better where so many items from a place on are left out, or where the item there has endless turns, with the items after it or
-- without so many of them
pub record IsNoneBetterAt (goal : Goal) (items : List Item) (count place size : ℕ) : Type 0 where
  pub left_out : IsNoBetter goal count (without place size items)
  pub endless : IsNoBetter goal count (endless_at (endless_of goal.plan) place 0 items)
  pub merged : IsNoBetter goal count (endless_at (endless_of goal.plan) place size items)

-- no turn boundary can be taken from these items, whose run has so many switches: no item left out, and none made endless, with the next
-- item or without it
abbrev pub IsMinimal : Goal → List Item → ℕ → Type 0
IsMinimal goal items count = (place : ℕ) → place < length items → IsNoneBetterAt goal items count place 1

-- the trace is of the run by the turns of these items, which has so many switches
pub record IsOrderOf (guest : Guest) (plan : Plan) (trace : Recorded) (items : List Item) (count : ℕ) : Type 0 where
  pub run : List Step
  pub in_turns : IsPlannedInTurns guest plan (turns_of_items items) run
  pub traces : IsTraceOf guest plan.budget plan.profile run trace
  pub switches_are : switch_count run ≡ count

-- the run with the trace has an order with so many switches, and is shrunk to the run by these items, which has fewer or as many, and
-- fulfils all; where `minimal` is said, no turn boundary can be taken from it
pub record IsShrunk (goal : Goal) (trace : Recorded) (before after : ℕ) (items : List Item) (is_minimal : Bool) : Type 0 where
  pub given : List Item
  pub order : IsOrderOf goal.guest goal.plan trace given before
  pub kept : IsKeptRun goal items after
  pub fewer : after ≤ before
  pub minimal : is_minimal ≡ true → IsMinimal goal items after
