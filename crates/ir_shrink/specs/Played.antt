-- What running a guest by items gives.
use Rattle.std.specs.Prelude.{◌≡◌, ◌≢◌, ◌<◌, List, [], length, map}
use Rattle.std.specs.List.{AllByRecursion}
use Rattle.ir_image.specs.Guest.{Guest}
use Rattle.ir_flat.specs.Flat.{Flat}
use Rattle.ir_hunt.specs.Finding.{CameTo}
use Rattle.ir_order.specs.Recording.{IsPlannedInTurns}
use Rattle.ir_record.specs.Recording.{turns_of_items}
use Rattle.ir_record.specs.declared.item.Item.{Item}
use Rattle.ir_record_command.specs.Plan.{Plan}
use Rattle.ir_runs.specs.Run.{Step}
use Rattle.ir_shrink.specs.Items.{AreJoined, IsPlannedByItems}

-- the guest was run by items to its end: these are the items as they were taken, and what its threads and objects came to
pub record IsPlayed (guest : Guest) (plan : Plan) (items taken : List Item) (flat : Flat) : Type 0 where
  pub run : List Step
  pub by_items : IsPlannedByItems guest plan items run
  -- it is the run by the items as they were taken, each turn of which takes a step
  pub in_turns : IsPlannedInTurns guest plan (turns_of_items taken) run
  pub of_threads : AllByRecursion (λ t. t.0 < length guest.entries) (turns_of_items taken)
  pub some : turns_of_items taken ≢ []
  pub joined : AreJoined taken
  pub each : map (λ e. e.0) run ≡ map (λ t. t.0) (turns_of_items taken)
  pub came : CameTo guest plan run flat
