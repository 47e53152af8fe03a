-- Runs by items, after which each thread goes on as far as it can.
use Rattle.std.specs.Prelude.{◌≡◌, ◌<◌, ℕ, zero, suc, ◌+◌, false, true, List, [], ◌∷◌, ◌++◌, length, replicate, ⊤}
use Rattle.ir_image.specs.Guest.{Guest}
use Rattle.ir_flat.specs.Flat.{start_flat, tables, machine}
use Rattle.ir_order.specs.OneRun.{AreAnswered}
use Rattle.ir_record.specs.Recording.{turns_of_items}
use Rattle.ir_record.specs.Refusing.{Turn, InTurns}
use Rattle.ir_record.specs.declared.item.Item.{Item}
use Rattle.ir_record_command.specs.Plan.{Plan}
use Rattle.ir_runs.specs.Machine.{Machine}
use Rattle.ir_runs.specs.Run.{State, Step, end, IsDone}
use Rattle.ir_world.specs.Sources.{origin_of}

-- the turns of one item
abbrev pub turns_of : Item → List Turn
turns_of item = replicate item.count (item.thread, item.refused)

-- the first of the items is of another thread than this item, or treats tries otherwise
abbrev pub StartsOtherwise : Item → List Item → Type 0
StartsOtherwise item [] = ⊤
StartsOtherwise item (next ∷ items) = item.thread ≡ next.thread → item.refused ≡ next.refused → ⊥

-- each item has a turn, and no two items that follow each other could be one
abbrev pub AreJoined : List Item → Type 0
AreJoined [] = ⊤
AreJoined (item ∷ items) = (0 < item.count) × StartsOtherwise item items × AreJoined items

-- so many turns of a thread, in which no try is refused that may enter
abbrev pub plain_item : ℕ → ℕ → Item
plain_item count thread = record { thread = thread; count = count; refused = false }

-- a pass: each of the n threads in turn, from 0 on, goes on until it has no step, or for so many steps
abbrev pub pass_of : ℕ → ℕ → List Item
pass_of zero endless = []
pass_of (suc n) endless = pass_of n endless ++ plain_item endless n ∷ []

-- so many passes
abbrev pub passes_of : ℕ → ℕ → ℕ → List Item
passes_of n endless zero = []
passes_of n endless (suc count) = passes_of n endless count ++ pass_of n endless

-- the run by the turns of these items, and then passes over the n threads until all are done
pub record IsByItems {T : Type 0} (m : Machine T) (s : State T) (n endless : ℕ) (items : List Item) (run : List Step) : Type 0 where
  pub count : ℕ
  pub in_turns : InTurns m s (turns_of_items (items ++ passes_of n endless count)) run
  pub done : IsDone m (end m s run)

-- as many turns as no thread of the plan has steps: what its budget leaves, its end, and a leave of each object
abbrev pub endless_of : Plan → ℕ
endless_of plan = plan.budget + 65

-- the run of a guest by items, whose threads were answered by the plan's random words, its bytes and a count
pub record IsPlannedByItems (guest : Guest) (plan : Plan) (items : List Item) (run : List Step) : Type 0 where
  pub by_items : IsByItems (machine (start_flat guest plan.budget plan.profile)) (tables (start_flat guest plan.budget plan.profile)) (length guest.entries)
      (endless_of plan) items run
  pub answered : AreAnswered (machine (start_flat guest plan.budget plan.profile)) (tables (start_flat guest plan.budget plan.profile)) (length guest.entries)
      (origin_of true plan.random plan.input) run
