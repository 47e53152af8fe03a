-- What a run by items is judged to be.
use Rattle.std.specs.Prelude.{◌≡◌, ◌<◌, ℕ, List, Option, Some}
use Rattle.ir_hunt.specs.Stale.{FailsStale}
use Rattle.ir_record.specs.declared.item.Item.{Item}
use Rattle.ir_runs.specs.Run.{Step}
use Rattle.ir_shrink.specs.Shrinking.{Goal, FulfilsGoal, FailsAt, IsKeptRun, IsMinimal}
use Rattle.ir_shrink.specs.declared.judging.Kept.{Kept}
use Rattle.ir_shrink.specs.declared.judging.Verdict.{Verdict}
use Rattle.ir_shrink.specs.declared.judging.Verdict.TheVariants as verdict
use Rattle.ir_shrink.specs.declared.searching.Sought.{Sought}
use Rattle.ir_shrink.specs.declared.searching.Sought.TheVariants as sought

-- a run fulfils all, or the condition at a place isn't met, or what is wanted of its stale writes
abbrev pub IsVerdict : Goal → List Step → Verdict → Type 0
IsVerdict goal run verdict.Good = FulfilsGoal goal run
IsVerdict goal run (verdict.Unmet place) = FailsAt goal run place
IsVerdict goal run verdict.Stale = FailsStale goal.guest goal.plan goal.wanted run

-- these items fulfil all, with so many switches
abbrev pub IsKeptOf : Goal → Kept → Type 0
IsKeptOf goal kept = IsKeptRun goal kept.items.items kept.switches

-- what a search for better items came to: some with fewer switches; or there is none; or the time was over
abbrev pub IsSought : Goal → List Item → ℕ → Option ℕ → Sought → Type 0
IsSought goal items count seconds (sought.Better kept) = IsKeptOf goal kept × (kept.switches < count)
IsSought goal items count seconds sought.Nothing = IsMinimal goal items count
IsSought goal items count seconds sought.Over = (s : ℕ) × (seconds ≡ Some s)
