-- A guest that is run by one seed after another.
use Rattle.std.specs.Prelude.{[], length, replicate}
use Rattle.ir_image.specs.Guest.{Guest}
use Rattle.ir_record_command.specs.Plan.{Plan}
use Rattle.ir_schedule.specs.Moments.{Moment, RanToEnd}
use Rattle.ir_schedule.specs.declared.chooser.Chooser.{Chooser}
use Rattle.ir_hunt.specs.Finding.{first_flat, has_tries}

-- before the first step: no turns, and no world has answered
abbrev pub fresh_guest : Guest → Plan → Moment
fresh_guest guest plan = record { flat = first_flat guest plan; turns = []; answers = replicate (length guest.entries) [] }

-- it has run to its end by this chooser
abbrev pub RanBy : Guest → Plan → Chooser → Moment → Type 0
RanBy guest plan chooser moment = RanToEnd (has_tries plan.profile) (fresh_guest guest plan) chooser moment
