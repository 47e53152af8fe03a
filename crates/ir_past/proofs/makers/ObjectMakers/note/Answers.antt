use Rattle.std.proofs.Common.{◌<◌, ◌==◌, ◌∙◌, Option, Some, if◌then◌else◌, length, ap, arith}
use Rattle.ir_past.specs.declared.place.Place.{Place}
use Rattle.ir_past.proofs.Tables.{get_or_after_set_cases}
use Rattle.ir_past.proofs.makers.ObjectMakers.note.Goals as goal

pub returns : goal.returns
returns c = λ v.
    let within : c.args.version < length c.reserve.new.self.writes.items = omega (arith, c.in_ok-reserve.ensures.room, c.reserve.new.self.writes.ok.0) in
    get_or_after_set_cases c.reserve.new.self.writes.items c.args.version c.args.place within v
    ∙ ap (λ (x : Option Place). if v == c.args.version then Some c.args.place else x) (c.in_ok-reserve.ensures.same v)
