use Rattle.std.proofs.Common.{◌<◌, ◌==◌, ◌∙◌, if◌then◌else◌, length, ap, arith}
use Rattle.ir_picture.specs.Placing.{unknown_version}
use Rattle.ir_picture.specs.declared.table.Version.{Version}
use Rattle.ir_picture.proofs.Lists.{get_or_after_set_cases}
use Rattle.ir_picture.proofs.table.Versions.set.Goals as goal

pub returns : goal.returns
returns c = λ v.
    let within : c.args.version < length c.reserve.new.self.all.items = omega (arith, c.in_ok-reserve.ensures.room, c.reserve.new.self.all.ok.0) in
    get_or_after_set_cases c.reserve.new.self.all.items c.args.version c.args.known unknown_version within v
    ∙ ap {B = Version} (λ (x : Version). if v == c.args.version then c.args.known else x) (c.in_ok-reserve.ensures.same v)
