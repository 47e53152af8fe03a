use Rattle.std.proofs.Common.{◌<◌, length, sym, arith}
use Rattle.std.proofs.lemmas.Result.{on_ok_weaker}
use Rattle.ir_picture.specs.Placing.{version_at, unknown_version}
use Rattle.ir_picture.specs.declared.table.Versions.{Versions}
use Rattle.ir_picture.proofs.Lists.{mapped_get_or_set_cases}
use Rattle.ir_picture.proofs.table.Table.set.Goals as goal

pub returns-clause-noted : goal.returns-clause-noted
returns-clause-noted c =
    let objects = c.args.self.now.objects in
    let within : c.args.object < length objects.items = omega (arith, c.requires.object, objects.ok.0) in
    on_ok_weaker c.set.result
    (λ noted. mapped_get_or_set_cases (λ v (x : Versions). version_at x v) unknown_version objects.items c.args.object c.args.version c.index_mut.result.now c.set.new.self
    c.args.known within (sym c.index_mut.ensures.value) noted)
    c.set.ensures
