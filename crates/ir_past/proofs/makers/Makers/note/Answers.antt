use Rattle.std.proofs.Common.{◌<◌, length, sym, arith}
use Rattle.std.proofs.lemmas.Result.{on_ok_weaker}
use Rattle.ir_past.specs.Tables.{made_at}
use Rattle.ir_past.specs.declared.makers.ObjectMakers.{ObjectMakers}
use Rattle.ir_past.proofs.Tables.{mapped_get_set_cases}
use Rattle.ir_past.proofs.makers.Makers.note.Goals as goal

pub returns-clause-noted : goal.returns-clause-noted
returns-clause-noted c =
    let objects = c.args.self.now.objects in
    let within : c.args.object < length objects.items = omega (arith, c.requires, objects.ok.0) in
    on_ok_weaker c.note.result
    (λ noted. mapped_get_set_cases (λ v (x : ObjectMakers). made_at x v) objects.items c.args.object c.args.version c.index_mut.result.now c.note.new.self
    c.args.place within (sym c.index_mut.ensures.value) noted)
    c.note.ensures
