use Rattle.std.proofs.Common.{rules, ◌≡◌, length, sym, subst}
use Rattle.std.specs.List.{AllZip}
use Rattle.ir_record.specs.Working.{RanToEnd}
use Rattle.ir_record.proofs.Manning.{zip_by_index}
use Rattle.ir_lemmas.proofs.CallerLemmas.{take_append_is_first}
use Rattle.ir_record.proofs.by_threads.workers.run_workers.Goals as goal

pub returns : goal.returns
returns g c =
    let len : c.args.workers.now.len ≡ length c.args.workers.now.items = search rules in
    let same : length c.run_side_by_side.new.workers ≡ length c.args.workers.now.items = search rules in
    subst (AllZip (RanToEnd g.W.World.answers g.W.World.broken g.W.World.origin c.args.crew.now.table.shared.key) c.args.workers.now.items)
    (sym (take_append_is_first c.run_side_by_side.new.workers c.args.workers.now.items c.args.workers.now.len len same))
    (zip_by_index (RanToEnd g.W.World.answers g.W.World.broken g.W.World.origin c.args.crew.now.table.shared.key) c.args.workers.now.items
    c.run_side_by_side.new.workers same
    (subst (λ z. (i : _) (d : _) → Rattle.std.proofs.Common.◌<◌ i (length z)
    → RanToEnd g.W.World.answers g.W.World.broken g.W.World.origin c.args.crew.now.table.shared.key
    (Rattle.std.proofs.Common.get_or z i d) (Rattle.std.proofs.Common.get_or c.run_side_by_side.new.workers i d))
    c.as_mut_slice.ensures.value c.run_side_by_side.ensures))
