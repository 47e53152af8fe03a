use Rattle.std.proofs.Common.{rules, ◌≡◌, ◌<◌, length, sym, subst}
use Rattle.std.specs.List.{slice_index_or, AllZip}
use Rattle.ir_replay.specs.Workers.{HasWorked}
use Rattle.ir_replay.proofs.Down.{zip_of_related}
use Rattle.ir_lemmas.proofs.CallerLemmas.{take_append_is_first}
use Rattle.ir_replay.proofs.round.run_all.Goals as goal

pub returns : goal.returns
returns g c =
    let R = HasWorked c.args.weave.now.table.shared.table_id c.args.weave.now.table.shared.key c.args.target.now in
    let len : c.args.workers.now.len ≡ length c.args.workers.now.items = search rules in
    let same : length c.work_all.new.workers ≡ length c.args.workers.now.items = search rules in
    subst (AllZip R c.args.workers.now.items) (sym (take_append_is_first c.work_all.new.workers c.args.workers.now.items c.args.workers.now.len len
    same))
    (zip_of_related R c.args.workers.now.items c.work_all.new.workers same
    (subst (λ z. (i : _) (d : _) → i < length z → R (slice_index_or z i d) (slice_index_or c.work_all.new.workers i d))
    c.as_mut_slice.ensures.value c.work_all.ensures))
