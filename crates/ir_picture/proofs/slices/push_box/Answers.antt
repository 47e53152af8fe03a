use Rattle.std.proofs.Common.{◌++◌, ◌∙◌}
use Rattle.std.proofs.lemmas.Result.{on_ok_weaker}
use Rattle.ir_picture.specs.Chrome.{slice_line}
use Rattle.ir_picture.proofs.slices.push_box.Goals as goal

pub returns : goal.returns
returns c = on_ok_weaker c.push_slice.result
    (λ e. e ∙ (λ i. c.args.text.now.items ++ slice_line (c.objects.ensures.value i) (c.events_in-events.ensures i) (c.stale_of-row.ensures i) c.args.own.now))
    c.push_slice.ensures
