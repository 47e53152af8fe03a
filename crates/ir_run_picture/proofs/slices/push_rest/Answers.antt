use Rattle.std.proofs.lemmas.Result.{on_ok_weaker}
use Rattle.ir_picture.proofs.CallerLemmas.{appends_nest_right}
use Rattle.ir_run_picture.proofs.slices.push_rest.Goals as goal

pub returns : goal.returns
returns c = on_ok_weaker c.push_would.result
    (appends_nest_right c.args.text.now.items _ _ _ _ _ _ _ _ c.in_ok-push_number.ensures c.in_ok-push_number-2.ensures c.in_ok-push_number-3.ensures)
    c.push_would.ensures
