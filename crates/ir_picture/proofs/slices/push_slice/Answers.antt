use Rattle.std.proofs.lemmas.Result.{on_ok_weaker}
use Rattle.ir_lemmas.proofs.CallerLemmas.{appends_nest_right}
use Rattle.ir_picture.proofs.slices.push_slice.Goals as goal

pub returns : goal.returns
returns c = on_ok_weaker c.push_words.result
    (appends_nest_right c.args.text.now.items _ _ _ _ _ _ _ _ c.in_ok-push_slice_start.ensures c.in_ok-push_fold_arguments.ensures
    c.in_ok-push_stale_argument.ensures)
    c.push_words.ensures
