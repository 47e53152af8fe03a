use Rattle.std.proofs.lemmas.Result.{on_ok_weaker}
use Rattle.ir_lemmas.proofs.CallerLemmas.{appends_nest_right}
use Rattle.ir_picture.proofs.slices.push_head.Goals as goal

pub returns : goal.returns
returns c = on_ok_weaker c.push_drawn.result
    (appends_nest_right c.args.text.now.items _ _ _ _ _ _ _ _ c.in_ok-push_words.ensures c.in_ok-push_name.ensures c.in_ok-push_words-2.ensures)
    c.push_drawn.ensures
