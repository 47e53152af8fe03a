use Rattle.std.proofs.Common.{◌++◌, ◌∙◌, codes, decimal, ap}
use Rattle.std.proofs.lemmas.Result.{on_ok_weaker}
use Rattle.ir_lemmas.proofs.CallerLemmas.{appends_nest_right}
use Rattle.ir_picture.proofs.ends.push_end_start.Goals as goal

pub returns : goal.returns
returns c = on_ok_weaker c.push_number-2.result
    (appends_nest_right c.args.text.now.items _ _ _ _ _ _ _ _ c.in_ok-push_words.ensures c.in_ok-push_end_name.ensures
    (c.in_ok-push_number.ensures ∙ ap (λ n. c.push_end_name.new.text.items ++ (codes "\",\"cat\":\"end\",\"ph\":\"i\",\"s\":\"t\",\"ts\":" ++ decimal n)) c.time_of.ensures))
    c.push_number-2.ensures
