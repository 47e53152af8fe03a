use Rattle.std.proofs.Common.{◌++◌, ◌∙◌, codes, decimal, ap}
use Rattle.std.proofs.lemmas.Result.{on_ok_weaker}
use Rattle.ir_lemmas.proofs.CallerLemmas.{appends_nest_right}
use Rattle.ir_picture.proofs.slices.push_place.Goals as goal

pub returns : goal.returns
returns c = on_ok_weaker c.push_number-4.result
    (appends_nest_right c.args.text.now.items _ _ _ _ _ _ _ _
    (c.in_ok-push_number.ensures ∙ ap (λ n. c.args.text.now.items ++ (codes ",\"ts\":" ++ decimal n)) c.time_of.ensures)
    (c.in_ok-push_number-2.ensures ∙ ap (λ n. c.push_number.new.text.items ++ (codes ",\"pid\":1,\"tid\":" ++ decimal n)) c.row_number_of.ensures)
    c.in_ok-push_number-3.ensures)
    c.push_number-4.ensures
