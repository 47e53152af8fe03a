use Rattle.std.proofs.Common.{◌++◌, ◌∙◌, ℕ, codes, ap}
use Rattle.std.proofs.lemmas.Result.{on_ok_weaker}
use Rattle.ir_picture.specs.Chrome.{arrow_end, time_of}
use Rattle.ir_picture.proofs.arrows.push_arrival.Goals as goal

pub returns : goal.returns
returns c = on_ok_weaker c.push_end.result
    (λ e. e ∙ ap (λ (n : ℕ). c.args.text.now.items
    ++ arrow_end c.args.sight.now.object (codes "\"f\",\"bp\":\"e\"") c.args.number n c.row_number_of.result)
    c.time_of.ensures
    ∙ ap (λ (n : ℕ). c.args.text.now.items
    ++ arrow_end c.args.sight.now.object (codes "\"f\",\"bp\":\"e\"") c.args.number (time_of c.args.sight.now.seer.start.x) n)
    c.row_number_of.ensures)
    c.push_end.ensures
