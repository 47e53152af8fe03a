use Rattle.std.proofs.lemmas.Result.{on_ok_weaker}
use Rattle.ir_picture.proofs.Texts.{append_assoc_5}
use Rattle.ir_picture.proofs.rows.push_box_start.Goals as goal

pub returns : goal.returns
returns c = on_ok_weaker c.push_places.result
    (append_assoc_5 c.args.text.now.items _ _ _ _ _ _ _ _ _ _ c.in_ok-push_number.ensures c.in_ok-push_number-2.ensures c.in_ok-push_number-3.ensures
    c.in_ok-push_first.ensures)
    c.push_places.ensures
