use Rattle.std.proofs.Common.{◌+◌, ◌-◌, ◌∷◌, ◌∙◌, ap, sym}
use Rattle.std.proofs.lemmas.Result.{on_ok_weaker}
use Rattle.ir_gdb.specs.Points.{word_points}
use Rattle.ir_gdb.proofs.SearchPoints.{word_points_cons, append_push_is_cons}
use Rattle.ir_gdb.proofs.numbered.+put_words.Goals as goal

pub returns : goal.returns
returns t c =
    let words = word_points_cons c.args.thread c.args.number c.args.count c.args.address c.if-count-eq0.false in
    let tail = word_points c.args.thread c.args.number (c.args.count - 1) (c.args.address + 4) in
    on_ok_weaker c.put_words.result (append_push_is_cons _ _ _ tail _ c.new.result c.in_ok-push.ensures.items (words ∙ ap (λ x. x ∷ tail) (sym c.new.ensures)))
    c.put_words.ensures
