use Rattle.std.proofs.Common.{◌++◌, ◌∙◌, List, ℕ, ap}
use Rattle.std.proofs.lemmas.Result.{on_ok_weaker}
use Rattle.ir_lemmas.proofs.CallerLemmas.{appends_nest_right}
use Rattle.ir_thread.specs.declared.end.End.{End}
use Rattle.ir_picture.specs.Chrome.{end_start}
use Rattle.ir_picture.proofs.ends.push_end.Goals as goal

pub returns : goal.returns
returns c = on_ok_weaker c.push_words-3.result
    (appends_nest_right c.args.text.now.items _ _ _ _ _ _ _ _
    (c.in_ok-push_end_start.ensures ∙ ap (λ (e : End). c.args.text.now.items ++ end_start c.args.number e c.args.place) c.end.ensures)
    c.in_ok-push_words.ensures
    (c.in_ok-push_words-2.ensures ∙ ap (λ (x : List ℕ). c.push_words.new.text.items ++ x) (c.as_bytes.ensures.value ∙ c.in_ok-known.ensures)))
    c.push_words-3.ensures
