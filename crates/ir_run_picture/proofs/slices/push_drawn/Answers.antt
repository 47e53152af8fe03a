use Rattle.std.proofs.Common.{◌++◌, ◌∙◌, List, ℕ, ap, codes, append_assoc}
use Rattle.std.proofs.lemmas.Result.{on_ok_weaker}
use Rattle.ir_trace.specs.Recorded.{Recorded}
use Rattle.ir_picture.specs.Chrome.{fold_arguments}
use Rattle.ir_picture.proofs.CallerLemmas.{appends_nest_right}
use Rattle.ir_run_picture.specs.Chrome.{resting_arguments}
use Rattle.ir_run_picture.proofs.slices.push_drawn.Goals as goal

pub returns : goal.returns
returns c = on_ok_weaker c.push_words.result
    (λ e. appends_nest_right c.args.text.now.items _ _ _ (resting_arguments c.args.resting ++ codes "}}") _ _ _ _ c.in_ok-push_slice_start.ensures
    (c.in_ok-push_fold_arguments.ensures
    ∙ ap (λ n. c.push_slice_start.new.text.items ++ fold_arguments n c.args.events.now) (c.objects.ensures.value ∙ ap (λ (r : Recorded). r.objects) c.trace.ensures.value))
    c.in_ok-push_steps.ensures
    (e ∙ ap (λ (x : List ℕ). x ++ codes "}}") c.in_ok-push_resting.ensures
    ∙ append_assoc c.push_steps.new.text.items (resting_arguments c.args.resting) (codes "}}")))
    c.push_words.ensures
