use Rattle.std.proofs.Common.{◌++◌, ◌∙◌, List, ℕ, ap}
use Rattle.ir_picture.specs.Answers.{page_head}
use Rattle.ir_picture.specs.declared.page.TheConstants.{HEAD_1}
use Rattle.ir_picture.proofs.frame.page_head.Goals as goal

pub returns : goal.returns
unfolding page_head
returns c = c.in_ok-extend_from_slice.ensures.items
    ∙ ap (λ (x : List ℕ). x ++ c.as_bytes-2.result.now) (c.in_ok-text.ensures.items ∙ c.as_bytes.ensures.value)
    ∙ ap (λ (x : List ℕ). HEAD_1.now ++ x) c.as_bytes-2.ensures.value
