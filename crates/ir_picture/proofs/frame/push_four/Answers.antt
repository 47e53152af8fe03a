use Rattle.std.proofs.Common.{◌++◌, ◌∙◌, List, ℕ, ap}
use Rattle.ir_lemmas.proofs.CallerLemmas.{appends_nest_right}
use Rattle.ir_picture.proofs.frame.push_four.Goals as goal

pub returns : goal.returns
returns c = appends_nest_right c.args.text.now.items c.args.first.now c.args.second.now c.args.third.now c.args.last.now c.extend_from_slice.new.self.items
    c.extend_from_slice-2.new.self.items c.extend_from_slice-3.new.self.items c.extend_from_slice-4.new.self.items
    (c.in_ok-extend_from_slice.ensures.items ∙ ap (λ (x : List ℕ). c.args.text.now.items ++ x) c.as_bytes.ensures.value)
    (c.in_ok-extend_from_slice-2.ensures.items ∙ ap (λ (x : List ℕ). c.extend_from_slice.new.self.items ++ x) c.as_bytes-2.ensures.value)
    (c.in_ok-extend_from_slice-3.ensures.items ∙ ap (λ (x : List ℕ). c.extend_from_slice-2.new.self.items ++ x) c.as_bytes-3.ensures.value)
    (c.in_ok-extend_from_slice-4.ensures.items ∙ ap (λ (x : List ℕ). c.extend_from_slice-3.new.self.items ++ x) c.as_bytes-4.ensures.value)
