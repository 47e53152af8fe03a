use Rattle.std.proofs.Common.{◌+◌, ◌*◌, ◌<◌, Bool, List, true, length, length-set, sym, ◌∙◌, subst}
use Rattle.ir_liveness.specs.Marks.{places_of_word}
use Rattle.ir_liveness.proofs.Anywhere.{anywhere_after_setting}
use Rattle.ir_liveness.proofs.marks.Marks.mark.Goals as goal

pub invariant_of-self : goal.invariant_of-self
invariant_of-self c = (
  length-set c.self.inside.anywhere.items c.args.place true ∙ c.self.invariant.0,
  anywhere_after_setting c.self.inside.marks.items c.self.inside.anywhere.items c.args.word c.args.place c.self.invariant.1 c.self.invariant.0
      (subst (λ (z : List Bool). c.args.word * places_of_word + c.args.place < length z) (sym c.self.view_is) c.requires.within) c.requires.low,
)
