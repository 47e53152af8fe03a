use Rattle.std.proofs.Common.{ap}
use Rattle.ir_picture.specs.declared.placed_box.Point.{Point}
use Rattle.ir_holds.proofs.checking.spot_of.Goals as goal

pub returns : goal.returns
returns c = λ boxes spans holds.
    let s = c.args.span.now in
    record {
      free = c.past-free.result;
      of_marks = c.past-free.ensures.least boxes spans holds;
      start_x = ap (λ (p : Point). p.x) c.later-start.ensures;
      came = c.come-came.ensures boxes spans holds;
      start_u = ap (λ (p : Point). p.u) c.later-start.ensures;
      end_x = c.past.ensures.least boxes spans holds;
      end_u = c.come.ensures boxes spans holds;
    }
