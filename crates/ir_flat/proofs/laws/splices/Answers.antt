use Rattle.std.proofs.Common.{ap, ◌∙◌}
use Rattle.ir_flat.proofs.Splice.{splice_runs_with_trails}
use Rattle.ir_flat.proofs.laws.splices.Goals as goal

pub returns : goal.returns
returns c = λ m s rs n order idle alone steps allowed. let k = splice_runs_with_trails m s.now s.objects rs n order idle alone steps allowed in
    record {
      runs = k.ok;
      trails = k.trails;
      threads = k.threads;
      objects = k.objects;
      complete = λ done t. ap m.ask (k.threads t)
          ∙ done t;
    }
