use Rattle.std.proofs.Common.{◌<◌, ◌∙◌, get_or, subst}
use Rattle.std.specs.Prelude.{All}
use Rattle.ir_hunt.specs.Parts.{IsTried}
use Rattle.ir_hunt.proofs.worker.seek_all.Goals as goal

pub returns-clause-tried : goal.returns-clause-tried
returns-clause-tried g c hunt same i d below =
    let there = subst (λ n. i < n) c.seek_each.ensures.same below in
    let tried = c.seek_each.ensures.tried i d there in record {
      same = tried.same ∙ same i d there;
      each = subst (λ h. All (IsTried h) (get_or c.seek_each.new.workers i d).parts.items) (same i d there) tried.each;
    }

pub returns-clause-tries : goal.returns-clause-tries
returns-clause-tries g c hunt same i d below =
    let there = subst (λ n. i < n) c.seek_each.ensures.same below in (c.seek_each.ensures.tried i d there).same ∙ same i d there
