use Rattle.std.proofs.Common.{◌≡◌, length, replicate, sym, subst}
use Rattle.ir_fit.specs.Listed.{none_listed}
use Rattle.ir_fit.specs.PartlyListed.{AreListed}
use Rattle.ir_fit.proofs.PartlyListed.{nothing_listed_at_start}
use Rattle.ir_fit.proofs.visiting.ListedVisits.new.Goals as goal

pub returns : goal.returns
returns c =
    let run = c.args.run.now in
    let counts : c.in_ok-vec.field-0.items ≡ replicate (length run.places.now) 0 = c.in_ok-vec.ensures.items_if_clones_equal (λ y e. e) in
    subst (AreListed run c.in_ok-vec.field-0.items) (sym c.new.ensures)
    (subst (λ ns. AreListed run ns none_listed) (sym counts) (nothing_listed_at_start run))
