use Rattle.std.proofs.Common.{[], subst, refl, inl}
use Rattle.std.specs.Prelude.{MatchOption}
use Rattle.std.specs.String.{string_bytes}
use Rattle.ir_hunt.specs.Hunt.{hunt_of}
use Rattle.ir_hunt.specs.Tried.{AreAllTried, IsLowestSeed, IsTriedLast}
use Rattle.ir_hunt.proofs.Parts.{no_seeds_are_tried}
use Rattle.ir_hunt.proofs.search.lowest_seed.Goals as goal

pub returns-then-seeds : goal.returns-then-seeds
returns-then-seeds g c = (
  [],
  (
    inl refl,
    no_seeds_are_tried (hunt_of c.args.image.now c.args.plan.now []) c.args.plan.now.seeds.first c.args.plan.now.seeds.last c.if-seeds.true,
  ),
)

pub returns : goal.returns
returns g c =
    let own = c.in_ok-own.own in
    let seeds = c.args.plan.now.seeds in
    let seconds = c.args.plan.now.seconds in
    let search = c.found_in.result in (
      own.choices,
      subst (λ h. MatchOption search.found (IsTriedLast seeds seconds search.last × AreAllTried h seeds.first search.last search.left_out)
          (λ f. IsLowestSeed h seeds.first seeds.last f.seed search.left_out (string_bytes f.list)))
          c.in_ok-own.ensures (c.found_in.ensures own seeds seconds c.in_ok-part.ensures),
    )
