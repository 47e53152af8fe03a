use Rattle.std.proofs.Common.{◌≡◌, ◌++◌, [], ◌∷◌, Some, length, length-append, sym, ap, ◌∙◌, subst, arith}
use Rattle.std.specs.Prelude.{slice_get}
use Rattle.std.specs.List.{slice_index_or}
use Rattle.std.proofs.lemmas.Option.{same_Some, slice_get-get_or}
use Rattle.ir_search.specs.declared.origin.Origin.{Origin}
use Rattle.ir_search.specs.Origins.{first_origin}
use Rattle.ir_outcomes.specs.Path.{IsPathTo}
use Rattle.ir_outcomes.proofs.Paths.{path_prefix_step, turn_before_is_lower}
use Rattle.ir_outcomes.proofs.path.path_to.Goals as goal

pub back-preserved : goal.back-preserved
back-preserved c =
    let origins = c.args.origins.now in
    let n : Origin = slice_index_or origins c.back.at first_origin in
    let at : slice_get origins c.back.at ≡ Some n = slice_get-get_or origins c.back.at first_origin c.back.invariant.within in
    let lower = turn_before_is_lower origins c.requires.falls c.back.at c.back.invariant.within (let z = c.if-origin-eq0.false in omega (arith, z)) in
    record {
      within = lower.0;
      path = λ more rest.
          subst (λ z. IsPathTo origins c.args.node (z ++ more)) (sym c.in_ok-push.ensures.items)
          (path_prefix_step origins c.args.node c.back.at n c.back.path.items at c.back.invariant.path more rest);
      few = λ first before is there.
          let f = c.back.invariant.few first n is at in
          let e = ap (λ z. z.level) (same_Some (slice_index_or origins n.from first_origin) before
          (sym (slice_get-get_or origins n.from first_origin lower.0) ∙ there)) in
          let less = lower.1 in
          let more = ap length c.in_ok-push.ensures.items in
          let one = length-append c.back.path.items (n ∷ []) in
          omega (arith, f, e, less, more, one);
    }

pub back-smaller : goal.back-smaller
back-smaller c =
    let origins = c.args.origins.now in
    (turn_before_is_lower origins c.requires.falls c.back.at c.back.invariant.within (let z = c.if-origin-eq0.false in omega (arith, z))).1
