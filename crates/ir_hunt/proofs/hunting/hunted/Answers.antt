use Rattle.std.proofs.Common.{sym, subst}
use Rattle.std.specs.Prelude.{MatchOption}
use Rattle.std.specs.String.{string_bytes}
use Rattle.ir_hunt.specs.Hunted.{IsFoundIn, IsNoneIn}
use Rattle.ir_hunt.proofs.Stopping.{search_is_hunt}
use Rattle.ir_hunt.proofs.hunting.hunted.Goals as goal

pub returns-clause-sought : goal.returns-clause-sought
returns-clause-sought g c =
    let s = c.in_ok-search.search in
    let said = c.in_ok-sought.sought in
    let image = c.args.image.now in
    let plan = c.args.plan.now in (
      s.left_out,
      subst (λ l. MatchOption said.found (IsNoneIn image plan l s.left_out) (λ f. IsFoundIn image plan s.left_out f.seed (string_bytes f.list)))
          (sym c.in_ok-sought.ensures.last)
          (subst (λ o. MatchOption o (IsNoneIn image plan s.last s.left_out) (λ f. IsFoundIn image plan s.left_out f.seed (string_bytes f.list)))
          (sym c.in_ok-sought.ensures.found)
          (search_is_hunt (λ f. f.seed) (λ f. string_bytes f.list) image plan c.in_ok-guest.guest.now c.in_ok-search.ensures.0 s.found s.last s.left_out
          c.in_ok-guest.ensures.exact c.in_ok-search.ensures.1)),
      c.in_ok-sought.ensures.left_out,
    )
