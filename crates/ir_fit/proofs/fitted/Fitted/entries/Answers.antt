use Rattle.std.proofs.Common.{◌<◌, length, ap, ◌∙◌, arith}
use Rattle.std.proofs.lemmas.List.{get_or_read}
use Rattle.ir_fit.specs.Fit.{FittedTrace}
use Rattle.ir_fit.specs.Growing.{none_placed}
use Rattle.ir_fit.specs.Placed.{Placed, placed_at, placed_of}
use Rattle.ir_fit.proofs.Placements.{length-placed_of}
use Rattle.ir_fit.proofs.fitted.Fitted.entries.Goals as goal

pub index-requires : goal.index-requires
index-requires c =
    let f : FittedTrace = record { guest = c.self.inside.image; recorded = c.self.inside.trace } in
    omega (
      arith,
      c.requires,
      c.self.inside.places.ok,
      ap length c.self.invariant.1,
      length-placed_of f,
      ap (λ (g : FittedTrace). length g.guest.entries) c.self.view_is,
    )

pub returns : goal.returns
returns c =
    let f : FittedTrace = record { guest = c.self.inside.image; recorded = c.self.inside.trace } in
    let ps = c.self.inside.places.items in
    let within : c.args.t < length ps = omega (
      arith,
      c.requires,
      ap length c.self.invariant.1,
      length-placed_of f,
      ap (λ (g : FittedTrace). length g.guest.entries) c.self.view_is,
    ) in
    c.entries.ensures ∙ ap (λ (p : Placed). p.entries) (get_or_read ps c.args.t c.index.result.now within c.index.ensures none_placed)
    ∙ ap (λ qs. (placed_at qs c.args.t).entries) c.self.invariant.1 ∙ ap (λ (g : FittedTrace). (placed_at (placed_of g) c.args.t).entries) c.self.view_is
