use Rattle.std.proofs.Common.{◌∙◌, length, sym, ap}
use Rattle.ir_image.specs.Guest.{Guest}
use Rattle.ir_why.proofs.fit_run.is_cut.Goals as goal

pub returns-clause-is : goal.returns-clause-is
returns-clause-is c = λ yes. (
  ap length (sym c.positions.ensures) ∙ c.if-positions-entries.false ∙
      ap length (c.entries.ensures.value ∙ ap (λ (g : Guest). g.entries) c.image.ensures.value),
  c.consistent.ensures.0 yes,
)
