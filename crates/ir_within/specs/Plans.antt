-- What is compared, by a plan.
use Rattle.std.specs.Prelude.{option_map}
use Rattle.ir_within.specs.declared.aspects.Aspects as declared
use Rattle.ir_within.specs.declared.run.WithinPlan.{WithinPlan}
use Rattle.ir_within.specs.Aspects.{Aspects}
use Rattle.ir_within.specs.Faults.{Comparison}

-- what counts, as definitions have it
abbrev pub aspects_of : declared.Aspects → Aspects
aspects_of a = record { outputs = a.outputs; ends = a.ends; objects = option_map (λ o. o.now) a.objects }

-- the two images and how their guests are compared
abbrev pub comparison_of : {W : Type 0} → WithinPlan W → Comparison
comparison_of p = record { image = p.image.now; other = p.other.now; plan = p.explore; aspects = aspects_of p.aspects }
