-- Where the code may go on, as the marking keeps it.
use Rattle.std.specs.Prelude.{◌≡◌, ℕ, ◌%◌, ◌<◌, ◌⊎◌, Option, Some, None}
use Rattle.ir_liveness.specs.Flow.{call_limit}
use Rattle.ir_liveness.specs.declared.flow.Way.{Way}
use Rattle.ir_liveness.specs.declared.flow.Way.TheVariants.{Nowhere, To, Either, Anywhere}

-- the way leads to this pc, of a word
abbrev pub LeadsToWord : Way → ℕ → Type 0
LeadsToWord Nowhere next = ⊥
LeadsToWord (To there) next = (next ≡ there) × (next % 4 ≡ 0)
LeadsToWord (Either first second) next = ((next ≡ first) ⊎ (next ≡ second)) × (next % 4 ≡ 0)
LeadsToWord Anywhere next = next % 4 ≡ 0

-- a7 may ask for this call: it is the known call, or no call is known
abbrev pub MayAsk : Option ℕ → ℕ → Type 0
MayAsk (Some known) number = number ≡ known
MayAsk None number = number < call_limit
