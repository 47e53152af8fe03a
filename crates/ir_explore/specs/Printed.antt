-- Outcomes that are printed while a search for them goes on.
use Rattle.std.specs.Prelude.{ℕ, List}
use Rattle.ir_files.specs.Writers.{Writer, Took, Failed}
use Rattle.ir_graph.specs.Setup.{Setup}
use Rattle.ir_outcomes.specs.declared.exploring.Exploring.{Exploring}
use Rattle.ir_explore.specs.Texts.{Objects, AreTexts, TellsPart}
use Rattle.ir_explore.specs.declared.fault.ExploreFault.{ExploreFault}
use Rattle.ir_explore.specs.declared.fault.ExploreFault.TheVariants.{Image, TooLarge, NoMem, Write}

-- the lines of the first outcomes that a search has found
abbrev pub HasPrinted : Objects → Exploring → ℕ → List ℕ → Type 0
HasPrinted o e many text = AreTexts o e.states.graph.flats.items e.list.outcomes.items many text

-- why no more is printed: out of memory after the lines of the outcomes that were found by then, or the writer failed in these
abbrev pub EndsEarly : ExploreFault → Setup → Writer → Type 0
EndsEarly (Image e) setup w = ⊥
EndsEarly TooLarge setup w = ⊥
EndsEarly NoMem setup w = (text : List ℕ) × TellsPart setup text × Took w text
EndsEarly Write setup w = (text : List ℕ) × TellsPart setup text × Failed w text
