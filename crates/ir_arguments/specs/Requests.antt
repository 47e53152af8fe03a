-- What a command line may ask for. Texts are bytes, and what isn't given is None.
use Rattle.std.specs.Prelude.{ℕ, Bool, List, Option}
use Rattle.clap.specs.Words.{Text}
use Rattle.ir_thread.specs.declared.profile.Profile.{Profile}
use Rattle.ir_schedule.specs.declared.seeds.Seeds.{Seeds}
use Rattle.ir_schedule.specs.declared.way.Way.{Way}
use Rattle.ir_arguments.specs.declared.record.Chaos.{Chaos}
use Rattle.ir_arguments.specs.declared.view.Part.{Part}

-- a source that is assembled
pub record Assembly : Type 0 where
  pub source : Text
  pub image : Text
  pub map : Option Text
  pub explain : Bool

-- an ELF file whose image is made
pub record Conversion : Type 0 where
  pub elf : Text
  pub image : Text
  pub explain : Bool

-- a recorded run
pub record Run : Type 0 where
  pub image : Text
  pub trace : Text

-- an image whose code is listed
pub record CodeListing : Type 0 where
  pub image : Text
  pub map : Option Text

-- a recorded run whose events are listed
pub record EventListing : Type 0 where
  pub image : Text
  pub trace : Text
  pub map : Option Text

-- a trace whose stale writes are printed
pub record StaleWrites : Type 0 where
  pub trace : Text
  pub image : Option Text

-- an object of a trace whose versions are printed
pub record Versions : Type 0 where
  pub trace : Text
  pub object : ℕ
  pub version : Option ℕ
  pub word : Option ℕ
  pub image : Option Text

-- an event that is explained
pub record Reasons : Type 0 where
  pub trace : Text
  pub thread : ℕ
  pub event : ℕ
  pub lines : ℕ
  pub image : Option Text
  pub at : Option (List ℕ)

-- two traces that are compared
pub record Difference : Type 0 where
  pub first : Text
  pub second : Text

-- a trace that is shown
pub record Picture : Type 0 where
  pub trace : Text
  pub json : Bool
  pub chrome : Bool
  pub part : Option Part
  pub image : Option Text

-- how a guest is recorded, by whatever order
pub record Options : Type 0 where
  pub budget : ℕ
  pub random : ℕ
  pub profile : Profile
  pub input : Option Text
  pub output : Option Text

-- a guest that is recorded
pub record Recording : Type 0 where
  pub image : Text
  pub trace : Text
  pub order : Option Text
  pub order_file : Option Text
  pub chaos : Option Chaos
  pub options : Options
  pub status : Bool

-- seeds of which the first is recorded whose run fulfils conditions
pub record SeedHunt : Type 0 where
  pub image : Text
  pub trace : Text
  pub seeds : Seeds
  pub way : Way
  pub until : List Text
  pub stale : Option Bool
  pub jobs : ℕ
  pub seconds : Option ℕ
  pub shrinks : Bool
  pub options : Options

-- a recorded run of which one with fewer switches is recorded
pub record Shrinking : Type 0 where
  pub image : Text
  pub trace : Text
  pub out : Text
  pub until : List Text
  pub stale : Option Bool
  pub seconds : Option ℕ
  pub random : ℕ
  pub input : Option Text
  pub output : Option Text

-- a guest that is explored, and how far
pub record Exploration : Type 0 where
  pub image : Text
  pub states : ℕ
  pub private : ℕ
  pub switches : ℕ
  pub seconds : Option ℕ
  pub outcomes : Option ℕ
  pub profile : Profile
  pub random : ℕ
  pub input : Option Text

-- an outcome that is recorded, or a run that hangs
pub record Search : Type 0 where
  pub explore : Exploration
  pub trace : Text
  pub until : List Text
  pub hang : Bool
  pub output : Option Text

-- what of outcomes counts
pub record Parts : Type 0 where
  pub outputs : Bool
  pub ends : Bool
  pub objects : Option (List ℕ)

-- outcomes that are told by classes
pub record Classes : Type 0 where
  pub explore : Exploration
  pub counted : Parts

-- outcomes that another guest doesn't have
pub record GuestComparison : Type 0 where
  pub explore : Exploration
  pub other : Text
  pub counted : Parts

-- outcomes that another guest doesn't have, of which the first is recorded
pub record OutsideSearch : Type 0 where
  pub comparison : GuestComparison
  pub trace : Text
  pub output : Option Text

-- a source, a run, lines or outcomes
pub data Request : Type 0 where
  -- a session of standard input
  Session : Request
  Assemble : Assembly → Request
  Convert : Conversion → Request
  Record : Recording → Request
  HuntFor : SeedHunt → Request
  Shrink : Shrinking → Request
  Debug : Run → Request
  Gdb : Run → Request
  ShowCode : CodeListing → Request
  ShowTrace : Text → Request
  ShowEvents : EventListing → Request
  ShowStale : StaleWrites → Request
  ShowVersions : Versions → Request
  ShowReasons : Reasons → Request
  ShowDifference : Difference → Request
  ShowPicture : Picture → Request
  Explore : Exploration → Request
  SearchFor : Search → Request
  ShowClasses : Classes → Request
  Compare : GuestComparison → Request
  RecordOutside : OutsideSearch → Request
  -- a text about the program, which is left open
  Help : Request
  -- nothing that there is, for a reason whose text is left open
  Nothing : Request
  -- memory ran out
  NoMemory : Request
