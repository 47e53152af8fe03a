-- A connection from the bytes of an image and a trace on.
use Rattle.std.specs.Prelude.{◌≡◌, ℕ, ⊤, false, List, [], Option, Result, Ok, Err}
use Rattle.std.specs.Io.KnownBytes.{Appends}
use Rattle.ir_stream.specs.declared.serving.Served.{Served}
use Rattle.ir_stream.specs.declared.serving.Fault.{Fault}
use Rattle.ir_packet.specs.Stream.{items}
use Rattle.ir_debug.specs.Machine.{Desk, Opening, Opens, opening_text}
use Rattle.ir_debug.specs.Machine as opening
use Rattle.ir_debug.specs.Session.{most_input, ended_by}
use Rattle.ir_debug.specs.declared.ended.Ended.{Ended}
use Rattle.ir_debug.specs.declared.ended.Ended.TheVariants.{Quit, InputEnd, ImageRefused, TraceRefused, NotFit}
use Rattle.ir_debug.specs.declared.ended.SessionErr.{SessionErr}
use Rattle.ir_gdb.specs.Stub.{stub_of}
use Rattle.ir_gdb.specs.Connection.{Link, link_of, WroteReplies, WroteRepliesInPart, LeadsToLink}

-- a connection to a machine on which nothing was read
abbrev pub first_link : Desk → Link
first_link d = link_of (stub_of d)

-- the input leads to this result, and the writer took the answers to the items that are whole within the limit
pub record ServesItems (d : Desk) (result : Result Ended SessionErr) (old new : Option (List ℕ)) (input : List ℕ) : Type 0 where
  pub served : Result Served Fault
  pub ending : result ≡ ended_by served
  pub leads : LeadsToLink (first_link d) most_input served old new input

-- how a connection ends that isn't opened
abbrev pub EndsUnopened : Opening → Ended → Type 0
EndsUnopened (opening.ImageRefused e) ended = ended ≡ ImageRefused
EndsUnopened (opening.TraceRefused e) ended = ended ≡ TraceRefused
EndsUnopened (opening.Unfit v) ended = ended ≡ NotFit
EndsUnopened (opening.Ready d) ended = ⊥

-- nothing is written where nothing is opened
abbrev pub IsUnopened : Opening → Result Ended SessionErr → Option (List ℕ) → Option (List ℕ) → Type 0
IsUnopened o result old new = (ended : Ended) × EndsUnopened o ended × (result ≡ Ok ended) × Appends old new []

abbrev pub Connects : Opening → Result Ended SessionErr → Option (List ℕ) → Option (List ℕ) → List ℕ → Type 0
Connects (opening.ImageRefused e) result old new input = IsUnopened (opening.ImageRefused e) result old new
Connects (opening.TraceRefused e) result old new input = IsUnopened (opening.TraceRefused e) result old new
Connects (opening.Unfit v) result old new input = IsUnopened (opening.Unfit v) result old new
Connects (opening.Ready d) result old new input = ServesItems d result old new input

-- what the image and the trace open leads to the result
pub record Connected (image trace : List ℕ) (result : Result Ended SessionErr) (old new : Option (List ℕ)) (input : List ℕ) : Type 0 where
  pub opening : Opening
  pub opens : Opens image trace opening
  pub connects : Connects opening result old new input

-- P holds of the lines that a session begins with where nothing is opened
pub record Announced (image trace : List ℕ) (result : Result Ended SessionErr) (P : List ℕ → Type 0) : Type 0 where
  pub opening : Opening
  pub opens : Opens image trace opening
  pub ended : Ended
  pub refuses : EndsUnopened opening ended
  pub ending : result ≡ Ok ended
  pub text : P (opening_text opening)

-- the writer took the answers to all items, none of which ends the connection
pub record RepliedWhole (image trace : List ℕ) (old new : Option (List ℕ)) (consumed : List ℕ) : Type 0 where
  pub desk : Desk
  pub opens : Opens image trace (opening.Ready desk)
  pub wrote : WroteReplies (first_link desk) (items consumed) false old new

-- the writer took the answers to all items but the last, and a prefix of that one's
pub record RepliedInPart (image trace : List ℕ) (old new : Option (List ℕ)) (consumed : List ℕ) : Type 0 where
  pub desk : Desk
  pub opens : Opens image trace (opening.Ready desk)
  pub wrote : WroteRepliesInPart (first_link desk) (items consumed) old new

-- unless nothing was opened
abbrev pub IfNotRefused : Result Ended SessionErr → Type 0 → Type 0
IfNotRefused (Ok Quit) P = P
IfNotRefused (Ok InputEnd) P = P
IfNotRefused (Ok ImageRefused) P = ⊤
IfNotRefused (Ok TraceRefused) P = ⊤
IfNotRefused (Ok NotFit) P = ⊤
IfNotRefused (Err e) P = P
