-- A stream of bytes cut into packets and what is between them.
use Rattle.std.specs.Prelude.{◌≡◌, ◌==◌, ℕ, List, [], ◌∷◌, ◌++◌, ⊤, if◌then◌else◌}
use Rattle.ir_packet.specs.Packets.{dollar, hash}
use Rattle.ir_packet.specs.Stream.{Item, Place, Between, Inside, Summing, Digit, packet_item, byte_items, step}

-- a byte between packets; `$`, bytes, `#` and two bytes; or a packet that a `$` or the end of the stream cut off, by all of its bytes
pub data Part : Type 0 where
  Byte : ℕ → Part
  Whole : List ℕ → ℕ → ℕ → Part
  CutOff : List ℕ → Part

-- the bytes of a part
abbrev pub bytes_of : Part → List ℕ
bytes_of (Byte b) = b ∷ []
bytes_of (Whole raw a b) = dollar ∷ (raw ++ hash ∷ a ∷ b ∷ [])
bytes_of (CutOff bytes) = bytes

-- what a part holds
abbrev pub items_of_part : Part → List Item
items_of_part (Byte b) = byte_items b
items_of_part (Whole raw a b) = packet_item raw a b ∷ []
items_of_part (CutOff bytes) = []

-- the bytes of the packet that was begun
abbrev pub begun_packet : Place → List ℕ
begun_packet Between = []
begun_packet (Inside raw) = dollar ∷ raw
begun_packet (Summing raw) = dollar ∷ (raw ++ hash ∷ [])
begun_packet (Digit raw a) = dollar ∷ (raw ++ hash ∷ a ∷ [])

-- the part that the end of the stream cuts off
abbrev pub left_at : Place → List Part
left_at Between = []
left_at (Inside raw) = CutOff (begun_packet (Inside raw)) ∷ []
left_at (Summing raw) = CutOff (begun_packet (Summing raw)) ∷ []
left_at (Digit raw a) = CutOff (begun_packet (Digit raw a)) ∷ []

-- the part that a byte ends, or that it cuts off
abbrev pub part_at : Place → ℕ → List Part
part_at Between b = if b == dollar then [] else Byte b ∷ []
part_at (Inside raw) b = if b == dollar then CutOff (begun_packet (Inside raw)) ∷ [] else []
part_at (Summing raw) b = []
part_at (Digit raw a) b = Whole raw a b ∷ []

-- bytes without `$` and `#`
unfoldable pub IsPlain : List ℕ → Type 0
IsPlain [] = ⊤
IsPlain (b ∷ rest) = (b ≡ dollar → ⊥) × (b ≡ hash → ⊥) × IsPlain rest

-- a place in a packet with such bytes
abbrev pub IsPlainPlace : Place → Type 0
IsPlainPlace Between = ⊤
IsPlainPlace (Inside raw) = IsPlain raw
IsPlainPlace (Summing raw) = IsPlain raw
IsPlainPlace (Digit raw a) = IsPlain raw

-- what each part is made of: a byte between packets is no `$`, a packet has no `$` or `#` among its bytes, and one that is cut off was begun
abbrev pub IsStreamPart : Part → Type 0
IsStreamPart (Byte b) = b ≡ dollar → ⊥
IsStreamPart (Whole raw a b) = IsPlain raw
IsStreamPart (CutOff bytes) = (p : Place) × (bytes ≡ begun_packet p) × IsPlainPlace p × (p ≡ Between → ⊥)

-- a part that begins with `$`
abbrev pub BeginsPacket : Part → Type 0
BeginsPacket (Byte b) = ⊥
BeginsPacket (Whole raw a b) = ⊤
BeginsPacket (CutOff bytes) = ⊤

-- what stands behind a packet that is cut off: nothing, or the `$` that cut it off before its `#`
abbrev pub CutsOff : List ℕ → List Part → Type 0
CutsOff bytes [] = ⊤
CutsOff bytes (next ∷ rest) = ((raw : List ℕ) × (bytes ≡ begun_packet (Inside raw)) × IsPlain raw) × BeginsPacket next

-- each packet that is cut off is so
unfoldable pub AreCutOff : List Part → Type 0
AreCutOff [] = ⊤
AreCutOff (Byte b ∷ rest) = AreCutOff rest
AreCutOff (Whole raw a b ∷ rest) = AreCutOff rest
AreCutOff (CutOff bytes ∷ rest) = CutsOff bytes rest × AreCutOff rest

-- the parts of the bytes, from a place on
unfoldable pub parts_from : Place → List ℕ → List Part
parts_from p [] = left_at p
parts_from p (b ∷ bytes) = part_at p b ++ parts_from (step p b) bytes

-- the parts of a stream
abbrev pub parts : List ℕ → List Part
parts bytes = parts_from Between bytes
