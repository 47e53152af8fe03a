-- What a stream of bytes holds, in the order of the ends.
use Rattle.std.specs.Prelude.{◌==◌, ℕ, List, [], ◌∷◌, ◌++◌, length, nat_lt, if◌then◌else◌}
use Rattle.ir_packet.specs.Packets.{dollar, hash, checksum, unescaped, two_digits, is_number}

-- the most bytes that may be between `$` and `#`
abbrev pub most_packet_bytes : ℕ
most_packet_bytes = 4096

-- a packet by its payload, one with a wrong sum, one with too many bytes, or a byte that counts between packets: 03, `+`, `-`
pub data Item : Type 0 where
  Packet : List ℕ → Item
  BadSum : Item
  TooLong : Item
  Interrupt : Item
  Acknowledged : Item
  Refused : Item

-- where the next byte stands: between packets, after `$` and these bytes, after `#`, or after a digit
pub data Place : Type 0 where
  Between : Place
  Inside : List ℕ → Place
  Summing : List ℕ → Place
  Digit : List ℕ → ℕ → Place

-- what `$`, these bytes, `#` and two bytes are
abbrev pub packet_item : List ℕ → ℕ → ℕ → Item
packet_item raw a b = if nat_lt most_packet_bytes (length raw) then TooLong else if is_number (two_digits a b) (checksum raw) then Packet
    (unescaped raw) else BadSum

-- what a byte between packets is; all other bytes are dropped
abbrev pub byte_items : ℕ → List Item
byte_items b = if b == 3 then Interrupt ∷ [] else if b == 43 then Acknowledged ∷ [] else if b == 45 then Refused ∷ [] else []

-- where the byte after this one stands. A `$` begins a packet, also where one isn't at its `#`
abbrev pub step : Place → ℕ → Place
step Between b = if b == dollar then Inside [] else Between
step (Inside raw) b = if b == dollar then Inside [] else if b == hash then Summing raw else Inside (raw ++ b ∷ [])
step (Summing raw) b = Digit raw b
step (Digit raw a) b = Between

-- what a byte ends
abbrev pub ended_items : Place → ℕ → List Item
ended_items Between b = byte_items b
ended_items (Inside raw) b = []
ended_items (Summing raw) b = []
ended_items (Digit raw a) b = packet_item raw a b ∷ []

-- where the byte after these stands
unfoldable pub place_after : Place → List ℕ → Place
place_after p [] = p
place_after p (b ∷ bytes) = place_after (step p b) bytes

-- what the bytes end, from a place on
unfoldable pub items_from : Place → List ℕ → List Item
items_from p [] = []
items_from p (b ∷ bytes) = ended_items p b ++ items_from (step p b) bytes

-- what a stream of bytes holds; a packet that the bytes end in is none
abbrev pub items : List ℕ → List Item
items bytes = items_from Between bytes
