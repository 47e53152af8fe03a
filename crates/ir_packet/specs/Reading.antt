-- What a reader of a stream keeps.
use Rattle.std.specs.Prelude.{ℕ, List, [], ◌∷◌, ◌++◌, take, Option, Some, None}
use Rattle.ir_packet.specs.Stream.{Item, Place, Packet, BadSum, TooLong, Interrupt, Acknowledged, Refused, Between, Inside, Summing, Digit, ended_items, step}
use Rattle.ir_packet.specs.declared.standing.Standing.{Standing}
use Rattle.ir_packet.specs.declared.standing.Standing.TheVariants as standing
use Rattle.ir_packet.specs.declared.found.Found.{Found}
use Rattle.ir_packet.specs.declared.found.Found.TheVariants as found

-- how many bytes of a packet a reader keeps: one more than the most that it may have
abbrev pub most_stream_bytes : ℕ
most_stream_bytes = 4097

-- the place of a reader that keeps these bytes
abbrev pub read_place : Standing → List ℕ → Place
read_place standing.Between raw = Between
read_place standing.Inside raw = Inside raw
read_place standing.Summing raw = Summing raw
read_place (standing.Digit a) raw = Digit raw a

-- a place, by the bytes that are kept
abbrev pub kept : Place → Place
kept Between = Between
kept (Inside raw) = Inside (take most_stream_bytes raw)
kept (Summing raw) = Summing (take most_stream_bytes raw)
kept (Digit raw a) = Digit (take most_stream_bytes raw) a

-- a reader: its place, and the payload of the last packet that it found
pub record Reading : Type 0 where
  pub place : Place
  pub payload : List ℕ

-- what was found, with the payload
abbrev pub item_found : Found → List ℕ → Item
item_found found.Packet payload = Packet payload
item_found found.BadSum payload = BadSum
item_found found.TooLong payload = TooLong
item_found found.Interrupt payload = Interrupt
item_found found.Acknowledged payload = Acknowledged
item_found found.Refused payload = Refused

-- the item that was found, if one was
abbrev pub items_found : Option Found → List ℕ → List Item
items_found None payload = []
items_found (Some f) payload = item_found f payload ∷ []

-- what a reader finds that takes the bytes one after the other
unfoldable pub items_read : Place → List ℕ → List Item
items_read p [] = []
items_read p (b ∷ bytes) = ended_items p b ++ items_read (kept (step p b)) bytes
