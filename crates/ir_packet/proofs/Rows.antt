-- What the first row of a table makes of a payload.
use Rattle.std.proofs.Common.{◌≡◌, ◌∙◌, sym, ap, ℕ, List, ◌∷◌, Some}
use Rattle.std.specs.Prelude.{Option, None}
use Rattle.ir_packet.specs.declared.request.Request.{Request}
use Rattle.ir_packet.specs.Requests.{PacketRow, asked_in, request_by, after_name}

-- the payload begins with its name
pub asked_in_first_row : (r : PacketRow) (rows : List PacketRow) (payload rest : List ℕ) (q : Request) → after_name r.name payload ≡ Some rest → q ≡ r.makes rest → Some q ≡ asked_in (r ∷ rows) payload
asked_in_first_row r rows payload rest q e m = ap Some m ∙ sym (λ i. request_by r (e i) (asked_in rows payload))

-- it does not
pub asked_in_later_row : (r : PacketRow) (rows : List PacketRow) (payload : List ℕ) (q : Option Request) → after_name r.name payload ≡ None
    → q ≡ asked_in rows payload → q ≡ asked_in (r ∷ rows) payload
asked_in_later_row r rows payload q e m = m ∙ sym (λ i. request_by r (e i) (asked_in rows payload))
