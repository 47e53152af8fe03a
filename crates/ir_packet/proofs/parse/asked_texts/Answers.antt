use Rattle.std.proofs.Common.{refl, [], ◌∷◌}
use Rattle.std.specs.Prelude.{codes}
use Rattle.ir_packet.specs.Requests.{packet_row, two_with_comma, asked_texts}
use Rattle.ir_packet.specs.declared.request.Request.TheVariants as request
use Rattle.ir_packet.proofs.Rows.{asked_in_first_row, asked_in_later_row}
use Rattle.ir_packet.proofs.parse.asked_texts.Goals as goal

pub returns-in-Some : goal.returns-in-Some
unfolding asked_texts
returns-in-Some c =
    asked_in_first_row (packet_row (codes "qXfer:features:read:target.xml:") (two_with_comma request.Description))
    ((packet_row (codes "qXfer:threads:read::") (two_with_comma request.Threads)) ∷ []) _ _ _ c.in-Some.ensures.value
    c.description.ensures

pub returns-in-Some-after_name : goal.returns-in-Some-after_name
unfolding asked_texts
returns-in-Some-after_name c =
    asked_in_later_row (packet_row (codes "qXfer:features:read:target.xml:") (two_with_comma request.Description))
    ((packet_row (codes "qXfer:threads:read::") (two_with_comma request.Threads)) ∷ []) _ _ c.in_default.ensures.value
    (asked_in_first_row (packet_row (codes "qXfer:threads:read::") (two_with_comma request.Threads)) [] _ _ _
    c.in-Some-after_name.ensures.value c.threads.ensures)

pub returns-in_default-after_name : goal.returns-in_default-after_name
unfolding asked_texts
returns-in_default-after_name c =
    asked_in_later_row (packet_row (codes "qXfer:features:read:target.xml:") (two_with_comma request.Description))
    ((packet_row (codes "qXfer:threads:read::") (two_with_comma request.Threads)) ∷ []) _ _ c.in_default.ensures.value
    (asked_in_later_row (packet_row (codes "qXfer:threads:read::") (two_with_comma request.Threads)) [] _ _
    c.in_default-after_name.ensures.value (refl))
