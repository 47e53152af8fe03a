use Rattle.std.proofs.Common.{refl, [], ◌∷◌}
use Rattle.std.specs.Prelude.{codes}
use Rattle.ir_packet.specs.Requests.{packet_row, without_argument, whatever, asked_queries}
use Rattle.ir_packet.specs.declared.request.Request.TheVariants as request
use Rattle.ir_packet.proofs.Rows.{asked_in_first_row, asked_in_later_row}
use Rattle.ir_packet.proofs.parse.asked_queries.Goals as goal

pub returns-in-Some : goal.returns-in-Some
unfolding asked_queries
returns-in-Some c =
    asked_in_first_row (packet_row (codes "qSupported") (whatever request.Supported))
    ((packet_row (codes "QStartNoAckMode") (without_argument request.NoAcknowledgements))
    ∷ (packet_row (codes "qAttached") (whatever request.Attached))
    ∷ (packet_row (codes "qOffsets") (without_argument request.Offsets))
    ∷ (packet_row (codes "qSymbol::") (without_argument request.Symbols)) ∷ [])
    _ _ _ c.in-Some.ensures.value refl

pub returns-in-Some-after_name : goal.returns-in-Some-after_name
unfolding asked_queries
returns-in-Some-after_name c =
    asked_in_later_row (packet_row (codes "qSupported") (whatever request.Supported))
    ((packet_row (codes "QStartNoAckMode") (without_argument request.NoAcknowledgements))
    ∷ (packet_row (codes "qAttached") (whatever request.Attached))
    ∷ (packet_row (codes "qOffsets") (without_argument request.Offsets))
    ∷ (packet_row (codes "qSymbol::") (without_argument request.Symbols)) ∷ [])
    _ _ c.in_default.ensures.value
    (asked_in_first_row (packet_row (codes "QStartNoAckMode") (without_argument request.NoAcknowledgements))
    ((packet_row (codes "qAttached") (whatever request.Attached))
    ∷ (packet_row (codes "qOffsets") (without_argument request.Offsets))
    ∷ (packet_row (codes "qSymbol::") (without_argument request.Symbols)) ∷ [])
    _ _ _ c.in-Some-after_name.ensures.value c.plain.ensures)

pub returns-in-Some-after_name-2 : goal.returns-in-Some-after_name-2
unfolding asked_queries
returns-in-Some-after_name-2 c =
    asked_in_later_row (packet_row (codes "qSupported") (whatever request.Supported))
    ((packet_row (codes "QStartNoAckMode") (without_argument request.NoAcknowledgements))
    ∷ (packet_row (codes "qAttached") (whatever request.Attached))
    ∷ (packet_row (codes "qOffsets") (without_argument request.Offsets))
    ∷ (packet_row (codes "qSymbol::") (without_argument request.Symbols)) ∷ [])
    _ _ c.in_default.ensures.value
    (asked_in_later_row (packet_row (codes "QStartNoAckMode") (without_argument request.NoAcknowledgements))
    ((packet_row (codes "qAttached") (whatever request.Attached))
    ∷ (packet_row (codes "qOffsets") (without_argument request.Offsets))
    ∷ (packet_row (codes "qSymbol::") (without_argument request.Symbols)) ∷ [])
    _ _ c.in_default-after_name.ensures.value
    (asked_in_first_row (packet_row (codes "qAttached") (whatever request.Attached))
    ((packet_row (codes "qOffsets") (without_argument request.Offsets))
    ∷ (packet_row (codes "qSymbol::") (without_argument request.Symbols)) ∷ [])
    _ _ _ c.in-Some-after_name-2.ensures.value refl))

pub returns-in-Some-after_name-3 : goal.returns-in-Some-after_name-3
unfolding asked_queries
returns-in-Some-after_name-3 c =
    asked_in_later_row (packet_row (codes "qSupported") (whatever request.Supported))
    ((packet_row (codes "QStartNoAckMode") (without_argument request.NoAcknowledgements))
    ∷ (packet_row (codes "qAttached") (whatever request.Attached))
    ∷ (packet_row (codes "qOffsets") (without_argument request.Offsets))
    ∷ (packet_row (codes "qSymbol::") (without_argument request.Symbols)) ∷ [])
    _ _ c.in_default.ensures.value
    (asked_in_later_row (packet_row (codes "QStartNoAckMode") (without_argument request.NoAcknowledgements))
    ((packet_row (codes "qAttached") (whatever request.Attached))
    ∷ (packet_row (codes "qOffsets") (without_argument request.Offsets))
    ∷ (packet_row (codes "qSymbol::") (without_argument request.Symbols)) ∷ [])
    _ _ c.in_default-after_name.ensures.value
    (asked_in_later_row (packet_row (codes "qAttached") (whatever request.Attached))
    ((packet_row (codes "qOffsets") (without_argument request.Offsets))
    ∷ (packet_row (codes "qSymbol::") (without_argument request.Symbols)) ∷ [])
    _ _ c.in_default-after_name-2.ensures.value
    (asked_in_first_row (packet_row (codes "qOffsets") (without_argument request.Offsets))
    ((packet_row (codes "qSymbol::") (without_argument request.Symbols)) ∷ []) _ _ _ c.in-Some-after_name-3.ensures.value
    c.plain-in-Some-after_name-3.ensures)))

pub returns-in-Some-after_name-4 : goal.returns-in-Some-after_name-4
unfolding asked_queries
returns-in-Some-after_name-4 c =
    asked_in_later_row (packet_row (codes "qSupported") (whatever request.Supported))
    ((packet_row (codes "QStartNoAckMode") (without_argument request.NoAcknowledgements))
    ∷ (packet_row (codes "qAttached") (whatever request.Attached))
    ∷ (packet_row (codes "qOffsets") (without_argument request.Offsets))
    ∷ (packet_row (codes "qSymbol::") (without_argument request.Symbols)) ∷ [])
    _ _ c.in_default.ensures.value
    (asked_in_later_row (packet_row (codes "QStartNoAckMode") (without_argument request.NoAcknowledgements))
    ((packet_row (codes "qAttached") (whatever request.Attached))
    ∷ (packet_row (codes "qOffsets") (without_argument request.Offsets))
    ∷ (packet_row (codes "qSymbol::") (without_argument request.Symbols)) ∷ [])
    _ _ c.in_default-after_name.ensures.value
    (asked_in_later_row (packet_row (codes "qAttached") (whatever request.Attached))
    ((packet_row (codes "qOffsets") (without_argument request.Offsets))
    ∷ (packet_row (codes "qSymbol::") (without_argument request.Symbols)) ∷ [])
    _ _ c.in_default-after_name-2.ensures.value
    (asked_in_later_row (packet_row (codes "qOffsets") (without_argument request.Offsets))
    ((packet_row (codes "qSymbol::") (without_argument request.Symbols)) ∷ []) _ _ c.in_default-after_name-3.ensures.value
    (asked_in_first_row (packet_row (codes "qSymbol::") (without_argument request.Symbols)) [] _ _ _
    c.in-Some-after_name-4.ensures.value c.plain-in-Some-after_name-4.ensures))))

pub returns-in_default-after_name-4 : goal.returns-in_default-after_name-4
unfolding asked_queries
returns-in_default-after_name-4 c =
    asked_in_later_row (packet_row (codes "qSupported") (whatever request.Supported))
    ((packet_row (codes "QStartNoAckMode") (without_argument request.NoAcknowledgements))
    ∷ (packet_row (codes "qAttached") (whatever request.Attached))
    ∷ (packet_row (codes "qOffsets") (without_argument request.Offsets))
    ∷ (packet_row (codes "qSymbol::") (without_argument request.Symbols)) ∷ [])
    _ _ c.in_default.ensures.value
    (asked_in_later_row (packet_row (codes "QStartNoAckMode") (without_argument request.NoAcknowledgements))
    ((packet_row (codes "qAttached") (whatever request.Attached))
    ∷ (packet_row (codes "qOffsets") (without_argument request.Offsets))
    ∷ (packet_row (codes "qSymbol::") (without_argument request.Symbols)) ∷ [])
    _ _ c.in_default-after_name.ensures.value
    (asked_in_later_row (packet_row (codes "qAttached") (whatever request.Attached))
    ((packet_row (codes "qOffsets") (without_argument request.Offsets))
    ∷ (packet_row (codes "qSymbol::") (without_argument request.Symbols)) ∷ [])
    _ _ c.in_default-after_name-2.ensures.value
    (asked_in_later_row (packet_row (codes "qOffsets") (without_argument request.Offsets))
    ((packet_row (codes "qSymbol::") (without_argument request.Symbols)) ∷ []) _ _ c.in_default-after_name-3.ensures.value
    (asked_in_later_row (packet_row (codes "qSymbol::") (without_argument request.Symbols)) [] _ _
    c.in_default-after_name-4.ensures.value (refl)))))
