-- Replies that neither depend on the run nor change anything.
use Rattle.std.specs.Prelude.{Option, Some, None}
use Rattle.ir_packet.specs.declared.reply.Reply.{Reply}
use Rattle.ir_packet.specs.declared.reply.Reply.TheVariants as reply
use Rattle.ir_packet.specs.declared.request.Request.{Request}
use Rattle.ir_packet.specs.declared.request.Request.TheVariants as request

-- the reply to a request that always has the same
abbrev pub fixed_reply : Request → Option Reply
fixed_reply request.NoAcknowledgements = Some reply.Done
fixed_reply request.Symbols = Some reply.Done
fixed_reply request.Detach = Some reply.Done
fixed_reply request.Attached = Some reply.Attached
fixed_reply request.Offsets = Some reply.Offsets
fixed_reply request.Motions = Some reply.Motions
fixed_reply request.Change = Some reply.ReadOnly
fixed_reply request.Malformed = Some reply.NotPermitted
fixed_reply request.Unknown = Some reply.Nothing
fixed_reply asked = None
