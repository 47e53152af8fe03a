use Rattle.std.proofs.Common.{rules, ◌≡◌, ◌<◌, ◌∙◌, length, ap}
use Rattle.ir_stream.proofs.CallerLemmas.{writes_or_fails_whole, writes_or_fails_error}
use Rattle.ir_text.proofs.CallerLemmas.{buffered_line, prefix_by_failed_line, written_none_left}
use Rattle.ir_gdb.specs.Connection.{Link, sent}
use Rattle.ir_gdb.proofs.Written.{answer_text_piece, answer_text_nil}
use Rattle.ir_gdb.proofs.connection.Connection.send_answer.Goals as goal

pub returns-in_err-send_piece-clause-writes : goal.returns-in_err-send_piece-clause-writes
returns-in_err-send_piece-clause-writes g c =
    let some : 0 < length c.pieces.rest.now = search rules in
    writes_or_fails_error _ c.from_residual.result c.from_residual.ensures.1
    (prefix_by_failed_line _ _ _ _ _ _ _ c.pieces.invariant.text
    (answer_text_piece c.pieces.rest.now c.split_at.result.0.now c.split_at.result.1.now c.min.result some c.min.ensures
    c.split_at.ensures.front c.split_at.ensures.back)
    c.in_err-send_piece.ensures.writes.prefix) c.in_err-send_piece.ensures.writes.err

pub returns-in_err-send_piece-clause-link : goal.returns-in_err-send_piece-clause-link
returns-in_err-send_piece-clause-link g c = λ packet.
    ap (λ (m : Link). sent m m.stub packet) c.in_err-send_piece.ensures.link ∙ c.pieces.invariant.link packet

pub pieces-preserved : goal.pieces-preserved
pieces-preserved g c =
    let some : 0 < length c.pieces.rest.now = search rules in
    record {
      text = buffered_line _ _ _ _ _ _ _ c.pieces.invariant.text
          (answer_text_piece c.pieces.rest.now c.split_at.result.0.now c.split_at.result.1.now c.min.result some c.min.ensures
          c.split_at.ensures.front c.split_at.ensures.back)
          c.in_ok-send_piece.ensures.writes.ok;
      link = λ packet. ap (λ (m : Link). sent m m.stub packet) c.in_ok-send_piece.ensures.link ∙ c.pieces.invariant.link packet;
      reading = c.in_ok-send_piece.ensures.reading ∙ c.pieces.invariant.reading;
      broken = c.in_ok-send_piece.ensures.writes.stays ∙ c.pieces.invariant.broken;
    }

pub returns-clause-writes : goal.returns-clause-writes
returns-clause-writes g c = writes_or_fails_whole (let none : length c.pieces.rest.now ≡ 0 = search rules in
    written_none_left _ _ _ _ c.pieces.invariant.text (answer_text_nil c.pieces.rest.now none)) c.pieces.invariant.broken
