use Rattle.std.proofs.Common.{◌≡◌, ◌++◌, List, ℕ, [], ◌∷◌, sym, ap, ◌∙◌, append_assoc}
use Rattle.std.proofs.KnownBytes.{Appends-trans}
use Rattle.ir_files.specs.Shown.{shown}
use Rattle.ir_stream.proofs.CallerLemmas.{writes_or_fails_error}
use Rattle.ir_files.proofs.Shown.{part_prefix_of_whole}
use Rattle.ir_files.proofs.telling.put_each.Goals as goal

one_more : (whole done : List ℕ) (rest after : List ℕ) (byte : ℕ) → whole ≡ done ++ rest → rest ≡ byte ∷ after
    → whole ≡ (done ++ byte ∷ []) ++ after
one_more whole done rest after byte e f = e ∙ ap (λ z. done ++ z) f ∙ sym (append_assoc done (byte ∷ []) after)

pub returns-in_err-write_all : goal.returns-in_err-write_all
returns-in_err-write_all g c =
    writes_or_fails_error _ c.from_residual.result c.from_residual.ensures.1
    (part_prefix_of_whole (g.E.Sink.written c.args.faults.now) (g.E.Sink.written c.bytes.faults) (g.E.Sink.written c.write_all.new.writer)
    c.bytes.invariant.0 (c.in-Some.byte ∷ []) (shown c.in-Some.after.now) (shown c.args.text.now)
    (one_more (shown c.args.text.now) c.bytes.invariant.0 (shown c.bytes.rest.now) (shown c.in-Some.after.now) c.in-Some.byte
    c.bytes.invariant.1 c.in-Some.ensures.0)
    c.bytes.invariant.2 c.in_err-write_all.ensures.prefix) c.in_err-write_all.ensures.err

pub bytes-preserved : goal.bytes-preserved
bytes-preserved g c = (
  c.bytes.invariant.0 ++ c.in-Some.byte ∷ [],
  one_more (shown c.args.text.now) c.bytes.invariant.0 (shown c.bytes.rest.now) (shown c.in-Some.after.now) c.in-Some.byte
      c.bytes.invariant.1 c.in-Some.ensures.0,
  Appends-trans (g.E.Sink.written c.args.faults.now) (g.E.Sink.written c.bytes.faults) (g.E.Sink.written c.write_all.new.writer)
      c.bytes.invariant.0 (c.in-Some.byte ∷ []) c.bytes.invariant.2 c.in_ok-write_all.ensures.ok,
  c.in_ok-write_all.ensures.stays ∙ c.bytes.invariant.3,
)
