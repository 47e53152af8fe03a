-- What a session has read when it ends.
use Rattle.std.specs.Prelude.{◌≡◌, ◌<◌, ℕ, List, [], ◌∷◌, ◌++◌, Option, Result, Ok, Err, take, refl, IfOk, OnOk}
use Rattle.std.proofs.Common.{ap, ◌∙◌, sym}
use Rattle.std.proofs.lemmas.List.{append-nil}
use Rattle.std.specs.Io.KnownBytes.{Consumes, IsAtEnd}
use Rattle.ir_stream.specs.declared.serving.Served.{Served}
use Rattle.ir_stream.specs.declared.serving.Served.TheVariants.{Quit, InputEnd}
use Rattle.ir_stream.specs.declared.serving.Fault.{Fault}
use Rattle.ir_stream.specs.declared.serving.Fault.TheVariants.{Read, Write, TooLong}
use Rattle.ir_stream.specs.Answers.{LinesAnswered, Replying, RepliedPrefix, ReadsUpTo, last_line, some_quits}
use Rattle.ir_stream.specs.Endings.{served_after}
use Rattle.ir_stream.specs.Written.{Replied, Wrote}
use Rattle.ir_stream.proofs.CallerLemmas.{IsSessionAt, feed_failed, finish_ended, finish_failed}
use Rattle.ir_debug.specs.declared.ended.Ended.TheVariants as ended
use Rattle.ir_debug.specs.Machine.{Desk, Replies, quits}
use Rattle.ir_debug.specs.Session.{ReadsThrough, ended_by}
use Rattle.ir_debug.proofs.LongLines.{replies_by_kept_bytes, quits_by_kept_bytes}
use Rattle.ir_debug.proofs.Openings.{reads_up_to_of_implied}

-- an answer that was written whole is a prefix of itself
replied_is_prefix : {S : Type 0} (R : Replying S) (s next : S) (line : List ℕ) (old new : Option (List ℕ)) → Replied R s line next old new
    → RepliedPrefix R s line old new
replied_is_prefix R s next line old new p = record {
  text = p.text;
  next = next;
  is = p.is;
  grown = record { part = p.text; more = []; splits = sym (append-nil p.text); grown = p.grown };
}

-- the same of the answer to what an input ended in
last_replied_is_prefix : {S : Type 0} (R : Replying S) (s : S) (line : List ℕ) (old new : Option (List ℕ)) → (line ≡ [] → ⊥)
    → Wrote R s (last_line line) old new → RepliedPrefix R s line old new
unfolding LinesAnswered
last_replied_is_prefix R s [] old new some p = absurd (some refl)
last_replied_is_prefix R s (b ∷ line) old new some p = record {
  text = p.answered.0;
  next = p.answered.1;
  is = p.answered.3;
  grown = record {
    part = p.text;
    more = [];
    splits = sym (append-nil p.text ∙ p.answered.5 ∙ ap (λ (z : List ℕ). p.answered.0 ++ z) p.answered.4.0 ∙ append-nil p.answered.0);
    grown = p.grown;
  };
}

quitting_end_nonempty : (line : List ℕ) → Quit ≡ served_after (some_quits quits (last_line line)) → line ≡ [] → ⊥
unfolding some_quits
quitting_end_nonempty [] e none = absurd cc
quitting_end_nonempty (b ∷ line) e none = absurd cc

module _ (s0 : Desk) (input w0 left left' written : Option (List ℕ)) (s : Desk) (line : List ℕ) (n : ℕ)
    (at : IsSessionAt Replies quits s0 input w0 left written s line n) (limit : ℕ) (below : n < limit) where
  -- a line feed, whose line was answered and quits
  pub read_through_line_that_quits : (next : Desk) (written' : Option (List ℕ)) → Consumes left left' (10 ∷ []) → Replied Replies s line next written written'
      → ReadsUpTo limit input left' (ReadsThrough ended.Quit left')
  read_through_line_that_quits next written' took p = reads_up_to_of_implied limit input left' _ (ReadsThrough ended.Quit left') (λ consumed h. (h.0, h.1))
      (feed_failed Replies quits replies_by_kept_bytes quits_by_kept_bytes s0 input w0 left left' written s line n at limit below written' took
      (replied_is_prefix Replies s next line written written' p))

  -- the input ended, and what it ended in was answered
  pub read_through_end : Consumes left left' [] → IsAtEnd left' → (result : Result Served Fault) (written' : Option (List ℕ))
      → OnOk result (Wrote Replies s (last_line line) written written')
      → IfOk result (λ e. e ≡ served_after (some_quits quits (last_line line)))
      → IfOk (ended_by result) (λ e. ReadsUpTo limit input left' (ReadsThrough e left'))
  read_through_end took gone (Ok Quit) written' p served =
      let some : line ≡ [] → ⊥ = quitting_end_nonempty line served in
      reads_up_to_of_implied limit input left' _ (ReadsThrough ended.Quit left') (λ consumed h. (h.0, h.1))
      (finish_failed Replies quits replies_by_kept_bytes quits_by_kept_bytes s0 input w0 left left' written s line n at limit below took (Err Write) written' gone refl some
      (last_replied_is_prefix Replies s line written written' some p))
  read_through_end took gone (Ok InputEnd) written' p served = reads_up_to_of_implied limit input left' _ (ReadsThrough ended.InputEnd left')
      (λ consumed h. gone)
      (finish_ended Replies quits replies_by_kept_bytes quits_by_kept_bytes s0 input w0 left left' written s line n at limit below took (Ok InputEnd) written' p served tt)
  read_through_end took gone (Err Read) written' p served = tt
  read_through_end took gone (Err Write) written' p served = tt
  read_through_end took gone (Err TooLong) written' p served = tt
