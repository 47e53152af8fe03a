-- Texts that are written by one buffer: what is in it, and what is left to be put into it.
use Rattle.std.proofs.Common.{◌≡◌, ℕ, List, [], ◌++◌, Option, Bool, Result, Ok, Err, refl, sym, ap, ◌∙◌, subst, append_assoc, append-nil}
use Rattle.std.specs.Io.KnownBytes.{Appends}
use Rattle.std.proofs.KnownBytes.{Appends-nil, Appends-trans}
use Rattle.ir_stream.proofs.CallerLemmas.{appends_prefix_append, appends_prefix_longer, writes_or_fails_whole, writes_or_fails_part}
use Rattle.ir_stream.specs.Answers.{AppendsPrefix}
use Rattle.ir_stream.specs.Writing.{WritesText}
use Rattle.ir_text.specs.Buffered.{Buffered}

-- nothing was written yet
pub buffered_at_start : (a : Option (List ℕ)) (rest text : List ℕ) → rest ≡ text → Buffered a a rest text
buffered_at_start a rest text e = record { part = []; written = Appends-nil a; others = e }

-- the whole buffer was written
pub buffered_whole_write : (a b : Option (List ℕ)) (buffer after : List ℕ) → Appends a b buffer → after ≡ [] → Buffered a b after buffer
buffered_whole_write a b buffer after done none = record {
  part = buffer;
  written = done;
  others = ap (λ (x : List ℕ). buffer ++ x) none ∙ append-nil buffer;
}

-- room was made in the buffer, and a line was put there
pub buffered_after_line_put : (a b c : Option (List ℕ)) (buffer kept after line left more text : List ℕ) → Buffered a b (buffer ++ left) text
    → Buffered b c kept buffer → after ≡ kept ++ line → left ≡ line ++ more → Buffered a c (after ++ more) text
buffered_after_line_put a b c buffer kept after line left more text f g put e = record {
  part = f.part ++ g.part;
  written = Appends-trans a b c f.part g.part f.written g.written;
  others =
      append_assoc f.part g.part (after ++ more)
      ∙ ap (λ (x : List ℕ). f.part ++ (g.part ++ (x ++ more))) put
      ∙ ap (λ (x : List ℕ). f.part ++ (g.part ++ x)) (append_assoc kept line more)
      ∙ ap (λ (x : List ℕ). f.part ++ (g.part ++ (kept ++ x))) (sym e)
      ∙ ap (λ (x : List ℕ). f.part ++ x) (sym (append_assoc g.part kept left))
      ∙ ap (λ (x : List ℕ). f.part ++ (x ++ left)) g.others
      ∙ f.others;
}

-- of what is left, the first line was written
pub buffered_line : (a b c : Option (List ℕ)) (left line more text : List ℕ) → Buffered a b left text → left ≡ line ++ more
    → Appends b c line → Buffered a c more text
buffered_line a b c left line more text f e done = record {
  part = f.part ++ line;
  written = Appends-trans a b c f.part line f.written done;
  others = append_assoc f.part line more ∙ ap (λ (x : List ℕ). f.part ++ x) (sym e) ∙ f.others;
}

-- nothing is left
pub written_none_left : (a b : Option (List ℕ)) (left text : List ℕ) → Buffered a b left text → left ≡ [] → Appends a b text
written_none_left a b left text f none =
    subst (Appends a b) (sym (append-nil f.part) ∙ ap (λ (x : List ℕ). f.part ++ x) (sym none) ∙ f.others) f.written

-- the buffer was written at the end
pub written_after_last : (a b c : Option (List ℕ)) (buffer left text : List ℕ) → Buffered a b (buffer ++ left) text → Appends b c buffer
    → left ≡ [] → Appends a c text
written_after_last a b c buffer left text f done none =
    written_none_left a c left text (buffered_line a b c (buffer ++ left) buffer left text f refl done) none

-- a write of the buffer failed
pub prefix_by_failed_write : (a b c : Option (List ℕ)) (buffer left text : List ℕ) → Buffered a b (buffer ++ left) text → AppendsPrefix b c buffer
    → AppendsPrefix a c text
prefix_by_failed_write a b c buffer left text f prefix =
    subst (AppendsPrefix a c) (append_assoc f.part buffer left ∙ f.others)
    (appends_prefix_longer a c (f.part ++ buffer) left (appends_prefix_append a b c f.part buffer f.written prefix))

-- the write of a line failed
pub prefix_by_failed_line : (a b c : Option (List ℕ)) (left line more text : List ℕ) → Buffered a b left text → left ≡ line ++ more
    → AppendsPrefix b c line → AppendsPrefix a c text
prefix_by_failed_line a b c left line more text f e prefix =
    prefix_by_failed_write a b c line more text (subst (λ (x : List ℕ). Buffered a b x text) e f) prefix

-- the last call, which writes the buffer
pub writes_by_last_buffer : {D A E : Type 0} (written : D → Option (List ℕ)) {broken : D → Bool} {a b c : D} (buffer left text slice : List ℕ)
    (r : Result A E) → Buffered (written a) (written b) (buffer ++ left) text → left ≡ [] → slice ≡ buffer → broken b ≡ broken a
    → WritesText written broken b c slice r → WritesText written broken a c text r
writes_by_last_buffer written {broken} {a} {b} {c} buffer left text slice (Ok x) f none same stays w = writes_or_fails_whole
    (written_after_last (written a) (written b) (written c) buffer left text f (subst (Appends (written b) (written c)) same w.ok) none)
    (w.stays ∙ stays)
writes_by_last_buffer written {broken} {a} {b} {c} buffer left text slice (Err e) f none same stays w = writes_or_fails_part
    (prefix_by_failed_write (written a) (written b) (written c) buffer left text f
    (subst (AppendsPrefix (written b) (written c)) same w.prefix)) w.err
