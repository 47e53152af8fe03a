-- Texts that are written in pieces: what was written, what is held, and what is left.
use Rattle.std.proofs.Common.{◌≡◌, ℕ, Bool, List, [], ◌++◌, Option, Result, Ok, Err, OnOk, IfErr, refl, sym, ap, subst, ◌∙◌, append_assoc, append-nil}
use Rattle.std.proofs.lemmas.Result.{on_ok_weaker}
use Rattle.std.specs.Io.KnownBytes.{Appends}
use Rattle.std.proofs.KnownBytes.{Appends-nil, Appends-trans}
use Rattle.ir_stream.specs.Answers.{AppendsPrefix}
use Rattle.ir_stream.proofs.CallerLemmas.{appends_prefix_append, appends_prefix_longer}
use Rattle.ir_files.specs.Writers.{writer_of}
use Rattle.ir_text.specs.Buffered.{Buffered}
use Rattle.ir_text.proofs.CallerLemmas.{buffered_line}
use Rattle.ir_past.specs.Answers.{Stops}
use Rattle.ir_past.specs.declared.past_err.PastErr.{PastErr}
use Rattle.ir_past.specs.declared.past_err.PastErr.TheVariants as err

-- nothing was written, and all is held
pub buffered_at_start : (a : Option (List ℕ)) (text : List ℕ) → Buffered a a text text
buffered_at_start a text = record { part = []; written = Appends-nil a; others = refl }

-- what was written is a prefix
pub buffered_is_prefix : (a b : Option (List ℕ)) (left text : List ℕ) → Buffered a b left text → AppendsPrefix a b text
buffered_is_prefix a b left text f = record { part = f.part; more = left; splits = sym f.others; grown = f.written }

-- ---- in a loop over lines

-- a piece was written if it was one, and a line was put after what is held
pub buffered_after_line : (a b c : Option (List ℕ)) (held kept after line left more text : List ℕ) → Buffered a b (held ++ left) text
    → Buffered b c kept held → left ≡ line ++ more → after ≡ kept ++ line → Buffered a c (after ++ more) text
buffered_after_line a b c held kept after line left more text f g first put = buffered_line a b c (held ++ left) g.part (after ++ more) text f
    (ap (λ (x : List ℕ). x ++ left) (sym g.others)
    ∙ append_assoc g.part kept left
    ∙ ap (λ (x : List ℕ). g.part ++ (kept ++ x)) first
    ∙ ap (λ (x : List ℕ). g.part ++ x) (sym (append_assoc kept line more))
    ∙ ap (λ (x : List ℕ). g.part ++ (x ++ more)) (sym put))
    g.written

-- a piece was written if it was one
pub buffered_after_piece : (a b c : Option (List ℕ)) (held kept left text : List ℕ) → Buffered a b (held ++ left) text → Buffered b c kept held
    → Buffered a c (kept ++ left) text
buffered_after_piece a b c held kept left text f g = buffered_line a b c (held ++ left) g.part (kept ++ left) text f
    (ap (λ (x : List ℕ). x ++ left) (sym g.others) ∙ append_assoc g.part kept left) g.written

-- nothing is left
pub only_held_is_unwritten : (a b : Option (List ℕ)) (held left text : List ℕ) → Buffered a b (held ++ left) text → left ≡ [] → Buffered a b held text
only_held_is_unwritten a b held left text f none =
    subst (λ (x : List ℕ). Buffered a b x text) (ap (λ (x : List ℕ). held ++ x) none ∙ append-nil held) f

-- ---- one text after another

-- what comes after the text that was held is what comes after the whole text
part_and_held_is_text : (a b : Option (List ℕ)) (held text next : List ℕ) → (f : Buffered a b held text) → f.part ++ (held ++ next) ≡ text ++ next
part_and_held_is_text a b held text next f = sym (append_assoc f.part held next) ∙ ap (λ (x : List ℕ). x ++ next) f.others

-- the next text was put
pub buffered_next_text : (a b c : Option (List ℕ)) (held kept text next : List ℕ) → Buffered a b held text → Buffered b c kept (held ++ next)
    → Buffered a c kept (text ++ next)
buffered_next_text a b c held kept text next f g = record {
  part = f.part ++ g.part;
  written = Appends-trans a b c f.part g.part f.written g.written;
  others = append_assoc f.part g.part kept ∙ ap (λ (x : List ℕ). f.part ++ x) g.others ∙ part_and_held_is_text a b held text next f;
}

-- all was written at last
pub appended_last_text : (a b c : Option (List ℕ)) (held text next : List ℕ) → Buffered a b held text → Appends b c (held ++ next)
    → Appends a c (text ++ next)
appended_last_text a b c held text next f done =
    subst (Appends a c) (part_and_held_is_text a b held text next f) (Appends-trans a b c f.part (held ++ next) f.written done)

prefix_after_held : (a b c : Option (List ℕ)) (held text next : List ℕ) → Buffered a b held text → AppendsPrefix b c (held ++ next)
    → AppendsPrefix a c (text ++ next)
prefix_after_held a b c held text next f prefix =
    subst (AppendsPrefix a c) (part_and_held_is_text a b held text next f) (appends_prefix_append a b c f.part (held ++ next) f.written prefix)

-- the next text was stopped
pub stops_in_next_text : (e : PastErr) (a b c : Option (List ℕ)) (failed : Bool) (held text next : List ℕ) → Buffered a b held text
    → Stops e (writer_of b c failed) (held ++ next) → Stops e (writer_of a c failed) (text ++ next)
stops_in_next_text err.NoMem a b c failed held text next f h = (prefix_after_held a b c held text next f h.0, h.1)
stops_in_next_text err.Write a b c failed held text next f h = (prefix_after_held a b c held text next f h.0, h.1)

-- a text was stopped, and so was one that is longer
pub stops_in_longer_text : (e : PastErr) (a b : Option (List ℕ)) (failed : Bool) (text more : List ℕ) → Stops e (writer_of a b failed) text
    → Stops e (writer_of a b failed) (text ++ more)
stops_in_longer_text err.NoMem a b failed text more h = (appends_prefix_longer a b text more h.0, h.1)
stops_in_longer_text err.Write a b failed text more h = (appends_prefix_longer a b text more h.0, h.1)

-- ---- four texts, of which the second and the third are put in pieces

-- the second was stopped
pub stops_in_second : (e : PastErr) (o p : Option (List ℕ)) (failed : Bool) (a b c d text : List ℕ) → ((a ++ b) ++ c) ++ d ≡ text
    → Stops e (writer_of o p failed) (a ++ b) → Stops e (writer_of o p failed) text
stops_in_second e o p failed a b c d text whole h =
    subst (λ (x : List ℕ). Stops e (writer_of o p failed) x) whole
    (stops_in_longer_text e o p failed ((a ++ b) ++ c) d (stops_in_longer_text e o p failed (a ++ b) c h))

-- the third was stopped
pub stops_in_third : (e : PastErr) (o p q : Option (List ℕ)) (failed : Bool) (a b c d text held : List ℕ) → ((a ++ b) ++ c) ++ d ≡ text
    → Buffered o p held (a ++ b) → Stops e (writer_of p q failed) (held ++ c) → Stops e (writer_of o q failed) text
stops_in_third e o p q failed a b c d text held whole f h =
    subst (λ (x : List ℕ). Stops e (writer_of o q failed) x) whole
    (stops_in_longer_text e o q failed ((a ++ b) ++ c) d (stops_in_next_text e o p q failed held (a ++ b) c f h))

-- the last was stopped, if it was
pub stops_in_last : {A : Type 0} (result : Result A PastErr) (o p q s : Option (List ℕ)) (failed : Bool) (a b c d text held kept : List ℕ)
    → ((a ++ b) ++ c) ++ d ≡ text → Buffered o p held (a ++ b) → Buffered p q kept (held ++ c)
    → IfErr result (λ e. Stops e (writer_of q s failed) (kept ++ d)) → IfErr result (λ e. Stops e (writer_of o s failed) text)
stops_in_last (Ok x) o p q s failed a b c d text held kept whole f g h = tt
stops_in_last (Err e) o p q s failed a b c d text held kept whole f g h =
    subst (λ (x : List ℕ). Stops e (writer_of o s failed) x) whole
    (stops_in_next_text e o q s failed kept ((a ++ b) ++ c) d (buffered_next_text o p q held kept (a ++ b) c f g) h)

-- all was written
pub four_texts_are_appended : {A E : Type 0} (result : Result A E) (o p q s : Option (List ℕ)) (a b c d text held kept : List ℕ)
    → ((a ++ b) ++ c) ++ d ≡ text → Buffered o p held (a ++ b) → Buffered p q kept (held ++ c)
    → OnOk result (Appends q s (kept ++ d)) → OnOk result (Appends o s text)
four_texts_are_appended result o p q s a b c d text held kept whole f g =
    on_ok_weaker result
    (λ done. subst (Appends o s) whole (appended_last_text o q s kept ((a ++ b) ++ c) d (buffered_next_text o p q held kept (a ++ b) c f g) done))
