-- Lines that are written one after another.
use Rattle.std.proofs.Common.{◌≡◌, ◌≤◌, ◌<◌, ◌+◌, ℕ, Bool, true, List, [], ◌++◌, length, drop, get_or, Option, Result, Ok, Err, IfErr, refl, sym, ap, subst, ◌∙◌, append_assoc, append-nil}
use Rattle.std.proofs.lemmas.List.{at_drop_more, at_drop_all}
use Rattle.std.specs.Io.KnownBytes.{Appends}
use Rattle.std.proofs.KnownBytes.{Appends-nil, Appends-trans}
use Rattle.ir_stream.specs.Answers.{AppendsPrefix}
use Rattle.ir_stream.proofs.CallerLemmas.{appends_prefix_append, appends_prefix_longer}
use Rattle.ir_files.specs.Writers.{writer_of, Failed}
use Rattle.ir_past.specs.Answers.{Stops}
use Rattle.ir_past.specs.Lines.{row_line, row_lines}
use Rattle.ir_past.specs.declared.stale_write.StaleWrite.{StaleWrite}
use Rattle.ir_past.specs.declared.past_err.PastErr.{PastErr}
use Rattle.ir_past.specs.declared.past_err.PastErr.TheVariants as err

-- a first part of the text was written, and the rest is left
pub record WrittenTo (old new : Option (List ℕ)) (rest text : List ℕ) : Type 0 where
  pub part : List ℕ
  pub written : Appends old new part
  pub others : part ++ rest ≡ text

-- nothing was written of a text
pub nothing_is_prefix : (a : Option (List ℕ)) (text : List ℕ) → AppendsPrefix a a text
nothing_is_prefix a text = record { part = []; more = text; splits = refl; grown = Appends-nil a }

pub written_to_at_start : (a : Option (List ℕ)) (text : List ℕ) → WrittenTo a a text text
written_to_at_start a text = record { part = []; written = Appends-nil a; others = refl }

row_lines_of_drop : (n : ℕ) (xs : List StaleWrite) (x : StaleWrite) → n < length xs → row_lines (drop n xs) ≡ row_line (get_or xs n x) ++ row_lines (drop (n + 1) xs)
unfolding row_lines
row_lines_of_drop n xs x some = at_drop_more row_lines xs n x some

-- the next row's line comes first in what is left
pub row_lines_next : (n : ℕ) (xs : List StaleWrite) (x : StaleWrite) (line : List ℕ) → n < length xs → line ≡ row_line (get_or xs n x)
    → row_lines (drop n xs) ≡ line ++ row_lines (drop (n + 1) xs)
row_lines_next n xs x line some same = row_lines_of_drop n xs x some ∙ ap (λ (z : List ℕ). z ++ row_lines (drop (n + 1) xs)) (sym same)

pub row_lines_past_end : (n : ℕ) (xs : List StaleWrite) → length xs ≤ n → row_lines (drop n xs) ≡ []
unfolding row_lines
row_lines_past_end n xs all = at_drop_all row_lines xs n all

-- of what is left, the first line was written
pub written_after_line : (a b c : Option (List ℕ)) (left line more text : List ℕ) → WrittenTo a b left text → left ≡ line ++ more
    → Appends b c line → WrittenTo a c more text
written_after_line a b c left line more text f e done = record {
  part = f.part ++ line;
  written = Appends-trans a b c f.part line f.written done;
  others = append_assoc f.part line more ∙ ap (λ (x : List ℕ). f.part ++ x) (sym e) ∙ f.others;
}

-- nothing is left
pub none_left_is_appended : (a b : Option (List ℕ)) (left text : List ℕ) → WrittenTo a b left text → left ≡ [] → Appends a b text
none_left_is_appended a b left text f none =
    subst (Appends a b) (sym (append-nil f.part) ∙ ap (λ (x : List ℕ). f.part ++ x) (sym none) ∙ f.others) f.written

-- what was written is a prefix
pub written_to_is_prefix : (a b : Option (List ℕ)) (left text : List ℕ) → WrittenTo a b left text → AppendsPrefix a b text
written_to_is_prefix a b left text f = record { part = f.part; more = left; splits = sym f.others; grown = f.written }

-- a prefix of what is left was written
pub next_line_prefix : (a b c : Option (List ℕ)) (left line more text : List ℕ) → WrittenTo a b left text → left ≡ line ++ more
    → AppendsPrefix b c line → AppendsPrefix a c text
next_line_prefix a b c left line more text f e prefix =
    subst (AppendsPrefix a c) (append_assoc f.part line more ∙ ap (λ (x : List ℕ). f.part ++ x) (sym e) ∙ f.others)
    (appends_prefix_longer a c (f.part ++ line) more (appends_prefix_append a b c f.part line f.written prefix))

-- a write of the first part of a text failed
pub writer_failed_in_text : (a b : Option (List ℕ)) (failed : Bool) (bytes first rest : List ℕ) → bytes ≡ first → AppendsPrefix a b bytes
    → failed ≡ true → Failed (writer_of a b failed) (first ++ rest)
writer_failed_in_text a b failed bytes first rest same prefix broke =
    (appends_prefix_longer a b first rest (subst (AppendsPrefix a b) same prefix), broke)

pub stops_after_first_part : (e : PastErr) (a b c : Option (List ℕ)) (failed : Bool) (first rest : List ℕ) → Appends a b first
    → Stops e (writer_of b c failed) rest → Stops e (writer_of a c failed) (first ++ rest)
stops_after_first_part err.NoMem a b c failed first rest done h = (appends_prefix_append a b c first rest done h.0, h.1)
stops_after_first_part err.Write a b c failed first rest done h = (appends_prefix_append a b c first rest done h.0, h.1)

-- the rest of a text was stopped
pub failed_stops_after_part : {A : Type 0} (result : Result A PastErr) (a b c : Option (List ℕ)) (failed : Bool) (bytes first rest : List ℕ)
    → bytes ≡ first → Appends a b bytes → IfErr result (λ e. Stops e (writer_of b c failed) rest)
    → IfErr result (λ e. Stops e (writer_of a c failed) (first ++ rest))
failed_stops_after_part (Ok x) a b c failed bytes first rest same done h = tt
failed_stops_after_part (Err e) a b c failed bytes first rest same done h = stops_after_first_part e a b c failed first rest (subst (Appends a b) same done) h
