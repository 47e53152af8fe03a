-- Lines that are put one after the other.
use Rattle.std.proofs.Common.{◌≡◌, ◌+◌, ◌<◌, ◌≤◌, ℕ, suc, List, [], ◌++◌, length, drop, get_or, sym, ap, ◌∙◌, append_assoc, append-nil, arith}
use Rattle.std.proofs.lemmas.List.{at_drop_more, at_drop_all}
use Rattle.ir_past.specs.declared.place.Place.{Place}
use Rattle.ir_who.specs.Lines.{version_line, version_lines, read_line, read_lines}
use Rattle.ir_fit.specs.Fit.{FittedTrace}
use Rattle.ir_who.specs.FitLines.{dated_line, dated_lines, fit_read_line, fit_read_lines}
use Rattle.ir_who.specs.declared.dated.Dated.{Dated}
use Rattle.ir_who.specs.declared.version.Version.{Version}

-- of what is left to put, the first line was put
pub text_split_at_next_line : (so_far line left more text : List ℕ) → so_far ++ left ≡ text → left ≡ line ++ more → so_far ++ (line ++ more) ≡ text
text_split_at_next_line so_far line left more text e first = ap (λ (x : List ℕ). so_far ++ x) (sym first) ∙ e

version_lines_step : (k n : ℕ) (xs : List Version) (x : Version) → n < length xs
    → version_lines k (drop n xs) ≡ version_line k (get_or xs n x) ++ version_lines (suc k) (drop (n + 1) xs)
unfolding version_lines
version_lines_step k n xs x some = at_drop_more (version_lines k) xs n x some

-- the line of the next version comes first in what is left
pub version_lines_next : (n : ℕ) (xs : List Version) (x : Version) (line : List ℕ) → n < length xs → line ≡ version_line n (get_or xs n x)
    → version_lines n (drop n xs) ≡ line ++ version_lines (n + 1) (drop (n + 1) xs)
version_lines_next n xs x line some same = version_lines_step n n xs x some
    ∙ ap (λ (z : List ℕ). z ++ version_lines (suc n) (drop (n + 1) xs)) (sym same)
    ∙ (let on : suc n ≡ n + 1 = omega arith in ap (λ k. line ++ version_lines k (drop (n + 1) xs)) on)

pub version_lines_past_end : (k n : ℕ) (xs : List Version) → length xs ≤ n → version_lines k (drop n xs) ≡ []
unfolding version_lines
version_lines_past_end k n xs all = at_drop_all (version_lines k) xs n all

read_lines_of_drop_step : (n : ℕ) (xs : List Place) (x : Place) → n < length xs → read_lines (drop n xs) ≡ read_line (get_or xs n x) ++ read_lines (drop (n + 1) xs)
unfolding read_lines
read_lines_of_drop_step n xs x some = at_drop_more read_lines xs n x some

-- the line of the next read entry comes first in what is left
pub read_lines_next : (n : ℕ) (xs : List Place) (x : Place) (line : List ℕ) → n < length xs → line ≡ read_line (get_or xs n x)
    → read_lines (drop n xs) ≡ line ++ read_lines (drop (n + 1) xs)
read_lines_next n xs x line some same = read_lines_of_drop_step n xs x some ∙ ap (λ (z : List ℕ). z ++ read_lines (drop (n + 1) xs)) (sym same)

pub no_read_lines_past_end : (n : ℕ) (xs : List Place) → length xs ≤ n → read_lines (drop n xs) ≡ []
unfolding read_lines
no_read_lines_past_end n xs all = at_drop_all read_lines xs n all

-- ---- with steps

dated_lines_step : (k n : ℕ) (xs : List Dated) (x : Dated) → n < length xs
    → dated_lines k (drop n xs) ≡ dated_line k (get_or xs n x) ++ dated_lines (suc k) (drop (n + 1) xs)
unfolding dated_lines
dated_lines_step k n xs x some = at_drop_more (dated_lines k) xs n x some

-- the line of the next version comes first in what is left
pub dated_lines_next : (n : ℕ) (xs : List Dated) (x : Dated) (line : List ℕ) → n < length xs → line ≡ dated_line n (get_or xs n x)
    → dated_lines n (drop n xs) ≡ line ++ dated_lines (n + 1) (drop (n + 1) xs)
dated_lines_next n xs x line some same = dated_lines_step n n xs x some
    ∙ ap (λ (z : List ℕ). z ++ dated_lines (suc n) (drop (n + 1) xs)) (sym same)
    ∙ (let on : suc n ≡ n + 1 = omega arith in ap (λ k. line ++ dated_lines k (drop (n + 1) xs)) on)

pub no_dated_lines_past_end : (k n : ℕ) (xs : List Dated) → length xs ≤ n → dated_lines k (drop n xs) ≡ []
unfolding dated_lines
no_dated_lines_past_end k n xs all = at_drop_all (dated_lines k) xs n all

read_lines_left_step : (f : FittedTrace) (n : ℕ) (xs : List Place) (x : Place) → n < length xs
    → fit_read_lines f (drop n xs) ≡ fit_read_line f (get_or xs n x) ++ fit_read_lines f (drop (n + 1) xs)
unfolding fit_read_lines
read_lines_left_step f n xs x some = at_drop_more (fit_read_lines f) xs n x some

-- the line of the next read entry comes first in what is left
pub fit_read_lines_next : (f : FittedTrace) (n : ℕ) (xs : List Place) (x : Place) (line : List ℕ) → n < length xs → line ≡ fit_read_line f (get_or xs n x)
    → fit_read_lines f (drop n xs) ≡ line ++ fit_read_lines f (drop (n + 1) xs)
fit_read_lines_next f n xs x line some same =
    read_lines_left_step f n xs x some ∙ ap (λ (z : List ℕ). z ++ fit_read_lines f (drop (n + 1) xs)) (sym same)

pub fit_read_lines_past_end : (f : FittedTrace) (n : ℕ) (xs : List Place) → length xs ≤ n → fit_read_lines f (drop n xs) ≡ []
unfolding fit_read_lines
fit_read_lines_past_end f n xs all = at_drop_all (fit_read_lines f) xs n all
