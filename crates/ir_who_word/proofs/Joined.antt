-- Lines that are put one after the other.
use Rattle.std.proofs.Common.{◌≡◌, ◌+◌, ℕ, suc, Bool, true, false, List, [], ◌++◌, sym, ap, ◌∙◌, arith, append_assoc, append-nil}
use Rattle.std.specs.Prelude.{if◌then◌else◌}
use Rattle.std.specs.List.{slice_index_or}
use Rattle.ir_who_word.specs.Lines.{changed_word_line, word_changes, word_line_if, changed_lines}
use Rattle.ir_who_word.specs.Words.{unread}
use Rattle.ir_who_word.specs.declared.worded.Worded.{Worded}

pub append_no_changed_lines : (i : ℕ) (ds : List Worded) (text first : List ℕ) → text ≡ first → text ≡ first ++ changed_lines i ds 0
unfolding changed_lines
append_no_changed_lines i ds text first e = e ∙ sym (append-nil first)

changed_lines_step : (i : ℕ) (ds : List Worded) (n : ℕ) (text new first line : List ℕ) → text ≡ first ++ changed_lines i ds n → new ≡ text ++ line
    → line ≡ word_line_if i ds n → new ≡ first ++ changed_lines i ds (n + 1)
unfolding changed_lines
changed_lines_step i ds n text new first line before made is =
    let on : suc n ≡ n + 1 = omega arith in
    made ∙ (λ k. before k ++ is k)
    ∙ append_assoc first (changed_lines i ds n) (word_line_if i ds n)
    ∙ ap (λ k. first ++ changed_lines i ds k) on

-- the next version has another word
pub changed_lines_other : (i : ℕ) (ds : List Worded) (n : ℕ) (d : Worded) (text new first line : List ℕ) → text ≡ first ++ changed_lines i ds n → new ≡ text ++ line
    → line ≡ changed_word_line i n d → slice_index_or ds n unread ≡ d → word_changes ds n ≡ true → new ≡ first ++ changed_lines i ds (n + 1)
changed_lines_other i ds n d text new first line before made is here other = changed_lines_step i ds n text new first line before made
    (is ∙ ap (changed_word_line i n) (sym here)
    ∙ ap (λ (b : Bool). if b then changed_word_line i n (slice_index_or ds n unread) else []) (sym other))

-- or the same
pub changed_lines_same : (i : ℕ) (ds : List Worded) (n : ℕ) (text first : List ℕ) → text ≡ first ++ changed_lines i ds n → word_changes ds n ≡ false
    → text ≡ first ++ changed_lines i ds (n + 1)
changed_lines_same i ds n text first before other = changed_lines_step i ds n text text first [] before (sym (append-nil text))
    (ap (λ (b : Bool). if b then changed_word_line i n (slice_index_or ds n unread) else []) (sym other))
