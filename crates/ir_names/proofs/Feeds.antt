-- A text cut at its line feeds.
use Rattle.std.proofs.Common.{◌≡◌, ◌==◌, ◌+◌, ◌<◌, ◌≤◌, ℕ, zero, suc, Bool, true, false, not, cond, List, [], ◌∷◌, ◌++◌, length, take, drop, refl, sym, ap, ◌∙◌, subst, arith, map, ◌-◌, length-drop}
use Rattle.std.specs.List.{position_or_len}
use Rattle.std.proofs.lemmas.List.{take_rest}
use Rattle.std.specs.Str.Lines.{strip_carriage_return}
use Rattle.std.specs.Prelude.{Some, None, Result, Ok, Err, IfErr, IsErrAnd}
use Rattle.ir_stream.specs.Answers.{SplitBytes, last_line, onto, split_lines}
use Rattle.ir_names.specs.Lines.{IsLineFault, IsNamesFault, names_from, read_on, text_lines, with_names_of_line}
use Rattle.ir_names.specs.Things.{NameTable}
use Rattle.ir_names.specs.declared.names_err.NamesErr.{NamesErr}
use Rattle.ir_names.specs.declared.names_err.NamesErr.TheVariants as fault

-- a line feed
abbrev ends_line : ℕ → Bool
ends_line b = b == 10

-- how long the first line is
abbrev first_len : List ℕ → ℕ
first_len text = position_or_len ends_line text

-- the first line before the others, or a text without a line feed
abbrev Cut : List ℕ → ℕ → Type 0
Cut text n = (n < length text → split_lines text
    ≡ record { whole = take n text ∷ (split_lines (drop (suc n) text)).whole; rest = (split_lines (drop (suc n) text)).rest })
    × (length text ≤ n → split_lines text ≡ record { whole = []; rest = text })

cut_later : (b : ℕ) (text : List ℕ) → (b == 10) ≡ false → Cut text (first_len text) → Cut (b ∷ text) (suc (first_len text))
unfolding split_lines
cut_later b text e c = (
  λ l. ap (λ (is : Bool). cond is (record { whole = [] ∷ (split_lines text).whole; rest = (split_lines text).rest }) (onto b (split_lines text).whole (split_lines text).rest)) e
      ∙ ap (λ (s : SplitBytes). onto b s.whole s.rest) (c.0 (omega (arith, l))),
  λ l. ap (λ (is : Bool). cond is (record { whole = [] ∷ (split_lines text).whole; rest = (split_lines text).rest }) (onto b (split_lines text).whole (split_lines text).rest)) e
      ∙ ap (λ (s : SplitBytes). onto b s.whole s.rest) (c.1 (omega (arith, l))),
)

cut_step : (b : ℕ) (text : List ℕ) (feed : Bool) → (b == 10) ≡ feed → Cut text (first_len text) → Cut (b ∷ text) (cond (not feed) (1 + first_len text) 0)
unfolding split_lines
cut_step b text true e c = (
  λ _. ap (λ (is : Bool). cond is (record { whole = [] ∷ (split_lines text).whole; rest = (split_lines text).rest }) (onto b (split_lines text).whole (split_lines text).rest)) e,
  λ l. absurd (omega (arith, l)),
)
cut_step b text false e c = subst (Cut (b ∷ text)) (omega arith) (cut_later b text e c)

cut_at_feed : (text : List ℕ) → Cut text (first_len text)
unfolding split_lines
cut_at_feed [] = (λ l. absurd (omega (arith, l)), λ _. refl)
cut_at_feed (b ∷ text) = cut_step b text (b == 10) refl (cut_at_feed text)

take_whole : (text : List ℕ) (n : ℕ) → length text ≤ n → take n text ≡ text
take_whole [] zero l = refl
take_whole [] (suc n) l = refl
take_whole (b ∷ text) zero l = absurd (omega (arith, l))
take_whole (b ∷ text) (suc n) l = ap (λ (rest : List ℕ). b ∷ rest) (take_whole text n (omega (arith, l)))

drop_whole : (text : List ℕ) (n : ℕ) → length text ≤ n → drop n text ≡ []
drop_whole [] zero l = refl
drop_whole [] (suc n) l = refl
drop_whole (b ∷ text) zero l = absurd (omega (arith, l))
drop_whole (b ∷ text) (suc n) l = drop_whole text n (omega (arith, l))

-- the first line of a text, which a line feed ends
pub lines_of_fed_text : (text line after : List ℕ) → first_len text < length text → line ≡ strip_carriage_return (take (first_len text) text)
    → after ≡ drop (suc (first_len text)) text → text_lines text ≡ line ∷ text_lines after
lines_of_fed_text text line after l e f =
    let cut = (cut_at_feed text).0 l in
    ap (λ (s : SplitBytes). map strip_carriage_return (s.whole ++ last_line s.rest)) cut
    ∙ ap (λ (first : List ℕ). first ∷ text_lines (drop (suc (first_len text)) text)) (sym e)
    ∙ ap (λ (rest : List ℕ). line ∷ text_lines rest) (sym f)

-- and of one without a line feed
pub lines_of_unfed_text : (text line after : List ℕ) → 0 < length text → length text ≤ first_len text
    → line ≡ strip_carriage_return (take (first_len text) text) → after ≡ drop (first_len text) text → text_lines text ≡ line ∷ text_lines after
unfolding split_lines
lines_of_unfed_text [] line after l m e f = absurd (omega (arith, l))
lines_of_unfed_text (b ∷ text) line after l m e f =
    let whole = b ∷ text in
    ap (λ (s : SplitBytes). map strip_carriage_return (s.whole ++ last_line s.rest)) ((cut_at_feed whole).1 m)
    ∙ ap (λ (first : List ℕ). strip_carriage_return first ∷ []) (sym (take_whole whole (first_len whole) m))
    ∙ ap (λ (first : List ℕ). first ∷ []) (sym e)
    ∙ ap (λ (rest : List ℕ). line ∷ text_lines rest) (sym (f ∙ drop_whole whole (first_len whole) m))

drop_one_more : (n : ℕ) (text : List ℕ) → drop 1 (drop n text) ≡ drop (suc n) text
drop_one_more zero text = refl
drop_one_more (suc n) [] = refl
drop_one_more (suc n) (b ∷ text) = drop_one_more n text

-- the first line, by the two parts of a text at its end
pub line_before_feed : (text line back : List ℕ) (n : ℕ) → n ≡ first_len text → back ≡ drop n text → 1 ≤ length back
    → line ≡ strip_carriage_return (take n text) → text_lines text ≡ line ∷ text_lines (take (length back - 1) (drop 1 back))
line_before_feed text line back n e f l g =
    let size : length back ≡ length text - n = ap length f ∙ length-drop n text in
    let behind : take (length back - 1) (drop 1 back) ≡ drop (suc (first_len text)) text =
    take_rest back 1 ∙ ap (drop 1) f ∙ drop_one_more n text ∙ ap (λ (k : ℕ). drop (suc k) text) e in
    lines_of_fed_text text line _ (omega (arith, size, l, e)) (g ∙ ap (λ (k : ℕ). strip_carriage_return (take k text)) e) behind

pub line_without_feed : (text line back : List ℕ) (n : ℕ) → n ≡ first_len text → 0 < length text → back ≡ drop n text → length back < 1
    → line ≡ strip_carriage_return (take n text) → text_lines text ≡ line ∷ text_lines back
line_without_feed text line back n e some f l g =
    let size : length back ≡ length text - n = ap length f ∙ length-drop n text in
    lines_of_unfed_text text line back some (omega (arith, size, l, e)) (g ∙ ap (λ (k : ℕ). strip_carriage_return (take k text)) e)
    (f ∙ ap (λ (k : ℕ). drop k text) e)

-- ---- the names of a text, line by line

pub names_of_first_line : (names more : NameTable) (number : ℕ) (text line after : List ℕ) → text_lines text ≡ line ∷ text_lines after
    → with_names_of_line names line ≡ Some more → names_from names number (text_lines text) ≡ names_from more (number + 1) (text_lines after)
unfolding names_from
names_of_first_line names more number text line after e f =
    ap (names_from names number) e ∙ ap (read_on number (λ z. names_from z (number + 1) (text_lines after))) f

pub names_of_faulty_line : (names : NameTable) (number : ℕ) (text line after : List ℕ) → text_lines text ≡ line ∷ text_lines after
    → with_names_of_line names line ≡ None → names_from names number (text_lines text) ≡ Err number
unfolding names_from
names_of_faulty_line names number text line after e f =
    ap (names_from names number) e ∙ ap (read_on number (λ z. names_from z (number + 1) (text_lines after))) f

pub names_of_no_text : (names : NameTable) (number : ℕ) (text : List ℕ) → length text ≡ 0 → names_from names number (text_lines text) ≡ Ok names
unfolding names_from split_lines
names_of_no_text names number [] e = refl
names_of_no_text names number (b ∷ text) e = absurd (cc e)

line_fault : (read : Result NameTable ℕ) (names : NameTable) (number : ℕ) (text line after : List ℕ) (e : NamesErr) → text_lines text ≡ line ∷ text_lines after
    → names_from names (number + 1) (text_lines text) ≡ read → IsLineFault (number + 1) e (with_names_of_line names line) → IsNamesFault e read
line_fault read names number text line after (fault.Line n) f done is =
    sym done ∙ names_of_faulty_line names (number + 1) text line after f is.1 ∙ ap Err (sym is.0)
line_fault read names number text line after fault.NoMem f done is = tt

-- the fault of a line is that of the whole text
pub read_fault : {X : Type 0} (read : Result NameTable ℕ) (names : NameTable) (number : ℕ) (text line after : List ℕ) (result : Result X NamesErr) (e : NamesErr)
    → text_lines text ≡ line ∷ text_lines after → names_from names (number + 1) (text_lines text) ≡ read → IsErrAnd result (λ f. f ≡ e)
    → IsLineFault (number + 1) e (with_names_of_line names line) → IfErr result (λ f. IsNamesFault f read)
read_fault read names number text line after (Ok x) e f done is fails = tt
read_fault read names number text line after (Err g) e f done is fails =
    subst (λ z. IsNamesFault z read) (sym is) (line_fault read names number text line after e f done fails)
