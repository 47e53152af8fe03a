-- Texts that are put one after the other.
use Rattle.std.proofs.Common.{◌≡◌, ℕ, suc, ◌+◌, ◌<◌, ◌≤◌, List, [], ◌∷◌, ◌++◌, Option, codes, decimal, length, drop, flat_map, get_or, refl, sym, ap, ◌∙◌, append_assoc, append-nil, arith}
use Rattle.std.proofs.lemmas.List.{at_drop_more, at_drop_all}
use Rattle.ir_lemmas.proofs.CallerLemmas.{written_and_left_step, appends_nest_right}
use Rattle.ir_trace.specs.Recorded.{Recorded, RecordedThread}
use Rattle.ir_log.specs.declared.event.Event.{Event}
use Rattle.ir_picture.specs.Numbers.{comma, row_start, rows_from, first_numbers, place_numbers, row_with, with_commas, thread_row, thread_rows}
use Rattle.ir_picture.specs.Chrome.{arrow_lines, all_arrows, thread_lines, all_threads, thread_end_line, end_lines, chrome_head, chrome_end, chrome_text}
use Rattle.ir_picture.specs.Progress.{box_start}
use Rattle.ir_picture.specs.declared.asked.Around.{Around}
use Rattle.ir_picture.specs.declared.placed_box.Point.{Point}
use Rattle.ir_picture.specs.declared.placed_box.PlacedBox.{PlacedBox}
use Rattle.ir_picture.specs.declared.sights.Sight.{Sight}

-- the same of two texts
pub text_after_two_puts : (so_far one two left more text mid new : List ℕ) → so_far ++ left ≡ text → left ≡ one ++ (two ++ more) → mid ≡ so_far ++ one
    → new ≡ mid ++ two → new ++ more ≡ text
text_after_two_puts so_far one two left more text mid new e first made last =
    written_and_left_step mid two (two ++ more) more text new (written_and_left_step so_far one left (two ++ more) text mid e first made) refl last

-- ---- texts that are put one after the other

pub append_assoc_3 : (old a b c one two three : List ℕ) → one ≡ old ++ a → two ≡ one ++ b → three ≡ two ++ c → three ≡ old ++ (a ++ (b ++ c))
append_assoc_3 old a b c one two three x y z = z ∙ ap (λ (w : List ℕ). w ++ c) (y ∙ ap (λ (w : List ℕ). w ++ b) x)
    ∙ append_assoc (old ++ a) b c ∙ append_assoc old a (b ++ c)

pub append_assoc_5 : (old a b c d e one two three four five : List ℕ) → one ≡ old ++ a → two ≡ one ++ b → three ≡ two ++ c → four ≡ three ++ d
    → five ≡ four ++ e → five ≡ old ++ (a ++ (b ++ (c ++ (d ++ e))))
append_assoc_5 old a b c d e one two three four five x y z w v =
    appends_nest_right old a b c (d ++ e) one two three five x y z (v ∙ ap (λ (u : List ℕ). u ++ e) w ∙ append_assoc three d e)

-- ---- texts with a comma between

-- what comes before a text after these
abbrev pub comma_after : List (List ℕ) → List ℕ
comma_after [] = []
comma_after (x ∷ xs) = codes ","

pub with_commas_of_push : (xs : List (List ℕ)) (y : List ℕ) → with_commas (xs ++ y ∷ []) ≡ with_commas xs ++ (comma_after xs ++ y)
unfolding with_commas
with_commas_of_push [] y = refl
with_commas_of_push (x ∷ []) y = refl
with_commas_of_push (x ∷ z ∷ zs) y =
    ap (λ (w : List ℕ). x ++ (codes "," ++ w)) (with_commas_of_push (z ∷ zs) y)
    ∙ sym (append_assoc x (codes "," ++ with_commas (z ∷ zs)) (codes "," ++ y)
    ∙ ap (λ (w : List ℕ). x ++ w) (append_assoc (codes ",") (with_commas (z ∷ zs)) (codes "," ++ y)))

pub comma_after_push : (xs : List (List ℕ)) (y : List ℕ) → comma_after (xs ++ y ∷ []) ≡ codes ","
comma_after_push [] y = refl
comma_after_push (x ∷ xs) y = refl

-- ---- rows

rows_from_of_drop : {A : Type 0} (row : A → List ℕ) (k n : ℕ) (xs : List A) (x : A) → n < length xs
    → rows_from row k (drop n xs) ≡ row_start k ++ (row (get_or xs n x) ++ rows_from row (suc k) (drop (n + 1) xs))
unfolding rows_from
rows_from_of_drop row k n xs x some = at_drop_more (rows_from row k) xs n x some

-- the next row comes first in what is left
pub rows_begin_with_row : {A : Type 0} (row : A → List ℕ) (n : ℕ) (xs : List A) (x : A) (start line : List ℕ) → n < length xs → start ≡ row_start n
    → line ≡ row (get_or xs n x) → rows_from row n (drop n xs) ≡ start ++ (line ++ rows_from row (n + 1) (drop (n + 1) xs))
rows_begin_with_row {A} row n xs x start line some begins same = rows_from_of_drop row n n xs x some
    ∙ ap (λ (z : List ℕ). z ++ (row (get_or xs n x) ++ rows_from row (suc n) (drop (n + 1) xs))) (sym begins)
    ∙ ap (λ (z : List ℕ). start ++ (z ++ rows_from row (suc n) (drop (n + 1) xs))) (sym same)
    ∙ (let on : suc n ≡ n + 1 = omega arith in ap (λ k. start ++ (line ++ rows_from row k (drop (n + 1) xs))) on)

pub rows_from_past_end : {A : Type 0} (row : A → List ℕ) (k n : ℕ) (xs : List A) → length xs ≤ n → rows_from row k (drop n xs) ≡ []
unfolding rows_from
rows_from_past_end row k n xs all = at_drop_all (rows_from row k) xs n all

-- the same as one line
pub rows_begin_with_line : {A : Type 0} (row : A → List ℕ) (n : ℕ) (xs : List A) (x : A) → n < length xs
    → rows_from row n (drop n xs) ≡ (row_start n ++ row (get_or xs n x)) ++ rows_from row (n + 1) (drop (n + 1) xs)
rows_begin_with_line row n xs x some = rows_begin_with_row row n xs x (row_start n) (row (get_or xs n x)) some refl refl
    ∙ sym (append_assoc (row_start n) (row (get_or xs n x)) (rows_from row (n + 1) (drop (n + 1) xs)))

-- the row of a box was put, its last numbers behind the others
pub box_puts_append_row : (old : List ℕ) (es : List Event) (b : PlacedBox) (last one two three : List ℕ) → one ≡ old ++ box_start es b → two ≡ one ++ last
    → three ≡ two ++ codes "]" → three ≡ old ++ row_with es b last
box_puts_append_row old es b last one two three x y z = append_assoc_3 old (box_start es b) last (codes "]") one two three x y z
    ∙ ap (λ (w : List ℕ). old ++ (codes "[" ++ w)) (regroup (decimal b.events.thread) (comma b.events.event) (comma b.events.count) (first_numbers es)
    (place_numbers b) (last ++ codes "]"))
  where
    regroup : (t e c f p r : List ℕ) → (t ++ (e ++ (c ++ (f ++ p)))) ++ r ≡ t ++ (e ++ (c ++ (f ++ (p ++ r))))
    regroup t e c f p r = simp append_assoc

-- ---- the rows of threads

thread_rows_of_drop : (k n : ℕ) (ts : List RecordedThread) (ps : List Point) (t : RecordedThread) (p : Point) → n < length ts → length ps ≡ length ts
    → thread_rows k (drop n ts) (drop n ps)
    ≡ row_start k ++ (thread_row (get_or ts n t) (get_or ps n p) ++ thread_rows (suc k) (drop (n + 1) ts) (drop (n + 1) ps))
unfolding thread_rows
thread_rows_of_drop k n ts ps t p some same =
    at_drop_more (λ (x : List RecordedThread). thread_rows k x (drop n ps)) ts n t some
    ∙ at_drop_more (λ (y : List Point). thread_rows k (get_or ts n t ∷ drop (n + 1) ts) y) ps n p (omega (arith, some, same))

-- the next thread's row comes first in what is left
pub thread_rows_next : (n : ℕ) (ts : List RecordedThread) (ps : List Point) (t : RecordedThread) (p : Point) (start line : List ℕ) → n < length ts
    → length ps ≡ length ts → start ≡ row_start n → line ≡ thread_row (get_or ts n t) (get_or ps n p)
    → thread_rows n (drop n ts) (drop n ps) ≡ start ++ (line ++ thread_rows (n + 1) (drop (n + 1) ts) (drop (n + 1) ps))
thread_rows_next n ts ps t p start line some all begins same = thread_rows_of_drop n n ts ps t p some all
    ∙ ap (λ (z : List ℕ). z ++ (thread_row (get_or ts n t) (get_or ps n p) ++ thread_rows (suc n) (drop (n + 1) ts) (drop (n + 1) ps))) (sym begins)
    ∙ ap (λ (z : List ℕ). start ++ (z ++ thread_rows (suc n) (drop (n + 1) ts) (drop (n + 1) ps))) (sym same)
    ∙ (let on : suc n ≡ n + 1 = omega arith in ap (λ k. start ++ (line ++ thread_rows k (drop (n + 1) ts) (drop (n + 1) ps))) on)

pub thread_rows_past_end : (k n : ℕ) (ts : List RecordedThread) (ps : List Point) → length ts ≤ n → length ps ≡ length ts
    → thread_rows k (drop n ts) (drop n ps) ≡ []
unfolding thread_rows
thread_rows_past_end k n ts ps all same = at_drop_all (λ (x : List RecordedThread). thread_rows k x (drop n ps)) ts n all
    ∙ at_drop_all (λ (y : List Point). thread_rows k [] y) ps n (omega (arith, all, same))

-- ---- the ends of threads, for other viewers

end_lines_of_drop : (k n : ℕ) (ts : List RecordedThread) (ps : List Point) (t : RecordedThread) (p : Point) → n < length ts → length ps ≡ length ts
    → end_lines k (drop n ts) (drop n ps) ≡ thread_end_line k (get_or ts n t) (get_or ps n p) ++ end_lines (suc k) (drop (n + 1) ts) (drop (n + 1) ps)
unfolding end_lines
end_lines_of_drop k n ts ps t p some same =
    at_drop_more (λ (x : List RecordedThread). end_lines k x (drop n ps)) ts n t some
    ∙ at_drop_more (λ (y : List Point). end_lines k (get_or ts n t ∷ drop (n + 1) ts) y) ps n p (omega (arith, some, same))

-- the line of the next thread's end comes first in what is left
pub end_lines_begin_with_next : (n : ℕ) (ts : List RecordedThread) (ps : List Point) (t : RecordedThread) (p : Point) (line : List ℕ) → n < length ts
    → length ps ≡ length ts → line ≡ thread_end_line n (get_or ts n t) (get_or ps n p)
    → end_lines n (drop n ts) (drop n ps) ≡ line ++ end_lines (n + 1) (drop (n + 1) ts) (drop (n + 1) ps)
end_lines_begin_with_next n ts ps t p line some all same = end_lines_of_drop n n ts ps t p some all
    ∙ ap (λ (z : List ℕ). z ++ end_lines (suc n) (drop (n + 1) ts) (drop (n + 1) ps)) (sym same)
    ∙ (let on : suc n ≡ n + 1 = omega arith in ap (λ k. line ++ end_lines k (drop (n + 1) ts) (drop (n + 1) ps)) on)

pub end_lines_past_end : (k n : ℕ) (ts : List RecordedThread) (ps : List Point) → length ts ≤ n → length ps ≡ length ts
    → end_lines k (drop n ts) (drop n ps) ≡ []
unfolding end_lines
end_lines_past_end k n ts ps all same = at_drop_all (λ (x : List RecordedThread). end_lines k x (drop n ps)) ts n all
    ∙ at_drop_all (λ (y : List Point). end_lines k [] y) ps n (omega (arith, all, same))

-- ---- arrows

all_arrows_of_drop : (k n : ℕ) (xs : List Sight) (x : Sight) → n < length xs
    → all_arrows k (drop n xs) ≡ arrow_lines k (get_or xs n x) ++ all_arrows (suc k) (drop (n + 1) xs)
unfolding all_arrows
all_arrows_of_drop k n xs x some = at_drop_more (all_arrows k) xs n x some

-- the next arrow's lines come first in what is left
pub all_arrows_next : (n : ℕ) (xs : List Sight) (x : Sight) (line : List ℕ) → n < length xs → line ≡ arrow_lines n (get_or xs n x)
    → all_arrows n (drop n xs) ≡ line ++ all_arrows (n + 1) (drop (n + 1) xs)
all_arrows_next n xs x line some same = all_arrows_of_drop n n xs x some
    ∙ ap (λ (z : List ℕ). z ++ all_arrows (suc n) (drop (n + 1) xs)) (sym same)
    ∙ (let on : suc n ≡ n + 1 = omega arith in ap (λ k. line ++ all_arrows k (drop (n + 1) xs)) on)

pub all_arrows_past_end : (k n : ℕ) (xs : List Sight) → length xs ≤ n → all_arrows k (drop n xs) ≡ []
unfolding all_arrows
all_arrows_past_end k n xs all = at_drop_all (all_arrows k) xs n all

-- ---- the lines of threads, for other viewers

pub all_threads_step : (t : ℕ) (so_far text own new : List ℕ) → text ≡ so_far ++ all_threads t → own ≡ thread_lines t → new ≡ text ++ own
    → new ≡ so_far ++ all_threads (t + 1)
unfolding all_threads
all_threads_step t so_far text own new h same made = made ∙ ap (λ (x : List ℕ). x ++ own) h ∙ append_assoc so_far (all_threads t) own
    ∙ ap (λ (x : List ℕ). so_far ++ (all_threads t ++ x)) same
    ∙ (let on : suc t ≡ t + 1 = omega arith in ap (λ n. so_far ++ all_threads n) on)

pub append_no_threads : (so_far : List ℕ) → so_far ≡ so_far ++ all_threads 0
unfolding all_threads
append_no_threads so_far = sym (append-nil so_far)

-- ---- lines

-- the text of the next element comes first in what is left
pub flat_map_of_drop : {A : Type 0} (f : A → List ℕ) (n : ℕ) (xs : List A) (x : A) (line : List ℕ) → n < length xs → line ≡ f (get_or xs n x)
    → flat_map f (drop n xs) ≡ line ++ flat_map f (drop (n + 1) xs)
flat_map_of_drop f n xs x line some same = at_drop_more (flat_map f) xs n x some ∙ ap (λ (z : List ℕ). z ++ flat_map f (drop (n + 1) xs)) (sym same)

pub flat_map_past_end : {A : Type 0} (f : A → List ℕ) (n : ℕ) (xs : List A) → length xs ≤ n → flat_map f (drop n xs) ≡ []
flat_map_past_end f n xs all = at_drop_all (flat_map f) xs n all

-- ---- data in a frame

-- its four parts
pub four_parts_framed : (a b c d before head after : List ℕ) → a ≡ before ++ head → d ≡ after → ((a ++ b) ++ c) ++ d ≡ before ++ ((head ++ (b ++ c)) ++ after)
four_parts_framed a b c d before head after begins ends = ap (λ (x : List ℕ). ((x ++ b) ++ c) ++ d) begins ∙ regroup before head b c d
    ∙ ap (λ (x : List ℕ). before ++ ((head ++ (b ++ c)) ++ x)) ends
  where
    regroup : (p h b c d : List ℕ) → (((p ++ h) ++ b) ++ c) ++ d ≡ p ++ ((h ++ (b ++ c)) ++ d)
    regroup p h b c d = simp append_assoc

-- with its end
pub data_parts_with_end : (start threads name boxes end middle stale last : List ℕ)
    → ((start ++ (threads ++ name)) ++ (boxes ++ ((end ++ middle) ++ stale))) ++ (end ++ last)
    ≡ start ++ (threads ++ ((name ++ (boxes ++ end)) ++ ((middle ++ (stale ++ end)) ++ last)))
data_parts_with_end start threads name boxes end middle stale last = simp append_assoc

-- and a text after it
pub data_parts_before_last : (start threads boxes stale end last : List ℕ)
    → start ++ (threads ++ (boxes ++ (stale ++ (end ++ last)))) ≡ (start ++ (threads ++ (boxes ++ (stale ++ end)))) ++ last
data_parts_before_last start threads boxes stale end last = sym (regroup start threads boxes stale end last)
  where
    regroup : (a b c d e f : List ℕ) → (a ++ (b ++ (c ++ (d ++ e)))) ++ f ≡ a ++ (b ++ (c ++ (d ++ (e ++ f))))
    regroup a b c d e f = simp append_assoc

-- ---- the events for other viewers

-- their four parts
pub four_parts_are_chrome : (r s : Recorded) (near : Option Around) (ends all_ends : List Point) (sights : List Sight) (first slices lines last : List ℕ)
    → first ≡ chrome_head s near ends → s ≡ r → ends ≡ all_ends → slices ≡ lines → last ≡ chrome_end
    → ((first ++ slices) ++ all_arrows 0 sights) ++ last ≡ chrome_text r near all_ends lines sights
four_parts_are_chrome r s near ends all_ends sights first slices lines last begins same same_ends same_lines closes =
    append_assoc (first ++ slices) (all_arrows 0 sights) last
    ∙ append_assoc first slices (all_arrows 0 sights ++ last)
    ∙ ap (λ (x : List ℕ). x ++ (slices ++ (all_arrows 0 sights ++ last))) (begins ∙ (λ i. chrome_head (same i) near (same_ends i)))
    ∙ (λ i. chrome_head r near all_ends ++ (same_lines i ++ (all_arrows 0 sights ++ closes i)))
