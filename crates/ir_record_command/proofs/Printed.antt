-- Lines that are put together.
use Rattle.std.proofs.Common.{◌≡◌, ◌<◌, ◌+◌, ℕ, zero, suc, List, [], ◌∷◌, ◌++◌, length, take, get_or, sym, ap, ◌∙◌, arith, append_assoc, append-nil, add-one}
use Rattle.ir_trace.specs.Recorded.{RecordedThread}
use Rattle.ir_record_command.specs.Recording.{recorded_thread_line, recording_lines_from}

lines_from_step : (t n : ℕ) (xs : List RecordedThread) (x : RecordedThread) → n < length xs → x ≡ get_or xs n x
    → recording_lines_from t (take (suc n) xs) ≡ recording_lines_from t (take n xs) ++ recorded_thread_line (t + n) x
lines_from_step t n [] x l e = absurd (omega (arith, l))
lines_from_step t zero (y ∷ xs) x l e =
    let same : t ≡ t + 0 = omega arith in
    append-nil (recorded_thread_line t y) ∙ ap (recorded_thread_line t) (sym e) ∙ ap (λ (k : ℕ). recorded_thread_line k x) same
lines_from_step t (suc n) (y ∷ xs) x l e =
    let same : t + 1 + n ≡ t + suc n = omega arith in
    ap (λ (z : List ℕ). recorded_thread_line t y ++ z) (lines_from_step (t + 1) n xs x (omega (arith, l)) e
    ∙ ap (λ (k : ℕ). recording_lines_from (t + 1) (take n xs) ++ recorded_thread_line k x) same)
    ∙ sym (append_assoc (recorded_thread_line t y) (recording_lines_from (t + 1) (take n xs)) (recorded_thread_line (t + suc n) x))

-- the lines so far, and one more
pub lines_from_start_step : (n : ℕ) (xs ys : List RecordedThread) (x : RecordedThread) (old new line : List ℕ) → ys ≡ xs → n < length ys
    → x ≡ get_or ys n x → old ≡ recording_lines_from 0 (take n xs) → line ≡ recorded_thread_line n x → new ≡ old ++ line
    → new ≡ recording_lines_from 0 (take (n + 1) xs)
lines_from_start_step n xs ys x old new line same l e before is h =
    let here : x ≡ get_or xs n x = e ∙ ap (λ (z : List RecordedThread). get_or z n x) same in
    let long : length ys ≡ length xs = ap (λ (z : List RecordedThread). length z) same in
    let place : n ≡ 0 + n = omega arith in
    h ∙ ap (λ (z : List ℕ). z ++ line) before ∙ ap (λ (z : List ℕ). recording_lines_from 0 (take n xs) ++ z)
    (is ∙ ap (λ (k : ℕ). recorded_thread_line k x) place) ∙ sym (lines_from_step 0 n xs x (omega (arith, l, long)) here)
    ∙ ap (λ (k : ℕ). recording_lines_from 0 (take k xs)) (sym (add-one n))
