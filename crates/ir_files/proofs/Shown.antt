-- Texts that are shown, and lines that are written in parts.
use Rattle.std.proofs.Common.{◌≡◌, refl, ◌==◌, ◌&&◌, if◌then◌else◌, true, false, ℕ, List, [], ◌∷◌, ◌++◌, sym, ap, ◌∙◌, subst, append_assoc}
use Rattle.std.specs.Prelude.{Option, not, nat_lt}
use Rattle.std.specs.List.{list_all}
use Rattle.std.specs.Io.KnownBytes.{Appends}
use Rattle.ir_lemmas.proofs.CallerLemmas.{false_if_not_is_true, left_of_true_and, right_of_true_and}
use Rattle.ir_stream.specs.Answers.{AppendsPrefix}
use Rattle.ir_stream.proofs.CallerLemmas.{appends_prefix_append, appends_prefix_longer}
use Rattle.ir_files.specs.Shown.{shown, shown_byte, is_control, is_late_control, is_plain, mark}

shown_of_plain_byte : (b : ℕ) → is_plain b ≡ true → shown_byte b ≡ b
shown_of_plain_byte b h = ap (λ z. if z then mark else b) (false_if_not_is_true (is_control b) (left_of_true_and (not (is_control b)) (not (b == 194)) h))

plain_is_no_late_control : (b c : ℕ) → is_plain b ≡ true → is_late_control b c ≡ false
plain_is_no_late_control b c h = ap (λ z. z && (nat_lt 127 c && nat_lt c 160)) (false_if_not_is_true (b == 194) (right_of_true_and (not (is_control b)) (not (b == 194)) h))

pub shown_of_plain_text : (text : List ℕ) → list_all is_plain text ≡ true → shown text ≡ text
shown_of_plain_text [] h = refl
shown_of_plain_text (b ∷ []) h = ap (λ z. z ∷ []) (shown_of_plain_byte b (left_of_true_and (is_plain b) true h))
shown_of_plain_text (b ∷ c ∷ rest) h =
    let here : is_plain b ≡ true = left_of_true_and (is_plain b) (list_all is_plain (c ∷ rest)) h in
    let next : shown (c ∷ rest) ≡ c ∷ rest = shown_of_plain_text (c ∷ rest) (right_of_true_and (is_plain b) (list_all is_plain (c ∷ rest)) h) in
    ap (λ z. if z then mark ∷ shown rest else shown_byte b ∷ shown (c ∷ rest)) (plain_is_no_late_control b c here)
    ∙ ap (λ z. z ∷ shown (c ∷ rest)) (shown_of_plain_byte b here) ∙ ap (λ z. b ∷ z) next

-- the second part of a text goes over to the first
pub append_reassociated : (done part more end : List ℕ) → done ++ ((part ++ more) ++ end) ≡ (done ++ part) ++ (more ++ end)
append_reassociated done part more end = ap (λ z. done ++ z) (append_assoc part more end) ∙ sym (append_assoc done part (more ++ end))

-- a prefix of a part after what is done is one of the whole
pub part_prefix_of_whole : (a b c : Option (List ℕ)) (done part rest whole : List ℕ) → whole ≡ (done ++ part) ++ rest → Appends a b done
    → AppendsPrefix b c part → AppendsPrefix a c whole
part_prefix_of_whole a b c done part rest whole e begun f = subst (AppendsPrefix a c) (sym e)
    (appends_prefix_longer a c (done ++ part) rest (appends_prefix_append a b c done part begun f))
