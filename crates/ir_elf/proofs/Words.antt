-- Words that are read in one piece.
use Rattle.std.proofs.Common.{◌≡◌, ℕ, ◌*◌, ◌/◌, List, [], ◌∷◌, ◌++◌, length, take, drop, refl, sym, ap, ◌∙◌, arith}
use Rattle.std.proofs.Math.Seq.{take-append_seam}
use Rattle.byteorder.specs.Endian.{little_number, IsRead}
use Rattle.ir_elf.specs.Memory.{words_in}
use Rattle.ir_image.proofs.CallerLemmas.{tail_words_are_read}

read_words_are_words_in : (ws own : List ℕ) → length own ≡ 4 * length ws → IsRead little_number 4 own ws → words_in own ≡ ws
read_words_are_words_in [] [] e h = refl
read_words_are_words_in [] (a ∷ own) e h = absurd (omega arith)
read_words_are_words_in (w ∷ ws) [] e h = absurd (omega arith)
read_words_are_words_in (w ∷ ws) (a ∷ []) e h = absurd (omega arith)
read_words_are_words_in (w ∷ ws) (a ∷ b ∷ []) e h = absurd (omega arith)
read_words_are_words_in (w ∷ ws) (a ∷ b ∷ c ∷ []) e h = absurd (omega arith)
read_words_are_words_in (w ∷ ws) (a ∷ b ∷ c ∷ d ∷ more) e h =
    let first : w ≡ little_number 4 (a ∷ b ∷ c ∷ d ∷ []) = h 0 (omega arith) in
    let next = read_words_are_words_in ws more (omega arith) (tail_words_are_read w ws a b c d more h) in
    rw (next, ← first) refl

pub take_read_is_words_in : (room : ℕ) (own ws items : List ℕ) → length own ≡ 4 * length ws → room ≡ length ws → IsRead little_number 4 own ws
    → take room (ws ++ drop (length ws) items) ≡ words_in own
take_read_is_words_in room own ws items e full h =
    ap (λ (k : ℕ). take k (ws ++ drop (length ws) items)) full ∙ take-append_seam ws (drop (length ws) items) ∙ sym (read_words_are_words_in ws own e h)

pub length-words_in_own : (own : List ℕ) → length (words_in own) ≡ length own / 4
length-words_in_own [] = omega arith
length-words_in_own (a ∷ []) = omega arith
length-words_in_own (a ∷ b ∷ []) = omega arith
length-words_in_own (a ∷ b ∷ c ∷ []) = omega arith
length-words_in_own (a ∷ b ∷ c ∷ d ∷ more) = let next = length-words_in_own more in omega (arith, next)
