-- Bytes in lines, by the first line.
use Rattle.std.proofs.Common.{◌≡◌, ◌≤◌, ◌<◌, ◌+◌, ◌-◌, ◌*◌, ◌^◌, ℕ, suc, List, [], ◌∷◌, ◌++◌, take, drop, map, min, length, refl, sym, ap, ◌∙◌, append_assoc, arith}
use Rattle.std.specs.Prelude.{codes, decimal}
use Rattle.std.specs.List.{slice_index_or}
use Rattle.std.proofs.lemmas.List.{length-drop, take_min, drop_min, append-nil, at_drop_more, at_drop_all}
use Rattle.hex.specs.Hex.{encode_lower}
use Rattle.ir_text.specs.Texts.{hex_word, memory_lines, memory_text, output_lines, event_text, event_lines}
use Rattle.ir_text.specs.Parts.{lines_for}
use Rattle.ir_log.specs.Logging.{label_of}
use Rattle.ir_log.specs.declared.event.Event.{Event}

memory_line_count_step : (n : ℕ) → 0 < n → lines_for 16 n ≡ suc (lines_for 16 (n - 16))
memory_line_count_step n some = omega arith

-- a line of output, and the lines of the bytes after it
output_line_count_step : (n : ℕ) → 0 < n → lines_for 32 n ≡ suc (lines_for 32 (n - 32))
output_line_count_step n some = omega arith

pub output_lines_step : (rest line more : List ℕ) (k : ℕ) → 0 < length rest → k ≡ min 32 (length rest) → line ≡ take k rest → more ≡ drop k rest
    → output_lines (lines_for 32 (length rest)) rest
    ≡ (encode_lower line ++ codes "\n") ++ output_lines (lines_for 32 (length more)) more
unfolding output_lines
output_lines_step rest line more k some is prefix back =
    let l : line ≡ take 32 rest = prefix ∙ ap (λ (n : ℕ). take n rest) is ∙ take_min 32 rest in
    let m : more ≡ drop 32 rest = back ∙ ap (λ (n : ℕ). drop n rest) is ∙ drop_min 32 rest in
    let n : ℕ = lines_for 32 (length (drop 32 rest)) in
    let e : lines_for 32 (length rest) ≡ suc n = output_line_count_step (length rest) some
    ∙ ap (λ (k : ℕ). suc (lines_for 32 k)) (sym (length-drop 32 rest)) in
    ap (λ (k : ℕ). output_lines k rest) e
    ∙ ap (λ (x : List ℕ). (encode_lower x ++ codes "\n") ++ output_lines n (drop 32 rest)) (sym l)
    ∙ ap (λ (x : List ℕ). (encode_lower line ++ codes "\n") ++ output_lines (lines_for 32 (length x)) x) (sym m)

pub output_lines_of_nothing : (rest : List ℕ) → length rest ≡ 0 → output_lines (lines_for 32 (length rest)) rest ≡ []
unfolding output_lines
output_lines_of_nothing [] none = refl
output_lines_of_nothing (b ∷ rest) none = absurd cc

-- an event's line, and the lines of the events after it
pub event_lines_step : (events : List Event) (i : ℕ) (d : Event) → i < length events
    → event_lines i (map label_of (drop i events))
    ≡ (decimal i ++ codes " " ++ event_text (label_of (slice_index_or events i d)) ++ codes "\n")
    ++ event_lines (i + 1) (map label_of (drop (i + 1) events))
unfolding event_lines
event_lines_step events i d below =
    let F : List Event → List ℕ = λ xs. event_lines i (map label_of xs) in
    at_drop_more F events i d below

pub event_lines_at_end : (events : List Event) (i : ℕ) → length events ≤ i → event_lines i (map label_of (drop i events)) ≡ []
unfolding event_lines
event_lines_at_end events i past =
    let F : List Event → List ℕ = λ xs. event_lines i (map label_of xs) in
    at_drop_all F events i past

-- a line, and the lines of the bytes after it
pub memory_text_first_line : (address : ℕ) (bytes : List ℕ) → 0 < length bytes
    → memory_text address bytes ≡ (hex_word address ++ codes ": " ++ encode_lower (take 16 bytes) ++ codes "\n") ++ memory_text
    (address + 16) (drop 16 bytes)
unfolding memory_lines
memory_text_first_line address bytes some =
    let n : ℕ = lines_for 16 (length (drop 16 bytes)) in
    let e : lines_for 16 (length bytes) ≡ suc n = memory_line_count_step (length bytes) some
    ∙ ap (λ (k : ℕ). suc (lines_for 16 k)) (sym (length-drop 16 bytes)) in
    ap (λ (k : ℕ). memory_lines k address bytes) e

pub memory_text_of_nothing : (address : ℕ) → memory_text address [] ≡ []
unfolding memory_lines
memory_text_of_nothing address = refl

-- a line more is put
pub memory_text_step : (before after all line rest more : List ℕ) (at k : ℕ) → 0 < length rest → k ≡ min 16 (length rest) → line ≡ take k rest
    → more ≡ drop k rest
    → after ≡ before ++ (hex_word at ++ codes ": " ++ encode_lower line ++ codes "\n") → before ++ memory_text at rest ≡ all
    → after ++ memory_text (at + 16) more ≡ all
memory_text_step before after all line rest more at k some is prefix back put so_far =
    let l : line ≡ take 16 rest = prefix ∙ ap (λ (n : ℕ). take n rest) is ∙ take_min 16 rest in
    let m : more ≡ drop 16 rest = back ∙ ap (λ (n : ℕ). drop n rest) is ∙ drop_min 16 rest in
    let first : List ℕ = hex_word at ++ codes ": " ++ encode_lower line ++ codes "\n" in
    ap (λ (x : List ℕ). x ++ memory_text (at + 16) more) put
    ∙ append_assoc before first (memory_text (at + 16) more)
    ∙ ap (λ (x : List ℕ). before ++ ((hex_word at ++ codes ": " ++ encode_lower x ++ codes "\n") ++ memory_text (at + 16) more)) l
    ∙ ap (λ (x : List ℕ). before ++ ((hex_word at ++ codes ": " ++ encode_lower (take 16 rest) ++ codes "\n") ++ memory_text (at + 16) x)) m
    ∙ ap (λ (x : List ℕ). before ++ x) (sym (memory_text_first_line at rest some))
    ∙ so_far

-- no byte is left
pub memory_text_at_end : (before all rest : List ℕ) (at : ℕ) → length rest ≡ 0 → before ++ memory_text at rest ≡ all → before ≡ all
memory_text_at_end before all [] at none so_far = sym (append-nil before) ∙ ap (λ (x : List ℕ). before ++ x) (sym (memory_text_of_nothing at)) ∙ so_far
memory_text_at_end before all (b ∷ rest) at none so_far = absurd cc

-- a line of 43 bytes fits for each 16 bytes that are left
pub memory_line_has_room : (before after rest more at k : ℕ) → k ≡ min 16 rest → more + k ≡ rest → after ≤ before + 43
    → (16 * before + 43 * rest ≤ 16 * 200 + 43 * 256) × (at + rest ≤ 2 ^ 31 + 256) → 0 < more
    → (16 * after + 43 * more ≤ 16 * 200 + 43 * 256) × (at + 16 + more ≤ 2 ^ 31 + 256)
memory_line_has_room before after rest more at k is left grown fits some = (omega arith, omega arith)

-- a number is put after what was put before
pub append_two_steps : (before first words digits now after : List ℕ) → now ≡ before ++ first → after ≡ now ++ (words ++ digits)
    → after ≡ before ++ (first ++ words ++ digits)
append_two_steps before first words digits now after e f =
    f ∙ ap (λ (x : List ℕ). x ++ (words ++ digits)) e
    ∙ append_assoc before first (words ++ digits)
    ∙ ap (λ (x : List ℕ). before ++ x) (sym (append_assoc first words digits))
