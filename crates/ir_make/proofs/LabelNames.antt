-- The labels of a source are named, and their names are names of symbols.
use Rattle.std.proofs.Common.{◌≡◌, ◌+◌, ◌-◌, ◌*◌, ◌<◌, ℕ, zero, suc, true, false, true≢false, not, is_some, ◌&&◌, ◌||◌, List, [], ◌∷◌, ◌++◌, length, refl, sym, ap, subst, ◌∙◌, arith, Some, Ok}
use Rattle.std.specs.Prelude.{nat_le, nat_lt, slice_index}
use Rattle.std.specs.List.{All, AllByRecursion, list_all}
use Rattle.std.proofs.lemmas.List.Elements.{All-from_recursion}
use Rattle.std.proofs.lemmas.Grind.{common_steps}
use Rattle.ir_lemmas.proofs.CallerLemmas.{left_of_true_and, right_of_true_and, ok_is_injective, and_true_from_both, or_true_from_left}
use Rattle.ir_image.specs.Guest.{limits_of, memory_size, most_code_words}
use Rattle.ir_asm.specs.declared.cause.Cause.TheVariants.{BadByte, BadCount, BadLabel, BadSize, LabelTwice}
use Rattle.ir_asm.specs.declared.form.Section.{Section}
use Rattle.ir_asm.specs.declared.form.Section.TheVariants.{Text, Data}
use Rattle.ir_asm.specs.declared.item.Item.{Item}
use Rattle.ir_asm.specs.declared.item.Item.TheVariants.{Code, Entry}
use Rattle.ir_asm.specs.declared.item.Place.{Place}
use Rattle.ir_asm.specs.Forms.{stated}
use Rattle.ir_asm.specs.Names.{named}
use Rattle.ir_asm.specs.Passes.{labels_of}
use Rattle.ir_asm.specs.Source.{Seen, Line, nothing_seen, here, is_source_byte, at_line, item_in, begun_line, grown_segment, laid_out}
use Rattle.ir_asm.specs.Source.{entered_line, with_labels, with_statement, with_line, source_line, source_lines, first_pass}
use Rattle.ir_asm.specs.Text.{begins_name, goes_on_name, is_source_digit, is_source_name}
use Rattle.ir_symbols.specs.Symbols.{is_kind, is_mark, is_printable, symbol_of, is_name as is_symbol_name}
use Rattle.ir_make.specs.Mapping.{letter_of, IsNamed, label_symbol}
use Rattle.ir_asm.proofs.CallerLemmas.{ok_if_at_line_is_ok, parts_of_ok_bind, parts_of_ok_unless}

-- ---- tests that pass

-- ---- a name

name_byte_is_mark : (b : ℕ) → goes_on_name b ≡ true → is_mark b ≡ true
name_byte_is_mark b e = grind (arith, common_steps, e)

mark_is_printable : (b : ℕ) → is_mark b ≡ true → is_printable b ≡ true
mark_is_printable b e = grind (arith, common_steps, e)

name_is_printable : (bs : List ℕ) → list_all goes_on_name bs ≡ true → list_all is_printable bs ≡ true
name_is_printable [] e = refl
name_is_printable (b ∷ bs) e = and_true_from_both (is_printable b) (list_all is_printable bs)
    (mark_is_printable b (name_byte_is_mark b (left_of_true_and (goes_on_name b) (list_all goes_on_name bs) e)))
    (name_is_printable bs (right_of_true_and (goes_on_name b) (list_all goes_on_name bs) e))

byte_at_place_is_mark : (bs : List ℕ) (i : ℕ) → i < length bs → list_all goes_on_name bs ≡ true → is_mark (slice_index bs i) ≡ true
byte_at_place_is_mark [] i lt e = absurd (let h = lt in omega (arith, h))
byte_at_place_is_mark (b ∷ bs) zero lt e = name_byte_is_mark b (left_of_true_and (goes_on_name b) (list_all goes_on_name bs) e)
byte_at_place_is_mark (b ∷ bs) (suc i) lt e = byte_at_place_is_mark bs i (let h = lt in omega (arith, h)) (right_of_true_and (goes_on_name b) (list_all goes_on_name bs) e)

label_is_symbol_name : (name : List ℕ) → is_source_name name ≡ true → is_symbol_name name ≡ true
label_is_symbol_name [] e = absurd (true≢false (sym e))
label_is_symbol_name (b ∷ bs) e =
    let begins = left_of_true_and (begins_name b) (list_all goes_on_name bs && nat_le (length bs) 63) e in
    let rest = left_of_true_and (list_all goes_on_name bs) (nat_le (length bs) 63)
    (right_of_true_and (begins_name b) (list_all goes_on_name bs && nat_le (length bs) 63) e) in
    let all : list_all goes_on_name (b ∷ bs) ≡ true = and_true_from_both (goes_on_name b) (list_all goes_on_name bs)
    (or_true_from_left (begins_name b) (is_source_digit b) begins) rest in
    let first = byte_at_place_is_mark (b ∷ bs) 0 (omega arith) all in
    let last = byte_at_place_is_mark (b ∷ bs) (length (b ∷ bs) - 1) (omega arith) all in
    and_true_from_both (list_all is_printable (b ∷ bs)) _ (name_is_printable (b ∷ bs) all)
    (and_true_from_both (is_mark (slice_index (b ∷ bs) 0)) (is_mark (slice_index (b ∷ bs) (length (b ∷ bs) - 1))) first last)

section_letter_is_kind : (section : Section) → is_kind (letter_of section) ≡ true
section_letter_is_kind Text = refl
section_letter_is_kind Data = refl

-- a label that is named is a symbol
pub symbol_of_named_label : (label : List ℕ × Place) → IsNamed label
    → symbol_of label.1.address (letter_of label.1.section) label.0 ≡ Some (label_symbol label)
symbol_of_named_label label e =
    let both = and_true_from_both (is_kind (letter_of label.1.section)) (is_symbol_name label.0) (section_letter_is_kind label.1.section)
    (label_is_symbol_name label.0 e) in
    rw both refl

-- ---- the labels of a source

-- all labels that were seen are named
abbrev AreNamed : Seen → Type 0
AreNamed s = AllByRecursion IsNamed s.labels

named_push : (labels : List (List ℕ × Place)) (label : List ℕ × Place) → AllByRecursion IsNamed labels → IsNamed label
    → AllByRecursion IsNamed (labels ++ label ∷ [])
named_push [] label all e = (e, tt)
named_push (x ∷ labels) label all e = (all.0, named_push labels label all.1 e)

with_labels_keeps_named : (names : List (List ℕ)) (s t : Seen) → list_all is_source_name names ≡ true → with_labels names s ≡ Ok t → AreNamed s → AreNamed t
with_labels_keeps_named [] s t all e before = subst AreNamed (ok_is_injective s t e) before
with_labels_keeps_named (name ∷ names) s t all e before =
    let more : Seen = record s { labels = s.labels ++ (name, here s) ∷ [] } in
    let u = parts_of_ok_unless (not (is_some (named s.labels name))) LabelTwice (with_labels names more) t e in
    with_labels_keeps_named names more t (right_of_true_and (is_source_name name) (list_all is_source_name names) all) u.1
    (named_push s.labels (name, here s) before (left_of_true_and (is_source_name name) (list_all is_source_name names) all))

grown_keeps_labels : (section : Section) (n : ℕ) (s u : Seen) → grown_segment section n s ≡ Ok u → u.labels ≡ s.labels
grown_keeps_labels Text n s u e =
    let t = parts_of_ok_unless (nat_le (s.code + n) (4 * most_code_words)) BadSize _ u e in ap (λ (x : Seen). x.labels) (sym (ok_is_injective _ u t.1))
grown_keeps_labels Data n s u e =
    let t = parts_of_ok_unless (nat_le (s.filled + n) memory_size) BadSize _ u e in ap (λ (x : Seen). x.labels) (sym (ok_is_injective _ u t.1))

entered_keeps_labels : (section : Section) (line a : ℕ) (item : Item) (u t : Seen) → entered_line line a (laid_out section item) u ≡ Ok t → t.labels ≡ u.labels
entered_keeps_labels Data line a (Code words) u t e = ap (λ (x : Seen). x.labels) (sym (ok_is_injective _ t e))
entered_keeps_labels section line a (Entry label) u t e =
    let x = parts_of_ok_unless (nat_lt u.threads (limits_of (stated u.form)).threads) BadCount _ t e in ap (λ (x : Seen). x.labels) (sym (ok_is_injective _ t x.1))
entered_keeps_labels section line a item u t e = ap (λ (x : Seen). x.labels) (sym (ok_is_injective _ t e))

statement_keeps_labels : (line : ℕ) (statement : List ℕ) (s t : Seen) → with_statement line statement s ≡ Ok t → t.labels ≡ s.labels
statement_keeps_labels line [] s t e = ap (λ (x : Seen). x.labels) (sym (ok_is_injective s t e))
statement_keeps_labels line (b ∷ bs) s t e =
    let i = parts_of_ok_bind (item_in s.form s.section (b ∷ bs)) _ t e in
    let g = parts_of_ok_bind (grown_segment (begun_line s).section _ (begun_line s)) _ t i.2 in
    entered_keeps_labels _ line _ i.0 g.0 t g.2 ∙ grown_keeps_labels _ _ (begun_line s) g.0 g.1

with_line_keeps_named : (number : ℕ) (line : Line) (s t : Seen) → with_line number line s ≡ Ok t → AreNamed s → AreNamed t
with_line_keeps_named number line s t e before =
    let a = parts_of_ok_unless (list_all is_source_byte line.bytes) BadByte _ t e in
    let b = parts_of_ok_unless (list_all is_source_name line.labels) BadLabel _ t a.1 in
    let c = parts_of_ok_bind (with_labels line.labels s) _ t b.1 in
    subst (AllByRecursion IsNamed) (sym (statement_keeps_labels number line.statement c.0 t c.2)) (with_labels_keeps_named line.labels s c.0 b.0 c.1 before)

first_pass_keeps_named : (number : ℕ) (lines : List (List ℕ)) (s t : Seen) → first_pass number lines s ≡ Ok t → AreNamed s → AreNamed t
first_pass_keeps_named number [] s t e before = subst AreNamed (ok_is_injective s t e) before
first_pass_keeps_named number (line ∷ lines) s t e before =
    let d = parts_of_ok_bind (at_line number (with_line number (source_line line) s)) _ t e in
    first_pass_keeps_named (number + 1) lines d.0 t d.2 (with_line_keeps_named number (source_line line) s d.0 (ok_if_at_line_is_ok number _ d.0 d.1) before)

-- each label of a source is named
pub source_labels_are_named : (source : List ℕ) (labels : List (List ℕ × Place)) → labels_of source ≡ Ok labels → All IsNamed labels
source_labels_are_named source labels e =
    let d = parts_of_ok_bind (first_pass 1 (source_lines source) nothing_seen) _ labels e in
    All-from_recursion IsNamed labels
    (subst (AllByRecursion IsNamed) (ok_is_injective d.0.labels labels d.2) (first_pass_keeps_named 1 (source_lines source) nothing_seen d.0 d.1 tt))
