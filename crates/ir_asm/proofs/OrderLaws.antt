-- What is placed is in the order of its lines.
use Rattle.std.proofs.Common.{◌≡◌, ◌+◌, ◌*◌, ◌≤◌, ◌<◌, ℕ, List, [], ◌∷◌, ◌++◌, Ok, not, is_some, refl, ap, subst, arith}
use Rattle.std.specs.Prelude.{nat_le, nat_lt}
use Rattle.std.specs.List.{AllByRecursion, list_all}
use Rattle.ir_lemmas.proofs.CallerLemmas.{all_of_push, ok_is_injective}
use Rattle.ir_image.specs.Guest.{limits_of, memory_size, most_code_words}
use Rattle.ir_asm.specs.Forms.{stated}
use Rattle.ir_asm.specs.declared.cause.Cause.TheVariants.{LabelTwice, BadByte, BadLabel, BadSize, BadCount}
use Rattle.ir_asm.specs.declared.form.Section.{Section}
use Rattle.ir_asm.specs.declared.form.Section.TheVariants.{Text, Data}
use Rattle.ir_asm.specs.declared.item.Item.{Item}
use Rattle.ir_asm.specs.declared.item.Item.TheVariants.{Code, BranchTo, JumpTo, LoadAddress, Filled, Enlarged, Within, Entry, Count, First, Nothing}
use Rattle.ir_asm.specs.declared.item.Placed.{Placed}
use Rattle.ir_asm.specs.Names.{named}
use Rattle.ir_asm.specs.Text.{is_source_name}
use Rattle.ir_asm.specs.Source.{Seen, nothing_seen, statement_size, here, is_source_byte, at_line, grown_segment, laid_out, placed_at_label}
use Rattle.ir_asm.specs.Source.{entered_line, begun_line, with_labels, with_statement, with_line, source_line, first_pass, item_in}
use Rattle.ir_asm.specs.Placing.{AreInOrder}
use Rattle.ir_asm.proofs.Steps.{ok_if_at_line_is_ok, parts_of_ok_bind, parts_of_ok_unless, ok_unless_parts}

-- in order, and all before a line
abbrev pub AreInOrderBefore : ℕ → List Placed → Type 0
AreInOrderBefore line xs = AreInOrder 1 xs × AllByRecursion (λ y. y.line < line) xs

in_order_push : (low line : ℕ) (xs : List Placed) (x : Placed) → low ≤ line → x.line ≡ line → AllByRecursion (λ y. y.line < line) xs
    → AreInOrder low xs → AreInOrder low (xs ++ x ∷ [])
in_order_push low line [] x l e b o = (omega (arith, l, e), tt)
in_order_push low line (y ∷ ys) x l e b o = (o.0, in_order_push (y.line + 1) line ys x (omega (arith, b.0)) e b.1 o.1)

all_before_next_line : (line : ℕ) (xs : List Placed) → AllByRecursion (λ y. y.line < line) xs → AllByRecursion (λ y. y.line < line + 1) xs
all_before_next_line line [] b = tt
all_before_next_line line (y ∷ ys) b = (omega (arith, b.0), all_before_next_line line ys b.1)

-- a line that places nothing
in_order_next_line : (line : ℕ) (xs : List Placed) → AreInOrderBefore line xs → AreInOrderBefore (line + 1) xs
in_order_next_line line xs o = (o.0, all_before_next_line line xs o.1)

-- a line that places a statement
in_order_placed_item : (line a : ℕ) (item : Item) (s : Seen) → 1 ≤ line → AreInOrderBefore line s.placed → AreInOrderBefore (line + 1) (placed_at_label line a item s).placed
in_order_placed_item line a item s l o =
    let x : Placed = record { line = line; address = a; item = item } in
    (in_order_push 1 line s.placed x l refl o.1 o.0, all_of_push (λ y. y.line < line + 1) s.placed x (all_before_next_line line s.placed o.1) (omega arith))

in_order_entered_item : (line a : ℕ) (item : Item) (s t : Seen) → 1 ≤ line → AreInOrderBefore line s.placed → entered_line line a item s ≡ Ok t
    → AreInOrderBefore (line + 1) t.placed
in_order_entered_item line a Enlarged s t l o e = subst (λ u. AreInOrderBefore (line + 1) u.placed) (ok_is_injective _ t e) (in_order_next_line line s.placed o)
in_order_entered_item line a (Within section) s t l o e = subst (λ u. AreInOrderBefore (line + 1) u.placed) (ok_is_injective _ t e) (in_order_next_line line s.placed o)
in_order_entered_item line a (Count objects) s t l o e = subst (λ u. AreInOrderBefore (line + 1) u.placed) (ok_is_injective _ t e) (in_order_next_line line s.placed o)
in_order_entered_item line a Nothing s t l o e = subst (λ u. AreInOrderBefore (line + 1) u.placed) (ok_is_injective _ t e) (in_order_next_line line s.placed o)
in_order_entered_item line a (Entry label) s t l o e = subst (λ u. AreInOrderBefore (line + 1) u.placed)
    (ok_unless_parts (nat_lt s.threads (limits_of (stated s.form)).threads) BadCount _ t e).1
    (in_order_placed_item line a (Entry label) s l o)
in_order_entered_item line a (Code words) s t l o e = subst (λ u. AreInOrderBefore (line + 1) u.placed) (ok_is_injective _ t e) (in_order_placed_item line a (Code words) s l o)
in_order_entered_item line a (BranchTo op rs1 rs2 label) s t l o e =
    subst (λ u. AreInOrderBefore (line + 1) u.placed) (ok_is_injective _ t e) (in_order_placed_item line a (BranchTo op rs1 rs2 label) s l o)
in_order_entered_item line a (JumpTo rd label) s t l o e = subst (λ u. AreInOrderBefore (line + 1) u.placed) (ok_is_injective _ t e)
    (in_order_placed_item line a (JumpTo rd label) s l o)
in_order_entered_item line a (LoadAddress rd label) s t l o e =
    subst (λ u. AreInOrderBefore (line + 1) u.placed) (ok_is_injective _ t e) (in_order_placed_item line a (LoadAddress rd label) s l o)
in_order_entered_item line a (Filled bytes) s t l o e = subst (λ u. AreInOrderBefore (line + 1) u.placed) (ok_is_injective _ t e) (in_order_placed_item line a (Filled bytes) s l o)
in_order_entered_item line a (First object words) s t l o e =
    subst (λ u. AreInOrderBefore (line + 1) u.placed) (ok_is_injective _ t e) (in_order_placed_item line a (First object words) s l o)

growth_places_nothing : (section : Section) (n : ℕ) (s t : Seen) → grown_segment section n s ≡ Ok t → s.placed ≡ t.placed
growth_places_nothing Text n s t e = ap (λ (u : Seen). u.placed) (ok_unless_parts (nat_le (s.code + n) (4 * most_code_words)) BadSize _ t e).1
growth_places_nothing Data n s t e = ap (λ (u : Seen). u.placed) (ok_unless_parts (nat_le (s.filled + n) memory_size) BadSize _ t e).1

in_order_statement : (line : ℕ) (statement : List ℕ) (s t : Seen) → 1 ≤ line → AreInOrderBefore line s.placed → with_statement line statement s ≡ Ok t
    → AreInOrderBefore (line + 1) t.placed
in_order_statement line [] s t l o e = subst (λ u. AreInOrderBefore (line + 1) u.placed) (ok_is_injective s t e) (in_order_next_line line s.placed o)
in_order_statement line (b ∷ bs) s t l o e =
    let i = parts_of_ok_bind (item_in s.form s.section (b ∷ bs)) _ t e in
    let g = parts_of_ok_bind (grown_segment s.section (statement_size i.0) (begun_line s)) _ t i.2 in
    in_order_entered_item line (here (begun_line s)).address (laid_out s.section i.0) g.0 t l
    (subst (AreInOrderBefore line) (growth_places_nothing s.section (statement_size i.0) (begun_line s) g.0 g.1) o) g.2

labels_place_nothing : (labels : List (List ℕ)) (s t : Seen) → with_labels labels s ≡ Ok t → s.placed ≡ t.placed
labels_place_nothing [] s t e = ap (λ (u : Seen). u.placed) (ok_is_injective s t e)
labels_place_nothing (x ∷ xs) s t e =
    let u = parts_of_ok_unless (not (is_some (named s.labels x))) LabelTwice _ t e in
    labels_place_nothing xs (record s { labels = s.labels ++ (x, here s) ∷ [] }) t u.1

in_order_after_lines : (number : ℕ) (lines : List (List ℕ)) (s t : Seen) → 1 ≤ number → AreInOrderBefore number s.placed → first_pass number lines s ≡ Ok t
    → AreInOrder 1 t.placed
in_order_after_lines number [] s t l o e = subst (λ u. AreInOrder 1 u.placed) (ok_is_injective s t e) o.0
in_order_after_lines number (x ∷ xs) s t l o e =
    let f = parts_of_ok_bind (at_line number (with_line number (source_line x) s)) _ t e in
    let w = ok_if_at_line_is_ok number (with_line number (source_line x) s) f.0 f.1 in
    let b = parts_of_ok_unless (list_all is_source_byte x) BadByte _ f.0 w in
    let n = parts_of_ok_unless (list_all is_source_name (source_line x).labels) BadLabel _ f.0 b.1 in
    let p = parts_of_ok_bind (with_labels (source_line x).labels s) _ f.0 n.1 in
    in_order_after_lines (number + 1) xs f.0 t (omega (arith, l))
    (in_order_statement number (source_line x).statement p.0 f.0 l (subst (AreInOrderBefore number) (labels_place_nothing (source_line x).labels s p.0 p.1) o) p.2)
    f.2

pub first_pass_in_order : (lines : List (List ℕ)) (s : Seen) → first_pass 1 lines nothing_seen ≡ Ok s → AreInOrder 1 s.placed
first_pass_in_order lines s e = in_order_after_lines 1 lines nothing_seen s (omega arith) (tt, tt) e
