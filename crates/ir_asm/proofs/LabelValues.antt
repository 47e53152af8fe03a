-- What a label's value is, by what each line does to the sizes.
use Rattle.std.proofs.Common.{◌≡◌, ◌+◌, ◌*◌, ◌++◌, ℕ, Bool, true, false, cond, not, List, [], ◌∷◌, length, refl, sym, ap, subst, ◌∙◌, arith, Option, Some, None, Result, Ok, Err, is_some, ◌||◌}
use Rattle.std.specs.Prelude.{nat_lt, nat_le, bytes_eq, if◌then◌else◌}
use Rattle.std.specs.List.{list_any, list_all}
use Rattle.std.proofs.lemmas.Slice.Eq.{bytes_eq-Decides}
use Rattle.ir_lemmas.proofs.CallerLemmas.{ok_is_injective}
use Rattle.ir_image.specs.declared.form.ImageForm.{ImageForm}
use Rattle.ir_image.specs.declared.form.ImageForm.TheVariants.{Small}
use Rattle.ir_image.specs.Guest.{limits_of, memory_size, most_code_words}
use Rattle.ir_asm.specs.declared.cause.Cause.{Cause}
use Rattle.ir_asm.specs.declared.cause.Cause.TheVariants.{BadByte, BadCount, BadLabel, BadSize, LabelTwice, UnknownStatement, WrongSection}
use Rattle.ir_asm.specs.declared.form.Section.{Section}
use Rattle.ir_asm.specs.declared.form.Section.TheVariants.{Text, Data}
use Rattle.ir_asm.specs.declared.form.Form.{Form}
use Rattle.ir_asm.specs.declared.form.Form.TheVariants.{Objects, Object}
use Rattle.ir_asm.specs.declared.item.Operand.{Operand}
use Rattle.ir_asm.specs.declared.item.Operand.TheVariants.{Integer}
use Rattle.ir_asm.specs.declared.item.Item.{Item}
use Rattle.ir_asm.specs.declared.item.Item.TheVariants.{Code, Entry, Nothing}
use Rattle.ir_asm.specs.declared.item.Place.{Place}
use Rattle.ir_asm.specs.Faults.{◌>>=◌, or_cause}
use Rattle.ir_asm.specs.Forms.{form_named, stated, in_image, may_come, stands_in}
use Rattle.ir_asm.specs.Operands.{operands_of}
use Rattle.ir_asm.specs.Items.{source_item}
use Rattle.ir_asm.specs.Names.{named}
use Rattle.ir_asm.specs.Text.{is_source_name, is_nil}
use Rattle.ir_asm.specs.Source.{Seen, nothing_seen, segment_start, segment_size_in, same_section, statement_size, here, is_source_byte}
use Rattle.ir_asm.specs.Source.{at_line, name_of, operand_texts, may_stand, item_with, item_in, begun_line, grown_segment, laid_out}
use Rattle.ir_asm.specs.Source.{entered_line, with_labels, with_statement, with_line, source_line, first_pass}
use Rattle.ir_asm.specs.Standing.{item_or_nothing, placed_by_statement, section_after, section_at_end, bytes_placed, place_after_statement}
use Rattle.ir_asm.proofs.Steps.{ok_if_at_line_is_ok, parts_of_ok_bind, parts_of_ok_unless, ok_unless_parts}

-- ---- an item

-- what entering an item leaves
record ItemLeaves (item : Item) (u t : Seen) : Type 0 where
  section : t.section ≡ section_after item u.section
  code : t.code ≡ u.code
  filled : t.filled ≡ u.filled
  labels : t.labels ≡ u.labels

entered_item_keeps_rest : (section : Section) (line a : ℕ) (item : Item) (u t : Seen) → entered_line line a (laid_out section item) u ≡ Ok t → ItemLeaves item u t
entered_item_keeps_rest Data line a (Code words) u t e = subst (ItemLeaves (Code words) u) (ok_is_injective _ t e)
    (record { section = refl; code = refl; filled = refl; labels = refl })
entered_item_keeps_rest section line a (Entry label) u t e =
    let x = ok_unless_parts (nat_lt u.threads (limits_of (stated u.form)).threads) BadCount _ t e in
    subst (ItemLeaves (Entry label) u) x.1 (record { section = refl; code = refl; filled = refl; labels = refl })
entered_item_keeps_rest section line a item u t e = subst (ItemLeaves item u) (ok_is_injective _ t e)
    (record { section = refl; code = refl; filled = refl; labels = refl })

-- what growing a section leaves
record GrowthLeaves (section : Section) (n : ℕ) (s u : Seen) : Type 0 where
  stays : u.section ≡ s.section
  labels : u.labels ≡ s.labels
  sizes : (w : Section) → segment_size_in w u ≡ segment_size_in w s + (if same_section w section then n else 0)

size_in_after_code : (s : Seen) (n : ℕ) (w : Section) → segment_size_in w (record s { code = s.code + n }) ≡ segment_size_in w s +
    (if same_section w Text then n else 0)
size_in_after_code s n Text = refl
size_in_after_code s n Data = omega arith

size_in_after_data : (s : Seen) (n : ℕ) (w : Section) → segment_size_in w (record s { filled = s.filled + n }) ≡ segment_size_in w s +
    (if same_section w Data then n else 0)
size_in_after_data s n Text = omega arith
size_in_after_data s n Data = refl

growth_leaves_rest : (section : Section) (n : ℕ) (s u : Seen) → grown_segment section n s ≡ Ok u → GrowthLeaves section n s u
growth_leaves_rest Text n s u e = subst (GrowthLeaves Text n s) (ok_unless_parts (nat_le (s.code + n) (4 * most_code_words)) BadSize _ u e).1
    (record { stays = refl; labels = refl; sizes = size_in_after_code s n })
growth_leaves_rest Data n s u e = subst (GrowthLeaves Data n s) (ok_unless_parts (nat_le (s.filled + n) memory_size) BadSize _ u e).1
    (record { stays = refl; labels = refl; sizes = size_in_after_data s n })

size_in_equal : (w : Section) (u t : Seen) → t.code ≡ u.code → t.filled ≡ u.filled → segment_size_in w t ≡ segment_size_in w u
size_in_equal Text u t c f = c
size_in_equal Data u t c f = f

-- ---- the form of the image

-- two items are of one size, and after both the section is the same
record IsLike (item other : Item) : Type 0 where
  size : statement_size other ≡ statement_size item
  section : (s : Section) → section_after other s ≡ section_after item s

-- an item that takes no bytes and stays in its section
abbrev IsLight : Item → Type 0
IsLight item = IsLike Nothing item

light_items_are_alike : (item other : Item) → IsLight item → IsLight other → IsLike item other
light_items_are_alike item other l m = record { size = m.size ∙ sym l.size; section = λ s. m.section s ∙ sym (l.section s) }

objects_item_is_light : (image : ImageForm) (xs : List Operand) → IsLight (source_item (Objects image) xs)
objects_item_is_light image (Integer z ∷ []) = record { size = refl; section = λ s. refl }
objects_item_is_light image xs = record { size = refl; section = λ s. refl }

object_item_is_light : (image : ImageForm) (xs : List Operand) → IsLight (source_item (Object image) xs)
object_item_is_light image (Integer z ∷ xs) = record { size = refl; section = λ s. refl }
object_item_is_light image xs = record { size = refl; section = λ s. refl }

-- what a form of light items gives is light, be it a fault or not
or_nothing_is_light : (form : Form) (r : Result (List Operand) Cause) → ((xs : List Operand) → IsLight (source_item form xs))
    → IsLight (item_or_nothing (r >>= λ xs. Ok (source_item form xs)))
or_nothing_is_light form (Ok xs) each = each xs
or_nothing_is_light form (Err cause) each = record { size = refl; section = λ s. refl }

light_item_is_light : (form : Form) (texts : List (List ℕ)) (item : Item) → ((xs : List Operand) → IsLight (source_item form xs))
    → item_with form texts ≡ Ok item → IsLight item
light_item_is_light form texts item each e =
    let o = parts_of_ok_bind (operands_of form texts) _ item e in
    subst IsLight (ok_is_injective _ item o.2) (each o.0)

or_nothing_is_like : (r : Result Item Cause) (item : Item) → r ≡ Ok item → IsLike item (item_or_nothing r)
or_nothing_is_like (Ok x) item e =
    let same : x ≡ item = ok_is_injective x item e in
    record { size = ap statement_size same; section = λ s. ap (λ (y : Item). section_after y s) same }
or_nothing_is_like (Err cause) item e = absurd (cc e)

-- a form that has no fault in an image places the like of what it does in a small one
small_item_is_like : (image : ImageForm) (form : Form) (texts : List (List ℕ)) (item : Item) → item_with (in_image image form) texts ≡ Ok item
    → IsLike item (item_or_nothing (item_with (in_image Small form) texts))
small_item_is_like image (Objects other) texts item e =
    light_items_are_alike item _ (light_item_is_light (Objects image) texts item (objects_item_is_light image) e)
    (or_nothing_is_light (Objects Small) (operands_of (Objects Small) texts) (objects_item_is_light Small))
small_item_is_like image (Object other) texts item e =
    light_items_are_alike item _ (light_item_is_light (Object image) texts item (object_item_is_light image) e)
    (or_nothing_is_light (Object Small) (operands_of (Object Small) texts) (object_item_is_light Small))
small_item_is_like image form texts item e = or_nothing_is_like _ item e

-- so does a statement, wherever it is
statement_item_is_like : (before : Option ImageForm) (section : Section) (statement : List ℕ) (item : Item)
    → item_in before section statement ≡ Ok item → IsLike item (item_or_nothing (item_in None section statement))
statement_item_is_like before section statement item e =
    let f = parts_of_ok_bind (or_cause UnknownStatement (form_named (name_of statement))) _ item e in
    let c = parts_of_ok_unless (may_come before f.0) WrongSection _ item f.2 in
    let u = parts_of_ok_unless (may_stand (stands_in f.0) section) WrongSection _ item c.1 in
    rw (f.1, u.0) (small_item_is_like (stated before) f.0 (operand_texts statement) item u.1)

-- ---- a statement

-- what a statement that places an item in a section leaves
record StatementLeaves (section : Section) (item : Item) (s t : Seen) : Type 0 where
  goes_on : t.section ≡ section_after item s.section
  labels : t.labels ≡ s.labels
  sizes : (w : Section) → segment_size_in w t ≡ segment_size_in w s + (if same_section w section then statement_size item else 0)

entered_item_adds_size : (section : Section) (line a : ℕ) (item : Item) (s t : Seen)
    → (grown_segment section (statement_size item) s >>= λ u. entered_line line a (laid_out section item) u) ≡ Ok t → StatementLeaves section item s t
entered_item_adds_size section line a item s t e =
    let b = parts_of_ok_bind (grown_segment section (statement_size item) s) _ t e in
    let g = growth_leaves_rest section (statement_size item) s b.0 b.1 in
    let n = entered_item_keeps_rest section line a item b.0 t b.2 in
    record {
      goes_on = n.section ∙ ap (section_after item) g.stays;
      labels = n.labels ∙ g.labels;
      sizes = λ w. size_in_equal w b.0 t n.code n.filled ∙ g.sizes w;
    }

plus_zero_either_way : (b : Bool) (n : ℕ) → n ≡ n + cond b 0 0
plus_zero_either_way true n = omega arith
plus_zero_either_way false n = omega arith

statement_adds_size : (line : ℕ) (statement : List ℕ) (s t : Seen) → with_statement line statement s ≡ Ok t
    → StatementLeaves s.section (if is_nil statement then Nothing else item_or_nothing (item_in None s.section statement)) s t
statement_adds_size line [] s t e = subst (StatementLeaves s.section Nothing s) (ok_is_injective s t e)
    (record { goes_on = refl; labels = refl; sizes = λ w. plus_zero_either_way (same_section w s.section) (segment_size_in w s) })
statement_adds_size line (b ∷ bs) s t e =
    let i = parts_of_ok_bind (item_in s.form s.section (b ∷ bs)) _ t e in
    let l = statement_item_is_like s.form s.section (b ∷ bs) i.0 i.1 in
    let p = entered_item_adds_size s.section line _ i.0 (begun_line s) t i.2 in
    record {
      goes_on = p.goes_on ∙ sym (l.section s.section);
      labels = p.labels;
      sizes = λ w. p.sizes w ∙ ap (λ n. n + (if same_section w s.section then statement_size i.0 else 0)) (size_in_equal w s (begun_line s) refl refl)
          ∙ ap (λ n. segment_size_in w s + (if same_section w s.section then n else 0)) (sym l.size);
    }

-- ---- labels

named_append_stays : {A : Type 0} (rows more : List (List ℕ × A)) (name : List ℕ) (p : A) → named rows name ≡ Some p
    → named (rows ++ more) name ≡ Some p
named_append_stays [] more name p e = absurd (cc e)
named_append_stays (r ∷ rows) more name p e = by_test (bytes_eq name r.0) (named_append_stays rows more name p) e
  where
    by_test : (b : Bool) → (named rows name ≡ Some p → named (rows ++ more) name ≡ Some p) → cond b (Some r.1) (named rows name) ≡ Some p
        → cond b (Some r.1) (named (rows ++ more) name) ≡ Some p
    by_test true rest f = f
    by_test false rest f = rest f

named_append_finds : {A : Type 0} (rows : List (List ℕ × A)) (name x : List ℕ) (p : A) → named rows name ≡ None → bytes_eq name x ≡ true
    → named (rows ++ (x, p) ∷ []) name ≡ Some p
named_append_finds [] name x p e same = ap (λ b. cond b (Some p) None) same
named_append_finds (r ∷ rows) name x p e same = by_test (bytes_eq name r.0) (λ f. named_append_finds rows name x p f same) e
  where
    by_test : (b : Bool) → (named rows name ≡ None → named (rows ++ (x, p) ∷ []) name ≡ Some p) → cond b (Some r.1) (named rows name) ≡ None
        → cond b (Some r.1) (named (rows ++ (x, p) ∷ []) name) ≡ Some p
    by_test true rest f = absurd (cc f)
    by_test false rest f = rest f

none_if_not_some : {A : Type 0} (o : Option A) → not (is_some o) ≡ true → o ≡ None
none_if_not_some None e = refl
none_if_not_some (Some x) e = absurd (cc e)

here_ignores_labels : (s : Seen) (rows : List (List ℕ × Place)) → here (record s { labels = rows }) ≡ here s
here_ignores_labels s rows = λ i. record {
  section = s.section;
  address =
      segment_start s.section + size_in_equal s.section s (record s { labels = rows }) refl refl i;
}

-- what labels leave
record LabelsLeave (labels : List (List ℕ)) (s t : Seen) : Type 0 where
  section : t.section ≡ s.section
  code : t.code ≡ s.code
  filled : t.filled ≡ s.filled
  kept : (name : List ℕ) (p : Place) → named s.labels name ≡ Some p → named t.labels name ≡ Some p
  found : (name : List ℕ) → list_any (bytes_eq name) labels ≡ true → named t.labels name ≡ Some (here s)

passed_labels_are_found : (labels : List (List ℕ)) (s t : Seen) → with_labels labels s ≡ Ok t → LabelsLeave labels s t
passed_labels_are_found [] s t e = subst (LabelsLeave [] s) (ok_is_injective s t e)
    (record { section = refl; code = refl; filled = refl; kept = λ name p f. f; found = λ name f. absurd (cc f) })
passed_labels_are_found (x ∷ xs) s t e =
    let u = parts_of_ok_unless (not (is_some (named s.labels x))) LabelTwice _ t e in
    let r = passed_labels_are_found xs (record s { labels = s.labels ++ (x, here s) ∷ [] }) t u.1 in
    record {
      section = r.section;
      code = r.code;
      filled = r.filled;
      kept = λ name p f. r.kept name p (named_append_stays s.labels ((x, here s) ∷ []) name p f);
      found = λ name f. by_test name (bytes_eq name x) refl f
          (λ g. r.kept name (here s) (named_append_finds s.labels name x (here s)
          (ap (named s.labels) ((bytes_eq-Decides name x).0 g) ∙ none_if_not_some (named s.labels x) u.0) g))
          (λ g. r.found name g ∙ ap (λ (q : Place). Some q) (here_ignores_labels s (s.labels ++ (x, here s) ∷ [])));
    }
  where
    by_test : (name : List ℕ) (b : Bool) → bytes_eq name x ≡ b → (b || list_any (bytes_eq name) xs) ≡ true
        → (bytes_eq name x ≡ true → named t.labels name ≡ Some (here s))
        → (list_any (bytes_eq name) xs ≡ true → named t.labels name ≡ Some (here s)) → named t.labels name ≡ Some (here s)
    by_test name true g f same rest = same g
    by_test name false g f same rest = rest f

-- ---- lines

-- what a line leaves
record LineLeaves (line : List ℕ) (s t : Seen) : Type 0 where
  section : t.section ≡ section_after (placed_by_statement s.section line) s.section
  sizes : (w : Section) → segment_size_in w t ≡ segment_size_in w s + (if same_section w s.section then statement_size (placed_by_statement s.section line) else 0)
  kept : (name : List ℕ) (p : Place) → named s.labels name ≡ Some p → named t.labels name ≡ Some p
  found : (name : List ℕ) → list_any (bytes_eq name) (source_line line).labels ≡ true → named t.labels name ≡ Some (here s)

line_adds_size : (n : ℕ) (line : List ℕ) (s t : Seen) → with_line n (source_line line) s ≡ Ok t → LineLeaves line s t
line_adds_size n line s t e =
    let b = parts_of_ok_unless (list_all is_source_byte line) BadByte _ t e in
    let c = parts_of_ok_unless (list_all is_source_name (source_line line).labels) BadLabel _ t b.1 in
    let p = parts_of_ok_bind (with_labels (source_line line).labels s) _ t c.1 in
    let l = passed_labels_are_found (source_line line).labels s p.0 p.1 in
    let i = statement_adds_size n (source_line line).statement p.0 t p.2 in
    let j : StatementLeaves s.section (placed_by_statement s.section line) p.0 t = subst (λ w. StatementLeaves w (placed_by_statement w line) p.0 t) l.section i in
    record {
      section = j.goes_on ∙ ap (section_after (placed_by_statement s.section line)) l.section;
      sizes = λ w. j.sizes w ∙ ap (λ k. k + (if same_section w s.section then statement_size (placed_by_statement s.section line) else 0))
          (size_in_equal w s p.0 l.code l.filled);
      kept = λ name q f. ap (λ rows. named rows name) j.labels ∙ l.kept name q f;
      found = λ name f. ap (λ rows. named rows name) j.labels ∙ l.found name f;
    }

-- what lines leave
record LinesLeave (lines : List (List ℕ)) (s t : Seen) : Type 0 where
  section : t.section ≡ section_at_end s.section lines
  sizes : (w : Section) → segment_size_in w t ≡ segment_size_in w s + bytes_placed w s.section lines
  kept : (name : List ℕ) (p : Place) → named s.labels name ≡ Some p → named t.labels name ≡ Some p

lines_add_sizes : (n : ℕ) (lines : List (List ℕ)) (s t : Seen) → first_pass n lines s ≡ Ok t → LinesLeave lines s t
lines_add_sizes n [] s t e = subst (LinesLeave [] s) (ok_is_injective s t e) (record { section = refl; sizes = λ w. omega arith; kept = λ name p f. f })
lines_add_sizes n (x ∷ xs) s t e =
    let f = parts_of_ok_bind (at_line n (with_line n (source_line x) s)) _ t e in
    let l = line_adds_size n x s f.0 (ok_if_at_line_is_ok n _ f.0 f.1) in
    let r = lines_add_sizes (n + 1) xs f.0 t f.2 in
    record {
      section = r.section ∙ ap (λ w. section_at_end w xs) l.section;
      sizes = λ w. (let here_is = l.sizes w in
          let rest_is : segment_size_in w t ≡ segment_size_in w f.0 + bytes_placed w (section_after (placed_by_statement s.section x) s.section) xs = r.sizes w
          ∙ ap (λ v. segment_size_in w f.0 + bytes_placed w v xs) l.section in omega (arith, here_is, rest_is));
      kept = λ name p g. r.kept name p (l.kept name p g);
    }

first_pass_splits : (n : ℕ) (xs ys : List (List ℕ)) (s u : Seen) → first_pass n (xs ++ ys) s ≡ Ok u → (t : Seen) × (first_pass n xs s ≡ Ok t)
    × (first_pass (n + length xs) ys t ≡ Ok u)
first_pass_splits n [] ys s u e =
    let same : n + 0 ≡ n = omega arith in
    (s, refl, rw same e)
first_pass_splits n (x ∷ xs) ys s u e =
    let f = parts_of_ok_bind (at_line n (with_line n (source_line x) s)) _ u e in
    let r = first_pass_splits (n + 1) xs ys f.0 u f.2 in
    let same : n + length (x ∷ xs) ≡ n + 1 + length xs = omega arith in
    (r.0, ap (λ q. q >>= λ v. first_pass (n + 1) xs v) f.1 ∙ r.1, rw same r.2)

size_in_nothing_seen : (w : Section) → segment_size_in w nothing_seen ≡ 0
size_in_nothing_seen Text = refl
size_in_nothing_seen Data = refl

here_is_place_after : (lines : List (List ℕ)) (t : Seen) → LinesLeave lines nothing_seen t → here t ≡ place_after_statement Text lines
here_is_place_after lines t p =
    let w : Section = section_at_end Text lines in
    let size : segment_size_in w t ≡ bytes_placed w Text lines = (let n = size_in_nothing_seen w in let s = p.sizes w in omega (arith, n, s)) in
    (λ i. record { section = p.section i; address = segment_start (p.section i) + segment_size_in (p.section i) t })
    ∙ (λ i. record { section = w; address = segment_start w + size i })

-- a label comes after what was placed before it
pub label_value_is_place : (xs ys : List (List ℕ)) (line name : List ℕ) (s : Seen) → first_pass 1 (xs ++ line ∷ ys) nothing_seen ≡ Ok s
    → list_any (bytes_eq name) (source_line line).labels ≡ true → named s.labels name ≡ Some (place_after_statement Text xs)
label_value_is_place xs ys line name s e h =
    let c = first_pass_splits 1 xs (line ∷ ys) nothing_seen s e in
    let f = parts_of_ok_bind (at_line (1 + length xs) (with_line (1 + length xs) (source_line line) c.0)) _ s c.2 in
    let l = line_adds_size (1 + length xs) line c.0 f.0 (ok_if_at_line_is_ok _ _ f.0 f.1) in
    let r = lines_add_sizes _ ys f.0 s f.2 in
    r.kept name (here c.0) (l.found name h) ∙ ap (λ (p : Place). Some p) (here_is_place_after xs c.0 (lines_add_sizes 1 xs nothing_seen c.0 c.1))
