-- What the first pass keeps.
use Rattle.std.proofs.Common.{is_some, not, ◌≡◌, ◌+◌, ◌*◌, ◌%◌, ◌^◌, ◌≤◌, ◌<◌, ℕ, zero, suc, ℤ, pos, negsuc, Bool, true, false, true≢false}
use Rattle.std.proofs.Common.{cond, List, [], ◌∷◌, ◌++◌, length, refl, sym, ap, subst, ◌∙◌, arith, Ok, ◌&&◌, Option, Some}
use Rattle.std.specs.Prelude.{nat_le, nat_lt, slice_index, ◌==◌, flat_map}
use Rattle.std.specs.List.{AllByRecursion, sum_by, list_all}
use Rattle.std.proofs.lemmas.Bool.{ltb-true, leb-true, eqb-false}
use Rattle.std.proofs.lemmas.List.{length-append, length-replicate}
use Rattle.std.proofs.lemmas.List.Sums.{sum_by-append}
use Rattle.ir_lemmas.proofs.CallerLemmas.{all_of_push, left_of_true_and, right_of_true_and, ok_is_injective}
use Rattle.byteorder.specs.Endian.{little_bytes}
use Rattle.ir_image.specs.declared.form.ImageForm.{ImageForm}
use Rattle.ir_image.specs.declared.form.ImageForm.TheVariants.{Large}
use Rattle.ir_image.specs.Guest.{limits_of, Guest, code_start, memory_size, most_code_words, object_words, object_count}
use Rattle.ir_image.specs.Bounds.{IsWord, IsByte, IsGuest, IsPlace}
use Rattle.ir_image.proofs.CallerLemmas.{form_words_within, thread_limit_positive, form_threads_within, form_objects_within, words_div_is_objects, whole_words_divide}
use Rattle.ir_asm.specs.declared.cause.Cause.TheVariants.{UnknownStatement, WrongSection, WrongOperands, BadNumber, BadSize, BadCount, BadByte, BadLabel, LabelTwice}
use Rattle.ir_asm.specs.declared.form.Section.{Section}
use Rattle.ir_asm.specs.declared.form.Section.TheVariants.{Text, Data}
use Rattle.ir_asm.specs.declared.form.Form.{Form}
use Rattle.ir_asm.specs.declared.form.Form.TheVariants.{Registers, Immediates, Shifts, Loads, JumpsTo, Stores, Branches, Jumps, LoadsUpper}
use Rattle.ir_asm.specs.declared.form.Form.TheVariants.{AddsUpper, Fences, Calls, Breaks, DoesNothing, LoadsValue, Enlarges, Sections}
use Rattle.ir_asm.specs.declared.form.Form.TheVariants.{Bytes, Space, Thread, Objects, Object}
use Rattle.ir_asm.specs.declared.form.Kind.TheVariants.{Number}
use Rattle.ir_asm.specs.declared.item.Operand.{Operand}
use Rattle.ir_asm.specs.declared.item.Operand.TheVariants.{Index, Integer, Offset, Symbol}
use Rattle.ir_asm.specs.declared.item.Item.{Item}
use Rattle.ir_asm.specs.declared.item.Item.TheVariants.{Code, BranchTo, JumpTo, LoadAddress, Filled, Enlarged, Within, Entry, Count, First, Nothing}
use Rattle.ir_asm.specs.declared.item.Placed.{Placed}
use Rattle.ir_isa.specs.Fields.{low_bits}
use Rattle.ir_asm.specs.Faults.{◌>>=◌, or_cause}
use Rattle.ir_asm.specs.Forms.{form_named, stated, in_image, may_come, stands_in, takes, kind_at}
use Rattle.ir_asm.specs.Operands.{int_le, operand_number, read, read_all, are_formed, operands_of}
use Rattle.ir_asm.specs.Text.{source_number, is_source_name}
use Rattle.ir_asm.specs.Names.{named}
use Rattle.ir_asm.specs.Items.{values, source_item}
use Rattle.ir_asm.specs.Source.{Seen, nothing_seen, statement_size, here, segment_start, segment_size_in, is_source_byte, at_line}
use Rattle.ir_asm.specs.Source.{grown_segment, laid_out, placed_at_label, entered_line, with_labels, with_statement, with_line, source_line}
use Rattle.ir_asm.specs.Source.{first_pass, may_stand, item_in, begun_line, name_of, operand_texts}
use Rattle.ir_asm.specs.Passes.{put_word_in, second_pass, started, with_entry_line, assembled_guest}
use Rattle.ir_asm.specs.Bounds.{HasFewWords, HaveFewWords, HasLimits}
use Rattle.ir_asm.proofs.Steps.{ok_if_at_line_is_ok, parts_of_ok_bind, parts_of_ok_unless, ok_unless_parts}
use Rattle.ir_asm.proofs.Kept.{code_size, data_size, entry_count, LabelsFit, IsTextPlace, put_adds_item}

-- ---- what a statement of a section may be

-- an item that a section may have: text has code, data has bytes, and counts are within the limits of the image's form
abbrev pub MayStand : ImageForm → Section → Item → Type 0
MayStand image Text (Filled bytes) = ⊥
MayStand image Data (BranchTo op rs1 rs2 label) = ⊥
MayStand image Data (JumpTo rd label) = ⊥
MayStand image Data (LoadAddress rd label) = ⊥
MayStand image section (Count n) = n ≤ (limits_of image).objects
MayStand image section (First object words) = length words ≤ (limits_of image).words
MayStand image section item = Unit {0}

-- as many operands as texts
pub length-read_all : (form : Form) (place : ℕ) (texts : List (List ℕ)) (xs : List Operand) → read_all form place texts ≡ Ok xs
    → length xs ≡ length texts
length-read_all form place [] xs e = ap length (sym (ok_is_injective [] xs e))
length-read_all form place (t ∷ texts) xs e =
    let b = parts_of_ok_bind (read (kind_at form place) t) _ xs e in
    let d = parts_of_ok_bind (read_all form (place + 1) texts) _ xs b.2 in
    ap length (sym (ok_is_injective _ xs d.2)) ∙ ap suc (length-read_all form (place + 1) texts d.0 d.1)

length-values_le : (bits : ℕ) (xs : List Operand) → length (values bits xs) ≤ length xs
length-values_le bits [] = omega arith
length-values_le bits (Integer z ∷ xs) = omega (arith, length-values_le bits xs)
length-values_le bits (Index r ∷ xs) = omega (arith, length-values_le bits xs)
length-values_le bits (Offset z r ∷ xs) = omega (arith, length-values_le bits xs)
length-values_le bits (Symbol label ∷ xs) = omega (arith, length-values_le bits xs)

-- an object has no more first words than words
object_words_within : (image : ImageForm) (texts : List (List ℕ)) (z : ℤ) (xs : List Operand) → operands_of (Object image) texts ≡ Ok (Integer z ∷ xs)
    → length (values 32 xs) ≤ (limits_of image).words
object_words_within image texts z xs e =
    let u = parts_of_ok_unless (takes (Object image) (length texts) && are_formed (Object image) 0 texts) WrongOperands
    (read_all (Object image) 0 texts) _ e in
    let most : length texts ≤ 1 + (limits_of image).words = leb-true (length texts) (1 + (limits_of image).words)
    (right_of_true_and (nat_le 2 (length texts)) _ (left_of_true_and (takes (Object image) (length texts)) _ u.0)) in
    let count : suc (length xs) ≡ length texts = length-read_all (Object image) 0 texts (Integer z ∷ xs) u.1 in
    omega (arith, most, count, length-values_le 32 xs)

-- a number within limits
low_bits_within_bound : (high : ℕ) (text : List ℕ) (z : ℤ) → operand_number (pos 0) (pos high) text ≡ Ok z → high < 2 ^ 32 → low_bits 32 z ≤ high
low_bits_within_bound high text z e small =
    let b = parts_of_ok_bind (or_cause BadNumber (source_number text)) _ z e in
    let t = ok_unless_parts (int_le (pos 0) b.0 && int_le b.0 (pos high)) BadNumber b.0 z b.2 in
    subst (λ y. low_bits 32 y ≤ high) t.1 (by_sign b.0 (left_of_true_and _ _ t.0) (right_of_true_and (int_le (pos 0) b.0) _ t.0) small)
  where
    by_sign : (y : ℤ) → int_le (pos 0) y ≡ true → int_le y (pos high) ≡ true → high < 2 ^ 32 → low_bits 32 y ≤ high
    by_sign (pos n) l h k = let m : n ≤ high = leb-true n high h in omega (arith, m)
    by_sign (negsuc n) l h k = absurd (cc l)

-- the whole number that comes first
abbrev first_number : List Operand → ℤ
first_number [] = pos 0
first_number (Integer z ∷ xs) = z
first_number (x ∷ xs) = pos 0

-- a number of objects is within its limit
object_count_within : (image : ImageForm) (texts : List (List ℕ)) (z : ℤ) → operands_of (Objects image) texts ≡ Ok (Integer z ∷ [])
    → low_bits 32 z ≤ (limits_of image).objects
object_count_within image [] z e = absurd (cc e)
object_count_within image (t ∷ texts) z e =
    let most : ℕ = (limits_of image).objects in
    let u = parts_of_ok_unless (takes (Objects image) (length (t ∷ texts)) && are_formed (Objects image) 0 (t ∷ texts)) WrongOperands
    (read_all (Objects image) 0 (t ∷ texts)) _ e in
    let b = parts_of_ok_bind (read (Number (pos 0) (pos most)) t) _ _ u.1 in
    let d = parts_of_ok_bind (read_all (Objects image) 1 texts) _ _ b.2 in
    let n = parts_of_ok_bind (operand_number (pos 0) (pos most) t) _ _ b.1 in
    let same : n.0 ≡ z = ap (λ x. first_number (x ∷ d.0)) (ok_is_injective _ _ n.2) ∙ ap first_number (ok_is_injective _ _ d.2) in
    let small : most < 2 ^ 32 = let all = form_objects_within image in omega (arith, all) in
    subst (λ y. low_bits 32 y ≤ most) same (low_bits_within_bound most t n.0 n.1 small)

item_of_form_may_stand : (image : ImageForm) (section : Section) (form : Form) (texts : List (List ℕ)) (xs : List Operand)
    → may_stand (stands_in form) section ≡ true → operands_of (in_image image form) texts ≡ Ok xs
    → MayStand image section (source_item (in_image image form) xs)
item_of_form_may_stand image Text Bytes texts xs m e = absurd (cc m)
item_of_form_may_stand image Text Space texts xs m e = absurd (cc m)
item_of_form_may_stand image Data (Registers op) texts xs m e = absurd (cc m)
item_of_form_may_stand image Data (Immediates op) texts xs m e = absurd (cc m)
item_of_form_may_stand image Data (Shifts op) texts xs m e = absurd (cc m)
item_of_form_may_stand image Data (Loads op) texts xs m e = absurd (cc m)
item_of_form_may_stand image Data JumpsTo texts xs m e = absurd (cc m)
item_of_form_may_stand image Data (Stores op) texts xs m e = absurd (cc m)
item_of_form_may_stand image Data (Branches op) texts xs m e = absurd (cc m)
item_of_form_may_stand image Data Jumps texts xs m e = absurd (cc m)
item_of_form_may_stand image Data LoadsUpper texts xs m e = absurd (cc m)
item_of_form_may_stand image Data AddsUpper texts xs m e = absurd (cc m)
item_of_form_may_stand image Data Fences texts xs m e = absurd (cc m)
item_of_form_may_stand image Data Calls texts xs m e = absurd (cc m)
item_of_form_may_stand image Data Breaks texts xs m e = absurd (cc m)
item_of_form_may_stand image Data DoesNothing texts xs m e = absurd (cc m)
item_of_form_may_stand image Data LoadsValue texts xs m e = absurd (cc m)
item_of_form_may_stand image section (Objects other) texts (Integer z ∷ []) m e = object_count_within image texts z e
item_of_form_may_stand image section (Object other) texts (Integer z ∷ xs) m e = object_words_within image texts z xs e
item_of_form_may_stand image Text (Registers op) texts (Index rd ∷ Index rs1 ∷ Index rs2 ∷ []) m e = tt
item_of_form_may_stand image Text (Immediates op) texts (Index rd ∷ Index rs1 ∷ Integer imm ∷ []) m e = tt
item_of_form_may_stand image Text (Shifts op) texts (Index rd ∷ Index rs1 ∷ Integer n ∷ []) m e = tt
item_of_form_may_stand image Text (Loads op) texts (Index rd ∷ Offset imm rs1 ∷ []) m e = tt
item_of_form_may_stand image Text JumpsTo texts (Index rd ∷ Offset imm rs1 ∷ []) m e = tt
item_of_form_may_stand image Text (Stores op) texts (Index rs2 ∷ Offset imm rs1 ∷ []) m e = tt
item_of_form_may_stand image Text (Branches op) texts (Index rs1 ∷ Index rs2 ∷ Integer z ∷ []) m e = tt
item_of_form_may_stand image Text (Branches op) texts (Index rs1 ∷ Index rs2 ∷ Symbol label ∷ []) m e = tt
item_of_form_may_stand image Text Jumps texts (Index rd ∷ Integer z ∷ []) m e = tt
item_of_form_may_stand image Text Jumps texts (Index rd ∷ Symbol label ∷ []) m e = tt
item_of_form_may_stand image Text LoadsUpper texts (Index rd ∷ Integer z ∷ []) m e = tt
item_of_form_may_stand image Text AddsUpper texts (Index rd ∷ Integer z ∷ []) m e = tt
item_of_form_may_stand image Text Fences texts [] m e = tt
item_of_form_may_stand image Text Fences texts (Index rd ∷ Index rs1 ∷ Integer z ∷ []) m e = tt
item_of_form_may_stand image Text Calls texts [] m e = tt
item_of_form_may_stand image Text Breaks texts [] m e = tt
item_of_form_may_stand image Text DoesNothing texts [] m e = tt
item_of_form_may_stand image Text LoadsValue texts (Index rd ∷ Integer z ∷ []) m e = tt
item_of_form_may_stand image Text LoadsValue texts (Index rd ∷ Symbol label ∷ []) m e = tt
item_of_form_may_stand image section Enlarges texts [] m e = tt
item_of_form_may_stand image section (Sections other) texts [] m e = tt
item_of_form_may_stand image Data Space texts (Integer z ∷ []) m e = tt
item_of_form_may_stand image section Thread texts (Symbol label ∷ []) m e = tt
item_of_form_may_stand image section form texts xs m e = tt

-- what a statement places is an item that its section may have
pub statement_may_stand : (before : Option ImageForm) (section : Section) (statement : List ℕ) (item : Item)
    → item_in before section statement ≡ Ok item → MayStand (stated before) section item
statement_may_stand before section statement item e =
    let f = parts_of_ok_bind (or_cause UnknownStatement (form_named (name_of statement))) _ item e in
    let c = parts_of_ok_unless (may_come before f.0) WrongSection _ item f.2 in
    let u = parts_of_ok_unless (may_stand (stands_in f.0) section) WrongSection _ item c.1 in
    let o = parts_of_ok_bind (operands_of (in_image (stated before) f.0) (operand_texts statement)) _ item u.1 in
    subst (MayStand (stated before) section) (ok_is_injective _ item o.2)
    (item_of_form_may_stand (stated before) section f.0 (operand_texts statement) o.0 u.0 o.1)

-- ---- the whole guest

-- within its limits, and all of it fits
pub limits_make_guest : (g : Guest) → HasLimits g → AllByRecursion IsWord g.code → AllByRecursion IsByte g.bytes → AllByRecursion IsWord g.words
    → IsGuest g
limits_make_guest g l code bytes words = record {
  some_thread = l.some_thread;
  few_threads = l.few_threads;
  short_code = l.short_code;
  short_data = l.short_data;
  whole_objects = l.whole_objects;
  few_objects = l.few_objects;
  entries_fit = l.entries_fit;
  code_fits = code;
  bytes_fit = bytes;
  words_fit = words;
}

-- ---- what was seen

-- the bytes of code, the bytes of data and the entries of what is placed
abbrev pub total : (Item → ℕ) → List Placed → ℕ
total size placed = sum_by (λ x. size x.item) placed

-- what was seen agrees with what is placed, and is within the limits
pub record IsSound (s : Seen) : Type 0 where
  pub code : total code_size s.placed ≡ s.code
  pub bytes : total data_size s.placed ≡ s.filled
  pub entries : total entry_count s.placed ≡ s.threads
  pub aligned : s.code % 4 ≡ 0
  pub short_code : s.code ≤ 4 * most_code_words
  pub short_data : s.filled ≤ memory_size
  pub few_threads : s.threads ≤ (limits_of (stated s.form)).threads
  pub few_objects : s.objects ≤ (limits_of (stated s.form)).objects
  pub labels : LabelsFit s.labels
  pub few : HaveFewWords (stated s.form) s.placed

pub nothing_seen_is_sound : IsSound nothing_seen
nothing_seen_is_sound = record {
  code = refl;
  bytes = refl;
  entries = refl;
  aligned = refl;
  short_code = omega arith;
  short_data =
      omega arith;
  few_threads = omega arith;
  few_objects = omega arith;
  labels = tt;
  few = tt;
}

total_after_push : (size : Item → ℕ) (placed : List Placed) (x : Placed) → total size (placed ++ x ∷ []) ≡ total size placed + size x.item
total_after_push size placed x = sum_by-append (λ y. size y.item) placed (x ∷ []) ∙ omega arith

-- one item more
sound_after_item : (s : Seen) (line a c d n : ℕ) (item : Item) → IsSound s → HasFewWords (stated s.form) item → code_size item % 4 ≡ 0
    → c ≡ s.code + code_size item → d ≡ s.filled + data_size item → n ≡ s.threads + entry_count item → c ≤ 4 * most_code_words
    → d ≤ memory_size → n ≤ (limits_of (stated s.form)).threads
    → IsSound (placed_at_label line a item (record s { code = c; filled = d; threads = n }))
sound_after_item s line a c d n item h few whole is_code is_data is_entry short_code short_data few_threads =
    let x : Placed = record { line = line; address = a; item = item } in
    record {
      code = omega (arith, total_after_push code_size s.placed x, h.code, is_code);
      bytes = omega (arith, total_after_push data_size s.placed x, h.bytes, is_data);
      entries = omega (arith, total_after_push entry_count s.placed x, h.entries, is_entry);
      aligned = omega (arith, h.aligned, whole, is_code);
      short_code = short_code;
      short_data = short_data;
      few_threads = few_threads;
      few_objects = h.few_objects;
      labels = h.labels;
      few = all_of_push (λ y. HasFewWords (stated s.form) y.item) s.placed x h.few few;
    }

-- nothing more
sound_after_section : (s : Seen) (section : Section) (c d o : ℕ) → IsSound s → c ≡ s.code → d ≡ s.filled → o ≤ (limits_of (stated s.form)).objects
    → IsSound (record s { section = section; code = c; filled = d; objects = o })
sound_after_section s section c d o h is_code is_data few = record {
  code = h.code ∙ sym is_code;
  bytes = h.bytes ∙ sym is_data;
  entries = h.entries;
  aligned = omega (arith, h.aligned, is_code);
  short_code = omega (arith, h.short_code, is_code);
  short_data = omega (arith, h.short_data, is_data);
  few_threads = h.few_threads;
  few_objects = few;
  labels = h.labels;
  few = h.few;
}

-- once there is a statement
sound_once_begun : (s : Seen) → IsSound s → IsSound (begun_line s)
sound_once_begun s h = record {
  code = h.code;
  bytes = h.bytes;
  entries = h.entries;
  aligned = h.aligned;
  short_code = h.short_code;
  short_data = h.short_data;
  few_threads = h.few_threads;
  few_objects = h.few_objects;
  labels = h.labels;
  few = h.few;
}

-- what is few in any form is few in a large one
few_words_in_large : (image : ImageForm) (item : Item) → HasFewWords image item → HasFewWords Large item
few_words_in_large image (First object words) h = let most = form_words_within image in omega (arith, most, h)
few_words_in_large image item h = tt

all_few_words_in_large : (image : ImageForm) (xs : List Placed) → HaveFewWords image xs → HaveFewWords Large xs
all_few_words_in_large image [] h = tt
all_few_words_in_large image (x ∷ xs) h = (few_words_in_large image x.item h.0, all_few_words_in_large image xs h.1)

-- a large image
sound_after_large : (s : Seen) (c d : ℕ) → IsSound s → c ≡ s.code → d ≡ s.filled
    → IsSound (record s { form = Some Large; code = c; filled = d })
sound_after_large s c d h is_code is_data = record {
  code = h.code ∙ sym is_code;
  bytes = h.bytes ∙ sym is_data;
  entries = h.entries;
  aligned = omega (arith, h.aligned, is_code);
  short_code = omega (arith, h.short_code, is_code);
  short_data = omega (arith, h.short_data, is_data);
  few_threads = let most = form_threads_within (stated s.form) in let few = h.few_threads in omega (arith, most, few);
  few_objects = let most = form_objects_within (stated s.form) in let few = h.few_objects in omega (arith, most, few);
  labels = h.labels;
  few = all_few_words_in_large (stated s.form) s.placed h.few;
}

-- an item of text
sound_after_text_item : (s t : Seen) (line a : ℕ) (item : Item) → IsSound s → MayStand (stated s.form) Text item → s.code + statement_size item ≤ 4 * most_code_words
    → entered_line line a (laid_out Text item) (record s { code = s.code + statement_size item }) ≡ Ok t → IsSound t
sound_after_text_item s t line a (Code words) h m l e = subst IsSound (ok_is_injective _ t e)
    (sound_after_item s line a (s.code + 4 * length words) s.filled s.threads (Code words) h tt (omega arith) refl (omega arith) (omega arith) l
    h.short_data h.few_threads)
sound_after_text_item s t line a (BranchTo op rs1 rs2 label) h m l e =
    subst IsSound (ok_is_injective _ t e) (sound_after_item s line a (s.code + 4) s.filled s.threads (BranchTo op rs1 rs2 label) h tt
    refl refl (omega arith) (omega arith) l h.short_data h.few_threads)
sound_after_text_item s t line a (JumpTo rd label) h m l e =
    subst IsSound (ok_is_injective _ t e) (sound_after_item s line a (s.code + 4) s.filled s.threads (JumpTo rd label) h tt refl refl (omega arith)
    (omega arith) l h.short_data h.few_threads)
sound_after_text_item s t line a (LoadAddress rd label) h m l e =
    subst IsSound (ok_is_injective _ t e) (sound_after_item s line a (s.code + 8) s.filled s.threads (LoadAddress rd label) h tt refl refl (omega arith)
    (omega arith) l h.short_data h.few_threads)
sound_after_text_item s t line a (Filled bytes) h m l e = absurd m
sound_after_text_item s t line a Enlarged h m l e = subst IsSound (ok_is_injective _ t e) (sound_after_large s (s.code + 0) s.filled h (omega arith) refl)
sound_after_text_item s t line a (Within section) h m l e =
    subst IsSound (ok_is_injective _ t e) (sound_after_section s section (s.code + 0) s.filled s.objects h (omega arith) refl h.few_objects)
sound_after_text_item s t line a (Entry label) h m l e =
    let u = ok_unless_parts (nat_lt s.threads (limits_of (stated s.form)).threads) BadCount _ t e in
    let below : s.threads < (limits_of (stated s.form)).threads = ltb-true s.threads (limits_of (stated s.form)).threads u.0 in
    subst IsSound u.1 (sound_after_item s line a (s.code + 0) s.filled (s.threads + 1) (Entry label) h tt refl refl (omega arith) refl l
    h.short_data (omega (arith, below)))
sound_after_text_item s t line a (Count n) h m l e = subst IsSound (ok_is_injective _ t e)
    (sound_after_section s s.section (s.code + 0) s.filled n h (omega arith) refl m)
sound_after_text_item s t line a (First object words) h m l e =
    subst IsSound (ok_is_injective _ t e) (sound_after_item s line a (s.code + 0) s.filled s.threads (First object words) h m refl refl (omega arith)
    (omega arith) l h.short_data h.few_threads)
sound_after_text_item s t line a Nothing h m l e = subst IsSound (ok_is_injective _ t e)
    (sound_after_section s s.section (s.code + 0) s.filled s.objects h (omega arith) refl h.few_objects)

length-flat_little_bytes : (words : List ℕ) → length (flat_map (little_bytes 4) words) ≡ 4 * length words
length-flat_little_bytes [] = refl
length-flat_little_bytes (w ∷ words) = omega (arith, length-append (little_bytes 4 w) (flat_map (little_bytes 4) words), length-flat_little_bytes words)

-- an item of data
sound_after_data_item : (s t : Seen) (line a : ℕ) (item : Item) → IsSound s → MayStand (stated s.form) Data item → s.filled + statement_size item ≤ memory_size
    → entered_line line a (laid_out Data item) (record s { filled = s.filled + statement_size item }) ≡ Ok t → IsSound t
sound_after_data_item s t line a (Code words) h m l e = subst IsSound (ok_is_injective _ t e)
    (sound_after_item s line a s.code (s.filled + 4 * length words) s.threads (Filled (flat_map (little_bytes 4) words)) h tt refl (omega arith)
    (omega (arith, length-flat_little_bytes words)) (omega arith) h.short_code l h.few_threads)
sound_after_data_item s t line a (BranchTo op rs1 rs2 label) h m l e = absurd m
sound_after_data_item s t line a (JumpTo rd label) h m l e = absurd m
sound_after_data_item s t line a (LoadAddress rd label) h m l e = absurd m
sound_after_data_item s t line a (Filled bytes) h m l e = subst IsSound (ok_is_injective _ t e)
    (sound_after_item s line a s.code (s.filled + length bytes) s.threads (Filled bytes) h tt refl (omega arith) refl (omega arith) h.short_code l
    h.few_threads)
sound_after_data_item s t line a Enlarged h m l e = subst IsSound (ok_is_injective _ t e) (sound_after_large s s.code (s.filled + 0) h refl (omega arith))
sound_after_data_item s t line a (Within section) h m l e =
    subst IsSound (ok_is_injective _ t e) (sound_after_section s section s.code (s.filled + 0) s.objects h refl (omega arith) h.few_objects)
sound_after_data_item s t line a (Entry label) h m l e =
    let u = ok_unless_parts (nat_lt s.threads (limits_of (stated s.form)).threads) BadCount _ t e in
    let below : s.threads < (limits_of (stated s.form)).threads = ltb-true s.threads (limits_of (stated s.form)).threads u.0 in
    subst IsSound u.1 (sound_after_item s line a s.code (s.filled + 0) (s.threads + 1) (Entry label) h tt refl (omega arith)
    refl refl h.short_code l (omega (arith, below)))
sound_after_data_item s t line a (Count n) h m l e = subst IsSound (ok_is_injective _ t e)
    (sound_after_section s s.section s.code (s.filled + 0) n h refl (omega arith) m)
sound_after_data_item s t line a (First object words) h m l e =
    subst IsSound (ok_is_injective _ t e) (sound_after_item s line a s.code (s.filled + 0) s.threads (First object words) h m refl (omega arith)
    refl (omega arith) h.short_code l h.few_threads)
sound_after_data_item s t line a Nothing h m l e = subst IsSound (ok_is_injective _ t e)
    (sound_after_section s s.section s.code (s.filled + 0) s.objects h refl (omega arith) h.few_objects)

-- an item of a section
sound_after_section_item : (section : Section) (s t : Seen) (line a : ℕ) (item : Item) → IsSound s → MayStand (stated s.form) section item
    → (grown_segment section (statement_size item) s >>= λ u. entered_line line a (laid_out section item) u) ≡ Ok t → IsSound t
sound_after_section_item Text s t line a item h m e =
    let b = parts_of_ok_bind (grown_segment Text (statement_size item) s) _ t e in
    let u = ok_unless_parts (nat_le (s.code + statement_size item) (4 * most_code_words)) BadSize _ b.0 b.1 in
    sound_after_text_item s t line a item h m (leb-true _ (4 * most_code_words) u.0)
    (subst (λ v. entered_line line a (laid_out Text item) v ≡ Ok t) (sym u.1) b.2)
sound_after_section_item Data s t line a item h m e =
    let b = parts_of_ok_bind (grown_segment Data (statement_size item) s) _ t e in
    let u = ok_unless_parts (nat_le (s.filled + statement_size item) memory_size) BadSize _ b.0 b.1 in
    sound_after_data_item s t line a item h m (leb-true _ memory_size u.0) (subst (λ v. entered_line line a (laid_out Data item) v ≡ Ok t) (sym u.1) b.2)

-- a statement
sound_after_statement : (line : ℕ) (statement : List ℕ) (s t : Seen) → IsSound s → with_statement line statement s ≡ Ok t → IsSound t
sound_after_statement line [] s t h e = subst IsSound (ok_is_injective s t e) h
sound_after_statement line (b ∷ bs) s t h e =
    let i = parts_of_ok_bind (item_in s.form s.section (b ∷ bs)) _ t e in
    sound_after_section_item s.section (begun_line s) t line (here (begun_line s)).address i.0 (sound_once_begun s h) (statement_may_stand s.form s.section (b ∷ bs) i.0 i.1)
    i.2

here_is_text_place : (s : Seen) → IsSound s → IsTextPlace (here s).section (here s).address
here_is_text_place s h = by_section s.section
  where
    by_section : (section : Section) → IsTextPlace section (segment_start section + segment_size_in section s)
    by_section Text = (omega (arith, h.aligned), omega arith)
    by_section Data = tt

sound_after_label : (s : Seen) (x : List ℕ) → IsSound s → IsSound (record s { labels = s.labels ++ (x, here s) ∷ [] })
sound_after_label s x h = record {
  code = h.code;
  bytes = h.bytes;
  entries = h.entries;
  aligned = h.aligned;
  short_code = h.short_code;
  short_data = h.short_data;
  few_threads = h.few_threads;
  few_objects = h.few_objects;
  labels = all_of_push (λ l. IsTextPlace l.1.section l.1.address) s.labels (x, here s) h.labels (here_is_text_place s h);
  few = h.few;
}

-- labels
sound_after_labels : (labels : List (List ℕ)) (s t : Seen) → IsSound s → with_labels labels s ≡ Ok t → IsSound t
sound_after_labels [] s t h e = subst IsSound (ok_is_injective s t e) h
sound_after_labels (x ∷ xs) s t h e =
    let u = parts_of_ok_unless (not (is_some (named s.labels x))) LabelTwice _ t e in
    sound_after_labels xs (record s { labels = s.labels ++ (x, here s) ∷ [] }) t (sound_after_label s x h) u.1

-- lines
sound_after_lines : (source_number : ℕ) (lines : List (List ℕ)) (s t : Seen) → IsSound s → first_pass source_number lines s ≡ Ok t → IsSound t
sound_after_lines source_number [] s t h e = subst IsSound (ok_is_injective s t e) h
sound_after_lines source_number (x ∷ xs) s t h e =
    let f = parts_of_ok_bind (at_line source_number (with_line source_number (source_line x) s)) _ t e in
    let l = ok_if_at_line_is_ok source_number (with_line source_number (source_line x) s) f.0 f.1 in
    let b = parts_of_ok_unless (list_all is_source_byte x) BadByte _ f.0 l in
    let n = parts_of_ok_unless (list_all is_source_name (source_line x).labels) BadLabel _ f.0 b.1 in
    let p = parts_of_ok_bind (with_labels (source_line x).labels s) _ f.0 n.1 in
    sound_after_lines (source_number + 1) xs f.0 t (sound_after_statement source_number (source_line x).statement p.0 f.0 (sound_after_labels (source_line x).labels s p.0 h p.1)
    p.2) f.2

-- what the first pass saw
pub first_pass_is_sound : (lines : List (List ℕ)) (s t : Seen) → s ≡ nothing_seen → first_pass 1 lines s ≡ Ok t → IsSound t
first_pass_is_sound lines s t e f = sound_after_lines 1 lines s t (subst IsSound (sym e) nothing_seen_is_sound) f

-- ---- what is put

-- what is placed, added to a guest
record Puts (s : Seen) (xs : List Placed) (g h : Guest) : Type 0 where
  form : h.form ≡ g.form
  code : 4 * length h.code ≡ 4 * length g.code + total code_size xs
  bytes : length h.bytes ≡ length g.bytes + total data_size xs
  entries : length h.entries ≡ length g.entries + total entry_count xs
  words : length h.words ≡ length g.words
  fit : (n : ℕ) → 4 * n ≡ s.code → AllByRecursion (IsPlace n) g.entries → AllByRecursion (IsPlace n) h.entries

total_of_cons : (size : Item → ℕ) (x : Placed) (xs : List Placed) → total size (x ∷ xs) ≡ size x.item + total size xs
total_of_cons size x xs = sum_by-append (λ y. size y.item) (x ∷ []) xs ∙ omega arith

second_pass_puts_all : (s : Seen) (xs : List Placed) (g h : Guest) → LabelsFit s.labels → HaveFewWords g.form xs
    → length g.words ≡ object_words g * s.objects → second_pass s xs g ≡ Ok h → Puts s xs g h
second_pass_puts_all s [] g h fits few there e = subst (Puts s [] g) (ok_is_injective g h e)
    (record { form = refl; code = omega arith; bytes = omega arith; entries = omega arith; words = refl; fit = λ n m all. all })
second_pass_puts_all s (x ∷ xs) g h fits few there e =
    let b = parts_of_ok_bind (at_line x.line (put_word_in s x.address x.item g)) _ h e in
    let a = put_adds_item s x.address x.item g b.0 few.0 there (ok_if_at_line_is_ok x.line _ b.0 b.1) in
    let count : length b.0.words ≡ object_words b.0 * s.objects = a.words ∙ there
    ∙ ap (λ (f : ImageForm). (limits_of f).words * s.objects) (sym a.form) in
    let p = second_pass_puts_all s xs b.0 h fits (subst (λ (f : ImageForm). HaveFewWords f xs) (sym a.form) few.1) count b.2 in
    record {
      form = p.form ∙ a.form;
      code = omega (arith, a.code, p.code, total_of_cons code_size x xs);
      bytes = omega (arith, a.bytes, p.bytes, total_of_cons data_size x xs);
      entries = omega (arith, a.entries, p.entries, total_of_cons entry_count x xs);
      words = p.words ∙ a.words;
      fit = λ n m all. p.fit n m (a.fit fits n m all);
    }

-- the objects that were announced
puts_word_count : (s : Seen) (g : Guest) → Puts s s.placed (started s) g → length g.words ≡ object_words g * s.objects
puts_word_count s g p = p.words ∙ length-replicate {A = ℕ} ((limits_of (stated s.form)).words * s.objects) 0
    ∙ ap (λ (f : ImageForm). (limits_of f).words * s.objects) (sym p.form)

put_objects_within : (s : Seen) (g : Guest) → IsSound s → Puts s s.placed (started s) g → object_count g ≤ (limits_of g.form).objects
put_objects_within s g h p =
    let count = words_div_is_objects g.form (length g.words) s.objects (puts_word_count s g p) in
    let few = h.few_objects in
    subst (λ (f : ImageForm). object_count g ≤ (limits_of f).objects) (sym p.form) (omega (arith, count, few))

-- with an entry, a guest is within the limits
with_entry_has_limits : (s : Seen) (g : Guest) → IsSound s → 1 ≤ s.code → Puts s s.placed (started s) g → HasLimits (with_entry_line g)
with_entry_has_limits s g h some p = by_test (length g.entries == 0) refl
  where
    by_test : (b : Bool) → (length g.entries == 0) ≡ b → HasLimits (cond b (record g { entries = code_start ∷ [] }) g)
    by_test true e = record {
      some_thread = omega arith;
      few_threads = let one = thread_limit_positive g.form in omega (arith, one);
      short_code = omega (arith, p.code, h.code, h.short_code);
      short_data = omega (arith, p.bytes, h.bytes, h.short_data);
      whole_objects = whole_words_divide g.form (length g.words) s.objects (puts_word_count s g p);
      few_objects = put_objects_within s g h p;
      entries_fit = (record { aligned = refl; low = omega arith; high = omega (arith, p.code, h.code, some) }, tt);
    }
    by_test false e = record {
      some_thread = omega (arith, eqb-false (length g.entries) 0 e);
      few_threads = subst (λ (f : ImageForm). length g.entries ≤ (limits_of f).threads) (sym p.form)
          (omega (arith, p.entries, h.entries, h.few_threads));
      short_code = omega (arith, p.code, h.code, h.short_code);
      short_data = omega (arith, p.bytes, h.bytes, h.short_data);
      whole_objects = whole_words_divide g.form (length g.words) s.objects (puts_word_count s g p);
      few_objects = put_objects_within s g h p;
      entries_fit = p.fit (length g.code) (omega (arith, p.code, h.code)) tt;
    }

-- what the first pass saw and the second put is within the limits
pub seen_guest_has_limits : (s : Seen) (g : Guest) → IsSound s → not (s.code == 0) ≡ true → assembled_guest s ≡ Ok g → HasLimits g
seen_guest_has_limits s g h some e =
    let there = length-replicate {A = ℕ} ((limits_of (stated s.form)).words * s.objects) 0 in
    let b = parts_of_ok_bind (second_pass s s.placed (started s)) _ g e in
    subst HasLimits (ok_is_injective _ g b.2) (with_entry_has_limits s b.0 h (some_code s.code some)
    (second_pass_puts_all s s.placed (started s) b.0 h.labels h.few there b.1))
  where
    some_code : (n : ℕ) → not (n == 0) ≡ true → 1 ≤ n
    some_code zero f = absurd (cc f)
    some_code (suc n) f = omega arith
