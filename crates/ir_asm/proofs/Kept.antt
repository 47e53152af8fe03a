-- What the second pass keeps.
use Rattle.std.proofs.Common.{◌≡◌, ◌+◌, ◌-◌, ◌*◌, ◌%◌, ◌≤◌, ◌<◌, ℕ, Bool, List, [], ◌∷◌, ◌++◌, length, take, drop, refl, sym, ap, subst}
use Rattle.std.proofs.Common.{◌∙◌, arith, Result, Ok, Err, true, false, Some, cond, negsuc, pos, get_or, zero, suc}
use Rattle.std.specs.Prelude.{nat_lt, replicate, bytes_eq}
use Rattle.std.specs.List.{AllByRecursion}
use Rattle.std.proofs.lemmas.Bool.{ltb-true}
use Rattle.std.proofs.lemmas.Option.{same_Some}
use Rattle.std.proofs.lemmas.List.{length-replicate, length-append, length-take-le, length-drop}
use Rattle.ir_lemmas.proofs.CallerLemmas.{all_of_push, ok_is_injective}
use Rattle.ir_image.specs.declared.form.ImageForm.{ImageForm}
use Rattle.ir_image.specs.declared.form.ImageForm.TheVariants.{Small, Large}
use Rattle.ir_image.specs.Guest.{limits_of, Guest, code_start, object_words, padded_to}
use Rattle.ir_image.specs.Bounds.{IsPlace}
use Rattle.ir_asm.specs.declared.item.Item.{Item}
use Rattle.ir_asm.specs.declared.item.Item.TheVariants.{Code, BranchTo, JumpTo, LoadAddress, Filled, Enlarged, Within, Entry, Count, First, Nothing}
use Rattle.ir_asm.specs.declared.item.Place.{Place}
use Rattle.ir_asm.specs.declared.item.Placed.{Placed}
use Rattle.ir_asm.specs.declared.form.Section.{Section}
use Rattle.ir_asm.specs.declared.form.Section.TheVariants.{Text, Data}
use Rattle.ir_asm.specs.declared.cause.Cause.{Cause}
use Rattle.ir_asm.specs.declared.cause.Cause.TheVariants.{LabelMissing, BadCount, WrongSection}
use Rattle.ir_asm.specs.Names.{named}
use Rattle.ir_asm.specs.declared.asm_err.AsmErr.{AsmErr}
use Rattle.ir_asm.specs.declared.refusal.Refusal.{Refusal}
use Rattle.ir_asm.specs.declared.refusal.Refusal.TheVariants.{Faulty, NoMem}
use Rattle.ir_asm.specs.Faults.{◌>>=◌, MakesOrFaults}
use Rattle.ir_asm.specs.Answered.{AnswersSource, refused}
use Rattle.ir_asm.specs.Source.{Seen, Fault, same_section, at_line}
use Rattle.ir_asm.specs.Passes.{put_word_in, distance_to, operand_value, text_address, with_code, with_object_line, second_pass}
use Rattle.ir_asm.specs.Bounds.{HasFewWords}
use Rattle.ir_asm.proofs.Steps.{parts_of_ok_bind, ok_unless_parts, or_cause_ok_is_some}

-- how many bytes of code an item is
abbrev pub code_size : Item → ℕ
code_size (Code words) = 4 * length words
code_size (BranchTo op rs1 rs2 label) = 4
code_size (JumpTo rd label) = 4
code_size (LoadAddress rd label) = 8
code_size item = 0

-- how many bytes of data an item is
abbrev pub data_size : Item → ℕ
data_size (Filled bytes) = length bytes
data_size item = 0

-- how many entries an item is
abbrev pub entry_count : Item → ℕ
entry_count (Entry label) = 1
entry_count item = 0

-- a label that is in text has a place there
abbrev pub IsTextPlace : Section → ℕ → Type 0
IsTextPlace Text address = (address % 4 ≡ 0) × (code_start ≤ address)
IsTextPlace Data address = Unit {0}

-- all labels in text are places there
abbrev pub LabelsFit : List (List ℕ × Place) → Type 0
LabelsFit labels = AllByRecursion (λ l. IsTextPlace l.1.section l.1.address) labels

-- what holds beside all names holds beside one
pub named_value_satisfies : {A : Type 0} (P : A → Type 0) (rows : List (List ℕ × A)) (name : List ℕ) (x : A) → AllByRecursion (λ r. P r.1) rows
    → named rows name ≡ Some x → P x
named_value_satisfies P [] name x h e = absurd (cc e)
named_value_satisfies P (r ∷ rows) name x h e = by_test (bytes_eq name r.0) (λ f. named_value_satisfies P rows name x h.1 f) e
  where
    by_test : (b : Bool) → (named rows name ≡ Some x → P x) → cond b (Some r.1) (named rows name) ≡ Some x → P x
    by_test true rest f = subst P (same_Some r.1 x f) h.0
    by_test false rest f = rest f

-- the address of a label in text is a place there
pub text_address_is_place : (s : Seen) (label : List ℕ) (a : ℕ) → LabelsFit s.labels → text_address s label ≡ Ok a → (a % 4 ≡ 0) × (code_start ≤ a)
text_address_is_place s label a fits e =
    let b = parts_of_ok_bind (operand_value s label) _ a e in
    let t = ok_unless_parts (same_section b.0.section Text) WrongSection b.0.address a b.2 in
    let p = named_value_satisfies (λ (place : Place). IsTextPlace place.section place.address) s.labels label b.0 fits (or_cause_ok_is_some LabelMissing _ b.0 b.1) in
    subst (λ n. (n % 4 ≡ 0) × (code_start ≤ n)) t.1 (by_section b.0.section b.0.address t.0 p)
  where
    by_section : (section : Section) (n : ℕ) → same_section section Text ≡ true → IsTextPlace section n → (n % 4 ≡ 0) × (code_start ≤ n)
    by_section Text n f p = p
    by_section Data n f p = absurd (cc f)

-- the first k of n words of zeros
take_of_zeros : (k n : ℕ) → k ≤ n → take k (replicate {A = ℕ} n 0) ≡ replicate {A = ℕ} k 0
take_of_zeros zero n l = refl
take_of_zeros (suc k) zero l = absurd (omega (arith, l))
take_of_zeros (suc k) (suc n) l = ap (λ (xs : List ℕ). 0 ∷ xs) (take_of_zeros k n (omega (arith, l)))

take_words_and_zeros : (words : List ℕ) (k n : ℕ) → k ≤ n → take (length words + k) (words ++ replicate {A = ℕ} n 0) ≡ words ++ replicate {A = ℕ} k 0
take_words_and_zeros [] k n l = let e : 0 + k ≡ k = omega arith in rw e (take_of_zeros k n l)
take_words_and_zeros (w ∷ ws) k n l =
    let e : length (w ∷ ws) + k ≡ suc (length ws + k) = omega arith in
    rw e (ap (λ (xs : List ℕ). w ∷ xs) (take_words_and_zeros ws k n l))

-- fewer words of an object
pub take_padded_words : (count most : ℕ) (words : List ℕ) → length words ≤ count → count ≤ most
    → take count (padded_to most words) ≡ padded_to count words
take_padded_words count most words l m =
    let e : length words + (count - length words) ≡ count = omega (arith, l) in
    ap (λ (k : ℕ). take k (padded_to most words)) (sym e)
    ∙ take_words_and_zeros words (count - length words) (most - length words) (omega (arith, m))

-- an object has its place
object_end_within_words : (form : ImageForm) (object objects : ℕ) → object < objects
    → (limits_of form).words * object + (limits_of form).words ≤ (limits_of form).words * objects
object_end_within_words Small object objects l = omega (arith, l)
object_end_within_words Large object objects l = omega (arith, l)

pub object_has_room : (g : Guest) (object objects : ℕ) → object < objects → length g.words ≡ object_words g * objects
    → object_words g * object + object_words g ≤ length g.words
object_has_room g object objects l there = let r = object_end_within_words g.form object objects l in omega (arith, r, there)

-- words take the place of as many
replaced_length_same : (all words : List ℕ) (start count : ℕ) → length words ≤ count → start + count ≤ length all
    → length (take start all ++ (padded_to count words ++ drop (start + count) all)) ≡ length all
replaced_length_same all words start count few there =
    let front : List ℕ = take start all in
    let back : List ℕ = drop (start + count) all in
    omega (
      arith,
      length-append front (padded_to count words ++ back),
      length-append (padded_to count words) back,
      length-append words (replicate (count - length words) 0),
      length-replicate {A = ℕ} (count - length words) 0,
      length-take-le start all (omega (arith, there)),
      length-drop (start + count) all,
      few,
      there,
    )

pub with_object_word_count : (g : Guest) (object : ℕ) (words : List ℕ) → length words ≤ object_words g
    → object_words g * object + object_words g ≤ length g.words → length (with_object_line g object words).words ≡ length g.words
with_object_word_count g object words few there = replaced_length_same g.words words (object_words g * object) (object_words g) few there

-- what an item adds to a guest
pub record Adds (s : Seen) (item : Item) (g h : Guest) : Type 0 where
  pub form : h.form ≡ g.form
  pub code : 4 * length h.code ≡ 4 * length g.code + code_size item
  pub bytes : length h.bytes ≡ length g.bytes + data_size item
  pub entries : length h.entries ≡ length g.entries + entry_count item
  pub words : length h.words ≡ length g.words
  pub fit : LabelsFit s.labels → (n : ℕ) → 4 * n ≡ s.code → AllByRecursion (IsPlace n) g.entries → AllByRecursion (IsPlace n) h.entries

adds_if_code_appended : (s : Seen) (item : Item) (g h : Guest) (words : List ℕ) → 4 * length words ≡ code_size item → data_size item ≡ 0
    → entry_count item ≡ 0 → with_code g words ≡ h → Adds s item g h
adds_if_code_appended s item g h words c d n e = subst (Adds s item g) e (record {
  form = refl;
  code = omega (arith, length-append g.code words, c);
  bytes = omega (arith, d);
  entries = omega (arith, n);
  words = refl;
  fit = λ fits k m all. all;
})

adds_if_guest_unchanged : (s : Seen) (item : Item) (g h : Guest) → code_size item ≡ 0 → data_size item ≡ 0 → entry_count item ≡ 0 → g ≡ h
    → Adds s item g h
adds_if_guest_unchanged s item g h c d n e = subst (Adds s item g) e
    (record { form = refl; code = omega (arith, c); bytes = omega (arith, d); entries = omega (arith, n); words = refl; fit = λ fits k m all. all })

pub put_adds_item : (s : Seen) (a : ℕ) (item : Item) (g h : Guest) → HasFewWords g.form item → length g.words ≡ object_words g * s.objects
    → put_word_in s a item g ≡ Ok h → Adds s item g h
put_adds_item s a (Code words) g h few there e = adds_if_code_appended s (Code words) g h words refl refl refl (ok_is_injective _ h e)
put_adds_item s a (BranchTo op rs1 rs2 label) g h few there e =
    let b = parts_of_ok_bind (distance_to s (negsuc 4095) (pos 4094) a label) _ h e in
    adds_if_code_appended s (BranchTo op rs1 rs2 label) g h _ refl refl refl (ok_is_injective _ h b.2)
put_adds_item s a (JumpTo rd label) g h few there e =
    let b = parts_of_ok_bind (distance_to s (negsuc 1048575) (pos 1048574) a label) _ h e in
    adds_if_code_appended s (JumpTo rd label) g h _ refl refl refl (ok_is_injective _ h b.2)
put_adds_item s a (LoadAddress rd label) g h few there e =
    let b = parts_of_ok_bind (operand_value s label) _ h e in
    adds_if_code_appended s (LoadAddress rd label) g h _ refl refl refl (ok_is_injective _ h b.2)
put_adds_item s a (Filled bytes) g h few there e = subst (Adds s (Filled bytes) g) (ok_is_injective _ h e) (record {
  form = refl;
  code = omega arith;
  bytes = length-append g.bytes bytes;
  entries = omega arith;
  words = refl;
  fit = λ fits k m all. all;
})
put_adds_item s a (Entry label) g h few there e =
    let b = parts_of_ok_bind (text_address s label) _ h e in
    let t = ok_unless_parts (nat_lt b.0 (code_start + s.code)) WrongSection _ h b.2 in
    let below : b.0 < code_start + s.code = ltb-true b.0 (code_start + s.code) t.0 in
    subst (Adds s (Entry label) g) t.1 (record {
      form = refl;
      code = omega arith;
      bytes = omega arith;
      entries = length-append g.entries (b.0 ∷ []);
      words = refl;
      fit = λ fits n m all. let p = text_address_is_place s label b.0 fits b.1 in
          all_of_push (IsPlace n) g.entries b.0 all (record { aligned = p.0; low = p.1; high = omega (arith, below, m) });
    })
put_adds_item s a (First object words) g h few there e =
    let t = ok_unless_parts (nat_lt object s.objects) BadCount _ h e in
    let below : object < s.objects = ltb-true object s.objects t.0 in
    subst (Adds s (First object words) g) t.1 (record {
      form = refl;
      code = omega arith;
      bytes = omega arith;
      entries = omega arith;
      words = with_object_word_count g object words few (object_has_room g object s.objects below there);
      fit = λ fits k m all. all;
    })
put_adds_item s a Enlarged g h few there e = adds_if_guest_unchanged s Enlarged g h refl refl refl (ok_is_injective _ h e)
put_adds_item s a (Within section) g h few there e = adds_if_guest_unchanged s (Within section) g h refl refl refl (ok_is_injective _ h e)
put_adds_item s a (Count n) g h few there e = adds_if_guest_unchanged s (Count n) g h refl refl refl (ok_is_injective _ h e)
put_adds_item s a Nothing g h few there e = adds_if_guest_unchanged s Nothing g h refl refl refl (ok_is_injective _ h e)

-- the form stays, and the number of words
pub put_keeps_form : (s : Seen) (a : ℕ) (item : Item) (g h : Guest) → HasFewWords g.form item → length g.words ≡ object_words g * s.objects
    → put_word_in s a item g ≡ Ok h → h.form ≡ g.form
put_keeps_form s a item g h few there e = (put_adds_item s a item g h few there e).form

pub put_keeps_word_count : (s : Seen) (a : ℕ) (item : Item) (g h : Guest) → HasFewWords g.form item → length g.words ≡ object_words g * s.objects
    → put_word_in s a item g ≡ Ok h → length h.words ≡ object_words h * s.objects
put_keeps_word_count s a item g h few there e =
    let a = put_adds_item s a item g h few there e in
    a.words ∙ there ∙ ap (λ (f : ImageForm). (limits_of f).words * s.objects) (sym a.form)

-- what holds of all holds of one
pub get_or_has_property : {X : Type 0} (P : X → Type 0) (xs : List X) (i : ℕ) (d : X) → i < length xs → AllByRecursion P xs → P (get_or xs i d)
get_or_has_property P [] i d l h = absurd (omega (arith, l))
get_or_has_property P (y ∷ ys) zero d l h = h.0
get_or_has_property P (y ∷ ys) (suc i) d l h = get_or_has_property P ys i d (omega (arith, l)) h.1

drop_begins_with_get_or : {X : Type 0} (xs : List X) (i : ℕ) (d : X) → i < length xs → drop i xs ≡ get_or xs i d ∷ drop (i + 1) xs
drop_begins_with_get_or [] i d l = absurd (omega (arith, l))
drop_begins_with_get_or (y ∷ ys) zero d l = refl
drop_begins_with_get_or (y ∷ ys) (suc i) d l =
    let n : suc i + 1 ≡ suc (i + 1) = omega arith in
    rw n (drop_begins_with_get_or ys i d (omega (arith, l)))

-- one step, and those that follow
pub second_pass_put_step : (s : Seen) (xs : List Placed) (i : ℕ) (x : Placed) (g h : Guest) (whole : Result Guest Fault) → i < length xs
    → x ≡ get_or xs i x → put_word_in s x.address x.item g ≡ Ok h →
    second_pass s (drop i xs) g ≡ whole → second_pass s (drop (i + 1) xs) h ≡ whole
second_pass_put_step s xs i x g h whole l there e whole_is =
    let cut : drop i xs ≡ x ∷ drop (i + 1) xs = drop_begins_with_get_or xs i x l ∙ ap (λ (y : Placed). y ∷ drop (i + 1) xs) (sym there) in
    sym (ap (λ (l : List Placed). second_pass s l g) cut ∙ rw e refl) ∙ whole_is

-- a step that is refused
pub second_pass_put_refused : {X : Type 0} (view : X → Guest) (s : Seen) (xs : List Placed) (i : ℕ) (x : Placed) (g state : Guest) (refusal : Refusal)
    (error : AsmErr) (whole : Result Guest Fault) → i < length xs → x ≡ get_or xs i x → error ≡ refused x.line refusal →
    MakesOrFaults {A = Unit {0}} state (Err refusal) (put_word_in s x.address x.item g) → second_pass s (drop i xs) g ≡ whole
    → AnswersSource view (Err error) whole
second_pass_put_refused view s xs i x g state refusal error whole l there is e whole_is =
    let cut : drop i xs ≡ x ∷ drop (i + 1) xs = drop_begins_with_get_or xs i x l ∙ ap (λ (y : Placed). y ∷ drop (i + 1) xs) (sym there) in
    let again : second_pass s (x ∷ drop (i + 1) xs) g ≡ whole = sym (ap (λ (l : List Placed). second_pass s l g) cut) ∙ whole_is in
    subst (λ r. AnswersSource view (Err r) whole) (sym is) (by_refusal refusal (put_word_in s x.address x.item g) e again)
  where
    by_refusal : (r : Refusal) (step : Result Guest Cause) → MakesOrFaults {A = Unit {0}} state (Err r) step
        → (at_line x.line step >>= λ h. second_pass s (drop (i + 1) xs) h) ≡ whole → AnswersSource view (Err (refused x.line r)) whole
    by_refusal (Faulty cause) step m k = sym k ∙ rw m refl
    by_refusal NoMem step m k = tt
