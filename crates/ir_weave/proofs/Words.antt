-- The words of a table after one of them is changed.
use Rattle.std.proofs.Common.{◌≡◌, ℕ, ◌^◌, ◌<◌, List, length, get_or, set, sym, ap, ◌∙◌, subst, arith, inl, inr, length-set, get_or-set_same, get_or-set_other}
use Rattle.std.proofs.lemmas.Bool.{cases_eq}
use Rattle.std.proofs.lemmas.List.{set-get_or}
use Rattle.ir_image.specs.Guest.{most_object_words}
use Rattle.ir_object.specs.Cell.{Cell}
use Rattle.ir_object.specs.Empty.{empty}
use Rattle.ir_object.specs.Word.{word_of_object}
use Rattle.ir_object.specs.Layout.{word_place, content_place, table_length}
use Rattle.ir_weave.specs.Table.{object_in, IsTable}

pub word_place_below_length : (cells : List Cell) (words : List ℕ) (o : ℕ) → IsTable cells words → o < length cells → word_place o < length words
word_place_below_length cells words o t l = let e = t.size in omega (arith, e, l)

-- the word of an object
pub laid_after_object_word : (cells : List Cell) (words : List ℕ) (o w : ℕ) (c : Cell) → IsTable cells words → o < length cells → w ≡ word_of_object c.fields
    → c.words ≡ (object_in cells o).words → IsTable (set cells o c) (set words (word_place o) w)
laid_after_object_word cells words o w c t l is same = record {
  size = length-set words (word_place o) w ∙ t.size ∙ ap table_length (sym (length-set cells o c));
  heads = λ p fits. elim (cases_eq p o) [
    | inl here ↦ subst (λ z. get_or (set words (word_place o) w) (word_place z) 0 ≡ word_of_object (object_in (set cells o c) z).fields) (sym here)
        (get_or-set_same words (word_place o) w 0 (word_place_below_length cells words o t l) ∙ is
        ∙ sym (ap (λ z. word_of_object z.fields) (get_or-set_same cells o c empty l)))
    | inr ne ↦ get_or-set_other words (word_place o) (word_place p) w 0 (λ e. ne (omega (arith, e)))
        ∙ t.heads p (let e = length-set cells o c in omega (arith, fits, e))
        ∙ sym (ap (λ z. word_of_object z.fields) (get_or-set_other cells o p c empty ne))
  ];
  places = λ p i fits few. get_or-set_other words (word_place o) (content_place p i) w 0 (λ e. omega (arith, e, few))
      ∙ t.places p i (let e = length-set cells o c in omega (arith, fits, e)) few ∙ elim (cases_eq p o) [
        | inl here ↦ subst (λ z. get_or (object_in cells z).words i 0 ≡ get_or (object_in (set cells o c) z).words i 0) (sym here)
            (ap (λ z. get_or z i 0) (sym same) ∙ sym (ap (λ z. get_or z.words i 0) (get_or-set_same cells o c empty l)))
        | inr ne ↦ sym (ap (λ z. get_or z.words i 0) (get_or-set_other cells o p c empty ne))
      ];
  small = λ p i. elim (cases_eq p o) [
    | inl here ↦ subst (λ z. get_or (object_in (set cells o c) z).words i 0 < 2 ^ 32) (sym here)
        (subst (λ (z : Cell). get_or z.words i 0 < 2 ^ 32) (sym (get_or-set_same cells o c empty l))
        (subst (λ ws. get_or ws i 0 < 2 ^ 32) (sym same) (t.small o i)))
    | inr ne ↦ subst (λ (z : Cell). get_or z.words i 0 < 2 ^ 32) (sym (get_or-set_other cells o p c empty ne)) (t.small p i)
  ];
}

-- a word of its contents
pub laid_after_content_word : (cells : List Cell) (words : List ℕ) (o i v : ℕ) (c : Cell) → IsTable cells words → o < length cells → i < most_object_words
    → v < 2 ^ 32 → length (object_in cells o).words ≡ most_object_words → c.fields ≡ (object_in cells o).fields
    → c.words ≡ set (object_in cells o).words i v
    → IsTable (set cells o c) (set words (content_place o i) v)
laid_after_content_word cells words o i v c t l few value sizes same is = record {
  size = length-set words (content_place o i) v ∙ t.size ∙ ap table_length (sym (length-set cells o c));
  heads = λ p fits. get_or-set_other words (content_place o i) (word_place p) v 0 (λ e. omega (arith, e, few))
      ∙ t.heads p (let e = length-set cells o c in omega (arith, fits, e)) ∙ elim (cases_eq p o) [
        | inl here ↦ subst (λ z. word_of_object (object_in cells z).fields ≡ word_of_object (object_in (set cells o c) z).fields) (sym here)
            (ap word_of_object (sym same) ∙ sym (ap (λ z. word_of_object z.fields) (get_or-set_same cells o c empty l)))
        | inr ne ↦ sym (ap (λ z. word_of_object z.fields) (get_or-set_other cells o p c empty ne))
      ];
  places = λ p j fits few'. elim (cases_eq p o) [
    | inl here ↦ subst (λ z. get_or (set words (content_place o i) v) (content_place z j) 0 ≡ get_or (object_in (set cells o c) z).words j
        0) (sym here) (own j few' ∙ sym (ap (λ z. get_or z.words j 0) (get_or-set_same cells o c empty l)))
    | inr ne ↦ get_or-set_other words (content_place o i) (content_place p j) v 0 (λ e. ne (omega (arith, e, few, few')))
        ∙ t.places p j (let e = length-set cells o c in omega (arith, fits, e)) few'
        ∙ sym (ap (λ z. get_or z.words j 0) (get_or-set_other cells o p c empty ne))
  ];
  small = λ p j. elim (cases_eq p o) [
    | inl here ↦ subst (λ z. get_or (object_in (set cells o c) z).words j 0 < 2 ^ 32) (sym here)
        (subst (λ (z : Cell). get_or z.words j 0 < 2 ^ 32) (sym (get_or-set_same cells o c empty l))
        (subst (λ ws. get_or ws j 0 < 2 ^ 32) (sym is) (written j)))
    | inr ne ↦ subst (λ (z : Cell). get_or z.words j 0 < 2 ^ 32) (sym (get_or-set_other cells o p c empty ne)) (t.small p j)
  ];
}
  where
    written : (j : ℕ) → get_or (set (object_in cells o).words i v) j 0 < 2 ^ 32
    written j = elim (cases_eq j i) [
      | inl here ↦ subst (λ z. get_or (set (object_in cells o).words i v) z 0 < 2 ^ 32) (sym here)
          (subst (λ z. z < 2 ^ 32) (sym (get_or-set_same (object_in cells o).words i v 0 (omega (arith, sizes, few)))) value)
      | inr ne ↦ subst (λ z. z < 2 ^ 32) (sym (get_or-set_other (object_in cells o).words i j v 0 ne)) (t.small o j)
    ]

    own : (j : ℕ) → j < most_object_words → get_or (set words (content_place o i) v) (content_place o j) 0 ≡ get_or c.words j 0
    own j less = elim (cases_eq j i) [
      | inl here ↦ subst (λ z. get_or (set words (content_place o i) v) (content_place o z) 0 ≡ get_or c.words z 0) (sym here)
          (get_or-set_same words (content_place o i) v 0 (let e = t.size in omega (arith, e, l, few))
          ∙ sym (ap (λ z. get_or z i 0) is ∙ get_or-set_same (object_in cells o).words i v 0 (omega (arith, sizes, few))))
      | inr ne ↦ get_or-set_other words (content_place o i) (content_place o j) v 0 (λ e. ne (omega (arith, e))) ∙ t.places o j l less
          ∙ sym (ap (λ z. get_or z j 0) is ∙ get_or-set_other (object_in cells o).words i j v 0 ne)
    ]

-- a word that is written as it was
pub laid_after_same_word : (cells : List Cell) (words : List ℕ) (i : ℕ) → IsTable cells words → IsTable cells (set words i (get_or words i 0))
laid_after_same_word cells words i t = subst (IsTable cells) (sym (set-get_or words i 0)) t
