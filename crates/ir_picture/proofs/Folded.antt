-- What events read, object by object.
use Rattle.std.proofs.Common.{◌≡◌, ℕ, suc, ◌+◌, ◌<◌, ◌≤◌, Bool, true, false, Option, Some, None, List, [], ◌∷◌, ◌++◌, codes, length, drop, get_or, refl, sym, ap, ◌∙◌, append-nil, arith, eqb, cond}
use Rattle.std.proofs.lemmas.List.{at_drop_more, at_drop_all}
use Rattle.ir_log.specs.declared.event.Event.{Event}
use Rattle.ir_log.specs.declared.event.Event.TheVariants.{Answer, Read, Write, Try}
use Rattle.ir_picture.specs.Numbers.{version_read, read_pair, read_entry_number, read_pairs, with_commas}
use Rattle.ir_picture.proofs.Texts.{comma_after, with_commas_of_push, comma_after_push}

-- the first of two, if it is there
abbrev or_else : Option ℕ → Option ℕ → Option ℕ
or_else (Some v) other = Some v
or_else None other = other

version_read_of_cons : (o : ℕ) (e : Event) (es : List Event) → version_read o (e ∷ es) ≡ or_else (version_read o (e ∷ [])) (version_read o es)
unfolding version_read
version_read_of_cons o (Answer kind value) es = refl
version_read_of_cons o (Read object version) es = by (eqb object o)
  where
    by : (b : Bool) → cond b (Some version) (version_read o es) ≡ or_else (cond b (Some version) None) (version_read o es)
    by true = refl
    by false = refl
version_read_of_cons o (Write object version readers) es = refl
version_read_of_cons o (Try object) es = refl

version_read_of_drop : (o n : ℕ) (es : List Event) (e : Event) → n < length es
    → version_read o (drop n es) ≡ or_else (version_read o (get_or es n e ∷ [])) (version_read o (drop (n + 1) es))
version_read_of_drop o n es e some = at_drop_more (version_read o) es n e some ∙ version_read_of_cons o (get_or es n e) (drop (n + 1) es)

-- the next event reads the object
pub version_read_by_next : (o n v : ℕ) (es : List Event) (e : Event) → n < length es → version_read o (get_or es n e ∷ []) ≡ Some v
    → version_read o (drop n es) ≡ Some v
version_read_by_next o n v es e some is = version_read_of_drop o n es e some ∙ ap (λ x. or_else x (version_read o (drop (n + 1) es))) is

-- it doesn't
pub version_read_skips_next : (o n : ℕ) (es : List Event) (e : Event) → n < length es → version_read o (get_or es n e ∷ []) ≡ None
    → version_read o (drop n es) ≡ version_read o (drop (n + 1) es)
version_read_skips_next o n es e some is = version_read_of_drop o n es e some ∙ ap (λ x. or_else x (version_read o (drop (n + 1) es))) is

pub version_read_past_end : (o n : ℕ) (es : List Event) → length es ≤ n → version_read o (drop n es) ≡ None
unfolding version_read
version_read_past_end o n es all = at_drop_all (version_read o) es n all

-- ---- object by object

-- what is said of the first n objects, and what comes before the next
pub record ArePairs (n : ℕ) (es : List Event) (comma text : List ℕ) : Type 0 where
  pub lines : text ≡ with_commas (read_pairs n es)
  pub after : comma ≡ comma_after (read_pairs n es)

read_pairs_suc : (o : ℕ) (es : List Event) → read_pairs (o + 1) es ≡ read_pairs o es ++ read_entry_number o (version_read o es)
unfolding read_pairs
read_pairs_suc o es = let on : o + 1 ≡ suc o = omega arith in ap (λ n. read_pairs n es) on

-- the next object was read
pub pairs_after_read_object : (o v : ℕ) (es : List Event) (comma text own new : List ℕ) → ArePairs o es comma text → version_read o es ≡ Some v
    → own ≡ comma ++ read_pair o v → new ≡ text ++ own → ArePairs (o + 1) es (codes ",") new
pairs_after_read_object o v es comma text own new h is said made = record {
  lines = made ∙ ap (λ (x : List ℕ). x ++ own) h.lines
      ∙ ap (λ (x : List ℕ). with_commas (read_pairs o es) ++ x) (said ∙ ap (λ (x : List ℕ). x ++ read_pair o v) h.after)
      ∙ sym (with_commas_of_push (read_pairs o es) (read_pair o v)) ∙ sym (ap with_commas all);
  after = sym (ap comma_after all ∙ comma_after_push (read_pairs o es) (read_pair o v));
}
  where
    all : read_pairs (o + 1) es ≡ read_pairs o es ++ read_pair o v ∷ []
    all = read_pairs_suc o es ∙ ap (λ x. read_pairs o es ++ read_entry_number o x) is

-- it wasn't
pub pairs_past_unread_object : (o : ℕ) (es : List Event) (comma text : List ℕ) → ArePairs o es comma text → version_read o es ≡ None
    → ArePairs (o + 1) es comma text
pairs_past_unread_object o es comma text h is = record {
  lines = h.lines ∙ sym (ap with_commas same);
  after = h.after ∙ sym (ap comma_after same);
}
  where
    same : read_pairs (o + 1) es ≡ read_pairs o es
    same = read_pairs_suc o es ∙ ap (λ x. read_pairs o es ++ read_entry_number o x) is ∙ append-nil (read_pairs o es)

pub pairs_of_no_objects : (es : List Event) (text : List ℕ) → text ≡ [] → ArePairs 0 es [] text
unfolding read_pairs with_commas
pairs_of_no_objects es text none = record { lines = none; after = refl }
