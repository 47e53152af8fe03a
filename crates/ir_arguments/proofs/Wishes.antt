-- What texts ask for in turn.
use Rattle.std.proofs.Common.{◌≡◌, ◌<◌, ◌≤◌, ℕ, zero, suc, ◌+◌, Bool, true, false, List, [], ◌∷◌, ◌++◌, map, length, drop, get_or, Option, Some}
use Rattle.std.proofs.Common.{None, refl, sym, ap, ◌∙◌, arith, append-nil, append_assoc}
use Rattle.std.specs.Prelude.{is_some, option_map}
use Rattle.std.specs.List.{list_all}
use Rattle.std.specs.Borrow.{Bor}
use Rattle.std.proofs.lemmas.List.{drop_all}
use Rattle.clap.specs.Words.{Text}
use Rattle.ir_schedule.specs.Spelling.{condition_of}
use Rattle.ir_arguments.specs.Exploring.{is_of_outcome}
use Rattle.ir_arguments.specs.Conditions.{asked_also, conditions_given, stale_after, stale_named}

-- the texts behind references
abbrev pub texts_of : List (Bor Text) → List Text
texts_of texts = map (λ s. s.now) texts

texts_from : (texts : List (Bor Text)) (i : ℕ) (text : Bor Text) → i < length texts → text ≡ get_or texts i text
    → texts_of (drop i texts) ≡ text.now ∷ texts_of (drop (i + 1) texts)
texts_from [] i text l is = absurd (omega (arith, l))
texts_from (x ∷ texts) zero text l is = ap (λ (t : Bor Text). t.now ∷ texts_of texts) (sym is)
texts_from (x ∷ texts) (suc i) text l is = texts_from texts i text (omega (arith, l)) is
    ∙ ap (λ k. text.now ∷ texts_of (drop k (x ∷ texts))) (let same : suc (i + 1) ≡ suc i + 1 = omega arith in same)

pub stale_after_text : (texts : List (Bor Text)) (i : ℕ) (text : Bor Text) (before more : Option Bool) (wanted : Option (Option Bool))
    → i < length texts → text ≡ get_or texts i text → asked_also before (stale_named text.now) ≡ Some more
    → stale_after before (texts_of (drop i texts)) ≡ wanted → stale_after more (texts_of (drop (i + 1) texts)) ≡ wanted
stale_after_text texts i text before more wanted l is also h =
    let rest = texts_of (drop (i + 1) texts) in
    let step : stale_after before (text.now ∷ rest) ≡ stale_after more rest = rw also refl in
    sym (ap (stale_after before) (texts_from texts i text l is) ∙ step) ∙ h

pub stale_excluded : (texts : List (Bor Text)) (i : ℕ) (text : Bor Text) (before : Option Bool) (wanted : Option (Option Bool))
    → i < length texts → text ≡ get_or texts i text → asked_also before (stale_named text.now) ≡ None
    → stale_after before (texts_of (drop i texts)) ≡ wanted → None ≡ wanted
stale_excluded texts i text before wanted l is also h =
    let step : stale_after before (text.now ∷ texts_of (drop (i + 1) texts)) ≡ None = rw also refl in
    sym (ap (stale_after before) (texts_from texts i text l is) ∙ step) ∙ h

pub stale_at_end : (texts : List (Bor Text)) (i : ℕ) (before : Option Bool) (wanted : Option (Option Bool)) → length texts ≤ i
    → stale_after before (texts_of (drop i texts)) ≡ wanted → Some before ≡ wanted
stale_at_end texts i before wanted l h = sym (ap (λ ts. stale_after before (texts_of ts)) (drop_all i texts l)) ∙ h

-- the conditions so far and then those of what is left
abbrev pub with_more : List Text → Option (List Text) → Option (List Text)
with_more texts more = option_map (λ ts. texts ++ ts) more

pub conditions_after_stale : (texts : List (Bor Text)) (i : ℕ) (text : Bor Text) (found : List Text) (wanted : Option (List Text))
    → i < length texts → text ≡ get_or texts i text → is_some (stale_named text.now) ≡ true
    → with_more found (conditions_given (texts_of (drop i texts))) ≡ wanted → with_more found (conditions_given (texts_of (drop (i + 1) texts))) ≡ wanted
conditions_after_stale texts i text found wanted l is stale h =
    let rest = texts_of (drop (i + 1) texts) in
    let step : conditions_given (text.now ∷ rest) ≡ conditions_given rest = rw stale refl in
    sym (ap (with_more found) (ap conditions_given (texts_from texts i text l is) ∙ step)) ∙ h

joined_more : (found : List Text) (text : Text) (rest : Option (List Text))
    → with_more found (option_map (λ ts. text ∷ ts) rest) ≡ with_more (found ++ text ∷ []) rest
joined_more found text None = refl
joined_more found text (Some ts) = ap (λ us. Some us) (sym (append_assoc found (text ∷ []) ts))

pub conditions_after_text : (texts : List (Bor Text)) (i : ℕ) (text : Bor Text) (found more : List Text) (wanted : Option (List Text))
    → i < length texts → text ≡ get_or texts i text → is_some (stale_named text.now) ≡ false → is_some (condition_of text.now) ≡ true
    → more ≡ found ++ text.now ∷ []
    → with_more found (conditions_given (texts_of (drop i texts))) ≡ wanted → with_more more (conditions_given (texts_of (drop (i + 1) texts))) ≡ wanted
conditions_after_text texts i text found more wanted l is other some new h =
    let rest = conditions_given (texts_of (drop (i + 1) texts)) in
    let step : conditions_given (text.now ∷ texts_of (drop (i + 1) texts)) ≡ option_map (λ ts. text.now ∷ ts) rest = rw (other, some) refl in
    ap (λ m. with_more m rest) new ∙ sym (joined_more found text.now rest)
    ∙ sym (ap (with_more found) (ap conditions_given (texts_from texts i text l is) ∙ step)) ∙ h

pub conditions_fail : (texts : List (Bor Text)) (i : ℕ) (text : Bor Text) (found : List Text) (wanted : Option (List Text))
    → i < length texts → text ≡ get_or texts i text → is_some (stale_named text.now) ≡ false → condition_of text.now ≡ None
    → with_more found (conditions_given (texts_of (drop i texts))) ≡ wanted → None ≡ wanted
conditions_fail texts i text found wanted l is other none h =
    let step : conditions_given (text.now ∷ texts_of (drop (i + 1) texts)) ≡ None = rw (other, none) refl in
    sym (ap (with_more found) (ap conditions_given (texts_from texts i text l is) ∙ step)) ∙ h

pub conditions_at_end : (texts : List (Bor Text)) (i : ℕ) (found : List Text) (wanted : Option (List Text)) → length texts ≤ i
    → with_more found (conditions_given (texts_of (drop i texts))) ≡ wanted → Some found ≡ wanted
conditions_at_end texts i found wanted l h =
    sym (ap (λ ts. with_more found (conditions_given (texts_of ts))) (drop_all i texts l) ∙ ap (λ ts. Some ts) (append-nil found)) ∙ h

pub outcomes_after_text : (texts : List (Bor Text)) (i : ℕ) (text : Bor Text) (all : Bool) → i < length texts → text ≡ get_or texts i text
    → is_of_outcome text.now ≡ true → list_all is_of_outcome (texts_of (drop i texts)) ≡ all → list_all is_of_outcome (texts_of (drop (i + 1) texts)) ≡ all
outcomes_after_text texts i text all l is of h =
    let rest = texts_of (drop (i + 1) texts) in
    let step : list_all is_of_outcome (text.now ∷ rest) ≡ list_all is_of_outcome rest = rw of refl in
    sym (ap (list_all is_of_outcome) (texts_from texts i text l is) ∙ step) ∙ h

pub outcomes_fail : (texts : List (Bor Text)) (i : ℕ) (text : Bor Text) (all : Bool) → i < length texts → text ≡ get_or texts i text
    → is_of_outcome text.now ≡ false → list_all is_of_outcome (texts_of (drop i texts)) ≡ all → false ≡ all
outcomes_fail texts i text all l is of h =
    let step : list_all is_of_outcome (text.now ∷ texts_of (drop (i + 1) texts)) ≡ false = rw of refl in
    sym (ap (list_all is_of_outcome) (texts_from texts i text l is) ∙ step) ∙ h

pub outcomes_at_end : (texts : List (Bor Text)) (i : ℕ) (all : Bool) → length texts ≤ i → list_all is_of_outcome (texts_of (drop i texts)) ≡ all → true ≡ all
outcomes_at_end texts i all l h = sym (ap (λ ts. list_all is_of_outcome (texts_of ts)) (drop_all i texts l)) ∙ h
