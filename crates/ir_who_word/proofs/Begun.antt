-- The words of the objects before the first step.
use Rattle.std.proofs.Common.{◌≡◌, ◌+◌, ◌<◌, ℕ, List, [], ◌∷◌, ◌++◌, length, length-append, refl, sym, ap, ◌∙◌, subst, arith, inl, inr}
use Rattle.std.specs.Prelude.{slice_index, slice_get, Option, Some, None}
use Rattle.std.specs.List.{slice_index_or}
use Rattle.std.proofs.lemmas.Bool.{cases_lt}
use Rattle.std.proofs.Math.ListN.{get_or-append}
use Rattle.std.proofs.Math.Seq.{get_or-append_seam}
use Rattle.ir_image.specs.Guest.{object_count, first_words}
use Rattle.ir_runs.specs.Machine.{Object}
use Rattle.ir_runs.specs.Run.{Step, end}
use Rattle.ir_object.specs.Empty.{empty}
use Rattle.ir_flat.proofs.CallerLemmas.{start_words_are_first}
use Rattle.ir_fit.specs.Fit.{FittedTrace, HasRun}
use Rattle.ir_cut.specs.Positions.{machine_of, start_of}
use Rattle.ir_weave.specs.Standing.{Standing, StandsAtCut}
use Rattle.ir_who.specs.declared.version.Version.{Version}
use Rattle.ir_who_word.specs.Words.{IsWordOf, IsWorded, unread}
use Rattle.ir_who_word.specs.declared.object_word.ObjectWord.{ObjectWord}
use Rattle.ir_who_word.specs.declared.worded.Worded.{Worded}
use Rattle.ir_who_word.proofs.Built.{some_version_injective}
use Rattle.ir_runs.proofs.CallerLemmas.{zero_cut_part_is_empty}

-- the words of an object of the state before the first step
pub start_has_first_words : (f : FittedTrace) (s : Standing) → HasRun f → StandsAtCut f (λ t. 0) s → (o i : ℕ) → o < object_count f.guest
    → slice_index (slice_index_or s.objects o empty).words i ≡ slice_index (first_words f.guest o) i
start_has_first_words f s h stands o i l =
    ap (λ (b : Object). b.words i) ((stands.at.each h.run h.whole).objects o)
    ∙ ap (λ (steps : List Step). ((end (machine_of f) (start_of f) steps).objects o).words i) (zero_cut_part_is_empty h.run (λ t. 0) (λ t. refl))
    ∙ ap (λ (words : List ℕ). slice_index words i) (start_words_are_first f.guest 0 (object_count f.guest) o l)
    ∙ (let same : 0 + o ≡ o = omega arith in ap (λ j. slice_index (first_words f.guest j) i) same)

-- the first version has the first word
pub first_version_worded : (f : FittedTrace) (w : ObjectWord) (x : Version) (d : Worded) (word : ℕ) → d ≡ record { made_by = x.made_by; word = word; step = None }
    → word ≡ slice_index (first_words f.guest w.object) w.index → x.made_by ≡ None → IsWorded f w x d
first_version_worded f w x d word is first made = record {
  made = ap (λ (z : Worded). z.made_by) is;
  word = subst (λ (m : Option _). IsWordOf f w m d.word d.step) (sym made)
      (ap (λ (z : Worded). z.word) is ∙ first, ap (λ (z : Worded). z.step) is);
}

-- the first n versions, each with this word
pub record AreFirstWorded (rows : List Version) (n word : ℕ) (ds : List Worded) : Type 0 where
  pub size : length ds ≡ n
  pub each : (j : ℕ) (x : Version) → j < n → slice_get rows j ≡ Some x
      → slice_index_or ds j unread ≡ record { made_by = x.made_by; word = word; step = None }

pub no_versions_first_worded : (rows : List Version) (word : ℕ) (ds : List Worded) → ds ≡ [] → AreFirstWorded rows 0 word ds
no_versions_first_worded rows word ds e = record {
  size = ap (λ (xs : List Worded). length xs) e;
  each = λ j x l. absurd (omega (arith, l));
}

pub are_first_worded_step : (rows : List Version) (n word : ℕ) (ds new : List Worded) (d : Worded) (x : Version) → AreFirstWorded rows n word ds → slice_get rows n ≡ Some x
    → new ≡ ds ++ d ∷ [] → d ≡ record { made_by = x.made_by; word = word; step = None } → AreFirstWorded rows (n + 1) word new
are_first_worded_step rows n word ds new d x are here e is = record {
  size = ap (λ (xs : List Worded). length xs) e ∙ length-append ds (d ∷ []) ∙ ap (λ k. k + 1) are.size;
  each = λ j y l there. ap (λ (xs : List Worded). slice_index_or xs j unread) e ∙ elim (cases_lt j n) [
    | inl less ↦ get_or-append ds (d ∷ []) unread j (let a = are.size in omega (arith, a, less)) ∙ are.each j y less there
    | inr past ↦
        let last : j ≡ length ds = (let a = are.size in omega (arith, a, l, past)) in
        let this : j ≡ n = omega (arith, l, past) in
        let same : x ≡ y = some_version_injective x y (sym here ∙ ap (slice_get rows) (sym this) ∙ there) in
        ap (λ k. slice_index_or (ds ++ d ∷ []) k unread) last ∙ get_or-append_seam ds d [] unread ∙ is
        ∙ ap (λ (z : Version). record { made_by = z.made_by; word = word; step = None }) same
  ];
}
