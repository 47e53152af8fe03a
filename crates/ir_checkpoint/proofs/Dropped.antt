-- An entry is taken away, and what the others keep stays.
use Rattle.std.proofs.Common.{◌≡◌, ◌==◌, ◌+◌, ◌<◌, ◌≤◌, ℕ, zero, suc, Bool, true, false, if◌then◌else◌, List, [], ◌∷◌, length, refl, sym, ap, ◌∙◌, subst, arith}
use Rattle.std.proofs.lemmas.Bool.Decides.{nat_tests}
use Rattle.ir_checkpoint.specs.Keeping.{without}
use Rattle.ir_checkpoint.specs.Store.{Entry, laid_pages, in_force, kept_of, all_kept, taken_away, frame_place, AreEntries, AreBelow, AreFalling, AreNewer, AreLaid, HasStart, IsPageStore}
use Rattle.ir_checkpoint.proofs.Laid.{laid-handed, length-handed}
use Rattle.ir_checkpoint.proofs.Whole.{handed_pages_are_newer}
use Rattle.ir_checkpoint.proofs.Again.{has_start_cons}

-- the newest entry's pages stay, where an older one is taken away
pub in_force_taken_away : (n place : ℕ) (entries : List Entry) → AreEntries n entries → suc place < length entries → in_force (taken_away (suc place) entries) ≡ in_force entries
in_force_taken_away n place [] are lt = absurd (omega (arith, lt))
in_force_taken_away n zero (e ∷ []) are lt = absurd (omega (arith, lt))
in_force_taken_away n zero (e ∷ gone ∷ older) are lt = laid-handed e.pages gone.pages (in_force older) (are.0.pages ∙ sym are.1.0.pages)
in_force_taken_away n (suc place) (e ∷ older) are lt = ap (laid_pages e.pages) (in_force_taken_away n place older are.1 (omega (arith, lt)))

-- a list without the element at a place
abbrev pub list_without_place : {X : Type 0} → ℕ → List X → List X
list_without_place place [] = []
list_without_place zero (x ∷ xs) = xs
list_without_place (suc place) (x ∷ xs) = x ∷ list_without_place place xs

-- what is kept is what was kept, but for the one at the place
pub all_kept-taken_away : (n place : ℕ) (entries : List Entry) → AreEntries n entries → place < length entries → all_kept (taken_away place entries) ≡ list_without_place place (all_kept entries)
all_kept-taken_away n place [] are lt = absurd (omega (arith, lt))
all_kept-taken_away n zero (e ∷ older) are lt = refl
all_kept-taken_away n (suc zero) (e ∷ []) are lt = absurd (omega (arith, lt))
all_kept-taken_away n (suc zero) (e ∷ gone ∷ older) are lt = λ i. kept_of e (in_force_taken_away n zero (e ∷ gone ∷ older) are lt i) ∷ all_kept older
all_kept-taken_away n (suc (suc place)) (e ∷ older) are lt =
    λ i. kept_of e (laid_pages e.pages (in_force_taken_away n place older are.1 (omega (arith, lt)) i)) ∷ all_kept-taken_away n (suc place) older are.1 (omega (arith, lt)) i

-- ---- by its number

without_above_keeps : (n m : ℕ) (entries : List Entry) → AreBelow m entries → m ≤ n → without n (all_kept entries) ≡ all_kept entries
without_above_keeps n m [] below le = refl
without_above_keeps n m (e ∷ entries) below le =
    let other : (e.number == n) ≡ false = grind (arith, nat_tests, below.0, le) in
    let k = kept_of e (in_force (e ∷ entries)) in
    ap (λ (b : Bool). if b then without n (all_kept entries) else k ∷ without n (all_kept entries)) other
    ∙ ap (λ l. k ∷ l) (without_above_keeps n m entries below.1 le)

without_place_step : (n : ℕ) (e : Entry) (entries : List Entry) (b : Bool) → (e.number == n) ≡ b → AreBelow e.number entries
    → list_without_place (frame_place n entries) (all_kept entries) ≡ without n (all_kept entries)
    → list_without_place (if b then 0 else suc (frame_place n entries)) (all_kept (e ∷ entries))
    ≡ (if b then without n (all_kept entries) else kept_of e (in_force (e ∷ entries)) ∷ without n (all_kept entries))
without_place_step n e entries true is below same =
    let mine : e.number ≡ n = grind (arith, nat_tests, is) in
    sym (without_above_keeps n e.number entries below (omega (arith, mine)))
without_place_step n e entries false is below same = ap (λ l. kept_of e (in_force (e ∷ entries)) ∷ l) same

pub without_place_is_number : (n : ℕ) (entries : List Entry) → AreFalling entries → list_without_place (frame_place n entries) (all_kept entries) ≡ without n (all_kept entries)
without_place_is_number n [] falling = refl
without_place_is_number n (e ∷ entries) falling = without_place_step n e entries (e.number == n) refl falling.0 (without_place_is_number n entries falling.1)

-- ---- and the store stays one

taken_away_length_le : (place : ℕ) (entries : List Entry) → length (taken_away place entries) ≤ length entries
taken_away_length_le place [] = omega arith
taken_away_length_le zero (e ∷ older) = omega arith
taken_away_length_le (suc zero) (e ∷ []) = omega arith
taken_away_length_le (suc zero) (e ∷ gone ∷ older) = omega arith
taken_away_length_le (suc (suc place)) (e ∷ older) = omega (arith, taken_away_length_le (suc place) older)

taken_away_are_entries : (n place : ℕ) (entries : List Entry) → AreEntries n entries → AreEntries n (taken_away place entries)
taken_away_are_entries n place [] are = tt
taken_away_are_entries n zero (e ∷ older) are = are.1
taken_away_are_entries n (suc zero) (e ∷ []) are = are
taken_away_are_entries n (suc zero) (e ∷ gone ∷ older) are =
    (record { frames = are.0.frames; pages = length-handed e.pages gone.pages ∙ are.0.pages; cut = are.0.cut }, are.1.1)
taken_away_are_entries n (suc (suc place)) (e ∷ older) are = (are.0, taken_away_are_entries n (suc place) older are.1)

taken_away_below : (n place : ℕ) (entries : List Entry) → AreBelow n entries → AreBelow n (taken_away place entries)
taken_away_below n place [] below = tt
taken_away_below n zero (e ∷ older) below = below.1
taken_away_below n (suc zero) (e ∷ []) below = below
taken_away_below n (suc zero) (e ∷ gone ∷ older) below = (below.0, below.1.1)
taken_away_below n (suc (suc place)) (e ∷ older) below = (below.0, taken_away_below n (suc place) older below.1)

taken_away_numbers_fall : (place : ℕ) (entries : List Entry) → AreFalling entries → AreFalling (taken_away place entries)
taken_away_numbers_fall place [] falling = tt
taken_away_numbers_fall zero (e ∷ older) falling = falling.1
taken_away_numbers_fall (suc zero) (e ∷ []) falling = falling
taken_away_numbers_fall (suc zero) (e ∷ gone ∷ older) falling = (falling.0.1, falling.1.1)
taken_away_numbers_fall (suc (suc place)) (e ∷ older) falling = (taken_away_below e.number (suc place) older falling.0, taken_away_numbers_fall (suc place) older falling.1)

taken_away_is_laid : (n place : ℕ) (entries : List Entry) → place < length entries → AreEntries n entries → AreFalling entries → AreLaid entries → AreLaid (taken_away place entries)
taken_away_is_laid n place [] lt are falling lies = tt
taken_away_is_laid n zero (e ∷ older) lt are falling lies = lies.1
taken_away_is_laid n (suc zero) (e ∷ []) lt are falling lies = lies
taken_away_is_laid n (suc zero) (e ∷ gone ∷ older) lt are falling lies =
    (handed_pages_are_newer gone.number e.number e.pages gone.pages (in_force older) (omega (arith, falling.0.0)) (are.0.pages ∙ sym are.1.0.pages) lies.0 lies.1.0, lies.1.1)
taken_away_is_laid n (suc (suc place)) (e ∷ older) lt are falling lies = (
  subst (AreNewer e.number e.pages) (sym (in_force_taken_away n place older are.1 (omega (arith, lt)))) lies.0,
  taken_away_is_laid n (suc place) older (omega (arith, lt)) are.1 falling.1 lies.1,
)

taken_away_has_start : (place : ℕ) (entries : List Entry) → suc place < length entries → HasStart entries → HasStart (taken_away place entries)
taken_away_has_start place [] lt start = start
taken_away_has_start zero (e ∷ []) lt start = absurd (omega (arith, lt))
taken_away_has_start zero (e ∷ next ∷ older) lt start = start
taken_away_has_start (suc zero) (e ∷ []) lt start = start
taken_away_has_start (suc zero) (e ∷ gone ∷ []) lt start = absurd (omega (arith, lt))
taken_away_has_start (suc zero) (e ∷ gone ∷ next ∷ older) lt start = start
taken_away_has_start (suc (suc place)) (e ∷ []) lt start = absurd (omega (arith, lt))
taken_away_has_start (suc (suc place)) (e ∷ next ∷ older) lt start =
    has_start_cons e (taken_away (suc place) (next ∷ older)) (taken_away_has_start (suc place) (next ∷ older) (omega (arith, lt)) start)

-- the entry of a number other than 0 isn't the oldest
nonzero_not_last_base : (n : ℕ) (b : Bool) (e : Entry) → (e.number == n) ≡ b → e.number ≡ 0 → (n ≡ 0 → ⊥) → (if b then 0 else 1) < 1 → (if b then 0 else 1) + 1 < 1
nonzero_not_last_base n true e is zeroth later lt = absurd (later (grind (arith, nat_tests, is, zeroth)))
nonzero_not_last_base n false e is zeroth later lt = absurd (omega (arith, lt))

place_not_last_step : (n p : ℕ) (b : Bool) (older : List Entry) → (p < length older → suc p < length older) → (if b then 0 else suc p) < suc (length older) → 0 < length older
    → suc (if b then 0 else suc p) < suc (length older)
place_not_last_step n p true older more lt some = omega (arith, some)
place_not_last_step n p false older more lt some = omega (arith, more (omega (arith, lt)))

pub nonzero_not_last : (n : ℕ) (entries : List Entry) → HasStart entries → (n ≡ 0 → ⊥) → frame_place n entries < length entries → suc (frame_place n entries) < length entries
nonzero_not_last n [] start later lt = absurd start
nonzero_not_last n (e ∷ []) start later lt = omega (arith, nonzero_not_last_base n (e.number == n) e refl start.0 later lt)
nonzero_not_last n (e ∷ next ∷ older) start later lt =
    place_not_last_step n (frame_place n (next ∷ older)) (e.number == n) (next ∷ older) (nonzero_not_last n (next ∷ older) start later) lt (omega arith)

pub store_after_taken_away : (m last n : ℕ) (entries : List Entry) → IsPageStore m last entries → (n ≡ 0 → ⊥) → frame_place n entries < length entries
    → IsPageStore m last (taken_away (frame_place n entries) entries)
store_after_taken_away m last n entries store later lt =
    let place = frame_place n entries in
    record {
      few = omega (arith, store.few, taken_away_length_le place entries);
      threads = store.threads;
      each = taken_away_are_entries m place entries store.each;
      numbers = taken_away_numbers_fall place entries store.numbers;
      latest = taken_away_below (suc last) place entries store.latest;
      laid = taken_away_is_laid m place entries lt store.each store.numbers store.laid;
      start = taken_away_has_start place entries (nonzero_not_last n entries store.start later lt) store.start;
    }
