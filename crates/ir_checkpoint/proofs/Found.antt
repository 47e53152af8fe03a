-- Entries and what they keep, by their numbers.
use Rattle.std.proofs.Common.{◌≡◌, ◌==◌, ◌<◌, ◌≤◌, ◌&&◌, ℕ, zero, suc, Bool, true, false, nat_le, if◌then◌else◌, List, [], ◌∷◌, length, map}
use Rattle.std.proofs.Common.{drop, get_or, Option, Some, None, refl, sym, ap, ◌∙◌, arith, inl, inr}
use Rattle.std.proofs.lemmas.Bool.{cases_lt}
use Rattle.std.proofs.lemmas.List.{length-map}
use Rattle.std.proofs.lemmas.Bool.Decides.{nat_tests}
use Rattle.std.proofs.lemmas.Option.{none-some}
use Rattle.ir_thread.specs.Frames.{ThreadFrame}
use Rattle.ir_thread.specs.State as thread
use Rattle.ir_checkpoint.specs.Keeping.{KeptState, kept_as, cut_in, is_below, total, IsNearest}
use Rattle.ir_checkpoint.specs.Store.{Page, Entry, in_force, stored_threads, kept_of, all_kept, frame_place, AreEntries, AreBelow, AreFalling, AreZero, HasStart, IsNearestPlace}
use Rattle.ir_checkpoint.proofs.Laid.{entry_at_place_is_entry}

pub place_of_at_most_length : (n : ℕ) (entries : List Entry) → frame_place n entries ≤ length entries
place_of_at_most_length n [] = omega arith
place_of_at_most_length n (e ∷ entries) = one_le (e.number == n) (place_of_at_most_length n entries)
  where
    one_le : (b : Bool) {p q : ℕ} → p ≤ q → (if b then 0 else suc p) ≤ suc q
    one_le true le = omega arith
    one_le false le = omega (arith, le)

kept_as_found_step : (n : ℕ) (e d : Entry) (entries : List Entry) (b : Bool)
    → (frame_place n entries < length entries → kept_as n (all_kept entries) ≡ Some (kept_of (get_or entries (frame_place n entries) d) (in_force (drop (frame_place n entries) entries))))
    → (if b then 0 else suc (frame_place n entries)) < suc (length entries)
    → (if b then Some (kept_of e (in_force (e ∷ entries))) else kept_as n (all_kept entries))
    ≡ Some (kept_of (get_or (e ∷ entries) (if b then 0 else suc (frame_place n entries)) d) (in_force (drop (if b then 0 else suc (frame_place n entries)) (e ∷ entries))))
kept_as_found_step n e d entries true more lt = refl
kept_as_found_step n e d entries false more lt = more (omega (arith, lt))

-- the kept cut of a number is that of its entry
pub kept_as_found : (n : ℕ) (entries : List Entry) (d : Entry) → frame_place n entries < length entries
    → kept_as n (all_kept entries) ≡ Some (kept_of (get_or entries (frame_place n entries) d) (in_force (drop (frame_place n entries) entries)))
kept_as_found n [] d lt = absurd (omega (arith, lt))
kept_as_found n (e ∷ entries) d lt = kept_as_found_step n e d entries (e.number == n) (kept_as_found n entries d) lt

kept_as_is_none_step : (b : Bool) (k : KeptState) (p q : ℕ) (o : Option KeptState) → (q ≤ p → o ≡ None) → suc q ≤ (if b then 0 else suc p) → (if b then Some k else o) ≡ None
kept_as_is_none_step true k p q o more le = absurd (omega (arith, le))
kept_as_is_none_step false k p q o more le = more (omega (arith, le))

pub kept_as_none_past : (n : ℕ) (entries : List Entry) → length entries ≤ frame_place n entries → kept_as n (all_kept entries) ≡ None
kept_as_none_past n [] le = refl
kept_as_none_past n (e ∷ entries) le =
    kept_as_is_none_step (e.number == n) (kept_of e (in_force (e ∷ entries))) (frame_place n entries) (length entries) (kept_as n (all_kept entries)) (kept_as_none_past n entries) le

-- what is kept has an entry
pub kept_number_within : (n : ℕ) (entries : List Entry) → (kept_as n (all_kept entries) ≡ None → ⊥) → frame_place n entries < length entries
kept_number_within n entries kept = elim (cases_lt (frame_place n entries) (length entries)) [
  | inl lt ↦ lt
  | inr le ↦ absurd (kept (kept_as_none_past n entries le))
]

number_at_place_below : (n i : ℕ) (entries : List Entry) (d : Entry) → AreBelow n entries → i < length entries → (get_or entries i d).number < n
number_at_place_below n i [] d below lt = absurd (omega (arith, lt))
number_at_place_below n zero (e ∷ entries) d below lt = below.0
number_at_place_below n (suc i) (e ∷ entries) d below lt = number_at_place_below n i entries d below.1 (omega (arith, lt))

-- the entry at a place is kept under its number
pub kept_as_finds_own_number : (i : ℕ) (entries : List Entry) (d : Entry) → AreFalling entries → i < length entries
    → kept_as (get_or entries i d).number (all_kept entries) ≡ Some (kept_of (get_or entries i d) (in_force (drop i entries)))
kept_as_finds_own_number i [] d falling lt = absurd (omega (arith, lt))
kept_as_finds_own_number zero (e ∷ entries) d falling lt =
    let same : (e.number == e.number) ≡ true = grind (arith, nat_tests) in
    ap (λ (b : Bool). if b then Some (kept_of e (in_force (e ∷ entries))) else kept_as e.number (all_kept entries)) same
kept_as_finds_own_number (suc i) (e ∷ entries) d falling lt =
    let n = (get_or entries i d).number in
    let less : n < e.number = number_at_place_below e.number i entries d falling.0 (omega (arith, lt)) in
    let other : (e.number == n) ≡ false = grind (arith, nat_tests, less) in
    ap (λ (b : Bool). if b then Some (kept_of e (in_force (e ∷ entries))) else kept_as n (all_kept entries)) other
    ∙ kept_as_finds_own_number i entries d falling.1 (omega (arith, lt))

frame_threads_steps : (frames : List ThreadFrame) (pages : List Page) → map (λ (t : thread.ThreadState). t.steps) (stored_threads frames pages) ≡ map (λ (f : ThreadFrame). f.steps) frames
frame_threads_steps [] pages = refl
frame_threads_steps (frame ∷ frames) pages = ap (λ l. frame.steps ∷ l) (frame_threads_steps frames (drop 16 pages))

-- the cut of what is kept
pub kept_cut_of_entry : (m i : ℕ) (entries : List Entry) (d : Entry) (pages : List Page) → AreEntries m entries → i < length entries
    → cut_in (kept_of (get_or entries i d) pages) ≡ (get_or entries i d).cut
kept_cut_of_entry m i entries d pages are lt =
    frame_threads_steps (get_or entries i d).frames pages ∙ sym (entry_at_place_is_entry m entries i d are lt).cut

pub length_of_threads_of : (frames : List ThreadFrame) (pages : List Page) → length (stored_threads frames pages) ≡ length frames
length_of_threads_of [] pages = refl
length_of_threads_of (frame ∷ frames) pages = ap suc (length_of_threads_of frames (drop 16 pages))

pub length-entry_cut : (m i : ℕ) (entries : List Entry) (d : Entry) → AreEntries m entries → i < length entries → length (get_or entries i d).cut ≡ m
length-entry_cut m i entries d are lt =
    let e = entry_at_place_is_entry m entries i d are lt in
    ap length e.cut ∙ length-map (get_or entries i d).frames (λ (f : ThreadFrame). f.steps) ∙ e.frames

-- ---- the nearest

zero_cut_is_below : (low high : List ℕ) → AreZero low → length low ≡ length high → is_below low high ≡ true
zero_cut_is_below [] high zeros same = refl
zero_cut_is_below (a ∷ low) [] zeros same = absurd (omega (arith, same))
zero_cut_is_below (a ∷ low) (b ∷ high) zeros same =
    let none : nat_le a b ≡ true = grind (arith, nat_tests, zeros.0) in
    ap (λ (x : Bool). x && is_below low high) none ∙ zero_cut_is_below low high zeros.1 (omega (arith, same))

total_of_zero_cut : (cut : List ℕ) → AreZero cut → total cut ≡ 0
total_of_zero_cut [] zeros = refl
total_of_zero_cut (a ∷ cut) zeros = omega (arith, zeros.0, total_of_zero_cut cut zeros.1)

oldest_cut_is_zero : (entries : List Entry) (d : Entry) (p : ℕ) → HasStart entries → suc p ≡ length entries → AreZero (get_or entries p d).cut
oldest_cut_is_zero [] d p start at = absurd start
oldest_cut_is_zero (e ∷ []) d zero start at = start.1
oldest_cut_is_zero (e ∷ []) d (suc p) start at = absurd (omega (arith, at))
oldest_cut_is_zero (e ∷ next ∷ older) d zero start at = absurd (omega (arith, at))
oldest_cut_is_zero (e ∷ next ∷ older) d (suc p) start at = oldest_cut_is_zero (next ∷ older) d p start (omega (arith, at))

-- the start is below each cut
pub oldest_cut_below_all : (m : ℕ) (entries : List Entry) (d : Entry) (p : ℕ) (cut : List ℕ) → AreEntries m entries → HasStart entries → suc p ≡ length entries → length cut ≡ m
    → (is_below (get_or entries p d).cut cut ≡ true) × (total (get_or entries p d).cut ≡ 0)
oldest_cut_below_all m entries d p cut are start at same =
    let zeros : AreZero (get_or entries p d).cut = oldest_cut_is_zero entries d p start at in (
      zero_cut_is_below (get_or entries p d).cut cut zeros (length-entry_cut m p entries d are (omega (arith, at)) ∙ sym same),
      total_of_zero_cut (get_or entries p d).cut zeros,
    )

-- the nearest entry's number is the nearest kept cut's
pub nearest_place_is_nearest : (m last : ℕ) (entries : List Entry) (cut : List ℕ) (place : ℕ) (d : Entry) → AreEntries m entries → AreFalling entries → IsNearestPlace cut entries place
    → IsNearest cut (record { kept = all_kept entries; last = last }) (get_or entries place d).number
nearest_place_is_nearest m last entries cut place d are falling best =
    let mine = kept_of (get_or entries place d) (in_force (drop place entries)) in
    let own : cut_in mine ≡ (get_or entries place d).cut = kept_cut_of_entry m place entries d (in_force (drop place entries)) are best.there in
    record {
      one = mine;
      kept = kept_as_finds_own_number place entries d falling best.there;
      below = ap (λ c. is_below c cut) own ∙ best.below d;
      nearest =
          λ n other is below.
          let i = frame_place n entries in
          let lt : i < length entries = kept_number_within n entries (λ none. none-some other (sym none ∙ is)) in
          let found = kept_of (get_or entries i d) (in_force (drop i entries)) in
          let both : Some other ≡ Some found = sym is ∙ kept_as_found n entries d lt in
          let same : other ≡ found = cc both in
          let theirs : cut_in other ≡ (get_or entries i d).cut = ap cut_in same ∙ kept_cut_of_entry m i entries d (in_force (drop i entries)) are lt in
          let low : total (get_or entries i d).cut ≤ total (get_or entries place d).cut = best.nearest i d lt (ap (λ c. is_below c cut) (sym theirs) ∙ below) in
          omega (arith, low, ap total theirs, ap total own);
    }
