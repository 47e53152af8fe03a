-- The calls of a keeper, over its entries.
use Rattle.std.proofs.Common.{◌≡◌, ◌+◌, ◌-◌, ◌*◌, ◌<◌, ◌≤◌, ℕ, zero, suc, List, [], ◌∷◌, ◌++◌, length, take, drop, set, get_or, Some, None, option_map, refl, sym, ap, ◌∙◌, subst, arith}
use Rattle.std.proofs.lemmas.List.{take_all, length-drop}
use Rattle.std.proofs.lemmas.List.Elements.{All-head, All-cons}
use Rattle.std.proofs.lemmas.Option.{none-some, slice_get_past}
use Rattle.std.specs.List.{All, remove, slice_get}
use Rattle.ir_image.specs.Guest.{most_threads}
use Rattle.ir_fit.specs.Fit.{FittedTrace}
use Rattle.ir_weave.specs.Standing.{Standing, StandsAtCut}
use Rattle.ir_checkpoint.specs.Gathered.{HasMemory}
use Rattle.ir_checkpoint.specs.Keeping.{KeptState, most_states, Keeping, IsNew, IsLike, IsCutFor, IsNearest, after_keep, with_next, after_drop, kept_as, cut_in}
use Rattle.ir_checkpoint.specs.Store.{Entry, in_force, stored_threads, kept_of, all_kept, entry_of, taken_over, taken_away, frame_place}
use Rattle.ir_checkpoint.specs.Store.{AreEntries, AreFalling, AreLaid, AreFull, IsPageStore, IsNearestPlace, thread_count, state_of}
use Rattle.ir_checkpoint.proofs.Laid.{entry_at_place_is_entry}
use Rattle.ir_checkpoint.proofs.Whole.{whole_pages_are_full, in_force_is_whole}
use Rattle.ir_checkpoint.proofs.Again.{all_kept-entry_of, all_kept_of_start_entry, store_cons, start_entry_is_store, store_thread_count, map_steps_zero, started_is_nonempty}
use Rattle.ir_checkpoint.proofs.Dropped.{all_kept-taken_away, without_place_is_number, store_after_taken_away}
use Rattle.ir_checkpoint.proofs.Rebuilt.{state_of_drop}
use Rattle.ir_checkpoint.proofs.Found.{kept_as_found, kept_as_none_past, kept_number_within, kept_cut_of_entry, length_of_threads_of, nearest_place_is_nearest}

-- what a keeper of these entries is
abbrev pub keeping_of : List Entry → ℕ → Keeping
keeping_of entries last = record { kept = all_kept entries; last = last }

-- as many threads as each that is kept
pub kept_states_thread_count : (m last n : ℕ) (entries : List Entry) → IsPageStore m last entries → All (λ (k : KeptState). length k.state.threads ≡ n) (all_kept entries) → n ≡ m
kept_states_thread_count m last n [] store all = absurd store.start
kept_states_thread_count m last n (e ∷ older) store all =
    let first : length (stored_threads e.frames (in_force (e ∷ older))) ≡ n = All-head (λ (k : KeptState). length k.state.threads ≡ n) _ (all_kept older) all in
    sym first ∙ length_of_threads_of e.frames (in_force (e ∷ older)) ∙ store.each.0.frames

pub like_state_thread_count : (m last : ℕ) (entries : List Entry) (s : Standing) (k : Keeping) → IsPageStore m last entries → keeping_of entries last ≡ k → IsLike s k → length s.threads ≡ m
like_state_thread_count m last entries s k store view like = kept_states_thread_count m last (length s.threads) entries store (subst (IsLike s) (sym view) like)

pub keeping_cut_length : (m last : ℕ) (entries : List Entry) (cut : List ℕ) (k : Keeping) → IsPageStore m last entries → keeping_of entries last ≡ k → IsCutFor cut k → length cut ≡ m
keeping_cut_length m last entries cut k store view like = kept_states_thread_count m last (length cut) entries store (subst (IsCutFor cut) (sym view) like)

pub length_of_all_kept : (entries : List Entry) → length (all_kept entries) ≡ length entries
length_of_all_kept [] = refl
length_of_all_kept (e ∷ entries) = ap suc (length_of_all_kept entries)

-- ---- keep

all_kept_next_entry : (m last : ℕ) (s : Standing) (entries : List Entry) → IsPageStore m last entries → All HasMemory s.threads → length s.threads ≡ m
    → all_kept (entry_of (suc last) s entries ∷ entries) ≡ with_next (suc last) s (all_kept entries)
all_kept_next_entry m last s [] store all same = absurd store.start
all_kept_next_entry m last s (e ∷ older) store all same =
    all_kept-entry_of (suc last) m s e older store.each (whole_pages_are_full e.number (in_force (e ∷ older)) (in_force_is_whole m e older store.each store.numbers store.laid)) all same

-- the list with the new entry in front
abbrev pub IsNext : ℕ → Standing → List Entry → List Entry → List Entry → Entry → Type 0
IsNext last s entries slice new entry = (slice ≡ entries) × (entry ≡ entry_of (last + 1) s slice) × (new ≡ entry ∷ entries)

keep_puts_in_front : (last : ℕ) (s : Standing) (entries slice new : List Entry) (entry : Entry) → IsNext last s entries slice new entry → new ≡ entry_of (suc last) s entries ∷ entries
keep_puts_in_front last s entries slice new entry next =
    let one : last + 1 ≡ suc last = omega arith in
    next.2 ∙ (λ i. (next.1 ∙ λ j. entry_of (one j) s (next.0 j)) i ∷ entries)

pub is_store_after_keep : (m last : ℕ) (s : Standing) (entries slice new : List Entry) (entry : Entry) → IsPageStore m last entries → length entries < most_states → All HasMemory s.threads
    → length s.threads ≡ m → IsNext last s entries slice new entry → IsPageStore (thread_count new) (last + 1) new
is_store_after_keep m last s entries slice new entry store few all same next =
    let one : suc last ≡ last + 1 = omega arith in
    store_thread_count m (last + 1) new
    (subst (λ es. IsPageStore m (last + 1) es) (sym (keep_puts_in_front last s entries slice new entry next))
    (subst (λ n. IsPageStore m n (entry_of (suc last) s entries ∷ entries)) one (store_cons m last s entries store few all same)))

pub keeping_after_keep : (m last : ℕ) (s : Standing) (entries slice new : List Entry) (entry : Entry) → IsPageStore m last entries → All HasMemory s.threads
    → length s.threads ≡ m → IsNext last s entries slice new entry → keeping_of new (last + 1) ≡ after_keep s (keeping_of entries last)
keeping_after_keep m last s entries slice new entry store all same next =
    let one : last + 1 ≡ suc last = omega arith in
    let kept : all_kept new ≡ with_next (suc last) s (all_kept entries) =
    ap all_kept (keep_puts_in_front last s entries slice new entry next) ∙ all_kept_next_entry m last s entries store all same in
    λ i. record { kept = kept i; last = one i }

-- ---- new

new_has_start_only : (s : Standing) (old new : List Entry) (entry : Entry) → old ≡ [] → entry ≡ entry_of 0 s [] → new ≡ old ++ entry ∷ [] → new ≡ entry_of 0 s [] ∷ []
new_has_start_only s old new entry none made pushed = pushed ∙ λ i. none i ++ made i ∷ []

pub is_store_after_new : (f : FittedTrace) (s : Standing) (old new : List Entry) (entry : Entry) → StandsAtCut f (λ t. 0) s → All HasMemory s.threads
    → old ≡ [] → entry ≡ entry_of 0 s [] → new ≡ old ++ entry ∷ [] → IsPageStore (thread_count new) 0 new
is_store_after_new f s old new entry stands all none made pushed =
    store_thread_count (length s.threads) 0 new
    (subst (IsPageStore (length s.threads) 0) (sym (new_has_start_only s old new entry none made pushed))
    (start_entry_is_store s stands.flat.few_threads all (map_steps_zero s.threads stands.at.steps)))

pub keeping_after_new : (f : FittedTrace) (s : Standing) (old new : List Entry) (entry : Entry) → StandsAtCut f (λ t. 0) s → All HasMemory s.threads
    → old ≡ [] → entry ≡ entry_of 0 s [] → new ≡ old ++ entry ∷ [] → IsNew f (keeping_of new 0)
keeping_after_new f s old new entry stands all none made pushed =
    (s, stands, λ i. record { kept = (ap all_kept (new_has_start_only s old new entry none made pushed) ∙ all_kept_of_start_entry s all) i; last = 0 })

-- ---- by number

-- what is kept has an entry
pub kept_place_below : (n last p : ℕ) (entries slice : List Entry) (k : Keeping) → keeping_of entries last ≡ k → (kept_as n k.kept ≡ None → ⊥) → slice ≡ entries → p ≡ frame_place n slice
    → p < length entries
kept_place_below n last p entries slice k view kept same at =
    let lt : frame_place n entries < length entries = kept_number_within n entries (λ none. kept (ap (λ (x : Keeping). kept_as n x.kept) (sym view) ∙ none)) in
    omega (arith, lt, at ∙ ap (frame_place n) same)

pub is_store_after_drop : (m last n p : ℕ) (entries slice new : List Entry) → IsPageStore m last entries → (n ≡ 0 → ⊥) → p < length entries → slice ≡ entries → p ≡ frame_place n slice
    → new ≡ taken_away p entries → IsPageStore (thread_count new) last new
is_store_after_drop m last n p entries slice new store later lt same at taken =
    let place : p ≡ frame_place n entries = at ∙ ap (frame_place n) same in
    store_thread_count m last new
    (subst (IsPageStore m last) (sym (taken ∙ ap (λ q. taken_away q entries) place)) (store_after_taken_away m last n entries store later (omega (arith, lt, place))))

pub keeping_after_drop : (m last n p : ℕ) (entries slice new : List Entry) → IsPageStore m last entries → p < length entries → slice ≡ entries → p ≡ frame_place n slice
    → new ≡ taken_away p entries → keeping_of new last ≡ after_drop n (keeping_of entries last)
keeping_after_drop m last n p entries slice new store lt same at taken =
    let place : p ≡ frame_place n entries = at ∙ ap (frame_place n) same in
    let e : new ≡ taken_away (frame_place n entries) entries = taken ∙ ap (λ q. taken_away q entries) place in
    let kept = ap all_kept e ∙ all_kept-taken_away m (frame_place n entries) entries store.each (omega (arith, lt, place)) ∙ without_place_is_number n entries store.numbers in
    λ i. record { kept = kept i; last = last }

-- the cut that is kept as n, or none
pub found_cut_is_kept : (m n : ℕ) (entries : List Entry) (d : Entry) → AreEntries m entries → frame_place n entries < length entries
    → Some (get_or entries (frame_place n entries) d).cut ≡ option_map cut_in (kept_as n (all_kept entries))
found_cut_is_kept m n entries d are lt =
    ap Some (sym (kept_cut_of_entry m (frame_place n entries) entries d (in_force (drop (frame_place n entries) entries)) are lt))
    ∙ ap (option_map cut_in) (sym (kept_as_found n entries d lt))

pub no_cut_past_entries : (n : ℕ) (entries : List Entry) → length entries ≤ frame_place n entries → None ≡ option_map cut_in (kept_as n (all_kept entries))
no_cut_past_entries n entries le = ap (option_map cut_in) (sym (kept_as_none_past n entries le))

-- ---- what lies there

pub are_entries_after_drop : (m k : ℕ) (entries : List Entry) → AreEntries m entries → AreEntries m (drop k entries)
are_entries_after_drop m zero entries are = are
are_entries_after_drop m (suc k) [] are = are
are_entries_after_drop m (suc k) (e ∷ entries) are = are_entries_after_drop m k entries are.1

in_force_full_after_drop : (m k : ℕ) (entries : List Entry) → AreEntries m entries → AreFalling entries → AreLaid entries → AreFull (in_force (drop k entries))
in_force_full_after_drop m zero [] are falling lies = tt
in_force_full_after_drop m zero (e ∷ older) are falling lies = whole_pages_are_full e.number (in_force (e ∷ older)) (in_force_is_whole m e older are falling lies)
in_force_full_after_drop m (suc k) [] are falling lies = tt
in_force_full_after_drop m (suc k) (e ∷ older) are falling lies = in_force_full_after_drop m k older are.1 falling.1 lies.1

pub store_full_after_drop : (m last k : ℕ) (entries : List Entry) → IsPageStore m last entries → AreFull (in_force (drop k entries))
store_full_after_drop m last k entries store = in_force_full_after_drop m k entries store.each store.numbers store.laid

-- a slice of the entries from a place on
abbrev pub from_place : ℕ → List Entry → List Entry
from_place p slice = take (length slice - p) (drop p slice)

pub from_place_is_drop : (p : ℕ) (entries slice : List Entry) → slice ≡ entries → from_place p slice ≡ drop p entries
from_place_is_drop p entries slice same = take_all (length slice - p) (drop p slice) (omega (arith, length-drop p slice)) ∙ ap (drop p) same

thread_count_drop : (m p : ℕ) (entries : List Entry) → AreEntries m entries → p < length entries → thread_count (drop p entries) ≡ m
thread_count_drop m p [] are lt = absurd (omega (arith, lt))
thread_count_drop m zero (e ∷ entries) are lt = are.0.frames
thread_count_drop m (suc p) (e ∷ entries) are lt = thread_count_drop m p entries are.1 (omega (arith, lt))

-- what the entries from a place on keep
pub record AreOlderEntries (l : List Entry) : Type 0 where
  pub some : 0 < length l
  pub few : thread_count l ≤ most_threads
  pub each : AreEntries (thread_count l) l
  pub full : AreFull (in_force l)

drop_is_older_entries : (m last p : ℕ) (entries : List Entry) → IsPageStore m last entries → p < length entries → AreOlderEntries (drop p entries)
drop_is_older_entries m last p entries store lt =
    let count : thread_count (drop p entries) ≡ m = thread_count_drop m p entries store.each lt in
    record {
      some = omega (arith, length-drop p entries, lt);
      few = omega (arith, count, store.threads);
      each = subst (λ n. AreEntries n (drop p entries)) (sym count) (are_entries_after_drop m p entries store.each);
      full = store_full_after_drop m last p entries store;
    }

pub slice_is_older_entries : (m last p : ℕ) (entries slice : List Entry) → IsPageStore m last entries → p < length entries → slice ≡ entries → AreOlderEntries (from_place p slice)
slice_is_older_entries m last p entries slice store lt same = subst AreOlderEntries (sym (from_place_is_drop p entries slice same)) (drop_is_older_entries m last p entries store lt)

abbrev no_entry : Entry
no_entry = record { number = 0; cut = []; frames = []; objects = []; pages = [] }

-- the state that is kept as n
pub place_state_is_kept : (last n p : ℕ) (entries slice : List Entry) (k : Keeping) (state : Standing) → keeping_of entries last ≡ k → slice ≡ entries → p ≡ frame_place n slice → p < length entries
    → state ≡ state_of (from_place p slice) → option_map (λ (x : KeptState). x.state) (kept_as n k.kept) ≡ Some state
place_state_is_kept last n p entries slice k state view same at lt is =
    let i = frame_place n entries in
    let place : p ≡ i = at ∙ ap (frame_place n) same in
    let below : i < length entries = omega (arith, lt, place) in
    let mine : state ≡ state_of (drop i entries) = is ∙ ap state_of (from_place_is_drop p entries slice same) ∙ ap (λ q. state_of (drop q entries)) place in
    ap (λ (x : Keeping). option_map (λ (y : KeptState). y.state) (kept_as n x.kept)) (sym view)
    ∙ ap (option_map (λ (y : KeptState). y.state)) (kept_as_found n entries no_entry below)
    ∙ ap Some (sym (mine ∙ state_of_drop entries i no_entry below))

-- the cut that is kept as n
pub place_cut_is_kept : (m last n p : ℕ) (entries slice : List Entry) (d : Entry) (k : Keeping) (cut : List ℕ) → IsPageStore m last entries
    → keeping_of entries last ≡ k → slice ≡ entries → p ≡ frame_place n slice
    → p < length entries → cut ≡ (get_or entries p d).cut → Some cut ≡ option_map cut_in (kept_as n k.kept)
place_cut_is_kept m last n p entries slice d k cut store view same at lt is =
    let place : p ≡ frame_place n entries = at ∙ ap (frame_place n) same in
    ap Some (is ∙ ap (λ q. (get_or entries q d).cut) place) ∙ found_cut_is_kept m n entries d store.each (omega (arith, lt, place))
    ∙ ap (λ (x : Keeping). option_map cut_in (kept_as n x.kept)) view

pub no_cut_past_slice : (last n p : ℕ) (entries slice : List Entry) (k : Keeping) → keeping_of entries last ≡ k → slice ≡ entries → p ≡ frame_place n slice → length entries ≤ p
    → None ≡ option_map cut_in (kept_as n k.kept)
no_cut_past_slice last n p entries slice k view same at le =
    let place : p ≡ frame_place n entries = at ∙ ap (frame_place n) same in
    no_cut_past_entries n entries (omega (arith, le, place)) ∙ ap (λ (x : Keeping). option_map cut_in (kept_as n x.kept)) view

pub number_at_nearest_place : (m last place number : ℕ) (entries slice : List Entry) (cut positions : List ℕ) (d : Entry) (k : Keeping)
    → IsPageStore m last entries → keeping_of entries last ≡ k → slice ≡ entries
    → positions ≡ cut → IsNearestPlace positions slice place → number ≡ (get_or entries place d).number → IsNearest cut k number
number_at_nearest_place m last place number entries slice cut positions d k store view same here best is =
    let mine : IsNearestPlace cut entries place = subst (λ l. IsNearestPlace cut l place) same (subst (λ c. IsNearestPlace c slice place) here best) in
    subst (λ x. IsNearest cut x number) view
    (subst (IsNearest cut (keeping_of entries last)) (sym is) (nearest_place_is_nearest m last entries cut place d store.each store.numbers mine))

-- the pages of the entry that is taken away go to the one before it
taken_away_by_set : (place : ℕ) (entries : List Entry) (d f : Entry) → suc place < length entries
    → set (remove entries (suc place)) place (taken_over (get_or (remove entries (suc place)) place d) (get_or entries (suc place) f)) ≡ taken_away (suc place) entries
taken_away_by_set place [] d f lt = absurd (omega (arith, lt))
taken_away_by_set zero (e ∷ []) d f lt = absurd (omega (arith, lt))
taken_away_by_set zero (e ∷ gone ∷ older) d f lt = refl
taken_away_by_set (suc place) (e ∷ entries) d f lt = ap (λ l. e ∷ l) (taken_away_by_set place entries d f (omega (arith, lt)))

newer_page_count : (n place : ℕ) (entries : List Entry) (d : Entry) → AreEntries n entries → suc place < length entries → length (get_or (remove entries (suc place)) place d).pages ≡ 16 * n
newer_page_count n place [] d are lt = absurd (omega (arith, lt))
newer_page_count n zero (e ∷ entries) d are lt = are.0.pages
newer_page_count n (suc place) (e ∷ entries) d are lt = newer_page_count n place entries d are.1 (omega (arith, lt))

positive_is_suc : (place : ℕ) → 0 < place → place ≡ suc (place - 1)
positive_is_suc place some = omega (arith, some)

pub neighbour_page_counts : (n place : ℕ) (entries left : List Entry) (newer gone : Entry) → AreEntries n entries → 0 < place → place < length entries → left ≡ remove entries place
    → newer ≡ get_or left (place - 1) newer → gone ≡ get_or entries place gone → length newer.pages ≡ length gone.pages
neighbour_page_counts n place entries left newer gone are some lt rest is was =
    let p = place - 1 in
    let next : place ≡ suc p = positive_is_suc place some in
    let mine : length newer.pages ≡ 16 * n =
    ap (λ (e : Entry). length e.pages) (is ∙ ap (λ l. get_or l p newer) (rest ∙ ap (remove entries) next)) ∙ newer_page_count n p entries newer are (omega (arith, lt, next)) in
    let theirs : length gone.pages ≡ 16 * n = ap (λ (e : Entry). length e.pages) was ∙ (entry_at_place_is_entry n entries place gone are lt).pages in
    mine ∙ sym theirs

pub taken_away_by_take_over : (place : ℕ) (entries left : List Entry) (newer gone after : Entry) → 0 < place → place < length entries → left ≡ remove entries place
    → newer ≡ get_or left (place - 1) newer → gone ≡ get_or entries place gone → after ≡ taken_over newer gone
    → set left (place - 1) after ≡ taken_away place entries
taken_away_by_take_over place entries left newer gone after some lt rest is was made =
    let p = place - 1 in
    let next : place ≡ suc p = positive_is_suc place some in
    let others : left ≡ remove entries (suc p) = rest ∙ ap (remove entries) next in
    let mine : newer ≡ get_or (remove entries (suc p)) p newer = is ∙ ap (λ l. get_or l p newer) others in
    let theirs : gone ≡ get_or entries (suc p) gone = was ∙ ap (λ k. get_or entries k gone) next in
    (λ i. set (others i) p ((made ∙ λ j. taken_over (mine j) (theirs j)) i))
    ∙ taken_away_by_set p entries newer gone (omega (arith, lt, next)) ∙ ap (λ k. taken_away k entries) (sym next)

-- as many threads as the newest entry
kept_thread_count : (m : ℕ) (entries : List Entry) → AreEntries m entries → All (λ (k : KeptState). length k.state.threads ≡ m) (all_kept entries)
kept_thread_count m [] are = λ k d lt. absurd (omega (arith, lt))
kept_thread_count m (e ∷ older) are =
    All-cons (λ (k : KeptState). length k.state.threads ≡ m) (kept_of e (in_force (e ∷ older))) (all_kept older)
    (length_of_threads_of e.frames (in_force (e ∷ older)) ∙ are.0.frames) (kept_thread_count m older are.1)

pub kept_count_is_newest : (m last n : ℕ) (entries : List Entry) (d : Entry) (k : Keeping) → IsPageStore m last entries → keeping_of entries last ≡ k → n ≡ length (get_or entries 0 d).frames
    → All (λ (x : KeptState). length x.state.threads ≡ n) k.kept
kept_count_is_newest m last n entries d k store view is =
    let count : n ≡ m = is ∙ (entry_at_place_is_entry m entries 0 d store.each (started_is_nonempty entries store.start)).frames in
    subst (λ (x : Keeping). All (λ (y : KeptState). length y.state.threads ≡ n) x.kept) view
    (subst (λ x. All (λ (y : KeptState). length y.state.threads ≡ x) (all_kept entries)) (sym count) (kept_thread_count m entries store.each))

-- a number is kept where its entry is found
pub number_within_is_kept : (last n p : ℕ) (entries slice : List Entry) (k : Keeping) → keeping_of entries last ≡ k → slice ≡ entries → p ≡ frame_place n slice → p < length entries
    → kept_as n k.kept ≡ None → ⊥
number_within_is_kept last n p entries slice k view same at lt none =
    let place : p ≡ frame_place n entries = at ∙ ap (frame_place n) same in
    none-some _ (sym none ∙ ap (λ (x : Keeping). kept_as n x.kept) (sym view) ∙ kept_as_found n entries no_entry (omega (arith, lt, place)))

pub past_end_not_kept : (last n p : ℕ) (entries slice : List Entry) (k : Keeping) → keeping_of entries last ≡ k → slice ≡ entries → p ≡ frame_place n slice → length entries ≤ p
    → kept_as n k.kept ≡ None
past_end_not_kept last n p entries slice k view same at le =
    let place : p ≡ frame_place n entries = at ∙ ap (frame_place n) same in
    ap (λ (x : Keeping). kept_as n x.kept) (sym view) ∙ kept_as_none_past n entries (omega (arith, le, place))

-- ---- numbers by their places

kept_number_at_place : (place : ℕ) (entries : List Entry) (d : Entry) → place < length entries
    → option_map (λ (x : KeptState). x.number) (slice_get (all_kept entries) place) ≡ Some (get_or entries place d).number
kept_number_at_place place [] d lt = absurd (omega (arith, lt))
kept_number_at_place zero (e ∷ entries) d lt = refl
kept_number_at_place (suc place) (e ∷ entries) d lt = kept_number_at_place place entries d (omega (arith, lt))

pub entry_number_is_kept : (last place number : ℕ) (entries : List Entry) (d : Entry) (k : Keeping) → keeping_of entries last ≡ k
    → place < length entries → number ≡ (get_or entries place d).number
    → Some number ≡ option_map (λ (x : KeptState). x.number) (slice_get k.kept place)
entry_number_is_kept last place number entries d k view lt is =
    ap Some is ∙ sym (kept_number_at_place place entries d lt)
    ∙ ap (λ (x : Keeping). option_map (λ (y : KeptState). y.number) (slice_get x.kept place)) view

pub no_kept_number_past_end : (last place : ℕ) (entries : List Entry) (k : Keeping) → keeping_of entries last ≡ k → length entries ≤ place
    → None ≡ option_map (λ (x : KeptState). x.number) (slice_get k.kept place)
no_kept_number_past_end last place entries k view le =
    sym (ap (option_map (λ (x : KeptState). x.number)) (slice_get_past (all_kept entries) place (omega (arith, le, length_of_all_kept entries))))
    ∙ ap (λ (x : Keeping). option_map (λ (y : KeptState). y.number) (slice_get x.kept place)) view
