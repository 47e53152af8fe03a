-- A state's entry keeps that state.
use Rattle.std.proofs.Common.{◌≡◌, ◌*◌, ◌<◌, ◌≤◌, ℕ, suc, Bool, true, false, if◌then◌else◌, List, [], ◌∷◌, ◌++◌, length, map, flat_map, take, drop, Some, None, refl, sym, ap, ◌∙◌, subst, arith}
use Rattle.std.proofs.lemmas.List.{length-map, take_at, drop_at, take-map, drop-map, map-append, take-append-drop, length-drop}
use Rattle.std.proofs.lemmas.List.Elements.{All-head, All-tail, All-append}
use Rattle.std.specs.List.{All, slice_index_or}
use Rattle.ir_image.specs.Guest.{most_threads}
use Rattle.ir_mach.specs.Core.{Core, memory_size}
use Rattle.ir_mach.specs.Pages.{IsPage, pages_of}
use Rattle.ir_mach.proofs.CallerLemmas as mach
use Rattle.ir_thread.specs.State as thread
use Rattle.ir_thread.specs.Frames.{ThreadFrame, frame_of, framed_thread}
use Rattle.ir_flat.specs.Flat.{idle}
use Rattle.ir_weave.specs.Standing.{Standing}
use Rattle.ir_checkpoint.specs.Pages.{all_pages, next_sources, same_bytes}
use Rattle.ir_checkpoint.specs.Keeping.{most_states, first_kept, with_next}
use Rattle.ir_checkpoint.specs.Gathered.{HasMemory}
use Rattle.ir_checkpoint.specs.Store.{Page, Entry, blank, newer, laid_pages, in_force, stored_threads, all_kept, changed, entry_of, IsEntry}
use Rattle.ir_checkpoint.specs.Store.{AreEntries, AreBelow, AreWhole, AreFull, AreZero, HasStart, IsPageStore, thread_count}
use Rattle.ir_checkpoint.proofs.Laid.{changed_pages_bytes, changed_pages_sources}
use Rattle.ir_checkpoint.proofs.Places.{length-all_pages}
use Rattle.ir_checkpoint.proofs.Whole.{length-in_force, in_force_is_whole, dropped_pages_are_full, first_sixteen_pages, changed_pages_are_newer, changed_over_none_newer}

abbrev with_core : thread.ThreadState → Core → thread.ThreadState
with_core s core = record s { core = core }

abbrev bytes_of : List Page → List (List ℕ)
bytes_of pages = map (λ (p : Page). p.bytes) pages

-- threads of their own frames and pages
pub threads_of-frames : (threads : List thread.ThreadState) (pages : List Page) → All HasMemory threads → bytes_of pages ≡ all_pages threads
    → stored_threads (map frame_of threads) pages ≡ threads
threads_of-frames [] pages all e = refl
threads_of-frames (t ∷ threads) pages all e =
    let size : length t.core.memory ≡ memory_size = All-head HasMemory t threads all in
    let count : length (pages_of t.core.memory) ≡ 16 = (mach.pages_of_are_pages t.core.memory size).count in
    let mine : bytes_of (take 16 pages) ≡ pages_of t.core.memory =
    sym (take-map (λ (p : Page). p.bytes) 16 pages) ∙ ap (take 16) e ∙ take_at (pages_of t.core.memory) (all_pages threads) 16 count in
    let rest : bytes_of (drop 16 pages) ≡ all_pages threads =
    sym (drop-map (λ (p : Page). p.bytes) 16 pages) ∙ ap (drop 16) e ∙ drop_at (pages_of t.core.memory) (all_pages threads) 16 count in
    let one : framed_thread (frame_of t) (bytes_of (take 16 pages)) ≡ t =
    ap (framed_thread (frame_of t)) mine ∙ ap (with_core t) (mach.core_of_own_pages t.core size) in
    λ i. one i ∷ threads_of-frames threads (drop 16 pages) (All-tail HasMemory t threads all) rest i

-- the pages of threads of pages
pub all_pages-threads_of : (frames : List ThreadFrame) (pages : List Page) → AreFull pages → length pages ≡ 16 * length frames
    → all_pages (stored_threads frames pages) ≡ bytes_of pages
all_pages-threads_of [] [] full same = refl
all_pages-threads_of [] (page ∷ pages) full same = absurd (omega (arith, same))
all_pages-threads_of (frame ∷ frames) pages full same =
    let first : pages_of (flat_map (λ (page : List ℕ). page) (bytes_of (take 16 pages))) ≡ bytes_of (take 16 pages) =
    mach.pages_of_joined_pages (bytes_of (take 16 pages)) (first_sixteen_pages pages full (omega (arith, same))) in
    let rest : all_pages (stored_threads frames (drop 16 pages)) ≡ bytes_of (drop 16 pages) =
    all_pages-threads_of frames (drop 16 pages) (dropped_pages_are_full 16 pages full) (omega (arith, length-drop 16 pages, same)) in
    (λ i. first i ++ rest i) ∙ sym (map-append (λ (p : Page). p.bytes) (take 16 pages) (drop 16 pages)) ∙ ap bytes_of (take-append-drop 16 pages)

-- the entry of a state over older ones
pub all_kept-entry_of : (n m : ℕ) (s : Standing) (entry : Entry) (older : List Entry) → AreEntries m (entry ∷ older) → AreFull (in_force (entry ∷ older))
    → All HasMemory s.threads → length s.threads ≡ m
    → all_kept (entry_of n s (entry ∷ older) ∷ entry ∷ older) ≡ with_next n s (all_kept (entry ∷ older))
all_kept-entry_of n m s entry older are full all same =
    let old = in_force (entry ∷ older) in
    let news = all_pages s.threads in
    let many : length old ≡ 16 * m = length-in_force m entry older are in
    let sources : map (λ (p : Page). p.source) (laid_pages (changed n news old) old) ≡ next_sources n news (all_pages (stored_threads entry.frames old)) (map (λ (p : Page). p.source) old) =
    changed_pages_sources n news old (omega (arith, length-all_pages s.threads, same, many))
    ∙ ap (λ l. next_sources n news l (map (λ (p : Page). p.source) old)) (sym (all_pages-threads_of entry.frames old full (omega (arith, many, are.0.frames)))) in
    let threads : stored_threads (map frame_of s.threads) (laid_pages (changed n news old) old) ≡ s.threads =
    threads_of-frames s.threads (laid_pages (changed n news old) old) all (changed_pages_bytes n news old) in
    λ i. record { number = n; state = record { threads = threads i; objects = s.objects }; sources = sources i } ∷ all_kept (entry ∷ older)

newer_blank_source_zero : (b : Bool) (bytes : List ℕ) → (newer (if b then None else Some (record { source = 0; bytes = bytes })) blank).source ≡ 0
newer_blank_source_zero true bytes = refl
newer_blank_source_zero false bytes = refl

laid_start_sources_zero : (news : List (List ℕ)) → map (λ (p : Page). p.source) (laid_pages (changed 0 news []) []) ≡ map (λ _. 0) news
laid_start_sources_zero [] = refl
laid_start_sources_zero (bytes ∷ news) = λ i. newer_blank_source_zero (same_bytes bytes []) bytes i ∷ laid_start_sources_zero news i

-- the entry of the start
pub all_kept_of_start_entry : (s : Standing) → All HasMemory s.threads → all_kept (entry_of 0 s [] ∷ []) ≡ first_kept s ∷ []
all_kept_of_start_entry s all =
    let news = all_pages s.threads in
    let threads : stored_threads (map frame_of s.threads) (laid_pages (changed 0 news []) []) ≡ s.threads =
    threads_of-frames s.threads (laid_pages (changed 0 news []) []) all (changed_pages_bytes 0 news []) in
    λ i. record { number = 0; state = record { threads = threads i; objects = s.objects }; sources = laid_start_sources_zero news i } ∷ []

-- ---- and the store stays one

all_pages_are_pages : (threads : List thread.ThreadState) → All HasMemory threads → All IsPage (all_pages threads)
all_pages_are_pages [] all = λ k d lt. absurd (omega (arith, lt))
all_pages_are_pages (t ∷ threads) all =
    All-append IsPage (pages_of t.core.memory) (all_pages threads) (mach.pages_of_are_pages t.core.memory (All-head HasMemory t threads all)).sizes
    (all_pages_are_pages threads (All-tail HasMemory t threads all))

length-changed : (n : ℕ) (news : List (List ℕ)) (old : List Page) → length (changed n news old) ≡ length news
length-changed n [] old = refl
length-changed n (bytes ∷ news) [] = ap suc (length-changed n news [])
length-changed n (bytes ∷ news) (q ∷ old) = ap suc (length-changed n news old)

thread_steps_of_frames : (threads : List thread.ThreadState) → map (λ (t : thread.ThreadState). t.steps) threads ≡ map (λ (f : ThreadFrame). f.steps) (map frame_of threads)
thread_steps_of_frames [] = refl
thread_steps_of_frames (t ∷ threads) = ap (λ l. t.steps ∷ l) (thread_steps_of_frames threads)

entry_of_is_entry : (n m : ℕ) (s : Standing) (older : List Entry) → length s.threads ≡ m → IsEntry m (entry_of n s older)
entry_of_is_entry n m s older same = record {
  frames = length-map s.threads frame_of ∙ same;
  pages = length-changed n (all_pages s.threads) (in_force older) ∙ length-all_pages s.threads ∙ ap (λ k. 16 * k) same;
  cut = thread_steps_of_frames s.threads;
}

below_suc_entries : (n : ℕ) (entries : List Entry) → AreBelow n entries → AreBelow (suc n) entries
below_suc_entries n [] below = tt
below_suc_entries n (entry ∷ entries) below = (omega (arith, below.0), below_suc_entries n entries below.1)

pub has_start_cons : (entry : Entry) (older : List Entry) → HasStart older → HasStart (entry ∷ older)
has_start_cons entry [] start = absurd start
has_start_cons entry (next ∷ older) start = start

pub started_is_nonempty : (entries : List Entry) → HasStart entries → 0 < length entries
started_is_nonempty [] start = absurd start
started_is_nonempty (entry ∷ older) start = omega arith

pub store_cons : (m last : ℕ) (s : Standing) (entries : List Entry) → IsPageStore m last entries → length entries < most_states → All HasMemory s.threads → length s.threads ≡ m
    → IsPageStore m (suc last) (entry_of (suc last) s entries ∷ entries)
store_cons m last s [] store few all same = absurd store.start
store_cons m last s (entry ∷ older) store few all same =
    let whole : AreWhole entry.number (in_force (entry ∷ older)) = in_force_is_whole m entry older store.each store.numbers store.laid in
    let many : length (all_pages s.threads) ≡ length (in_force (entry ∷ older)) =
    omega (arith, length-all_pages s.threads, same, length-in_force m entry older store.each) in
    record {
      few = omega (arith, few);
      threads = store.threads;
      each = (entry_of_is_entry (suc last) m s (entry ∷ older) same, store.each);
      numbers = (store.latest, store.numbers);
      latest = (omega arith, below_suc_entries (suc last) (entry ∷ older) store.latest);
      laid = (
        changed_pages_are_newer entry.number (suc last) (all_pages s.threads) (in_force (entry ∷ older)) (store.latest.0) many whole (all_pages_are_pages s.threads all),
        store.laid,
      );
      start = store.start;
    }

-- a cut at 0
pub map_steps_zero : (threads : List thread.ThreadState) → ((t : ℕ) → (slice_index_or threads t idle).steps ≡ 0) → AreZero (map (λ (t : thread.ThreadState). t.steps) threads)
map_steps_zero [] each = tt
map_steps_zero (t ∷ threads) each = (each 0, map_steps_zero threads (λ k. each (suc k)))

pub start_entry_is_store : (s : Standing) → length s.threads ≤ most_threads → All HasMemory s.threads → AreZero (map (λ (t : thread.ThreadState). t.steps) s.threads)
    → IsPageStore (length s.threads) 0 (entry_of 0 s [] ∷ [])
start_entry_is_store s few all zeros = record {
  few = omega arith;
  threads = few;
  each = (entry_of_is_entry 0 (length s.threads) s [] refl, tt);
  numbers = (tt, tt);
  latest = (omega arith, tt);
  laid = (changed_over_none_newer 0 (all_pages s.threads) (all_pages_are_pages s.threads all), tt);
  start = (refl, zeros);
}

-- by the count of the newest entry's threads
pub store_thread_count : (m last : ℕ) (entries : List Entry) → IsPageStore m last entries → IsPageStore (thread_count entries) last entries
store_thread_count m last [] store = absurd store.start
store_thread_count m last (entry ∷ older) store = subst (λ k. IsPageStore k last (entry ∷ older)) (sym store.each.0.frames) store
