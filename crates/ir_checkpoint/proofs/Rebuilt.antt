-- Threads rebuilt from frames and pages.
use Rattle.std.proofs.Common.{◌≡◌, ◌*◌, ◌+◌, ◌<◌, ◌≤◌, ℕ, List, [], ◌∷◌, ◌++◌, length, map, take, drop, get_or, set, refl, sym, ap, ◌∙◌, subst, arith}
use Rattle.std.proofs.lemmas.List.{take_all, take_more_set, map_push, map_more, get_or-drop, drop_more, drop-drop, append_assoc, length-drop}
use Rattle.ir_mach.specs.Pages.{ArePages}
use Rattle.ir_thread.specs.Frames.{ThreadFrame, framed_thread}
use Rattle.ir_thread.specs.State as thread
use Rattle.ir_weave.specs.Standing.{Standing}
use Rattle.ir_checkpoint.specs.Store.{Page, Entry, blank, in_force, stored_threads, kept_of, state_of, AreEntries, AreFull, thread_count}
use Rattle.ir_checkpoint.proofs.Laid.{length-laid, entry_at_place_is_entry}
use Rattle.ir_checkpoint.proofs.Whole.{dropped_pages_are_full, first_sixteen_pages}

-- the newest entry's pages are as many as each entry's
pub length-in_force_le : (n : ℕ) (entries : List Entry) → 0 < length entries → ((k : ℕ) (d : Entry) → k < length entries → n ≤ length (get_or entries k d).pages)
    → n ≤ length (in_force entries)
length-in_force_le n [] some each = absurd (omega (arith, some))
length-in_force_le n (e ∷ older) some each = omega (arith, each 0 e (omega arith), length-laid e.pages (in_force older))

-- one page more of a thread
pub filled_pages_step : {X : Type 0} (g : X → List ℕ) (pages : List X) (x : X) (force : List Page) (i t : ℕ) → i < length pages → 16 * t + 16 ≤ length force → i < 16
    → g x ≡ (get_or force (16 * t + i) blank).bytes
    → map g (take i pages) ≡ map (λ (p : Page). p.bytes) (take i (drop (16 * t) force))
    → map g (take (i + 1) (set pages i x)) ≡ map (λ (p : Page). p.bytes) (take (i + 1) (drop (16 * t) force))
filled_pages_step g pages x force i t lt long few here before =
    let there : i < length (drop (16 * t) force) = omega (arith, length-drop (16 * t) force, long, few) in
    let one : g x ≡ (get_or (drop (16 * t) force) i blank).bytes = here ∙ ap (λ (p : Page). p.bytes) (sym (get_or-drop (16 * t) force i blank)) in
    ap (map g) (take_more_set pages i x lt) ∙ map_push g (take i pages) x ∙ (λ j. before j ++ one j ∷ [])
    ∙ sym (map_more (λ (p : Page). p.bytes) (drop (16 * t) force) i blank there)

-- all pages of a thread
pub filled_pages_all : {X : Type 0} (g : X → List ℕ) (pages : List X) (force : List Page) (i t : ℕ) → 16 ≤ i → i ≤ 16 → length pages ≡ 16
    → map g (take i pages) ≡ map (λ (p : Page). p.bytes) (take i (drop (16 * t) force))
    → map g pages ≡ map (λ (p : Page). p.bytes) (take 16 (drop (16 * t) force))
filled_pages_all g pages force i t low high many e =
    let all : i ≡ 16 = omega (arith, low, high) in
    ap (map g) (sym (take_all i pages (omega (arith, many, low)))) ∙ e ∙ ap (λ k. map (λ (p : Page). p.bytes) (take k (drop (16 * t) force))) all

pub filled_pages_are_pages : {X : Type 0} (g : X → List ℕ) (pages : List X) (force : List Page) (t : ℕ) → AreFull force → 16 * t + 16 ≤ length force
    → map g pages ≡ map (λ (p : Page). p.bytes) (take 16 (drop (16 * t) force)) → ArePages (map g pages)
filled_pages_are_pages g pages force t full long e =
    subst ArePages (sym e) (first_sixteen_pages (drop (16 * t) force) (dropped_pages_are_full (16 * t) force full) (omega (arith, length-drop (16 * t) force, long)))

-- one thread more
pub rebuilt_threads_step : (frames : List ThreadFrame) (force : List Page) (t : ℕ) (d : ThreadFrame) (threads new whole : List thread.ThreadState) (one : thread.ThreadState) → t < length frames
    → new ≡ threads ++ one ∷ [] → one ≡ framed_thread (get_or frames t d) (map (λ (p : Page). p.bytes) (take 16 (drop (16 * t) force)))
    → threads ++ stored_threads (drop t frames) (drop (16 * t) force) ≡ whole
    → new ++ stored_threads (drop (t + 1) frames) (drop (16 * (t + 1)) force) ≡ whole
rebuilt_threads_step frames force t d threads new whole one lt grown made e =
    let first = framed_thread (get_or frames t d) (map (λ (p : Page). p.bytes) (take 16 (drop (16 * t) force))) in
    let rest = stored_threads (drop (t + 1) frames) (drop (16 * (t + 1)) force) in
    let next : drop (16 * (t + 1)) force ≡ drop 16 (drop (16 * t) force) = ap (λ k. drop k force) (omega arith) ∙ sym (drop-drop 16 (16 * t) force) in
    ap (λ l. l ++ rest) (grown ∙ ap (λ x. threads ++ x ∷ []) made)
    ∙ append_assoc threads (first ∷ []) rest
    ∙ ap (λ l. threads ++ first ∷ stored_threads (drop (t + 1) frames) l) next
    ∙ ap (λ l. threads ++ stored_threads l (drop (16 * t) force)) (sym (drop_more frames t d lt))
    ∙ e

pub pages_reach_past : (n t : ℕ) (entries : List Entry) → AreEntries n entries → t < n → (k : ℕ) (d : Entry) → k < length entries → 16 * t + 16 ≤ length (get_or entries k d).pages
pages_reach_past n t entries are lt k d there = omega (arith, (entry_at_place_is_entry n entries k d are there).pages, lt)

pub newest_frame_count : (entries : List Entry) (d : Entry) → 0 < length entries → length (get_or entries 0 d).frames ≡ thread_count entries
newest_frame_count [] d some = absurd (omega (arith, some))
newest_frame_count (e ∷ older) d some = refl

-- the state of the newest entry
pub rebuilt_is_state_of : (entries : List Entry) (d : Entry) (s : Standing) → 0 < length entries
    → s ≡ record { threads = stored_threads (get_or entries 0 d).frames (in_force entries); objects = (get_or entries 0 d).objects }
    → s ≡ state_of entries
rebuilt_is_state_of [] d s some e = absurd (omega (arith, some))
rebuilt_is_state_of (f ∷ older) d s some e = e

pub state_of_drop : (entries : List Entry) (i : ℕ) (d : Entry) → i < length entries → state_of (drop i entries) ≡ (kept_of (get_or entries i d) (in_force (drop i entries))).state
state_of_drop entries i d lt =
    ap state_of (drop_more entries i d lt)
    ∙ ap (λ l. (kept_of (get_or entries i d) (in_force l)).state) (sym (drop_more entries i d lt))
