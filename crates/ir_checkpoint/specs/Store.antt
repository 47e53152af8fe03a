-- How kept cuts lie: the newest first, each with the pages that differ from those of the next older one.
use Rattle.std.specs.Prelude.{◌≡◌, ◌==◌, ◌<◌, ◌≤◌, ◌*◌, ℕ, zero, suc, true, List, [], ◌∷◌, length, map, take, drop, if◌then◌else◌, Option, Some, None, ⊤}
use Rattle.std.specs.List.{sum_by, slice_index_or}
use Rattle.ir_image.specs.Guest.{most_threads}
use Rattle.ir_mach.specs.Pages.{page_size}
use Rattle.ir_thread.specs.Frames.{ThreadFrame, frame_of, framed_thread}
use Rattle.ir_thread.specs.State as thread
use Rattle.ir_object.specs.Cell.{Cell}
use Rattle.ir_weave.specs.Standing.{Standing}
use Rattle.ir_checkpoint.specs.Pages.{all_pages, same_bytes}
use Rattle.ir_checkpoint.specs.Keeping.{KeptState, most_states, is_below, total}

-- a page and the number that it was first kept under
pub record Page : Type 0 where
  pub source : ℕ
  pub bytes : List ℕ

-- a kept cut, with the pages that differ from those of the next older one
pub record Entry : Type 0 where
  pub number : ℕ
  pub cut : List ℕ
  pub frames : List ThreadFrame
  pub objects : List Cell
  pub pages : List (Option Page)

abbrev pub blank : Page
blank = record { source = 0; bytes = [] }

-- a page, or the older one in its place
abbrev pub newer : Option Page → Page → Page
newer None old = old
newer (Some page) old = page

-- pages over older ones
abbrev pub laid_pages : List (Option Page) → List Page → List Page
laid_pages [] old = []
laid_pages (page ∷ pages) [] = newer page blank ∷ laid_pages pages []
laid_pages (page ∷ pages) (first ∷ old) = newer page first ∷ laid_pages pages old

-- all pages of the newest entry
abbrev pub in_force : List Entry → List Page
in_force [] = []
in_force (entry ∷ older) = laid_pages entry.pages (in_force older)

-- threads of frames and of their pages, 16 each
abbrev pub stored_threads : List ThreadFrame → List Page → List thread.ThreadState
stored_threads [] pages = []
stored_threads (frame ∷ frames) pages = framed_thread frame (map (λ p. p.bytes) (take 16 pages)) ∷ stored_threads frames (drop 16 pages)

-- what an entry with these pages keeps
abbrev pub kept_of : Entry → List Page → KeptState
kept_of entry pages = record {
  number = entry.number;
  state = record { threads = stored_threads entry.frames pages; objects = entry.objects };
  sources = map (λ p. p.source) pages;
}

-- what entries keep
abbrev pub all_kept : List Entry → List KeptState
all_kept [] = []
all_kept (entry ∷ older) = kept_of entry (in_force (entry ∷ older)) ∷ all_kept older

-- ---- a state is kept

-- a page where it isn't the same as the older one in its place
abbrev pub changed_page : ℕ → List ℕ → Page → Option Page
changed_page n bytes old = if same_bytes bytes old.bytes then None else Some (record { source = n; bytes = bytes })

-- the pages that aren't the same as the older ones in their places
abbrev pub changed : ℕ → List (List ℕ) → List Page → List (Option Page)
changed n [] old = []
changed n (bytes ∷ news) [] = changed_page n bytes blank ∷ changed n news []
changed n (bytes ∷ news) (first ∷ old) = changed_page n bytes first ∷ changed n news old

-- the entry of a state over older ones
abbrev pub entry_of : ℕ → Standing → List Entry → Entry
entry_of n state older = record {
  number = n;
  cut = map (λ t. t.steps) state.threads;
  frames = map frame_of state.threads;
  objects = state.objects;
  pages = changed n (all_pages state.threads) (in_force older);
}

-- ---- an entry is dropped

-- its own page, or else the gift
abbrev pub first_stored : Option Page → Option Page → Option Page
first_stored None gift = gift
first_stored (Some own) gift = Some own

-- the pages of an entry with those of the next older one, which is dropped
abbrev pub handed : List (Option Page) → List (Option Page) → List (Option Page)
handed (page ∷ pages) (gift ∷ gifts) = first_stored page gift ∷ handed pages gifts
handed [] gifts = []
handed pages [] = pages

-- the first takes over the pages of the second
abbrev pub taken_over : Entry → Entry → Entry
taken_over entry older = record entry { pages = handed entry.pages older.pages }

-- without the entry at a place, whose pages go to the one before it
abbrev pub taken_away : ℕ → List Entry → List Entry
taken_away place [] = []
taken_away zero (entry ∷ older) = older
taken_away (suc zero) (entry ∷ []) = entry ∷ []
taken_away (suc zero) (entry ∷ gone ∷ older) = taken_over entry gone ∷ older
taken_away (suc (suc place)) (entry ∷ older) = entry ∷ taken_away (suc place) older

-- ---- entries are looked for and counted

-- the place of the entry of a number, or the number of entries if there is none
abbrev pub frame_place : ℕ → List Entry → ℕ
frame_place n [] = 0
frame_place n (entry ∷ older) = if entry.number == n then 0 else suc (frame_place n older)

-- how many places have a page of their own
abbrev pub owned : List (Option Page) → ℕ
owned [] = 0
owned (None ∷ pages) = owned pages
owned (Some page ∷ pages) = suc (owned pages)

-- how many pages lie there
abbrev pub stored_pages : List Entry → ℕ
stored_pages entries = sum_by (λ e. owned e.pages) entries

-- ---- what a store keeps

-- an entry of n threads
pub record IsEntry (n : ℕ) (entry : Entry) : Type 0 where
  pub frames : length entry.frames ≡ n
  pub pages : length entry.pages ≡ 16 * n
  pub cut : entry.cut ≡ map (λ f. f.steps) entry.frames

abbrev pub AreEntries : ℕ → List Entry → Type 0
AreEntries n [] = ⊤
AreEntries n (entry ∷ older) = IsEntry n entry × AreEntries n older

-- all numbers are below n
abbrev pub AreBelow : ℕ → List Entry → Type 0
AreBelow n [] = ⊤
AreBelow n (entry ∷ older) = (entry.number < n) × AreBelow n older

-- each number is above those of older ones
abbrev pub AreFalling : List Entry → Type 0
AreFalling [] = ⊤
AreFalling (entry ∷ older) = AreBelow entry.number older × AreFalling older

-- a whole page, kept at n or before
pub record IsWholeStore (n : ℕ) (page : Page) : Type 0 where
  pub within : page.source ≤ n
  pub size : length page.bytes ≡ page_size

abbrev pub AreWhole : ℕ → List Page → Type 0
AreWhole n [] = ⊤
AreWhole n (page ∷ pages) = IsWholeStore n page × AreWhole n pages

-- a page of its own is of a later source than the older one in its place; the oldest entry has each page of its own
abbrev pub AreNewer : ℕ → List (Option Page) → List Page → Type 0
AreNewer n [] old = ⊤
AreNewer n (Some page ∷ pages) [] = IsWholeStore n page × AreNewer n pages []
AreNewer n (None ∷ pages) [] = ⊥
AreNewer n (Some page ∷ pages) (first ∷ old) = (first.source < page.source) × IsWholeStore n page × AreNewer n pages old
AreNewer n (None ∷ pages) (first ∷ old) = AreNewer n pages old

abbrev pub AreLaid : List Entry → Type 0
AreLaid [] = ⊤
AreLaid (entry ∷ older) = AreNewer entry.number entry.pages (in_force older) × AreLaid older

abbrev pub AreZero : List ℕ → Type 0
AreZero [] = ⊤
AreZero (k ∷ cut) = (k ≡ 0) × AreZero cut

-- the oldest is the start, as 0
abbrev pub HasStart : List Entry → Type 0
HasStart [] = ⊥
HasStart (entry ∷ []) = (entry.number ≡ 0) × AreZero entry.cut
HasStart (entry ∷ next ∷ older) = HasStart (next ∷ older)

-- entries of n threads, the last number given being this
pub record IsPageStore (n last : ℕ) (entries : List Entry) : Type 0 where
  pub few : length entries ≤ most_states
  pub threads : n ≤ most_threads
  pub each : AreEntries n entries
  pub numbers : AreFalling entries
  pub latest : AreBelow (suc last) entries
  pub laid : AreLaid entries
  pub start : HasStart entries

-- how many threads the newest has
abbrev pub thread_count : List Entry → ℕ
thread_count [] = 0
thread_count (entry ∷ older) = length entry.frames

-- every page has 4,096 bytes
abbrev pub AreFull : List Page → Type 0
AreFull [] = ⊤
AreFull (page ∷ pages) = (length page.bytes ≡ page_size) × AreFull pages

-- ---- the nearest

-- the steps before an entry's cut, if it is at or below this one
abbrev pub steps_below : Entry → List ℕ → Option ℕ
steps_below entry cut = if is_below entry.cut cut then Some (total entry.cut) else None

-- the entry at the place is at or below the cut, and no other that is has more steps before it
pub record IsNearestPlace (cut : List ℕ) (entries : List Entry) (place : ℕ) : Type 0 where
  pub there : place < length entries
  pub below : (d : Entry) → is_below (slice_index_or entries place d).cut cut ≡ true
  pub nearest : (i : ℕ) (d : Entry) → i < length entries → is_below (slice_index_or entries i d).cut cut ≡ true
      → total (slice_index_or entries i d).cut ≤ total (slice_index_or entries place d).cut

-- the state of the newest entry
abbrev pub state_of : List Entry → Standing
state_of [] = record { threads = []; objects = [] }
state_of (entry ∷ older) = (kept_of entry (in_force (entry ∷ older))).state
