-- Kept pages are whole, and none was kept after its entry.
use Rattle.std.proofs.Common.{◌≡◌, ◌*◌, ◌<◌, ◌≤◌, ℕ, zero, suc, Bool, true, false, if◌then◌else◌, List, [], ◌∷◌, length, map, take, drop, Option, Some, None, sym, ◌∙◌, arith}
use Rattle.std.proofs.lemmas.List.{length-map, length-take-le}
use Rattle.std.proofs.lemmas.List.Elements.{All-head, All-tail, All-cons}
use Rattle.std.specs.List.{All}
use Rattle.ir_mach.specs.Pages.{IsPage, ArePages}
use Rattle.ir_checkpoint.specs.Pages.{same_bytes}
use Rattle.ir_checkpoint.specs.Store.{Page, Entry, laid_pages, in_force, changed, handed, AreEntries, AreFalling, IsWholeStore, AreWhole, AreNewer, AreLaid, AreFull}
use Rattle.ir_checkpoint.proofs.Laid.{length-laid}

pub length-in_force : (n : ℕ) (entry : Entry) (older : List Entry) → AreEntries n (entry ∷ older) → length (in_force (entry ∷ older)) ≡ 16 * n
length-in_force n entry older are = length-laid entry.pages (in_force older) ∙ are.0.pages

whole_page_stays_whole : (m n : ℕ) (page : Page) → m ≤ n → IsWholeStore m page → IsWholeStore n page
whole_page_stays_whole m n page le w = record { within = omega (arith, w.within, le); size = w.size }

pub laid_pages_are_whole : (m n : ℕ) (own : List (Option Page)) (old : List Page) → m ≤ n → length own ≡ length old → AreWhole m old → AreNewer n own old → AreWhole n (laid_pages own old)
laid_pages_are_whole m n [] old le same w new = tt
laid_pages_are_whole m n (x ∷ own) [] le same w new = absurd (omega (arith, same))
laid_pages_are_whole m n (None ∷ own) (q ∷ old) le same w new = (whole_page_stays_whole m n q le w.0, laid_pages_are_whole m n own old le (omega (arith, same)) w.1 new)
laid_pages_are_whole m n (Some p ∷ own) (q ∷ old) le same w new = (new.1, laid_pages_are_whole m n own old le (omega (arith, same)) w.1 new.2)

laid_over_none_whole : (n : ℕ) (own : List (Option Page)) → AreNewer n own [] → AreWhole n (laid_pages own [])
laid_over_none_whole n [] new = tt
laid_over_none_whole n (None ∷ own) new = absurd new
laid_over_none_whole n (Some p ∷ own) new = (new.0, laid_over_none_whole n own new.1)

-- the pages of an entry
pub in_force_is_whole : (n : ℕ) (entry : Entry) (older : List Entry) → AreEntries n (entry ∷ older) → AreFalling (entry ∷ older) → AreLaid (entry ∷ older)
    → AreWhole entry.number (in_force (entry ∷ older))
in_force_is_whole n entry [] are falling lies = laid_over_none_whole entry.number entry.pages lies.0
in_force_is_whole n entry (next ∷ older) are falling lies =
    laid_pages_are_whole next.number entry.number entry.pages (in_force (next ∷ older)) (omega (arith, falling.0.0))
    (are.0.pages ∙ sym (length-in_force n next older are.1)) (in_force_is_whole n next older are.1 falling.1 lies.1) lies.0

pub whole_pages_are_full : (n : ℕ) (pages : List Page) → AreWhole n pages → AreFull pages
whole_pages_are_full n [] w = tt
whole_pages_are_full n (page ∷ pages) w = (w.0.size, whole_pages_are_full n pages w.1)

pub dropped_pages_are_full : (k : ℕ) (pages : List Page) → AreFull pages → AreFull (drop k pages)
dropped_pages_are_full zero pages full = full
dropped_pages_are_full (suc k) [] full = tt
dropped_pages_are_full (suc k) (page ∷ pages) full = dropped_pages_are_full k pages full.1

taken_pages_are_full : (k : ℕ) (pages : List Page) → AreFull pages → AreFull (take k pages)
taken_pages_are_full zero pages full = tt
taken_pages_are_full (suc k) [] full = tt
taken_pages_are_full (suc k) (page ∷ pages) full = (full.0, taken_pages_are_full k pages full.1)

full_bytes_are_pages : (pages : List Page) → AreFull pages → All IsPage (map (λ (p : Page). p.bytes) pages)
full_bytes_are_pages [] full = λ k d lt. absurd (omega (arith, lt))
full_bytes_are_pages (page ∷ pages) full = All-cons IsPage page.bytes (map (λ (p : Page). p.bytes) pages) full.0 (full_bytes_are_pages pages full.1)

-- the first 16 are the pages of a thread
pub first_sixteen_pages : (pages : List Page) → AreFull pages → 16 ≤ length pages → ArePages (map (λ (p : Page). p.bytes) (take 16 pages))
first_sixteen_pages pages full enough = record {
  count = length-map (take 16 pages) (λ (p : Page). p.bytes) ∙ length-take-le 16 pages enough;
  sizes = full_bytes_are_pages (take 16 pages) (taken_pages_are_full 16 pages full);
}

-- ---- a state is kept

newer_pages_cons : (n : ℕ) (b : Bool) (page q : Page) (own : List (Option Page)) (old : List Page) → q.source < page.source → IsWholeStore n page → AreNewer n own old
    → AreNewer n ((if b then None else Some page) ∷ own) (q ∷ old)
newer_pages_cons n true page q own old lt w new = new
newer_pages_cons n false page q own old lt w new = (lt, w, new)

pub changed_pages_are_newer : (m n : ℕ) (news : List (List ℕ)) (old : List Page) → m < n → length news ≡ length old → AreWhole m old → All IsPage news
    → AreNewer n (changed n news old) old
changed_pages_are_newer m n [] old lt same w all = tt
changed_pages_are_newer m n (bytes ∷ news) [] lt same w all = absurd (omega (arith, same))
changed_pages_are_newer m n (bytes ∷ news) (q ∷ old) lt same w all =
    newer_pages_cons n (same_bytes bytes q.bytes) (record { source = n; bytes = bytes }) q (changed n news old) old (omega (arith, lt, w.0.within))
    (record { within = omega arith; size = All-head IsPage bytes news all })
    (changed_pages_are_newer m n news old lt (omega (arith, same)) w.1 (All-tail IsPage bytes news all))

pub changed_over_none_newer : (n : ℕ) (news : List (List ℕ)) → All IsPage news → AreNewer n (changed n news []) []
changed_over_none_newer n [] all = tt
changed_over_none_newer n ([] ∷ news) all = absurd (omega (arith, All-head IsPage [] news all))
changed_over_none_newer n ((x ∷ bytes) ∷ news) all =
    (record { within = omega arith; size = All-head IsPage (x ∷ bytes) news all }, changed_over_none_newer n news (All-tail IsPage (x ∷ bytes) news all))

-- ---- an entry is dropped

pub handed_pages_are_newer : (m n : ℕ) (own given : List (Option Page)) (old : List Page) → m ≤ n → length own ≡ length given → AreNewer n own (laid_pages given old) → AreNewer m given old
    → AreNewer n (handed own given) old
handed_pages_are_newer m n [] [] old le same mine theirs = tt
handed_pages_are_newer m n [] (g ∷ given) old le same mine theirs = absurd (omega (arith, same))
handed_pages_are_newer m n (x ∷ own) [] old le same mine theirs = absurd (omega (arith, same))
handed_pages_are_newer m n (x ∷ own) (None ∷ given) [] le same mine theirs = absurd theirs
handed_pages_are_newer m n (None ∷ own) (Some g ∷ given) [] le same mine theirs =
    (whole_page_stays_whole m n g le theirs.0, handed_pages_are_newer m n own given [] le (omega (arith, same)) mine theirs.1)
handed_pages_are_newer m n (Some p ∷ own) (Some g ∷ given) [] le same mine theirs =
    (mine.1, handed_pages_are_newer m n own given [] le (omega (arith, same)) mine.2 theirs.1)
handed_pages_are_newer m n (None ∷ own) (None ∷ given) (q ∷ old) le same mine theirs = handed_pages_are_newer m n own given old le (omega (arith, same)) mine theirs
handed_pages_are_newer m n (Some p ∷ own) (None ∷ given) (q ∷ old) le same mine theirs =
    (mine.0, mine.1, handed_pages_are_newer m n own given old le (omega (arith, same)) mine.2 theirs)
handed_pages_are_newer m n (None ∷ own) (Some g ∷ given) (q ∷ old) le same mine theirs =
    (theirs.0, whole_page_stays_whole m n g le theirs.1, handed_pages_are_newer m n own given old le (omega (arith, same)) mine theirs.2)
handed_pages_are_newer m n (Some p ∷ own) (Some g ∷ given) (q ∷ old) le same mine theirs =
    (omega (arith, mine.0, theirs.0), mine.1, handed_pages_are_newer m n own given old le (omega (arith, same)) mine.2 theirs.2)
