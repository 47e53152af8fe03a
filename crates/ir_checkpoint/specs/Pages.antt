-- Where the pages of kept cuts come from, and how many there are.
use Rattle.std.specs.Prelude.{◌==◌, ◌&&◌, ◌||◌, ℕ, suc, Bool, true, false, List, [], ◌∷◌, flat_map, if◌then◌else◌}
use Rattle.ir_mach.specs.Pages.{pages_of}
use Rattle.ir_thread.specs.State as thread

-- the bytes of all pages of all threads, by their places: a page's place is 16 times the number of its thread, and its own number
abbrev pub all_pages : List thread.ThreadState → List (List ℕ)
all_pages threads = flat_map (λ t. pages_of t.core.memory) threads

-- whether two pages have the same bytes
abbrev pub same_bytes : List ℕ → List ℕ → Bool
same_bytes [] [] = true
same_bytes (x ∷ xs) (y ∷ ys) = (x == y) && same_bytes xs ys
same_bytes _ _ = false

-- the sources of the pages of a cut that is kept as n, from the pages of the greatest kept number and their sources: that source where the bytes are
-- the same, else n
abbrev pub next_sources : ℕ → List (List ℕ) → List (List ℕ) → List ℕ → List ℕ
next_sources n (new ∷ news) (old ∷ olds) (source ∷ sources) = (if same_bytes new old then source else n) ∷ next_sources n news olds sources
next_sources n _ _ _ = []

-- a page by its source and its place
pub record Origin : Type 0 where
  pub source : ℕ
  pub place : ℕ

abbrev pub is_origin : Origin → Origin → Bool
is_origin a b = (a.source == b.source) && (a.place == b.place)

-- whether it is in the list
abbrev pub has_origin : Origin → List Origin → Bool
has_origin a [] = false
has_origin a (b ∷ bs) = is_origin a b || has_origin a bs

-- how many different ones there are
abbrev pub different : List Origin → ℕ
different [] = 0
different (a ∷ others) = if has_origin a others then different others else suc (different others)

-- the origins of pages with these sources, from a place on
abbrev pub page_origins : ℕ → List ℕ → List Origin
page_origins place [] = []
page_origins place (source ∷ sources) = record { source = source; place = place } ∷ page_origins (suc place) sources
