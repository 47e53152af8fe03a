-- Pages are counted by those that entries have of their own.
use Rattle.std.proofs.Common.{◌≡◌, ◌==◌, ◌&&◌, ◌||◌, ◌+◌, ◌*◌, ◌<◌, ◌≤◌, ℕ, zero, suc, Bool, true, false, if◌then◌else◌, List, [], ◌∷◌}
use Rattle.std.proofs.Common.{◌++◌, length, map, flat_map, get_or, Option, Some, None, refl, sym, ap, ◌∙◌, arith, ◌^◌}
use Rattle.std.proofs.lemmas.List.{length-map}
use Rattle.std.proofs.lemmas.Bool.Decides.{nat_tests}
use Rattle.std.proofs.lemmas.List.Sums.{sum_by-cons}
use Rattle.std.specs.List.{All}
use Rattle.ir_lemmas.proofs.CallerLemmas.{conjunction_with_false}
use Rattle.ir_image.specs.Guest.{most_threads}
use Rattle.ir_checkpoint.specs.Pages.{Origin, is_origin, has_origin, different, page_origins}
use Rattle.ir_checkpoint.specs.Keeping.{KeptState}
use Rattle.ir_checkpoint.specs.Store.{Page, Entry, laid_pages, in_force, all_kept, owned, stored_pages, AreEntries, AreNewer, AreLaid}
use Rattle.ir_checkpoint.proofs.Laid.{entry_at_place_is_entry}
use Rattle.ir_checkpoint.proofs.Whole.{length-in_force}

abbrev origin_at : ℕ → ℕ → Origin
origin_at source place = record { source = source; place = place }

abbrev sources_of : List Page → List ℕ
sources_of pages = map (λ (p : Page). p.source) pages

-- the origins of kept cuts
abbrev all_origins : List KeptState → List Origin
all_origins kept = flat_map (λ (k : KeptState). page_origins 0 k.sources) kept

disjunction_associative : (a b c : Bool) → (a || (b || c)) ≡ ((a || b) || c)
disjunction_associative true b c = refl
disjunction_associative false b c = refl

has_origin_in_append : (a : Origin) (xs ys : List Origin) → has_origin a (xs ++ ys) ≡ (has_origin a xs || has_origin a ys)
has_origin_in_append a [] ys = refl
has_origin_in_append a (x ∷ xs) ys = ap (λ (b : Bool). is_origin a x || b) (has_origin_in_append a xs ys) ∙ disjunction_associative (is_origin a x) (has_origin a xs) (has_origin a ys)

-- a page at an earlier place
no_earlier_origin : (source place from : ℕ) (sources : List ℕ) → place < from → has_origin (origin_at source place) (page_origins from sources) ≡ false
no_earlier_origin source place from [] lt = refl
no_earlier_origin source place from (s ∷ sources) lt =
    let apart : (place == from) ≡ false = grind (arith, nat_tests, lt) in
    let none : is_origin (origin_at source place) (origin_at s from) ≡ false = ap (λ (b : Bool). (source == s) && b) apart ∙ conjunction_with_false (source == s) in
    (λ i. none i || no_earlier_origin source place (suc from) sources (omega (arith, lt)) i)

-- the origin of a page at its place is in the list
own_origin_is_there : (from i : ℕ) (sources : List ℕ) → i < length sources → has_origin (origin_at (get_or sources i 0) (from + i)) (page_origins from sources) ≡ true
own_origin_is_there from i [] lt = absurd (omega (arith, lt))
own_origin_is_there from zero (s ∷ sources) lt =
    let one : (s == s) ≡ true = grind (arith, nat_tests) in
    let two : (from + 0 == from) ≡ true = grind (arith, nat_tests) in
    (λ j. (one j && two j) || has_origin (origin_at s (from + 0)) (page_origins (suc from) sources))
own_origin_is_there from (suc i) (s ∷ sources) lt =
    let next : from + suc i ≡ suc from + i = omega arith in
    let rest : has_origin (origin_at (get_or sources i 0) (from + suc i)) (page_origins (suc from) sources) ≡ true =
    ap (λ p. has_origin (origin_at (get_or sources i 0) p) (page_origins (suc from) sources)) next ∙ own_origin_is_there (suc from) i sources (omega (arith, lt)) in
    ap (λ (b : Bool). is_origin (origin_at (get_or sources i 0) (from + suc i)) (origin_at s from) || b) rest ∙ or_true (is_origin (origin_at (get_or sources i 0) (from + suc i)) (origin_at s from))
  where
    or_true : (b : Bool) → (b || true) ≡ true
    or_true true = refl
    or_true false = refl

-- a page of a later source doesn't
no_later_origin : (from i source : ℕ) (sources : List ℕ) → get_or sources i 0 < source → has_origin (origin_at source (from + i)) (page_origins from sources) ≡ false
no_later_origin from i source [] lt = refl
no_later_origin from zero source (s ∷ sources) lt =
    let apart : (source == s) ≡ false = grind (arith, nat_tests, lt) in
    (λ j. (apart j && (from + 0 == from)) || has_origin (origin_at source (from + 0)) (page_origins (suc from) sources))
    ∙ no_earlier_origin source (from + 0) (suc from) sources (omega arith)
no_later_origin from (suc i) source (s ∷ sources) lt =
    let next : from + suc i ≡ suc from + i = omega arith in
    let apart : (from + suc i == from) ≡ false = grind (arith, nat_tests) in
    let none : is_origin (origin_at source (from + suc i)) (origin_at s from) ≡ false = ap (λ (b : Bool). (source == s) && b) apart ∙ conjunction_with_false (source == s) in
    (λ j. none j || has_origin (origin_at source (next j)) (page_origins (suc from) sources)) ∙ no_later_origin (suc from) i source sources lt

-- the same from place 0 on
own_origin_from_zero : (i : ℕ) (sources : List ℕ) → i < length sources → has_origin (origin_at (get_or sources i 0) i) (page_origins 0 sources) ≡ true
own_origin_from_zero i sources lt =
    let none : i ≡ 0 + i = omega arith in
    ap (λ p. has_origin (origin_at (get_or sources i 0) p) (page_origins 0 sources)) none ∙ own_origin_is_there 0 i sources lt

no_later_from_zero : (i source : ℕ) (sources : List ℕ) → get_or sources i 0 < source → has_origin (origin_at source i) (page_origins 0 sources) ≡ false
no_later_from_zero i source sources lt =
    let none : i ≡ 0 + i = omega arith in
    ap (λ p. has_origin (origin_at source p) (page_origins 0 sources)) none ∙ no_later_origin 0 i source sources lt

-- a page's source is no earlier than the older one's in its place
source_not_earlier : (n i : ℕ) (own : List (Option Page)) (old : List Page) → length own ≡ length old → AreNewer n own old
    → get_or (sources_of old) i 0 ≤ get_or (sources_of (laid_pages own old)) i 0
source_not_earlier n i [] [] same new = omega arith
source_not_earlier n i [] (q ∷ old) same new = absurd (omega (arith, same))
source_not_earlier n i (x ∷ own) [] same new = absurd (omega (arith, same))
source_not_earlier n zero (None ∷ own) (q ∷ old) same new = omega arith
source_not_earlier n zero (Some p ∷ own) (q ∷ old) same new = omega (arith, new.0)
source_not_earlier n (suc i) (None ∷ own) (q ∷ old) same new = source_not_earlier n i own old (omega (arith, same)) new
source_not_earlier n (suc i) (Some p ∷ own) (q ∷ old) same new = source_not_earlier n i own old (omega (arith, same)) new.2

-- a page of a later source than the newest in its place isn't kept
kept_no_later_origin : (m i source : ℕ) (entries : List Entry) → AreEntries m entries → AreLaid entries → get_or (sources_of (in_force entries)) i 0 < source
    → has_origin (origin_at source i) (all_origins (all_kept entries)) ≡ false
kept_no_later_origin m i source [] are lies lt = refl
kept_no_later_origin m i source (e ∷ []) are lies lt =
    has_origin_in_append (origin_at source i) (page_origins 0 (sources_of (in_force (e ∷ [])))) []
    ∙ (λ j. no_later_from_zero i source (sources_of (in_force (e ∷ []))) lt j || false)
kept_no_later_origin m i source (e ∷ next ∷ older) are lies lt =
    let old = in_force (next ∷ older) in
    let low : get_or (sources_of old) i 0 ≤ get_or (sources_of (laid_pages e.pages old)) i 0 =
    source_not_earlier e.number i e.pages old (are.0.pages ∙ sym (length-in_force m next older are.1)) lies.0 in
    has_origin_in_append (origin_at source i) (page_origins 0 (sources_of (in_force (e ∷ next ∷ older)))) (all_origins (all_kept (next ∷ older)))
    ∙ (λ j. no_later_from_zero i source (sources_of (in_force (e ∷ next ∷ older))) lt j || has_origin (origin_at source i) (all_origins (all_kept (next ∷ older))))
    ∙ kept_no_later_origin m i source (next ∷ older) are.1 lies.1 (omega (arith, low, lt))

-- one page more: a page of its own is another one, and an older one is there already
different_origins_cons : (source place : ℕ) (sources : List ℕ) (rest : List Origin) (b : Bool) (count : ℕ) → has_origin (origin_at source place) rest ≡ b
    → different (page_origins (suc place) sources ++ rest) ≡ count
    → different (page_origins place (source ∷ sources) ++ rest) ≡ (if b then count else suc count)
different_origins_cons source place sources rest b count is e =
    let there : has_origin (origin_at source place) (page_origins (suc place) sources ++ rest) ≡ b =
    has_origin_in_append (origin_at source place) (page_origins (suc place) sources) rest
    ∙ (λ j. no_earlier_origin source place (suc place) sources (omega arith) j || has_origin (origin_at source place) rest) ∙ is in
    λ j. if there j then e j else suc (e j)

-- the newest entry's pages beside those of older ones
different_laid_origins : (n from : ℕ) (own : List (Option Page)) (old : List Page) (rest : List Origin) → length own ≡ length old → AreNewer n own old
    → ((i : ℕ) → i < length old → has_origin (origin_at (get_or (sources_of old) i 0) (from + i)) rest ≡ true)
    → ((i source : ℕ) → get_or (sources_of old) i 0 < source → has_origin (origin_at source (from + i)) rest ≡ false)
    → different (page_origins from (sources_of (laid_pages own old)) ++ rest) ≡ owned own + different rest
different_laid_origins n from [] old rest same new there apart =
    let none : different rest ≡ 0 + different rest = omega arith in none
different_laid_origins n from (x ∷ own) [] rest same new there apart = absurd (omega (arith, same))
different_laid_origins n from (None ∷ own) (q ∷ old) rest same new there apart =
    let here : from + 0 ≡ from = omega arith in
    different_origins_cons q.source from (sources_of (laid_pages own old)) rest true (owned own + different rest)
    (ap (λ p. has_origin (origin_at q.source p) rest) (sym here) ∙ there 0 (omega arith))
    (different_laid_origins n (suc from) own old rest (omega (arith, same)) new
    (λ i lt. ap (λ p. has_origin (origin_at (get_or (sources_of old) i 0) p) rest) (omega arith) ∙ there (suc i) (omega (arith, lt)))
    (λ i source lt. ap (λ p. has_origin (origin_at source p) rest) (omega arith) ∙ apart (suc i) source lt))
different_laid_origins n from (Some page ∷ own) (q ∷ old) rest same new there apart =
    let here : from + 0 ≡ from = omega arith in
    let sum : suc (owned own + different rest) ≡ suc (owned own) + different rest = omega arith in
    different_origins_cons page.source from (sources_of (laid_pages own old)) rest false (owned own + different rest)
    (ap (λ p. has_origin (origin_at page.source p) rest) (sym here) ∙ apart 0 page.source new.0)
    (different_laid_origins n (suc from) own old rest (omega (arith, same)) new.2
    (λ i lt. ap (λ p. has_origin (origin_at (get_or (sources_of old) i 0) p) rest) (omega arith) ∙ there (suc i) (omega (arith, lt)))
    (λ i source lt. ap (λ p. has_origin (origin_at source p) rest) (omega arith) ∙ apart (suc i) source lt))
    ∙ sum

-- the oldest entry's
different_oldest_origins : (n from : ℕ) (own : List (Option Page)) → AreNewer n own [] → different (page_origins from (sources_of (laid_pages own [])) ++ []) ≡ owned own + 0
different_oldest_origins n from [] new = refl
different_oldest_origins n from (None ∷ own) new = absurd new
different_oldest_origins n from (Some page ∷ own) new =
    let sum : suc (owned own + 0) ≡ suc (owned own) + 0 = omega arith in
    different_origins_cons page.source from (sources_of (laid_pages own [])) [] false (owned own + 0) refl (different_oldest_origins n (suc from) own new.1) ∙ sum

-- all pages that are kept
pub different_origins_stored : (m : ℕ) (entries : List Entry) → AreEntries m entries → AreLaid entries → different (all_origins (all_kept entries)) ≡ stored_pages entries
different_origins_stored m [] are lies = refl
different_origins_stored m (e ∷ []) are lies =
    different_oldest_origins e.number 0 e.pages lies.0 ∙ sym (sum_by-cons (λ (x : Entry). owned x.pages) e [])
different_origins_stored m (e ∷ next ∷ older) are lies =
    let old = in_force (next ∷ older) in
    let rest = all_origins (all_kept (next ∷ older)) in
    different_laid_origins e.number 0 e.pages old rest (are.0.pages ∙ sym (length-in_force m next older are.1)) lies.0
    (λ i lt. ap (λ p. has_origin (origin_at (get_or (sources_of old) i 0) p) rest) (omega arith)
    ∙ has_origin_in_append (origin_at (get_or (sources_of old) i 0) i) (page_origins 0 (sources_of old)) (all_origins (all_kept older))
    ∙ (λ j. own_origin_from_zero i (sources_of old) (omega (arith, lt, length-map old (λ (p : Page). p.source))) j
    || has_origin (origin_at (get_or (sources_of old) i 0) i) (all_origins (all_kept older))))
    (λ i source lt. ap (λ p. has_origin (origin_at source p) rest) (omega arith) ∙ kept_no_later_origin m i source (next ∷ older) are.1 lies.1 lt)
    ∙ ap (λ k. owned e.pages + k) (different_origins_stored m (next ∷ older) are.1 lies.1)
    ∙ sym (sum_by-cons (λ (x : Entry). owned x.pages) e (next ∷ older))

-- ---- few

owned_le_length : (own : List (Option Page)) → owned own ≤ length own
owned_le_length [] = omega arith
owned_le_length (None ∷ own) = omega (arith, owned_le_length own)
owned_le_length (Some page ∷ own) = omega (arith, owned_le_length own)

pub stored_pages_bound : (m : ℕ) (entries : List Entry) → AreEntries m entries → m ≤ most_threads → stored_pages entries ≤ 16 * most_threads * length entries
stored_pages_bound m [] are few = omega arith
stored_pages_bound m (e ∷ entries) are few =
    let sum : stored_pages (e ∷ entries) ≡ owned e.pages + stored_pages entries = sum_by-cons (λ (x : Entry). owned x.pages) e entries in
    omega (arith, sum, owned_le_length e.pages, are.0.pages, few, stored_pages_bound m entries are.1 few)

pub page_counts_below : (m : ℕ) (entries : List Entry) → AreEntries m entries → m ≤ most_threads → All (λ (e : Entry). length e.pages < 2 ^ 32) entries
page_counts_below m entries are few = λ k d lt. omega (arith, (entry_at_place_is_entry m entries k d are lt).pages, few)
