-- Pages over older ones.
use Rattle.std.proofs.Common.{◌≡◌, ◌==◌, ◌&&◌, ◌+◌, ◌*◌, ◌<◌, ℕ, zero, suc, Bool, true, false, if◌then◌else◌, List, [], ◌∷◌, ◌++◌, length}
use Rattle.std.proofs.Common.{map, take, drop, Option, Some, None, refl, sym, ap, ◌∙◌, arith, get_or, set}
use Rattle.std.proofs.lemmas.List.{drop_more}
use Rattle.std.proofs.lemmas.Bool.Decides.{nat_tests}
use Rattle.ir_lemmas.proofs.CallerLemmas.{conjuncts_are_true}
use Rattle.ir_checkpoint.specs.Pages.{next_sources, same_bytes}
use Rattle.ir_checkpoint.specs.Store.{Page, Entry, blank, newer, laid_pages, in_force, changed_page, changed, first_stored, handed, AreEntries, IsEntry}

-- ---- an entry is dropped, and hands its pages on

newer-first_of : (own given : Option Page) (old : Page) → newer (first_stored own given) old ≡ newer own (newer given old)
newer-first_of None given old = refl
newer-first_of (Some page) given old = refl

-- the newer entry's pages stay what they are
pub laid-handed : (own given : List (Option Page)) (old : List Page) → length own ≡ length given → laid_pages (handed own given) old ≡ laid_pages own (laid_pages given old)
laid-handed [] given old same = refl
laid-handed (x ∷ own) [] old same = absurd (omega (arith, same))
laid-handed (x ∷ own) (y ∷ given) [] same = λ i. newer-first_of x y blank i ∷ laid-handed own given [] (omega (arith, same)) i
laid-handed (x ∷ own) (y ∷ given) (q ∷ old) same = λ i. newer-first_of x y q i ∷ laid-handed own given old (omega (arith, same)) i

pub length-laid : (pages : List (Option Page)) (old : List Page) → length (laid_pages pages old) ≡ length pages
length-laid [] old = refl
length-laid (x ∷ pages) [] = ap suc (length-laid pages [])
length-laid (x ∷ pages) (q ∷ old) = ap suc (length-laid pages old)

pub length-handed : (own given : List (Option Page)) → length (handed own given) ≡ length own
length-handed [] given = refl
length-handed (x ∷ own) [] = refl
length-handed (x ∷ own) (y ∷ given) = ap suc (length-handed own given)

-- ---- an entry is made of what changed

pub same_bytes_equal : (a b : List ℕ) → same_bytes a b ≡ true → a ≡ b
same_bytes_equal [] [] e = refl
same_bytes_equal [] (y ∷ b) e = cc e
same_bytes_equal (x ∷ a) [] e = cc e
same_bytes_equal (x ∷ a) (y ∷ b) e =
    let both : ((x == y) ≡ true) × (same_bytes a b ≡ true) = conjuncts_are_true (x == y) (same_bytes a b) e in
    let one : x ≡ y = grind (arith, nat_tests, both.0) in
    λ i. one i ∷ same_bytes_equal a b both.1 i

changed_page_bytes : (n : ℕ) (bytes : List ℕ) (old : Page) (b : Bool) → same_bytes bytes old.bytes ≡ b → (newer (if b then None else Some (record { source = n; bytes = bytes })) old).bytes ≡ bytes
changed_page_bytes n bytes old true e = sym (same_bytes_equal bytes old.bytes e)
changed_page_bytes n bytes old false e = refl

changed_page_source : (n : ℕ) (bytes : List ℕ) (old : Page) (b : Bool) → (newer (if b then None else Some (record { source = n; bytes = bytes })) old).source ≡ (if b then old.source else n)
changed_page_source n bytes old true = refl
changed_page_source n bytes old false = refl

-- the pages of the new entry are those of the state
pub changed_pages_bytes : (n : ℕ) (news : List (List ℕ)) (old : List Page) → map (λ (p : Page). p.bytes) (laid_pages (changed n news old) old) ≡ news
changed_pages_bytes n [] old = refl
changed_pages_bytes n (bytes ∷ news) [] = λ i. changed_page_bytes n bytes blank (same_bytes bytes []) refl i ∷ changed_pages_bytes n news [] i
changed_pages_bytes n (bytes ∷ news) (q ∷ old) = λ i. changed_page_bytes n bytes q (same_bytes bytes q.bytes) refl i ∷ changed_pages_bytes n news old i

-- and their sources are those of the rule
pub changed_pages_sources : (n : ℕ) (news : List (List ℕ)) (old : List Page) → length news ≡ length old
    → map (λ (p : Page). p.source) (laid_pages (changed n news old) old) ≡ next_sources n news (map (λ (p : Page). p.bytes) old) (map (λ (p : Page). p.source) old)
changed_pages_sources n [] old same = refl
changed_pages_sources n (bytes ∷ news) [] same = absurd (omega (arith, same))
changed_pages_sources n (bytes ∷ news) (q ∷ old) same = λ i. changed_page_source n bytes q (same_bytes bytes q.bytes) i ∷ changed_pages_sources n news old (omega (arith, same)) i

-- ---- pages at a place

pub laid_page_is_newer : (pages : List (Option Page)) (old : List Page) (place : ℕ) → place < length pages
    → get_or (laid_pages pages old) place blank ≡ newer (get_or pages place None) (get_or old place blank)
laid_page_is_newer [] old place lt = absurd (omega (arith, lt))
laid_page_is_newer (x ∷ pages) [] zero lt = refl
laid_page_is_newer (x ∷ pages) [] (suc place) lt = laid_page_is_newer pages [] place (omega (arith, lt))
laid_page_is_newer (x ∷ pages) (q ∷ old) zero lt = refl
laid_page_is_newer (x ∷ pages) (q ∷ old) (suc place) lt = laid_page_is_newer pages old place (omega (arith, lt))

-- the newest page at a place is the newest entry's own, or that of the older ones
pub in_force_is_newer : (entries : List Entry) (i place : ℕ) (d : Entry) → i < length entries → place < length (get_or entries i d).pages
    → get_or (in_force (drop i entries)) place blank ≡ newer (get_or (get_or entries i d).pages place None) (get_or (in_force (drop (i + 1) entries)) place blank)
in_force_is_newer entries i place d lt below =
    ap (λ es. get_or (in_force es) place blank) (drop_more entries i d lt) ∙ laid_page_is_newer (get_or entries i d).pages (in_force (drop (i + 1) entries)) place below

-- an own page is found
pub in_force_own_page : (entries : List Entry) (i place : ℕ) (d : Entry) (page : Page) → i < length entries
    → place < length (get_or entries i d).pages → get_or (get_or entries i d).pages place None ≡ Some page
    → get_or (in_force (drop i entries)) place blank ≡ page
in_force_own_page entries i place d page lt below e = in_force_is_newer entries i place d lt below ∙ ap (λ o. newer o (get_or (in_force (drop (i + 1) entries)) place blank)) e

pub in_force_older_page : (entries : List Entry) (i place : ℕ) (d : Entry) → i < length entries → place < length (get_or entries i d).pages → get_or (get_or entries i d).pages place None ≡ None
    → get_or (in_force (drop i entries)) place blank ≡ get_or (in_force (drop (i + 1) entries)) place blank
in_force_older_page entries i place d lt below e = in_force_is_newer entries i place d lt below ∙ ap (λ o. newer o (get_or (in_force (drop (i + 1) entries)) place blank)) e

pub entry_at_place_is_entry : (n : ℕ) (entries : List Entry) (k : ℕ) (d : Entry) → AreEntries n entries → k < length entries → IsEntry n (get_or entries k d)
entry_at_place_is_entry n [] k d are lt = absurd (omega (arith, lt))
entry_at_place_is_entry n (e ∷ entries) zero d are lt = are.0
entry_at_place_is_entry n (e ∷ entries) (suc k) d are lt = entry_at_place_is_entry n entries k d are.1 (omega (arith, lt))

pub place_within_all_pages : (n place : ℕ) (entries : List Entry) → AreEntries n entries → place < 16 * n → (k : ℕ) (d : Entry) → k < length entries → place < length (get_or entries k d).pages
place_within_all_pages n place entries are lt k d in_list = omega (arith, (entry_at_place_is_entry n entries k d are in_list).pages, lt)

-- ---- one place further

drop_of_empty : {X : Type 0} (i : ℕ) → drop {A = X} i [] ≡ []
drop_of_empty zero = refl
drop_of_empty (suc i) = refl

pub changed_of_drop_step : (n : ℕ) (news : List (List ℕ)) (old : List Page) (i : ℕ) → i < length news
    → changed n (drop i news) (drop i old) ≡ changed_page n (get_or news i []) (get_or old i blank) ∷ changed n (drop (suc i) news) (drop (suc i) old)
changed_of_drop_step n [] old i lt = absurd (omega (arith, lt))
changed_of_drop_step n (b ∷ news) [] zero lt = refl
changed_of_drop_step n (b ∷ news) (q ∷ old) zero lt = refl
changed_of_drop_step n (b ∷ news) [] (suc i) lt = ap (changed n (drop i news)) (sym (drop_of_empty i)) ∙ changed_of_drop_step n news [] i (omega (arith, lt))
changed_of_drop_step n (b ∷ news) (q ∷ old) (suc i) lt = changed_of_drop_step n news old i (omega (arith, lt))

pub handed_pages_step : (own given : List (Option Page)) (i : ℕ) (d e : Option Page) → i < length own → i < length given
    → take (suc i) (set own i (first_stored (get_or own i d) (get_or given i e)))
    ++ handed (drop (suc i) (set own i (first_stored (get_or own i d) (get_or given i e)))) (drop (suc i) (set given i None))
    ≡ take i own ++ handed (drop i own) (drop i given)
handed_pages_step [] given i d e lt below = absurd (omega (arith, lt))
handed_pages_step (x ∷ own) [] i d e lt below = absurd (omega (arith, below))
handed_pages_step (x ∷ own) (y ∷ given) zero d e lt below = refl
handed_pages_step (x ∷ own) (y ∷ given) (suc i) d e lt below = ap (λ l. x ∷ l) (handed_pages_step own given i d e (omega (arith, lt)) (omega (arith, below)))

pub handed_values_step : (own given : List (Option Page)) (i : ℕ) (d e x y : Option Page) → i < length own → i < length given → x ≡ first_stored (get_or own i d) (get_or given i e) → y ≡ None
    → take (i + 1) (set own i x) ++ handed (drop (i + 1) (set own i x)) (drop (i + 1) (set given i y)) ≡ take i own ++ handed (drop i own) (drop i given)
handed_values_step own given i d e x y lt below mine none =
    let one : i + 1 ≡ suc i = omega arith in
    (λ j. take (one j) (set own i (mine j)) ++ handed (drop (one j) (set own i (mine j))) (drop (one j) (set given i (none j)))) ∙ handed_pages_step own given i d e lt below
