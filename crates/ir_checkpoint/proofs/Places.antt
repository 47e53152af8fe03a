-- Pages by their places.
use Rattle.std.proofs.Common.{◌≡◌, ◌*◌, ◌+◌, ◌-◌, ◌/◌, ◌%◌, ◌<◌, ◌≤◌, ℕ, zero, suc, List, [], ◌∷◌, ◌++◌, length, drop, get_or, rules, Option, refl, sym, ap, ◌∙◌, arith, inl, inr}
use Rattle.std.proofs.lemmas.Bool.{cases_lt}
use Rattle.std.proofs.lemmas.List.{get_or-append-add, get_or_append_left, append_assoc, length-append}
use Rattle.ir_lemmas.proofs.CallerLemmas.{drop_past_length}
use Rattle.ir_mach.specs.Pages.{page_of, pages_of}
use Rattle.ir_mach.proofs.CallerLemmas.{get_or-pages_from}
use Rattle.ir_thread.specs.State as thread
use Rattle.ir_checkpoint.specs.Pages.{all_pages}
use Rattle.ir_checkpoint.specs.Store.{Page, blank, changed_page, changed}
use Rattle.ir_checkpoint.proofs.Laid.{changed_of_drop_step}

-- the page of a thread at a place
pub all_pages_at_place : (threads : List thread.ThreadState) (place : ℕ) (d : thread.ThreadState) → place < 16 * length threads
    → get_or (all_pages threads) place [] ≡ page_of (get_or threads (place / 16) d).core.memory (place % 16)
all_pages_at_place [] place d lt = absurd (omega (arith, lt))
all_pages_at_place (t ∷ threads) place d lt = elim (cases_lt place 16) [
  | inl low ↦
      let first : place / 16 ≡ 0 = omega (arith, low) in
      let own : place % 16 ≡ 0 + place = omega (arith, low) in
      get_or_append_left (pages_of t.core.memory) (all_pages threads) [] place (omega (arith, low))
      ∙ get_or-pages_from t.core.memory 0 16 place [] low
      ∙ λ i. page_of (get_or (t ∷ threads) (sym first i) d).core.memory (sym own i)
  | inr high ↦
      let next : place / 16 ≡ suc ((place - 16) / 16) = omega (arith, high) in
      let own : place % 16 ≡ (place - 16) % 16 = omega (arith, high) in
      let past : place ≡ 16 + (place - 16) = omega (arith, high) in
      ap (λ z. get_or (all_pages (t ∷ threads)) z []) past
      ∙ get_or-append-add (pages_of t.core.memory) (all_pages threads) (place - 16) []
      ∙ all_pages_at_place threads (place - 16) d (omega (arith, lt, high))
      ∙ λ i. page_of (get_or (t ∷ threads) (sym next i) d).core.memory (sym own i)
]

pub length-all_pages : (threads : List thread.ThreadState) → length (all_pages threads) ≡ 16 * length threads
length-all_pages [] = refl
length-all_pages (t ∷ threads) = omega (arith, length-append (pages_of t.core.memory) (all_pages threads), length-all_pages threads)

-- one page more is compared
pub compared_pages_step : (n : ℕ) (threads : List thread.ThreadState) (force : List Page) (place : ℕ) (d : thread.ThreadState)
    (pages new whole : List (Option Page)) (page : Option Page) (bytes old : List ℕ)
    → place < 16 * length threads → new ≡ pages ++ page ∷ [] → page ≡ changed_page n bytes (record { source = 0; bytes = old })
    → bytes ≡ page_of (get_or threads (place / 16) d).core.memory (place % 16) → old ≡ (get_or force place blank).bytes
    → pages ++ changed n (drop place (all_pages threads)) (drop place force) ≡ whole
    → new ++ changed n (drop (place + 1) (all_pages threads)) (drop (place + 1) force) ≡ whole
compared_pages_step n threads force place d pages new whole page bytes old lt grown made read was e =
    let all = all_pages threads in
    let one : place + 1 ≡ suc place = omega arith in
    let b : bytes ≡ get_or all place [] = read ∙ sym (all_pages_at_place threads place d lt) in
    let mine : page ≡ changed_page n (get_or all place []) (get_or force place blank) = made ∙ λ i. changed_page n (b i) (record { source = 0; bytes = was i }) in
    let rest = changed n (drop (suc place) all) (drop (suc place) force) in
    (λ i. grown i ++ changed n (drop (one i) all) (drop (one i) force))
    ∙ append_assoc pages (page ∷ []) rest
    ∙ ap (λ l. pages ++ l) ((λ i. mine i ∷ rest) ∙ sym (changed_of_drop_step n all force place (omega (arith, length-all_pages threads, lt))))
    ∙ e

pub compared_are_whole : (n : ℕ) (threads : List thread.ThreadState) (force : List Page) (place : ℕ) (pages whole : List (Option Page)) → 16 * length threads ≤ place
    → pages ++ changed n (drop place (all_pages threads)) (drop place force) ≡ whole → pages ≡ whole
compared_are_whole n threads force place pages whole le e =
    let none : pages ++ [] ≡ pages = search rules in
    sym none ∙ ap (λ l. pages ++ changed n l (drop place force)) (sym (drop_past_length (all_pages threads) place (omega (arith, length-all_pages threads, le)))) ∙ e
