-- States that no thread can tell apart.
use Rattle.std.proofs.Common.{◌≡◌, ℕ, zero, suc, ◌<◌, ◌≤◌, List, [], ◌∷◌, inl, inr, refl, sym, ap, ◌∙◌, subst, arith, length}
use Rattle.std.specs.Prelude.{slice_index}
use Rattle.std.specs.List.{slice_index_or}
use Rattle.std.proofs.lemmas.Bool.{cases_lt}
use Rattle.ir_object.specs.Cell.{Cell}
use Rattle.ir_object.specs.Empty.{empty}
use Rattle.ir_flat.specs.Flat.{IsFlat, thread_of, cell_of, idle}
use Rattle.ir_world.specs.Sources.{given}
use Rattle.ir_search_laws.specs.Looks.{Looks}
use Rattle.ir_likeness.specs.Seen.{view, Same}
use Rattle.ir_likeness.proofs.CallerLemmas.{look_same}
use Rattle.ir_state_store.specs.Nodes.{SourcedFlat, source_of, AreSameLooks}
use Rattle.ir_state_store.specs.Table.{no_source}
use Rattle.ir_graph.specs.Nodes.{LookAlike, seen_of}
use Rattle.ir_graph.specs.Plain.{LooksAlike}

pub slice_index_past_length : {A : Type 0} (xs : List A) (t : ℕ) (d : A) → length xs ≤ t → slice_index_or xs t d ≡ d
slice_index_past_length [] t d l = refl
slice_index_past_length (x ∷ xs) zero d l = absurd (omega (arith, l))
slice_index_past_length (x ∷ xs) (suc t) d l = slice_index_past_length xs t d (omega (arith, l))

pub look_alike_by_parts : (s u : SourcedFlat) → LooksAlike s.flat u.flat → length s.sources ≡ length s.flat.threads
    → length u.sources ≡ length u.flat.threads
    → ((t : ℕ) → t < length s.flat.threads → Same s.flat.code (view (thread_of s.flat t), source_of s t) (view (thread_of u.flat t), source_of u t))
    → ((o : ℕ) → (cell_of s.flat o).words ≡ (cell_of u.flat o).words) → LookAlike s u
look_alike_by_parts s u like many many' threads words =
    let each : (t : ℕ) → Same s.flat.code (view (thread_of s.flat t), source_of s t) (view (thread_of u.flat t), source_of u t) =
    λ t. elim (cases_lt t (length s.flat.threads)) [
      | inl l ↦ threads t l
      | inr l ↦
          let one : thread_of s.flat t ≡ idle = slice_index_past_length s.flat.threads t idle l in
          let other : thread_of u.flat t ≡ idle =
          slice_index_past_length u.flat.threads t idle (let e = like.threads in omega (arith, e, l)) in
          let source : source_of s t ≡ no_source = slice_index_past_length s.sources t no_source (omega (arith, many, l)) in
          let source' : source_of u t ≡ no_source =
          slice_index_past_length u.sources t no_source (let e = like.threads in omega (arith, many', e, l)) in
          inl (λ i. (view ((one ∙ sym other) i), (source ∙ sym source') i))
    ] in record {
      threads = each;
      inside = λ o t. (look_same s.flat.code given).holds (view (thread_of s.flat t), source_of s t) (view (thread_of u.flat t), source_of u t) (each t) o;
      words = λ o. ap slice_index (words o);
    }

pub words_past_objects : (xs ys : List Cell) (o : ℕ) → length ys ≡ length xs → length xs ≤ o
    → (slice_index_or xs o empty).words ≡ (slice_index_or ys o empty).words
words_past_objects xs ys o same l =
    ap (λ c. c.words) (slice_index_past_length xs o empty l) ∙ sym (ap (λ c. c.words) (slice_index_past_length ys o empty (omega (arith, same, l))))

pub look_alike_symmetric : (s u : SourcedFlat) → s.flat.code ≡ u.flat.code → LookAlike s u → LookAlike u s
look_alike_symmetric s u code like = subst (λ c. Looks (Same c) (seen_of u) (seen_of s)) code (record {
  threads = λ t. (look_same s.flat.code given).backwards (view (thread_of s.flat t), source_of s t) (view (thread_of u.flat t), source_of u t) (like.threads t);
  inside = λ o t. sym (like.inside o t);
  words = λ o. sym (like.words o);
})

equal_at_each_index : (xs ys : List ℕ) → length xs ≡ length ys → slice_index xs ≡ slice_index ys → xs ≡ ys
equal_at_each_index [] [] size each = refl
equal_at_each_index [] (y ∷ ys) size each = absurd (omega (arith, size))
equal_at_each_index (x ∷ xs) [] size each = absurd (omega (arith, size))
equal_at_each_index (x ∷ xs) (y ∷ ys) size each = λ i.
    each i 0 ∷ equal_at_each_index xs ys (omega (arith, size)) (λ j k. each j (suc k)) i

-- what no thread can tell apart has the same looks
pub look_alike_is_same : (s u : SourcedFlat) → IsFlat s.flat → IsFlat u.flat → length u.flat.objects ≡ length s.flat.objects → LookAlike s u
    → AreSameLooks s.flat.code s u
look_alike_is_same s u is also many like = record {
  threads = λ t less twins. like.threads t;
  words = λ o. elim (cases_lt o (length s.flat.objects)) [
    | inl l ↦ equal_at_each_index (cell_of s.flat o).words (cell_of u.flat o).words
        ((is.objects o l).words ∙ sym (also.objects o (omega (arith, l, many))).words) (like.words o)
    | inr l ↦ words_past_objects s.flat.objects u.flat.objects o many l
  ];
}
