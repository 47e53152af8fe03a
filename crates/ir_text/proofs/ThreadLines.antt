-- The lines of a verdict, thread by thread.
use Rattle.std.proofs.Common.{◌≡◌, ◌<◌, ◌+◌, ℕ, zero, suc, List, [], ◌∷◌, ◌++◌, length, drop, refl, sym, ap, ◌∙◌, arith}
use Rattle.std.proofs.lemmas.List.{at_drop_more}
use Rattle.std.specs.Prelude.{slice_index_or}
use Rattle.ir_runs.specs.declared.thread_verdict.ThreadVerdict.{ThreadVerdict}
use Rattle.ir_text.specs.Texts.{threads_text}
use Rattle.ir_text.specs.Parts.{thread_line}

-- the first line and the others
threads_text_first_line : (t : ℕ) (vs : List ThreadVerdict) (d : ThreadVerdict) → t < length vs
    → threads_text t (drop t vs) ≡ thread_line t (slice_index_or vs t d) ++ threads_text (t + 1) (drop (t + 1) vs)
unfolding threads_text
threads_text_first_line t vs d some = at_drop_more (threads_text t) vs t d some

-- the same, if the first is in a text that was empty
pub threads_text_step : (t : ℕ) (vs : List ThreadVerdict) (d : ThreadVerdict) (first line : List ℕ) → t < length vs → first ≡ []
    → line ≡ first ++ thread_line t (slice_index_or vs t d)
    → threads_text t (drop t vs) ≡ line ++ threads_text (t + 1) (drop (t + 1) vs)
threads_text_step t vs d first line some none same =
    let rest : List ℕ = threads_text (t + 1) (drop (t + 1) vs) in
    let is : line ≡ thread_line t (slice_index_or vs t d) = same ∙ ap (λ (x : List ℕ). x ++ thread_line t (slice_index_or vs t d)) none in
    threads_text_first_line t vs d some ∙ ap (λ (x : List ℕ). x ++ rest) (sym is)

drop_whole_is_empty : (n : ℕ) (vs : List ThreadVerdict) → n ≡ length vs → drop n vs ≡ []
drop_whole_is_empty zero [] e = refl
drop_whole_is_empty zero (v ∷ vs) e = absurd cc
drop_whole_is_empty (suc n) [] e = absurd cc
drop_whole_is_empty (suc n) (v ∷ vs) e = drop_whole_is_empty n vs (omega (arith, e))

-- no line is left after the last
pub threads_text_at_end : (t : ℕ) (vs : List ThreadVerdict) → t ≡ length vs → threads_text t (drop t vs) ≡ []
unfolding threads_text
threads_text_at_end t vs end = ap (λ (x : List ThreadVerdict). threads_text t x) (drop_whole_is_empty t vs end)
