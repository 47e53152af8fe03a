-- The list of threads, one by one.
use Rattle.std.proofs.Common.{◌≡◌, ◌∙◌, ◌+◌, ℕ, suc, Bool, true, false, eqb, List, [], ◌++◌, codes, decimal, refl, sym, ap, arith, append_assoc, append-nil, if◌then◌else◌}
use Rattle.std.proofs.lemmas.Bool.{eqb-true, eqb-false}
use Rattle.ir_gdb.specs.Stub.{Stub}
use Rattle.ir_packet.specs.Replies.{hex_number_text}
use Rattle.ir_cut.specs.Positions.{last_of}
use Rattle.ir_gdb.specs.Stops.{position_of}
use Rattle.ir_gdb.specs.Endings.{end_of_thread, words_of_end}
use Rattle.ir_gdb.specs.Texts.{position_text, thread_list_line, first_threads_text}

first_threads_text_step : (s : Stub) (n : ℕ) → first_threads_text s (n + 1) ≡ first_threads_text s n ++ thread_list_line s n
unfolding first_threads_text
first_threads_text_step s n = let more : n + 1 ≡ suc n = omega arith in ap (λ (k : ℕ). first_threads_text s k) more

pub text_put_start : (s : Stub) (old new head : List ℕ) → old ≡ [] → new ≡ old ++ head → new ≡ head ++ first_threads_text s 0
unfolding first_threads_text
text_put_start s old new head none put = put ∙ ap (λ (xs : List ℕ). xs ++ head) none ∙ sym (append-nil head)

pub text_put_step : (s : Stub) (n : ℕ) (old new head : List ℕ) → old ≡ head ++ first_threads_text s n → new ≡ old ++ thread_list_line s n
    → new ≡ head ++ first_threads_text s (n + 1)
text_put_step s n old new head is put = put ∙ ap (λ (xs : List ℕ). xs ++ thread_list_line s n) is ∙ append_assoc head (first_threads_text s n) (thread_list_line s n)
    ∙ ap (λ (xs : List ℕ). head ++ xs) (sym (first_threads_text_step s n))

pub append_3_texts : (old new head threads tail : List ℕ) → old ≡ head ++ threads → new ≡ old ++ tail → new ≡ head ++ (threads ++ tail)
append_3_texts old new head threads tail is put = put ∙ ap (λ (xs : List ℕ). xs ++ tail) is ∙ append_assoc head threads tail

-- ---- a thread's element

end_text_at_last : (b : Bool) (p last : ℕ) (text : List ℕ) → eqb p last ≡ b → p ≡ last → (if b then text else []) ≡ text
end_text_at_last true p last text test e = refl
end_text_at_last false p last text test e = absurd (eqb-false p last test e)

no_end_text_before : (b : Bool) (p last : ℕ) (text : List ℕ) → eqb p last ≡ b → (p ≡ last → ⊥) → (if b then text else []) ≡ []
no_end_text_before true p last text test going = absurd (going (eqb-true p last test))
no_end_text_before false p last text test going = refl

append_seven_texts : (a b c d e f more : List ℕ) → (((a ++ b) ++ (c ++ d)) ++ (e ++ f)) ++ more ≡ a ++ b ++ c ++ d ++ e ++ f ++ more
append_seven_texts a b c d e f more = simp append_assoc

-- the text with the name and the positions, and then how the thread ended
module _ (s : Stub) (t p last : ℕ) (at : p ≡ position_of s t) (end : last ≡ last_of s.desk.fitted t) (t0 t1 t2 t3 : List ℕ) (none : t0 ≡ [])
    (name : t1 ≡ t0 ++ (codes "\" name=\"thread " ++ decimal t)) (here : t2 ≡ t1 ++ (codes "\">at " ++ decimal p))
    (whole : t3 ≡ t2 ++ (codes " of " ++ decimal last)) where
  before_end : (more : List ℕ)
      → t3 ++ more ≡ codes "\" name=\"thread " ++ decimal t ++ codes "\">at " ++ decimal (position_of s t) ++ codes " of " ++ decimal (last_of s.desk.fitted t) ++ more
  before_end more = ap (λ (xs : List ℕ). xs ++ more)
      (whole ∙ ap (λ (xs : List ℕ). xs ++ (codes " of " ++ decimal last)) (here ∙ ap (λ (xs : List ℕ). xs ++ (codes "\">at " ++ decimal p))
      (name ∙ ap (λ (xs : List ℕ). xs ++ (codes "\" name=\"thread " ++ decimal t)) none)))
      ∙ ap (λ (n : ℕ). (((codes "\" name=\"thread " ++ decimal t) ++ (codes "\">at " ++ decimal n)) ++ (codes " of " ++ decimal last)) ++ more) at
      ∙ ap (λ (n : ℕ). (((codes "\" name=\"thread " ++ decimal t) ++ (codes "\">at " ++ decimal (position_of s t))) ++ (codes " of " ++ decimal n)) ++ more) end
      ∙ append_seven_texts (codes "\" name=\"thread ") (decimal t) (codes "\">at ") (decimal (position_of s t)) (codes " of ")
      (decimal (last_of s.desk.fitted t)) more

  pub place_ended : (out mid new : List ℕ) → p ≡ last → mid ≡ out ++ t3 → new ≡ mid ++ words_of_end (end_of_thread s.desk.fitted t) → new ≡ out ++ position_text s t
  place_ended out mid new e put ends = ends ∙ ap (λ (xs : List ℕ). xs ++ words_of_end (end_of_thread s.desk.fitted t)) put ∙ append_assoc out t3 (words_of_end (end_of_thread s.desk.fitted t))
      ∙ ap (λ (xs : List ℕ). out ++ xs) (
      ap (λ (xs : List ℕ). t3 ++ xs) (sym (end_text_at_last (eqb p last) p last (words_of_end (end_of_thread s.desk.fitted t)) refl e))
      ∙ ap (λ (n : ℕ). t3 ++ (if eqb n last then words_of_end (end_of_thread s.desk.fitted t) else [])) at
      ∙ ap (λ (n : ℕ). t3 ++ (if eqb (position_of s t) n then words_of_end (end_of_thread s.desk.fitted t) else [])) end
      ∙ before_end (if eqb (position_of s t) (last_of s.desk.fitted t) then words_of_end (end_of_thread s.desk.fitted t) else []))

  pub place_going : (out new : List ℕ) → (p ≡ last → ⊥) → new ≡ out ++ t3 → new ≡ out ++ position_text s t
  place_going out new going put = put ∙ ap (λ (xs : List ℕ). out ++ xs) (sym (append-nil t3)
      ∙ ap (λ (xs : List ℕ). t3 ++ xs) (sym (no_end_text_before (eqb p last) p last (words_of_end (end_of_thread s.desk.fitted t)) refl going))
      ∙ ap (λ (n : ℕ). t3 ++ (if eqb n last then words_of_end (end_of_thread s.desk.fitted t) else [])) at
      ∙ ap (λ (n : ℕ). t3 ++ (if eqb (position_of s t) n then words_of_end (end_of_thread s.desk.fitted t) else [])) end
      ∙ before_end (if eqb (position_of s t) (last_of s.desk.fitted t) then words_of_end (end_of_thread s.desk.fitted t) else []))

append_five_texts : (o a b c d : List ℕ) → (((o ++ a) ++ b) ++ c) ++ d ≡ o ++ (a ++ b ++ c ++ d)
append_five_texts o a b c d = simp append_assoc

pub thread_text_by_parts : (s : Stub) (t n : ℕ) (o0 o1 o2 o3 o4 : List ℕ) → n ≡ t + 1 → o1 ≡ o0 ++ codes "<thread id=\"" → o2 ≡ o1 ++ hex_number_text n
    → o3 ≡ o2 ++ position_text s t → o4 ≡ o3 ++ codes "</thread>" → o4 ≡ o0 ++ thread_list_line s t
thread_text_by_parts s t n o0 o1 o2 o3 o4 id e1 e2 e3 e4 = e4
    ∙ ap (λ (xs : List ℕ). xs ++ codes "</thread>") (e3 ∙ ap (λ (xs : List ℕ). xs ++ position_text s t) (e2
    ∙ ap (λ (xs : List ℕ). xs ++ hex_number_text n) e1))
    ∙ append_five_texts o0 (codes "<thread id=\"") (hex_number_text n) (position_text s t) (codes "</thread>")
    ∙ ap (λ (k : ℕ). o0 ++ (codes "<thread id=\"" ++ hex_number_text k ++ position_text s t ++ codes "</thread>")) id
