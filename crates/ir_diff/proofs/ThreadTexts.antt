-- The lines of threads, one after the other.
use Rattle.std.proofs.Common.{◌≡◌, ℕ, suc, ◌+◌, inl, inr, Option, Some, None, List, [], ◌∷◌, ◌++◌, length, sym, ap, ◌∙◌, subst, arith, Result, Ok, Err, IfOk, codes, append_assoc}
use Rattle.std.specs.Prelude.{slice_get, flat_map}
use Rattle.std.proofs.lemmas.List.{length_push, flat_map_more}
use Rattle.ir_lemmas.proofs.CallerLemmas.{slice_get-push_cases}
use Rattle.ir_runs.specs.Machine.{EnteredAt}
use Rattle.ir_runs.specs.Run.{At}
use Rattle.ir_runs.specs.declared.access.Access.{Access}
use Rattle.ir_runs.specs.declared.access.Access.TheVariants.{Reading, Writing}
use Rattle.ir_log.specs.declared.event.Event.{Event}
use Rattle.ir_log.specs.declared.event.Event.TheVariants as variant
use Rattle.ir_trace.specs.Recorded.{Recorded, recorded_thread, trace_of}
use Rattle.ir_past.specs.Past.{event_at, IsMadeBy}
use Rattle.ir_past.specs.Naming.{maker_text}
use Rattle.ir_past.specs.Tables.{maker_in}
use Rattle.ir_past.specs.declared.place.Place.{Place}
use Rattle.ir_past.specs.declared.makers.Makers.{Makers}
use Rattle.ir_past.proofs.CallerLemmas.{entered_was_made}
use Rattle.ir_diff.specs.Progress.{counts_of_part, AreMakersOf}
use Rattle.ir_diff.specs.Lines.{common_line, budget_line, NamesMaker, IsThreadText}
use Rattle.ir_diff.proofs.Told.{no_write_if_none_noted}
use Rattle.ir_coherence.proofs.CallerLemmas.{at_of_mapped_label}

-- what is noted made the version that an entry finds
pub noted_maker_made : (r : Recorded) (m : Makers) (o v w t i l : ℕ) (a : Access) (made : Option Place) → AreMakersOf r m → v ≡ suc w
    → made ≡ maker_in m o w → At ((trace_of r).logs t) i (EnteredAt o a v l) → IsMadeBy r o v made
noted_maker_made r m o v w t i l a None are is noted at =
    let made = entered_was_made r are.coherent t i o w a l (subst (λ z. At ((trace_of r).logs t) i (EnteredAt o a z l)) is at) in
    absurd (no_write_if_none_noted r m o w made.0 made.1 made.2 are (sym noted) made.3)
noted_maker_made r m o v w t i l a (Some p) are is noted at = let there = are.makes.sound o w p (sym noted) in (w, there.0, is, there.1)

-- what holds of a result holds of it in other words
pub if_ok_weaker : {A E : Type 0} (r : Result A E) (P Q : A → Type 0) → ((x : A) → P x → Q x) → IfOk r P → IfOk r Q
if_ok_weaker (Ok x) P Q more p = more x p
if_ok_weaker (Err e) P Q more p = tt

-- what made the version that a read entry found
pub by_text_names_read_maker : (r : Recorded) (e : Event) (o v : ℕ) (made : Option Place) (text : List ℕ) → e ≡ variant.Read o v
    → ((t i l : ℕ) (a : Access) → At ((trace_of r).logs t) i (EnteredAt o a v l) → IsMadeBy r o v made)
    → text ≡ codes " by " ++ maker_text made → (t i : ℕ) → event_at r t i ≡ Some e → NamesMaker r e text
by_text_names_read_maker r e o v made text is by said t i = subst (λ (x : Event). event_at r t i ≡ Some x → NamesMaker r x text) (sym is)
    (λ there. (made, by t i 0 Reading (at_of_mapped_label (recorded_thread r t).events i (variant.Read o v) there), said))

-- what made the version that a write entry found
pub by_text_names_write_maker : (r : Recorded) (e : Event) (o v l : ℕ) (made : Option Place) (text : List ℕ) → e ≡ variant.Write o v l
    → ((t i k : ℕ) (a : Access) → At ((trace_of r).logs t) i (EnteredAt o a v k) → IsMadeBy r o v made)
    → text ≡ codes " by " ++ maker_text made → (t i : ℕ) → event_at r t i ≡ Some e → NamesMaker r e text
by_text_names_write_maker r e o v l made text is by said t i = subst (λ (x : Event). event_at r t i ≡ Some x → NamesMaker r x text) (sym is)
    (λ there. (made, by t i l Writing (at_of_mapped_label (recorded_thread r t).events i (variant.Write o v l) there), said))

-- the texts of the first n threads were put after the first lines
pub record AreTexts (a b : Recorded) (c : List ℕ) (n : ℕ) (text : List ℕ) : Type 0 where
  pub texts : List (List ℕ)
  pub each : length texts ≡ n
  pub threads : (t : ℕ) (own : List ℕ) → slice_get texts t ≡ Some own → IsThreadText a b (counts_of_part c) t own
  pub lines : text ≡ common_line c ++ (budget_line a.budget b.budget ++ flat_map (λ own. own) texts)

pub thread_texts_step : (a b : Recorded) (c : List ℕ) (n : ℕ) (text own new : List ℕ) → AreTexts a b c n text
    → IsThreadText a b (counts_of_part c) n own → new ≡ text ++ own → AreTexts a b c (n + 1) new
thread_texts_step a b c n text own new h is made = record {
  texts = h.texts ++ own ∷ [];
  each = let push = length_push h.texts own in let size = h.each in omega (arith, push, size);
  threads = λ t x there. elim (slice_get-push_cases h.texts own t x there) [
    | inl old ↦ h.threads t x old
    | inr last ↦ subst (λ z. IsThreadText a b (counts_of_part c) z x) (sym (last.0 ∙ h.each)) (subst (IsThreadText a b (counts_of_part c) n) last.1 is)
  ];
  lines = made ∙ ap (λ (x : List ℕ). x ++ own) h.lines
      ∙ append_assoc (common_line c) (budget_line a.budget b.budget ++ flat_map (λ x. x) h.texts) own
      ∙ ap (λ (x : List ℕ). common_line c ++ x) (flat_map_more (λ x. x) (budget_line a.budget b.budget) h.texts own);
}
