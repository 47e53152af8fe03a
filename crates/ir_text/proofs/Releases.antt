-- What a thread that has ended releases next, by what it asks.
use Rattle.std.proofs.Common.{◌≡◌, ℕ, List, Option, Some, None, refl, sym, ap, ◌∙◌}
use Rattle.std.specs.Prelude.{codes}
use Rattle.ir_runs.specs.declared.access.Access.{Access}
use Rattle.ir_thread.specs.State.{highest, ThreadState, ask_of, release_ask}
use Rattle.ir_thread.specs.declared.ask.Ask.{Ask}
use Rattle.ir_thread.specs.declared.ask.Ask.TheVariants.{Leave}
use Rattle.ir_thread.specs.declared.end.End.{End}
use Rattle.ir_text.specs.Texts.{number_line, released, next_by, next_text}

-- the line by what is asked
abbrev pub next_line_of_ask : Ask → List ℕ
next_line_of_ask (Leave o a) = number_line (codes "next give back ") o
next_line_of_ask q = codes "next done\n"

release_line_released : (top : Option (ℕ × Access)) → next_line_of_ask (release_ask top) ≡ released top
release_line_released (Some (o, a)) = refl
release_line_released None = refl

pub ended_text_is_line : (code : List ℕ) (s : ThreadState) (q : Ask) (e : End) → s.ended ≡ Some e → q ≡ ask_of code s → next_text code s ≡ next_line_of_ask q
ended_text_is_line code s q e ended asked =
    ap (λ x. next_by x code s) ended ∙ sym (release_line_released (highest s.held)) ∙ ap next_line_of_ask (sym (asked ∙ asks code s e ended))
  where
    asks : (code : List ℕ) (s : ThreadState) (e : End) → s.ended ≡ Some e → ask_of code s ≡ release_ask (highest s.held)
    asks code s e ended = rw ended refl
