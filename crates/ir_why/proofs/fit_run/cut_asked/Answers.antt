use Rattle.std.proofs.Common.{◌≡◌, ◌∙◌, ℕ, inr, List, refl, sym, subst, Option, Vec, Global}
use Rattle.std.specs.Option.{option_map}
use Rattle.ir_why.specs.FitAnswers.{AreCuts, IsCutOfThreads}
use Rattle.ir_why.proofs.fit_run.cut_asked.Goals as goal

pub returns-then-not-is_cut-clause-fails : goal.returns-then-not-is_cut-clause-fails
returns-then-not-is_cut-clause-fails c = inr (
  refl,
  λ cuts.
      let own : IsCutOfThreads c.args.fitted.now c.in-Some.positions.items = subst (λ (x : Option (Vec ℕ Global)).
      AreCuts c.args.fitted.now (option_map (λ (v : Vec ℕ Global). v.items) x)) c.in-Some.is cuts in
      let same : c.new-cut.result ≡ c.in-Some.positions.items = c.new-cut.ensures ∙ c.in_ok-from_slice.ensures.items ∙ c.as_slice.ensures.value in
      c.is_cut.ensures.not c.if-not-is_cut.true (subst (λ (ps : List ℕ). IsCutOfThreads c.args.fitted.now ps) (sym same) own),
)

pub returns-clause-cut : goal.returns-clause-cut
returns-clause-cut c = c.is_cut.ensures.is c.if-not-is_cut.false
