use Rattle.std.proofs.Common.{◌++◌, ◌∙◌, ap, arith, flat_map}
use Rattle.ir_lemmas.proofs.CallerLemmas.{appends_nest_right}
use Rattle.ir_why.specs.Lines.{past_line}
use Rattle.ir_why.specs.FitLines.{fit_need_line, least_line, wait_line}
use Rattle.ir_why.proofs.fit_texts.reason_in.Goals as goal

pub past_in-requires-clause-has : goal.past_in-requires-clause-has
past_in-requires-clause-has c =
    let known = c.known.ensures.run in
    let reaches = (c.in_ok-least.ensures.1 known.run known.whole).reaches in
    omega (arith, reaches)

pub returns : goal.returns
returns c = λ ends placed. record {
  here = c.in_ok-text.text.items;
  is_here = c.in_ok-text.ensures;
  needs = c.in_ok-needs.needs.items;
  needed = c.in_ok-needs.ensures;
  least = c.in_ok-least.least;
  is_least = c.in_ok-least.ensures;
  counts = c.in_ok-past.past.items;
  past = c.in_ok-past.ensures;
  boxes = c.args.boxes.now;
  ends = ends;
  placed = placed;
  waits = c.in_ok-waits.waits.items;
  chain = c.in_ok-waits.ensures;
  lines = appends_nest_right c.in_ok-text.text.items (flat_map (fit_need_line c.args.at.now) c.in_ok-needs.needs.items) (past_line c.in_ok-past.past.items)
      (least_line c.in_ok-least.least) (flat_map wait_line c.in_ok-waits.waits.items) c.push_needs.new.text.items c.extend_from_slice.new.self.items
      c.extend_from_slice-2.new.self.items c.push_waits.new.text.items
      (c.in_ok-push_needs.ensures ∙ ap (λ xs. c.in_ok-text.text.items ++ flat_map (fit_need_line c.args.at.now) xs) c.deref.ensures.value)
      (c.in_ok-extend_from_slice.ensures.items ∙ ap (λ xs. c.push_needs.new.text.items ++ xs)
      (c.as_bytes.ensures.value ∙ c.in_ok-past_line.ensures ∙ ap past_line c.deref-2.ensures.value))
      (c.in_ok-extend_from_slice-2.ensures.items ∙ ap (λ xs. c.extend_from_slice.new.self.items ++ xs) (c.as_bytes-2.ensures.value ∙ c.in_ok-least_line.ensures))
      (c.in_ok-push_waits.ensures ∙ ap (λ xs. c.extend_from_slice-2.new.self.items ++ flat_map wait_line xs) c.deref-3.ensures.value);
}
