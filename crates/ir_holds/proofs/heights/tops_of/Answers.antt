use Rattle.std.proofs.Common.{◌∙◌, ◌+◌, [], ◌∷◌, ◌++◌, length, ap, arith}
use Rattle.std.proofs.lemmas.List.{length_push}
use Rattle.std.proofs.lemmas.Option.{slice_get-get_or}
use Rattle.ir_holds.specs.declared.heights.Height.{Height}
use Rattle.ir_holds.proofs.Tops.{top_of_none_is_zero, top_with_next, tops_of_none, tops_after_next}
use Rattle.ir_holds.proofs.heights.tops_of.Goals as goal

pub loop-height-init : goal.loop-height-init
loop-height-init c =
    let is = c.in_ok-push.ensures.items in
    let none = c.new-tops.ensures.items in
    let all = is ∙ ap (λ xs. xs ++ 0 ∷ []) none in
    record {
      size = ap length all;
      top = top_of_none_is_zero c.args.each.now;
      tops = tops_of_none c.args.each.now c.push.new.self.items all;
    }

pub loop-height-preserved : goal.loop-height-preserved
loop-height-preserved c =
    let each = c.args.each.now in
    let n = c.loop-height.height-index in
    let no : Height = record { at = 0; top = 0 } in
    let size = c.loop-height.invariant.size in
    let top = top_with_next each n c.loop-height.top c.max-top.result _ (slice_get-get_or each n no c.loop-height-test.true) c.loop-height.invariant.top c.max-top.ensures in
    record {
      size = ap length c.in_ok-push-2.ensures.items ∙ length_push c.loop-height.tops.items c.max-top.result ∙ omega (arith, size);
      top = top;
      tops = tops_after_next each c.loop-height.tops.items c.push-in-loop-height.new.self.items (n + 1) c.max-top.result c.loop-height.invariant.tops size top
          c.in_ok-push-2.ensures.items;
    }

pub returns-clause-size : goal.returns-clause-size
returns-clause-size c =
    let size = c.loop-height.invariant.size in
    let past = c.loop-height-test.false in
    let end = c.loop-height.auto.height-index-end in
    omega (arith, size, past, end)

pub returns-clause-tops : goal.returns-clause-tops
returns-clause-tops c = c.loop-height.invariant.tops
