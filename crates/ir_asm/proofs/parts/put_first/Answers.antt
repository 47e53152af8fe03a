use Rattle.std.proofs.Common.{◌≡◌, ◌+◌, ◌-◌, ◌++◌, ◌∙◌, List, ℕ, take, ap, arith}
use Rattle.std.proofs.lemmas.List.{drop-drop}
use Rattle.ir_image.specs.Guest.{most_object_words, padded_to}
use Rattle.ir_asm.proofs.Kept.{take_padded_words}
use Rattle.ir_asm.proofs.parts.put_first.Goals as goal

pub returns : goal.returns
returns c =
    let count : c.args.start + c.args.count - c.args.start ≡ c.args.count = omega arith in
    let words : c.copy_from_slice.new.self ≡ padded_to c.args.count c.args.words.now =
    c.copy_from_slice.ensures.after ∙ ap (take c.args.count) c.padded-firsts.ensures
    ∙ take_padded_words c.args.count most_object_words c.args.words.now c.requires.few c.requires.most in
    rw (count, words)
    (ap (λ (back : List ℕ). take c.args.start c.args.all.now ++ (padded_to c.args.count c.args.words.now ++ back))
    (drop-drop c.args.count c.args.start c.args.all.now))
