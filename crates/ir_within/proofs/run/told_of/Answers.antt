use Rattle.std.proofs.Common.{◌++◌, ◌∙◌, Ok, Err, ap, inl}
use Rattle.std.specs.Prelude.{codes, option_map}
use Rattle.std.specs.String.{string_bytes}
use Rattle.ir_explore.specs.Texts.{known_of}
use Rattle.ir_within.specs.Plans.{aspects_of}
use Rattle.ir_within.proofs.First.{unlisted_if_unknown}
use Rattle.ir_lemmas.proofs.CallerLemmas.{if_ok_of_implied}
use Rattle.ir_within.proofs.run.told_of.Goals as goal

pub returns-then-is_finished : goal.returns-then-is_finished
returns-then-is_finished g c = if_ok_of_implied _ _ c.told_beside.result (λ told f. f c.args.other.now c.in-Ok.ensures.known) c.told_beside.ensures

pub returns-in_ok-line-in-Ok : goal.returns-in_ok-line-in-Ok
returns-in_ok-line-in-Ok g c =
    if_ok_of_implied _ _ c.other_unknown.result (λ told is.
    unlisted_if_unknown (aspects_of c.args.plan.now.aspects) c.args.image.now c.args.other.now c.args.plan.now.explore (option_map string_bytes told.list) told.verdict
    told.text.items is.2 is.1 (inl (record {
      searched = Ok (known_of c.in-Ok.others);
      is = c.in-Ok.ensures.known;
      unfinished = c.is_finished.ensures.unfinished c.if-is_finished.false;
      unknown = is.1;
      whole = is.0 ∙ ap (λ z. codes "other " ++ (z ++ codes "unknown\n")) (c.as_str.ensures.value ∙ c.in_ok-line-in-Ok.ensures);
    }))) c.other_unknown.ensures

pub returns-in_ok-line-in-Err : goal.returns-in_ok-line-in-Err
returns-in_ok-line-in-Err g c =
    if_ok_of_implied _ _ c.other_unknown-in-Err.result (λ told is.
    unlisted_if_unknown (aspects_of c.args.plan.now.aspects) c.args.image.now c.args.other.now c.args.plan.now.explore (option_map string_bytes told.list) told.verdict
    told.text.items is.2 is.1 (inl (record {
      searched = Err c.in-Err.why;
      is = c.in-Err.ensures.refused;
      unfinished = λ none. none;
      unknown = is.1;
      whole = is.0 ∙ ap (λ z. codes "other " ++ (z ++ codes "unknown\n")) (c.as_str-in-Err.ensures.value ∙ c.in_ok-line-in-Err.ensures);
    }))) c.other_unknown-in-Err.ensures
