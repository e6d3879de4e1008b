use Rattle.std.proofs.Common.{rules, arith, ◌<◌, ◌+◌, ◌∙◌, ap, length, take, slice_set}
use Rattle.run_commands.proofs.NameLemmas.{and_parts}
use Rattle.run_commands.proofs.TextLemmas.{copied-more, plain-more}
use Rattle.run_commands.proofs.texts.plain_numbers.Goals as goal

pub loop-i-preserved : goal.loop-i-preserved
loop-i-preserved c =
    let below : c.loop-i.i < length c.args.characters.now = omega arith in
    record {
      room = search rules;
      copied = ap (λ x. take (c.loop-i.i + 1) (slice_set c.loop-i.numbers c.loop-i.i x)) c.number.ensures.value
          ∙ copied-more _ _ _ _ (omega arith) below c.loop-i.invariant.copied;
      plain = λ are. let is = and_parts _ _ are in
          plain-more _ _ c.index-characters-i.result below (c.loop-i.invariant.plain is.0) (c.is_plain-are_plain.ensures is.1);
    }
