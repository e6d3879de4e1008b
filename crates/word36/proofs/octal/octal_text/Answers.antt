use Rattle.std.proofs.Common.{◌∙◌, arith}
use Rattle.std.proofs.lemmas.Grind.{common_steps}
use Rattle.word36.proofs.OctalLemmas.{IsUtf8_octal_within, within_last, within_more, below_more_digits, digits_value_octal_within, length_octal_within}
use Rattle.word36.proofs.octal.octal_text.Goals as goal

pub loop-rest-preserved : goal.loop-rest-preserved
loop-rest-preserved c =
    let l = c.loop-rest in
    let room = below_more_digits l.first l.rest l.invariant.1 l.invariant.3 c.if-rest-eq0.false in (
      grind (arith, common_steps),
      room.0,
      omega arith,
      room.1,
      within_more l.first l.rest l.digits l.invariant.1 (omega arith) c.if-rest-eq0.false ∙ l.invariant.4,
    )

pub text_of-requires : goal.text_of-requires
text_of-requires c =
    let l = c.loop-rest in
    let e = within_last 22 l.first l.rest l.digits l.invariant.0 l.invariant.1 (omega arith) c.if-rest-eq0.true ∙ l.invariant.4 in
    rw e (record { digits = IsUtf8_octal_within 22 c.args.number; fits = length_octal_within 22 c.args.number 22 (omega arith) (omega arith) })

pub returns-clause-text : goal.returns-clause-text
returns-clause-text c =
    let l = c.loop-rest in
    let e = within_last 22 l.first l.rest l.digits l.invariant.0 l.invariant.1 (omega arith) c.if-rest-eq0.true ∙ l.invariant.4 in
    c.text_of.ensures ∙ e

pub returns-clause-read_back : goal.returns-clause-read_back
returns-clause-read_back c =
    rw (returns-clause-text c) (digits_value_octal_within 22 c.args.number (omega arith) (omega arith))

pub returns-clause-short : goal.returns-clause-short
returns-clause-short c = λ k p h. rw (returns-clause-text c) (length_octal_within 22 c.args.number k p h)
