use Rattle.std.proofs.Common.{arith}
use Rattle.std.proofs.lemmas.Int.Digits.{number_more}
use Rattle.word36.specs.Sixbit.{six_codes}
use Rattle.word36.proofs.SixbitLemmas.{below_word, one_more, length_six_codes}
use Rattle.word36.proofs.sixbit_text.sixbit.Goals as goal

pub overflow_mul-number : goal.overflow_mul-number
overflow_mul-number c =
    omega (arith, below_word c.loop-position.number c.loop-position.position (omega arith) c.loop-position.invariant.1)

pub overflow_add-number : goal.overflow_add-number
overflow_add-number c =
    omega (arith, below_word c.loop-position.number c.loop-position.position (omega arith) c.loop-position.invariant.1)

pub loop-position-preserved : goal.loop-position-preserved
loop-position-preserved c =
    let l = c.loop-position in
    let more = number_more 64 (six_codes c.args.text.now) l.position (omega (arith, length_six_codes c.args.text.now (omega arith))) in
    (omega (arith, more, l.invariant.0, c.code_at.ensures.value), one_more l.number l.position _ l.invariant.1 c.code_at.ensures.below)
