use Rattle.std.proofs.Common.{arith}
use Rattle.std.proofs.lemmas.Fmt.{decimal_digit}
use Rattle.lock_queue.specs.Refusals.{code_of}
use Rattle.queue_script.proofs.RefusalLemmas.{code_below, two_digits}
use Rattle.queue_script.proofs.printing.push_code.Goals as goal

pub returns-in_ok-extend_from_slice : goal.returns-in_ok-extend_from_slice
returns-in_ok-extend_from_slice c =
    let digit = decimal_digit (code_of c.args.refusal) (omega (arith, c.code-code.ensures, c.if-code-lt10.true)) in
    grind (arith, digit, c.code-code.ensures, c.in_ok-extend_from_slice.ensures.items)

pub returns-in_ok-extend_from_slice-2 : goal.returns-in_ok-extend_from_slice-2
returns-in_ok-extend_from_slice-2 c =
    let digits = two_digits (code_of c.args.refusal) (omega (arith, c.code-code.ensures, c.if-code-lt10.false)) (code_below c.args.refusal) in
    grind (arith, digits, c.code-code.ensures, c.in_ok-extend_from_slice-2.ensures.items)
