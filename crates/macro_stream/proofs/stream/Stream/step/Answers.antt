use Rattle.macro_stream.proofs.Steps.{round-begun, popped}
use Rattle.macro_stream.proofs.stream.Stream.step.Goals as goal

pub returns-in-Ok-true : goal.returns-in-Ok-true
returns-in-Ok-true c =
    let known = c.in-Ok-true.ensures in
    let begun = c.in-Ok-true.field-0-test in
    round-begun c.args.self.now c.next_round.new.self c.if-self.false c.if-self-2.false (known.top begun) (known.low begun) (known.rest begun)

pub returns-in-Some : goal.returns-in-Some
returns-in-Some c =
    let over = c.in-Ok-false.ensures.over c.in-Ok-false.field-0-test in
    popped c.args.self.now c.next_round.new.self c.in-Some.below c.pop.new.self.items c.if-self.false c.if-self-2.false over.0 over.1
    c.in-Some.ensures.items
