use Rattle.std.proofs.Common.{◌≡◌, ◌∙◌, length, arith}
use Rattle.tty_lines.specs.Rings.{output_of}
use Rattle.job_turns.proofs.Taking.{all-lines, all-text}
use Rattle.job_turns.proofs.output.take_output.Goals as goal

pub loop-preserved : goal.loop-preserved
loop-preserved c = record {
  text = c.in_ok-take_some.ensures.text ∙ c.loop.invariant.text;
  lines = c.in_ok-take_some.ensures.lines ∙ c.loop.invariant.lines;
  fewer = omega (arith, c.in_ok-take_some.ensures.fewer, c.loop.invariant.fewer);
}

pub returns-clause-text : goal.returns-clause-text
returns-clause-text c =
    let none : length (output_of c.loop.lines c.args.line) ≡ 0 = omega (arith, c.loop.invariant.fewer) in
    all-text c.loop.lines c.args.line c.loop.text.items _ none c.loop.invariant.text

pub returns-clause-lines : goal.returns-clause-lines
returns-clause-lines c =
    let none : length (output_of c.loop.lines c.args.line) ≡ 0 = omega (arith, c.loop.invariant.fewer) in
    all-lines c.loop.lines c.args.lines.now c.args.line none c.loop.invariant.lines
