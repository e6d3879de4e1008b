use Rattle.std.proofs.Common.{rules, ◌≡◌, ◌∙◌, [], false, arith, drop}
use Rattle.std.proofs.lemmas.List.{drop_all}
use Rattle.ten.proofs.Terminals.{alone_written}
use Rattle.ten.proofs.terminal.Terminal.print.Goals as goal

pub returns-then-not-self : goal.returns-then-not-self
returns-then-not-self c =
    let loop = c.loop-character in
    let single : loop.self.is_numbered ≡ false = search rules in
    let end : drop loop.character-index c.args.text.now ≡ [] =
    drop_all loop.character-index c.args.text.now (omega (arith, c.loop-character-test.false)) in
    record {
      line = c.end_line.ensures.line ∙ loop.invariant.line;
      numbered = c.end_line.ensures.numbered ∙ loop.invariant.numbered;
      several = λ yes. search rules;
      held = λ yes. search rules;
      alone = λ one empty. λ w.
          let added = c.end_line.ensures.written w in (
            loop.invariant.whole added.0,
            alone_written loop.self.is_numbered loop.self.line c.args.self.now.partial.items loop.self.partial.items c.args.text.now
                (drop loop.character-index c.args.text.now) loop.output.bytes.items c.args.output.now.bytes.items _
                single empty end (loop.invariant.written added.0) loop.invariant.held added.1,
          );
      empty = λ one empty. c.end_line.ensures.held;
    }
