use Rattle.std.proofs.Common.{◌++◌, ◌∙◌, ap, sym}
use Rattle.command_line.proofs.KeepingLemmas.{end_longer, end_nothing, not_refused}
use Rattle.command_line.proofs.lines.Lines.push.Goals as goal

pub returns-then-self : goal.returns-then-self
returns-then-self c = end_nothing _ _ c.clear.ensures.items

pub returns-else-is_err : goal.returns-else-is_err
returns-else-is_err c =
    end_longer _ _ c.args.bytes.now _ c.drop_finished.ensures
    (not_refused c.append.result (sym c.if-is_err.ensures.value) c.append.ensures ∙ ap (λ l. l ++ c.args.bytes.now) c.self.view_is)
