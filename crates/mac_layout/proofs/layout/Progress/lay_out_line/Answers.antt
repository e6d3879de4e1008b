use Rattle.std.proofs.Common.{subst}
use Rattle.mac_layout.specs.LaidOut.{Layout}
use Rattle.mac_layout.specs.Layouts.{StandsFor, Defines}
use Rattle.mac_layout.proofs.LayoutLemmas.{line_twice, line_lays}
use Rattle.mac_layout.proofs.layout.Progress.lay_out_line.Goals as goal

pub returns-then-not-branch : goal.returns-then-not-branch
returns-then-not-branch c =
    line_twice c.args.self.now c.lay_out_labels.new.self c.lay_out_labels.new.self c.args.line.now
    (subst (λ new. (s : Layout) → StandsFor c.args.self.now s → Defines new s c.args.line.now c.lay_out_labels.new.self)
    c.if-not-branch.true c.in_ok-lay_out_labels.ensures)

pub returns : goal.returns
returns c =
    line_lays c.args.self.now c.lay_out_labels.new.self c.lay_out_statement.new.self c.args.line.now c.labels_code-code.result
    c.in_ok-lay_out_statement.field-0 c.least.result c.labels_code-code.ensures
    (subst (λ new. (s : Layout) → StandsFor c.args.self.now s → Defines new s c.args.line.now c.lay_out_labels.new.self)
    c.if-not-branch.false c.in_ok-lay_out_labels.ensures)
    c.in_ok-lay_out_statement.ensures c.least.ensures
