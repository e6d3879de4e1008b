use Rattle.std.proofs.Common.{◌≡◌, ap, sym, ◌∙◌}
use Rattle.std.specs.Prelude.{option_map, zip}
use Rattle.std.proofs.lemmas.Result.{IfOk-weaker}
use Rattle.mac_layout.specs.Values.{names_of}
use Rattle.mac_asm.specs.Assembly.{literal_words}
use Rattle.mac_asm.specs.Filled.{put_all, start_named}
use Rattle.mac_asm.proofs.LineLemmas.{line_put, no_literal_words, no_statement_words, and_fails, line_starts}
use Rattle.mac_asm.proofs.assembly.Core.put_line.Goals as goal

pub returns-then-not-branch : goal.returns-then-not-branch
returns-then-not-branch c =
    let names = names_of c.args.scope.now in
    and_fails _ _
    (no_literal_words names c.args.line.now
    (ap (λ gs. literal_words names (zip names.literals gs)) (sym c.as_slice.ensures)
    ∙ rw c.if-not-branch.true at c.in_ok-put_literals.ensures))

pub returns-then-not-branch-2 : goal.returns-then-not-branch-2
returns-then-not-branch-2 c =
    and_fails _ _
    (no_statement_words (names_of c.args.scope.now) c.args.line.now (rw c.if-not-branch-2.true at c.in_ok-put_statement.ensures))

pub returns : goal.returns
returns c =
    let names = names_of c.args.scope.now in
    let literals_put =
    ap (λ gs. option_map (put_all c.args.self.now.cells) (literal_words names (zip names.literals gs)))
    (sym c.as_slice.ensures) ∙ rw c.if-not-branch.false at c.in_ok-put_literals.ensures in
    let words_put =
    line_put names c.args.line.now c.args.self.now.cells c.put_literals.new.self.cells c.put_statement.new.self.cells
    literals_put (rw c.if-not-branch-2.false at c.in_ok-put_statement.ensures) in
    IfOk-weaker c.start_named.result (λ start. start ≡ start_named names c.args.line.now.statement) _
    (λ start is. line_starts start c.args.self.now.cells c.put_statement.new.self.cells
    (record { names = names; line = c.args.line.now }) words_put is) c.start_named.ensures
