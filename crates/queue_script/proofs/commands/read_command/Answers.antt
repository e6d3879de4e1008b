use Rattle.std.proofs.Common.{◌≡◌, ◌∙◌, true, false, nat_le, length, arith}
use Rattle.std.proofs.lemmas.Bool.Decides.{nat_tests}
use Rattle.script_io.specs.Lines.{is_silent}
use Rattle.queue_script.proofs.AsciiLines.{spelled_alone}
use Rattle.queue_script.proofs.commands.read_command.Goals as goal

pub returns : goal.returns
returns c =
    let line = c.args.line.now in
    let short : nat_le (length line) 256 ≡ true = grind (arith, nat_tests, c.if-line-gt-LINE_LENGTH.false) in
    let loud : is_silent line ≡ false = grind (arith, nat_tests, c.is_silent.ensures, c.if-is_silent.false, c.if-is_silent.ensures) in
    c.read_line.ensures ∙ spelled_alone line short loud
