use Rattle.std.proofs.Common.{ap, refl, sym}
use Rattle.std.specs.Prelude.{not}
use Rattle.ddt_timeline.specs.Views.{history}
use Rattle.ddt_moves.proofs.TerminalLemmas.{no-room}
use Rattle.ddt_moves.proofs.terminals.type_byte.Goals as goal

pub returns-in-Refused-Full-clause-room : goal.returns-in-Refused-Full-clause-room
returns-in-Refused-Full-clause-room c =
    sym
    (ap not
    (no-room c.args.line c.args.byte c.in-Some.character (history c.args.timeline.now) _ _ (c.in-Some.ensures.variant.0 refl)
    c.in-Some.ensures.value c.in_ok-make.ensures.answer c.in-Refused-Full.is c.in-Refused-Full.field-0-is))
