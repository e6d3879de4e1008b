use Rattle.std.proofs.Common.{take}
use Rattle.std.specs.Char.{encode_utf8}
use Rattle.std.specs.Fmt.{HasWritten, IsPlainFormatter}
use Rattle.std.specs.List.{flat_map}
use Rattle.ddt_commands.proofs.characters.CodesDisplay.fmt.Given as goal

-- the characters so far are written
abbrev pub invariant-loop-code : goal.invariant-loop-code
invariant-loop-code g l =
    IsPlainFormatter l.initial.f
    → HasWritten g.W.Write.write_str_gives l.initial.f (flat_map encode_utf8 (take l.code-index l.self.codes.now)) l.f
