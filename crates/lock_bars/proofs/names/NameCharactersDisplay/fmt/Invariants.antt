use Rattle.std.proofs.Common.{take}
use Rattle.std.specs.Fmt.{HasWritten, IsPlainFormatter}
use Rattle.std.specs.List.{flat_map}
use Rattle.queue_script.specs.Printing.{name_character}
use Rattle.lock_bars.proofs.names.NameCharactersDisplay.fmt.Given as goal

-- the characters so far are written
abbrev pub invariant-loop-byte : goal.invariant-loop-byte
invariant-loop-byte g l =
    IsPlainFormatter l.initial.f
    → HasWritten g.W.Write.write_str_gives l.initial.f (flat_map name_character (take l.byte-index l.byte-items)) l.f
