use Rattle.std.proofs.Common.{take}
use Rattle.std.specs.Fmt.{HasWritten, IsPlainFormatter}
use Rattle.std.specs.List.{flat_map}
use Rattle.script_reasons.specs.Sentences.{also_text}
use Rattle.script_reasons.proofs.sentences.OthersTextDisplay.fmt.Given as goal

-- those so far are written
abbrev pub invariant-loop-present : goal.invariant-loop-present
invariant-loop-present g l =
    IsPlainFormatter l.initial.f
    → HasWritten g.W.Write.write_str_gives l.initial.f (flat_map also_text (take l.present-index l.present-items)) l.f
