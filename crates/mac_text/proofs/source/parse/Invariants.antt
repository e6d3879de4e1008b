use Rattle.std.proofs.Common.{◌≡◌, ◌+◌, ◌≤◌, true, IsTrue, length, drop}
use Rattle.std.specs.List.{list_all}
use Rattle.std.specs.Str.Lines.{lines}
use Rattle.mac_text.specs.Lines.{is_ascii, lines_from, program_of}
use Rattle.mac_text.proofs.SourceLemmas.{with_lines}
use Rattle.mac_text.proofs.source.parse.Given as goal

-- the lines so far and those to come are all
abbrev pub invariant-loop-rest : goal.invariant-loop-rest
invariant-loop-rest l = (l.radix ≤ 10)
    × (length l.lines.items + length l.rest ≤ length l.fn.source)
    × (IsTrue l.is_known_ascii → list_all is_ascii l.rest ≡ true)
    × (with_lines l.lines.items (lines_from l.radix (length l.lines.items + 1) (lines l.rest)) ≡ program_of l.fn.source)
    × (drop (length l.lines.items) (lines l.fn.source) ≡ lines l.rest)

abbrev pub decreases-loop-rest : goal.decreases-loop-rest
decreases-loop-rest l = length l.rest
