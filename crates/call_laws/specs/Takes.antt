-- Events that take all the output of a line (this project's profile).
use Rattle.std.specs.Prelude.{ℕ, ◌≡◌, ◌*◌, ◌<◌, ◌≤◌, List, [], length, replicate}
use Rattle.word36.specs.declared.sizes.TheConstants.{LINES, TAKEN_AT_ONCE}
use Rattle.tty_lines.specs.Rings.{output_of}
use Rattle.machine.specs.Alone.{taken_from}
use Rattle.machine.specs.Machine.{S, after}
use Rattle.machine.specs.declared.event.Event.{Event}
use Rattle.machine.specs.declared.event.Event.TheVariants.{Take}

-- so many events, each of which takes as many characters of a line's output as can be taken at once
abbrev pub takes : ℕ → ℕ → List Event
takes line count = replicate count (Take line TAKEN_AT_ONCE)

-- Together they take all the output of a line, in order, and leave nothing, where they can take as many characters as it has. A line
-- never has more than OUTPUT_RING.
abbrev pub TakesLeaveNothing : Type 0
TakesLeaveNothing =
    (s : S) (line count : ℕ) → line < LINES → line < length s.world.lines → length (output_of s.world.lines line) ≤ count * TAKEN_AT_ONCE
    → (taken_from line s (takes line count) ≡ output_of s.world.lines line)
    × (output_of (after (takes line count) s).world.lines line ≡ [])
