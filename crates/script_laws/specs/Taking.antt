-- TAKE takes all output of a line (this project's profile).
use Rattle.std.specs.Prelude.{◌≡◌, ◌<◌, ℕ, [], None}
use Rattle.word36.specs.declared.sizes.TheConstants.{LINES, TAKEN_AT_ONCE}
use Rattle.tty_lines.specs.Rings.{IsLines, output_of}
use Rattle.machine.specs.Machine.{S}
use Rattle.machine.specs.declared.event.Event.TheVariants as event
use Rattle.op_script.specs.Events.{Taking, taken_by}
use Rattle.machine.specs.declared.sizes.TheConstants.{MOST_TAKES}

-- what was taken is all output of the line, none of it is left, and nothing was refused
pub record TakesAll (s : S) (line : ℕ) (t : Taking) : Type 0 where
  pub text : t.text ≡ output_of s.world.lines line
  pub left : output_of t.machine.world.lines line ≡ []
  pub taken : t.refusal ≡ None

-- so does TAKE at each line, whatever stands in the rings
abbrev pub TakeTakesAll : Type 0
TakeTakesAll =
    (s : S) (line : ℕ) → IsLines s.world.lines → line < LINES
    → TakesAll s line (taken_by MOST_TAKES (event.Take line TAKEN_AT_ONCE) s)
