-- The limits that make every source end (this project's profile).
use Rattle.std.specs.Prelude.{ℕ, ◌&&◌, not, nat_eq, nat_lt, Result, Ok, Err, if◌then◌else◌}
use Rattle.macro_stream.specs.declared.stops.Stop.{Stop}
use Rattle.macro_stream.specs.declared.stops.Stop.TheVariants as stops
use Rattle.macro_stream.specs.declared.stops.Limit.{Limit}
use Rattle.macro_stream.specs.declared.stops.Limit.TheVariants.{Depth, Calls, Lines, Characters, Literals, Brackets, Errors}

-- the greatest number that each takes
abbrev pub most_of : Limit → ℕ
most_of Depth = 200
most_of Calls = 50_000
most_of Lines = 200_000
most_of Characters = 8_000_000
most_of Literals = 20
most_of Brackets = 60
most_of Errors = 500

-- whether one more character is taken behind so many characters and lines that texts produced
abbrev pub counted_of : ℕ → ℕ → ℕ → Result (Unit {0}) Stop
counted_of characters lines character =
    if nat_lt characters 8_000_000
    then (if nat_eq character 10 && not (nat_lt lines 200_000) then Err (stops.Limit Lines) else Ok tt)
    else Err (stops.Limit Characters)
