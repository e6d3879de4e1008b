-- Lines of a script (this project's profile).
use Rattle.std.specs.Prelude.{◌≡◌, ◌==◌, ◌&&◌, ◌||◌, ℕ, Bool, List, false, length, nat_le, nat_lt, slice_index}
use Rattle.std.specs.List.{list_all}
use Rattle.script_io.specs.declared.line_sessions.TheConstants.{LINE_LENGTH}

-- the byte is no LF
abbrev pub is_no_newline : ℕ → Type 0
is_no_newline byte = (byte == 10) ≡ false

-- at most 256 characters, of ASCII
abbrev pub is_allowed : List ℕ → Bool
is_allowed line = nat_le (length line) LINE_LENGTH && list_all (λ b. nat_lt b 128) line

-- empty, or a comment, which begins with a semicolon
abbrev pub is_silent : List ℕ → Bool
is_silent line = length line == 0 || slice_index line 0 == 59
