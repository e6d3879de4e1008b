-- Which characters end a line of input (this project's profile; the TOPS-10 Monitor Calls Manual
-- calls them break characters).
use Rattle.std.specs.Prelude.{ℕ, Bool, ◌==◌, ◌||◌}

-- bell, line feed, vertical tab, form feed, control-Z and escape: 7, 12, 13, 14, 32 and 33 octal
abbrev pub is_break : ℕ → Bool
is_break c = (c == 7) || (c == 10) || (c == 11) || (c == 12) || (c == 26) || (c == 27)
