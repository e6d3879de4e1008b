-- Bytes from outside as a line for a person shows them (this project's profile).
use Rattle.std.specs.Prelude.{ℕ, Bool, ◌==◌, ◌&&◌, ◌||◌, nat_lt, List, [], ◌∷◌, ◌++◌, length, take, codes, if◌then◌else◌}
use Rattle.std.specs.List.{flat_map}
use Rattle.script_io.specs.Printing.{escaped}
use Rattle.shown_bytes.specs.declared.pushing.TheConstants.{MOST_SHOWN}

-- a printing character of ASCII, a blank or a tab
abbrev pub is_plain : ℕ → Bool
is_plain byte = (byte == 9) || (nat_lt 31 byte && nat_lt byte 127)

-- a byte: as it is, or as a backslash and three octal digits
abbrev pub shown_byte : ℕ → List ℕ
shown_byte byte = if is_plain byte then byte ∷ [] else escaped byte

-- two points where there are more bytes than are shown
abbrev pub end_of : List ℕ → List ℕ
end_of bytes = if nat_lt MOST_SHOWN (length bytes) then codes ".." else []

-- the first bytes, and that
abbrev pub shown : List ℕ → List ℕ
shown bytes = flat_map shown_byte (take MOST_SHOWN bytes) ++ end_of bytes

-- a byte of a text of several lines: a line feed as it is
abbrev pub shown_in_lines : ℕ → List ℕ
shown_in_lines byte = if byte == 10 then byte ∷ [] else shown_byte byte

-- a text of several lines, all of it
abbrev pub shown_lines : List ℕ → List ℕ
shown_lines text = flat_map shown_in_lines text
