-- What a file holds as a program (this project's profile).
use Rattle.std.specs.Prelude.{◌≡◌, ◌≢◌, ℕ, ◌-◌, List, length, drop, map, codes}
use Rattle.std.specs.Char.{to_ascii_lowercase}

-- the name of a core image ends in `.sav`, in upper case or lower; any other is that of a source
abbrev pub IsImageName : List ℕ → Type 0
IsImageName name = map to_ascii_lowercase (drop (length name - 4) name) ≡ codes ".sav"

abbrev pub IsSourceName : List ℕ → Type 0
IsSourceName name = map to_ascii_lowercase (drop (length name - 4) name) ≢ codes ".sav"
