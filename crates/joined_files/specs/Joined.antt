-- Files that are read as one source (this project's profile).
use Rattle.std.specs.Prelude.{◌≡◌, ℕ, suc, ◌-◌, ◌||◌, List, [], ◌∷◌, ◌++◌, Option, None, Some, length, nat_eq, nat_lt, fold, slice_index, string_bytes, if◌then◌else◌}
use Rattle.joined_files.specs.declared.joined.Part.{Part}

-- a text whose last line has an end, unless it has no line
abbrev pub ended : List ℕ → List ℕ
ended text = if nat_eq (length text) 0 || nat_eq (slice_index text (length text - 1)) 10 then text else text ++ (10 ∷ [])

-- how many lines end in a text
abbrev pub ends_in : List ℕ → ℕ
ends_in text = fold (λ n c. if nat_eq c 10 then suc n else n) 0 text

-- what is noted of a file: its name, and how many lines and bytes of the whole are before it
abbrev pub told : Part → List ℕ × ℕ × ℕ
told part = (string_bytes part.file, part.before, part.start)

-- the file of a line of the whole: the last that begins before it
abbrev pub part_at : ℕ → List Part → Option Part
part_at line parts = fold (λ found part. if nat_lt part.before line then Some part else found) None parts
