-- Labels before an address, and names as they are written.
use Rattle.std.specs.Prelude.{◌+◌, ◌/◌, ◌%◌, ◌^◌, ◌==◌, ◌&&◌, ◌++◌, ℕ, if◌then◌else◌, nat_le, nat_lt, List, [], ◌∷◌, Option, Some, None}
use Rattle.std.specs.Char.{encode_utf8}
use Rattle.source_labels.specs.declared.labels.Label.{Label}

-- how near a label, whose addresses go from first up to before end, is to an address: the later the label the nearer, and
-- 0 where the address is none of these
abbrev pub reach : ℕ → ℕ → ℕ → ℕ
reach place first end = if nat_le first place && nat_lt place end then first + 1 else 0

-- the nearer of a label, if there is one, and another; of two at one address the other
abbrev pub nearer : ℕ → Option Label → Label → Label
nearer place None l = l
nearer place (Some best) l = if nat_lt (reach place l.place l.end) (reach place best.place best.end) then best else l

-- the nearest of a label, if there is one, and some that come after it
abbrev pub latest_from : ℕ → Option Label → List Label → Option Label
latest_from place best [] = best
latest_from place best (l ∷ labels) = latest_from place (Some (nearer place best l)) labels

-- a label, if the address is in its block
abbrev pub if_near : ℕ → Option Label → Option Label
if_near place None = None
if_near place (Some l) = if nat_le l.place place && nat_lt place l.end then Some l else None

-- the label by which an address is written: of those in whose block it is the latest, and of several at one address the last
abbrev pub nearest_label : List Label → ℕ → Option Label
nearest_label labels place = if_near place (latest_from place None labels)

-- the character that a number has in its low six bits, in SIXBIT; a blank, of code 0, is left out
abbrev pub character_of : ℕ → List ℕ
character_of bits = if bits % 64 == 0 then [] else encode_utf8 (bits % 64 + 32)

-- the six characters of a name, without blanks
abbrev pub name_words : ℕ → List ℕ
name_words name =
    character_of (name / 2 ^ 30) ++ (character_of (name / 2 ^ 24) ++ (character_of (name / 2 ^ 18)
    ++ (character_of (name / 2 ^ 12) ++ (character_of (name / 2 ^ 6) ++ character_of name))))
