-- Addresses and accumulators as a person reads them.
use Rattle.std.specs.Prelude.{◌-◌, ◌==◌, ◌&&◌, ◌||◌, ◌++◌, ℕ, Bool, true, false, if◌then◌else◌, nat_le, nat_lt, List, [], codes, Option, Some, None}
use Rattle.std.specs.Fmt.{digits}
use Rattle.std.specs.List.{find}
use Rattle.word36.specs.Octal.{octal}
use Rattle.source_labels.specs.Labels.{name_words, nearest_label}
use Rattle.source_labels.specs.declared.labels.Label.{Label}
use Rattle.source_labels.specs.declared.places.Literals.{Literals}
use Rattle.source_labels.specs.declared.places.NamedNumber.{NamedNumber}
use Rattle.source_labels.specs.declared.places.Places.{Places}

-- ---- what has an address

abbrev pub have : ℕ → Literals → Bool
have place literals = nat_le literals.first place && nat_lt place literals.end

-- the literals among which an address is: those that are together, or else the first pool that has it
abbrev pub literals_at : Places → ℕ → Option Literals
literals_at places place = if have place places.literals then Some places.literals else find (have place) places.pools.items

-- whether an accumulator of a number is written by a name
abbrev pub names : ℕ → NamedNumber → Bool
names number it = it.is_shown && it.value == number

-- the name by which an accumulator is written, if it has one: the first
abbrev pub named_number : Places → ℕ → Option NamedNumber
named_number places number = find (names number) places.numbers.items

-- ---- addresses

-- how far an address is after another, in octal
abbrev pub offset_words : ℕ → ℕ → List ℕ
offset_words place from = if place - from == 0 then [] else codes "+" ++ digits 8 false (place - from)

abbrev pub label_spot : ℕ → Label → List ℕ
label_spot place l = name_words l.name ++ offset_words place l.place

abbrev pub literal_spot : ℕ → Literals → List ℕ
literal_spot place literals = codes "[.." ++ (offset_words place literals.first ++ codes "]")

-- by a label, unless the address is among literals that begin after it
abbrev pub spot_by : ℕ → Option Label → Option Literals → List ℕ
spot_by place None None = octal 6 place
spot_by place None (Some literals) = literal_spot place literals
spot_by place (Some l) None = label_spot place l
spot_by place (Some l) (Some literals) =
    if nat_le literals.first l.place then label_spot place l else literal_spot place literals

-- an address as a person reads it
abbrev pub spot_words : Places → ℕ → List ℕ
spot_words places place = spot_by place (nearest_label places.labels.items place) (literals_at places place)
