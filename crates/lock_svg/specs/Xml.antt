-- Text in a picture (this project's profile).
use Rattle.std.specs.Prelude.{ℕ, ◌==◌, ◌&&◌, List, [], ◌∷◌, codes, if◌then◌else◌, nat_le}
use Rattle.std.specs.List.{flat_map}

-- a byte of a text as XML has it, and a blank in place of what is no printing character
abbrev pub xml_byte : ℕ → List ℕ
xml_byte byte =
    if byte == 60
    then codes "&lt;"
    else
    (if byte == 62
    then codes "&gt;"
    else (if byte == 38 then codes "&amp;" else (if nat_le 32 byte && nat_le byte 126 then byte ∷ [] else codes " ")))

-- a text as XML has it
unfoldable pub xml_text : List ℕ → List ℕ
xml_text bytes = flat_map xml_byte bytes
