-- The names of packings (this project's profile).
use Rattle.std.specs.Prelude.{ℕ, List, codes, Option, Some, None, if◌then◌else◌}
use Rattle.std.specs.Str.{bytes_eq}
use Rattle.image_files.specs.declared.packings.Packing.{Packing}
use Rattle.image_files.specs.declared.packings.Packing.TheVariants.{CoreDump, HighDensity, AnsiAscii, Simh, Octal}

abbrev pub packing_name : Packing → List ℕ
packing_name CoreDump = codes "core"
packing_name HighDensity = codes "dense"
packing_name AnsiAscii = codes "ascii"
packing_name Simh = codes "simh"
packing_name Octal = codes "octal"

abbrev pub packing_named : List ℕ → Option Packing
packing_named name =
    if bytes_eq name (codes "core") then Some CoreDump
    else (if bytes_eq name (codes "dense") then Some HighDensity
    else (if bytes_eq name (codes "ascii") then Some AnsiAscii
    else (if bytes_eq name (codes "simh") then Some Simh
    else (if bytes_eq name (codes "octal") then Some Octal else None))))
