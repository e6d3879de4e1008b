-- A source that assembles to an image.
use Rattle.std.specs.Prelude.{◌≡◌, ℕ, List, Ok}
use Rattle.word36.specs.declared.image.Image.{Image}
use Rattle.mac_asm.specs.Assembly.{Assembled}
use Rattle.mac_asm.specs.Outcome.{outcome_of}

-- an image, as the assembler's definitions see it
abbrev pub assembled : Image → Assembled
assembled image = record { words = image.words.items; start = image.start }

-- what the source comes to is exactly this image: its words, each at its address, and its start
abbrev pub ComesTo : List ℕ → Image → Type 0
ComesTo source image = outcome_of source ≡ Ok (assembled image)
