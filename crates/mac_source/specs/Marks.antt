-- The addresses that have labels, as a list of tests.
use Rattle.std.specs.Prelude.{ℕ, Bool, false, ◌&&◌, List, slice_get, unwrap_or}
use Rattle.word36.specs.declared.image.Image.{Image}
use Rattle.mac_asm.specs.Assembly.{Assembled}

-- whether an address has a label; behind the list none has
abbrev pub marked_by : List Bool → ℕ → Bool
marked_by marks address = unwrap_or (slice_get marks address) false

-- the addresses with labels, where labels are wanted
abbrev pub shown_by : Bool → List Bool → ℕ → Bool
shown_by by_label marks address = by_label && marked_by marks address

-- an image, as the assembler's definitions see it
abbrev pub assembled : Image → Assembled
assembled image = record { words = image.words.items; start = image.start }
