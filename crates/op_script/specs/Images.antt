-- Images by name (this project's profile).
use Rattle.std.specs.Prelude.{ℕ, List, bytes_eq, Option}
use Rattle.std.specs.Map.{lookup}
use Rattle.indexmap.specs.IndexMap.{insert_entry}
use Rattle.mac_asm.specs.Assembly.{Assembled}
use Rattle.word36.specs.declared.image.Image.{Image}

-- what an image is, however its words are kept
abbrev pub assembled_in : Image → Assembled
assembled_in image = record { words = image.words.items; start = image.start }

-- images with their names, each name once, in order of their first definition
abbrev pub Named : Type 0
Named = List (List ℕ × Assembled)

-- the image of a name
abbrev pub image_of : Named → List ℕ → Option Assembled
image_of images name = lookup (bytes_eq name) images

-- the images with one more, which replaces another of its name
abbrev pub with_image : Named → List ℕ → Assembled → Named
with_image images name image = insert_entry bytes_eq images name image
