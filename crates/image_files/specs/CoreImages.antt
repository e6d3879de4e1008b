-- Words and core images in bytes (this project's profile).
use Rattle.std.specs.Prelude.{ℕ, List, Result, Ok, Err}
use Rattle.image_files.specs.declared.packings.Packing.{Packing}
use Rattle.image_files.specs.Packings.{Words, unpacked}
use Rattle.image_files.specs.Saves.{Loaded, SaveFault, image_of_save}
use Rattle.image_files.specs.declared.faults.ImageFault.{ImageFault}
use Rattle.image_files.specs.declared.faults.ImageFault.TheVariants as faults

-- the words of bytes, or the first one that is wrong
abbrev pub words_or : Words → Result (List ℕ) ImageFault
words_or (Ok words) = Ok words
words_or (Err fault) = Err (faults.Word fault.number fault.kind)

abbrev pub words_in : Packing → List ℕ → Result (List ℕ) ImageFault
words_in from bytes = words_or (unpacked from bytes)

-- the image of words, or the first one that is wrong
abbrev pub image_or : Result Loaded SaveFault → Result Loaded ImageFault
image_or (Ok image) = Ok image
image_or (Err fault) = Err (faults.Save fault.number fault.kind)

abbrev pub image_of_words : Result (List ℕ) ImageFault → Result Loaded ImageFault
image_of_words (Ok words) = image_or (image_of_save words)
image_of_words (Err fault) = Err fault

-- the image of a core image's bytes in a packing, or the first word at fault
abbrev pub image_in : Packing → List ℕ → Result Loaded ImageFault
image_in from bytes = image_of_words (words_in from bytes)
