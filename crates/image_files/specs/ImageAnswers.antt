-- What an answer says of the words or the image that were read.
use Rattle.std.specs.Prelude.{◌≡◌, ℕ, Vec, List, Result, Ok, Err}
use Rattle.word36.specs.declared.image.Image.{Image}
use Rattle.image_files.specs.Loads.{loaded}
use Rattle.image_files.specs.Saves.{Loaded}
use Rattle.image_files.specs.declared.faults.ImageFault.{ImageFault}
use Rattle.image_files.specs.declared.faults.ImageError.{ImageError}
use Rattle.image_files.specs.declared.faults.ImageError.TheVariants as errors

-- the words, or the first one at fault; where there was no memory nothing is said
abbrev pub ReadsWords : {A : Type 0} → Result (Vec ℕ A) ImageError → Result (List ℕ) ImageFault → Type 0
ReadsWords (Ok words) read = read ≡ Ok words.items
ReadsWords (Err (errors.Fault fault)) read = read ≡ Err fault
ReadsWords (Err errors.Memory) read = Unit {0}

-- an image, or the first word at fault
abbrev pub ReadsImage : Result Image ImageError → Result Loaded ImageFault → Type 0
ReadsImage (Ok image) read = read ≡ Ok (loaded image)
ReadsImage (Err (errors.Fault fault)) read = read ≡ Err fault
ReadsImage (Err errors.Memory) read = Unit {0}
