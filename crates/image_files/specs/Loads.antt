-- What an answer says of the image of a file.
use Rattle.std.specs.Prelude.{◌≡◌, ℕ, ◌+◌, ◌<◌, ◌≤◌, ◌^◌, length, List, [], Option, Some, None, Result, Ok, Err}
use Rattle.word36.specs.declared.image.Image.{Image}
use Rattle.image_files.specs.declared.saves.SaveErrorKind.{SaveErrorKind}
use Rattle.image_files.specs.declared.saves.SaveErrorKind.TheVariants.{Behind}
use Rattle.image_files.specs.declared.save_reader.Head.{Head}
use Rattle.image_files.specs.declared.save_reader.Head.TheVariants.{Block as block, Start as start_at}
use Rattle.image_files.specs.declared.saves.SaveError.{SaveError}
use Rattle.image_files.specs.declared.saves.SaveError.TheVariants as errors
use Rattle.image_files.specs.Saves.{Loaded, SaveFault, fault_at, ended_by}

-- an image, as the definitions on files see it
abbrev pub loaded : Image → Loaded
loaded image = record { words = image.words.items; start = image.start }

-- the image, or the first word at fault; where there was no memory nothing is said
abbrev pub Loads : Result Image SaveError → Result Loaded SaveFault → Type 0
Loads (Ok image) read = read ≡ Ok (loaded image)
Loads (Err (errors.Word number kind)) read = read ≡ fault_at number kind
Loads (Err errors.Memory) read = Unit {0}

-- a block ends below 2 ^ 18
abbrev pub IsWithin : Result Head SaveErrorKind → Type 0
IsWithin (Ok (block count address)) = address + count ≤ 2 ^ 18
IsWithin (Ok (start_at start)) = Unit {0}
IsWithin (Err kind) = Unit {0}

-- words that stand behind a JRST are all 0, or the first other one is at fault
abbrev pub EndsAs : Option ℕ → List ℕ → Type 0
EndsAs None ws = (start number : ℕ) → ended_by start number ws ≡ Ok (record { words = []; start = start })
EndsAs (Some k) ws = (k < length ws) × ((start number : ℕ) → ended_by start number ws ≡ fault_at (number + k) Behind)
