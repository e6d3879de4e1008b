-- What each command of the program writes, and how it ends (this project's profile).
use Rattle.std.specs.Prelude.{ℕ, List, [], ◌∷◌, ◌++◌, codes, decimal, Result, Ok, Err, flat_map}
use Rattle.mac_layout.specs.Faults.{Fault, number_of}
use Rattle.mac_asm.specs.Assembly.{Assembled}
use Rattle.mac_asm.specs.Outcome.{outcome_of}
use Rattle.mac_source.specs.declared.shown.Shown.{Shown}
use Rattle.mac_source.specs.Sources.{source_of}
use Rattle.image_files.specs.declared.packings.Packing.{Packing}
use Rattle.image_files.specs.declared.packings.PackErrorKind.{PackErrorKind}
use Rattle.image_files.specs.declared.packings.PackErrorKind.TheVariants as pack_kinds
use Rattle.image_files.specs.declared.saves.SaveErrorKind.{SaveErrorKind}
use Rattle.image_files.specs.declared.saves.SaveErrorKind.TheVariants as save_kinds
use Rattle.image_files.specs.declared.faults.ImageFault.{ImageFault}
use Rattle.image_files.specs.declared.faults.ImageFault.TheVariants as faults
use Rattle.image_files.specs.declared.fits.Wanted.{Wanted}
use Rattle.image_files.specs.declared.fits.Wanted.TheVariants as wants
use Rattle.image_files.specs.Packings.{packed}
use Rattle.image_files.specs.Saves.{Loaded, save_of}
use Rattle.image_files.specs.CoreImages.{image_in, words_in}
use Rattle.image_files.specs.Fits.{packing_that_fits}
use Rattle.word36.specs.Octal.{octal, word_text}
use Rattle.script_io.specs.Transcripts.{Transcript, closed}
use Rattle.image_service.specs.declared.endings.Ending.{Ending}
use Rattle.image_service.specs.declared.endings.Ending.TheVariants as endings
use Rattle.image_service.specs.NotHere.{mark_text}

-- ---- faults

abbrev pub pack_kind_text : PackErrorKind → List ℕ
pack_kind_text pack_kinds.CutShort = codes "CUTSHORT"
pack_kind_text pack_kinds.ExtraBits = codes "EXTRABITS"
pack_kind_text pack_kinds.NotOctal = codes "NOTOCTAL"

abbrev pub save_kind_text : SaveErrorKind → List ℕ
save_kind_text save_kinds.NoBlock = codes "NOBLOCK"
save_kind_text save_kinds.NotRising = codes "NOTRISING"
save_kind_text save_kinds.TooHigh = codes "TOOHIGH"
save_kind_text save_kinds.CutShort = codes "CUTSHORT"
save_kind_text save_kinds.NoStart = codes "NOSTART"
save_kind_text save_kinds.Behind = codes "BEHIND"

-- `NAME number KIND`
abbrev pub numbered_text : List ℕ → ℕ → List ℕ → List ℕ
numbered_text name number kind = name ++ decimal number ++ codes " " ++ kind ++ codes "\n"

-- `?WORD n KIND` and `?SAVE n KIND`
abbrev pub fault_line : ImageFault → List ℕ
fault_line (faults.Word number kind) = numbered_text (codes "?WORD ") number (pack_kind_text kind)
fault_line (faults.Save number kind) = numbered_text (codes "?SAVE ") number (save_kind_text kind)

-- these, and `?ASM line code`
abbrev pub ending_text : Ending → List ℕ
ending_text endings.Done = []
ending_text (endings.File fault other) = fault_line fault
ending_text (endings.Source line code) = numbered_text (codes "?ASM ") line (decimal code)

-- ---- what is read

-- an image as the assembler's definitions see it
abbrev pub as_assembled : Loaded → Assembled
as_assembled image = record { words = image.words; start = image.start }

-- ---- what is written

-- a text of what was read, or of what is wrong with it
abbrev pub told : {A : Type 0} → (A → List ℕ) → Result A Ending → Transcript Ending
told text (Ok found) = closed (text found) endings.Done
told text (Err ending) = closed (ending_text ending) ending

-- a text of what was read of bytes, or of what is wrong with them, and the packing that they could be in
abbrev pub or_ending : {A : Type 0} → Wanted → List ℕ → Result A ImageFault → Result A Ending
or_ending wanted bytes (Ok found) = Ok found
or_ending wanted bytes (Err fault) = Err (endings.File fault (packing_that_fits wanted bytes))

abbrev pub told_of : {A : Type 0} → Wanted → List ℕ → (A → List ℕ) → Result A ImageFault → Transcript Ending
told_of wanted bytes text read = told text (or_ending wanted bytes read)

-- `image words`: the words of bytes in another packing
unfoldable pub repacked : Packing → Packing → List ℕ → Transcript Ending
repacked from to bytes = told_of wants.Words bytes (packed to) (words_in from bytes)

-- `image source`: the source of a core image
unfoldable pub sourced : Packing → Shown → List ℕ → Transcript Ending
sourced from shown bytes = told_of wants.Image bytes (λ image. source_of shown (as_assembled image)) (image_in from bytes)

-- `AAAAAA LLLLLL,,RRRRRR`, an address and its word, and what is said of an operation or a call that is not here
abbrev pub listed_line : ℕ × ℕ → List ℕ
listed_line at = octal 6 at.0 ++ codes " " ++ word_text at.1 ++ mark_text at.1 ++ codes "\n"

-- the words by rising address, and `START AAAAAA`
abbrev pub listed_text : Loaded → List ℕ
listed_text image = flat_map listed_line image.words ++ codes "START " ++ octal 6 image.start ++ codes "\n"

-- `image list`
unfoldable pub listed : Packing → List ℕ → Transcript Ending
listed from bytes = told_of wants.Image bytes listed_text (image_in from bytes)

-- an image that was assembled, or what is wrong with its source
abbrev pub assembled_or : Result Assembled Fault → Result Loaded Ending
assembled_or (Ok image) = Ok (record { words = image.words; start = image.start })
assembled_or (Err fault) = Err (endings.Source fault.line (number_of fault.code))

-- `image save`: the core image of a source
unfoldable pub saved : Packing → List ℕ → Transcript Ending
saved to source = told (λ image. packed to (save_of image)) (assembled_or (outcome_of source))
