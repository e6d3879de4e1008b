-- What is said of a file of words that is refused (this project's profile).
use Rattle.std.specs.Prelude.{ℕ, List, ◌++◌, codes, decimal, Option, Some, None}
use Rattle.image_files.specs.declared.packings.Packing.{Packing}
use Rattle.image_files.specs.declared.packings.PackErrorKind.{PackErrorKind}
use Rattle.image_files.specs.declared.packings.PackErrorKind.TheVariants as pack_kinds
use Rattle.image_files.specs.declared.saves.SaveErrorKind.{SaveErrorKind}
use Rattle.image_files.specs.declared.saves.SaveErrorKind.TheVariants as save_kinds
use Rattle.image_files.specs.declared.faults.ImageFault.{ImageFault}
use Rattle.image_files.specs.declared.faults.ImageFault.TheVariants as faults
use Rattle.image_files.specs.Names.{packing_name}

abbrev pub pack_reason : PackErrorKind → List ℕ
pack_reason pack_kinds.CutShort = codes "the file ends within it"
pack_reason pack_kinds.ExtraBits = codes "a bit is set that this packing leaves 0"
pack_reason pack_kinds.NotOctal = codes "its line is no word in octal, as 254000,,000140"

abbrev pub save_reason : SaveErrorKind → List ℕ
save_reason save_kinds.NoBlock = codes "an IOWD or the JRST to the start is wanted here"
save_reason save_kinds.NotRising = codes "a block begins below the end of the one before it"
save_reason save_kinds.TooHigh = codes "a block ends above 777777"
save_reason save_kinds.CutShort = codes "the file ends within a block"
save_reason save_kinds.NoStart = codes "the file ends, and no JRST to the start stands in it"
save_reason save_kinds.Behind = codes "a word other than 0 stands behind the JRST to the start"

-- `FILE: word N: REASON`
abbrev pub numbered_text : List ℕ → ℕ → List ℕ → List ℕ
numbered_text file number reason = file ++ codes ": word " ++ decimal number ++ codes ": " ++ reason

-- what is wrong with which word
abbrev pub fault_line : List ℕ → ImageFault → List ℕ
fault_line file (faults.Word number kind) = numbered_text file number (pack_reason kind)
fault_line file (faults.Save number kind) = numbered_text file number (save_reason kind)

-- behind that, a line on the packing that it could be in, or on all of them
abbrev pub advice_text : Option Packing → List ℕ
advice_text (Some packing) = codes "\n    it can be read by --from " ++ packing_name packing ++ codes "\n"
advice_text None = codes "\n    --from says how its words are packed: core, dense, ascii, simh or octal\n"

abbrev pub fault_text : List ℕ → ImageFault → Option Packing → List ℕ
fault_text file fault other = fault_line file fault ++ advice_text other
