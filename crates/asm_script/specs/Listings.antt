-- The listing of a source (this project's profile). A text is the list of its ASCII codes.
use Rattle.std.specs.Prelude.{ℕ, List, ◌++◌, Result, Ok, Err, codes, decimal}
use Rattle.std.specs.List.{flat_map}
use Rattle.word36.specs.Octal.{octal, word_text}
use Rattle.mac_asm.specs.Assembly.{Assembled}
use Rattle.mac_layout.specs.Faults.{Fault, number_of}
use Rattle.mac_asm.specs.Outcome.{outcome_of}
use Rattle.script_io.specs.Transcripts.{Transcript, closed}
use Rattle.script_io.specs.declared.endings.Ending.{Ending}
use Rattle.script_io.specs.declared.endings.Ending.TheVariants.{Done, Source}
use Rattle.script_io.specs.declared.endings.SourceFault.{SourceFault}

-- `AAAAAA LLLLLL,,RRRRRR`, an address and its word
abbrev pub word_line : ℕ × ℕ → List ℕ
word_line at = octal 6 at.0 ++ codes " " ++ word_text at.1 ++ codes "\n"

-- the words by rising address, and `START AAAAAA`
abbrev pub image_text : Assembled → List ℕ
image_text image = flat_map word_line image.words ++ codes "START " ++ octal 6 image.start ++ codes "\n"

-- `?ASM line code`
abbrev pub fault_text : Fault → List ℕ
fault_text fault = codes "?ASM " ++ decimal fault.line ++ codes " " ++ decimal (number_of fault.code) ++ codes "\n"

-- where a source is at fault that stands behind so many lines of the input
abbrev pub fault_behind : ℕ → Fault → SourceFault
fault_behind before fault = record { before = before; line = fault.line; code = number_of fault.code }

-- what is written on a source that comes to this
abbrev pub listing_of : Result Assembled Fault → Transcript Ending
listing_of (Ok image) = closed (image_text image) Done
listing_of (Err fault) = closed (fault_text fault) (Source (fault_behind 0 fault))

-- what is written on a source, and how that ends
unfoldable pub listing : List ℕ → Transcript Ending
listing source = listing_of (outcome_of source)
