-- The symbols of a source, for listings and traces.
use Rattle.std.specs.Prelude.{ℕ, List, [], Result, Ok, Err}
use Rattle.word36.specs.declared.image.Image.{Image}
use Rattle.mac_text.specs.Lines.{program_of}
use Rattle.mac_text.specs.declared.syntax.Line.{Line}
use Rattle.mac_layout.specs.declared.error.AsmError.{AsmError}
use Rattle.mac_asm.specs.declared.assembly.Listing.{Listing}
use Rattle.mac_layout.specs.Addresses.{Labels}
use Rattle.mac_layout.specs.Faults.{Fault}
use Rattle.mac_layout.specs.LaidOut.{Layout, laid_out, empty_layout}

abbrev pub image_in : Result Listing AsmError → Result Image AsmError
image_in (Ok listing) = Ok listing.image
image_in (Err e) = Err e

abbrev pub symbols_laid : Result Layout Fault → Labels
symbols_laid (Ok s) = s.labels
symbols_laid (Err fault) = []

abbrev pub symbols_read : Result (List Line) ℕ → Labels
symbols_read (Ok lines) = symbols_laid (laid_out empty_layout 1 lines)
symbols_read (Err number) = []

-- the labels of a source in order of definition, with their numbers
unfoldable pub symbols_of : List ℕ → Labels
symbols_of source = symbols_read (program_of source)
