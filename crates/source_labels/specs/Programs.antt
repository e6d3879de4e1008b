-- What a source is assembled to, and which source a program stands for.
use Rattle.std.specs.Prelude.{◌≡◌, ℕ, List, Vec, Option, Some, None, Result, Ok, Err, IsErr}
use Rattle.mac_layout.specs.Faults.{Fault}
use Rattle.mac_asm.specs.Assembly as assembly
use Rattle.source_labels.specs.Places.{ArePlacesOf}
use Rattle.source_labels.specs.declared.sources.Program.{Program}
use Rattle.source_labels.specs.declared.sources.Tried.{Tried}
use Rattle.source_labels.specs.declared.sources.Tried.TheVariants as variants

-- a program has the image of its source, and a source is refused only where it has none; where there was no memory nothing is
-- said
abbrev pub AssemblesTo : {E : Type 0} → Result Tried E → Result assembly.Assembled Fault → Type 0
AssemblesTo (Ok (variants.Program program)) outcome =
    outcome ≡ Ok (record { words = program.image.words.items; start = program.image.start })
AssemblesTo (Ok variants.Refused) outcome = IsErr outcome
AssemblesTo (Err e) outcome = Unit {0}

-- no other source was written in place of that of the file
abbrev pub KeepsOwn : Tried → Type 0
KeepsOwn (variants.Program program) = program.written ≡ None
KeepsOwn variants.Refused = Unit {0}

-- a program has the labels and literals of its source
abbrev pub HasPlacesOf : List ℕ → Tried → Type 0
HasPlacesOf source (variants.Program program) = ArePlacesOf program.places source program.image.words.items
HasPlacesOf source variants.Refused = Unit {0}

-- the bytes of a text that was written, or else these
abbrev pub written_or : {A : Type 0} → List ℕ → Option (Vec ℕ A) → List ℕ
written_or own (Some written) = written.items
written_or own None = own

-- the source that a program stands for: the one that was written in place of its file's, or its file's
abbrev pub source_for : Program → List ℕ → List ℕ
source_for program own = written_or own program.written
