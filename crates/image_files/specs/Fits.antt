-- The packing that bytes could be in (this project's profile).
use Rattle.std.specs.Prelude.{ℕ, Bool, is_ok, List, [], ◌∷◌, Option, Some, None, if◌then◌else◌}
use Rattle.image_files.specs.declared.packings.Packing.{Packing}
use Rattle.image_files.specs.declared.packings.Packing.TheVariants.{CoreDump, HighDensity, AnsiAscii, Simh, Octal}
use Rattle.image_files.specs.declared.fits.Wanted.{Wanted}
use Rattle.image_files.specs.declared.fits.Wanted.TheVariants as wants
use Rattle.image_files.specs.CoreImages.{words_in, image_in}

-- bytes are read without a fault as words, or as a core image
abbrev pub are_words_in : Packing → List ℕ → Bool
are_words_in packing bytes = is_ok (words_in packing bytes)

abbrev pub is_image_in : Packing → List ℕ → Bool
is_image_in packing bytes = is_ok (image_in packing bytes)

abbrev pub fits : Wanted → Packing → List ℕ → Bool
fits wants.Words packing bytes = are_words_in packing bytes
fits wants.Image packing bytes = is_image_in packing bytes

abbrev pub if_fits : Bool → Packing → List Packing → List Packing
if_fits is packing others = if is then packing ∷ others else others

-- the packings that fit
abbrev pub packings_that_fit : Wanted → List ℕ → List Packing
packings_that_fit wanted bytes =
    if_fits (fits wanted CoreDump bytes) CoreDump
    (if_fits (fits wanted HighDensity bytes) HighDensity
    (if_fits (fits wanted AnsiAscii bytes) AnsiAscii
    (if_fits (fits wanted Simh bytes) Simh (if_fits (fits wanted Octal bytes) Octal []))))

abbrev pub only_one : List Packing → Option Packing
only_one [] = None
only_one (packing ∷ []) = Some packing
only_one (packing ∷ other ∷ others) = None

-- the one that fits, where exactly one does
unfoldable pub packing_that_fits : Wanted → List ℕ → Option Packing
packing_that_fits wanted bytes = only_one (packings_that_fit wanted bytes)
