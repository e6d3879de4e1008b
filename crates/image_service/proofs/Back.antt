-- Files and bytes come back.
use Rattle.std.proofs.Common.{◌≡◌, ◌∙◌, ap, ℕ, ◌<◌, List, Ok}
use Rattle.std.specs.Prelude.{All}
use Rattle.image_files.specs.declared.packings.Packing.{Packing}
use Rattle.image_files.specs.Images.{IsImage, WordsFit}
use Rattle.image_files.specs.Packings.{packed, unpacked}
use Rattle.image_files.specs.Saves.{Loaded, save_of}
use Rattle.image_files.proofs.PackLemmas.{packed_read, unpacked_packed}
use Rattle.image_files.proofs.SaveLemmas.{save_read}
use Rattle.image_files.proofs.WordLemmas.{read_fit, save_fit}
use Rattle.mac_source.specs.declared.shown.Shown.{Shown}
use Rattle.mac_source.specs.Sources.{source_of}
use Rattle.mac_source.proofs.Assemblies.{source_comes_to}
use Rattle.script_io.specs.Transcripts.{closed}
use Rattle.image_service.specs.declared.endings.Ending.TheVariants.{Done}
use Rattle.image_files.specs.declared.fits.Wanted.TheVariants as wants
use Rattle.image_files.specs.CoreImages.{words_or, image_or, image_of_words, image_in}
use Rattle.image_service.specs.Transcripts.{as_assembled, assembled_or, told, told_of, repacked, sourced, saved}

image_back : (packing : Packing) (image : Loaded) → IsImage image.words image.start → WordsFit image.words
    → image_in packing (packed packing (save_of image)) ≡ Ok image
image_back packing image is fit =
    ap (λ r. image_of_words (words_or r)) (packed_read packing (save_of image) (save_fit image is fit)) ∙ ap image_or (save_read image is)

pub file_back : (packing : Packing) (shown : Shown) (image : Loaded) → IsImage image.words image.start → WordsFit image.words
    → saved packing (sourced packing shown (packed packing (save_of image))).text ≡ closed (packed packing (save_of image)) Done
unfolding sourced saved
file_back packing shown image is fit =
    let file = packed packing (save_of image) in
    let source = source_of shown (as_assembled image) in
    let text : (sourced packing shown file).text ≡ source =
    ap (λ r. (told_of wants.Image file (λ i. source_of shown (as_assembled i)) r).text) (image_back packing image is fit) in
    ap (saved packing) text
    ∙ ap (λ r. told (λ i. packed packing (save_of i)) (assembled_or r)) (source_comes_to shown (as_assembled image) is fit)

pub words_back : (from to : Packing) (bytes words : List ℕ) → All (λ b. b < 256) bytes → unpacked from bytes ≡ Ok words
    → repacked to from (repacked from to bytes).text ≡ closed bytes Done
unfolding repacked
words_back from to bytes words all e =
    let text : (repacked from to bytes).text ≡ packed to words = ap (λ r. (told_of wants.Words bytes (packed to) (words_or r)).text) e in
    ap (repacked to from) text
    ∙ (ap (λ r. told_of wants.Words (packed to words) (packed from) (words_or r)) (packed_read to words (read_fit from bytes words all e))
    ∙ ap (λ l. closed l Done) (unpacked_packed from bytes words all e))
