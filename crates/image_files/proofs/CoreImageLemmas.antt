-- What was read in two steps.
use Rattle.std.proofs.Common.{◌≡◌, sym, subst, ℕ, ◌<◌, List, Result, Ok, Err}
use Rattle.std.specs.Prelude.{All, slice_index}
use Rattle.std.proofs.lemmas.List.{get_or_default}
use Rattle.word36.specs.declared.image.Image.{Image}
use Rattle.image_files.specs.declared.faults.ImageFault.{ImageFault}
use Rattle.image_files.specs.declared.faults.ImageError.{ImageError}
use Rattle.image_files.specs.CoreImages.{words_or, image_of_words}
use Rattle.image_files.specs.Packings.{Words}
use Rattle.image_files.specs.ImageAnswers.{ReadsImage}

-- an image of words that were read
pub image_read : (r : Result Image ImageError) (all : Result (List ℕ) ImageFault) (words : List ℕ) → all ≡ Ok words
    → ReadsImage r (image_of_words (Ok words)) → ReadsImage r (image_of_words all)
image_read r all words e h = subst (λ (u : Result (List ℕ) ImageFault). ReadsImage r (image_of_words u)) (sym e) h

-- words that were unpacked
pub words_from : (words : List ℕ) (r : Words) → words_or r ≡ Ok words → r ≡ Ok words
words_from words (Ok found) e = cc
words_from words (Err fault) e = absurd (cc)

pub bytes_below : (bytes : List ℕ) → ((k : ℕ) → slice_index bytes k < 256) → All (λ b. b < 256) bytes
bytes_below bytes each k d h = subst (λ (n : ℕ). n < 256) (get_or_default bytes k 0 d h) (each k)
