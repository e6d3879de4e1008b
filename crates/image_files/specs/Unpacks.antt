-- What an answer says of the words of bytes.
use Rattle.std.specs.Prelude.{◌≡◌, ℕ, Vec, List, [], ◌∷◌, Result, Ok, Err}
use Rattle.image_files.specs.declared.packings.PackError.{PackError}
use Rattle.image_files.specs.declared.packings.PackError.TheVariants as errors
use Rattle.image_files.specs.Packings.{Words, with_word}

-- words before others
abbrev pub with_words : List ℕ → Words → Words
with_words [] read = read
with_words (w ∷ ws) read = with_word w (with_words ws read)

-- the words, or the first one at fault; where there was no memory nothing is said
abbrev pub Unpacks : {A : Type 0} → Result (Vec ℕ A) PackError → Words → Type 0
Unpacks (Ok words) read = read ≡ Ok words.items
Unpacks (Err (errors.Word number kind)) read = read ≡ Err (record { number = number; kind = kind })
Unpacks (Err errors.Memory) read = Unit {0}
