use Rattle.std.proofs.Common.{sym, subst, ℕ, ◌^◌, ◌<◌, List, Ok}
use Rattle.std.specs.Prelude.{All}
use Rattle.image_files.proofs.WordLemmas.{read_fit}
use Rattle.image_files.specs.CoreImages.{image_of_words, words_in}
use Rattle.image_files.specs.Packings.{unpacked}
use Rattle.image_files.specs.ImageAnswers.{ReadsImage}
use Rattle.image_files.proofs.CoreImageLemmas.{bytes_below, image_read, words_from}
use Rattle.image_files.proofs.core_images.read_image.Goals as goal

pub image_of_words-requires : goal.image_of_words-requires
image_of_words-requires c =
    subst (λ (ws : List ℕ). All (λ w. w < 2 ^ 36) ws) (sym c.as_slice.ensures.value)
    (read_fit c.args.from c.args.bytes.now c.in-Ok.words.items (bytes_below c.args.bytes.now (λ k. (c.type_inv.bytes k).fits))
    (words_from c.in-Ok.words.items (unpacked c.args.from c.args.bytes.now) c.in-Ok.ensures))

pub returns-in-Ok-clause-told : goal.returns-in-Ok-clause-told
returns-in-Ok-clause-told c =
    image_read c.image_of_words.result (words_in c.args.from c.args.bytes.now) c.in-Ok.words.items c.in-Ok.ensures
    (subst (λ (ws : List ℕ). ReadsImage c.image_of_words.result (image_of_words (Ok ws))) c.as_slice.ensures.value c.image_of_words.ensures.told)
