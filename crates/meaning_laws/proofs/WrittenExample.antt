-- The source that `macro` wrote is the written source of its image, by computation.
use Rattle.std.proofs.Common.{◌≡◌, refl}
use Rattle.word36.specs.Octal.{octal, octal_within}
use Rattle.meaning_laws.specs.WrittenExample.{written_example, written_names, written_image}
use Rattle.meaning_laws.specs.WrittenSource.{written_text}

pub example_written : written_text written_names written_image 0o140 ≡ written_example
unfolding octal octal_within
example_written = refl
