use Rattle.std.proofs.Common.{refl, subst}
use Rattle.source_labels.specs.Places.{ArePlacesOf}
use Rattle.program_files.proofs.Sources.{has_written}
use Rattle.program_files.proofs.macro_sources.program_of.Goals as goal

pub returns : goal.returns
returns c =
    has_written _ c.args.written.text c.in_ok-places.places refl c.requires
    (subst (λ text. ArePlacesOf c.in_ok-places.places text c.args.written.image.words.items) c.as_slice.ensures.value c.in_ok-places.ensures)
    refl refl
