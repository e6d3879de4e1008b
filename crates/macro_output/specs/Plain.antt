-- What is written for a source of the subset.
use Rattle.std.specs.Prelude.{◌≡◌, ℕ, List, IsErr}
use Rattle.mac_asm.specs.Outcome.{outcome_of}
use Rattle.source_check.specs.Same.{ComesTo}
use Rattle.macro_output.specs.declared.plain.Plain.{Plain}
use Rattle.macro_output.specs.declared.plain.Plain.TheVariants as plains

-- what is written comes to exactly what the source comes to, which is the image beside it; a source that is not in the
-- subset has no image
abbrev pub IsPlain : List ℕ → Plain → Type 0
IsPlain source (plains.Written written) =
    (outcome_of written.text.items ≡ outcome_of source) × ComesTo source written.image
IsPlain source plains.NotInSubset = IsErr (outcome_of source)
IsPlain source plains.NotReadBack = Unit {0}
