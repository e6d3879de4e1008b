use Rattle.asm_laws.proofs.Phases.{syntax-told, no_end-told}
use Rattle.asm_laws.proofs.laws.reading_is_told.Goals as goal

pub returns : goal.returns
returns c = λ source line. record { syntax_at = syntax-told source line; no_end = no_end-told source line }
