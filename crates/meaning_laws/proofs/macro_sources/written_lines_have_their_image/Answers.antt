use Rattle.meaning_laws.proofs.WrittenAgreement.{lines_have_image}
use Rattle.meaning_laws.proofs.macro_sources.written_lines_have_their_image.Goals as goal

pub returns : goal.returns
returns c = lines_have_image
