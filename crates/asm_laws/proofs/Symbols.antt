-- The symbols of a source with an image are the labels of its map.
use Rattle.std.proofs.Common.{◌≡◌, ℕ, List, Result, Ok, Err, refl, sym, ap, ◌∙◌}
use Rattle.mac_text.specs.declared.syntax.Line.{Line}
use Rattle.mac_asm.specs.Assembly.{Assembled, IsAssembly}
use Rattle.asm_laws.specs.Found.{map_of}
use Rattle.mac_layout.specs.Faults.{Fault}
use Rattle.mac_layout.specs.LaidOut.{Layout, laid_out, empty_layout}
use Rattle.mac_asm.specs.Outcome.{outcome_from, outcome_read, outcome_of}
use Rattle.mac_asm.specs.Symbols.{symbols_laid, symbols_read, symbols_of}
use Rattle.asm_laws.proofs.Found.{met_only}
use Rattle.asm_laws.proofs.Told.{read-ok, laid-layout, image-told}

from-ok : (lines : List Line) (r : Result Layout Fault) (image : Assembled) → outcome_from lines r ≡ Ok image → (s : Layout) × (r ≡ Ok s)
from-ok lines (Ok s) image h = (s, refl)
from-ok lines (Err fault) image h = absurd (cc)

pub symbols-are : (source : List ℕ) (image : Assembled) (a : IsAssembly source image) → symbols_of source ≡ a.labels
unfolding symbols_of outcome_of
symbols-are source image a =
    let told : outcome_read (Ok a.lines) ≡ Ok image = sym (ap outcome_read a.reads) ∙ image-told source image a in
    let r = read-ok (Ok a.lines) image told in
    let is = r.1 in
    let same : a.lines ≡ r.0 = cc in
    let s = from-ok r.0 (laid_out empty_layout 1 r.0) image r.3 in
    let labels : a.labels ≡ map_of a.lines = met_only a.lines a.labels a.settled a.is_map in
    ap symbols_read a.reads
    ∙ ap (λ lines. symbols_laid (laid_out empty_layout 1 lines)) same
    ∙ ap symbols_laid s.1
    ∙ ap (λ x. x.labels) (laid-layout r.0 s.0 r.2 s.1).layout
    ∙ sym (labels ∙ ap map_of same)
