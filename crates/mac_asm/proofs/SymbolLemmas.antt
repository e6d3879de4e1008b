-- The symbols of lines that are laid out.
use Rattle.std.proofs.Common.{◌≡◌, ℕ, List, Ok, ap, sym, ◌∙◌}
use Rattle.mac_text.specs.Lines.{program_of}
use Rattle.mac_text.specs.declared.syntax.Line.{Line}
use Rattle.mac_layout.specs.declared.layout.Layout.{Layout as Given}
use Rattle.mac_layout.specs.Layouts.{IsLayoutOf}
use Rattle.mac_asm.specs.Symbols.{symbols_laid, symbols_read, symbols_of}

pub symbols_are : (source : List ℕ) (lines : List Line) (given : Given) → program_of source ≡ Ok lines → IsLayoutOf given lines
    → given.labels.entries ≡ symbols_of source
unfolding symbols_of
symbols_are source lines given is l = l.labels ∙ sym (ap symbols_read is ∙ ap symbols_laid l.is)
