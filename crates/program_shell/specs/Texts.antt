-- Text that is not written yet (this project's profile).
use Rattle.std.specs.Prelude.{◌≡◌, ℕ, List, ◌++◌, IsTrue}
use Rattle.program_shell.specs.declared.pending_text.PendingText.{PendingText}

-- where there was memory for all of the new text, there was for the old one, and these bytes came behind it
abbrev pub Adds : PendingText → PendingText → List ℕ → Type 0
Adds old new added = IsTrue new.is_whole → IsTrue old.is_whole × (new.bytes.items ≡ old.bytes.items ++ added)
