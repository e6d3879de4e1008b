-- A text that is written at a terminal (this project's profile).
use Rattle.std.specs.Prelude.{◌≡◌, true, false, List, [], ℕ}
use Rattle.program_shell.specs.Texts.{Adds}
use Rattle.program_shell.specs.declared.pending_text.PendingText.{PendingText}
use Rattle.ten.specs.Terminals.{held_by, written_by}
use Rattle.ten.specs.declared.terminal.Terminal.{Terminal}

-- a text is written at a terminal: after what is held there, line by line, with several terminals, and at once with one
pub record Writes (old new : Terminal) (before after_it : PendingText) (text : List ℕ) : Type 0 where
  pub line : new.line ≡ old.line
  pub numbered : new.is_numbered ≡ old.is_numbered
  pub several : old.is_numbered ≡ true → Adds before after_it (written_by true old.line old.partial.items text)
  pub held : old.is_numbered ≡ true → new.partial.items ≡ held_by true old.partial.items text
  pub alone : old.is_numbered ≡ false → old.partial.items ≡ [] → Adds before after_it text
  pub empty : old.is_numbered ≡ false → old.partial.items ≡ [] → new.partial.items ≡ []
