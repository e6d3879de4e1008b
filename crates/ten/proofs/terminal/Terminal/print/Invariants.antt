use Rattle.std.proofs.Common.{◌≡◌, ◌++◌, drop}
use Rattle.ten.specs.Terminals.{held_by, written_by}
use Rattle.ten.proofs.terminal.Terminal.print.Given as goal
use Rattle.std.specs.Prelude.{IsTrue}

-- what is written and held so far, with the characters that are left, comes to what all of them come to
abbrev pub invariant-loop-character : goal.invariant-loop-character
invariant-loop-character l = record {
  line : l.self.line ≡ l.initial.self.line;
  numbered : l.self.is_numbered ≡ l.initial.self.is_numbered;
  whole : IsTrue l.output.is_whole → IsTrue l.initial.output.is_whole;
  written : IsTrue l.output.is_whole
      → l.output.bytes.items ++ written_by l.self.is_numbered l.self.line l.self.partial.items (drop l.character-index l.text)
      ≡ l.initial.output.bytes.items ++ written_by l.self.is_numbered l.self.line l.initial.self.partial.items l.text;
  held : held_by l.self.is_numbered l.self.partial.items (drop l.character-index l.text)
      ≡ held_by l.self.is_numbered l.initial.self.partial.items l.text;
}
