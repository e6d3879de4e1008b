-- A source in a script, between ASSEMBLE and ENDASM (this project's profile).
use Rattle.std.specs.Prelude.{ℕ, List, [], ◌++◌, codes}

-- the name that its image will have, how many lines of the script stand before it, and its lines so far, each with the end
-- of line that an assembler drops
pub record SourceText : Type 0 where
  pub name : List ℕ
  pub before : ℕ
  pub text : List ℕ

-- a source without lines
abbrev pub empty_source : List ℕ → ℕ → SourceText
empty_source name before = record { name = name; before = before; text = [] }

-- a source with one line more
abbrev pub with_line : SourceText → List ℕ → SourceText
with_line source line = record source { text = source.text ++ line ++ codes "\r\n" }
