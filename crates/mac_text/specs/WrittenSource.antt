-- Sources as they may be written (MACRO-10 Assembler Manual, this project's profile): lines as in `Written`, each with
-- its end, and what they stand for.
use Rattle.std.specs.Prelude.{◌≡◌, ℕ, ◌-◌, Bool, true, false, ◌==◌, not}
use Rattle.std.specs.Prelude.{List, [], ◌∷◌, ◌++◌, length, slice_index, map}
use Rattle.std.specs.List.{list_all}
use Rattle.mac_text.specs.Lines.{radix_after, is_end}
use Rattle.mac_text.specs.Written.{LineText, IsLine, line_text, line_given}
use Rattle.mac_text.specs.declared.syntax.Line.{Line}

-- a line ends with a line feed, or with a carriage return and a line feed
pub data LineEnd : Type 0 where
  Feed : LineEnd
  ReturnAndFeed : LineEnd

abbrev pub end_before : LineEnd → List ℕ → List ℕ
end_before Feed rest = 10 ∷ rest
end_before ReturnAndFeed rest = 13 ∷ 10 ∷ rest

-- no line feed, which ends a line
abbrev pub is_line_character : ℕ → Bool
is_line_character c = not (c == 10)

-- a carriage return at the end of a line counts for its end
abbrev pub ends_with_return : List ℕ → Bool
ends_with_return text = slice_index text (length text - 1) == 13

-- a text that is one line
pub record IsOneLine (text : List ℕ) : Type 0 where
  pub characters : list_all is_line_character text ≡ true
  pub no_return : ends_with_return text ≡ false

-- a line, the radix in which its numbers are written, and its end
pub record SourceLine : Type 0 where
  pub radix : ℕ
  pub line : LineText radix
  pub end : LineEnd
  pub legal : IsLine line
  pub one : IsOneLine (line_text line)

abbrev pub source_line_text : SourceLine → List ℕ
source_line_text l = line_text l.line

abbrev pub source_line_given : SourceLine → Line
source_line_given l = line_given l.line

-- the lines, each with its end, before what stands behind them
unfoldable pub source_before : List SourceLine → List ℕ → List ℕ
source_before [] rest = rest
source_before (l ∷ ls) rest = source_line_text l ++ end_before l.end (source_before ls rest)

abbrev pub source_given : List SourceLine → List Line
source_given lines = map source_line_given lines

-- the radix that the lines leave to those behind them, where this one stood before them
unfoldable pub radix_behind : ℕ → List SourceLine → ℕ
radix_behind radix [] = radix
radix_behind radix (l ∷ ls) = radix_behind (radix_after (source_line_given l) radix) ls

-- each line is written in the radix that those before it leave, and none is END
unfoldable pub GoOn : ℕ → List SourceLine → Type 0
GoOn radix [] = Unit {0}
GoOn radix (l ∷ ls) = (l.radix ≡ radix) × (is_end (source_line_given l) ≡ false) × GoOn (radix_after (source_line_given l) radix) ls
