-- Texts between two equal characters, and where a literal ends.
use Rattle.std.specs.Prelude.{ℕ, ◌+◌, ◌-◌, ◌==◌, List, [], ◌∷◌, length}
use Rattle.std.specs.Prelude.{take, drop, position, Option, Some, None, option_map}
use Rattle.std.specs.List.{prefix_len}
use Rattle.mac_text.specs.Characters.{is_name_character}
use Rattle.mac_text.specs.Names.{folded}
use Rattle.mac_text.specs.Scan.{◌>>=◌, Scan, after_blanks, word_of}
use Rattle.mac_text.specs.Keywords.{form_of}
use Rattle.mac_text.specs.declared.keyword.Form.{Form}
use Rattle.mac_text.specs.declared.keyword.Form.TheVariants.{Text}

-- the text up to the next character equal to the delimiter, and what stands behind that
abbrev pub up_to_next : ℕ → List ℕ → Option (List ℕ × List ℕ)
up_to_next delimiter body = option_map (λ end. (take end body, drop (end + 1) body)) (position (λ c. c == delimiter) body)

-- the first character is the delimiter
abbrev pub text_from : List ℕ → Option (List ℕ × List ℕ)
text_from [] = None
text_from (delimiter ∷ body) = up_to_next delimiter body

-- the text that comes next: blanks before its delimiter do not count
unfoldable pub text_at : List ℕ → Option (List ℕ × List ℕ)
text_at bytes = text_from (after_blanks bytes)

-- what stands behind the word that comes next
abbrev pub after_word : List ℕ → List ℕ
after_word text = drop (prefix_len is_name_character text) text

abbrev pub behind_form : Option Form → List ℕ → List ℕ → Option (List ℕ)
behind_form (Some (Text form)) bytes rest = option_map (λ x. x.1) (text_at rest)
behind_form _ bytes rest = Some bytes

-- what stands behind the text where a statement with a text comes first, and otherwise all
unfoldable pub behind_text : List ℕ → Option (List ℕ)
behind_text bytes = behind_form (form_of (folded (word_of (after_blanks bytes)))) bytes (after_word (after_blanks bytes))

-- how many bytes stand before the bracket that ends a literal; a bracket in a text ends none
unfoldable pub literal_len : List ℕ → Option ℕ
literal_len bytes = do
  behind ← behind_text bytes
  more ← position (λ c. c == 93) behind
  Some (length bytes - length behind + more)

-- the text that comes next on a line, and the position behind it
abbrev pub take_text : Scan → Option (List ℕ × Scan)
take_text s = option_map (λ x. (x.0, record s { rest = x.1 })) (text_at s.rest)
