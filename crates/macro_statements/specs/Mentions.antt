-- Words that say something of what comes before them, and the names that may be macros (MACRO-10 Assembler Manual).
use Rattle.std.specs.Prelude.{ℕ, Bool, true, false, ◌==◌, ◌||◌, ◌&&◌, not, is_some, List, [], ◌∷◌, ◌++◌, length, drop, Option, Some, None, if◌then◌else◌, codes}
use Rattle.std.specs.List.{list_any}
use Rattle.std.specs.Str.{bytes_eq}
use Rattle.mac_text.specs.Characters.{is_name_character, is_blank}
use Rattle.mac_text.specs.Names.{folded, symbol_of}
use Rattle.mac_text.specs.Scan.{begins_with, after_blanks, word_of}
use Rattle.macro_expansion.specs.Marked.{is_mark}
use Rattle.macro_statements.specs.Forms.{built_in}

-- a text after the name that it begins with
abbrev pub behind_word : List ℕ → List ℕ
behind_word text = drop (length (word_of text)) text

-- words that say something of what comes before them
abbrev pub far_names : List (List ℕ)
far_names =
    codes "OPDEF" ∷ codes "SYN" ∷ codes "PURGE" ∷ codes "SEARCH" ∷ codes "TWOSEG" ∷ codes "HISEG"
    ∷ codes "IF1" ∷ codes "IF2" ∷ []

-- what comes after a name defines it: it is a label, assigned, or a variable
abbrev pub defines : List ℕ → Bool
defines text = begins_with 58 text || begins_with 35 text || begins_with 61 (after_blanks text)

-- such a word, or a definition of a name that is an operation or a pseudo-operation
abbrev pub is_far : List ℕ → Bool
is_far text = list_any (bytes_eq (folded (word_of text))) far_names || (defines (behind_word text) && is_some (built_in (word_of text)))

-- such a word is in a text outside of comments, or a mark in a comment; whether a comment is open, and whether a name
unfoldable pub mentions : Bool → Bool → List ℕ → Bool
mentions in_comment in_name [] = false
mentions true in_name (c ∷ cs) = elim (is_mark c) [ true ↦ true | false ↦ mentions (not (c == 10)) false cs ]
mentions false in_name (c ∷ cs) =
    elim (is_name_character c) [
      | true ↦ elim (not in_name && is_far (c ∷ cs)) [ true ↦ true | false ↦ mentions false true cs ]
      | false ↦ mentions (c == 59) false cs
    ]

-- the names that come after a word DEFINE, outside of comments, after those so far: whether that word comes just before, whether a
-- comment is open, and whether a name
abbrev pub is_define : List ℕ → Bool
is_define text = bytes_eq (folded (word_of text)) (codes "DEFINE")

abbrev pub with_name : Bool → List ℕ → List ℕ → List ℕ
with_name is_next text names = if is_next then names ++ symbol_of (word_of text) ∷ [] else names

unfoldable pub defined_names : Bool → Bool → Bool → List ℕ → List ℕ → List ℕ
defined_names is_next in_comment in_name names [] = names
defined_names is_next true in_name names (c ∷ cs) = defined_names false (not (c == 10)) false names cs
defined_names is_next false in_name names (c ∷ cs) =
    elim (is_name_character c) [
      | true ↦ elim in_name [
        | true ↦ defined_names is_next false true names cs
        | false ↦ defined_names (is_define (c ∷ cs)) false true (with_name is_next (c ∷ cs) names) cs
      ]
      | false ↦ defined_names (is_next && is_blank c) (c == 59) false names cs
    ]

-- the names that may be macros, if no word says something of what comes before it
abbrev pub surveyed : List ℕ → Option (List ℕ)
surveyed source = if mentions false false source then None else Some (defined_names false false false [] source)
