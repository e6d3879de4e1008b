-- What the lines mean that `macro` writes: words in octal, and LOC, BLOCK and END with a number in octal.
use Rattle.std.specs.Prelude.{◌≡◌, ℕ, ℤ, ◌+◌, ◌^◌, ◌<◌, ◌≤◌, List, [], ◌∷◌, ◌++◌, drop, replicate, Some, None, Ok}
use Rattle.word36.specs.Octal.{octal_text, word_text}
use Rattle.macro_expressions.specs.Reading.{Front}
use Rattle.macro_expressions.specs.Values.{Scope}
use Rattle.macro_statements.specs.declared.forms.Form.TheVariants as forms
use Rattle.macro_meaning.specs.Meaning.{Walk, put, put_all, step, form_step}

-- before a text, numbers in octal, and no literal so far
abbrev pub front : List ℕ → Front
front rest = record { rest = rest; radix = 8; pool = [] }

-- a line of a word puts that word at the place that is next, by any meaning of names
abbrev pub WordsArePut : Type 0
WordsArePut =
    (table : List (ℕ × ℤ)) (w : Walk) (word : ℕ) (rest : List ℕ) → word < 2 ^ 36 → w.place < 2 ^ 18
    → step table w (front (word_text word ++ 10 ∷ rest)) ≡ Ok (None, (put word w, front (10 ∷ rest)))

-- a number as it is written after a name, to the end of its line
abbrev pub argument : ℕ → List ℕ → List ℕ
argument n rest = 32 ∷ (octal_text n ++ 10 ∷ rest)

-- after their names LOC sets the place, BLOCK puts that many words of 0, and END, after which no literal is left, names the start
pub record NumbersAreTaken (scope : Scope) (w : Walk) (n : ℕ) (rest : List ℕ) : Type 0 where
  pub loc : n ≤ 2 ^ 18 → form_step scope forms.Loc w (front (argument n rest)) ≡ Ok (record w { place = n }, front (10 ∷ rest))
  pub block : n ≤ 2 ^ 18 → w.place + n ≤ 2 ^ 18
      → form_step scope forms.Block w (front (argument n rest)) ≡ Ok (put_all (replicate n 0) w, front (10 ∷ rest))
  pub end : n < 2 ^ 18
      → form_step scope forms.End w (front (argument n rest))
      ≡ Ok (record w { pools = drop 1 w.pools; start = Some n }, front (10 ∷ rest))
