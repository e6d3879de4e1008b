-- A line as it is read from left to right.
use Rattle.std.specs.Prelude.{◌≡◌, ℕ, zero, suc, ◌+◌, Bool, true, false, ◌==◌, ◌||◌}
use Rattle.std.specs.Prelude.{◌&&◌, not, List, [], ◌∷◌, ◌++◌, length, take}
use Rattle.std.specs.Prelude.{drop, Option, Some, None, Result, Ok, Err, option_and_then, if◌then◌else◌}
use Rattle.std.specs.List.{prefix_len, take_while}
use Rattle.mac_text.specs.Characters.{is_blank, is_name_character}
use Rattle.mac_text.specs.declared.fault.Fault.{Fault}
use Rattle.mac_text.specs.declared.fault.Fault.TheVariants as faults

-- the radix of numbers, whether this is the text of a literal, the texts of the literals cut out so far, and what is
-- left to read
pub record Scan : Type 0 where
  pub radix : ℕ
  pub in_literal : Bool
  pub cuts : List (List ℕ)
  pub rest : List ℕ

infixl 10 ◌>>=◌
abbrev pub ◌>>=◌ : {A B : Type 0} → Option A → (A → Option B) → Option B
o >>= f = option_and_then f o

-- what a function returned, seen by view, is what the grammar gives, unless memory ran out
abbrev pub Fails : {Y : Type 0} → Fault → Option Y → Type 0
Fails faults.Memory read = Unit {0}
Fails (faults.Syntax wanted) read = read ≡ None

abbrev pub Gives : {X Y : Type 0} → (X → Y) → Result X Fault → Option Y → Type 0
Gives view (Ok x) read = read ≡ Some (view x)
Gives view (Err e) read = Fails e read

-- less the first n bytes
abbrev pub without : ℕ → Scan → Scan
without n s = record s { rest = drop n s.rest }

abbrev pub after_blanks : List ℕ → List ℕ
after_blanks text = drop (prefix_len is_blank text) text

abbrev pub skipped : Scan → Scan
skipped s = record s { rest = after_blanks s.rest }

abbrev pub head_of : List ℕ → Option ℕ
head_of [] = None
head_of (c ∷ cs) = Some c

abbrev pub begins_with : ℕ → List ℕ → Bool
begins_with byte [] = false
begins_with byte (c ∷ cs) = c == byte

-- the byte comes next, behind blanks
abbrev pub meets : ℕ → Scan → Bool
meets byte s = begins_with byte (after_blanks s.rest)

-- behind the blanks, and behind the byte where it comes next
abbrev pub eaten : ℕ → Scan → Scan
eaten byte s = record s { rest = if meets byte s then drop 1 (after_blanks s.rest) else after_blanks s.rest }

abbrev pub begins_with_commas : List ℕ → Bool
begins_with_commas [] = false
begins_with_commas (c ∷ []) = false
begins_with_commas (c ∷ d ∷ cs) = c == 44 && d == 44

-- two commas come next with nothing between them, behind blanks
abbrev pub meets_commas : Scan → Bool
meets_commas s = begins_with_commas (after_blanks s.rest)

abbrev pub commas_eaten : Scan → Scan
commas_eaten s = record s { rest = if meets_commas s then drop 2 (after_blanks s.rest) else after_blanks s.rest }

-- no semicolon, which begins a comment
abbrev pub is_title_character : ℕ → Bool
is_title_character c = not (c == 59)

-- the comment, or the end
abbrev pub comment_of : Scan → Scan
comment_of s = record s { rest = drop (prefix_len is_title_character s.rest) s.rest }

-- the letters, digits and the like that come next
abbrev pub word_of : List ℕ → List ℕ
word_of text = take_while is_name_character text

-- the text of a literal of n bytes is cut out, with the bracket behind it; its number
abbrev pub take_cut : ℕ → Scan → ℕ × Scan
take_cut n s = (length s.cuts, record s { cuts = s.cuts ++ take n s.rest ∷ []; rest = drop (n + 1) s.rest })

-- an expression begins with a sign, `^`, `[`, a name or a number
abbrev pub begins_expression : List ℕ → Bool
begins_expression [] = false
begins_expression (c ∷ cs) = c == 43 || (c == 45 || (c == 94 || (c == 91 || is_name_character c)))

-- nothing is left, or a comment; no comment stands in a literal
abbrev pub is_at_end : Bool → List ℕ → Bool
is_at_end in_literal [] = true
is_at_end in_literal (c ∷ cs) = c == 59 && not in_literal

-- what was read is there
abbrev pub present : {X : Type 0} → Option (X × Scan) → Option (Option X × Scan)
present read = read >>= λ x. Some (Some x.0, x.1)

-- what was read before comes first
abbrev pub with_front : {X : Type 0} → List X → Option (List X × Scan) → Option (List X × Scan)
with_front front read = read >>= λ x. Some (front ++ x.0, x.1)

-- one item after another, as long as one comes next; there are at most so many
unfoldable pub items_at : {X : Type 0} → (Scan → Option (Option X × Scan)) → ℕ → Scan → Option (List X × Scan)
items_at next zero s = Some ([], s)
items_at next (suc n) s =
    next s >>= λ x. elim x.0 [ None ↦ Some ([], x.1) | Some item ↦ with_front (item ∷ []) (items_at next n x.1) ]
