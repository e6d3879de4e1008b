-- Words put into cells.
use Rattle.std.proofs.Common.{◌≡◌, inl, inr, ℕ, zero, suc, ◌+◌, ◌-◌, ◌^◌, ◌<◌, ◌≤◌, List, [], ◌∷◌, ◌++◌, length, set, take, min}
use Rattle.std.proofs.Common.{Option, Some, None, refl, sym, ap, ◌∙◌, append_assoc, length-append, arith}
use Rattle.std.specs.Prelude.{replicate}
use Rattle.std.proofs.lemmas.Bool.{cases_lt}
use Rattle.std.proofs.lemmas.List.{set_past, set-append_left, length-set, length-replicate, replicate-append-replicate, take_all}
use Rattle.std.proofs.Math.Seq.{set-append_seam}
use Rattle.mac_asm.specs.Filled.{Cells, empty_cells, all_cells, put_from, words_in_cells}

-- no word yet
pub all_none : (first : Cells) → first ≡ [] → all_cells first ≡ empty_cells (2 ^ 18)
unfolding all_cells
all_none first none = ap (λ cells. cells ++ empty_cells (2 ^ 18 - length cells)) none

-- as many cells as there are addresses
pub all_length : (first : Cells) → length first ≤ 2 ^ 18 → length (all_cells first) ≡ 2 ^ 18
unfolding all_cells empty_cells
all_length first le =
    let none : List (Option ℕ) = replicate (2 ^ 18 - length first) None in
    let behind : length none ≡ 2 ^ 18 - length first = length-replicate (2 ^ 18 - length first) None in
    let both : length (first ++ none) ≡ length first + length none = length-append first none in
    omega arith

-- a word in one of the first cells
pub set_first : (first : Cells) (at word : ℕ) → at < length first → all_cells (set first at (Some word)) ≡ set (all_cells first) at (Some word)
unfolding all_cells
set_first first at word lt =
    ap (λ n. set first at (Some word) ++ empty_cells (2 ^ 18 - n)) (length-set first at (Some word))
    ∙ sym (set-append_left first (empty_cells (2 ^ 18 - length first)) at (Some word) lt)

abbrev none_more : ℕ → Cells
none_more n = replicate n None

none_split : (n a b : ℕ) → n ≡ a + suc b → none_more n ≡ none_more a ++ None ∷ none_more b
none_split n a b is = ap none_more is ∙ sym (replicate-append-replicate a (suc b) None)

word_behind : (n : ℕ) (first : Cells) (at word : ℕ) → length first ≤ at → at < n
    → (first ++ none_more (at - length first) ++ Some word ∷ []) ++ none_more (n - (at + 1)) ≡ set (first ++ none_more (n - length first)) at (Some word)
word_behind n first at word le lt =
    let gap = none_more (at - length first) in
    let rest = none_more (n - (at + 1)) in
    let split : n - length first ≡ at - length first + suc (n - (at + 1)) = omega arith in
    let gap_len : length gap ≡ at - length first = length-replicate (at - length first) None in
    let both : length (first ++ gap) ≡ length first + length gap = length-append first gap in
    let here : length (first ++ gap) ≡ at = omega arith in
    append_assoc (first ++ gap) (Some word ∷ []) rest
    ∙ sym (ap (λ cells. set (first ++ cells) at (Some word)) (none_split (n - length first) (at - length first) (n - (at + 1)) split)
    ∙ ap (λ cells. set cells at (Some word)) (sym (append_assoc first gap (None ∷ rest)))
    ∙ ap (λ k. set ((first ++ gap) ++ None ∷ rest) k (Some word)) (sym here)
    ∙ set-append_seam (first ++ gap) None rest (Some word))

-- a word behind the first cells
pub set_behind : (first grown : Cells) (at word : ℕ) → length first ≤ at → at < 2 ^ 18 → grown ≡ take at first ++ replicate (at - length first) None
    → all_cells (grown ++ Some word ∷ []) ≡ set (all_cells first) at (Some word)
unfolding all_cells empty_cells
set_behind first grown at word le lt is =
    let gap = none_more (at - length first) in
    let whole : grown ≡ first ++ gap = is ∙ ap (λ cells. cells ++ gap) (take_all at first le) in
    let gap_len : length gap ≡ at - length first = length-replicate (at - length first) None in
    let first_len : length (first ++ gap) ≡ length first + length gap = length-append first gap in
    let grown_len : length grown ≡ length (first ++ gap) = ap length whole in
    let all_len : length (grown ++ Some word ∷ []) ≡ length grown + 1 = length-append grown (Some word ∷ []) in
    let left : 2 ^ 18 - length (grown ++ Some word ∷ []) ≡ 2 ^ 18 - (at + 1) = omega arith in
    ap (λ n. (grown ++ Some word ∷ []) ++ none_more n) left
    ∙ ap (λ cells. (cells ++ Some word ∷ []) ++ none_more (2 ^ 18 - (at + 1))) whole
    ∙ word_behind (2 ^ 18) first at word le lt

none_there : (n address : ℕ) → words_in_cells address (replicate n None) ≡ []
none_there zero address = refl
none_there (suc n) address = none_there n (address + 1)

words_behind : (first : Cells) (n address : ℕ) → words_in_cells address (first ++ replicate n None) ≡ words_in_cells address first
words_behind [] n address = none_there n address
words_behind (None ∷ first) n address = words_behind first n (address + 1)
words_behind (Some word ∷ first) n address = ap (λ words. (address, word) ∷ words) (words_behind first n (address + 1))

-- no words but those of the first cells
pub words_of_first : (first : Cells) → words_in_cells 0 (all_cells first) ≡ words_in_cells 0 first
unfolding all_cells empty_cells
words_of_first first = words_behind first (2 ^ 18 - length first) 0

-- behind the last cell
pub put_past : (cells : Cells) (address : ℕ) (words : List ℕ) → length cells ≤ address → put_from cells address words ≡ cells
put_past cells address [] le = refl
put_past cells address (word ∷ words) le =
    ap (λ c. put_from c (address + 1) words) (set_past cells address (Some word) le) ∙ put_past cells (address + 1) words (omega arith)

pub put_clamped : (cells : Cells) (address len : ℕ) (words : List ℕ) → len ≡ length cells → put_from cells (min address len) words ≡ put_from cells address words
put_clamped cells address len words is = elim (cases_lt address len) [
  | inl lt ↦ ap (λ p. put_from cells p words) (omega arith)
  | inr ge ↦ put_past cells (min address len) words (omega arith) ∙ sym (put_past cells address words (omega arith))
]

-- one more zero
pub zeros_more : (cells : Cells) (address total at : ℕ) → at < total
    → put_from cells address (replicate (total - at) 0)
    ≡ put_from (set cells address (Some 0)) (address + 1) (replicate (total - (at + 1)) 0)
zeros_more cells address total at lt =
    let k : total - at ≡ suc (total - (at + 1)) = omega arith in
    ap (λ n. put_from cells address (replicate n 0)) k

-- no zero is left that has a cell
pub zeros_done : (cells : Cells) (first count at len : ℕ) → at ≡ first + min count (len - first) → first ≤ len
    → len ≡ length cells
    → put_from cells at (replicate (first + count - at) 0) ≡ cells
zeros_done cells first count at len end le is = elim (cases_lt count (len - first)) [
  | inl lt ↦ let k : first + count - at ≡ 0 = omega arith in ap (λ n. put_from cells at (replicate n 0)) k
  | inr ge ↦ put_past cells at (replicate (first + count - at) 0) (omega arith)
]

pub zeros_begin : (cells : Cells) (address first count len : ℕ) → first ≡ min address len → len ≡ length cells
    → put_from cells first (replicate (first + count - first) 0) ≡ put_from cells address (replicate count 0)
zeros_begin cells address first count len is all =
    let k : first + count - first ≡ count = omega arith in
    ap (λ n. put_from cells first (replicate n 0)) k ∙ ap (λ p. put_from cells p (replicate count 0)) is ∙ put_clamped cells address len (replicate count 0) all
