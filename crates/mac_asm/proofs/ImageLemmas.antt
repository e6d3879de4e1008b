-- The image of the words in cells.
use Rattle.std.proofs.Common.{◌≡◌, ℕ, suc, ◌+◌, ◌^◌, ◌<◌, ◌≢◌, List, [], ◌∷◌, ◌++◌, length, get_or, set, reverse, Option, Some}
use Rattle.std.proofs.Common.{None, Result, Ok, Err, Bool, cond, refl, sym, ap, ◌∙◌, inl, inr, arith}
use Rattle.std.specs.Prelude.{option_map, nat_eq, unwrap_or}
use Rattle.std.specs.List.{filter_map, cons_option, range_with_len}
use Rattle.std.specs.Map.{lookup}
use Rattle.std.proofs.lemmas.List.{length-set, length-replicate, reverse-append, get_or-set_same, get_or-set_other, get_or-replicate}
use Rattle.std.proofs.lemmas.Bool.{cases_Bool, eqb-true}
use Rattle.std.proofs.lemmas.Bool.Decides.{nat_tests}
use Rattle.mac_layout.specs.declared.error.AsmError.{AsmError}
use Rattle.mac_layout.specs.declared.error.AsmError.TheVariants as errors
use Rattle.mac_layout.specs.Addresses.{Placed, first_address}
use Rattle.mac_asm.specs.Assembly.{start_at, word_at, by_address}
use Rattle.mac_layout.specs.Faults.{Fault}
use Rattle.mac_asm.specs.Outcome.{words_given, image_with, outcome_placed}
use Rattle.mac_asm.specs.Filled.{Cells, put_all, words_in_cells, filled_with, filled, empty_cells, PutsLines, Assembles}

pub by_address_below : (words : List (ℕ × ℕ)) (n : ℕ) → n ≡ 2 ^ 18 → by_address words ≡ filter_map (word_at words) (range_with_len 0 n)
unfolding by_address
by_address_below words n is = ap (λ m. filter_map (word_at words) (range_with_len 0 m)) (sym is)

put_length : (cells : Cells) (words : List (ℕ × ℕ)) → length (put_all cells words) ≡ length cells
put_length cells [] = refl
put_length cells (word ∷ words) = put_length (set cells word.0 (Some word.1)) words ∙ length-set cells word.0 (Some word.1)

abbrev or_else : Option ℕ → Option ℕ → Option ℕ
or_else None other = other
or_else (Some x) other = Some x

or_else_then : (a b c : Option ℕ) → or_else (or_else a b) c ≡ or_else a (or_else b c)
or_else_then None b c = refl
or_else_then (Some x) b c = refl

or_none : (a : Option ℕ) → or_else a None ≡ a
or_none None = refl
or_none (Some x) = refl

lookup_in_both : (test : ℕ → Bool) (first more : List (ℕ × ℕ)) → lookup test (first ++ more) ≡ or_else (lookup test first) (lookup test more)
lookup_in_both test [] more = refl
lookup_in_both test (e ∷ es) more = elim (cases_Bool (test e.0)) [
  | inl is ↦ ap (λ b. cond b (Some e.1) (lookup test (es ++ more))) is ∙ sym (ap (λ b. or_else (cond b (Some e.1) (lookup test es)) (lookup test more)) is)
  | inr is ↦
      ap (λ b. cond b (Some e.1) (lookup test (es ++ more))) is ∙ lookup_in_both test es more
      ∙ sym (ap (λ b. or_else (cond b (Some e.1) (lookup test es)) (lookup test more)) is)
]

set_read : (cells : Cells) (k : ℕ) (word : ℕ × ℕ) → k < length cells
    → get_or (set cells word.0 (Some word.1)) k None ≡ or_else (lookup (nat_eq k) (word ∷ [])) (get_or cells k None)
set_read cells k word lt = elim (cases_Bool (nat_eq k word.0)) [
  | inl is ↦ let same : k ≡ word.0 = eqb-true k word.0 is in let within : word.0 < length cells = omega arith in
      ap (λ j. get_or (set cells word.0 (Some word.1)) j None) same ∙ get_or-set_same cells word.0 (Some word.1) None within
      ∙ sym (ap (λ b. or_else (cond b (Some word.1) None) (get_or cells k None)) is)
  | inr is ↦ let other : k ≢ word.0 = grind (arith, nat_tests) in
      get_or-set_other cells word.0 k (Some word.1) None other
      ∙ sym (ap (λ b. or_else (cond b (Some word.1) None) (get_or cells k None)) is)
]

-- what a cell holds after words are put
put_read : (cells : Cells) (words : List (ℕ × ℕ)) (k : ℕ) → k < length cells
    → get_or (put_all cells words) k None ≡ or_else (lookup (nat_eq k) (reverse words)) (get_or cells k None)
put_read cells [] k lt = refl
put_read cells (word ∷ words) k lt =
    let same = length-set cells word.0 (Some word.1) in
    let within : k < length (set cells word.0 (Some word.1)) = omega arith in
    put_read (set cells word.0 (Some word.1)) words k within
    ∙ ap (or_else (lookup (nat_eq k) (reverse words))) (set_read cells k word lt)
    ∙ sym (or_else_then (lookup (nat_eq k) (reverse words)) (lookup (nat_eq k) (word ∷ [])) (get_or cells k None))
    ∙ ap (λ o. or_else o (get_or cells k None)) (sym (lookup_in_both (nat_eq k) (reverse words) (word ∷ [])))
    ∙ ap (λ ws. or_else (lookup (nat_eq k) ws) (get_or cells k None)) (sym (reverse-append (word ∷ []) words))

first_cell : (address : ℕ) (cell : Option ℕ) (cells : Cells)
    → words_in_cells address (cell ∷ cells) ≡ cons_option (option_map (λ w. (address, w)) cell) (words_in_cells (address + 1) cells)
first_cell address None cells = refl
first_cell address (Some word) cells = refl

-- cells by their addresses
cells_read : (address : ℕ) (cells : Cells) (f : ℕ → Option (ℕ × ℕ))
    → ((k : ℕ) → k < length cells → option_map (λ w. (address + k, w)) (get_or cells k None) ≡ f (address + k))
    → words_in_cells address cells ≡ filter_map f (range_with_len address (length cells))
cells_read address [] f reads = refl
cells_read address (cell ∷ cells) f reads =
    let lt : 0 < suc (length cells) = omega arith in
    let here : address + 0 ≡ address = omega arith in
    first_cell address cell cells
    ∙ ap (λ o. cons_option o (words_in_cells (address + 1) cells)) (ap (λ p. option_map (λ w. (p, w)) cell) (sym here) ∙ reads 0 lt ∙ ap f here)
    ∙ ap (cons_option (f address)) (cells_read (address + 1) cells f (λ k below.
    let next : address + 1 + k ≡ address + suc k = omega arith in
    let more : suc k < suc (length cells) = omega arith in
    ap (λ p. option_map (λ w. (p, w)) (get_or cells k None)) next ∙ reads (suc k) more ∙ ap f (sym next)))

empty_read : (n k : ℕ) → k < n → get_or (empty_cells n) k None ≡ None
unfolding empty_cells
empty_read n k lt = get_or-replicate n k None None lt

empty_length : (n : ℕ) → length (empty_cells n) ≡ n
unfolding empty_cells
empty_length n = length-replicate n None

words_are : (n : ℕ) (words : List (ℕ × ℕ)) → words_in_cells 0 (put_all (empty_cells n) words) ≡ filter_map (word_at (reverse words)) (range_with_len 0 n)
words_are n words =
    let all : length (put_all (empty_cells n) words) ≡ n = put_length (empty_cells n) words ∙ empty_length n in
    let empty = empty_length n in
    cells_read 0 (put_all (empty_cells n) words) (word_at (reverse words)) (λ k lt.
    let here : 0 + k ≡ k = omega arith in
    let below : k < length (empty_cells n) = omega arith in
    let below_n : k < n = omega arith in
    ap (λ p. option_map (λ w. (p, w)) (get_or (put_all (empty_cells n) words) k None)) here
    ∙ ap (option_map (λ w. (k, w)))
    (put_read (empty_cells n) words k below ∙ ap (or_else (lookup (nat_eq k) (reverse words))) (empty_read n k below_n)
    ∙ or_none (lookup (nat_eq k) (reverse words)))
    ∙ ap (word_at (reverse words)) (sym here))
    ∙ ap (λ m. filter_map (word_at (reverse words)) (range_with_len 0 m)) all

same_pair : (a b : Cells) (x y : ℕ) → ◌≡◌ {A = Result (Cells × ℕ) Fault} (Ok (a, x)) (Ok (b, y)) → (a ≡ b) × (x ≡ y)
same_pair a b x y is =
    let pair : ◌≡◌ {A = Cells × ℕ} (a, x) (b, y) = cc in
    (ap (λ (p : Cells × ℕ). p.0) pair, ap (λ (p : Cells × ℕ). p.1) pair)

image_filled : (n start begins : ℕ) (given : Result (List (ℕ × ℕ)) Fault) (new : Cells) → n ≡ 2 ^ 18
    → filled_with (empty_cells n) start given ≡ Ok (new, begins)
    → image_with start given ≡ Ok (record { words = words_in_cells 0 new; start = begins })
image_filled n start begins (Ok words) new all is =
    let cells_are : put_all (empty_cells n) words ≡ new = (same_pair (put_all (empty_cells n) words) new start begins is).0 in
    let start_is : start ≡ begins = (same_pair (put_all (empty_cells n) words) new start begins is).1 in
    ap (λ ws. Ok (record { words = ws; start = start })) (by_address_below (reverse words) n all ∙ sym (words_are n words) ∙ ap (words_in_cells 0) cells_are)
    ∙ ap (λ s. Ok (record { words = words_in_cells 0 new; start = s })) start_is
image_filled n start begins (Err fault) new all is = cc

-- the image of lines whose words were put
pub outcome_filled : (n start : ℕ) (lines : List Placed) (old new : Cells) (words : List (ℕ × ℕ)) → n ≡ 2 ^ 18
    → old ≡ empty_cells n → filled old lines ≡ Ok (new, start)
    → words ≡ words_in_cells 0 new
    → outcome_placed lines ≡ Ok (record { words = words; start = start })
unfolding outcome_placed
outcome_filled n start lines old new words all empty is words_is =
    image_filled n (unwrap_or (start_at lines) first_address) start (words_given 1 lines) new all (ap (λ cells. filled cells lines) (sym empty) ∙ is)
    ∙ ap (λ ws. Ok (record { words = ws; start = start })) (sym words_is)

image_fails : (start begins : ℕ) (old : Cells) (given : Result (List (ℕ × ℕ)) Fault) (fault : Fault)
    → filled_with old start given ≡ Err fault
    → image_with begins given ≡ Err fault
image_fails start begins old (Ok words) fault is = cc
image_fails start begins old (Err f) fault is =
    let same : f ≡ fault = cc in ap Err same

-- a line at fault
pub outcome_fails : (e : AsmError) (lines : List Placed) (old new : Cells) → PutsLines (Err e) old new lines → Assembles (Err e) (outcome_placed lines)
unfolding outcome_placed
outcome_fails (errors.Line line code) lines old new is =
    image_fails (unwrap_or (start_at lines) first_address) (unwrap_or (start_at lines) first_address) old (words_given 1 lines)
    (record { line = line; code = code }) is
outcome_fails errors.Memory lines old new is = tt
