-- The words of lines put into cells.
use Rattle.std.proofs.Common.{◌≡◌, ℕ, zero, suc, ◌≤◌, ◌+◌, ◌<◌, List, [], ◌∷◌, ◌++◌, length, drop, drop_of_length-le, get_or}
use Rattle.std.proofs.Common.{Option, Some, None, Bool, true, false, cond, ltb, refl, sym, ap, ◌∙◌, arith}
use Rattle.std.specs.Prelude.{set, option_map, zip, slice_get, is_some, ◌&&◌}
use Rattle.std.proofs.lemmas.List.{drop_more}
use Rattle.std.proofs.lemmas.Option.{slice_get_read, slice_get_past}
use borrow.Author.Tests.{ltb-true, ltb-false}
use Rattle.mac_text.specs.declared.syntax.Data.{Data}
use Rattle.mac_text.specs.declared.syntax.Line.{Line}
use Rattle.mac_layout.specs.Values.{◌>>=◌, Names}
use Rattle.mac_layout.specs.Addresses.{Placed}
use Rattle.mac_asm.specs.Assembly.{words_from, literal_words, statement_words}
use Rattle.mac_asm.specs.Outcome.{line_words, has_start}
use Rattle.mac_asm.specs.Filled.{Cells, put_all, start_named, PutsLine}

-- words put after words
pub put_more : (cells : Cells) (first more : List (ℕ × ℕ)) → put_all cells (first ++ more) ≡ put_all (put_all cells first) more
put_more cells [] more = refl
put_more cells (word ∷ words) more = put_more (set cells word.0 (Some word.1)) words more

abbrev pub then_words : Option (List (ℕ × ℕ)) → Option (List (ℕ × ℕ)) → Option (List (ℕ × ℕ))
then_words first more = first >>= λ a. more >>= λ b. Some (a ++ b)

pub put_then : (cells new : Cells) (first more : Option (List (ℕ × ℕ))) → option_map (put_all cells) first ≡ Some new
    → option_map (put_all cells) (then_words first more) ≡ option_map (put_all new) more
put_then cells new None more is = cc
put_then cells new (Some a) None is = refl
put_then cells new (Some a) (Some b) is =
    let same : put_all cells a ≡ new = cc in
    ap Some (put_more cells a b ∙ ap (λ c. put_all c b) same)

pub put_nothing : (cells : Cells) (words : Option (List (ℕ × ℕ))) → option_map (put_all cells) words ≡ None → words ≡ None
put_nothing cells None is = refl
put_nothing cells (Some words) is = cc

literals_more : (names : Names) (address : ℕ) (given : Data) (later : List (ℕ × Data))
    → literal_words names ((address, given) ∷ later) ≡ then_words (words_from names address given) (literal_words names later)
unfolding literal_words
literals_more names address given later = refl

no_literals : (names : Names) → literal_words names [] ≡ Some []
unfolding literal_words
no_literals names = refl

the_same : (p q : ℕ) → Some p ≡ Some q → p ≡ q
the_same p q is = cc

pub address_next : (addresses : List ℕ) (i address : ℕ) → slice_get addresses i ≡ Some address → drop i addresses ≡ address ∷ drop (i + 1) addresses
address_next [] i address is = cc
address_next (p ∷ ps) zero address is = ap (λ q. q ∷ ps) (the_same p address is)
address_next (p ∷ ps) (suc i) address is =
    let next : suc (i + 1) ≡ suc i + 1 = omega arith in
    address_next ps i address is ∙ ap (λ k. address ∷ drop k (p ∷ ps)) next

pub address_none : (addresses : List ℕ) (i : ℕ) → slice_get addresses i ≡ None → drop i addresses ≡ []
address_none [] zero is = refl
address_none [] (suc i) is = refl
address_none (p ∷ ps) zero is = cc
address_none (p ∷ ps) (suc i) is = address_none ps i is

zip_none : (givens : List Data) → zip {K = ℕ} [] givens ≡ []
zip_none givens = refl

zip_nothing : (addresses : List ℕ) → zip {X = Data} addresses [] ≡ []
zip_nothing [] = refl
zip_nothing (p ∷ ps) = refl

-- the literal at i, and those behind it
literal_next : (names : Names) (addresses : List ℕ) (givens : List Data) (i address : ℕ) (given : Data) → i < length givens
    → slice_get addresses i ≡ Some address
    → get_or givens i given ≡ given
    → literal_words names (zip (drop i addresses) (drop i givens))
    ≡ then_words (words_from names address given) (literal_words names (zip (drop (i + 1) addresses) (drop (i + 1) givens)))
literal_next names addresses givens i address given lt at is =
    ap (λ ps. literal_words names (zip ps (drop i givens))) (address_next addresses i address at)
    ∙ ap (λ gs. literal_words names (zip (address ∷ drop (i + 1) addresses) gs)) (drop_more givens i given lt ∙ ap (λ g. g ∷ drop (i + 1) givens) is)
    ∙ literals_more names address given (zip (drop (i + 1) addresses) (drop (i + 1) givens))

pub literal_put : (names : Names) (addresses : List ℕ) (givens : List Data) (i address : ℕ) (given : Data) (cells new : Cells) (total : Option Cells)
    → i < length givens → slice_get addresses i ≡ Some address → get_or givens i given ≡ given
    → option_map (put_all cells) (words_from names address given) ≡ Some new
    → option_map (put_all cells) (literal_words names (zip (drop i addresses) (drop i givens))) ≡ total
    → option_map (put_all new) (literal_words names (zip (drop (i + 1) addresses) (drop (i + 1) givens))) ≡ total
literal_put names addresses givens i address given cells new total lt at is puts so_far =
    sym (put_then cells new (words_from names address given) (literal_words names (zip (drop (i + 1) addresses) (drop (i + 1) givens))) puts)
    ∙ sym (ap (option_map (put_all cells)) (literal_next names addresses givens i address given lt at is)) ∙ so_far

pub literal_fails : (names : Names) (addresses : List ℕ) (givens : List Data) (i address : ℕ) (given : Data) (cells first : Cells)
    → i < length givens → slice_get addresses i ≡ Some address → get_or givens i given ≡ given
    → words_from names address given ≡ None
    → option_map (put_all cells) (literal_words names (zip (drop i addresses) (drop i givens)))
    ≡ option_map (put_all first) (literal_words names (zip addresses givens))
    → literal_words names (zip addresses givens) ≡ None
literal_fails names addresses givens i address given cells first lt at is fails so_far =
    put_nothing first (literal_words names (zip addresses givens))
    (sym so_far
    ∙ ap (option_map (put_all cells))
    (literal_next names addresses givens i address given lt at is
    ∙ ap (λ w. then_words w (literal_words names (zip (drop (i + 1) addresses) (drop (i + 1) givens)))) fails))

-- no address is left, or no literal
pub literals_done : (names : Names) (addresses : List ℕ) (givens : List Data) (i : ℕ) (cells : Cells) (total : Option Cells)
    → slice_get addresses i ≡ None
    → option_map (put_all cells) (literal_words names (zip (drop i addresses) (drop i givens))) ≡ total → total ≡ Some cells
literals_done names addresses givens i cells total none so_far =
    sym so_far ∙ ap (λ ps. option_map (put_all cells) (literal_words names (zip ps (drop i givens)))) (address_none addresses i none)
    ∙ ap (λ zs. option_map (put_all cells) (literal_words names zs)) (zip_none (drop i givens)) ∙ ap (option_map (put_all cells)) (no_literals names)

pub literals_end : (names : Names) (addresses : List ℕ) (givens : List Data) (i : ℕ) (cells : Cells) (total : Option Cells)
    → length givens ≤ i
    → option_map (put_all cells) (literal_words names (zip (drop i addresses) (drop i givens))) ≡ total → total ≡ Some cells
literals_end names addresses givens i cells total done so_far =
    sym so_far ∙ ap (λ gs. option_map (put_all cells) (literal_words names (zip (drop i addresses) gs))) (drop_of_length-le givens done)
    ∙ ap (λ zs. option_map (put_all cells) (literal_words names zs)) (zip_nothing (drop i addresses)) ∙ ap (option_map (put_all cells)) (no_literals names)

pub item_at : (xs : List ℕ) (i x : ℕ) → true ≡ ltb i (length xs) → x ≡ get_or xs i x → slice_get xs i ≡ Some x
item_at xs i x within is =
    let lt : i < length xs = ltb-true i (length xs) (sym within) in
    slice_get_read xs (length xs) i x refl lt is

pub item_past : (xs : List ℕ) (i : ℕ) → false ≡ ltb i (length xs) → slice_get xs i ≡ None
item_past xs i past =
    let le : length xs ≤ i = ltb-false i (length xs) (sym past) in
    slice_get_past xs i le

-- the words of a line
line_is : (names : Names) (line : Line)
    → line_words (record { names = names; line = line })
    ≡ then_words (literal_words names (zip names.literals line.literals)) (statement_words names line.statement)
unfolding line_words
line_is names line = refl

pub line_put : (names : Names) (line : Line) (old middle new : Cells)
    → option_map (put_all old) (literal_words names (zip names.literals line.literals)) ≡ Some middle
    → option_map (put_all middle) (statement_words names line.statement) ≡ Some new
    → option_map (put_all old) (line_words (record { names = names; line = line })) ≡ Some new
line_put names line old middle new first then =
    ap (option_map (put_all old)) (line_is names line) ∙ put_then old middle _ (statement_words names line.statement) first ∙ then

pub no_literal_words : (names : Names) (line : Line) → literal_words names (zip names.literals line.literals) ≡ None
    → is_some (line_words (record { names = names; line = line })) ≡ false
no_literal_words names line none = ap is_some (line_is names line ∙ ap (λ w. then_words w (statement_words names line.statement)) none)

then_none : (first : Option (List (ℕ × ℕ))) → then_words first None ≡ None
then_none None = refl
then_none (Some words) = refl

pub no_statement_words : (names : Names) (line : Line) → statement_words names line.statement ≡ None
    → is_some (line_words (record { names = names; line = line })) ≡ false
no_statement_words names line none =
    let first = literal_words names (zip names.literals line.literals) in
    ap is_some (line_is names line ∙ ap (then_words first) none ∙ then_none first)

pub and_fails : (a b : Bool) → a ≡ false → (a && b) ≡ false
and_fails true b is = cc
and_fails false b is = refl

and_fails_right : (a b : Bool) → b ≡ false → (a && b) ≡ false
and_fails_right true b is = is
and_fails_right false b is = refl

if_none : (b : Bool) (n : ℕ) → None ≡ cond b (Some n) None → b ≡ false
if_none true n is = cc
if_none false n is = refl

-- a line whose words are put, with what is found for its start
pub line_starts : (start : Option ℕ) (old new : Cells) (at : Placed) → option_map (put_all old) (line_words at) ≡ Some new
    → start ≡ start_named at.names at.line.statement
    → PutsLine start old new at
line_starts (Some start) old new at words is = (words, sym is)
line_starts None old new at words is =
    and_fails_right (is_some (line_words at)) (has_start at.names at.line.statement)
    (if_none (has_start at.names at.line.statement) _ is)
