-- A text that stands as ASCIZ is read character by character.
use Rattle.std.proofs.Common.{◌≡◌, ◌≢◌, ℕ, suc, zero, ◌+◌, ◌-◌, ◌*◌, ◌/◌, ◌%◌, ◌^◌, ◌<◌, ◌≤◌, List, [], ◌∷◌, length, map, drop}
use Rattle.std.proofs.Common.{get_or, true, false, cond, arith, refl, sym, ap, ◌∙◌, Option, Some}
use Rattle.std.specs.Prelude.{nat_le, if◌then◌else◌, ◌==◌, Result, Ok, Err, All, not}
use Rattle.std.specs.Option.{option_map}
use Rattle.ka_state.specs.Memory.{word_at}
use Rattle.std.proofs.lemmas.Bool.Decides.{nat_tests}
use Rattle.word36.specs.Words.{joined, right_half}
use Rattle.call_block.proofs.PointerLemmas.{byte_of_seven, incremented_seven}
use Rattle.lock_queue.specs.declared.name.Name.{Name}
use Rattle.lock_queue.specs.declared.name.Name.TheVariants.{Text, Code}
use Rattle.lock_queue.specs.declared.refusal.Refusal.{Refusal}
use Rattle.lock_queue.specs.declared.refusal.Refusal.TheVariants.{BadPointer}
use Rattle.std.proofs.lemmas.List.{drop_all, get_or_past}
use Rattle.std.proofs.Math.Seq.{drop-cons}
use Rattle.call_block.specs.Bits.{bits}
use Rattle.call_block.specs.Steps.{◌>>=◌}
use Rattle.ka_word.specs.Bytes.{byte_of, incremented, position_of, size_of}
use Rattle.call_block.specs.Names.{character_at, characters, is_name_pointer, is_zero, name_text, name_at, text_at}
use Rattle.call_block.specs.Laws.{asciz_word, IsAscizAt}
use Rattle.call_block.proofs.NameLemmas.{characters-suc, not_zero, text_of-legal}

-- the pointer to a byte of 7 bits of this position at a place
abbrev pub pointer_word : ℕ → ℕ → ℕ
pointer_word position place = position * 2 ^ 30 + 7 * 2 ^ 24 + place

-- the pointer to character i of word j behind a place
abbrev pub pointer_at : ℕ → ℕ → ℕ → ℕ
pointer_at place j i = pointer_word (29 - 7 * i) ((place + j) % 2 ^ 18)

in_same_word : (position place : ℕ) → 7 ≤ position → place < 2 ^ 18 → incremented (pointer_word position place) ≡ pointer_word (position - 7) place
in_same_word position place room fits =
    let p = pointer_word position place in
    let size : size_of p ≡ 7 = omega arith in
    let test : nat_le 7 (p / 2 ^ 30) ≡ true = grind (arith, nat_tests) in
    let less : p - 7 * 2 ^ 30 ≡ pointer_word (position - 7) place = omega arith in
    incremented_seven p size
    ∙ ap (λ b. if b then p - 7 * 2 ^ 30 else 29 * 2 ^ 30 + p / 2 ^ 18 % 2 ^ 12 * 2 ^ 18 + (p + 1) % 2 ^ 18) test
    ∙ less

in_next_word : (position place : ℕ) → position < 7 → place < 2 ^ 18 → incremented (pointer_word position place) ≡ pointer_word 29 ((place + 1) % 2 ^ 18)
in_next_word position place none fits =
    let p = pointer_word position place in
    let size : size_of p ≡ 7 = omega arith in
    let test : nat_le 7 (p / 2 ^ 30) ≡ false = grind (arith, nat_tests) in
    let first : 29 * 2 ^ 30 + p / 2 ^ 18 % 2 ^ 12 * 2 ^ 18 + (p + 1) % 2 ^ 18 ≡ pointer_word 29 ((place + 1) % 2 ^ 18) = omega arith in
    incremented_seven p size
    ∙ ap (λ b. if b then p - 7 * 2 ^ 30 else 29 * 2 ^ 30 + p / 2 ^ 18 % 2 ^ 12 * 2 ^ 18 + (p + 1) % 2 ^ 18) test
    ∙ first

next_word : (place j : ℕ) → incremented (pointer_at place j 4) ≡ pointer_at place (j + 1) 0
next_word place j =
    let same : ((place + j) % 2 ^ 18 + 1) % 2 ^ 18 ≡ (place + (j + 1)) % 2 ^ 18 = omega arith in
    in_next_word 1 ((place + j) % 2 ^ 18) (omega arith) (omega arith) ∙ ap (pointer_word 29) same

character_of_word : (ac core : List ℕ) (position place w : ℕ) → place < 2 ^ 18 → word_at ac core place ≡ Some w →
    character_at ac core (pointer_word position place) ≡ Some (w / 2 ^ position % 2 ^ 7)
character_of_word ac core position place w fits at =
    let p = pointer_word position place in
    let size : size_of p ≡ 7 = omega arith in
    let here : right_half p ≡ place = omega arith in
    let bits_right : p / 2 ^ 30 ≡ position = omega arith in
    ap (λ (n : ℕ). option_map (byte_of p) (word_at ac core n)) here
    ∙ ap (option_map (byte_of p)) at
    ∙ ap Some (byte_of_seven p w size ∙ ap (λ (n : ℕ). w / 2 ^ n % 2 ^ 7) bits_right)

-- the characters of a word of five
five_0 : (a b c d e : ℕ) → a < 128 → b < 128 → c < 128 → d < 128 → e < 128 → (a * 2 ^ 29 + b * 2 ^ 22 + c * 2 ^ 15 + d * 2 ^ 8 + e * 2) / 2 ^ 29 % 2 ^ 7 ≡ a
five_0 a b c d e ha hb hc hd he = omega arith

five_1 : (a b c d e : ℕ) → a < 128 → b < 128 → c < 128 → d < 128 → e < 128 → (a * 2 ^ 29 + b * 2 ^ 22 + c * 2 ^ 15 + d * 2 ^ 8 + e * 2) / 2 ^ 22 % 2 ^ 7 ≡ b
five_1 a b c d e ha hb hc hd he = omega arith

five_2 : (a b c d e : ℕ) → a < 128 → b < 128 → c < 128 → d < 128 → e < 128 → (a * 2 ^ 29 + b * 2 ^ 22 + c * 2 ^ 15 + d * 2 ^ 8 + e * 2) / 2 ^ 15 % 2 ^ 7 ≡ c
five_2 a b c d e ha hb hc hd he = omega arith

five_3 : (a b c d e : ℕ) → a < 128 → b < 128 → c < 128 → d < 128 → e < 128 → (a * 2 ^ 29 + b * 2 ^ 22 + c * 2 ^ 15 + d * 2 ^ 8 + e * 2) / 2 ^ 8 % 2 ^ 7 ≡ d
five_3 a b c d e ha hb hc hd he = omega arith

five_4 : (a b c d e : ℕ) → a < 128 → b < 128 → c < 128 → d < 128 → e < 128 → (a * 2 ^ 29 + b * 2 ^ 22 + c * 2 ^ 15 + d * 2 ^ 8 + e * 2) / 2 ^ 1 % 2 ^ 7 ≡ e
five_4 a b c d e ha hb hc hd he = omega arith

-- the pointer to the character behind character i of word j
after : (place j i : ℕ) → i < 5 → (word : ℕ) × (character : ℕ) × (character < 5) ×
    (5 * word + character ≡ 5 * j + i + 1) × (incremented (pointer_at place j i) ≡ pointer_at place word character)
after place j zero h = (j, 1, omega arith, omega arith, in_same_word 29 _ (omega arith) (omega arith))
after place j (suc zero) h = (j, 2, omega arith, omega arith, in_same_word 22 _ (omega arith) (omega arith))
after place j (suc (suc zero)) h = (j, 3, omega arith, omega arith, in_same_word 15 _ (omega arith) (omega arith))
after place j (suc (suc (suc zero))) h = (j, 4, omega arith, omega arith, in_same_word 8 _ (omega arith) (omega arith))
after place j (suc (suc (suc (suc zero)))) h = (j + 1, 0, omega arith, omega arith, next_word place j)
after place j (suc (suc (suc (suc (suc i))))) h = absurd (omega arith)

small : (text : List ℕ) → All (λ c. (1 ≤ c) × (c < 2 ^ 7)) text → (k : ℕ) → get_or text k 0 < 128
small [] all k = grind arith
small (c ∷ text) all zero = (all 0 0 (omega arith)).1
small (c ∷ text) all (suc k) = small text (λ n d h. all (suc n) d (omega arith)) k

positive : (text : List ℕ) → All (λ c. (1 ≤ c) × (c < 2 ^ 7)) text → (k : ℕ) → k < length text → get_or text k 0 ≢ 0
positive text all k inside = λ e. omega (arith, (all k 0 inside).0)

character : (ac core text : List ℕ) (place j i k : ℕ) → ((n : ℕ) → get_or text n 0 < 128) → i < 5 → k ≡ 5 * j + i
    → word_at ac core ((place + j) % 2 ^ 18) ≡ Some (asciz_word text j)
    → character_at ac core (pointer_at place j i) ≡ Some (get_or text k 0)
character ac core text place j zero k below h e at =
    character_of_word ac core 29 _ _ (omega arith) at
    ∙ ap Some (five_0 _ _ _ _ _ (below (5 * j)) (below (5 * j + 1)) (below (5 * j + 2)) (below (5 * j + 3)) (below (5 * j + 4)))
    ∙ ap (λ (n : ℕ). Some (get_or text n 0)) (omega arith)
character ac core text place j (suc zero) k below h e at =
    character_of_word ac core 22 _ _ (omega arith) at
    ∙ ap Some (five_1 _ _ _ _ _ (below (5 * j)) (below (5 * j + 1)) (below (5 * j + 2)) (below (5 * j + 3)) (below (5 * j + 4)))
    ∙ ap (λ (n : ℕ). Some (get_or text n 0)) (omega arith)
character ac core text place j (suc (suc zero)) k below h e at =
    character_of_word ac core 15 _ _ (omega arith) at
    ∙ ap Some (five_2 _ _ _ _ _ (below (5 * j)) (below (5 * j + 1)) (below (5 * j + 2)) (below (5 * j + 3)) (below (5 * j + 4)))
    ∙ ap (λ (n : ℕ). Some (get_or text n 0)) (omega arith)
character ac core text place j (suc (suc (suc zero))) k below h e at =
    character_of_word ac core 8 _ _ (omega arith) at
    ∙ ap Some (five_3 _ _ _ _ _ (below (5 * j)) (below (5 * j + 1)) (below (5 * j + 2)) (below (5 * j + 3)) (below (5 * j + 4)))
    ∙ ap (λ (n : ℕ). Some (get_or text n 0)) (omega arith)
character ac core text place j (suc (suc (suc (suc zero)))) k below h e at =
    character_of_word ac core 1 _ _ (omega arith) at
    ∙ ap Some (five_4 _ _ _ _ _ (below (5 * j)) (below (5 * j + 1)) (below (5 * j + 2)) (below (5 * j + 3)) (below (5 * j + 4)))
    ∙ ap (λ (n : ℕ). Some (get_or text n 0)) (omega arith)
character ac core text place j (suc (suc (suc (suc (suc i))))) k below h e at = absurd (omega arith)

-- what is read from a pointer whose increment points to character k, that is i of word j
read_on : (ac core text : List ℕ) (place : ℕ) → ((n : ℕ) → get_or text n 0 < 128) →
    ((n : ℕ) → n < length text → get_or text n 0 ≢ 0) → IsAscizAt ac core place text
    → (left n k j i : ℕ) (q : ℕ) → i < 5 → k ≡ 5 * j + i → incremented q ≡ pointer_at place j i → k + left ≡ length text → left < n
    → characters ac core q n ≡ map Some (drop k text)
read_on ac core text place below some stands left zero k j i q h e next here room = absurd (omega arith)
read_on ac core text place below some stands zero (suc n) k j i q h e next here room =
    let past : length text ≤ k = omega arith in
    let at = ap (character_at ac core) next ∙ character ac core text place j i k below h e (stands j (omega arith)) in
    let zero_here = at ∙ ap Some (get_or_past text k 0 past) in
    characters-suc ac core q n
    ∙ ap (λ (x : Option ℕ). cond (not (is_zero x)) (x ∷ characters ac core (incremented q) n) []) zero_here
    ∙ sym (ap (map Some) (drop_all k text past))
read_on ac core text place below some stands (suc left) (suc n) k j i q h e next here room =
    let inside : k < length text = omega arith in
    let at = ap (character_at ac core) next ∙ character ac core text place j i k below h e (stands j (omega arith)) in
    let behind = after place j i h in
    let rest = read_on ac core text place below some stands left n (suc k) behind.0 behind.1 (incremented q) behind.2
    (omega (arith, behind.3)) (ap incremented next ∙ behind.4) (omega arith) (omega arith) in
    characters-suc ac core q n
    ∙ ap (λ (x : Option ℕ). cond (not (is_zero x)) (x ∷ characters ac core (incremented q) n) []) at
    ∙ ap (λ b. cond b (Some (get_or text k 0) ∷ characters ac core (incremented q) n) []) (not_zero (get_or text k 0) (some k inside))
    ∙ ap (λ (t : List (Option ℕ)). Some (get_or text k 0) ∷ t) rest
    ∙ sym (ap (map Some) (drop-cons text k 0 inside))

allowed : (text : List ℕ) → 1 ≤ length text → length text ≤ 30 → name_text text ≡ Ok text
allowed text least most = grind (arith, nat_tests)

text_is_read : (ac core : List ℕ) (place : ℕ) (text : List ℕ) → place < 2 ^ 18 → 1 ≤ length text → length text ≤ 30
    → All (λ c. (1 ≤ c) × (c < 2 ^ 7)) text → IsAscizAt ac core place text
    → text_at ac core (pointer_word 36 place) ≡ Ok text
text_is_read ac core place text fits least most all stands =
    let same : place ≡ (place + 0) % 2 ^ 18 = omega arith in
    let next : incremented (pointer_word 36 place) ≡ pointer_at place 0 0 = in_same_word 36 place (omega arith) fits ∙ ap (pointer_word 29) same in
    let read = read_on ac core text place (small text all) (positive text all) stands
    (length text) 31 0 0 0 _ (omega arith) refl next (omega arith) (omega arith) in
    text_of-legal text _ read ∙ allowed text least most

pointer : (place : ℕ) → place < 2 ^ 18 → is_name_pointer (joined 0o440700 place) ≡ true
pointer place fits =
    let size : size_of (joined 0o440700 place) ≡ 7 = omega arith in
    let position : position_of (joined 0o440700 place) ≡ 36 = omega arith in
    let direct : bits 13 17 (joined 0o440700 place) ≡ 0 = omega arith in
    grind (arith, nat_tests)

no_code : (place : ℕ) → place < 2 ^ 18 → (bits 0 2 (joined 0o440700 place) == 5) ≡ false
no_code place fits = let tag : bits 0 2 (joined 0o440700 place) ≡ 4 = omega arith in rw tag

pub name_is_read : (ac core : List ℕ) (place : ℕ) (text : List ℕ) → place < 2 ^ 18 → 1 ≤ length text → length text ≤ 30
    → All (λ c. (1 ≤ c) × (c < 2 ^ 7)) text → IsAscizAt ac core place text
    → name_at ac core (joined 0o440700 place) ≡ Ok (Text text)
name_is_read ac core place text fits least most all stands =
    let w = joined 0o440700 place in
    let read = λ (r : Result (List ℕ) Refusal). r >>= (λ t. Ok (Text t)) in
    let refused : Result Name Refusal = Err BadPointer in
    ap (λ b. if b then Ok (Code (bits 3 35 w)) else (if is_name_pointer w then read (text_at ac core w) else refused)) (no_code place fits)
    ∙ ap (λ b. if b then read (text_at ac core w) else refused) (pointer place fits)
    ∙ ap read (text_is_read ac core place text fits least most all stands)
