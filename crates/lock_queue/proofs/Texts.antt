-- A text that is written over zero bytes is filled up by those that are left.
use Rattle.std.proofs.Common.{◌≡◌, ◌∙◌, sym, ap, subst, ℕ, suc, ◌+◌, ◌-◌, ◌<◌, ◌≤◌, List, [], ◌∷◌, ◌++◌, length, take, drop, slice_set, arith}
use Rattle.std.specs.Prelude.{replicate, IsUtf8}
use Rattle.std.proofs.Math.Logic.{∥∥₁_map}
use Rattle.std.proofs.lemmas.Grind.{merely}
use Rattle.std.proofs.lemmas.Str.{IsUtf8-append, IsUtf8-from_ascii}
use Rattle.std.proofs.lemmas.Str.Ascii.{IsAscii-cons}
use Rattle.std.proofs.Math.Seq.{drop-append-add}
use Rattle.std.proofs.lemmas.List.{append_assoc, drop-drop, drop-replicate, length_push, length-take-le, set-append_right, take-append-drop, take-append-le, take_all, take_more_set}
use Rattle.lock_queue.specs.Names.{filled_up}

-- a text over the zero bytes
abbrev written : List ℕ → List ℕ → List ℕ
written text front = front ++ drop (length text) (replicate 32 0)

front-written : (text : List ℕ) → take (length text) (written text text) ≡ text
front-written text =
    take-append-le (length text) text (drop (length text) (replicate 32 0)) (omega arith) ∙ take_all (length text) text (omega arith)

pub filled-written : (text front : List ℕ) → front ≡ text → written text front ≡ filled_up (take (length text) (written text front))
filled-written text front is =
    ap (written text) is ∙ ap (λ l. text ++ l) (drop-replicate (length text) 32 0)
    ∙ ap filled_up (sym (ap (λ l. take (length text) (written text l)) is ∙ front-written text))

pub written-utf8 : (text front : List ℕ) → front ≡ text → IsUtf8 text → ∥ IsUtf8 (take (length text) (written text front)) ∥₁
written-utf8 text front is h = merely (subst IsUtf8 (sym (ap (λ l. take (length text) (written text l)) is ∙ front-written text)) h)

-- a text over others by two copies that lap: its first n bytes, and then its last n
pub lapped : (text bytes first last : List ℕ) (n a k : ℕ) → a + n ≡ length text → a ≤ n → k ≡ n → first ≡ take n text → last ≡ drop a text
    → take a (first ++ drop n bytes) ++ (last ++ drop k (drop a (first ++ drop n bytes))) ≡ text ++ drop (length text) bytes
lapped text bytes first last n a k all lap same is-first is-last =
    let rest = drop n bytes in
    let count : length first ≡ n = ap length is-first ∙ length-take-le n text (omega (arith, all)) in
    let front : take a (first ++ rest) ≡ take a text =
    take-append-le a first rest (omega (arith, count, lap)) ∙ ap (take a) is-first
    ∙ sym (take-append-le a (take n text) (drop n text) (omega (arith, length-take-le n text (omega (arith, all)), lap)))
    ∙ ap (take a) (take-append-drop n text) in
    let there : a + k ≡ length first + a = omega (arith, count, same) in
    let behind : drop k (drop a (first ++ rest)) ≡ drop (length text) bytes =
    drop-drop k a (first ++ rest) ∙ ap (λ m. drop m (first ++ rest)) there ∙ drop-append-add first rest a
    ∙ drop-drop a n bytes ∙ ap (λ m. drop m bytes) (omega (arith, all)) in
    ap (λ l. l ++ (last ++ drop k (drop a (first ++ rest)))) front
    ∙ ap (λ l. take a text ++ (l ++ drop k (drop a (first ++ rest)))) is-last
    ∙ ap (λ l. take a text ++ (drop a text ++ l)) behind
    ∙ sym (append_assoc (take a text) (drop a text) (drop (length text) bytes))
    ∙ ap (λ l. l ++ drop (length text) bytes) (take-append-drop a text)

-- one character more, where the zero bytes begin: the bytes are the text with it, and zero bytes again
pushed-is : (bytes : List ℕ) (n c : ℕ) → n < length bytes → length bytes ≡ 32 → bytes ≡ filled_up (take n bytes)
    → slice_set bytes n c ≡ filled_up (take n bytes ++ c ∷ [])
pushed-is bytes n c less all is =
    let text = take n bytes in
    let count : length text ≡ n = length-take-le n bytes (omega (arith, less)) in
    let more : length (text ++ c ∷ []) ≡ n + 1 = length_push text c ∙ ap (λ k. k + 1) count in
    let here : n - n ≡ 0 = omega arith in
    let left : 32 - length text ≡ suc (31 - n) = omega (arith, count, less, all) in
    let zeros : replicate (32 - length text) 0 ≡ 0 ∷ replicate (31 - n) 0 = ap (λ k. replicate k 0) left in
    let rest : 31 - n ≡ 32 - length (text ++ c ∷ []) = omega (arith, more) in
    ap (λ l. slice_set l n c) is
    ∙ set-append_right text (replicate (32 - length text) 0) n n c count (omega arith)
    ∙ ap (λ k. text ++ slice_set (replicate (32 - length text) 0) k c) here
    ∙ ap (λ l. text ++ slice_set l 0 c) zeros
    ∙ sym (append_assoc text (c ∷ []) (replicate (31 - n) 0))
    ∙ ap (λ k. (text ++ c ∷ []) ++ replicate k 0) rest

pub filled-pushed : (bytes : List ℕ) (n c : ℕ) → n < length bytes → length bytes ≡ 32 → bytes ≡ filled_up (take n bytes)
    → slice_set bytes n c ≡ filled_up (take (n + 1) (slice_set bytes n c))
filled-pushed bytes n c less all is = pushed-is bytes n c less all is ∙ ap filled_up (sym (take_more_set bytes n c less))

pub pushed-utf8 : (bytes : List ℕ) (n c : ℕ) → n < length bytes → c < 128 → ∥ IsUtf8 (take n bytes) ∥₁ → ∥ IsUtf8 (take (n + 1) (slice_set bytes n c)) ∥₁
pushed-utf8 bytes n c less ascii h =
    ∥∥₁_map h (λ u.
    subst IsUtf8 (sym (take_more_set bytes n c less)) (IsUtf8-append (take n bytes)
    (c ∷ []) u (IsUtf8-from_ascii (c ∷ []) (IsAscii-cons c [] ascii (λ i. grind arith)))))
