-- The loop that makes the pieces of words, from the last word to the first.
use Rattle.std.proofs.Common.{◌≡◌, ◌∙◌, sym, ap, subst, ℕ, zero, suc, ◌+◌, ◌<◌, ◌==◌, Bool, true, false, ◌&&◌, List, [], ◌∷◌, ◌++◌}
use Rattle.std.proofs.Common.{length, drop, get_or, refl, arith}
use Rattle.std.specs.Prelude.{reverse, Result, Ok, Err, IfOk}
use Rattle.std.proofs.lemmas.List.{drop_more, drop_all, reverse-append}
use Rattle.std.proofs.lemmas.Bool.{and_parts}
use Rattle.mac_source.specs.Notes.{ascii_text}
use Rattle.mac_source.specs.declared.pieces.Piece.TheVariants as pieces
use Rattle.std.proofs.lemmas.Bool.Decides.{nat_tests}
use Rattle.mac_source.specs.declared.pieces.Piece.{Piece}
use Rattle.image_files.specs.Images.{Rises}
use Rattle.mac_source.proofs.PieceLemmas.{are_placed}
use Rattle.mac_source.specs.Pieces.{count, is_next, alone, joins_zeros, joins_text, text_of, rest_before, text_if, zeros_if, join_if, with_word, pieces_of, IsPlaced, ArePlaced}

no_words : (b : Bool) (xs : List (ℕ × ℕ)) → b ≡ (length xs == 0) → b ≡ true → xs ≡ []
no_words b [] e h = refl
no_words b (x ∷ xs) e h = absurd (grind (arith, nat_tests))

pub none_made : (blocks texts : Bool) (marked : ℕ → Bool) (b : Bool) (xs : List (ℕ × ℕ)) (out : List Piece) → b ≡ (length xs == 0) → b ≡ true → out ≡ []
    → reverse out ≡ pieces_of blocks texts marked xs
unfolding pieces_of
none_made blocks texts marked b xs out e h none = ap reverse none ∙ sym (ap (pieces_of blocks texts marked) (no_words b xs e h))

one_made : (blocks texts : Bool) (marked : ℕ → Bool) (x : ℕ × ℕ) → alone texts x ∷ [] ≡ pieces_of blocks texts marked (x ∷ [])
unfolding pieces_of
one_made blocks texts marked x = refl

pub last_made : (blocks texts : Bool) (marked : ℕ → Bool) (xs : List (ℕ × ℕ)) (k : ℕ) (x : ℕ × ℕ) (out : List Piece) → k + 1 ≡ length xs → x ≡ get_or xs k x → out ≡ []
    → alone texts x ∷ reverse out ≡ pieces_of blocks texts marked (drop k xs)
last_made blocks texts marked xs k x out e is none =
    let last : drop k xs ≡ x ∷ [] =
    drop_more xs k x (omega arith) ∙ (ap (λ y. y ∷ drop (k + 1) xs) (sym is) ∙ ap (λ l. x ∷ l) (drop_all (k + 1) xs (omega arith))) in
    ap (λ l. alone texts x ∷ reverse l) none ∙ (one_made blocks texts marked x ∙ sym (ap (pieces_of blocks texts marked) last))

more_made : (blocks texts : Bool) (marked : ℕ → Bool) (x : ℕ × ℕ) (xs : List (ℕ × ℕ)) → with_word blocks texts marked x (pieces_of blocks texts marked xs) ≡ pieces_of blocks texts marked (x ∷ xs)
unfolding pieces_of
more_made blocks texts marked x xs = refl

pub step_made : (blocks texts : Bool) (marked : ℕ → Bool) (xs : List (ℕ × ℕ)) (i k : ℕ) (x : ℕ × ℕ) (made next : List Piece) → k + 1 ≡ i → i < length xs
    → x ≡ get_or xs k x → next ≡ with_word blocks texts marked x made → made ≡ pieces_of blocks texts marked (drop i xs)
    → next ≡ pieces_of blocks texts marked (drop k xs)
step_made blocks texts marked xs i k x made next e h is goes so =
    let first : drop k xs ≡ x ∷ drop i xs =
    drop_more xs k x (omega arith) ∙ (ap (λ y. y ∷ drop (k + 1) xs) (sym is) ∙ ap (λ j. x ∷ drop j xs) e) in
    goes ∙ (ap (with_word blocks texts marked x) so ∙ (more_made blocks texts marked x (drop i xs) ∙ sym (ap (pieces_of blocks texts marked) first)))

placed_at : (ps : List Piece) (i : ℕ) (d : Piece) → ArePlaced ps → i < length ps → IsPlaced (get_or ps i d)
placed_at [] i d r h = absurd (omega arith)
placed_at (p ∷ ps) zero d r h = r.0
placed_at (p ∷ ps) (suc i) d r h = placed_at ps i d r.1 (omega arith)

pub piece_placed : (ps : List Piece) (i : ℕ) (p : Piece) → ArePlaced ps → i < length ps → p ≡ get_or ps i p → IsPlaced p
piece_placed ps i p r h e = subst IsPlaced (sym e) (placed_at ps i p r h)

pub placed_drop : (blocks texts : Bool) (marked : ℕ → Bool) (xs : List (ℕ × ℕ)) (least i : ℕ) → Rises least xs
    → ArePlaced (pieces_of blocks texts marked (drop i xs))
placed_drop blocks texts marked xs least zero r = are_placed blocks texts marked least xs r
placed_drop blocks texts marked [] least (suc i) r = are_placed blocks texts marked least [] r
placed_drop blocks texts marked (x ∷ xs) least (suc i) r = placed_drop blocks texts marked xs (x.0 + 1) i r.2

pub hand_placed : (blocks texts : Bool) (marked : ℕ → Bool) (xs : List (ℕ × ℕ)) (i : ℕ) (hand : Piece) (rest : List Piece) → Rises 0 xs
    → hand ∷ rest ≡ pieces_of blocks texts marked (drop i xs) → IsPlaced hand
hand_placed blocks texts marked xs i hand rest r e =
    let placed = subst ArePlaced (sym e) (placed_drop blocks texts marked xs 0 i r) in
    placed.0

-- ---- a step

pub step_zeros : (blocks texts : Bool) (marked : ℕ → Bool) (x : ℕ × ℕ) (p next : Piece) (ps : List Piece) (b : Bool)
    → b ≡ (is_next marked x p && joins_zeros blocks x p) → b ≡ true → next ≡ pieces.Zeros x.0 (count p + 1)
    → next ∷ ps ≡ with_word blocks texts marked x (p ∷ ps)
step_zeros blocks texts marked x p next ps b e h is =
    let both = and_parts (is_next marked x p) (joins_zeros blocks x p) (sym e ∙ h) in
    ap (λ n. n ∷ ps) is
    ∙ sym (ap (λ t. join_if t blocks texts x p ps) both.0 ∙ ap (λ t. zeros_if t texts x p ps) both.1)

not_both : (n z : Bool) → n ≡ true → (n && z) ≡ false → z ≡ false
not_both true z e h = h
not_both false z e h = absurd (cc)

pub step_text : (blocks texts : Bool) (marked : ℕ → Bool) (x : ℕ × ℕ) (p next : Piece) (ps rest : List Piece) (a b : Bool)
    → a ≡ (is_next marked x p && joins_zeros blocks x p) → a ≡ false → b ≡ (is_next marked x p && joins_text texts x p) → b ≡ true
    → next ≡ pieces.Text x.0 (ascii_text x.1 ++ text_of p) → rest ≡ rest_before p ps
    → next ∷ rest ≡ with_word blocks texts marked x (p ∷ ps)
step_text blocks texts marked x p next ps rest a b d g e h is left =
    let both = and_parts (is_next marked x p) (joins_text texts x p) (sym e ∙ h) in
    let none = not_both (is_next marked x p) (joins_zeros blocks x p) both.0 (sym d ∙ g) in
    ap (λ n. n ∷ rest) is ∙ ap (λ l. pieces.Text x.0 (ascii_text x.1 ++ text_of p) ∷ l) left
    ∙ sym (ap (λ t. join_if t blocks texts x p ps) both.0
    ∙ (ap (λ t. zeros_if t texts x p ps) none ∙ ap (λ t. text_if t texts x p ps) both.1))

alone_case : (blocks texts : Bool) (marked : ℕ → Bool) (x : ℕ × ℕ) (p : Piece) (ps : List Piece) (n : Bool) → is_next marked x p ≡ n
    → (is_next marked x p && joins_zeros blocks x p) ≡ false → (is_next marked x p && joins_text texts x p) ≡ false
    → with_word blocks texts marked x (p ∷ ps) ≡ alone texts x ∷ p ∷ ps
alone_case blocks texts marked x p ps true e h k =
    let zeros = not_both (is_next marked x p) (joins_zeros blocks x p) e h in
    let text = not_both (is_next marked x p) (joins_text texts x p) e k in
    ap (λ t. join_if t blocks texts x p ps) e
    ∙ (ap (λ t. zeros_if t texts x p ps) zeros ∙ ap (λ t. text_if t texts x p ps) text)
alone_case blocks texts marked x p ps false e h k = ap (λ t. join_if t blocks texts x p ps) e

pub step_alone : (blocks texts : Bool) (marked : ℕ → Bool) (x : ℕ × ℕ) (p next : Piece) (old new : List Piece) (a b : Bool)
    → a ≡ (is_next marked x p && joins_zeros blocks x p) → a ≡ false → b ≡ (is_next marked x p && joins_text texts x p) → b ≡ false
    → new ≡ old ++ p ∷ [] → next ≡ alone texts x
    → next ∷ reverse new ≡ with_word blocks texts marked x (p ∷ reverse old)
step_alone blocks texts marked x p next old new a b d g e h more is =
    ap (λ n. n ∷ reverse new) is
    ∙ (ap (λ l. alone texts x ∷ l) (ap reverse more ∙ reverse-append old (p ∷ []))
    ∙ sym (alone_case blocks texts marked x p (reverse old) (is_next marked x p) refl (sym d ∙ g) (sym e ∙ h)))

pub if_ok : {A E : Type 0} (r : Result A E) (P Q : A → Type 0) → ((x : A) → P x → Q x) → IfOk r P → IfOk r Q
if_ok (Ok x) P Q f h = f x h
if_ok (Err e) P Q f h = h
