-- The loop that writes the file of an image from its end.
use Rattle.std.proofs.Common.{◌≡◌, ◌∙◌, sym, ap, subst, ℕ, zero, suc, ◌+◌, ◌^◌, ◌<◌, ◌≤◌, ◌==◌, Bool, true, false, ◌&&◌, ◌||◌, not, nat_lt, List, [], ◌∷◌, ◌++◌}
use Rattle.std.proofs.Common.{length, refl, arith, if◌then◌else◌, append_assoc, append-nil, drop, get_or}
use Rattle.std.proofs.lemmas.List.{reverse-append, drop_more, drop_all}
use Rattle.std.proofs.lemmas.Bool.{ne_eqb, eqb-true, le-ltb, lt-ltb}
use Rattle.std.proofs.lemmas.Bool.Decides.{nat_tests}
use Rattle.std.proofs.lemmas.Grind.{common_steps}
use Rattle.std.specs.Prelude.{◌≢◌, flat_map, reverse}
use Rattle.image_files.specs.Images.{Rises}
use Rattle.image_files.specs.Saves.{Block, block_before, blocks_of, block_words, iowd, jrst, save_of}
use Rattle.image_files.specs.Writes.{IsWritten, closing, ending, is_apart}

reverse_push : (out : List ℕ) (w : ℕ) → reverse (out ++ w ∷ []) ≡ w ∷ reverse out
reverse_push out w = reverse-append out (w ∷ [])

closing_some : (count first : ℕ) → 0 < count → closing count first ≡ iowd count first ∷ []
closing_some count first h = ap (λ b. if b then [] else iowd count first ∷ []) (ne_eqb count 0 (λ e. omega arith))

pub closed : (start : ℕ) (bs : List Block) (out : List ℕ) (count first : ℕ) → IsWritten start bs out count first
    → reverse (out ++ closing count first) ≡ ending start bs
closed start [] out count first h =
    ap (λ n. reverse (out ++ closing n first)) h.0 ∙ (ap reverse (append-nil out) ∙ h.2)
closed start (b ∷ bs) out count first h =
    ap (λ l. reverse (out ++ l)) (closing_some count first h.1)
    ∙ (reverse_push out (iowd count first)
    ∙ (ap (λ l. iowd count first ∷ l) h.3
    ∙ (ap (λ n. iowd n first ∷ (b.words ++ ending start bs)) h.0
    ∙ (ap (λ p. iowd (length b.words) p ∷ (b.words ++ ending start bs)) h.2
    ∙ sym (append_assoc (block_words b) (flat_map block_words bs) (jrst start ∷ []))))))

before_if : (t : Bool) (x : ℕ × ℕ) (b : Block) (bs : List Block) → t ≡ true
    → (if t then record { address = x.0; words = x.1 ∷ b.words } ∷ bs else record { address = x.0; words = x.1 ∷ [] } ∷ b ∷ bs)
    ≡ record { address = x.0; words = x.1 ∷ b.words } ∷ bs
before_if true x b bs h = refl
before_if false x b bs h = absurd (cc)

before_else : (t : Bool) (x : ℕ × ℕ) (b : Block) (bs : List Block) → t ≡ false
    → (if t then record { address = x.0; words = x.1 ∷ b.words } ∷ bs else record { address = x.0; words = x.1 ∷ [] } ∷ b ∷ bs)
    ≡ record { address = x.0; words = x.1 ∷ [] } ∷ b ∷ bs
before_else false x b bs h = refl
before_else true x b bs h = absurd (cc)

other_from : (n m : ℕ) → (n == m) ≡ false → n ≢ m
other_from n m h e = grind (arith, nat_tests)

equal_test : (n : ℕ) → (n == n) ≡ true
equal_test n = grind (arith, common_steps)

-- e: it begins right behind; f: it is full; r: there is room
apart_if : (e f r : Bool) → (f || not e) ≡ true → (f ≡ true → r ≡ false) → (e && r) ≡ false
apart_if false f r h k = refl
apart_if true true r h k = k refl
apart_if true false r h k = absurd (cc)

joined_if : (e f : Bool) → (f || not e) ≡ false → (e ≡ true) × (f ≡ false)
joined_if true false h = (refl, refl)
joined_if true true h = absurd (cc)
joined_if false true h = absurd (cc)
joined_if false false h = absurd (cc)

-- a word more of the block in hand
joined_blocks : (start : ℕ) (bs : List Block) (out new : List ℕ) (count first : ℕ) (x : ℕ × ℕ) → IsWritten start bs out count first
    → first ≡ x.0 + 1 → count < 2 ^ 17 → new ≡ out ++ x.1 ∷ []
    → IsWritten start (block_before x bs) new (count + 1) x.0
joined_blocks start [] out new count first x h at few is = absurd (omega (arith, h.1))
joined_blocks start (b ∷ bs) out new count first x h at few is =
    let behind : b.address ≡ x.0 + 1 = sym h.2 ∙ at in
    let room : length b.words < 2 ^ 17 = omega (arith, h.0) in
    let more : count + 1 ≡ length (x.1 ∷ b.words) = omega (arith, h.0) in
    let test : (b.address == x.0 + 1 && nat_lt (length b.words) (2 ^ 17)) ≡ true =
    rw (ap (λ p. p == x.0 + 1) behind ∙ equal_test (x.0 + 1), lt-ltb (length b.words) (2 ^ 17) room) refl in
    subst (λ (l : List Block). IsWritten start l new (count + 1) x.0)
    (sym (before_if (b.address == x.0 + 1 && nat_lt (length b.words) (2 ^ 17)) x b bs test))
    (more, omega arith, refl, ap reverse is ∙ (reverse_push out x.1 ∙ ap (λ l. x.1 ∷ l) h.3))

pub joined_word : (start : ℕ) (bs : List Block) (out new : List ℕ) (count first : ℕ) (x : ℕ × ℕ) (apart : Bool)
    → apart ≡ is_apart count first x.0 → apart ≡ false → count ≤ 2 ^ 17 → new ≡ out ++ x.1 ∷ []
    → IsWritten start bs out count first → IsWritten start (block_before x bs) new (count + 1) x.0
joined_word start bs out new count first x apart e joins few is h =
    let p = joined_if (first == x.0 + 1) (count == 2 ^ 17) (sym e ∙ joins) in
    let at : first ≡ x.0 + 1 = eqb-true first (x.0 + 1) p.0 in
    let full : count ≢ 2 ^ 17 = other_from count (2 ^ 17) p.1 in
    joined_blocks start bs out new count first x h at (omega arith) is

-- a word of another block, behind the IOWD of the one in hand
parted_blocks : (start : ℕ) (bs : List Block) (out mid new : List ℕ) (count first : ℕ) (x : ℕ × ℕ) → IsWritten start bs out count first
    → is_apart count first x.0 ≡ true → mid ≡ out ++ closing count first → new ≡ mid ++ x.1 ∷ []
    → IsWritten start (block_before x bs) new 1 x.0
parted_blocks start [] out mid new count first x h apart is ends =
    (refl, omega arith, refl, ap reverse ends ∙ (reverse_push mid x.1 ∙ ap (λ l. x.1 ∷ l) (ap reverse is ∙ closed start [] out count first h)))
parted_blocks start (b ∷ bs) out mid new count first x h apart is ends =
    let other : is_apart (length b.words) b.address x.0 ≡ true =
    sym (ap (λ n. is_apart n b.address x.0) h.0) ∙ (sym (ap (λ p. is_apart count p x.0) h.2) ∙ apart) in
    let test =
    apart_if (b.address == x.0 + 1) (length b.words == 2 ^ 17) (nat_lt (length b.words) (2 ^ 17)) other
    (λ full. let all = eqb-true (length b.words) (2 ^ 17) full in le-ltb (length b.words) (2 ^ 17) (omega (arith, all))) in
    subst (λ (l : List Block). IsWritten start l new 1 x.0)
    (sym (before_else (b.address == x.0 + 1 && nat_lt (length b.words) (2 ^ 17)) x b bs test))
    (refl, omega arith, refl, ap reverse ends ∙ (reverse_push mid x.1 ∙ ap (λ l. x.1 ∷ l) (ap reverse is ∙ closed start (b ∷ bs) out count first h)))

pub parted_word : (start : ℕ) (bs : List Block) (out mid new : List ℕ) (count first : ℕ) (x : ℕ × ℕ) (apart : Bool)
    → apart ≡ is_apart count first x.0 → apart ≡ true → mid ≡ out ++ closing count first → new ≡ mid ++ x.1 ∷ []
    → IsWritten start bs out count first → IsWritten start (block_before x bs) new 1 x.0
parted_word start bs out mid new count first x apart e parts is ends h =
    parted_blocks start bs out mid new count first x h (sym e ∙ parts) is ends

pub nothing_written : (start : ℕ) (xs : List (ℕ × ℕ)) (i : ℕ) (none out : List ℕ) (w : ℕ) → length xs ≤ i → none ≡ [] → w ≡ jrst start
    → out ≡ none ++ w ∷ []
    → IsWritten start (blocks_of (drop i xs)) out 0 0
unfolding blocks_of
nothing_written start xs i none out w h e same is =
    let whole : out ≡ jrst start ∷ [] = is ∙ (ap (λ l. l ++ w ∷ []) e ∙ ap (λ v. v ∷ []) same) in
    subst (λ (l : List (ℕ × ℕ)). IsWritten start (blocks_of l) out 0 0) (sym (drop_all i xs h)) (refl, refl, ap reverse whole)

pub blocks_more : (xs : List (ℕ × ℕ)) (i k : ℕ) (x : ℕ × ℕ) → k + 1 ≡ i → i ≤ length xs → x ≡ get_or xs k x
    → blocks_of (drop k xs) ≡ block_before x (blocks_of (drop i xs))
unfolding blocks_of
blocks_more xs i k x e h is =
    let first : drop k xs ≡ x ∷ drop i xs =
    drop_more xs k x (omega arith) ∙ (ap (λ y. y ∷ drop (k + 1) xs) (sym is) ∙ ap (λ j. x ∷ drop j xs) e) in
    ap blocks_of first

pub word_written : (start : ℕ) (xs : List (ℕ × ℕ)) (i k : ℕ) (x : ℕ × ℕ) (out : List ℕ) (count first : ℕ) → k + 1 ≡ i → i ≤ length xs
    → x ≡ get_or xs k x
    → IsWritten start (block_before x (blocks_of (drop i xs))) out count first
    → IsWritten start (blocks_of (drop k xs)) out count first
word_written start xs i k x out count first e h is written =
    subst (λ (l : List Block). IsWritten start l out count first) (sym (blocks_more xs i k x e h is)) written

pub all_written : (xs : List (ℕ × ℕ)) (start i : ℕ) (out file : List ℕ) (count first : ℕ) → i ≤ 0
    → IsWritten start (blocks_of (drop i xs)) out count first
    → file ≡ out ++ closing count first → reverse file ≡ save_of (record { words = xs; start = start })
unfolding save_of
all_written xs start i out file count first none h is =
    let at : i ≡ 0 = omega arith in
    let whole = subst (λ (n : ℕ). IsWritten start (blocks_of (drop n xs)) out count first) at h in
    ap reverse is ∙ closed start (blocks_of xs) out count first whole

below_at : (xs : List (ℕ × ℕ)) (least i : ℕ) (d : ℕ × ℕ) → Rises least xs → i < length xs → (get_or xs i d).0 < 2 ^ 18
below_at [] least i d r h = absurd (omega arith)
below_at (x ∷ xs) least zero d r h = r.1
below_at (x ∷ xs) least (suc i) d r h = below_at xs (x.0 + 1) i d r.2 (omega arith)

pub address_below : (xs : List (ℕ × ℕ)) (least i : ℕ) (x : ℕ × ℕ) → Rises least xs → i < length xs → x ≡ get_or xs i x → x.0 < 2 ^ 18
address_below xs least i x r h e =
    let below = below_at xs least i x r h in
    subst (λ (y : ℕ × ℕ). y.0 < 2 ^ 18) (sym e) below
