-- The file of an image is read as that image.
use Rattle.std.proofs.Common.{◌≡◌, ◌∙◌, sym, ap, subst, ℕ, zero, suc, ◌+◌, ◌-◌, ◌/◌, ◌%◌, ◌^◌, ◌<◌, ◌≤◌, ◌==◌, Bool, true, false, ◌&&◌, nat_le, nat_lt, List, [], ◌∷◌, ◌++◌}
use Rattle.std.proofs.Common.{length, Result, Ok, Err, refl, arith, if◌then◌else◌, append_assoc, take, drop, get_or, length-drop}
use Rattle.std.proofs.lemmas.List.{take_all}
use Rattle.std.proofs.Math.Seq.{drop-cons}
use Rattle.std.proofs.lemmas.Bool.{ne_eqb, eqb-true, le-leb, le-ltb, ltb-true}
use Rattle.std.specs.Prelude.{◌≢◌}
use Rattle.std.specs.Prelude.{flat_map}
use Rattle.std.proofs.lemmas.Bool.{and_parts}
use Rattle.word36.specs.Words.{left_half, right_half}
use Rattle.image_files.specs.Saves.{Loaded, SaveFault, is_iowd, iowd_count, iowd_address, iowd, is_jrst, jrst, with_word, ended_by, image_from, image_of_save}
use Rattle.image_files.specs.declared.saves.SaveErrorKind.{SaveErrorKind}
use Rattle.image_files.specs.declared.saves.SaveErrorKind.TheVariants.{Behind}
use Rattle.image_files.specs.declared.save_reader.Head.{Head}
use Rattle.image_files.specs.declared.save_reader.Head.TheVariants.{Block as block, Start as start_at}
use Rattle.image_files.specs.Saves.{head_at, fault_at, missing}
use Rattle.image_files.specs.Images.{Rises, IsImage}
use Rattle.image_files.specs.Saves.{Block, block_before, blocks_of, block_words, save_of}

-- ---- IOWD and JRST

iowd_left : (n p : ℕ) → 0 < n → n ≤ 2 ^ 17 → left_half (iowd n p) ≡ 2 ^ 18 - n
iowd_left n p h k = omega arith

iowd_right : (n p : ℕ) → right_half (iowd n p) ≡ (p + (2 ^ 18 - 1)) % 2 ^ 18
iowd_right n p = omega arith

iowd_is : (n p : ℕ) → 0 < n → n ≤ 2 ^ 17 → is_iowd (iowd n p) ≡ true
iowd_is n p h k = le-leb (2 ^ 17) (left_half (iowd n p)) (omega (arith, iowd_left n p h k))

iowd_counts : (n p : ℕ) → 0 < n → n ≤ 2 ^ 17 → iowd_count (iowd n p) ≡ n
iowd_counts n p h k = omega (arith, iowd_left n p h k)

iowd_addresses : (n p : ℕ) → p < 2 ^ 18 → iowd_address (iowd n p) ≡ p
iowd_addresses n p h = omega (arith, iowd_right n p)

jrst_no_iowd : (start : ℕ) → start < 2 ^ 18 → is_iowd (jrst start) ≡ false
jrst_no_iowd start h =
    let left : left_half (jrst start) ≡ 0o254000 = omega arith in
    ap (nat_le (2 ^ 17)) left

jrst_is : (start : ℕ) → start < 2 ^ 18 → is_jrst (jrst start) ≡ true
jrst_is start h =
    let op : jrst start / 2 ^ 27 ≡ 0o254 = omega arith in
    let fields : jrst start / 2 ^ 18 % 2 ^ 5 ≡ 0 = omega arith in
    rw (op, fields) refl

jrst_right : (start : ℕ) → start < 2 ^ 18 → right_half (jrst start) ≡ start
jrst_right start h = omega arith

-- ---- blocks

abbrev pub with_words : List (ℕ × ℕ) → Result Loaded SaveFault → Result Loaded SaveFault
with_words [] r = r
with_words (x ∷ xs) r = with_word x (with_words xs r)

-- words with their addresses, from a address on
abbrev placed : ℕ → List ℕ → List (ℕ × ℕ)
placed address [] = []
placed address (w ∷ ws) = (address, w) ∷ placed (address + 1) ws

loads : (vs : List ℕ) (number address : ℕ) (rest : List ℕ)
    → image_from number (length vs) address (vs ++ rest) ≡ with_words (placed address vs) (image_from (number + length vs) 0 (address + length vs) rest)
unfolding image_from
loads [] number address rest =
    let a : number ≡ number + 0 = omega arith in
    let b : address ≡ address + 0 = omega arith in
    ap (λ n. image_from n 0 address rest) a ∙ ap (λ p. image_from (number + 0) 0 p rest) b
loads (v ∷ vs) number address rest =
    let a : number + 1 + length vs ≡ number + length (v ∷ vs) = omega arith in
    let b : address + 1 + length vs ≡ address + length (v ∷ vs) = omega arith in
    ap (λ r. with_word (address, v) r)
    (loads vs (number + 1) (address + 1) rest
    ∙ ap (with_words (placed (address + 1) vs)) (ap (λ n. image_from n 0 (address + 1 + length vs) rest) a ∙ ap (λ p. image_from (number + length (v ∷ vs)) 0 p rest) b))

-- blocks at addresses from one on
abbrev AreBlocks : ℕ → List Block → Type 0
AreBlocks address [] = Unit {0}
AreBlocks address (b ∷ bs) =
    (address ≤ b.address) × (0 < length b.words) × (length b.words ≤ 2 ^ 17) × (b.address + length b.words ≤ 2 ^ 18)
    × AreBlocks (b.address + length b.words) bs

-- a block or the end, as its first word says
abbrev pub headed : ℕ → Result Head SaveErrorKind → List ℕ → Result Loaded SaveFault
headed number (Err kind) ws = fault_at number kind
headed number (Ok (block count first)) ws = image_from (number + 1) count first ws
headed number (Ok (start_at start)) ws = ended_by start (number + 1) ws

pub head_first : (number address w : ℕ) (ws : List ℕ) (h : Result Head SaveErrorKind) → head_at address w ≡ h → image_from number 0 address (w ∷ ws) ≡ headed number h ws
unfolding image_from
head_first number address w ws h e = ap (λ r. cases r) e ∙ same h
  where
    cases : Result Head SaveErrorKind → Result Loaded SaveFault
    cases r = elim r [
      | Err kind ↦ fault_at number kind
      | Ok head ↦ elim head [ block count first ↦ image_from (number + 1) count first ws | start_at start ↦ ended_by start (number + 1) ws ]
    ]

    same : (r : Result Head SaveErrorKind) → cases r ≡ headed number r ws
    same (Err kind) = refl
    same (Ok (block count first)) = refl
    same (Ok (start_at start)) = refl

iowd_head : (address n p : ℕ) → address ≤ p → 0 < n → n ≤ 2 ^ 17 → p + n ≤ 2 ^ 18 → head_at address (iowd n p) ≡ Ok (block n p)
iowd_head address n p a b c d =
    let small : p < 2 ^ 18 = omega arith in
    let counts = iowd_counts n p b c in
    let addresses = iowd_addresses n p small in
    rw (iowd_is n p b c, addresses, counts, le-ltb p address a, le-ltb (2 ^ 18) (p + n) d) refl

jrst_head : (address start : ℕ) → start < 2 ^ 18 → head_at address (jrst start) ≡ Ok (start_at start)
jrst_head address start h = rw (jrst_no_iowd start h, jrst_is start h, jrst_right start h) refl

head_read : (number address n p : ℕ) (rest : List ℕ) → address ≤ p → 0 < n → n ≤ 2 ^ 17 → p + n ≤ 2 ^ 18
    → image_from number 0 address (iowd n p ∷ rest) ≡ image_from (number + 1) n p rest
head_read number address n p rest a b c d = head_first number address (iowd n p) rest (Ok (block n p)) (iowd_head address n p a b c d)

block_read : (b : Block) (number address : ℕ) (rest : List ℕ) → address ≤ b.address → 0 < length b.words → length b.words ≤ 2 ^ 17
    → b.address + length b.words ≤ 2 ^ 18
    → image_from number 0 address (block_words b ++ rest)
    ≡ with_words (placed b.address b.words) (image_from (number + 1 + length b.words) 0 (b.address + length b.words) rest)
block_read b number address rest h k l m =
    head_read number address (length b.words) b.address (b.words ++ rest) h k l m ∙ loads b.words (number + 1) b.address rest

abbrev flat : List Block → List (ℕ × ℕ)
flat bs = flat_map (λ b. placed b.address b.words) bs

with_more : (xs ys : List (ℕ × ℕ)) (r : Result Loaded SaveFault) → with_words xs (with_words ys r) ≡ with_words (xs ++ ys) r
with_more [] ys r = refl
with_more (x ∷ xs) ys r = ap (with_word x) (with_more xs ys r)

with_image : (xs : List (ℕ × ℕ)) (start : ℕ) → with_words xs (Ok (record { words = []; start = start })) ≡ Ok (record { words = xs; start = start })
with_image [] start = refl
with_image (x ∷ xs) start = ap (with_word x) (with_image xs start)

end_read : (number address start : ℕ) → start < 2 ^ 18 → image_from number 0 address (jrst start ∷ []) ≡ Ok (record { words = []; start = start })
unfolding ended_by
end_read number address start h = head_first number address (jrst start) [] (Ok (start_at start)) (jrst_head address start h)

blocks_read : (bs : List Block) (number address start : ℕ) → AreBlocks address bs → start < 2 ^ 18
    → image_from number 0 address (flat_map block_words bs ++ jrst start ∷ []) ≡ Ok (record { words = flat bs; start = start })
blocks_read [] number address start are h = end_read number address start h
blocks_read (b ∷ bs) number address start are h =
    let rest = flat_map block_words bs ++ jrst start ∷ [] in
    let next = b.address + length b.words in
    ap (image_from number 0 address) (append_assoc (block_words b) (flat_map block_words bs) (jrst start ∷ []))
    ∙ (block_read b number address rest are.0 are.1 are.2 are.3
    ∙ (ap (with_words (placed b.address b.words)) (blocks_read bs (number + 1 + length b.words) next start are.4 h)
    ∙ (ap (with_words (placed b.address b.words)) (sym (with_image (flat bs) start))
    ∙ (with_more (placed b.address b.words) (flat bs) (Ok (record { words = []; start = start }))
    ∙ with_image (placed b.address b.words ++ flat bs) start))))

-- ---- the blocks of words

-- a word before blocks, whichever way it goes
choice_flat : (t : Bool) (x : ℕ × ℕ) (b : Block) (bs : List Block) → (t ≡ true → b.address ≡ x.0 + 1)
    → flat (if t then record { address = x.0; words = x.1 ∷ b.words } ∷ bs else record { address = x.0; words = x.1 ∷ [] } ∷ b ∷ bs) ≡ x ∷ flat (b ∷ bs)
choice_flat true x b bs h = ap (λ p. x ∷ (placed p b.words ++ flat bs)) (sym (h refl))
choice_flat false x b bs h = refl

before_flat : (x : ℕ × ℕ) (bs : List Block) → flat (block_before x bs) ≡ x ∷ flat bs
before_flat x [] = refl
before_flat x (b ∷ bs) =
    let test = b.address == x.0 + 1 && nat_lt (length b.words) (2 ^ 17) in
    choice_flat test x b bs (λ h. eqb-true b.address (x.0 + 1) (and_parts (b.address == x.0 + 1) (nat_lt (length b.words) (2 ^ 17)) h).0)

flat_blocks : (xs : List (ℕ × ℕ)) → flat (blocks_of xs) ≡ xs
unfolding blocks_of
flat_blocks [] = refl
flat_blocks (x ∷ xs) = before_flat x (blocks_of xs) ∙ ap (λ l. x ∷ l) (flat_blocks xs)

choice_are : (t : Bool) (least : ℕ) (x : ℕ × ℕ) (b : Block) (bs : List Block)
    → (t ≡ true → (b.address ≡ x.0 + 1) × (length b.words < 2 ^ 17))
    → least ≤ x.0 → x.0 < 2 ^ 18 → AreBlocks (x.0 + 1) (b ∷ bs)
    → AreBlocks least (if t then record { address = x.0; words = x.1 ∷ b.words } ∷ bs else record { address = x.0; words = x.1 ∷ [] } ∷ b ∷ bs)
choice_are true least x b bs h low high are =
    let at = h refl in
    let is : b.address ≡ x.0 + 1 = at.0 in
    let few : length b.words < 2 ^ 17 = at.1 in
    let within : b.address + length b.words ≤ 2 ^ 18 = are.3 in
    let behind : b.address + length b.words ≡ x.0 + length (x.1 ∷ b.words) = omega arith in
    (low, omega arith, omega arith, omega arith, subst (λ (p : ℕ). AreBlocks p bs) behind are.4)
choice_are false least x b bs h low high are =
    (low, omega arith, omega arith, omega arith, are)

before_are : (least : ℕ) (x : ℕ × ℕ) (bs : List Block) → least ≤ x.0 → x.0 < 2 ^ 18 → AreBlocks (x.0 + 1) bs → AreBlocks least (block_before x bs)
before_are least x [] low high are = (low, omega arith, omega arith, omega arith, tt)
before_are least x (b ∷ bs) low high are =
    let test = b.address == x.0 + 1 && nat_lt (length b.words) (2 ^ 17) in
    choice_are test least x b bs (λ h.
    let p = and_parts (b.address == x.0 + 1) (nat_lt (length b.words) (2 ^ 17)) h in
    (eqb-true b.address (x.0 + 1) p.0, ltb-true (length b.words) (2 ^ 17) p.1)) low high are

blocks_are : (least : ℕ) (xs : List (ℕ × ℕ)) → Rises least xs → AreBlocks least (blocks_of xs)
unfolding blocks_of
blocks_are least [] r = tt
blocks_are least (x ∷ xs) r = before_are least x (blocks_of xs) r.0 r.1 (blocks_are (x.0 + 1) xs r.2)

pub save_read : (image : Loaded) → IsImage image.words image.start → image_of_save (save_of image) ≡ Ok image
unfolding image_of_save save_of
save_read image is =
    blocks_read (blocks_of image.words) 1 0 image.start (blocks_are 0 image.words is.rises) is.start_fits
    ∙ ap (λ xs. Ok (record { words = xs; start = image.start })) (flat_blocks image.words)

-- ---- a word after another

next_word : (ws : List ℕ) (i w : ℕ) → i < length ws → w ≡ get_or ws i w → drop i ws ≡ w ∷ drop (i + 1) ws
next_word ws i w h e =
    let more : suc i ≡ i + 1 = omega arith in
    drop-cons ws i w h ∙ (ap (λ v. v ∷ drop (suc i) ws) (sym e) ∙ ap (λ k. w ∷ drop k ws) more)

none_left : (ws : List ℕ) (i : ℕ) → length ws ≤ i → drop i ws ≡ []
none_left [] zero h = refl
none_left [] (suc i) h = refl
none_left (w ∷ ws) zero h = absurd (omega arith)
none_left (w ∷ ws) (suc i) h = none_left ws i (omega arith)

zero_first : (start m : ℕ) (ws : List ℕ) → ended_by start m (0 ∷ ws) ≡ ended_by start (m + 1) ws
unfolding ended_by
zero_first start m ws = refl

pub zero_step : (start number m k : ℕ) (ws : List ℕ) (i w : ℕ) → m ≡ number + i → k ≡ number + (i + 1) → i < length ws → w ≡ get_or ws i w → w ≡ 0
    → ended_by start m (drop i ws) ≡ ended_by start k (drop (i + 1) ws)
zero_step start number m k ws i w a b h e z =
    let later : m + 1 ≡ k = omega arith in
    ap (ended_by start m) (next_word ws i w h e ∙ ap (λ v. v ∷ drop (i + 1) ws) z)
    ∙ (zero_first start m (drop (i + 1) ws) ∙ ap (λ n. ended_by start n (drop (i + 1) ws)) later)

other_first : (start m w : ℕ) (ws : List ℕ) → (w == 0) ≡ false → ended_by start m (w ∷ ws) ≡ fault_at m Behind
unfolding ended_by
other_first start m w ws h = ap (λ b. if b then ended_by start (m + 1) ws else fault_at m Behind) h

pub other_step : (start m : ℕ) (ws : List ℕ) (i w : ℕ) → i < length ws → w ≡ get_or ws i w → w ≢ 0 → ended_by start m (drop i ws) ≡ fault_at m Behind
other_step start m ws i w h e z = ap (ended_by start m) (next_word ws i w h e) ∙ other_first start m w (drop (i + 1) ws) (ne_eqb w 0 z)

pub zeros_end : (start m : ℕ) (ws : List ℕ) (i : ℕ) → length ws ≤ i → ended_by start m (drop i ws) ≡ Ok (record { words = []; start = start })
unfolding ended_by
zeros_end start m ws i h = ap (ended_by start m) (none_left ws i h)

-- ---- the state of a reader: words so far, words left in the block, and the next address

with_push : (xs : List (ℕ × ℕ)) (x : ℕ × ℕ) (r : Result Loaded SaveFault) → with_words (xs ++ x ∷ []) r ≡ with_words xs (with_word x r)
with_push [] x r = refl
with_push (y ∷ xs) x r = ap (with_word y) (with_push xs x r)

with_fault : (xs : List (ℕ × ℕ)) (n : ℕ) (kind : SaveErrorKind) → with_words xs (fault_at n kind) ≡ fault_at n kind
with_fault [] n kind = refl
with_fault (x ∷ xs) n kind = ap (with_word x) (with_fault xs n kind)

word_first : (n less address w : ℕ) (ws : List ℕ) → image_from n (suc less) address (w ∷ ws) ≡ with_word (address, w) (image_from (n + 1) less (address + 1) ws)
unfolding image_from
word_first n less address w ws = refl

pub load_step : (xs ys : List (ℕ × ℕ)) (ws : List ℕ) (i n left address w : ℕ) (all : Result Loaded SaveFault) → i < length ws → w ≡ get_or ws i w → 0 < left
    → ys ≡ xs ++ (address, w) ∷ []
    → with_words xs (image_from n left address (drop i ws)) ≡ all
    → with_words ys (image_from (n + 1) (left - 1) (address + 1) (drop (i + 1) ws)) ≡ all
load_step xs ys ws i n left address w all h e some is inv =
    let later = image_from (n + 1) (left - 1) (address + 1) (drop (i + 1) ws) in
    let more : left ≡ suc (left - 1) = omega arith in
    ap (λ l. with_words l later) is
    ∙ (with_push xs (address, w) later
    ∙ (ap (with_words xs) (sym (word_first n (left - 1) address w (drop (i + 1) ws)))
    ∙ (ap (λ l. with_words xs (image_from n l address (w ∷ drop (i + 1) ws))) (sym more)
    ∙ (ap (λ l. with_words xs (image_from n left address l)) (sym (next_word ws i w h e)) ∙ inv))))

pub head_step : (xs : List (ℕ × ℕ)) (ws : List ℕ) (i n left address w : ℕ) (head : Result Head SaveErrorKind) (all : Result Loaded SaveFault)
    → i < length ws → w ≡ get_or ws i w → left ≡ 0 → head_at address w ≡ head
    → with_words xs (image_from n left address (drop i ws)) ≡ all
    → with_words xs (headed n head (drop (i + 1) ws)) ≡ all
head_step xs ws i n left address w head all h e none is inv =
    ap (with_words xs) (sym (head_first n address w (drop (i + 1) ws) head is))
    ∙ (ap (λ l. with_words xs (image_from n l address (w ∷ drop (i + 1) ws))) (sym none)
    ∙ (ap (λ l. with_words xs (image_from n left address l)) (sym (next_word ws i w h e)) ∙ inv))

pub told_fault : (xs : List (ℕ × ℕ)) (n : ℕ) (kind : SaveErrorKind) (all : Result Loaded SaveFault) → with_words xs (fault_at n kind) ≡ all → all ≡ fault_at n kind
told_fault xs n kind all h = sym h ∙ with_fault xs n kind

-- behind the JRST
behind_taken : (ws : List ℕ) (i k : ℕ) → k ≡ length ws - i → take k (drop i ws) ≡ drop i ws
behind_taken ws i k e = take_all k (drop i ws) (omega (arith, length-drop i ws))

pub told_image : (xs : List (ℕ × ℕ)) (ws : List ℕ) (i k n start : ℕ) (all : Result Loaded SaveFault) → k ≡ length ws - i
    → ended_by start n (take k (drop i ws)) ≡ Ok (record { words = []; start = start })
    → with_words xs (ended_by start n (drop i ws)) ≡ all
    → all ≡ Ok (record { words = xs; start = start })
told_image xs ws i k n start all e is h =
    sym h ∙ (ap (λ l. with_words xs (ended_by start n l)) (sym (behind_taken ws i k e)) ∙ (ap (with_words xs) is ∙ with_image xs start))

pub told_behind : (xs : List (ℕ × ℕ)) (ws : List ℕ) (i k n m start : ℕ) (all : Result Loaded SaveFault) → k ≡ length ws - i
    → ended_by start n (take k (drop i ws)) ≡ fault_at m Behind
    → with_words xs (ended_by start n (drop i ws)) ≡ all
    → all ≡ fault_at m Behind
told_behind xs ws i k n m start all e is h =
    sym h ∙ (ap (λ l. with_words xs (ended_by start n l)) (sym (behind_taken ws i k e)) ∙ (ap (with_words xs) is ∙ with_fault xs m Behind))

end_missing : (n left address : ℕ) → image_from n left address [] ≡ fault_at n (missing left)
unfolding image_from
end_missing n zero address = refl
end_missing n (suc left) address = refl

pub told_missing : (xs : List (ℕ × ℕ)) (ws : List ℕ) (i n left address : ℕ) (all : Result Loaded SaveFault) → length ws ≤ i
    → with_words xs (image_from n left address (drop i ws)) ≡ all → all ≡ fault_at n (missing left)
told_missing xs ws i n left address all h inv =
    sym inv ∙ (ap (λ l. with_words xs (image_from n left address l)) (none_left ws i h)
    ∙ (ap (with_words xs) (end_missing n left address) ∙ with_fault xs n (missing left)))

pub behind_length : (ws : List ℕ) (i : ℕ) → length (take (length ws - i) (drop i ws)) ≡ length ws - i
behind_length ws i = ap length (behind_taken ws i (length ws - i) refl) ∙ length-drop i ws
