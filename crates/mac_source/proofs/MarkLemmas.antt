-- The addresses that have labels, as a list of tests.
use Rattle.std.proofs.Common.{◌≡◌, ◌∙◌, sym, ap, subst, ℕ, zero, suc, ◌+◌, ◌^◌, ◌<◌, ◌≤◌, ◌≢◌, ◌==◌, Bool, true, false, ◌&&◌, ◌||◌, nat_lt, List, [], ◌∷◌}
use Rattle.std.proofs.Common.{length, take, get_or, get_or-set_same, get_or-set_other, refl, arith}
use Rattle.std.specs.Prelude.{replicate}
use Rattle.std.specs.List.{list_any}
use Rattle.std.proofs.lemmas.Option.{unwrap_or-slice_get}
use Rattle.std.proofs.lemmas.List.{take_all}
use Rattle.std.proofs.lemmas.List.Folds.{list_any_more}
use Rattle.std.proofs.lemmas.Bool.Decides.{nat_tests}
use Rattle.std.proofs.Math.ListN.{set}
use Rattle.std.proofs.lemmas.Bool.{eqb-true}
use Rattle.word36.specs.Words.{right_half}
use Rattle.mac_asm.specs.Assembly.{Assembled}
use Rattle.image_files.specs.Images.{Rises}
use Rattle.mac_source.specs.Marks.{marked_by}
use Rattle.mac_source.specs.Sources.{has_word, can_have_label, is_reaching, is_referred, refers_to}

-- ---- addresses

pub rises_at : (xs : List (ℕ × ℕ)) (least i : ℕ) (d : ℕ × ℕ) → Rises least xs → i < length xs → (get_or xs i d).0 < 2 ^ 18
rises_at [] least i d r h = absurd (omega arith)
rises_at (x ∷ xs) least zero d r h = r.1
rises_at (x ∷ xs) least (suc i) d r h = rises_at xs (x.0 + 1) i d r.2 (omega arith)

pub item_below : (xs : List (ℕ × ℕ)) (least i : ℕ) (x : ℕ × ℕ) → Rises least xs → i < length xs → x ≡ get_or xs i x → x.0 < 2 ^ 18
item_below xs least i x r h e =
    let below = rises_at xs least i x r h in
    subst (λ (y : ℕ × ℕ). y.0 < 2 ^ 18) (sym e) below

-- ---- a mark more

marked_is : (ms : List Bool) (p : ℕ) → marked_by ms p ≡ get_or ms p false
marked_is ms p = unwrap_or-slice_get ms p false

pub marked_same : (ms : List Bool) (q : ℕ) (b : Bool) → q < length ms → marked_by (set ms q b) q ≡ b
marked_same ms q b h = marked_is (set ms q b) q ∙ rw get_or-set_same refl

pub marked_other : (ms : List Bool) (q p : ℕ) (b : Bool) → p ≢ q → marked_by (set ms q b) p ≡ marked_by ms p
marked_other ms q p b h = marked_is (set ms q b) p ∙ (rw get_or-set_other refl ∙ sym (marked_is ms p))

-- ---- an address more is marked

or_true : (o : Bool) → (o || true) ≡ true
or_true true = refl
or_true false = refl

or_false : (o : Bool) → (o || false) ≡ o
or_false true = refl
or_false false = refl

and_true : (h : Bool) → (h && true) ≡ h
and_true true = refl
and_true false = refl

and_false : (h : Bool) → (h && false) ≡ false
and_false true = refl
and_false false = refl

or_assoc : (a b c : Bool) → ((a || b) || c) ≡ (a || (b || c))
or_assoc true b c = refl
or_assoc false b c = refl

unequal_from : (p q : ℕ) → (q == p) ≡ false → p ≢ q
unequal_from p q h e = grind (arith, nat_tests)

more_at : (ms : List Bool) (h there o : Bool) (p q : ℕ) (b : Bool) → (q == p) ≡ b → q < length ms → marked_by ms p ≡ (there && o) → (q ≡ p → h ≡ there)
    → marked_by (set ms q h) p ≡ (there && (o || b))
more_at ms h there o p q true e lt inv same =
    let at : q ≡ p = eqb-true q p e in
    ap (marked_by (set ms q h)) (sym at)
    ∙ (marked_same ms q h lt ∙ (same at ∙ (sym (and_true there) ∙ ap (λ z. there && z) (sym (or_true o)))))
more_at ms h there o p q false e lt inv same =
    marked_other ms q p h (unequal_from p q e) ∙ (inv ∙ ap (λ z. there && z) (sym (or_false o)))

pub none_marked : (n p : ℕ) → marked_by (replicate n false) p ≡ false
none_marked zero p = marked_is [] p
none_marked (suc n) zero = refl
none_marked (suc n) (suc p) = none_marked n p

-- no address of no word can have a label
pub none_able : (p : ℕ) → false ≡ can_have_label [] p
none_able p = sym (and_false (nat_lt 0o17 p))

pub word_marked : (ms : List Bool) (words : List (ℕ × ℕ)) (i p : ℕ) (x : ℕ × ℕ) (b : Bool) → b ≡ nat_lt 0o17 x.0
    → x ≡ get_or words i x → i < length words → x.0 < length ms
    → marked_by ms p ≡ can_have_label (take i words) p
    → marked_by (set ms x.0 b) p ≡ can_have_label (take (i + 1) words) p
word_marked ms words i p x b high e h lt inv =
    let able = nat_lt 0o17 p in
    more_at ms b able (has_word (take i words) p) p x.0 (x.0 == p) refl lt inv (λ at. high ∙ ap (nat_lt 0o17) at)
    ∙ (ap (λ (y : ℕ × ℕ). able && (has_word (take i words) p || (y.0 == p))) e
    ∙ ap (λ z. able && z) (sym (list_any_more (λ (y : ℕ × ℕ). y.0 == p) words i x h)))

-- what is referred to by the start, and by the first words
abbrev pub referred_by : Assembled → ℕ → ℕ → Bool
referred_by image i address =
    can_have_label image.words address && (image.start == address || list_any (refers_to address) (take i image.words))

pub start_marked : (image : Assembled) (ms able : List Bool) (n p : ℕ) (h : Bool) → ms ≡ replicate n false → image.start < length ms
    → h ≡ marked_by able image.start
    → marked_by able p ≡ can_have_label image.words p
    → marked_by (set ms image.start h) p ≡ referred_by image 0 p
start_marked image ms able n p h all lt value there =
    let hp = can_have_label image.words p in
    let none : marked_by ms p ≡ (hp && false) = ap (λ l. marked_by l p) all ∙ (none_marked n p ∙ sym (and_false hp)) in
    more_at ms h hp false p image.start (image.start == p) refl lt none (λ at. value ∙ (ap (marked_by able) at ∙ there))
    ∙ ap (λ z. hp && z) (sym (or_false (image.start == p)))

-- one word more, where it refers or does not
word_referred : (image : Assembled) (i p : ℕ) (x : ℕ × ℕ) (b : Bool) → x ≡ get_or image.words i x → i < length image.words → refers_to p x ≡ b
    → (can_have_label image.words p && ((image.start == p || list_any (refers_to p) (take i image.words)) || b)) ≡ referred_by image (i + 1) p
word_referred image i p x b e k is =
    let hp = can_have_label image.words p in
    let before = list_any (refers_to p) (take i image.words) in
    ap (λ z. hp && ((image.start == p || before) || z)) (sym is)
    ∙ (ap (λ (y : ℕ × ℕ). hp && ((image.start == p || before) || refers_to p y)) e
    ∙ (ap (λ z. hp && z) (or_assoc (image.start == p) before (refers_to p (get_or image.words i x)))
    ∙ ap (λ z. hp && (image.start == p || z)) (sym (list_any_more (refers_to p) image.words i x k))))

pub reference_marked : (image : Assembled) (ms able : List Bool) (i p q : ℕ) (x : ℕ × ℕ) (h : Bool) → x ≡ get_or image.words i x
    → i < length image.words → is_reaching x.1 ≡ true
    → q ≡ right_half x.1 → q < length ms → h ≡ marked_by able q
    → marked_by able p ≡ can_have_label image.words p
    → marked_by ms p ≡ referred_by image i p
    → marked_by (set ms q h) p ≡ referred_by image (i + 1) p
reference_marked image ms able i p q x h e k reaches is lt value there inv =
    let o = image.start == p || list_any (refers_to p) (take i image.words) in
    more_at ms h (can_have_label image.words p) o p q (q == p) refl lt inv (λ at. value ∙ (ap (marked_by able) at ∙ there))
    ∙ word_referred image i p x (q == p) e k (ap (λ r. r && (right_half x.1 == p)) reaches ∙ ap (λ n. n == p) (sym is))

pub nothing_marked : (image : Assembled) (ms : List Bool) (i p : ℕ) (x : ℕ × ℕ) → x ≡ get_or image.words i x
    → i < length image.words → is_reaching x.1 ≡ false
    → marked_by ms p ≡ referred_by image i p
    → marked_by ms p ≡ referred_by image (i + 1) p
nothing_marked image ms i p x e k stays inv =
    let o = image.start == p || list_any (refers_to p) (take i image.words) in
    inv ∙ (ap (λ z. can_have_label image.words p && z) (sym (or_false o))
    ∙ word_referred image i p x false e k (ap (λ r. r && (right_half x.1 == p)) stays))

pub all_taken : (image : Assembled) (i p : ℕ) → length image.words ≤ i → referred_by image i p ≡ is_referred image p
all_taken image i p h =
    ap (λ l. can_have_label image.words p && (image.start == p || list_any (refers_to p) l)) (take_all i image.words h)

other_default : (xs : List Bool) (q : ℕ) (d e : Bool) → q < length xs → get_or xs q d ≡ get_or xs q e
other_default [] q d e h = absurd (omega arith)
other_default (x ∷ xs) zero d e h = refl
other_default (x ∷ xs) (suc q) d e h = other_default xs q d e (omega arith)

-- what was read at an index is the mark there
pub read_mark : (xs : List Bool) (q : ℕ) (h : Bool) → q < length xs → h ≡ get_or xs q h → h ≡ marked_by xs q
read_mark xs q h k e = e ∙ (other_default xs q h false k ∙ sym (marked_is xs q))
