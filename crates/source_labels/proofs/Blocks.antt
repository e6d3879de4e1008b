-- Labels whose block ends later.
use Rattle.std.proofs.Common.{◌≡◌, ◌<◌, suc, length, get_or, drop, drop-cons, add-one, subst, ℕ, ◌+◌, ◌^◌, max, min, nat_lt, Bool, true, false, List, [], ◌∷◌, ◌++◌, map, refl, sym, ap, ◌∙◌, append_assoc, cond, if◌then◌else◌, arith}
use Rattle.std.proofs.lemmas.List.{map-append}
use Rattle.mac_text.specs.declared.syntax.Line.{Line}
use Rattle.source_labels.specs.declared.labels.Label.{Label}
use Rattle.source_labels.specs.Places.{AreAdded, block_end, ends_block, label_at, labels_at, labels_of, last_end, place_of, with_end}

one_end : (place end name : ℕ) → with_end end (label_at place 0 name) ≡ label_at place end name
one_end place end name =
    let same : max (max (place + 1) 0) end ≡ max (place + 1) end = omega arith in
    ap (λ (n : ℕ). record { name = name; place = place; end = n }) same

all_ends : (place end : ℕ) (names : List ℕ) → map (with_end end) (map (label_at place 0) names) ≡ map (label_at place end) names
all_ends place end [] = refl
all_ends place end (name ∷ names) = cc (one_end place end name, all_ends place end names)

ends_if : (fits : Bool) (place end : ℕ) (names : List ℕ)
    → map (with_end end) (cond fits (map (label_at place 0) names) []) ≡ cond fits (map (label_at place end) names) []
ends_if true place end names = all_ends place end names
ends_if false place end names = refl

pub with_ends : (place end : ℕ) (names : List ℕ) → map (with_end end) (labels_at place 0 names) ≡ labels_at place end names
with_ends place end names = ends_if (nat_lt place (2 ^ 18)) place end names

-- the labels of a line go to the current block
joined : (closed current rest : List Label) (place end : ℕ) (names : List ℕ)
    → closed ++ (map (with_end end) (current ++ labels_at place 0 names) ++ rest)
    ≡ closed ++ (map (with_end end) current ++ (labels_at place end names ++ rest))
joined closed current rest place end names =
    ap (λ (l : List Label). closed ++ (l ++ rest)) (map-append (with_end end) current (labels_at place 0 names))
    ∙ ap (λ (l : List Label). closed ++ ((map (with_end end) current ++ l) ++ rest)) (with_ends place end names)
    ∙ ap (λ (l : List Label). closed ++ l) (append_assoc (map (with_end end) current) (labels_at place end names) rest)

-- a line is added, which may end the block
pub line_added : (ends : Bool) (place end : ℕ) (closed current closed_then current_then rest : List Label) (names : List ℕ)
    → AreAdded ends place closed (current ++ labels_at place 0 names) closed_then current_then
    → closed_then ++ (map (with_end end) current_then ++ rest)
    ≡ closed
    ++ (map (with_end (if ends then place else end)) current ++ (labels_at place (if ends then place else end) names ++ rest))
line_added true place end closed current closed_then current_then rest names added =
    ap (λ (l : List Label). closed_then ++ (map (with_end end) l ++ rest)) added.1
    ∙ ap (λ (l : List Label). l ++ rest) added.0
    ∙ append_assoc closed (map (with_end place) (current ++ labels_at place 0 names)) rest
    ∙ joined closed current rest place place names
line_added false place end closed current closed_then current_then rest names added =
    ap (λ (l : List Label). closed_then ++ (map (with_end end) l ++ rest)) added.1
    ∙ ap (λ (l : List Label). l ++ (map (with_end end) (current ++ labels_at place 0 names) ++ rest)) added.0
    ∙ joined closed current rest place end names

-- ---- lines one by one

pub drop_here : {A : Type 0} (xs : List A) (i : ℕ) (x : A) → i < length xs → x ≡ get_or xs i x → drop i xs ≡ x ∷ drop (i + 1) xs
drop_here xs i x within is =
    drop-cons xs i x within ∙ ap (λ y. y ∷ drop (suc i) xs) (sym is) ∙ ap (λ (n : ℕ). x ∷ drop n xs) (sym (add-one i))

pub labels_on : (lines later : List Line) (addresses after : List ℕ) (line : Line) (address place : ℕ)
    (closed current closed_then current_then : List Label)
    → lines ≡ line ∷ later → addresses ≡ address ∷ after → place ≡ place_of address
    → AreAdded (ends_block line.statement) place closed (current ++ labels_at place 0 line.labels) closed_then current_then
    → closed_then ++ (map (with_end (block_end later after)) current_then ++ labels_of later after)
    ≡ closed ++ (map (with_end (block_end lines addresses)) current ++ labels_of lines addresses)
labels_on lines later addresses after line address place closed current closed_then current_then these those at added =
    let P : ℕ → Type 0 =
    λ p. AreAdded (ends_block line.statement) p closed (current ++ labels_at p 0 line.labels) closed_then current_then in
    line_added (ends_block line.statement) (place_of address) (block_end later after) closed current closed_then current_then
    (labels_of later after) line.labels (subst P at added)
    ∙ ap (λ (l : List Line). closed ++ (map (with_end (block_end l (address ∷ after))) current ++ labels_of l (address ∷ after))) (sym these)
    ∙ ap (λ (l : List ℕ). closed ++ (map (with_end (block_end lines l)) current ++ labels_of lines l)) (sym those)

pub last_on : (lines later : List Line) (addresses after : List ℕ) (line : Line) (address place end end_then : ℕ)
    → lines ≡ line ∷ later → addresses ≡ address ∷ after → place ≡ place_of address
    → end_then ≡ (if ends_block line.statement then place else end)
    → last_end end_then later after ≡ last_end end lines addresses
last_on lines later addresses after line address place end end_then these those at is =
    ap (λ (n : ℕ). last_end n later after) is
    ∙ ap (λ (n : ℕ). last_end (if ends_block line.statement then n else end) later after) at
    ∙ ap (λ (l : List Line). last_end end l (address ∷ after)) (sym these)
    ∙ ap (λ (l : List ℕ). last_end end lines l) (sym those)

-- no line is left
pub none_left : (lines : List Line) (addresses : List ℕ) (end : ℕ) → min (length lines) (length addresses) ≡ 0
    → (block_end lines addresses ≡ 0) × (labels_of lines addresses ≡ []) × (last_end end lines addresses ≡ end)
none_left [] addresses end none = (refl, refl, refl)
none_left (line ∷ lines) [] end none = (refl, refl, refl)
none_left (line ∷ lines) (address ∷ addresses) end none = absurd (omega arith)
