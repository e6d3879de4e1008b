-- Lemmas on labels before an address.
use Rattle.std.proofs.Common.{◌≡◌, ◌≤◌, ◌<◌, ◌+◌, ◌∙◌, ℕ, Bool, true, false, cond, List, ◌∷◌, length, get_or, take, drop, Option, Some, None, All, refl, sym, ap, arith}
use Rattle.std.specs.Prelude.{nat_lt}
use Rattle.std.proofs.lemmas.Bool.{ltb-true, ltb-false}
use Rattle.std.proofs.lemmas.List.{drop_more}
use Rattle.std.proofs.lemmas.Bool.Decides.{nat_tests}
use Rattle.std.proofs.lemmas.List.Elements.{All-more, All-weaker}
use Rattle.source_labels.specs.Labels.{latest_from, nearer, reach}
use Rattle.source_labels.specs.declared.labels.Label.{Label}

before_it : (place s e t d : ℕ) → s ≤ place → place < e → reach place t d ≤ reach place s e → t ≤ place → place < d → t ≤ s
before_it place s e t d before within most start end = grind (arith, nat_tests)

behind : (place s e t d : ℕ) → place < s → reach place t d ≤ reach place s e → t ≤ place → d ≤ place
behind place s e t d after most start = grind (arith, nat_tests)

past : (place s e t d : ℕ) → e ≤ place → reach place t d ≤ reach place s e → t ≤ place → d ≤ place
past place s e t d after most start = grind (arith, nat_tests)

-- no label comes nearer than one of the addresses from s up to before e
abbrev IsFarther : ℕ → ℕ → ℕ → Label → Type 0
IsFarther place s e t = reach place t.place t.end ≤ reach place s e

-- a label of this address stands at s or before it
abbrev IsEarlier : ℕ → ℕ → Label → Type 0
IsEarlier place s t = t.place ≤ place → place < t.end → t.place ≤ s

-- a label is none of this address
abbrev IsElsewhere : ℕ → Label → Type 0
IsElsewhere place t = t.place ≤ place → t.end ≤ place

pub nearest_of : (place s e : ℕ) (labels : List Label) → s ≤ place → place < e →
    All (λ t. reach place t.place t.end ≤ reach place s e) labels → All (λ m. m.place ≤ place → place < m.end → m.place ≤ s) labels
nearest_of place s e labels before within most = All-weaker (IsFarther place s e) (IsEarlier place s)
    (λ t h start end. before_it place s e t.place t.end before within h start end) labels most

pub none_before : (place s e : ℕ) (labels : List Label) → place < s →
    All (λ t. reach place t.place t.end ≤ reach place s e) labels → All (λ m. m.place ≤ place → m.end ≤ place) labels
none_before place s e labels after most = All-weaker (IsFarther place s e)
    (IsElsewhere place) (λ t h start. behind place s e t.place t.end after h start) labels most

pub none_within : (place s e : ℕ) (labels : List Label) → e ≤ place →
    All (λ t. reach place t.place t.end ≤ reach place s e) labels → All (λ m. m.place ≤ place → m.end ≤ place) labels
none_within place s e labels after most = All-weaker (IsFarther place s e)
    (IsElsewhere place) (λ t h start. past place s e t.place t.end after h start) labels most

-- the nearest of a label and those from a position on is the nearer one and those after it
pub step : (place : ℕ) (best : Option Label) (labels : List Label) (i : ℕ) (l n : Label) → i < length labels → l ≡ get_or labels i l
    → n ≡ nearer place best l → latest_from place (Some n) (drop (i + 1) labels) ≡ latest_from place best (drop i labels)
step place best labels i l n within is near =
    ap (λ m. latest_from place (Some m) (drop (i + 1) labels)) near
    ∙ sym (ap (λ ls. latest_from place best ls) (drop_more labels i l within ∙ ap (λ y. y ∷ drop (i + 1) labels) (sym is)))

-- how near a label is, if there is one
abbrev pub reach_by : ℕ → Option Label → ℕ
reach_by place None = 0
reach_by place (Some l) = reach place l.place l.end

picked : (place n : ℕ) (b l : Label) (t : Bool) → nat_lt (reach place l.place l.end) (reach place b.place b.end) ≡ t
    → n ≤ reach place b.place b.end → n ≤ reach place (cond t b l).place (cond t b l).end
picked place n b l true known h = h
picked place n b l false known h =
    omega (arith, h, ltb-false (reach place l.place l.end) (reach place b.place b.end) known)

own : (place : ℕ) (b l : Label) (t : Bool) → nat_lt (reach place l.place l.end) (reach place b.place b.end) ≡ t
    → reach place l.place l.end ≤ reach place (cond t b l).place (cond t b l).end
own place b l true known = omega (arith, ltb-true (reach place l.place l.end) (reach place b.place b.end) known)
own place b l false known = omega arith

stays : (place n : ℕ) (best : Option Label) (l : Label) → n ≤ reach_by place best
    → n ≤ reach place (nearer place best l).place (nearer place best l).end
stays place n None l h = omega (arith, h)
stays place n (Some b) l h = picked place n b l (nat_lt (reach place l.place l.end) (reach place b.place b.end)) refl h

at_least : (place : ℕ) (best : Option Label) (l : Label)
    → reach place l.place l.end ≤ reach place (nearer place best l).place (nearer place best l).end
at_least place None l = omega arith
at_least place (Some b) l = own place b l (nat_lt (reach place l.place l.end) (reach place b.place b.end)) refl

-- no label so far is nearer than the nearest
abbrev pub IsNoNearer : ℕ → ℕ → Label → Type 0
IsNoNearer place near m = reach place m.place m.end ≤ near

most_more : (place : ℕ) (best : Option Label) (labels : List Label) (i : ℕ) (l : Label) → i < length labels → l ≡ get_or labels i l
    → All (λ m. reach place m.place m.end ≤ reach_by place best) (take i labels)
    → All (λ m. reach place m.place m.end ≤ reach_by place (Some (nearer place best l))) (take (i + 1) labels)
most_more place best labels i l within is most =
    let next : Label = nearer place best l in
    let near : ℕ = reach place next.place next.end in
    let last : IsNoNearer place near (get_or labels i l) = rw (sym is) (at_least place best l) in
    All-more (IsNoNearer place near) labels i l within
    (All-weaker (IsNoNearer place (reach_by place best)) (IsNoNearer place near)
    (λ m h. stays place (reach place m.place m.end) best l h) (take i labels) most) last

pub most_by : (place : ℕ) (best : Option Label) (labels : List Label) (i : ℕ) (l n : Label) → i < length labels → l ≡ get_or labels i l
    → n ≡ nearer place best l → All (λ m. reach place m.place m.end ≤ reach_by place best) (take i labels)
    → All (λ m. reach place m.place m.end ≤ reach_by place (Some n)) (take (i + 1) labels)
most_by place best labels i l n within is near most = rw near (most_more place best labels i l within is most)
