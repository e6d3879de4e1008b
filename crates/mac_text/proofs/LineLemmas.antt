-- The steps of the loops over literals and lines.
use Rattle.std.proofs.Common.{◌≡◌, ℕ, zero, suc, ◌+◌, ◌-◌, ◌<◌, ◌≤◌, ◌==◌, List, [], ◌∷◌, ◌++◌, Option, Some, None, Bor, Bool, true}
use Rattle.std.proofs.Common.{false, cond, length, get_or, take, drop, map, refl, sym, ap, subst, ◌∙◌, append_assoc, append-nil}
use Rattle.std.proofs.Common.{take-append-drop, get_or-take, length-take-le, take_all, eq-eqb, arith}
use Rattle.std.specs.List.{All, slice_split}
use Rattle.std.specs.Str.Lines.{lines, lines_of_parts, strip_carriage_return}
use Rattle.std.proofs.lemmas.Bool.{ne_eqb, and_parts}
use Rattle.std.specs.List.{list_all}
use Rattle.std.proofs.lemmas.List.Folds.{list_all-append}
use Rattle.std.proofs.lemmas.List.{drop_more}
use Rattle.std.proofs.lemmas.List.Splits.{slice_split_at, slice_split_none, length-slice_split}
use Rattle.std.proofs.lemmas.List.Elements.{All-from_get_or}
use Rattle.mac_text.specs.Scan.{◌>>=◌, Fails}
use Rattle.mac_text.specs.Lines.{literal_of, literals_of}
use Rattle.mac_text.specs.declared.fault.Fault.{Fault}
use Rattle.mac_text.specs.declared.fault.Fault.TheVariants as faults
use Rattle.mac_text.specs.declared.scanner.Cut.{Cut}
use Rattle.mac_text.specs.declared.syntax.Data.{Data}

-- ---- literals

-- what was read before comes first
abbrev pub with_earlier : {X : Type 0} → List X → Option (List X) → Option (List X)
with_earlier front read = read >>= λ xs. Some (front ++ xs)

abbrev pub texts_of : List Cut → List (List ℕ)
texts_of cuts = map (λ cut. cut.text.now) cuts

regroup : {X : Type 0} (front : List X) (x : X) (read : Option (List X)) → with_earlier front (with_earlier (x ∷ []) read) ≡ with_earlier (front ++ x ∷ []) read
regroup front x None = refl
regroup front x (Some xs) = ap Some (sym (append_assoc front (x ∷ []) xs))

literals_of-cons : (radix : ℕ) (text : List ℕ) (texts : List (List ℕ))
    → literals_of radix (text ∷ texts) ≡ (literal_of radix text >>= λ given. with_earlier (given ∷ []) (literals_of radix texts))
unfolding literals_of
literals_of-cons radix text texts = refl

texts_of-drop : (texts : List Cut) (i : ℕ) (d : Cut) → i < length texts
    → texts_of (drop i texts) ≡ (get_or texts i d).text.now ∷ texts_of (drop (i + 1) texts)
texts_of-drop texts i d lt = ap texts_of (drop_more texts i d lt)

pub literals_go_on : (radix : ℕ) (front : List Data) (texts : List Cut) (i : ℕ) (d : Cut) (given : Data)
    (total : Option (List Data))
    → i < length texts
    → literal_of radix (get_or texts i d).text.now ≡ Some given → with_earlier front (literals_of radix (texts_of (drop i texts))) ≡ total
    → with_earlier (front ++ given ∷ []) (literals_of radix (texts_of (drop (i + 1) texts))) ≡ total
literals_go_on radix front texts i d given total lt h so_far =
    let e =
    ap (literals_of radix) (texts_of-drop texts i d lt)
    ∙ literals_of-cons radix (get_or texts i d).text.now (texts_of (drop (i + 1) texts))
    ∙ ap (λ o. o >>= λ g. with_earlier (g ∷ []) (literals_of radix (texts_of (drop (i + 1) texts)))) h in
    sym (regroup front given (literals_of radix (texts_of (drop (i + 1) texts)))) ∙ sym (ap (with_earlier front) e) ∙ so_far

pub literals_fail : (radix : ℕ) (e : Fault) (front : List Data) (texts : List Cut) (i : ℕ) (d : Cut)
    (total : Option (List Data))
    → i < length texts
    → Fails e (literal_of radix (get_or texts i d).text.now) → with_earlier front (literals_of radix (texts_of (drop i texts))) ≡ total → Fails e total
literals_fail radix faults.Memory front texts i d total lt h so_far = tt
literals_fail radix (faults.Syntax wanted) front texts i d total lt h so_far =
    let e =
    ap (literals_of radix) (texts_of-drop texts i d lt)
    ∙ literals_of-cons radix (get_or texts i d).text.now (texts_of (drop (i + 1) texts))
    ∙ ap (λ o. o >>= λ g. with_earlier (g ∷ []) (literals_of radix (texts_of (drop (i + 1) texts)))) h in
    sym so_far ∙ ap (with_earlier front) e

literals_of-nil : (radix : ℕ) → literals_of radix [] ≡ Some []
unfolding literals_of
literals_of-nil radix = refl

drop_past : {X : Type 0} (xs : List X) (i : ℕ) → length xs ≤ i → drop i xs ≡ []
drop_past [] zero h = refl
drop_past [] (suc i) h = refl
drop_past (x ∷ xs) zero h = absurd (omega arith)
drop_past (x ∷ xs) (suc i) h = drop_past xs i (omega arith)

pub literals_done : (radix : ℕ) (front : List Data) (texts : List Cut) (i : ℕ) (total : Option (List Data)) → length texts ≤ i
    → with_earlier front (literals_of radix (texts_of (drop i texts))) ≡ total → total ≡ Some front
literals_done radix front texts i total le so_far =
    sym so_far ∙ ap (λ ts. with_earlier front (literals_of radix (texts_of ts))) (drop_past texts i le)
    ∙ ap (with_earlier front) (literals_of-nil radix) ∙ ap Some (append-nil front)

-- ---- lines

abbrev pub newline : ℕ → Bool
newline b = b == 10

pub parts_some : (bytes : List ℕ) → 0 < length (slice_split newline bytes)
parts_some bytes = omega (arith, length-slice_split newline bytes)

pub parts_more : (x : List ℕ) (ys : List (List ℕ)) → 0 < length ys → lines_of_parts (x ∷ ys) ≡ strip_carriage_return x ∷ lines_of_parts ys
parts_more x [] h = absurd (omega arith)
parts_more x (y ∷ ys) h = refl

none_before : (text : List ℕ) (n : ℕ) → n ≤ length text → ((k : ℕ) → k < n → get_or text k 0 ≡ 10 → ⊥) → All (λ b. newline b ≡ false) (take n text)
none_before text n within before = All-from_get_or (λ b. newline b ≡ false) (take n text) 0 (λ k h.
    let short : k < n = omega (arith, length-take-le n text within) in
    let e = get_or-take n text k 0 short in
    subst (λ x. newline x ≡ false) (sym e) (ne_eqb _ _ (before k short)))

-- a line ends at the first line feed
pub lines_at : (text : List ℕ) (i : ℕ) → i < length text → ((k : ℕ) → k < i → get_or text k 0 ≡ 10 → ⊥) → get_or text i 0 ≡ 10
    → lines text ≡ strip_carriage_return (take i text) ∷ lines (drop (i + 1) text)
lines_at text i within before here =
    let e : text ≡ take i text ++ (get_or text i 0 ∷ drop (i + 1) text) =
    sym (take-append-drop i text) ∙ ap (λ l. take i text ++ l) (drop_more text i 0 within) in
    let s = slice_split_at newline (take i text) (get_or text i 0) (drop (i + 1) text) (none_before text i (omega arith) before) (eq-eqb _ _ here) in
    ap lines_of_parts (ap (slice_split newline) e ∙ s) ∙ parts_more (take i text) (slice_split newline (drop (i + 1) text)) (parts_some (drop (i + 1) text))

-- the last line has none
pub lines_last : (text : List ℕ) → 0 < length text → ((k : ℕ) → k < length text → get_or text k 0 ≡ 10 → ⊥)
    → lines text ≡ text ∷ lines (drop (length text) text)
lines_last text some before =
    let none = subst (All (λ b. newline b ≡ false)) (take_all (length text) text (omega arith)) (none_before text (length text) (omega arith) before) in
    ap lines_of_parts (slice_split_none newline text none)
    ∙ ap (λ b. cond b [] (text ∷ [])) (ne_eqb (length text) 0 (λ e. omega arith))
    ∙ sym (ap (λ l. text ∷ lines l) (drop_past text (length text) (omega arith)))

-- what holds of each character holds of those in front and those behind
pub parts_pass : (p : ℕ → Bool) (n : ℕ) (text : List ℕ) → list_all p text ≡ true → (list_all p (take n text) ≡ true) × (list_all p (drop n text) ≡ true)
parts_pass p n text h =
    and_parts (list_all p (take n text)) (list_all p (drop n text))
    (sym (list_all-append p (take n text) (drop n text)) ∙ ap (list_all p) (take-append-drop n text) ∙ h)

pub front_passes : (p : ℕ → Bool) (n : ℕ) (text : List ℕ) → list_all p text ≡ true → list_all p (strip_carriage_return (take n text)) ≡ true
front_passes p n text h = stripped (get_or (take n text) (length (take n text) - 1) 0 == 13) (take n text) (parts_pass p n text h).0
  where
    stripped : (ends : Bool) (line : List ℕ) → list_all p line ≡ true → list_all p (cond ends (take (length line - 1) line) line) ≡ true
    stripped true line h = (parts_pass p (length line - 1) line h).0
    stripped false line h = h
