-- Which code is told of a line behind lines that are right.
use Rattle.std.proofs.Common.{◌≡◌, ◌∙◌, sym, ap, subst, ℕ, Bool, true, false, ◌&&◌, List, [], ◌∷◌, ◌++◌, length, map, flat_map}
use Rattle.std.proofs.Common.{unwrap_or, Option, Some, None, Result, refl, append_assoc, inl, inr}
use Rattle.std.specs.Prelude.{◌^◌, ◌||◌, ◌==◌, not, nat_le, nat_lt, if◌then◌else◌}
use Rattle.std.specs.List.{list_any}
use Rattle.std.specs.Map.{keys_of, values_of}
use Rattle.std.proofs.lemmas.List.{append-nil, map-append}
use Rattle.std.proofs.lemmas.List.Folds.{list_all-append}
use Rattle.std.proofs.lemmas.Bool.{and_from, cases_Bool, true_from_ne_false, not_from_true, not_from_false}
use Rattle.mac_text.specs.Lines.{is_end_statement}
use Rattle.mac_text.specs.declared.syntax.SignedTerm.{SignedTerm}
use Rattle.mac_text.specs.declared.syntax.Data.{Data}
use Rattle.mac_text.specs.declared.syntax.Statement.{Statement}
use Rattle.mac_text.specs.declared.syntax.Statement.TheVariants as statements
use Rattle.mac_text.specs.declared.syntax.Line.{Line}
use Rattle.mac_layout.specs.declared.error.AsmCode.{AsmCode}
use Rattle.mac_layout.specs.declared.error.AsmCode.TheVariants.{DefinedTwice, AddressTooHigh}
use Rattle.mac_layout.specs.Addresses.{Labels, names_at, count_of, size_of, address_behind, are_among, is_count_settled, is_settled, are_apart}
use Rattle.mac_asm.specs.Assembly.{are_below}
use Rattle.asm_laws.specs.Found.{labels_from_above}
use Rattle.mac_layout.specs.Faults.{least, code_of}
use Rattle.mac_layout.specs.LaidOut.{checked_count, literal_size, Layout, is_taken, taking_size, labels_code, with_labels, statement_code, line_code, with_line}
use Rattle.asm_laws.specs.Codes.{LineFromAbove, lines_from_above, address_from_above, statement_addresses, is_literal_unfit, is_statement_unfit}
use Rattle.asm_laws.proofs.Unique.{own, keys-grow}
use Rattle.asm_laws.proofs.Apart.{apart-parts, apart-join, least-none, code_if-none}
use Rattle.asm_laws.proofs.Fits.{state, range_of, StatementFits, statement-fits, own-low, low-own, grown-low, if-none}
use Rattle.asm_laws.proofs.Layouts.{AllRight, final, line-statement}
use Rattle.asm_laws.proofs.Clear.{no-true}
use Rattle.asm_laws.proofs.Laying.{behind-line}
use Rattle.asm_laws.proofs.Least.{told, least-told, high-told, unfit-told, told-same}
use Rattle.asm_laws.proofs.Sizing.{said, count-said, count-size, size-said, size-size, literal-said, literal-size}
use Rattle.asm_laws.proofs.Taking.{size-told, Sized, said_of, not-both}

abbrev pub measured : Labels → ℕ → Data → Sized
measured xs p given = record {
  early = not (is_count_settled (keys_of xs) given);
  unfit = is_literal_unfit xs p given;
  size = size_of xs p given;
  is = literal-size xs p given;
}

abbrev pub literals_in : LineFromAbove → List Sized
literals_in at = map (measured at.labels at.address) at.line.literals

pub literals-said : (given : List Data) (xs : Labels) (p : ℕ) → map (literal_size xs p) given ≡ map said_of (map (measured xs p) given)
literals-said [] xs p = refl
literals-said (d ∷ given) xs p =
    ap (λ r. r ∷ map (literal_size xs p) given) (literal-said xs p d)
    ∙ ap (λ l. said_of (measured xs p d) ∷ l) (literals-said given xs p)

code-told : (e u : Bool) (n : ℕ) → (e ≡ true → u ≡ false) → code_of (said e u n) ≡ told false u e false
code-told true u n h = ap (λ x. told false x true false) (sym (h refl))
code-told false true n h = refl
code-told false false n h = refl

loc-told : (xs : Labels) (p : ℕ) (e : List SignedTerm) → code_of (checked_count xs p e)
    ≡ told false (is_statement_unfit xs p (Some (statements.Loc e))) (not (are_among (keys_of xs) e)) false
loc-told xs p e =
    ap code_of (count-said xs p e 0)
    ∙ code-told _ _ (unwrap_or (count_of (names_at xs p []) e) 0) (count-size xs p e).one

pub statement-told : (xs : Labels) (p : ℕ) (ps t : List ℕ) (sz : List (Result ℕ AsmCode)) (s : Option Statement)
    → is_end_statement s ≡ false → are_below t ≡ true
    → statement_code (state xs p ps t sz) s
    ≡ told (list_any (is_taken t) (range_of xs p s)) (is_statement_unfit xs p s) (not (is_settled (keys_of xs) s)) (not (are_below (range_of xs p s)))
unfolding statement_code
statement-told xs p ps t sz None e b = refl
statement-told xs p ps t sz (Some (statements.Data given)) e b =
    ap (taking_size t p) (size-said xs p given) ∙ size-told t p _ _ (size_of xs p given) (size-size xs p given) b
statement-told xs p ps t sz (Some (statements.Loc at)) e b = loc-told xs p at
statement-told xs p ps t sz (Some (statements.End at)) e b = absurd (cc)
statement-told xs p ps t sz (Some (statements.Radix n)) e b = unfit-told (not (nat_le 2 n && nat_le n 10))
statement-told xs p ps t sz (Some statements.Title) e b = refl

-- addresses behind others are new where none of them is taken
apart-test : (t r : List ℕ) → are_apart t ≡ true → are_apart r ≡ true → list_any (is_taken t) r ≡ not (are_apart (t ++ r))
apart-test t r h k = elim (cases_Bool (are_apart (t ++ r))) [
  | inl e ↦ (apart-parts t r e).2 ∙ sym (not_from_true _ e)
  | inr e ↦ true_from_ne_false (list_any (is_taken t) r) (λ f. no-true (are_apart (t ++ r)) (apart-join t r h k f) e)
      ∙ sym (not_from_false _ e)
]

labels-test : (labels : List ℕ) (p : ℕ)
    → (not (length labels == 0) && not (nat_lt p (2 ^ 18))) ≡ not (are_below (values_of (map (λ name. (name, p)) labels)))
labels-test labels p = elim (cases_Bool (are_below (values_of (map (λ name. (name, p)) labels)))) [
  | inl e ↦ low-own labels p e ∙ sym (not_from_true _ e)
  | inr e ↦ true_from_ne_false (not (length labels == 0) && not (nat_lt p (2 ^ 18)))
      (λ f. no-true (are_below (values_of (map (λ name. (name, p)) labels))) (own-low labels p f) e) ∙ sym (not_from_false _ e)
]

if-told : (b : Bool) (o : Option AsmCode) (a u e h : Bool) → o ≡ told (not a) u e h
    → (if b then o else Some DefinedTwice) ≡ told (not (b && a)) u e h
if-told true o a u e h k = k
if-told false o a u e h k = refl

and-true : (a b : Bool) → a ≡ true → b ≡ (a && b)
and-true true b h = refl
and-true false b h = absurd (cc)

below-behind : (t r : List ℕ) → are_below t ≡ true → are_below r ≡ are_below (t ++ r)
below-behind t r h = and-true (are_below t) (are_below r) h ∙ sym (list_all-append (λ n. nat_lt n 262144) t r)

-- a line, by the addresses that it takes and the code of its statement
pub line-told : (xs : Labels) (p : ℕ) (ps t : List ℕ) (sz : List (Result ℕ AsmCode)) (line : Line) (r : List ℕ) (unfit early : Bool)
    → are_below (values_of xs) ≡ true → are_apart t ≡ true → are_below t ≡ true → are_apart r ≡ true
    → statement_code (with_labels (state xs p ps t sz) line) line.statement ≡ told (list_any (is_taken t) r) unfit early (not (are_below r))
    → line_code (state xs p ps t sz) line
    ≡ told (not (are_apart (keys_of (xs ++ own p line)) && are_apart (t ++ r))) unfit early
    (not (are_below (values_of (xs ++ own p line)) && are_below (t ++ r)))
unfolding line_code
line-told xs p ps t sz line r unfit early v a b n h =
    let mine = are_below (values_of (own p line)) in
    let apart = are_apart (t ++ r) in
    let labels_high : not mine ≡ not (are_below (values_of (xs ++ own p line))) =
    ap not (and-true (are_below (values_of xs)) mine v ∙ sym (grown-low xs p line)) in
    let high : (not mine || not (are_below r)) ≡ not (are_below (values_of (xs ++ own p line)) && are_below (t ++ r)) =
    ap (λ x. x || not (are_below r)) labels_high
    ∙ ap (λ x. not (are_below (values_of (xs ++ own p line))) || not x) (below-behind t r b)
    ∙ sym (not-both (are_below (values_of (xs ++ own p line))) (are_below (t ++ r))) in
    let labels : labels_code (state xs p ps t sz) line ≡ told false false false (not mine) =
    high-told (not (length line.labels == 0) && not (nat_lt p (2 ^ 18))) ∙ ap (told false false false) (labels-test line.labels p) in
    let both : least (labels_code (state xs p ps t sz) line) (statement_code (with_labels (state xs p ps t sz) line) line.statement)
    ≡ told (not apart) unfit early (not (are_below (values_of (xs ++ own p line)) && are_below (t ++ r))) =
    ap (λ x. least x (statement_code (with_labels (state xs p ps t sz) line) line.statement)) labels
    ∙ ap (least (told false false false (not mine))) h
    ∙ least-told false false false (not mine) (list_any (is_taken t) r) unfit early (not (are_below r))
    ∙ told-same (list_any (is_taken t) r) unfit early (not mine || not (are_below r)) (not apart) unfit early _
    (apart-test t r a n) refl refl high in
    if-told (are_apart (keys_of xs ++ line.labels)) _ apart unfit early _ both
    ∙ ap (λ l. told (not (are_apart l && apart)) unfit early (not (are_below (values_of (xs ++ own p line)) && are_below (t ++ r))))
    (sym (keys-grow xs p line))

-- the layout of lines that are right, by what they are met with
pub record Stood (l : Layout) (xs : Labels) (p : ℕ) (t : List ℕ) (items : List Sized) : Type 0 where
  pub addresses : List ℕ
  pub is : l ≡ state xs p addresses t (map said_of items)
  pub low_labels : are_below (values_of xs) ≡ true
  pub apart : are_apart t ≡ true
  pub low : are_below t ≡ true

low-behind : (xs : Labels) (p : ℕ) (ps t : List ℕ) (sz : List (Result ℕ AsmCode)) (line : Line)
    → line_code (state xs p ps t sz) line ≡ None → are_below (values_of xs) ≡ true
    → are_below (values_of (xs ++ own p line)) ≡ true
unfolding line_code
low-behind xs p ps t sz line h b =
    let i = if-none (are_apart (keys_of xs ++ line.labels)) _ h in
    let l = least-none (labels_code (state xs p ps t sz) line) _ i.1 in
    grown-low xs p line ∙ and_from _ _ b (own-low line.labels p (code_if-none _ AddressTooHigh l.0))

pub final-met : (lines : List Line) (xs : Labels) (p : ℕ) (ps t : List ℕ) (items : List Sized)
    → AllRight (state xs p ps t (map said_of items)) lines → are_below (values_of xs) ≡ true → are_apart t ≡ true → are_below t ≡ true
    → Stood (final (state xs p ps t (map said_of items)) lines) (labels_from_above xs p lines) (address_from_above xs p lines)
    (t ++ flat_map statement_addresses (lines_from_above xs p lines)) (items ++ flat_map literals_in (lines_from_above xs p lines))
unfolding labels_from_above address_from_above lines_from_above with_labels
final-met [] xs p ps t items h v a b =
    subst (λ l. Stood (state xs p ps t (map said_of items)) xs p l (items ++ [])) (sym (append-nil t))
    (subst (λ l. Stood (state xs p ps t (map said_of items)) xs p t l) (sym (append-nil items))
    (record { addresses = ps; is = refl; low_labels = v; apart = a; low = b }))
final-met (line ∷ lines) xs p ps t items h v a b =
    let xs' = xs ++ own p line in
    let sz = map said_of items in
    let st = line.statement in
    let ps' = ps ++ (p ∷ []) in
    let own_literals = map (measured xs' p) line.literals in
    let sz' = sz ++ map (literal_size xs' p) line.literals in
    let s = state xs p ps t sz in
    let p' = address_behind xs' p st in
    let r = range_of xs' p st in
    let f : StatementFits xs' p t st = statement-fits xs' p ps' t sz' st (line-statement s line h.0) a in
    let sizes : sz' ≡ map said_of (items ++ own_literals) =
    ap (λ l. sz ++ l) (literals-said line.literals xs' p) ∙ sym (map-append said_of items own_literals) in
    let same : with_line s line ≡ state xs' p' ps' (t ++ r) (map said_of (items ++ own_literals)) =
    behind-line xs p ps t sz line f ∙ ap (λ z. state xs' p' ps' (t ++ r) z) sizes in
    let rest = lines_from_above xs' p' lines in
    let i = final-met lines xs' p' ps' (t ++ r) (items ++ own_literals)
    (subst (λ l. AllRight l lines) same h.1) (low-behind xs p ps t sz line h.0 v) f.once
    (list_all-append (λ n. nat_lt n 262144) t r ∙ and_from _ _ b f.low) in
    subst (λ l. Stood (final l lines) (labels_from_above xs' p' lines) (address_from_above xs' p' lines) (t ++ (r ++ flat_map statement_addresses rest))
    (items ++ (own_literals ++ flat_map literals_in rest))) (sym same)
    (subst (λ l. Stood (final (state xs' p' ps' (t ++ r) (map said_of (items ++ own_literals))) lines) (labels_from_above xs' p' lines) (address_from_above xs' p' lines) l
    (items ++ (own_literals ++ flat_map literals_in rest))) (append_assoc t r (flat_map statement_addresses rest))
    (subst (λ l. Stood (final (state xs' p' ps' (t ++ r) (map said_of (items ++ own_literals))) lines) (labels_from_above xs' p' lines) (address_from_above xs' p' lines)
    ((t ++ r) ++ flat_map statement_addresses rest) l) (append_assoc items own_literals (flat_map literals_in rest)) i))
