-- Lines are laid out without a fault exactly where all of them can stand.
use Rattle.std.proofs.Common.{◌≡◌, ◌∙◌, sym, ap, subst, ℕ, ◌+◌, true, ◌&&◌, List, [], ◌∷◌, ◌++◌, map, flat_map}
use Rattle.std.proofs.Common.{Option, Some, None, Result, Ok, refl, append_assoc}
use Rattle.std.specs.Prelude.{not}
use Rattle.std.specs.List.{range_with_len, list_all}
use Rattle.std.specs.Map.{keys_of, values_of}
use Rattle.std.proofs.lemmas.List.{append-nil, map-append}
use Rattle.std.proofs.lemmas.List.Folds.{list_all-append}
use Rattle.std.proofs.lemmas.Bool.{and_parts, and_from, not-true}
use Rattle.mac_text.specs.Lines.{is_end, is_end_statement}
use Rattle.mac_text.specs.declared.syntax.Data.{Data}
use Rattle.mac_text.specs.declared.syntax.Statement.{Statement}
use Rattle.mac_text.specs.declared.syntax.Statement.TheVariants as statements
use Rattle.mac_text.specs.declared.syntax.Line.{Line}
use Rattle.mac_layout.specs.declared.error.AsmCode.{AsmCode}
use Rattle.mac_layout.specs.Addresses.{Labels, size_of, address_behind, Located, located, address_after, literal_sizes}
use Rattle.mac_layout.specs.Addresses.{is_count_settled, is_settled, are_settled, are_apart}
use Rattle.mac_asm.specs.Assembly.{are_below}
use Rattle.asm_laws.specs.Found.{labels_from_above}
use Rattle.mac_layout.specs.Faults.{Fault, unless_fault}
use Rattle.mac_layout.specs.LaidOut.{literal_size, Layout, labels_code, taking_all, with_labels, with_statement, statement_code, line_code, with_line, laid_out}
use Rattle.mac_asm.specs.Outcome.{has_end}
use Rattle.asm_laws.specs.Laws.{statement_size, addresses_of}
use Rattle.asm_laws.proofs.Unique.{own, keys-grow, labels_in}
use Rattle.asm_laws.proofs.Maps.{address-settled, size-settled}
use Rattle.asm_laws.proofs.Found.{met}
use Rattle.asm_laws.proofs.Apart.{least-none}
use Rattle.asm_laws.proofs.Counts.{is_ok}
use Rattle.asm_laws.proofs.Ends.{ends_once}
use Rattle.asm_laws.proofs.Fits.{state, range_of, LineFits, if-none, line-fits, fits-line, fits-statement, behind, line-behind}

-- no line is at fault
abbrev pub AllRight : Layout → List Line → Type 0
AllRight s [] = Unit {0}
AllRight s (line ∷ lines) = (line_code s line ≡ None) × AllRight (with_line s line) lines

-- the layout behind all lines
abbrev pub final : Layout → List Line → Layout
final s [] = s
final s (line ∷ lines) = final (with_line s line) lines

unless-ok : (n : ℕ) (o : Option AsmCode) (r : Result Layout Fault) (s : Layout) → unless_fault n o r ≡ Ok s
    → (o ≡ None) × (r ≡ Ok s)
unless-ok n None r s h = (refl, h)
unless-ok n (Some code) r s h = absurd (cc)

pub laid-right : (lines : List Line) (s : Layout) (n : ℕ) (s' : Layout) → laid_out s n lines ≡ Ok s'
    → AllRight s lines × (final s lines ≡ s')
unfolding laid_out
laid-right [] s n s' h = (tt, cc)
laid-right (line ∷ lines) s n s' h =
    let u = unless-ok n (line_code s line) (laid_out (with_line s line) (n + 1) lines) s' h in
    let i = laid-right lines (with_line s line) (n + 1) s' u.1 in
    ((u.0, i.0), i.1)

pub right-laid : (lines : List Line) (s : Layout) (n : ℕ) → AllRight s lines → laid_out s n lines ≡ Ok (final s lines)
unfolding laid_out
right-laid [] s n h = refl
right-laid (line ∷ lines) s n h =
    ap (λ o. unless_fault n o (laid_out (with_line s line) (n + 1) lines)) h.0
    ∙ right-laid lines (with_line s line) (n + 1) h.1

-- what could not be counted above cannot be counted at the end
sizes-grow : (lines : List Line) (s : Layout) → list_all is_ok (final s lines).sizes ≡ true → list_all is_ok s.sizes ≡ true
unfolding with_labels with_statement
sizes-grow [] s h = h
sizes-grow (line ∷ lines) s h =
    let i : list_all is_ok (s.sizes ++ map (literal_size (s.labels ++ own s.address line) s.address) line.literals) ≡ true =
    sizes-grow lines (with_line s line) h in
    (and_parts (list_all is_ok s.sizes) _ (sym (list_all-append is_ok s.sizes _) ∙ i)).0

own-sizes : (lines : List Line) (s : Layout) (line : Line) → list_all is_ok (final s (line ∷ lines)).sizes ≡ true
    → list_all is_ok (map (literal_size (s.labels ++ own s.address line) s.address) line.literals) ≡ true
unfolding with_labels with_statement
own-sizes lines s line h =
    let i : list_all is_ok (s.sizes ++ map (literal_size (s.labels ++ own s.address line) s.address) line.literals) ≡ true =
    sizes-grow lines (with_line s line) h in
    (and_parts (list_all is_ok s.sizes) _ (sym (list_all-append is_ok s.sizes _) ∙ i)).1

-- all lines can stand, one behind the other
abbrev pub Fits : Labels → ℕ → List ℕ → List Line → Type 0
Fits xs p t [] = Unit {0}
Fits xs p t (line ∷ lines) =
    LineFits xs p t line
    × Fits (xs ++ own p line) (address_behind (xs ++ own p line) p line.statement) (t ++ range_of (xs ++ own p line) p line.statement) lines

pub right-fits : (lines : List Line) (xs : Labels) (p : ℕ) (ps t : List ℕ) (sz : List (Result ℕ AsmCode))
    → AllRight (state xs p ps t sz) lines → list_all is_ok (final (state xs p ps t sz) lines).sizes ≡ true
    → are_below (values_of xs) ≡ true → are_apart t ≡ true
    → Fits xs p t lines
right-fits [] xs p ps t sz h k b a = tt
right-fits (line ∷ lines) xs p ps t sz h k b a =
    let s = state xs p ps t sz in
    let f = line-fits xs p ps t sz line h.0 (own-sizes lines s line k) b a in
    let same : with_line s line ≡ behind xs p ps t sz line = line-behind xs p ps t sz line f in (
      f,
      right-fits lines _ _ _ _ _
          (subst (λ l. AllRight l lines) same h.1)
          (subst (λ l. list_all is_ok (final l lines).sizes ≡ true) same k)
          f.low f.statement.once,
    )

-- END takes the addresses of all literals
pub end-code : (s : Option Statement) (l : Layout) → is_end_statement s ≡ true → statement_code l s ≡ taking_all l.taken l.address l.sizes
unfolding statement_code
end-code None l h = absurd (cc)
end-code (Some (statements.Data given)) l h = absurd (cc)
end-code (Some (statements.Loc e)) l h = absurd (cc)
end-code (Some (statements.End e)) l h = refl
end-code (Some (statements.Radix n)) l h = absurd (cc)
end-code (Some statements.Title) l h = absurd (cc)

end-layout : (s : Option Statement) (l : Layout) → is_end_statement s ≡ true → with_statement l s ≡ l
unfolding with_statement
end-layout None l h = absurd (cc)
end-layout (Some (statements.Data given)) l h = absurd (cc)
end-layout (Some (statements.Loc e)) l h = absurd (cc)
end-layout (Some (statements.End e)) l h = ap (λ t. let x : Layout = record l { taken = t } in x) (append-nil l.taken)
end-layout (Some (statements.Radix n)) l h = absurd (cc)
end-layout (Some statements.Title) l h = absurd (cc)

end-all : (s : Layout) (line : Line) → is_end line ≡ true
    → statement_code (with_labels s line) line.statement
    ≡ taking_all (with_line s line).taken (with_line s line).address (with_line s line).sizes
end-all s line h =
    end-code line.statement (with_labels s line) h
    ∙ ap (λ l. taking_all l.taken l.address l.sizes) (sym (end-layout line.statement (with_labels s line) h))

pub line-statement : (s : Layout) (line : Line) → line_code s line ≡ None
    → statement_code (with_labels s line) line.statement ≡ None
unfolding line_code
line-statement s line h =
    (least-none (labels_code s line) _ (if-none (are_apart (keys_of s.labels ++ line.labels)) _ h).1).1

pub end-right : (lines : List Line) (s : Layout) → has_end lines ≡ true → AllRight s lines
    → taking_all (final s lines).taken (final s lines).address (final s lines).sizes ≡ None
end-right [] s h r = absurd (cc)
end-right (line ∷ []) s h r = sym (end-all s line h) ∙ line-statement s line r.0
end-right (line ∷ next ∷ lines) s h r = end-right (next ∷ lines) (with_line s line) h r.1

pub fits-right : (lines : List Line) (xs : Labels) (p : ℕ) (ps t : List ℕ) (sz : List (Result ℕ AsmCode))
    → Fits xs p t lines → ends_once lines ≡ true
    → taking_all (final (state xs p ps t sz) lines).taken (final (state xs p ps t sz) lines).address (final (state xs p ps t sz) lines).sizes ≡ None
    → AllRight (state xs p ps t sz) lines
unfolding with_labels
fits-right [] xs p ps t sz f e h = tt
fits-right (line ∷ []) xs p ps t sz f e h =
    (fits-line xs p ps t sz line f.0 (end-all (state xs p ps t sz) line e ∙ h), tt)
fits-right (line ∷ next ∷ lines) xs p ps t sz f e h =
    let s = state xs p ps t sz in
    let xs' = xs ++ own p line in
    let b = and_parts (not (is_end line)) (ends_once (next ∷ lines)) e in
    let same : with_line s line ≡ behind xs p ps t sz line = line-behind xs p ps t sz line f.0 in
    let later = fits-right (next ∷ lines) xs' (address_behind xs' p line.statement) (ps ++ (p ∷ []))
    (t ++ range_of xs' p line.statement) (sz ++ map Ok (map (size_of xs' p) line.literals)) f.1 b.1
    (subst (λ l. taking_all (final l (next ∷ lines)).taken (final l (next ∷ lines)).address (final l (next ∷ lines)).sizes ≡ None) same h) in (
      fits-line xs p ps t sz line f.0
          (fits-statement xs' p (ps ++ (p ∷ [])) t (sz ++ map (literal_size xs' p) line.literals) line.statement f.0.statement (not-true (is_end line) b.0)),
      subst (λ l. AllRight l (next ∷ lines)) (sym same) later,
    )

pub fits-settled : (lines : List Line) (xs : Labels) (p : ℕ) (t : List ℕ) → Fits xs p t lines
    → are_settled (keys_of xs) lines ≡ true
unfolding are_settled
fits-settled [] xs p t f = refl
fits-settled (line ∷ lines) xs p t f =
    let e : keys_of (xs ++ own p line) ≡ keys_of xs ++ line.labels = keys-grow xs p line in
    let later : are_settled (keys_of (xs ++ own p line)) lines ≡ true = fits-settled lines _ _ _ f.1 in
    subst (λ l. (is_settled l line.statement && (list_all (is_count_settled l) line.literals && are_settled l lines)) ≡ true) e
    (and_from _ _ f.0.statement.settled (and_from _ _ f.0.settled later))

-- later labels change nothing of a line
pub record Kept (m xs : Labels) (p : ℕ) (line : Line) : Type 0 where
  pub address : address_behind m p line.statement ≡ address_behind xs p line.statement
  pub size : statement_size m p line.statement ≡ statement_size xs p line.statement
  pub sizes : map (size_of m p) line.literals ≡ map (size_of xs p) line.literals

pub sizes-settled : (xs ys : Labels) (p : ℕ) (given : List Data) → list_all (is_count_settled (keys_of xs)) given ≡ true
    → map (size_of (xs ++ ys) p) given ≡ map (size_of xs p) given
sizes-settled xs ys p [] h = refl
sizes-settled xs ys p (d ∷ given) h =
    let b = and_parts (is_count_settled (keys_of xs) d) _ h in
    ap (λ n. n ∷ map (size_of (xs ++ ys) p) given) (size-settled xs ys p d b.0)
    ∙ ap (λ l. size_of xs p d ∷ l) (sizes-settled xs ys p given b.1)

statement-settled : (xs ys : Labels) (p : ℕ) (s : Option Statement) → is_settled (keys_of xs) s ≡ true
    → statement_size (xs ++ ys) p s ≡ statement_size xs p s
statement-settled xs ys p None h = refl
statement-settled xs ys p (Some (statements.Data given)) h = size-settled xs ys p given h
statement-settled xs ys p (Some (statements.Loc e)) h = refl
statement-settled xs ys p (Some (statements.End e)) h = refl
statement-settled xs ys p (Some (statements.Radix n)) h = refl
statement-settled xs ys p (Some statements.Title) h = refl

pub kept : (m xs ys : Labels) (p : ℕ) (line : Line) → m ≡ xs ++ ys → is_settled (keys_of xs) line.statement ≡ true
    → list_all (is_count_settled (keys_of xs)) line.literals ≡ true
    → Kept m xs p line
kept m xs ys p line e h k =
    subst (λ l. Kept l xs p line) (sym e)
    (record {
      address = address-settled xs ys p line.statement h;
      size = statement-settled xs ys p line.statement h;
      sizes = sizes-settled xs ys p line.literals k;
    })

-- the same for the first of lines that can stand, under all labels that they bear
pub fits-kept : (line : Line) (lines : List Line) (xs : Labels) (p : ℕ) (t : List ℕ) → Fits xs p t (line ∷ lines)
    → Kept (labels_from_above xs p (line ∷ lines)) (xs ++ own p line) p line
unfolding labels_from_above
fits-kept line lines xs p t f =
    let xs' = xs ++ own p line in
    let p' = address_behind xs' p line.statement in
    let m = labels_from_above xs' p' lines in
    kept m xs' (labels_in m p' lines) p line (met lines p' xs' (fits-settled lines xs' p' _ f.1)) f.0.statement.settled f.0.settled

abbrev pub address_of : Located → ℕ
address_of at = at.address

pub state-same : (xs : Labels) (p q : ℕ) (ps qs t u : List ℕ) (sz zs : List (Result ℕ AsmCode)) → p ≡ q → ps ≡ qs → t ≡ u → sz ≡ zs
    → state xs p ps t sz ≡ state xs q qs u zs
state-same xs p q ps qs t u sz zs a b c d =
    ap (λ x. state xs x ps t sz) a ∙ ap (λ x. state xs q x t sz) b ∙ ap (λ x. state xs q qs x sz) c ∙ ap (λ x. state xs q qs u x) d

-- the layout of lines under all their labels
abbrev pub whole_layout : Labels → ℕ → List ℕ → List ℕ → List (Result ℕ AsmCode) → List Line → Layout
whole_layout m p ps t sz lines =
    state m (address_after m p lines) (ps ++ map address_of (located m p lines)) (t ++ flat_map (addresses_of m) (located m p lines))
    (sz ++ map Ok (literal_sizes m (located m p lines)))

pub final-is : (lines : List Line) (xs : Labels) (p : ℕ) (ps t : List ℕ) (sz : List (Result ℕ AsmCode)) → Fits xs p t lines
    → final (state xs p ps t sz) lines ≡ whole_layout (labels_from_above xs p lines) p ps t sz lines
unfolding labels_from_above located address_after
final-is [] xs p ps t sz f =
    state-same xs p p ps (ps ++ []) t (t ++ []) sz (sz ++ []) refl (sym (append-nil ps)) (sym (append-nil t)) (sym (append-nil sz))
final-is (line ∷ lines) xs p ps t sz f =
    let xs' = xs ++ own p line in
    let p' = address_behind xs' p line.statement in
    let m = labels_from_above xs' p' lines in
    let r = range_of xs' p line.statement in
    let zs = map (size_of xs' p) line.literals in
    let k : Kept m xs' p line = fits-kept line lines xs p t f in
    let rest = located m p' lines in
    let ih : final (behind xs p ps t sz line) lines ≡ whole_layout m p' (ps ++ (p ∷ [])) (t ++ r) (sz ++ map Ok zs) lines =
    final-is lines xs' p' (ps ++ (p ∷ [])) (t ++ r) (sz ++ map Ok zs) f.1 in
    ap (λ l. final l lines) (line-behind xs p ps t sz line f.0) ∙ ih
    ∙ state-same m (address_after m p' lines) (address_after m p' lines)
    ((ps ++ (p ∷ [])) ++ map address_of rest) (ps ++ (p ∷ map address_of rest))
    ((t ++ r) ++ flat_map (addresses_of m) rest) (t ++ (range_of m p line.statement ++ flat_map (addresses_of m) rest))
    ((sz ++ map Ok zs) ++ map Ok (literal_sizes m rest)) (sz ++ map Ok (map (size_of m p) line.literals ++ literal_sizes m rest))
    refl
    (append_assoc ps (p ∷ []) (map address_of rest))
    (append_assoc t r (flat_map (addresses_of m) rest) ∙ ap (λ n. t ++ (range_with_len p n ++ flat_map (addresses_of m) rest)) (sym k.size))
    (append_assoc sz (map Ok zs) (map Ok (literal_sizes m rest))
    ∙ ap (λ l. sz ++ l) (sym (map-append Ok zs (literal_sizes m rest)))
    ∙ ap (λ l. sz ++ map Ok (l ++ literal_sizes m rest)) (sym k.sizes))
    ∙ ap (λ q. state m (address_after m q lines) (ps ++ (p ∷ map address_of (located m q lines)))
    (t ++ (range_of m p line.statement ++ flat_map (addresses_of m) (located m q lines)))
    (sz ++ map Ok (map (size_of m p) line.literals ++ literal_sizes m (located m q lines)))) (sym k.address)
