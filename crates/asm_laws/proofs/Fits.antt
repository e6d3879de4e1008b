-- Where a line can be laid out, and what it adds to the layout.
use Rattle.std.proofs.Common.{◌≡◌, ◌∙◌, sym, ap, ℕ, suc, ◌+◌, Bool, true, false, ◌&&◌, List, [], ◌∷◌, ◌++◌, map}
use Rattle.std.proofs.Common.{length, Option, Some, None, Result, Ok, Err, refl, arith}
use Rattle.std.specs.Prelude.{◌^◌, ◌==◌, not, nat_lt, nat_le, if◌then◌else◌}
use Rattle.std.specs.List.{range_with_len, list_all}
use Rattle.std.specs.Map.{keys_of, values_of}
use Rattle.std.proofs.lemmas.List.{append-nil, map-append}
use Rattle.std.proofs.lemmas.List.Folds.{list_all-append}
use Rattle.std.proofs.lemmas.Bool.{and_parts, and_from, and_right, not-false, not_from_true}
use Rattle.std.proofs.lemmas.Grind.{common_steps}
use Rattle.mac_text.specs.Lines.{is_end_statement}
use Rattle.mac_text.specs.declared.syntax.Data.{Data}
use Rattle.mac_text.specs.declared.syntax.Statement.{Statement}
use Rattle.mac_text.specs.declared.syntax.Statement.TheVariants as statements
use Rattle.mac_text.specs.declared.syntax.Line.{Line}
use Rattle.mac_layout.specs.declared.error.AsmCode.{AsmCode}
use Rattle.mac_layout.specs.declared.error.AsmCode.TheVariants.{DefinedTwice, DoesNotFit, AddressTooHigh}
use Rattle.mac_layout.specs.Addresses.{Labels, size_of, address_behind, is_count_settled, is_settled, are_apart}
use Rattle.mac_asm.specs.Assembly.{have_words, are_below}
use Rattle.mac_layout.specs.Faults.{code_if, code_of}
use Rattle.mac_layout.specs.LaidOut.{checked_count, checked_size, literal_size, Layout, taking_size, labels_code, with_labels, statement_code}
use Rattle.mac_layout.specs.LaidOut.{taken_by, address_by, with_statement, line_code, with_line, addresses_in, count_or}
use Rattle.asm_laws.specs.Laws.{statement_size}
use Rattle.asm_laws.proofs.Unique.{own, keys-grow}
use Rattle.asm_laws.proofs.Apart.{code_if-none, least-none, none-least, whole-range, taking-none, none-taking}
use Rattle.asm_laws.proofs.Counts.{is_ok, counts, count-known, known-count, size-known, known-size, literals-known, known-literals, taking-counts}

abbrev pub state : Labels → ℕ → List ℕ → List ℕ → List (Result ℕ AsmCode) → Layout
state xs p ps t sz = record { labels = xs; address = p; addresses = ps; taken = t; sizes = sz }

-- the addresses of a statement
abbrev pub range_of : Labels → ℕ → Option Statement → List ℕ
range_of xs p s = range_with_len p (statement_size xs p s)

-- a statement can stand where its counts are known, and its addresses are new and low
pub record StatementFits (xs : Labels) (p : ℕ) (t : List ℕ) (s : Option Statement) : Type 0 where
  pub settled : is_settled (keys_of xs) s ≡ true
  pub counted : counts xs p s ≡ true
  pub once : are_apart (t ++ range_of xs p s) ≡ true
  pub low : are_below (range_of xs p s) ≡ true

wordless : (t : List ℕ) → are_apart t ≡ true → are_apart (t ++ []) ≡ true
wordless t a = ap are_apart (append-nil t) ∙ a

code-none : (r : Result ℕ AsmCode) → code_of r ≡ None → is_ok r ≡ true
code-none (Ok n) h = refl
code-none (Err code) h = absurd (cc)

data-fits : (xs : Labels) (p : ℕ) (t : List ℕ) (given : Data) → taking_size t p (checked_size xs p given) ≡ None
    → are_apart t ≡ true
    → StatementFits xs p t (Some (statements.Data given))
data-fits xs p t given h a =
    let n = taking-counts t p (checked_size xs p given) h in
    let k = size-known xs p given (ap is_ok n.1) in
    let size : checked_size xs p given ≡ Ok (size_of xs p given) = known-size xs p given k.0 k.1 in
    let f = taking-none t p (size_of xs p given) (ap (taking_size t p) (sym size) ∙ h) a in
    record { settled = k.0; counted = k.1; once = f.0; low = f.1 }

pub statement-fits : (xs : Labels) (p : ℕ) (ps t : List ℕ) (sz : List (Result ℕ AsmCode)) (s : Option Statement)
    → statement_code (state xs p ps t sz) s ≡ None → are_apart t ≡ true
    → StatementFits xs p t s
unfolding statement_code
statement-fits xs p ps t sz None h a = record { settled = refl; counted = refl; once = wordless t a; low = refl }
statement-fits xs p ps t sz (Some (statements.Data given)) h a = data-fits xs p t given h a
statement-fits xs p ps t sz (Some (statements.Loc e)) h a =
    let k = count-known xs p e (code-none (checked_count xs p e) h) in
    record { settled = k.0; counted = k.1; once = wordless t a; low = refl }
statement-fits xs p ps t sz (Some (statements.End e)) h a = record { settled = refl; counted = refl; once = wordless t a; low = refl }
statement-fits xs p ps t sz (Some (statements.Radix n)) h a =
    record { settled = refl; counted = not-false (nat_le 2 n && nat_le n 10) (code_if-none _ DoesNotFit h); once = wordless t a; low = refl }
statement-fits xs p ps t sz (Some statements.Title) h a = record { settled = refl; counted = refl; once = wordless t a; low = refl }

pub fits-statement : (xs : Labels) (p : ℕ) (ps t : List ℕ) (sz : List (Result ℕ AsmCode)) (s : Option Statement)
    → StatementFits xs p t s → is_end_statement s ≡ false
    → statement_code (state xs p ps t sz) s ≡ None
unfolding statement_code
fits-statement xs p ps t sz None f e = refl
fits-statement xs p ps t sz (Some (statements.Data given)) f e =
    ap (taking_size t p) (known-size xs p given f.settled f.counted) ∙ none-taking t p (size_of xs p given) f.once f.low
fits-statement xs p ps t sz (Some (statements.Loc at)) f e = ap code_of (known-count xs p at 0 f.settled f.counted)
fits-statement xs p ps t sz (Some (statements.End at)) f e = absurd (cc)
fits-statement xs p ps t sz (Some (statements.Radix n)) f e =
    ap (λ w. code_if w DoesNotFit) (not_from_true (nat_le 2 n && nat_le n 10) f.counted)
fits-statement xs p ps t sz (Some statements.Title) f e = refl

-- and then the address behind it, and its addresses
pub address-fits : (xs : Labels) (p : ℕ) (ps t : List ℕ) (sz : List (Result ℕ AsmCode)) (s : Option Statement)
    → StatementFits xs p t s
    → address_by (state xs p ps t sz) s ≡ address_behind xs p s
unfolding address_behind
address-fits xs p ps t sz None f = refl
address-fits xs p ps t sz (Some (statements.Data given)) f = ap (λ r. p + count_or 0 r) (known-size xs p given f.settled f.counted)
address-fits xs p ps t sz (Some (statements.Loc at)) f = ap (count_or p) (known-count xs p at p f.settled f.counted)
address-fits xs p ps t sz (Some (statements.End at)) f = refl
address-fits xs p ps t sz (Some (statements.Radix n)) f = refl
address-fits xs p ps t sz (Some statements.Title) f = refl

pub taken-fits : (xs : Labels) (p : ℕ) (ps t : List ℕ) (sz : List (Result ℕ AsmCode)) (s : Option Statement)
    → StatementFits xs p t s
    → taken_by (state xs p ps t sz) s ≡ range_of xs p s
taken-fits xs p ps t sz None f = refl
taken-fits xs p ps t sz (Some (statements.Data given)) f =
    ap (λ r. addresses_in p (count_or 0 r)) (known-size xs p given f.settled f.counted) ∙ whole-range p (size_of xs p given) f.low
taken-fits xs p ps t sz (Some (statements.Loc at)) f = refl
taken-fits xs p ps t sz (Some (statements.End at)) f = refl
taken-fits xs p ps t sz (Some (statements.Radix n)) f = refl
taken-fits xs p ps t sz (Some statements.Title) f = refl

-- a line can stand where its labels are new and low, its literals have words, and its statement can stand
pub record LineFits (xs : Labels) (p : ℕ) (t : List ℕ) (line : Line) : Type 0 where
  pub once : are_apart (keys_of (xs ++ own p line)) ≡ true
  pub low : are_below (values_of (xs ++ own p line)) ≡ true
  pub settled : list_all (is_count_settled (keys_of (xs ++ own p line))) line.literals ≡ true
  pub sized : have_words (map (size_of (xs ++ own p line) p) line.literals) ≡ true
  pub statement : StatementFits (xs ++ own p line) p t line.statement

all-low : (labels : List ℕ) (p : ℕ) → nat_lt p (2 ^ 18) ≡ true → are_below (values_of (map (λ name. (name, p)) labels)) ≡ true
all-low [] p h = refl
all-low (n ∷ labels) p h = and_from _ _ h (all-low labels p h)

pub own-low : (labels : List ℕ) (p : ℕ) → (not (length labels == 0) && not (nat_lt p (2 ^ 18))) ≡ false
    → are_below (values_of (map (λ name. (name, p)) labels)) ≡ true
own-low [] p h = refl
own-low (n ∷ labels) p h = all-low (n ∷ labels) p (low (length labels) p h)
  where
    low : (k p : ℕ) → (not (suc k == 0) && not (nat_lt p (2 ^ 18))) ≡ false → nat_lt p (2 ^ 18) ≡ true
    low k p h = grind (arith, common_steps)

pub low-own : (labels : List ℕ) (p : ℕ) → are_below (values_of (map (λ name. (name, p)) labels)) ≡ true
    → (not (length labels == 0) && not (nat_lt p (2 ^ 18))) ≡ false
low-own [] p h = refl
low-own (n ∷ labels) p h = and_right _ _ (not_from_true (nat_lt p (2 ^ 18)) (and_parts (nat_lt p (2 ^ 18)) _ h).0)

pub grown-low : (xs : Labels) (p : ℕ) (line : Line)
    → are_below (values_of (xs ++ own p line)) ≡ (are_below (values_of xs) && are_below (values_of (own p line)))
grown-low xs p line =
    ap are_below (map-append (λ e. e.1) xs (own p line)) ∙ list_all-append (λ n. nat_lt n 262144) (values_of xs) (values_of (own p line))

pub if-none : (b : Bool) (o : Option AsmCode) → (if b then o else Some DefinedTwice) ≡ None → (b ≡ true) × (o ≡ None)
if-none true o h = (refl, h)
if-none false o h = absurd (cc)

none-if : (b : Bool) (o : Option AsmCode) → b ≡ true → o ≡ None → (if b then o else Some DefinedTwice) ≡ None
none-if true o h k = k
none-if false o h k = absurd (cc)

pub line-fits : (xs : Labels) (p : ℕ) (ps t : List ℕ) (sz : List (Result ℕ AsmCode)) (line : Line)
    → line_code (state xs p ps t sz) line ≡ None
    → list_all is_ok (map (literal_size (xs ++ own p line) p) line.literals) ≡ true
    → are_below (values_of xs) ≡ true → are_apart t ≡ true
    → LineFits xs p t line
unfolding line_code with_labels
line-fits xs p ps t sz line h k b a =
    let xs' = xs ++ own p line in
    let i = if-none (are_apart (keys_of xs ++ line.labels)) _ h in
    let l = least-none (labels_code (state xs p ps t sz) line) _ i.1 in
    let w = literals-known xs' p line.literals k in
    record {
      once = ap are_apart (keys-grow xs p line) ∙ i.0;
      low = grown-low xs p line ∙ and_from _ _ b (own-low line.labels p (code_if-none _ AddressTooHigh l.0));
      settled = w.0;
      sized = w.1;
      statement = statement-fits xs' p (ps ++ (p ∷ [])) t (sz ++ map (literal_size xs' p) line.literals) line.statement l.1 a;
    }

-- what is asked of a line but for its statement
pub fits-line : (xs : Labels) (p : ℕ) (ps t : List ℕ) (sz : List (Result ℕ AsmCode)) (line : Line)
    → LineFits xs p t line
    → statement_code (with_labels (state xs p ps t sz) line) line.statement ≡ None
    → line_code (state xs p ps t sz) line ≡ None
unfolding line_code
fits-line xs p ps t sz line f h =
    let low = and_parts (are_below (values_of xs)) _ (sym (grown-low xs p line) ∙ f.low) in
    none-if (are_apart (keys_of xs ++ line.labels)) _ (ap are_apart (sym (keys-grow xs p line)) ∙ f.once)
    (none-least _ _ (ap (λ w. code_if w AddressTooHigh) (low-own line.labels p low.1)) h)

-- the layout behind a line
abbrev pub behind : Labels → ℕ → List ℕ → List ℕ → List (Result ℕ AsmCode) → Line → Layout
behind xs p ps t sz line =
    state (xs ++ own p line) (address_behind (xs ++ own p line) p line.statement) (ps ++ (p ∷ []))
    (t ++ range_of (xs ++ own p line) p line.statement)
    (sz ++ map Ok (map (size_of (xs ++ own p line) p) line.literals))

pub line-behind : (xs : Labels) (p : ℕ) (ps t : List ℕ) (sz : List (Result ℕ AsmCode)) (line : Line)
    → LineFits xs p t line
    → with_line (state xs p ps t sz) line ≡ behind xs p ps t sz line
unfolding with_labels with_statement
line-behind xs p ps t sz line f =
    let xs' = xs ++ own p line in
    let ps' = ps ++ (p ∷ []) in
    let sz' = sz ++ map (literal_size xs' p) line.literals in
    let address : address_by (state xs' p ps' t sz') line.statement ≡ address_behind xs' p line.statement =
    address-fits xs' p ps' t sz' line.statement f.statement in
    let taken : taken_by (state xs' p ps' t sz') line.statement ≡ range_of xs' p line.statement =
    taken-fits xs' p ps' t sz' line.statement f.statement in
    let sizes : map (literal_size xs' p) line.literals ≡ map Ok (map (size_of xs' p) line.literals) =
    known-literals xs' p line.literals f.settled f.sized in
    ap (λ q. state xs' q ps' (t ++ taken_by (state xs' p ps' t sz') line.statement) sz') address
    ∙ ap (λ r. state xs' (address_behind xs' p line.statement) ps' (t ++ r) sz') taken
    ∙ ap (λ l. state xs' (address_behind xs' p line.statement) ps' (t ++ range_of xs' p line.statement) (sz ++ l)) sizes
