-- What is wrong with a line is what is told of it, behind lines with which nothing is wrong.
use Rattle.std.proofs.Common.{◌≡◌, ◌∙◌, sym, ap, subst, ℕ, Bool, true, false, ◌&&◌, List, [], ◌∷◌, ◌++◌, map}
use Rattle.std.proofs.Common.{flat_map, Option, Some, None, refl, append_assoc, inl, inr}
use Rattle.std.specs.Prelude.{◌||◌, not, if◌then◌else◌}
use Rattle.std.specs.List.{list_any}
use Rattle.std.specs.Map.{keys_of, values_of}
use Rattle.std.proofs.lemmas.List.{append-nil, map-append}
use Rattle.std.proofs.lemmas.List.Folds.{list_any-append}
use Rattle.std.proofs.lemmas.Bool.{cases_Bool}
use Rattle.mac_text.specs.Lines.{is_end, is_end_statement}
use Rattle.mac_text.specs.declared.syntax.Data.{Data}
use Rattle.mac_text.specs.declared.syntax.Statement.{Statement}
use Rattle.mac_text.specs.declared.syntax.Statement.TheVariants as statements
use Rattle.mac_text.specs.declared.syntax.Line.{Line}
use Rattle.mac_layout.specs.declared.error.AsmCode.{AsmCode}
use Rattle.mac_layout.specs.declared.error.AsmCode.TheVariants.{Syntax, UnknownName, DefinedTwice, DoesNotFit, NotYetDefined, AddressTooHigh, NoEnd}
use Rattle.mac_layout.specs.Addresses.{Labels, size_of, is_settled, first_address, are_apart}
use Rattle.mac_asm.specs.Assembly.{are_below}
use Rattle.asm_laws.specs.Found.{map_of}
use Rattle.mac_layout.specs.LaidOut.{literal_size, is_taken, Layout, empty_layout, taking_all, with_labels, statement_code, line_code, with_line}
use Rattle.asm_laws.specs.Laws.{ranges_from}
use Rattle.asm_laws.specs.Codes.{LineFromAbove, line_from_above, lines_from_above, address_from_above, statement_addresses, sizes_of_literals, literal_addresses_at, is_statement_unfit}
use Rattle.asm_laws.specs.Codes.{is_literal_unfit, has_unfit_literal, has_early_literal, at_end, is_wrong_at, is_wrong, AreRight, IsLeast}
use Rattle.asm_laws.proofs.Unique.{own}
use Rattle.asm_laws.proofs.Apart.{range-apart}
use Rattle.asm_laws.proofs.Fits.{state, range_of}
use Rattle.asm_laws.proofs.Layouts.{AllRight, final, end-code}
use Rattle.asm_laws.proofs.Laying.{end-addresses}
use Rattle.asm_laws.proofs.Least.{told, so, told-none, none-told, told-least, least-is_told, told-same}
use Rattle.asm_laws.proofs.Taking.{Sized, said_of, size_in, early_in, unfit_in, ranges-apart, all-told}
use Rattle.asm_laws.proofs.LineCodes.{measured, literals_in, literals-said, statement-told, line-told, Stood, final-met}

unfit-literals : (given : List Data) (xs : Labels) (p : ℕ) → list_any unfit_in (map (measured xs p) given) ≡ list_any (is_literal_unfit xs p) given
unfit-literals [] xs p = refl
unfit-literals (d ∷ given) xs p = ap (λ b. is_literal_unfit xs p d || b) (unfit-literals given xs p)

early-literals : (given : List Data) (xs : Labels) (p : ℕ)
    → list_any early_in (map (measured xs p) given)
    ≡ has_early_literal (record { labels = xs; address = p; line = record { labels = []; statement = None; literals = given } })
early-literals [] xs p = refl
early-literals (d ∷ given) xs p = ap (λ b. early_in (measured xs p d) || b) (early-literals given xs p)

literal-sizes : (given : List Data) (xs : Labels) (p : ℕ) → map size_in (map (measured xs p) given) ≡ map (size_of xs p) given
literal-sizes [] xs p = refl
literal-sizes (d ∷ given) xs p = ap (λ l. size_of xs p d ∷ l) (literal-sizes given xs p)

any-items : (ab : List LineFromAbove) (test : Sized → Bool) (f : LineFromAbove → Bool) → ((at : LineFromAbove) → list_any test (literals_in at) ≡ f at)
    → list_any test (flat_map literals_in ab) ≡ list_any f ab
any-items [] test f h = refl
any-items (at ∷ ab) test f h =
    list_any-append test (literals_in at) (flat_map literals_in ab)
    ∙ ap (λ b. b || list_any test (flat_map literals_in ab)) (h at)
    ∙ ap (λ b. f at || b) (any-items ab test f h)

any-all : (ab : List LineFromAbove) (at : LineFromAbove) (test : Sized → Bool) (f : LineFromAbove → Bool) → ((at : LineFromAbove) → list_any test (literals_in at) ≡ f at)
    → list_any test (flat_map literals_in ab ++ literals_in at) ≡ (list_any f ab || f at)
any-all ab at test f h =
    list_any-append test (flat_map literals_in ab) (literals_in at)
    ∙ ap (λ b. b || list_any test (literals_in at)) (any-items ab test f h)
    ∙ ap (λ b. list_any f ab || b) (h at)

sizes-items : (ab : List LineFromAbove) → map size_in (flat_map literals_in ab) ≡ flat_map sizes_of_literals ab
sizes-items [] = refl
sizes-items (at ∷ ab) =
    map-append size_in (literals_in at) (flat_map literals_in ab)
    ∙ ap (λ l. l ++ map size_in (flat_map literals_in ab)) (literal-sizes at.line.literals at.labels at.address)
    ∙ ap (λ l. sizes_of_literals at ++ l) (sizes-items ab)

sizes-all : (ab : List LineFromAbove) (at : LineFromAbove)
    → map size_in (flat_map literals_in ab ++ literals_in at) ≡ flat_map sizes_of_literals ab ++ sizes_of_literals at
sizes-all ab at =
    map-append size_in (flat_map literals_in ab) (literals_in at)
    ∙ ap (λ l. l ++ map size_in (literals_in at)) (sizes-items ab)
    ∙ ap (λ l. flat_map sizes_of_literals ab ++ l) (literal-sizes at.line.literals at.labels at.address)

end-quiet : (xs : Labels) (p : ℕ) (s : Option Statement) → is_end_statement s ≡ true
    → (is_statement_unfit xs p s ≡ false) × (is_settled (keys_of xs) s ≡ true)
end-quiet xs p None h = absurd (cc)
end-quiet xs p (Some (statements.Data given)) h = absurd (cc)
end-quiet xs p (Some (statements.Loc e)) h = absurd (cc)
end-quiet xs p (Some (statements.End e)) h = (refl, refl)
end-quiet xs p (Some (statements.Radix n)) h = absurd (cc)
end-quiet xs p (Some statements.Title) h = absurd (cc)

or-none : (a : Bool) → a ≡ (a || false)
or-none true = refl
or-none false = refl

-- the addresses that a line takes, and what is wrong with its statement and at END with literals
abbrev addresses_at : List LineFromAbove → LineFromAbove → List ℕ
addresses_at ab at = statement_addresses at ++ literal_addresses_at ab at

abbrev unfit_at : List LineFromAbove → LineFromAbove → Bool
unfit_at ab at = is_statement_unfit at.labels at.address at.line.statement || at_end has_unfit_literal ab at

abbrev early_at : List LineFromAbove → LineFromAbove → Bool
early_at ab at = not (is_settled (keys_of at.labels) at.line.statement) || at_end has_early_literal ab at

abbrev StatementTold : Labels → ℕ → List ℕ → List LineFromAbove → Line → Type 0
StatementTold xs p ps ab line =
    (statement_code (with_labels (state xs p ps (flat_map statement_addresses ab) (map said_of (flat_map literals_in ab))) line) line.statement
    ≡ told (list_any (is_taken (flat_map statement_addresses ab)) (addresses_at ab (line_from_above xs p line))) (unfit_at ab (line_from_above xs p line))
    (early_at ab (line_from_above xs p line)) (not (are_below (addresses_at ab (line_from_above xs p line)))))
    × (are_apart (addresses_at ab (line_from_above xs p line)) ≡ true)

plain-told : (xs : Labels) (p : ℕ) (ps : List ℕ) (ab : List LineFromAbove) (line : Line) → are_below (flat_map statement_addresses ab) ≡ true
    → is_end line ≡ false
    → StatementTold xs p ps ab line
unfolding with_labels
plain-told xs p ps ab line b h =
    let at = line_from_above xs p line in
    let xs' = xs ++ own p line in
    let t = flat_map statement_addresses ab in
    let r = range_of xs' p line.statement in
    let sz = map said_of (flat_map literals_in ab) ++ map (literal_size xs' p) line.literals in
    let u = is_statement_unfit xs' p line.statement in
    let e = not (is_settled (keys_of xs') line.statement) in
    let addresses : r ≡ addresses_at ab at =
    sym (append-nil r) ∙ ap (λ c. r ++ (if c then ranges_from p (flat_map sizes_of_literals ab ++ sizes_of_literals at) else [])) (sym h) in
    let unfit : u ≡ unfit_at ab at = or-none u ∙ ap (λ c. u || (c && (list_any has_unfit_literal ab || has_unfit_literal at))) (sym h) in
    let early : e ≡ early_at ab at = or-none e ∙ ap (λ c. e || (c && (list_any has_early_literal ab || has_early_literal at))) (sym h) in (
      statement-told xs' p (ps ++ (p ∷ [])) t sz line.statement h b
          ∙ told-same _ _ _ _ (list_any (is_taken t) (addresses_at ab at)) (unfit_at ab at) (early_at ab at) (not (are_below (addresses_at ab at)))
          (ap (list_any (is_taken t)) addresses) unfit early (ap (λ l. not (are_below l)) addresses),
      ap are_apart (sym addresses) ∙ range-apart p _,
    )

end-told : (xs : Labels) (p : ℕ) (ps : List ℕ) (ab : List LineFromAbove) (line : Line) → are_below (flat_map statement_addresses ab) ≡ true
    → is_end line ≡ true
    → StatementTold xs p ps ab line
unfolding with_labels
end-told xs p ps ab line b h =
    let at = line_from_above xs p line in
    let xs' = xs ++ own p line in
    let t = flat_map statement_addresses ab in
    let st = line.statement in
    let items = flat_map literals_in ab ++ literals_in at in
    let sz = map said_of (flat_map literals_in ab) ++ map (literal_size xs' p) line.literals in
    let quiet = end-quiet xs' p st h in
    let sizes : sz ≡ map said_of items =
    ap (λ l. map said_of (flat_map literals_in ab) ++ l) (literals-said line.literals xs' p)
    ∙ sym (map-append said_of (flat_map literals_in ab) (literals_in at)) in
    let ranges = ranges_from p (flat_map sizes_of_literals ab ++ sizes_of_literals at) in
    let ends : ranges ≡ addresses_at ab at =
    ap (λ c. if c then ranges else []) (sym h) ∙ ap (λ l. l ++ (if is_end line then ranges else [])) (sym (end-addresses xs' p st h).0) in
    let addresses : ranges_from p (map size_in items) ≡ addresses_at ab at = ap (ranges_from p) (sizes-all ab at) ∙ ends in
    let unfit : list_any unfit_in items ≡ unfit_at ab at =
    any-all ab at unfit_in has_unfit_literal (λ a. unfit-literals a.line.literals a.labels a.address)
    ∙ ap (λ c. c && (list_any has_unfit_literal ab || has_unfit_literal at)) (sym h)
    ∙ ap (λ c. c || at_end has_unfit_literal ab at) (sym quiet.0) in
    let early : list_any early_in items ≡ early_at ab at =
    any-all ab at early_in has_early_literal (λ a. early-literals a.line.literals a.labels a.address)
    ∙ ap (λ c. c && (list_any has_early_literal ab || has_early_literal at)) (sym h)
    ∙ ap (λ c. not c || at_end has_early_literal ab at) (sym quiet.1) in (
      end-code st (with_labels (state xs p ps t (map said_of (flat_map literals_in ab))) line) h
          ∙ ap (taking_all t p) sizes ∙ all-told items t p b
          ∙ told-same _ _ _ _ (list_any (is_taken t) (addresses_at ab at)) (unfit_at ab at) (early_at ab at) (not (are_below (addresses_at ab at)))
          (ap (list_any (is_taken t)) addresses) unfit early (ap (λ l. not (are_below l)) addresses),
      ap are_apart (sym ends) ∙ ranges-apart _ p,
    )

statement-parts : (xs : Labels) (p : ℕ) (ps : List ℕ) (ab : List LineFromAbove) (line : Line) → are_below (flat_map statement_addresses ab) ≡ true
    → StatementTold xs p ps ab line
statement-parts xs p ps ab line b = elim (cases_Bool (is_end line)) [
  | inl h ↦ end-told xs p ps ab line b h
  | inr h ↦ plain-told xs p ps ab line b h
]

-- the four codes that are looked for, and that they are what is wrong
record Tells (above : List Line) (line : Line) : Type 0 where
  twice : Bool
  unfit : Bool
  early : Bool
  high : Bool
  code : line_code (final empty_layout above) line ≡ told twice unfit early high
  each : (code : AsmCode) → so twice unfit early high code ≡ is_wrong above line code

tells : (above : List Line) (line : Line) → AllRight empty_layout above → Tells above line
unfolding is_wrong are_apart
tells above line right =
    let ab = lines_from_above [] first_address above in
    let t = flat_map statement_addresses ab in
    let m = map_of above in
    let p = address_from_above [] first_address above in
    let at = line_from_above m p line in
    let s : Stood (final empty_layout above) m p t (flat_map literals_in ab) = final-met above [] first_address [] [] [] right refl refl refl in
    let l = state m p s.addresses t (map said_of (flat_map literals_in ab)) in
    let st = statement-parts m p s.addresses ab line s.low in
    record {
      twice = not (are_apart (keys_of at.labels) && are_apart (t ++ addresses_at ab at));
      unfit = unfit_at ab at;
      early = early_at ab at;
      high = not (are_below (values_of at.labels) && are_below (t ++ addresses_at ab at));
      code = ap (λ l. line_code l line) s.is
          ∙ line-told m p s.addresses t _ line (addresses_at ab at) (unfit_at ab at) (early_at ab at) s.low_labels s.apart s.low st.1 st.0;
      each = same m p ab line;
    }
  where
    same : (m : Labels) (p : ℕ) (ab : List LineFromAbove) (line : Line) (code : AsmCode) → so
        (not (are_apart (keys_of (line_from_above m p line).labels) && are_apart (flat_map statement_addresses ab ++ addresses_at ab (line_from_above m p line))))
        (unfit_at ab (line_from_above m p line)) (early_at ab (line_from_above m p line))
        (not (are_below (values_of (line_from_above m p line).labels) && are_below (flat_map statement_addresses ab ++ addresses_at ab (line_from_above m p line)))) code
        ≡ is_wrong_at ab (line_from_above m p line) code
    same m p ab line Syntax = refl
    same m p ab line UnknownName = refl
    same m p ab line DefinedTwice = refl
    same m p ab line DoesNotFit = refl
    same m p ab line NotYetDefined = refl
    same m p ab line AddressTooHigh = refl
    same m p ab line NoEnd = refl

pub right-none : (above : List Line) (line : Line) → AllRight empty_layout above → ((code : AsmCode) → is_wrong above line code ≡ false)
    → line_code (final empty_layout above) line ≡ None
right-none above line r h =
    let t = tells above line r in
    t.code ∙ none-told t.twice t.unfit t.early t.high (λ code. t.each code ∙ h code)

pub none-right : (above : List Line) (line : Line) → AllRight empty_layout above → line_code (final empty_layout above) line ≡ None
    → (code : AsmCode) → is_wrong above line code ≡ false
none-right above line r h code =
    let t = tells above line r in
    sym (t.each code) ∙ told-none t.twice t.unfit t.early t.high (sym t.code ∙ h) code

pub code-least : (above : List Line) (line : Line) (code : AsmCode) → AllRight empty_layout above
    → line_code (final empty_layout above) line ≡ Some code
    → IsLeast (is_wrong above line) code
code-least above line code r h =
    let t = tells above line r in
    let l = told-least t.twice t.unfit t.early t.high code (sym t.code ∙ h) in
    record { so = sym (t.each code) ∙ l.so; least = λ other less. sym (t.each other) ∙ l.least other less }

pub least-code : (above : List Line) (line : Line) (code : AsmCode) → AllRight empty_layout above
    → IsLeast (is_wrong above line) code
    → line_code (final empty_layout above) line ≡ Some code
least-code above line code r l =
    let t = tells above line r in
    t.code ∙ least-is_told t.twice t.unfit t.early t.high code
    (record { so = t.each code ∙ l.so; least = λ other less. t.each other ∙ l.least other less })

-- lines of which none is told are those with which nothing is wrong
each-right : (above : List Line) (line : Line) (below : List Line) (s : Layout) → AllRight s (above ++ (line ∷ below))
    → AllRight s above × (line_code (final s above) line ≡ None)
each-right [] line below s h = (tt, h.0)
each-right (first ∷ above) line below s h =
    let i = each-right above line below (with_line s first) h.1 in
    ((h.0, i.0), i.1)

and-right : (above : List Line) (line : Line) (s : Layout) → AllRight s above → line_code (final s above) line ≡ None
    → AllRight s (above ++ (line ∷ []))
and-right [] line s h k = (k, tt)
and-right (first ∷ above) line s h k = (h.0, and-right above line (with_line s first) h.1 k)

pub all-are : (lines : List Line) → AllRight empty_layout lines → AreRight lines
all-are lines h above line below e code =
    let i = each-right above line below empty_layout (subst (AllRight empty_layout) e h) in
    none-right above line i.0 i.1 code

all-from : (rest above : List Line) → AllRight empty_layout above → AreRight (above ++ rest) → AllRight empty_layout (above ++ rest)
all-from [] above h k = subst (AllRight empty_layout) (sym (append-nil above)) h
all-from (line ∷ rest) above h k =
    let same : (above ++ (line ∷ [])) ++ rest ≡ above ++ (line ∷ rest) = append_assoc above (line ∷ []) rest in
    subst (AllRight empty_layout) same
    (all-from rest (above ++ (line ∷ [])) (and-right above line empty_layout h (right-none above line h (k above line rest refl)))
    (subst AreRight (sym same) k))

pub are-all : (lines : List Line) → AreRight lines → AllRight empty_layout lines
are-all lines h = all-from lines [] tt h
