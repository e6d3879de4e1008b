-- Lines are laid out without a code where nothing that it names is so.
use Rattle.std.proofs.Common.{◌≡◌, ◌∙◌, sym, ap, subst, ℕ, ◌+◌, Bool, true, false, List, [], ◌∷◌, ◌++◌, length, map, take}
use Rattle.std.proofs.Common.{drop, flat_map, Option, Some, None, Result, Err, refl, append_assoc}
use Rattle.std.specs.Prelude.{not}
use Rattle.std.specs.List.{range_with_len, list_all}
use Rattle.std.specs.Map.{keys_of, values_of}
use Rattle.std.proofs.lemmas.List.{append-nil, map-append}
use Rattle.std.proofs.lemmas.Bool.{and_parts, and_from, not-true}
use Rattle.std.proofs.lemmas.List.Folds.{list_all-append}
use Rattle.mac_text.specs.Lines.{is_end, is_end_statement}
use Rattle.mac_text.specs.declared.syntax.Statement.{Statement}
use Rattle.mac_text.specs.declared.syntax.Statement.TheVariants as statements
use Rattle.mac_text.specs.declared.syntax.Line.{Line}
use Rattle.mac_layout.specs.declared.error.AsmCode.{AsmCode}
use Rattle.mac_layout.specs.declared.error.AsmCode.TheVariants.{DefinedTwice, DoesNotFit, AddressTooHigh}
use Rattle.mac_layout.specs.Addresses.{Labels, names_at, size_of, address_behind, Located, located, address_after, literal_sizes}
use Rattle.mac_layout.specs.Addresses.{placed, is_count_settled, is_settled, are_settled, are_apart}
use Rattle.mac_asm.specs.Assembly.{statement_words, all_statement_words, allows, are_allowed, have_words, are_below}
use Rattle.asm_laws.specs.Found.{labels_from_above}
use Rattle.mac_layout.specs.Faults.{Fault, unless_fault}
use Rattle.mac_layout.specs.LaidOut.{count_or, literal_size, with_labels, with_statement, taken_by, address_by, statement_code, line_code, with_line, laid_out}
use Rattle.asm_laws.specs.Laws.{addresses_of, ranges_from}
use Rattle.asm_laws.proofs.Options.{bind_some}
use Rattle.asm_laws.proofs.Unique.{own, labels_in, Settled, settled_parts}
use Rattle.asm_laws.proofs.Found.{met}
use Rattle.asm_laws.proofs.Apart.{apart-parts}
use Rattle.asm_laws.proofs.Counts.{counts}
use Rattle.asm_laws.proofs.Ends.{ends_once}
use Rattle.asm_laws.proofs.Fits.{state, range_of, StatementFits, statement-fits, address-fits, taken-fits}
use Rattle.asm_laws.proofs.Layouts.{Kept, kept, end-code, line-statement, state-same}
use Rattle.asm_laws.proofs.Wholes.{statement-counted, words-append}
use Rattle.asm_laws.proofs.Phases.{passes, may_fail}
use Rattle.asm_laws.proofs.Clear.{below-append, all-clear, literals-counted, literals-clear, statement-clear, line-clear}

-- nothing is so of lines that a code names that fails the test, behind labels, addresses and sizes of literals above them
pub record Clear (q : AsmCode → Bool) (m xs : Labels) (t zs lits : List ℕ) (lines : List Line) (ats : List Located) (end : ℕ) : Type 0 where
  pub settled : are_settled (keys_of xs) lines ≡ true
  pub labels_once : q DefinedTwice ≡ false → are_apart (keys_of m) ≡ true
  pub labels_low : q AddressTooHigh ≡ false → are_below (values_of m) ≡ true
  pub once : q DefinedTwice ≡ false
      → are_apart ((t ++ flat_map (addresses_of m) ats) ++ ranges_from end (zs ++ literal_sizes m ats)) ≡ true
  pub low : q AddressTooHigh ≡ false → are_below (flat_map (addresses_of m) ats ++ ranges_from end (zs ++ literal_sizes m ats)) ≡ true
  pub sized : q DoesNotFit ≡ false → have_words (literal_sizes m ats) ≡ true
  pub allowed : q DoesNotFit ≡ false → are_allowed (placed m ats lits) ≡ true
  pub given : q DoesNotFit ≡ false → (words : List (ℕ × ℕ)) × (all_statement_words (placed m ats lits) ≡ Some words)

abbrev next_address : Labels → ℕ → Line → ℕ
next_address xs p line = address_behind (xs ++ own p line) p line.statement

-- what is so of the first line, and of those behind it
record Step (q : AsmCode → Bool) (m xs : Labels) (p : ℕ) (t zs lits : List ℕ) (line : Line) (lines : List Line) : Type 0 where
  settled : is_settled (keys_of (xs ++ own p line)) line.statement ≡ true
  literals : list_all (is_count_settled (keys_of (xs ++ own p line))) line.literals ≡ true
  labels_once : q DefinedTwice ≡ false → are_apart (keys_of (xs ++ own p line)) ≡ true
  labels_low : q AddressTooHigh ≡ false → are_below (values_of (xs ++ own p line)) ≡ true
  once : q DefinedTwice ≡ false → are_apart (t ++ range_of (xs ++ own p line) p line.statement) ≡ true
  low : q AddressTooHigh ≡ false → are_below (range_of (xs ++ own p line) p line.statement) ≡ true
  counted : q DoesNotFit ≡ false → counts (xs ++ own p line) p line.statement ≡ true
  sized : q DoesNotFit ≡ false → have_words (map (size_of (xs ++ own p line) p) line.literals) ≡ true
  later :
      Clear q m (xs ++ own p line) (t ++ range_of (xs ++ own p line) p line.statement)
      (zs ++ map (size_of (xs ++ own p line) p) line.literals) (drop (length line.literals) lits) lines
      (located m (next_address xs p line) lines) (address_after m (next_address xs p line) lines)

step : (line : Line) (lines : List Line) (q : AsmCode → Bool) (xs : Labels) (p : ℕ) (t zs lits : List ℕ)
    → Clear q (labels_from_above xs p (line ∷ lines)) xs t zs lits (line ∷ lines) (located (labels_from_above xs p (line ∷ lines)) p (line ∷ lines))
    (address_after (labels_from_above xs p (line ∷ lines)) p (line ∷ lines))
    → Step q (labels_from_above xs p (line ∷ lines)) xs p t zs lits line lines
unfolding labels_from_above located placed address_after all_statement_words
step line lines q xs p t zs lits c =
    let xs' = xs ++ own p line in
    let p' = next_address xs p line in
    let m = labels_from_above xs' p' lines in
    let st = line.statement in
    let s : Settled xs p line lines = settled_parts xs p line lines c.settled in
    let ys = labels_in m p' lines in
    let e : m ≡ xs' ++ ys = met lines p' xs' s.later in
    let k : Kept m xs' p line = kept m xs' ys p line e s.statement s.literals in
    let rest = located m p' lines in
    let end = address_after m p' lines in
    let v : Clear q m xs t zs lits (line ∷ lines) (record { address = p; line = line } ∷ rest) end =
    subst (λ x. Clear q m xs t zs lits (line ∷ lines) (record { address = p; line = line } ∷ located m x lines) (address_after m x lines)) k.address c in
    let own_addresses = take (length line.literals) lits in
    let r = range_of m p st in
    let r' = range_of xs' p st in
    let f = flat_map (addresses_of m) rest in
    let z = map (size_of m p) line.literals in
    let z' = map (size_of xs' p) line.literals in
    let more = literal_sizes m rest in
    let front : (t ++ r') ++ f ≡ t ++ (r ++ f) = append_assoc t r' f ∙ ap (λ n. t ++ (range_with_len p n ++ f)) (sym k.size) in
    let sizes : (zs ++ z') ++ more ≡ zs ++ (z ++ more) = append_assoc zs z' more ∙ ap (λ l. zs ++ (l ++ more)) (sym k.sizes) in
    let ends = ranges_from end ((zs ++ z') ++ more) in
    let once : q DefinedTwice ≡ false → are_apart (((t ++ r') ++ f) ++ ends) ≡ true =
    λ n. ap (λ l. are_apart (l ++ ends)) front ∙ ap (λ l. are_apart ((t ++ (r ++ f)) ++ ranges_from end l)) sizes ∙ v.once n in
    let low : q AddressTooHigh ≡ false → are_below (r ++ (f ++ ends)) ≡ true =
    λ n. ap are_below (sym (append_assoc r f ends)) ∙ ap (λ l. are_below ((r ++ f) ++ ranges_from end l)) sizes ∙ v.low n in
    let words = λ (n : q DoesNotFit ≡ false). bind_some (statement_words (names_at m p own_addresses) st) _ ((v.given n).0) ((v.given n).1) in
    record {
      settled = s.statement;
      literals = s.literals;
      labels_once = λ n. (apart-parts (keys_of xs') (keys_of ys) (ap are_apart (sym (ap keys_of e ∙ map-append (λ x. x.0) xs' ys)) ∙ v.labels_once n)).0;
      labels_low = λ n. (below-append (values_of xs') (values_of ys) (ap are_below (sym (ap values_of e ∙ map-append (λ x. x.1) xs' ys)) ∙ v.labels_low n)).0;
      once = λ n. (apart-parts (t ++ r') f (apart-parts ((t ++ r') ++ f) ends (once n)).0).0;
      low = λ n. ap (λ x. are_below (range_with_len p x)) (sym k.size) ∙ (below-append r (f ++ ends) (low n)).0;
      counted =
          λ n. statement-counted m xs' ys p own_addresses st (words n).0 e s.statement
          (and_parts (allows (names_at m p own_addresses) st) _ (v.allowed n)).0 (words n).1;
      sized = λ n. ap have_words (sym k.sizes) ∙ (and_parts (have_words z) (have_words more) (sym (words-append z more) ∙ v.sized n)).0;
      later = record {
        settled = s.later;
        labels_once = v.labels_once;
        labels_low = v.labels_low;
        once = once;
        low = λ n. (below-append r (f ++ ends) (low n)).1;
        sized = λ n. (and_parts (have_words z) (have_words more) (sym (words-append z more) ∙ v.sized n)).1;
        allowed = λ n. (and_parts (allows (names_at m p own_addresses) st) _ (v.allowed n)).1;
        given = λ n. (let l = bind_some (all_statement_words (placed m rest (drop (length line.literals) lits))) _ ((v.given n).0) (words n).2 in (l.0, l.1));
      };
    }

-- END takes no address
pub end-addresses : (xs : Labels) (p : ℕ) (s : Option Statement) → is_end_statement s ≡ true
    → (range_of xs p s ≡ []) × (address_behind xs p s ≡ p)
unfolding address_behind
end-addresses xs p None h = absurd (cc)
end-addresses xs p (Some (statements.Data given)) h = absurd (cc)
end-addresses xs p (Some (statements.Loc e)) h = absurd (cc)
end-addresses xs p (Some (statements.End e)) h = (refl, refl)
end-addresses xs p (Some (statements.Radix n)) h = absurd (cc)
end-addresses xs p (Some statements.Title) h = absurd (cc)

-- the sizes of literals so far, and of a line
sizes-clear : (q : AsmCode → Bool) (sz : List (Result ℕ AsmCode)) (m xs : Labels) (p : ℕ) (t lits : List ℕ) (line : Line) (lines : List Line)
    → Step q m xs p t (map (count_or 0) sz) lits line lines → list_all (may_fail q) sz ≡ true
    → list_all (may_fail q) (sz ++ map (literal_size (xs ++ own p line) p) line.literals) ≡ true
sizes-clear q sz m xs p t lits line lines s h =
    list_all-append (may_fail q) sz (map (literal_size (xs ++ own p line) p) line.literals)
    ∙ and_from _ _ h (literals-clear line.literals q (xs ++ own p line) p s.literals s.sized)

sizes-counted : (q : AsmCode → Bool) (sz : List (Result ℕ AsmCode)) (m xs : Labels) (p : ℕ) (t lits : List ℕ) (line : Line) (lines : List Line)
    → Step q m xs p t (map (count_or 0) sz) lits line lines
    → map (count_or 0) (sz ++ map (literal_size (xs ++ own p line) p) line.literals)
    ≡ map (count_or 0) sz ++ map (size_of (xs ++ own p line) p) line.literals
sizes-counted q sz m xs p t lits line lines s =
    map-append (count_or 0) sz (map (literal_size (xs ++ own p line) p) line.literals)
    ∙ ap (λ l. map (count_or 0) sz ++ l) (literals-counted line.literals (xs ++ own p line) p s.literals)

end-clear : (q : AsmCode → Bool) (m xs : Labels) (p : ℕ) (ps t lits : List ℕ) (sz : List (Result ℕ AsmCode)) (line : Line)
    → Step q m xs p t (map (count_or 0) sz) lits line [] → list_all (may_fail q) sz ≡ true → is_end line ≡ true
    → passes q (statement_code (with_labels (state xs p ps t sz) line) line.statement) ≡ true
unfolding with_labels located address_after
end-clear q m xs p ps t lits sz line s h e =
    let xs' = xs ++ own p line in
    let all = sz ++ map (literal_size xs' p) line.literals in
    let zs = map (count_or 0) sz ++ map (size_of xs' p) line.literals in
    let none = end-addresses xs' p line.statement e in
    let r = range_of xs' p line.statement in
    let p' = address_behind xs' p line.statement in
    let zs_are : map (count_or 0) all ≡ zs = sizes-counted q sz m xs p t lits line [] s in
    let ranges : ranges_from p (map (count_or 0) all) ≡ ranges_from p' (zs ++ []) =
    ap (ranges_from p) (zs_are ∙ sym (append-nil zs)) ∙ ap (λ x. ranges_from x (zs ++ [])) (sym none.1) in
    let front : t ≡ (t ++ r) ++ [] = sym (append-nil t) ∙ ap (λ x. t ++ x) (sym none.0) ∙ sym (append-nil (t ++ r)) in
    ap (passes q) (end-code line.statement (with_labels (state xs p ps t sz) line) e)
    ∙ all-clear all q t p (sizes-clear q sz m xs p t lits line [] s h)
    (λ n. ap (λ l. are_apart (t ++ l)) ranges ∙ ap (λ l. are_apart (l ++ ranges_from p' (zs ++ []))) front ∙ s.later.once n)
    (λ n. ap are_below ranges ∙ s.later.low n)

unless-cases : {A : Type 0} (q : AsmCode → Bool) (n : ℕ) (o : Option AsmCode) (r : Result A Fault) (fault : Fault)
    → unless_fault n o r ≡ Err fault → passes q o ≡ true
    → (o ≡ None → r ≡ Err fault → q fault.code ≡ true)
    → q fault.code ≡ true
unless-cases q n None r fault h k f = f refl h
unless-cases q n (Some code) r fault h k f =
    let told : Fault = record { line = n; code = code } in
    let same : told ≡ fault = cc in
    ap (λ x. q x.code) (sym same) ∙ k

-- the layout behind a line without a fault
pub behind-line : (xs : Labels) (p : ℕ) (ps t : List ℕ) (sz : List (Result ℕ AsmCode)) (line : Line)
    → StatementFits (xs ++ own p line) p t line.statement
    → with_line (state xs p ps t sz) line
    ≡ state (xs ++ own p line) (next_address xs p line) (ps ++ (p ∷ [])) (t ++ range_of (xs ++ own p line) p line.statement)
    (sz ++ map (literal_size (xs ++ own p line) p) line.literals)
unfolding with_labels with_statement
behind-line xs p ps t sz line f =
    let xs' = xs ++ own p line in
    let ps' = ps ++ (p ∷ []) in
    let sz' = sz ++ map (literal_size xs' p) line.literals in
    state-same xs' (address_by (state xs' p ps' t sz') line.statement) (next_address xs p line) ps' ps'
    (t ++ taken_by (state xs' p ps' t sz') line.statement) (t ++ range_of xs' p line.statement) sz' sz'
    (address-fits xs' p ps' t sz' line.statement f) refl (ap (λ l. t ++ l) (taken-fits xs' p ps' t sz' line.statement f)) refl

-- no such code is told
pub laid-clear : (lines : List Line) (q : AsmCode → Bool) (xs : Labels) (p : ℕ) (ps t lits : List ℕ) (sz : List (Result ℕ AsmCode)) (n : ℕ) (fault : Fault)
    → Clear q (labels_from_above xs p lines) xs t (map (count_or 0) sz) lits lines (located (labels_from_above xs p lines) p lines)
    (address_after (labels_from_above xs p lines) p lines)
    → ends_once lines ≡ true → are_apart t ≡ true → list_all (may_fail q) sz ≡ true
    → laid_out (state xs p ps t sz) n lines ≡ Err fault
    → q fault.code ≡ true
unfolding laid_out with_labels labels_from_above
laid-clear [] q xs p ps t lits sz n fault c e a h l = absurd (cc)
laid-clear (line ∷ []) q xs p ps t lits sz n fault c e a h l =
    let s = step line [] q xs p t (map (count_or 0) sz) lits c in
    unless-cases q n (line_code (state xs p ps t sz) line) _ fault l
    (line-clear q xs p ps t sz line s.labels_once s.labels_low (end-clear q (labels_from_above xs p (line ∷ [])) xs p ps t lits sz line s h e))
    (λ o r. absurd (cc))
laid-clear (line ∷ next ∷ lines) q xs p ps t lits sz n fault c e a h l =
    let xs' = xs ++ own p line in
    let st = line.statement in
    let later = next ∷ lines in
    let b = and_parts (not (is_end line)) (ends_once later) e in
    let m = labels_from_above xs p (line ∷ later) in
    let s = step line later q xs p t (map (count_or 0) sz) lits c in
    let ps' = ps ++ (p ∷ []) in
    let sz' = sz ++ map (literal_size xs' p) line.literals in
    unless-cases q n (line_code (state xs p ps t sz) line) _ fault l
    (line-clear q xs p ps t sz line s.labels_once s.labels_low
    (statement-clear q xs' p ps' t sz' st s.settled (not-true (is_end line) b.0) s.counted s.once s.low))
    (λ o r. (let f = statement-fits xs' p ps' t sz' st (line-statement (state xs p ps t sz) line o) a in
    laid-clear (next ∷ lines) q xs' (next_address xs p line) ps' (t ++ range_of xs' p st) (drop (length line.literals) lits) sz' (n + 1) fault
    (subst
    (λ z. Clear q m xs' (t ++ range_of xs' p st) z (drop (length line.literals) lits) later
    (located m (next_address xs p line) later) (address_after m (next_address xs p line) later))
    (sym (sizes-counted q sz m xs p t lits line later s)) s.later)
    b.1 f.once (sizes-clear q sz m xs p t lits line later s h)
    (subst (λ x. laid_out x (n + 1) later ≡ Err fault) (behind-line xs p ps t sz line f) r)))
