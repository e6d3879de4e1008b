-- The code of a fault in lines that were read names what is not so of them.
use Rattle.std.proofs.Common.{◌≡◌, ◌∙◌, sym, ap, subst, map, ℕ, ◌+◌, Bool, true, false, ◌&&◌, List, [], ◌∷◌, length}
use Rattle.std.proofs.Common.{is_some, unwrap_or, Option, Some, None, Result, Ok, Err, refl}
use Rattle.std.specs.Prelude.{if◌then◌else◌}
use Rattle.std.specs.List.{list_all}
use Rattle.std.specs.Map.{keys_of, values_of}
use Rattle.std.proofs.lemmas.Bool.{and_parts, and_left, and_right, false_from_ne_true}
use Rattle.mac_text.specs.Lines.{program_of}
use Rattle.mac_text.specs.declared.syntax.Line.{Line}
use Rattle.mac_layout.specs.declared.error.AsmCode.{AsmCode}
use Rattle.mac_layout.specs.declared.error.AsmCode.TheVariants.{UnknownName, DefinedTwice, DoesNotFit, NotYetDefined, AddressTooHigh, NoEnd}
use Rattle.mac_layout.specs.Values.{◌>>=◌}
use Rattle.mac_layout.specs.Addresses.{Placed, literal_sizes, are_settled, first_address, are_apart}
use Rattle.mac_asm.specs.Assembly.{lines_at, literal_addresses, lines_placed, all_statement_words, all_literal_words}
use Rattle.mac_asm.specs.Assembly.{words_at, have_words, are_allowed, start_at, are_below}
use Rattle.asm_laws.specs.Found.{map_of}
use Rattle.mac_layout.specs.Faults.{Fault, unless_fault}
use Rattle.mac_layout.specs.LaidOut.{Layout, empty_layout, laid_out, addresses_of_literals}
use Rattle.mac_asm.specs.Outcome.{lines_with, line_words, has_start, is_line_known, value_code, words_given}
use Rattle.mac_asm.specs.Outcome.{outcome_placed, outcome_from, has_end, outcome_read, outcome_of}
use Rattle.asm_laws.specs.Faults.{all_fit, TellsCode}
use Rattle.asm_laws.specs.Laws.{addresses_taken}
use Rattle.asm_laws.proofs.Options.{bind_some, known-some}
use Rattle.asm_laws.proofs.Ends.{ends_once, end-is-last}
use Rattle.asm_laws.proofs.Given.{gather-words}
use Rattle.asm_laws.proofs.Told.{laid-placed, line_at, placed-lines, start-all}
use Rattle.asm_laws.proofs.Phases.{of_layout, of_values, layout-codes, values-codes}
use Rattle.asm_laws.proofs.Laying.{laid-clear}
use Rattle.asm_laws.proofs.Passed.{and-err, image-err}

-- a fault is told of END that is missing, of laying out, or of values
pub told-from : (lines : List Line) (r : Result Layout Fault) (fault : Fault) (Q : Type 0) → outcome_from lines r ≡ Err fault
    → (r ≡ Err fault → Q)
    → ((s : Layout) → r ≡ Ok s → words_given 1 (lines_with s.labels s.addresses (addresses_of_literals s) lines) ≡ Err fault → Q)
    → Q
unfolding outcome_placed
told-from lines (Ok s) fault Q h f g =
    let at = lines_with s.labels s.addresses (addresses_of_literals s) lines in
    g s refl (image-err (unwrap_or (start_at at) first_address) (words_given 1 at) fault h)
told-from lines (Err e) fault Q h f g = f (cc)

told-if : (b : Bool) (lines : List Line) (fault : Fault) (Q : Type 0) → has_end lines ≡ b
    → (if b then outcome_from lines (laid_out empty_layout 1 lines) else Err (record { line = length lines; code = NoEnd })) ≡ Err fault
    → (fault.code ≡ NoEnd → Q)
    → (has_end lines ≡ true → laid_out empty_layout 1 lines ≡ Err fault → Q)
    → (has_end lines ≡ true → words_given 1 (lines_placed (map_of lines) lines) ≡ Err fault → Q)
    → Q
told-if true lines fault Q e h f g k =
    told-from lines (laid_out empty_layout 1 lines) fault Q h (g e)
    (λ s l w. k e (subst (λ x. words_given 1 x ≡ Err fault) (laid-placed lines s e l) w))
told-if false lines fault Q e h f g k =
    let told : Fault = record { line = length lines; code = NoEnd } in
    let same : told ≡ fault = cc in
    f (ap (λ x. x.code) (sym same))

told-by : (source : List ℕ) (lines : List Line) (fault : Fault) (Q : Type 0) → program_of source ≡ Ok lines → outcome_of source ≡ Err fault
    → (fault.code ≡ NoEnd → Q)
    → (ends_once lines ≡ true → laid_out empty_layout 1 lines ≡ Err fault → Q)
    → (ends_once lines ≡ true → words_given 1 (lines_placed (map_of lines) lines) ≡ Err fault → Q)
    → Q
unfolding outcome_of outcome_read
told-by source lines fault Q r h f g k =
    told-if (has_end lines) lines fault Q refl (ap outcome_read (sym r) ∙ h) f
    (λ e. g (end-is-last source lines r e))
    (λ e. k (end-is-last source lines r e))

-- tests that one code alone fails
abbrev not_twice : AsmCode → Bool
not_twice DefinedTwice = false
not_twice _ = true

abbrev not_high : AsmCode → Bool
not_high AddressTooHigh = false
not_high _ = true

abbrev not_unfit : AsmCode → Bool
not_unfit DoesNotFit = false
not_unfit _ = true

abbrev not_early : AsmCode → Bool
not_early NotYetDefined = false
not_early _ = true

true-false : {A : Type 0} → true ≡ false → A
true-false h = absurd (cc)

-- a code that no fault of laying out has
laid-without : (lines : List Line) (q : AsmCode → Bool) (fault : Fault) → are_settled [] lines ≡ true
    → (q DefinedTwice ≡ false → (are_apart (keys_of (map_of lines)) && are_apart (addresses_taken (map_of lines) lines)) ≡ true)
    → (q AddressTooHigh ≡ false → (are_below (values_of (map_of lines)) && are_below (addresses_taken (map_of lines) lines)) ≡ true)
    → (q DoesNotFit ≡ false → all_fit (map_of lines) lines ≡ true)
    → ends_once lines ≡ true → laid_out empty_layout 1 lines ≡ Err fault
    → q fault.code ≡ true
unfolding words_at are_apart
laid-without lines q fault s f g k e l =
    let m = map_of lines in
    let at = lines_placed m lines in
    laid-clear lines q [] first_address [] [] (literal_addresses m lines) [] 1 fault
    (record {
      settled = s;
      labels_once = λ n. (and_parts (are_apart (keys_of m)) (are_apart (addresses_taken m lines)) (f n)).0;
      labels_low = λ n. (and_parts (are_below (values_of m)) (are_below (addresses_taken m lines)) (g n)).0;
      once = λ n. (and_parts (are_apart (keys_of m)) (are_apart (addresses_taken m lines)) (f n)).1;
      low = λ n. (and_parts (are_below (values_of m)) (are_below (addresses_taken m lines)) (g n)).1;
      sized = λ n. (and_parts (have_words (literal_sizes m (lines_at m lines))) _ (k n)).0;
      allowed = λ n. (and_parts (are_allowed at) _ (and_parts (have_words (literal_sizes m (lines_at m lines))) _ (k n)).1).0;
      given = λ n. own-words (all_statement_words at) _
          (and_parts (is_some (words_at at)) (is_some (start_at at))
          (and_parts (are_allowed at) _ (and_parts (have_words (literal_sizes m (lines_at m lines))) _ (k n)).1).1).0;
    })
    e refl refl l
  where
    own-words : (o : Option (List (ℕ × ℕ))) (f : List (ℕ × ℕ) → Option (List (ℕ × ℕ))) → is_some (o >>= f) ≡ true
        → (words : List (ℕ × ℕ)) × (o ≡ Some words)
    own-words None f h = absurd (cc)
    own-words (Some words) f h = (words, refl)

no-both : (r : Result (List (ℕ × ℕ)) Fault) (ws : List (ℕ × ℕ)) (fault : Fault) → r ≡ Ok ws → r ≡ Err fault → ⊥
no-both r ws fault h k = cc

-- where all values fit, the words are given
values-fit : (lines : List Line) (fault : Fault) → ends_once lines ≡ true → all_fit (map_of lines) lines ≡ true
    → words_given 1 (lines_placed (map_of lines) lines) ≡ Err fault
    → ⊥
unfolding words_at
values-fit lines fault e h w =
    let m = map_of lines in
    let at = lines_placed m lines in
    let p = and_parts (have_words (literal_sizes m (lines_at m lines))) _ h in
    let r = and_parts (are_allowed at) _ p.1 in
    let k = and_parts (is_some (words_at at)) (is_some (start_at at)) r.1 in
    let words = known-some (words_at at) k.0 in
    let start = known-some (start_at at) k.1 in
    let o = bind_some (all_statement_words at) _ words.0 words.1 in
    let l = bind_some (all_literal_words at) _ words.0 o.2 in
    let ends : ends_once (map line_at at) ≡ true = ap ends_once (placed-lines lines m first_address (literal_addresses m lines)) ∙ e in
    let g = gather-words at 1 o.0 l.0 o.1 l.1 (start-all at start.0 ends start.1) in
    no-both (words_given 1 at) g.0 fault g.1 w

-- a name is told to be unknown where one is
told-unknown : (a b : Bool) → (if a then None else Some (if b then DoesNotFit else UnknownName)) ≡ Some UnknownName → b ≡ false
told-unknown true b h = absurd (cc)
told-unknown false true h = absurd (cc)
told-unknown false false h = refl

unless-told : {A : Type 0} (n : ℕ) (o : Option AsmCode) (r : Result A Fault) (fault : Fault) (Q : Type 0) → unless_fault n o r ≡ Err fault
    → (o ≡ Some fault.code → Q) → (r ≡ Err fault → Q)
    → Q
unless-told n None r fault Q h f g = g h
unless-told n (Some code) r fault Q h f g =
    let told : Fault = record { line = n; code = code } in
    let same : told ≡ fault = cc in
    f (ap (λ x. Some x.code) same)

unknown-line : (lines : List Placed) (n : ℕ) (fault : Fault) → words_given n lines ≡ Err fault → fault.code ≡ UnknownName
    → list_all is_line_known lines ≡ false
unfolding words_given value_code
unknown-line [] n fault h k = absurd (cc)
unknown-line (at ∷ later) n fault h k =
    unless-told n (value_code at) _ fault (list_all is_line_known (at ∷ later) ≡ false) h
    (λ e. and_left (is_line_known at) (list_all is_line_known later)
    (told-unknown (is_some (line_words at) && has_start at.names at.line.statement) (is_line_known at) (e ∙ ap Some k)))
    (λ e. and_right (is_line_known at) (list_all is_line_known later)
    (unknown-line later (n + 1) fault (and-err _ (words_given (n + 1) later) fault e) k))

-- that a fault has a code that it cannot have
wrong : {A : Type 0} (q : AsmCode → Bool) (code other : AsmCode) → code ≡ other → q other ≡ false → q code ≡ true → A
wrong q code other e f h = true-false (sym h ∙ ap q e ∙ f)

no-layout : {A : Type 0} (lines : List Line) (fault : Fault) (code : AsmCode) → fault.code ≡ code → of_layout code ≡ false
    → laid_out empty_layout 1 lines ≡ Err fault → A
no-layout lines fault code e f l = wrong of_layout fault.code code e f (layout-codes lines empty_layout 1 fault l refl)

no-values : {A : Type 0} (lines : List Placed) (fault : Fault) (code : AsmCode) → fault.code ≡ code → of_values code ≡ false
    → words_given 1 lines ≡ Err fault → A
no-values lines fault code e f w = wrong of_values fault.code code e f (values-codes lines 1 fault w)

-- END is not missing where another code is told
abbrev is_no_end : AsmCode → Bool
is_no_end NoEnd = true
is_no_end _ = false

no-end : {A : Type 0} (code other : AsmCode) → code ≡ other → is_no_end other ≡ false → code ≡ NoEnd → A
no-end code other e f h = wrong is_no_end code other e f (ap is_no_end h)

pub codes-told : (source : List ℕ) (lines : List Line) (fault : Fault) → program_of source ≡ Ok lines → outcome_of source ≡ Err fault
    → TellsCode lines fault.code
codes-told source lines fault r h =
    let m = map_of lines in
    let at = lines_placed m lines in
    record {
      not_yet = λ e. false_from_ne_true (are_settled [] lines)
          (λ s. told-by source lines fault ⊥ r h
          (no-end fault.code NotYetDefined e refl)
          (λ o l. wrong not_early fault.code NotYetDefined e refl (laid-without lines not_early fault s true-false true-false true-false o l))
          (λ o w. no-values at fault NotYetDefined e refl w));
      twice = λ e s. false_from_ne_true (are_apart (keys_of m) && are_apart (addresses_taken m lines))
          (λ k. told-by source lines fault ⊥ r h
          (no-end fault.code DefinedTwice e refl)
          (λ o l. wrong not_twice fault.code DefinedTwice e refl (laid-without lines not_twice fault s (λ n. k) true-false true-false o l))
          (λ o w. no-values at fault DefinedTwice e refl w));
      high = λ e s. false_from_ne_true (are_below (values_of m) && are_below (addresses_taken m lines))
          (λ k. told-by source lines fault ⊥ r h
          (no-end fault.code AddressTooHigh e refl)
          (λ o l. wrong not_high fault.code AddressTooHigh e refl (laid-without lines not_high fault s true-false (λ n. k) true-false o l))
          (λ o w. no-values at fault AddressTooHigh e refl w));
      unfit = λ e s. false_from_ne_true (all_fit m lines)
          (λ k. told-by source lines fault ⊥ r h
          (no-end fault.code DoesNotFit e refl)
          (λ o l. wrong not_unfit fault.code DoesNotFit e refl (laid-without lines not_unfit fault s true-false true-false (λ n. k) o l))
          (λ o w. values-fit lines fault o k w));
      unknown = λ e. told-by source lines fault (list_all is_line_known at ≡ false) r h
          (no-end fault.code UnknownName e refl)
          (λ o l. no-layout lines fault UnknownName e refl l)
          (λ o w. unknown-line at 1 fault w e);
    }
