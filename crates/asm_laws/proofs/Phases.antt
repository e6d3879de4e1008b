-- Which codes are told of reading, of laying out and of values.
use Rattle.std.proofs.Common.{◌≡◌, ◌∙◌, sym, ap, ℕ, ◌+◌, Bool, true, false, List, [], ◌∷◌, ◌++◌, length, map}
use Rattle.std.proofs.Common.{Option, Some, None, Result, Ok, Err, unwrap_or, refl}
use Rattle.std.specs.Prelude.{◌↔◌, ◌&&◌, ◌==◌, nat_le, is_some, if◌then◌else◌}
use Rattle.std.specs.List.{list_all}
use Rattle.std.specs.Map.{keys_of}
use Rattle.std.proofs.lemmas.Bool.{and_parts, and_from}
use Rattle.std.proofs.lemmas.List.Folds.{list_all-append}
use Rattle.mac_text.specs.Lines.{program_of}
use Rattle.mac_text.specs.declared.syntax.SignedTerm.{SignedTerm}
use Rattle.mac_text.specs.declared.syntax.Data.{Data}
use Rattle.mac_text.specs.declared.syntax.Data.TheVariants as data_of
use Rattle.mac_text.specs.declared.syntax.Statement.{Statement}
use Rattle.mac_text.specs.declared.syntax.Statement.TheVariants as statements
use Rattle.mac_text.specs.declared.syntax.Line.{Line}
use Rattle.mac_layout.specs.declared.error.AsmCode.{AsmCode}
use Rattle.mac_layout.specs.declared.error.AsmCode.TheVariants.{Syntax, UnknownName, DefinedTwice, DoesNotFit, NotYetDefined, AddressTooHigh, NoEnd}
use Rattle.std.specs.Prelude.{ℤ}
use Rattle.mac_layout.specs.Values.{value_of, natural_of}
use Rattle.mac_layout.specs.Addresses.{Labels, names_at, Placed, first_address, are_apart}
use Rattle.mac_asm.specs.Assembly.{Assembled, start_at}
use Rattle.mac_layout.specs.Faults.{Fault, number_of, least, code_if, code_of, unless_fault}
use Rattle.mac_layout.specs.LaidOut.{count_if, count_from, count_or, checked_count, checked_size, at_least_one, literal_size, Layout}
use Rattle.mac_layout.specs.LaidOut.{empty_layout, addresses_in, taking, taking_size, taking_all, labels_code, with_labels, with_statement}
use Rattle.mac_layout.specs.LaidOut.{statement_code, line_code, laid_out, addresses_of_literals, with_line as layout_behind}
use Rattle.mac_asm.specs.Outcome.{lines_with, line_words, has_start, is_line_known, value_code, words_given}
use Rattle.mac_asm.specs.Outcome.{outcome_placed, outcome_from, has_end, outcome_read, outcome_of}
use Rattle.asm_laws.proofs.Unique.{own}
use Rattle.asm_laws.proofs.Passed.{and-err, image-err}

-- the codes of laying out, and those of values
abbrev pub of_layout : AsmCode → Bool
of_layout DefinedTwice = true
of_layout DoesNotFit = true
of_layout NotYetDefined = true
of_layout AddressTooHigh = true
of_layout _ = false

abbrev pub of_values : AsmCode → Bool
of_values UnknownName = true
of_values DoesNotFit = true
of_values _ = false

abbrev pub passes : (AsmCode → Bool) → Option AsmCode → Bool
passes q None = true
passes q (Some code) = q code

abbrev pub may_fail : (AsmCode → Bool) → Result ℕ AsmCode → Bool
may_fail q (Ok n) = true
may_fail q (Err code) = q code

passes-if : (q : AsmCode → Bool) (b : Bool) (x y : AsmCode) → q x ≡ true → q y ≡ true → passes q (if b then Some x else Some y) ≡ true
passes-if q true x y h k = h
passes-if q false x y h k = k

pub passes-least : (q : AsmCode → Bool) (a b : Option AsmCode) → passes q a ≡ true → passes q b ≡ true → passes q (least a b) ≡ true
unfolding least
passes-least q None b h k = k
passes-least q (Some x) None h k = h
passes-least q (Some x) (Some y) h k = passes-if q (nat_le (number_of x) (number_of y)) x y h k

pub passes-code_if : (q : AsmCode → Bool) (w : Bool) (code : AsmCode) → q code ≡ true → passes q (code_if w code) ≡ true
passes-code_if q true code h = h
passes-code_if q false code h = refl

passes-code_of : (q : AsmCode → Bool) (r : Result ℕ AsmCode) → may_fail q r ≡ true → passes q (code_of r) ≡ true
passes-code_of q (Ok n) h = refl
passes-code_of q (Err code) h = h

layout-taking : (t : List ℕ) (p n : ℕ) → passes of_layout (taking t p n) ≡ true
unfolding taking
layout-taking t p n = passes-least of_layout _ _ (passes-code_if of_layout _ DefinedTwice refl) (passes-code_if of_layout _ AddressTooHigh refl)

layout-taking_size : (t : List ℕ) (p : ℕ) (r : Result ℕ AsmCode) → may_fail of_layout r ≡ true → passes of_layout (taking_size t p r) ≡ true
layout-taking_size t p (Ok n) h = layout-taking t p n
layout-taking_size t p (Err code) h = h

layout-taking_all : (sizes : List (Result ℕ AsmCode)) (t : List ℕ) (p : ℕ) → list_all (may_fail of_layout) sizes ≡ true
    → passes of_layout (taking_all t p sizes) ≡ true
unfolding taking_all
layout-taking_all [] t p h = refl
layout-taking_all (r ∷ sizes) t p h =
    let b = and_parts (may_fail of_layout r) _ h in
    passes-least of_layout _ _ (layout-taking_size t p r b.0)
    (layout-taking_all sizes (t ++ addresses_in p (count_or 0 r)) (p + count_or 0 r) b.1)

layout-count_if : (o : Option ℕ) → may_fail of_layout (count_if o) ≡ true
layout-count_if None = refl
layout-count_if (Some n) = refl

layout-count_from : (v : Option ℤ) → may_fail of_layout (count_from v) ≡ true
layout-count_from None = refl
layout-count_from (Some sum) = layout-count_if (natural_of sum)

layout-count : (xs : Labels) (here : ℕ) (e : List SignedTerm) → may_fail of_layout (checked_count xs here e) ≡ true
unfolding checked_count
layout-count xs here e = layout-count_from (value_of (names_at xs here []) e)

layout-size : (xs : Labels) (here : ℕ) (given : Data) → may_fail of_layout (checked_size xs here given) ≡ true
unfolding checked_size
layout-size xs here (data_of.Value e) = refl
layout-size xs here (data_of.Halves l r) = refl
layout-size xs here (data_of.Iowd n a) = refl
layout-size xs here (data_of.Exp es) = refl
layout-size xs here (data_of.Point n o p) = refl
layout-size xs here (data_of.Text form text) = refl
layout-size xs here (data_of.Block count) = layout-count xs here count
layout-size xs here (data_of.Instruction given) = refl

layout-least_one : (r : Result ℕ AsmCode) → may_fail of_layout r ≡ true → may_fail of_layout (at_least_one r) ≡ true
layout-least_one (Err code) h = h
layout-least_one (Ok n) h = test (n == 0) n
  where
    test : (b : Bool) (n : ℕ) → may_fail of_layout (if b then Err DoesNotFit else Ok n) ≡ true
    test true n = refl
    test false n = refl

layout-literals : (given : List Data) (xs : Labels) (here : ℕ) → list_all (may_fail of_layout) (map (literal_size xs here) given) ≡ true
layout-literals [] xs here = refl
layout-literals (d ∷ given) xs here =
    and_from _ _ (layout-least_one (checked_size xs here d) (layout-size xs here d)) (layout-literals given xs here)

layout-statement : (s : Layout) (st : Option Statement) → list_all (may_fail of_layout) s.sizes ≡ true
    → passes of_layout (statement_code s st) ≡ true
unfolding statement_code
layout-statement s None h = refl
layout-statement s (Some (statements.Data given)) h = layout-taking_size s.taken s.address _ (layout-size s.labels s.address given)
layout-statement s (Some (statements.Loc e)) h = passes-code_of of_layout _ (layout-count s.labels s.address e)
layout-statement s (Some (statements.End e)) h = layout-taking_all s.sizes s.taken s.address h
layout-statement s (Some (statements.Radix n)) h = passes-code_if of_layout _ DoesNotFit refl
layout-statement s (Some statements.Title) h = refl

passes-twice : (b : Bool) (o : Option AsmCode) → passes of_layout o ≡ true → passes of_layout (if b then o else Some DefinedTwice) ≡ true
passes-twice true o h = h
passes-twice false o h = refl

-- the sizes that are kept have codes of laying out alone
layout-sizes : (s : Layout) (line : Line) → list_all (may_fail of_layout) s.sizes ≡ true
    → list_all (may_fail of_layout) (with_labels s line).sizes ≡ true
unfolding with_labels
layout-sizes s line h =
    list_all-append (may_fail of_layout) s.sizes (map (literal_size (s.labels ++ own s.address line) s.address) line.literals)
    ∙ and_from _ _ h (layout-literals line.literals (s.labels ++ own s.address line) s.address)

layout-line : (s : Layout) (line : Line) → list_all (may_fail of_layout) s.sizes ≡ true → passes of_layout (line_code s line) ≡ true
unfolding line_code
layout-line s line h =
    passes-twice (are_apart (keys_of s.labels ++ line.labels)) _
    (passes-least of_layout (labels_code s line) _ (passes-code_if of_layout _ AddressTooHigh refl)
    (layout-statement (with_labels s line) line.statement (layout-sizes s line h)))

same-sizes : (s : Layout) (line : Line) → (layout_behind s line).sizes ≡ (with_labels s line).sizes
unfolding with_statement
same-sizes s line = refl

passes-unless : {A : Type 0} (q : AsmCode → Bool) (n : ℕ) (o : Option AsmCode) (r : Result A Fault) (fault : Fault)
    → unless_fault n o r ≡ Err fault → passes q o ≡ true
    → (r ≡ Err fault → q fault.code ≡ true)
    → q fault.code ≡ true
passes-unless q n None r fault h k f = f h
passes-unless q n (Some code) r fault h k f =
    let told : Fault = record { line = n; code = code } in
    let same : told ≡ fault = cc in
    ap (λ x. q x.code) (sym same) ∙ k

pub layout-codes : (lines : List Line) (s : Layout) (n : ℕ) (fault : Fault) → laid_out s n lines ≡ Err fault
    → list_all (may_fail of_layout) s.sizes ≡ true
    → of_layout fault.code ≡ true
unfolding laid_out
layout-codes [] s n fault h k = absurd (cc)
layout-codes (line ∷ lines) s n fault h k =
    passes-unless of_layout n (line_code s line) (laid_out (layout_behind s line) (n + 1) lines) fault h (layout-line s line k)
    (λ e. layout-codes lines (layout_behind s line) (n + 1) fault e
    (ap (list_all (may_fail of_layout)) (same-sizes s line) ∙ layout-sizes s line k))

values-line : (at : Placed) → passes of_values (value_code at) ≡ true
unfolding value_code
values-line at = test (is_some (line_words at) && has_start at.names at.line.statement) (is_line_known at)
  where
    test : (a b : Bool) → passes of_values (if a then None else Some (if b then DoesNotFit else UnknownName)) ≡ true
    test true b = refl
    test false true = refl
    test false false = refl

pub values-codes : (lines : List Placed) (n : ℕ) (fault : Fault) → words_given n lines ≡ Err fault → of_values fault.code ≡ true
unfolding words_given
values-codes [] n fault h = absurd (cc)
values-codes (at ∷ later) n fault h =
    passes-unless of_values n (value_code at) _ fault h (values-line at)
    (λ e. values-codes later (n + 1) fault (and-err _ (words_given (n + 1) later) fault e))

-- no line that was read is told to be out of the grammar, nor that END is missing
abbrev of_lines : AsmCode → Bool
of_lines Syntax = false
of_lines NoEnd = false
of_lines _ = true

layout-lines : (code : AsmCode) → of_layout code ≡ true → of_lines code ≡ true
layout-lines Syntax h = absurd (cc)
layout-lines UnknownName h = refl
layout-lines DefinedTwice h = refl
layout-lines DoesNotFit h = refl
layout-lines NotYetDefined h = refl
layout-lines AddressTooHigh h = refl
layout-lines NoEnd h = absurd (cc)

values-lines : (code : AsmCode) → of_values code ≡ true → of_lines code ≡ true
values-lines Syntax h = absurd (cc)
values-lines UnknownName h = refl
values-lines DefinedTwice h = refl
values-lines DoesNotFit h = refl
values-lines NotYetDefined h = refl
values-lines AddressTooHigh h = refl
values-lines NoEnd h = absurd (cc)

from-codes : (lines : List Line) (r : Result Layout Fault) (fault : Fault) → outcome_from lines r ≡ Err fault
    → ((g : Fault) → r ≡ Err g → of_layout g.code ≡ true)
    → of_lines fault.code ≡ true
unfolding outcome_placed
from-codes lines (Ok s) fault h f =
    let at = lines_with s.labels s.addresses (addresses_of_literals s) lines in
    values-lines fault.code (values-codes at 1 fault (image-err (unwrap_or (start_at at) first_address) (words_given 1 at) fault h))
from-codes lines (Err g) fault h f = layout-lines fault.code (f fault (cc))

lines-codes : (lines : List Line) (fault : Fault) → outcome_from lines (laid_out empty_layout 1 lines) ≡ Err fault
    → of_lines fault.code ≡ true
lines-codes lines fault h =
    from-codes lines (laid_out empty_layout 1 lines) fault h (λ g e. layout-codes lines empty_layout 1 g e refl)

abbrev at_line : ℕ → AsmCode → Fault
at_line n code = record { line = n; code = code }

-- what was read, by what is told
if-syntax : (b : Bool) (r : Result Assembled Fault) (n line : ℕ) → (if b then r else Err (at_line n NoEnd)) ≡ Err (at_line line Syntax)
    → (r ≡ Err (at_line line Syntax) → false ≡ true)
    → ⊥
if-syntax true r n line h f = let bad : false ≡ true = f h in cc
if-syntax false r n line h f =
    let same : at_line n NoEnd ≡ at_line line Syntax = cc in
    let bad : NoEnd ≡ Syntax = ap (λ x. x.code) same in
    cc

told-syntax : (r : Result (List Line) ℕ) (line : ℕ) → outcome_read r ≡ Err (at_line line Syntax) → r ≡ Err line
unfolding outcome_read
told-syntax (Ok lines) line h =
    absurd (if-syntax (has_end lines) (outcome_from lines (laid_out empty_layout 1 lines)) (length lines) line h
    (λ e. lines-codes lines (at_line line Syntax) e))
told-syntax (Err n) line h =
    let same : at_line n Syntax ≡ at_line line Syntax = cc in
    ap Err (ap (λ x. x.line) same)

if-no_end : (b : Bool) (r : Result Assembled Fault) (n line : ℕ) → (if b then r else Err (at_line n NoEnd)) ≡ Err (at_line line NoEnd)
    → (r ≡ Err (at_line line NoEnd) → false ≡ true)
    → (b ≡ false) × (n ≡ line)
if-no_end true r n line h f = absurd (let bad : false ≡ true = f h in cc)
if-no_end false r n line h f =
    let same : at_line n NoEnd ≡ at_line line NoEnd = cc in
    (refl, ap (λ x. x.line) same)

told-no_end : (r : Result (List Line) ℕ) (line : ℕ) → outcome_read r ≡ Err (at_line line NoEnd)
    → (read : List Line) × (r ≡ Ok read) × (has_end read ≡ false) × (length read ≡ line)
unfolding outcome_read
told-no_end (Ok lines) line h =
    let i = if-no_end (has_end lines) (outcome_from lines (laid_out empty_layout 1 lines)) (length lines) line h
    (λ e. lines-codes lines (at_line line NoEnd) e) in
    (lines, refl, i.0, i.1)
told-no_end (Err n) line h =
    absurd (let same : at_line n Syntax ≡ at_line line NoEnd = cc in let bad : Syntax ≡ NoEnd = ap (λ x. x.code) same in cc)

pub syntax-told : (source : List ℕ) (line : ℕ)
    → (outcome_of source ≡ Err (record { line = line; code = Syntax })) ↔ (program_of source ≡ Err line)
unfolding outcome_of outcome_read
syntax-told source line = (told-syntax (program_of source) line, λ h. ap outcome_read h)

if-false : (b : Bool) (r : Result Assembled Fault) (n line : ℕ) → b ≡ false → n ≡ line
    → (if b then r else Err (at_line n NoEnd)) ≡ Err (at_line line NoEnd)
if-false true r n line h k = absurd (cc)
if-false false r n line h k = ap (λ x. let y : Result Assembled Fault = Err (at_line x NoEnd) in y) k

pub no_end-told : (source : List ℕ) (line : ℕ)
    → (outcome_of source ≡ Err (record { line = line; code = NoEnd }))
    ↔ ((read : List Line) × (program_of source ≡ Ok read) × (has_end read ≡ false) × (length read ≡ line))
unfolding outcome_of outcome_read
no_end-told source line = (
  told-no_end (program_of source) line,
  λ h. ap outcome_read h.1 ∙ if-false (has_end h.0) (outcome_from h.0 (laid_out empty_layout 1 h.0)) (length h.0) line h.2 h.3,
)
