-- A fault names a line of the source.
use Rattle.std.proofs.Common.{◌≡◌, ap, subst, ℕ, suc, ◌+◌, ◌<◌, ◌≤◌, Bool, true, false, List, [], ◌∷◌, length}
use Rattle.std.proofs.Common.{drop, Option, Some, None, Result, Ok, Err, refl, arith}
use Rattle.std.specs.Prelude.{if◌then◌else◌}
use Rattle.std.specs.Str.Lines.{lines as lines_in}
use Rattle.mac_text.specs.Lines.{is_end, with_line, line_of, line_then, lines_from, program_of, radix_after}
use Rattle.mac_text.specs.declared.syntax.Line.{Line}
use Rattle.mac_layout.specs.declared.error.AsmCode.{AsmCode}
use Rattle.mac_layout.specs.declared.error.AsmCode.TheVariants.{NoEnd, Syntax}
use Rattle.mac_layout.specs.Addresses.{Labels, Placed}
use Rattle.mac_asm.specs.Assembly.{Assembled}
use Rattle.mac_layout.specs.Faults.{Fault, unless_fault}
use Rattle.mac_layout.specs.LaidOut.{Layout, empty_layout, line_code, laid_out, addresses_of_literals, with_line as layout_behind}
use Rattle.mac_asm.specs.Outcome.{lines_with, value_code, words_given, outcome_placed, outcome_from, has_end, outcome_read, outcome_of}
use Rattle.asm_laws.proofs.Passed.{and-err, image-err}

-- at least n, and of so many
abbrev Within : ℕ → ℕ → ℕ → Type 0
Within n k size = (n ≤ k) × (k < n + size)

within-more : (n k size : ℕ) → Within (n + 1) k size → Within n k (suc size)
within-more n k size h = omega arith

within-first : (n size : ℕ) → Within n n (suc size)
within-first n size = omega arith

unless-err : {A : Type 0} (n : ℕ) (o : Option AsmCode) (r : Result A Fault) (fault : Fault) → unless_fault n o r ≡ Err fault
    → (size : ℕ) → ((g : Fault) → r ≡ Err g → Within n g.line (suc size))
    → Within n fault.line (suc size)
unless-err n None r fault h size f = f fault h
unless-err n (Some code) r fault h size f =
    let told : Fault = record { line = n; code = code } in
    let same : told ≡ fault = cc in
    subst (λ k. Within n k (suc size)) (ap (λ x. x.line) same) (within-first n size)

pub laid-within : (lines : List Line) (s : Layout) (n : ℕ) (fault : Fault) → laid_out s n lines ≡ Err fault
    → Within n fault.line (length lines)
unfolding laid_out
laid-within [] s n fault h = absurd (cc)
laid-within (line ∷ lines) s n fault h =
    unless-err n (line_code s line) (laid_out (layout_behind s line) (n + 1) lines) fault h (length lines)
    (λ g e. within-more n g.line (length lines) (laid-within lines (layout_behind s line) (n + 1) g e))

pub given-within : (lines : List Placed) (n : ℕ) (fault : Fault) → words_given n lines ≡ Err fault
    → Within n fault.line (length lines)
unfolding words_given
given-within [] n fault h = absurd (cc)
given-within (at ∷ later) n fault h =
    unless-err n (value_code at) _ fault h (length later)
    (λ g e. within-more n g.line (length later) (given-within later (n + 1) g (and-err _ (words_given (n + 1) later) g e)))

placed-short : (lines : List Line) (m : Labels) (addresses lits : List ℕ) → length (lines_with m addresses lits lines) ≤ length lines
unfolding lines_with
placed-short [] m [] lits = omega arith
placed-short [] m (p ∷ addresses) lits = omega arith
placed-short (line ∷ lines) m [] lits = omega arith
placed-short (line ∷ lines) m (p ∷ addresses) lits =
    let i : length (lines_with m addresses (drop (length line.literals) lits) lines) ≤ length lines =
    placed-short lines m addresses (drop (length line.literals) lits) in
    omega (arith, i)

from-within : (lines : List Line) (r : Result Layout Fault) (fault : Fault) → outcome_from lines r ≡ Err fault
    → ((g : Fault) → r ≡ Err g → Within 1 g.line (length lines))
    → Within 1 fault.line (length lines)
unfolding outcome_placed
from-within lines (Ok s) fault h f =
    let at = lines_with s.labels s.addresses (addresses_of_literals s) lines in
    let w = given-within at 1 fault (image-err _ (words_given 1 at) fault h) in
    let short : length at ≤ length lines = placed-short lines s.labels s.addresses (addresses_of_literals s) in
    (w.0, omega (arith, w.1, short))
from-within lines (Err g) fault h f = f fault (cc)

-- what was read has as many lines as the source at most, and none only where the source has none
record Reads (texts : List (List ℕ)) (lines : List Line) : Type 0 where
  short : length lines ≤ length texts
  some : 0 < length texts → 0 < length lines

read-then : (b : Bool) (line : Line) (more : Result (List Line) ℕ) (texts : List (List ℕ)) (text : List ℕ) (lines : List Line)
    → (if b then Ok (line ∷ []) else with_line line more) ≡ Ok lines
    → ((ls : List Line) → more ≡ Ok ls → Reads texts ls)
    → Reads (text ∷ texts) lines
read-then true line more texts text lines h f =
    let same : line ∷ [] ≡ lines = cc in
    subst (λ l. Reads (text ∷ texts) l) same (record { short = omega arith; some = λ k. omega arith })
read-then false line (Err n) texts text lines h f = absurd (cc)
read-then false line (Ok ls) texts text lines h f =
    let same : line ∷ ls ≡ lines = cc in
    let i : length ls ≤ length texts = (f ls refl).short in
    subst (λ l. Reads (text ∷ texts) l) same (record { short = omega (arith, i); some = λ k. omega arith })

read-line : (n : ℕ) (o : Option Line) (more : Line → Result (List Line) ℕ) (texts : List (List ℕ)) (text : List ℕ) (lines : List Line)
    → line_then n o more ≡ Ok lines
    → ((line : Line) (ls : List Line) → more line ≡ Ok ls → Reads texts ls)
    → Reads (text ∷ texts) lines
read-line n None more texts text lines h f = absurd (cc)
read-line n (Some line) more texts text lines h f = read-then (is_end line) line (more line) texts text lines h (f line)

reads : (texts : List (List ℕ)) (r n : ℕ) (lines : List Line) → lines_from r n texts ≡ Ok lines → Reads texts lines
unfolding lines_from
reads [] r n lines h =
    let same : [] ≡ lines = cc in
    subst (λ l. Reads [] l) same (record { short = omega arith; some = λ k. k })
reads (text ∷ texts) r n lines h =
    read-line n (line_of r text) (λ line. lines_from (radix_after line r) (n + 1) texts) texts text lines h
    (λ line ls. reads texts (radix_after line r) (n + 1) ls)

bad-then : (b : Bool) (line : Line) (more : Result (List Line) ℕ) (k : ℕ) → (if b then Ok (line ∷ []) else with_line line more) ≡ Err k
    → more ≡ Err k
bad-then true line more k h = absurd (cc)
bad-then false line (Ok ls) k h = absurd (cc)
bad-then false line (Err n) k h = cc

bad-line : (n : ℕ) (o : Option Line) (more : Line → Result (List Line) ℕ) (k size : ℕ) → line_then n o more ≡ Err k
    → ((line : Line) → more line ≡ Err k → Within n k (suc size))
    → Within n k (suc size)
bad-line n None more k size h f =
    let same : n ≡ k = cc in
    subst (λ j. Within n j (suc size)) same (within-first n size)
bad-line n (Some line) more k size h f = f line (bad-then (is_end line) line (more line) k h)

bad-within : (texts : List (List ℕ)) (r n k : ℕ) → lines_from r n texts ≡ Err k → Within n k (length texts)
unfolding lines_from
bad-within [] r n k h = absurd (cc)
bad-within (text ∷ texts) r n k h =
    bad-line n (line_of r text) (λ line. lines_from (radix_after line r) (n + 1) texts) k (length texts) h
    (λ line e. within-more n k (length texts) (bad-within texts (radix_after line r) (n + 1) k e))

-- a fault names a line of the source, but for the missing END of a source of no lines
pub record InSource (texts : List (List ℕ)) (line : ℕ) : Type 0 where
  pub within : line ≤ length texts
  pub counted : 0 < length texts → 0 < line

if-within : (b : Bool) (texts : List (List ℕ)) (lines : List Line) (r : Result Assembled Fault) (fault : Fault)
    → (if b then r else Err (record { line = length lines; code = NoEnd })) ≡ Err fault
    → Reads texts lines → (r ≡ Err fault → Within 1 fault.line (length lines))
    → InSource texts fault.line
if-within true texts lines r fault h k f =
    let w = f h in
    let short = k.short in
    record { within = omega (arith, w.1, short); counted = λ l. omega (arith, w.0) }
if-within false texts lines r fault h k f =
    let told : Fault = record { line = length lines; code = NoEnd } in
    let same : told ≡ fault = cc in
    subst (λ x. InSource texts x) (ap (λ x. x.line) same) (record { within = k.short; counted = k.some })

read-within : (texts : List (List ℕ)) (r : Result (List Line) ℕ) (fault : Fault) → outcome_read r ≡ Err fault
    → ((lines : List Line) → r ≡ Ok lines → Reads texts lines)
    → ((k : ℕ) → r ≡ Err k → Within 1 k (length texts))
    → InSource texts fault.line
unfolding outcome_read
read-within texts (Ok lines) fault h f g =
    if-within (has_end lines) texts lines (outcome_from lines (laid_out empty_layout 1 lines)) fault h (f lines refl)
    (λ e. from-within lines (laid_out empty_layout 1 lines) fault e (laid-within lines empty_layout 1))
read-within texts (Err k) fault h f g =
    let told : Fault = record { line = k; code = Syntax } in
    let same : told ≡ fault = cc in
    let w = g k refl in
    subst (λ x. InSource texts x) (ap (λ x. x.line) same) (record { within = omega (arith, w.1); counted = λ l. omega (arith, w.0) })

pub fault-names-line : (source : List ℕ) (fault : Fault) → outcome_of source ≡ Err fault → InSource (lines_in source) fault.line
unfolding outcome_of program_of
fault-names-line source fault h =
    read-within (lines_in source) (lines_from 8 1 (lines_in source)) fault h
    (reads (lines_in source) 8 1) (bad-within (lines_in source) 8 1)
