-- The first line with which something is wrong is told, with the least code of what is.
use Rattle.std.proofs.Common.{◌≡◌, ◌∙◌, sym, ap, subst, ℕ, ◌+◌, Bool, true, false, List, [], ◌∷◌, ◌++◌, length}
use Rattle.std.proofs.Common.{unwrap_or, Option, Some, None, Result, Ok, Err, inl, inr, refl, arith}
use Rattle.std.specs.Prelude.{◌↔◌, not, if◌then◌else◌}
use Rattle.std.specs.List.{list_all}
use Rattle.std.proofs.lemmas.Bool.{and_parts, and_from, cases_Bool, false_from_ne_true, not_from_false, not-true}
use Rattle.mac_text.specs.Lines.{program_of}
use Rattle.mac_text.specs.declared.syntax.Line.{Line}
use Rattle.mac_layout.specs.declared.error.AsmCode.{AsmCode}
use Rattle.mac_layout.specs.declared.error.AsmCode.TheVariants.{Syntax, UnknownName, DefinedTwice, DoesNotFit, NotYetDefined, AddressTooHigh, NoEnd}
use Rattle.mac_layout.specs.Addresses.{Placed, first_address}
use Rattle.mac_asm.specs.Assembly.{lines_placed, start_at}
use Rattle.asm_laws.specs.Found.{map_of}
use Rattle.mac_layout.specs.Faults.{Fault, unless_fault}
use Rattle.mac_layout.specs.LaidOut.{Layout, empty_layout, line_code, with_line, laid_out, addresses_of_literals}
use Rattle.mac_asm.specs.Outcome.{lines_with, line_words, is_line_known, value_code, and_words, words_given, image_with}
use Rattle.mac_asm.specs.Outcome.{outcome_placed, outcome_from, has_end, outcome_read, outcome_of}
use Rattle.asm_laws.specs.Faults.{FirstLaid, FirstGiven}
use Rattle.asm_laws.specs.Codes.{LaidFault, is_given, is_value_wrong, ValueFault, IsTold}
use Rattle.asm_laws.proofs.Layouts.{AllRight, final, laid-right, right-laid}
use Rattle.asm_laws.proofs.Told.{laid-placed, if-same}
use Rattle.asm_laws.proofs.Codes.{told-from}
use Rattle.asm_laws.proofs.First.{first-laid, first-given}
use Rattle.asm_laws.proofs.Wrong.{code-least, least-code, all-are, are-all}
use Rattle.asm_laws.proofs.Known.{given-known, placed-have}

abbrev at_line : ℕ → AsmCode → Fault
at_line n code = record { line = n; code = code }

-- laying out
laid-fault : (lines : List Line) (fault : Fault) → laid_out empty_layout 1 lines ≡ Err fault → LaidFault lines fault
laid-fault lines fault h =
    let f : FirstLaid lines fault = first-laid lines fault h in
    let r = laid-right f.above empty_layout 1 f.layout f.without in
    record {
      above = f.above;
      line = f.line;
      below = f.below;
      parted = f.parted;
      counted = f.counted;
      right = all-are f.above r.0;
      told = code-least f.above f.line fault.code r.0 (ap (λ l. line_code l f.line) r.1 ∙ f.told);
    }

unless-some : {A : Type 0} (n : ℕ) (o : Option AsmCode) (r : Result A Fault) (code : AsmCode) → o ≡ Some code
    → unless_fault n o r ≡ Err (at_line n code)
unless-some n o r code h = ap (λ x. unless_fault n x r) h

laid-at : (above : List Line) (line : Line) (below : List Line) (s : Layout) (n : ℕ) (code : AsmCode) → AllRight s above
    → line_code (final s above) line ≡ Some code
    → laid_out s n (above ++ (line ∷ below)) ≡ Err (at_line (n + length above) code)
unfolding laid_out
laid-at [] line below s n code h k =
    let same : n ≡ n + 0 = omega arith in
    unless-some n (line_code s line) _ code k ∙ ap (λ m. Err (at_line m code)) same
laid-at (first ∷ above) line below s n code h k =
    let same : n + 1 + length above ≡ n + length (first ∷ above) = omega arith in
    ap (λ o. unless_fault n o (laid_out (with_line s first) (n + 1) (above ++ (line ∷ below)))) h.0
    ∙ laid-at above line below (with_line s first) (n + 1) code h.1 k
    ∙ ap (λ m. Err (at_line m code)) same

fault-laid : (lines : List Line) (fault : Fault) → LaidFault lines fault → laid_out empty_layout 1 lines ≡ Err fault
fault-laid lines fault f =
    let r = are-all f.above f.right in
    ap (laid_out empty_layout 1) f.parted
    ∙ laid-at f.above f.line f.below empty_layout 1 fault.code r (least-code f.above f.line fault.code r f.told)
    ∙ ap (λ m. Err (at_line m fault.code)) (sym f.counted)

-- values
wrong-told : (given known : Bool) (code : AsmCode) → (if given then None else Some (if known then DoesNotFit else UnknownName)) ≡ Some code
    → (given ≡ false) × ((if known then DoesNotFit else UnknownName) ≡ code)
wrong-told true known code h = absurd (cc)
wrong-told false known code h = (refl, cc)

wrong-code : (at : Placed) (code : AsmCode) → value_code at ≡ Some code → is_value_wrong at code ≡ true
unfolding value_code
wrong-code at code h =
    let w = wrong-told (is_given at) (is_line_known at) code h in
    subst (λ c. is_value_wrong at c ≡ true) w.1 (test at w.0)
  where
    test : (at : Placed) → is_given at ≡ false → is_value_wrong at (if is_line_known at then DoesNotFit else UnknownName) ≡ true
    test at h = elim (cases_Bool (is_line_known at)) [
      | inl k ↦ ap (λ b. is_value_wrong at (if b then DoesNotFit else UnknownName)) k ∙ and_from _ _ k (not_from_false (is_given at) h)
      | inr k ↦ ap (λ b. is_value_wrong at (if b then DoesNotFit else UnknownName)) k ∙ not_from_false (is_line_known at) k
    ]

code-same : (given known : Bool) (code : AsmCode) → given ≡ false → (if known then DoesNotFit else UnknownName) ≡ code
    → (if given then None else Some (if known then DoesNotFit else UnknownName)) ≡ Some code
code-same true known code h k = absurd (cc)
code-same false known code h k = ap Some k

no-code : {A : Type 0} → false ≡ true → A
no-code h = absurd (cc)

code-wrong : (at : Placed) (code : AsmCode) → (is_given at ≡ true → is_line_known at ≡ true) → is_value_wrong at code ≡ true
    → value_code at ≡ Some code
unfolding value_code
code-wrong at Syntax f h = no-code h
code-wrong at UnknownName f h =
    let unknown : is_line_known at ≡ false = not-true (is_line_known at) h in
    let none : is_given at ≡ false = false_from_ne_true (is_given at) (λ k. (let known = f k in cc)) in
    code-same (is_given at) (is_line_known at) UnknownName none (ap (λ b. if b then DoesNotFit else UnknownName) unknown)
code-wrong at DefinedTwice f h = no-code h
code-wrong at DoesNotFit f h =
    let b = and_parts (is_line_known at) (not (is_given at)) h in
    code-same (is_given at) (is_line_known at) DoesNotFit (not-true (is_given at) b.1) (ap (λ b. if b then DoesNotFit else UnknownName) b.0)
code-wrong at NotYetDefined f h = no-code h
code-wrong at AddressTooHigh f h = no-code h
code-wrong at NoEnd f h = no-code h

none-given : (given : Bool) (code : AsmCode) → (if given then None else Some code) ≡ None → given ≡ true
none-given true code h = refl
none-given false code h = absurd (cc)

given-none : (given : Bool) (code : AsmCode) → given ≡ true → (if given then None else Some code) ≡ None
given-none true code h = refl
given-none false code h = absurd (cc)

unless-ok : {A : Type 0} (n : ℕ) (o : Option AsmCode) (r : Result A Fault) (x : A) → unless_fault n o r ≡ Ok x → (o ≡ None) × (r ≡ Ok x)
unless-ok n None r x h = (refl, h)
unless-ok n (Some code) r x h = absurd (cc)

and-ok : (first : List (ℕ × ℕ)) (r : Result (List (ℕ × ℕ)) Fault) (ws : List (ℕ × ℕ)) → and_words first r ≡ Ok ws
    → (more : List (ℕ × ℕ)) × (r ≡ Ok more)
and-ok first (Ok more) ws h = (more, refl)
and-ok first (Err fault) ws h = absurd (cc)

all-given : (lines : List Placed) (n : ℕ) (ws : List (ℕ × ℕ)) → words_given n lines ≡ Ok ws → list_all is_given lines ≡ true
unfolding words_given value_code
all-given [] n ws h = refl
all-given (at ∷ later) n ws h =
    let u = unless-ok n (value_code at) (and_words (unwrap_or (line_words at) []) (words_given (n + 1) later)) ws h in
    let a = and-ok (unwrap_or (line_words at) []) (words_given (n + 1) later) ws u.1 in
    and_from _ _ (none-given (is_given at) _ u.0) (all-given later (n + 1) a.0 a.1)

given-at : (above : List Placed) (at : Placed) (below : List Placed) (n : ℕ) (code : AsmCode) → list_all is_given above ≡ true
    → value_code at ≡ Some code
    → words_given n (above ++ (at ∷ below)) ≡ Err (at_line (n + length above) code)
unfolding words_given value_code
given-at [] at below n code h k =
    let same : n ≡ n + 0 = omega arith in
    unless-some n (value_code at) _ code k ∙ ap (λ m. Err (at_line m code)) same
given-at (first ∷ above) at below n code h k =
    let b = and_parts (is_given first) (list_all is_given above) h in
    let same : n + 1 + length above ≡ n + length (first ∷ above) = omega arith in
    let own = unwrap_or (line_words first) [] in
    let right : value_code first ≡ None = given-none (is_given first) _ b.0 in
    ap (λ o. unless_fault n o (and_words own (words_given (n + 1) (above ++ (at ∷ below))))) right
    ∙ ap (and_words own) (given-at above at below (n + 1) code b.1 k)
    ∙ ap (λ m. Err (at_line m code)) same

value-fault : (lines : List Placed) (fault : Fault) → words_given 1 lines ≡ Err fault → ValueFault lines fault
value-fault lines fault h =
    let f : FirstGiven lines fault = first-given lines fault h in
    record {
      above = f.above;
      at = f.line;
      below = f.below;
      parted = f.parted;
      counted = f.counted;
      right = all-given f.above 1 f.words f.without;
      told = wrong-code f.line fault.code f.told;
    }

fault-value : (lines : List Line) (fault : Fault) → ValueFault (lines_placed (map_of lines) lines) fault
    → words_given 1 (lines_placed (map_of lines) lines) ≡ Err fault
fault-value lines fault f =
    ap (words_given 1) f.parted
    ∙ given-at f.above f.at f.below 1 fault.code f.right
    (code-wrong f.at fault.code (given-known f.at (placed-have lines (map_of lines) f.above f.at f.below f.parted)) f.told)
    ∙ ap (λ m. Err (at_line m fault.code)) (sym f.counted)

-- all together
from-told : (lines : List Line) (fault : Fault) → has_end lines ≡ true → IsTold lines fault
    → outcome_from lines (laid_out empty_layout 1 lines) ≡ Err fault
unfolding outcome_placed
from-told lines fault e (inl f) = ap (outcome_from lines) (fault-laid lines fault f)
from-told lines fault e (inr f) =
    let s = final empty_layout lines in
    let l : laid_out empty_layout 1 lines ≡ Ok s = right-laid lines empty_layout 1 (are-all lines f.0) in
    let at = lines_with s.labels s.addresses (addresses_of_literals s) lines in
    let given : words_given 1 at ≡ Err fault = ap (words_given 1) (laid-placed lines s e l) ∙ fault-value lines fault f.1 in
    ap (outcome_from lines) l ∙ ap (image_with (unwrap_or (start_at at) first_address)) given

told-is : (lines : List Line) (fault : Fault) → has_end lines ≡ true → outcome_from lines (laid_out empty_layout 1 lines) ≡ Err fault
    → IsTold lines fault
told-is lines fault e h =
    told-from lines (laid_out empty_layout 1 lines) fault (IsTold lines fault) h
    (λ l. inl (laid-fault lines fault l))
    (λ s l w. inr (
      all-are lines (laid-right lines empty_layout 1 s l).0,
      value-fault (lines_placed (map_of lines) lines) fault (subst (λ x. words_given 1 x ≡ Err fault) (laid-placed lines s e l) w),
    ))

read-same : (source : List ℕ) (lines : List Line) → program_of source ≡ Ok lines → has_end lines ≡ true
    → outcome_of source ≡ outcome_from lines (laid_out empty_layout 1 lines)
unfolding outcome_of outcome_read
read-same source lines r e =
    ap outcome_read r ∙ if-same (has_end lines) (outcome_from lines (laid_out empty_layout 1 lines)) (at_line (length lines) NoEnd) e

pub faults-told : (source : List ℕ) (lines : List Line) (fault : Fault) → program_of source ≡ Ok lines → has_end lines ≡ true
    → (outcome_of source ≡ Err fault) ↔ IsTold lines fault
faults-told source lines fault r e = (
  λ h. told-is lines fault e (sym (read-same source lines r e) ∙ h),
  λ h. read-same source lines r e ∙ from-told lines fault e h,
)
