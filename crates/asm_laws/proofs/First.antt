-- The first line at fault is told.
use Rattle.std.proofs.Common.{◌≡◌, ◌∙◌, sym, ap, subst, ℕ, ◌+◌, Bool, true, false, List, [], ◌∷◌, ◌++◌, length}
use Rattle.std.proofs.Common.{Option, Some, None, Result, Ok, Err, inl, inr, refl, arith}
use Rattle.std.specs.Prelude.{is_ok, if◌then◌else◌, unwrap_or}
use Rattle.mac_text.specs.Lines.{program_of}
use Rattle.mac_text.specs.declared.syntax.Line.{Line}
use Rattle.mac_layout.specs.declared.error.AsmCode.{AsmCode}
use Rattle.mac_layout.specs.declared.error.AsmCode.TheVariants.{NoEnd}
use Rattle.mac_layout.specs.Addresses.{Placed}
use Rattle.mac_asm.specs.Assembly.{Assembled, lines_placed}
use Rattle.asm_laws.specs.Found.{map_of}
use Rattle.mac_layout.specs.Faults.{Fault, unless_fault}
use Rattle.mac_layout.specs.LaidOut.{Layout, empty_layout, line_code, with_line, laid_out}
use Rattle.mac_asm.specs.Outcome.{line_words, value_code, and_words, words_given, outcome_from, has_end, outcome_read, outcome_of}
use Rattle.asm_laws.specs.Faults.{FirstLaid, FirstGiven, TellsFirst}
use Rattle.asm_laws.proofs.Codes.{told-from}
use Rattle.asm_laws.proofs.Told.{laid-placed, if-same}
use Rattle.asm_laws.proofs.Passed.{and-err}

-- a fault of the first line, or of those behind it
fault-of : {A : Type 0} (n : ℕ) (o : Option AsmCode) (r : Result A Fault) (fault : Fault) (Q : Type 0) → unless_fault n o r ≡ Err fault
    → (o ≡ Some fault.code → fault.line ≡ n → Q)
    → (o ≡ None → r ≡ Err fault → Q)
    → Q
fault-of n None r fault Q h f g = g refl h
fault-of n (Some code) r fault Q h f g =
    let told : Fault = record { line = n; code = code } in
    let same : told ≡ fault = cc in
    f (ap (λ x. Some x.code) same) (ap (λ x. x.line) (sym same))

-- the same from any line and layout on
record LaidFrom (s : Layout) (n : ℕ) (lines : List Line) (fault : Fault) : Type 0 where
  above : List Line
  line : Line
  below : List Line
  layout : Layout
  parted : lines ≡ above ++ (line ∷ below)
  counted : fault.line ≡ n + length above
  without : laid_out s n above ≡ Ok layout
  told : line_code layout line ≡ Some fault.code

laid-from : (lines : List Line) (s : Layout) (n : ℕ) (fault : Fault) → laid_out s n lines ≡ Err fault → LaidFrom s n lines fault
unfolding laid_out
laid-from [] s n fault h = absurd (cc)
laid-from (line ∷ lines) s n fault h =
    fault-of n (line_code s line) (laid_out (with_line s line) (n + 1) lines) fault (LaidFrom s n (line ∷ lines) fault) h
    (λ o l. record {
      above = [];
      line = line;
      below = lines;
      layout = s;
      parted = refl;
      counted = l ∙ omega arith;
      without = refl;
      told = o;
    })
    (λ o r. (let i = laid-from lines (with_line s line) (n + 1) fault r in
    let c = i.counted in
    record {
      above = line ∷ i.above;
      line = i.line;
      below = i.below;
      layout = i.layout;
      parted = ap (λ l. line ∷ l) i.parted;
      counted = omega (arith, c);
      without = ap (λ x. unless_fault n x (laid_out (with_line s line) (n + 1) i.above)) o ∙ i.without;
      told = i.told;
    }))

record GivenFrom (n : ℕ) (lines : List Placed) (fault : Fault) : Type 0 where
  above : List Placed
  line : Placed
  below : List Placed
  words : List (ℕ × ℕ)
  parted : lines ≡ above ++ (line ∷ below)
  counted : fault.line ≡ n + length above
  without : words_given n above ≡ Ok words
  told : value_code line ≡ Some fault.code

given-from : (lines : List Placed) (n : ℕ) (fault : Fault) → words_given n lines ≡ Err fault → GivenFrom n lines fault
unfolding words_given
given-from [] n fault h = absurd (cc)
given-from (at ∷ later) n fault h =
    let own = unwrap_or (line_words at) [] in
    fault-of n (value_code at) (and_words own (words_given (n + 1) later)) fault (GivenFrom n (at ∷ later) fault) h
    (λ o l. record {
      above = [];
      line = at;
      below = later;
      words = [];
      parted = refl;
      counted = l ∙ omega arith;
      without = refl;
      told = o;
    })
    (λ o r. (let i = given-from later (n + 1) fault (and-err own (words_given (n + 1) later) fault r) in
    let c = i.counted in
    record {
      above = at ∷ i.above;
      line = i.line;
      below = i.below;
      words = own ++ i.words;
      parted = ap (λ l. at ∷ l) i.parted;
      counted = omega (arith, c);
      without = ap (λ x. unless_fault n x (and_words own (words_given (n + 1) i.above))) o ∙ ap (and_words own) i.without;
      told = i.told;
    }))

pub first-laid : (lines : List Line) (fault : Fault) → laid_out empty_layout 1 lines ≡ Err fault → FirstLaid lines fault
first-laid lines fault h =
    let i = laid-from lines empty_layout 1 fault h in
    record {
      above = i.above;
      line = i.line;
      below = i.below;
      layout = i.layout;
      parted = i.parted;
      counted = i.counted;
      without = i.without;
      told = i.told;
    }

pub first-given : (lines : List Placed) (fault : Fault) → words_given 1 lines ≡ Err fault → FirstGiven lines fault
first-given lines fault h =
    let i = given-from lines 1 fault h in
    record {
      above = i.above;
      line = i.line;
      below = i.below;
      words = i.words;
      parted = i.parted;
      counted = i.counted;
      without = i.without;
      told = i.told;
    }

pub first-told : (source : List ℕ) (lines : List Line) (fault : Fault) → program_of source ≡ Ok lines → has_end lines ≡ true
    → outcome_of source ≡ Err fault
    → TellsFirst lines fault
unfolding outcome_of outcome_read
first-told source lines fault r e h =
    let from : outcome_from lines (laid_out empty_layout 1 lines) ≡ Err fault =
    sym (if-same (has_end lines) (outcome_from lines (laid_out empty_layout 1 lines)) (record { line = length lines; code = NoEnd }) e)
    ∙ ap outcome_read (sym r) ∙ h in
    told-from lines (laid_out empty_layout 1 lines) fault (TellsFirst lines fault) from
    (λ l. inl (first-laid lines fault l))
    (λ s l w. inr (ap is_ok l, first-given (lines_placed (map_of lines) lines) fault (subst (λ x. words_given 1 x ≡ Err fault) (laid-placed lines s e l) w)))
