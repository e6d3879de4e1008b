-- What a source comes to is its image where it has one.
use Rattle.std.proofs.Common.{◌≡◌, ◌∙◌, sym, ap, subst, ℕ, Bool, true, false, ◌&&◌, List, [], ◌∷◌, ◌++◌, map, length, take, drop}
use Rattle.std.proofs.Common.{flat_map, is_some, Option, Some, None, Result, Ok, Err, unwrap_or, refl}
use Rattle.std.specs.Prelude.{nat_lt, not, reverse, if◌then◌else◌}
use Rattle.std.specs.List.{list_all}
use Rattle.std.specs.List.Sorted.{IsPermutation}
use Rattle.std.specs.Map.{keys_of, values_of}
use Rattle.std.proofs.lemmas.Bool.{and_parts, and_from, not-true}
use Rattle.std.proofs.lemmas.List.Sorted.{IsPermutation-reverse, IsPermutation-sym, IsPermutation-trans}
use Rattle.mac_text.specs.Lines.{program_of, is_end, is_end_statement}
use Rattle.mac_text.specs.declared.syntax.Statement.{Statement}
use Rattle.mac_text.specs.declared.syntax.Statement.TheVariants as statements
use Rattle.mac_text.specs.declared.syntax.Line.{Line}
use Rattle.mac_layout.specs.declared.error.AsmCode.TheVariants.{NoEnd}
use Rattle.mac_layout.specs.Values.{Names}
use Rattle.mac_layout.specs.Addresses.{Labels, names_at, located, address_behind, address_after, literal_sizes, addresses_from, Placed, placed, first_address, are_apart}
use Rattle.mac_asm.specs.Assembly.{Assembled, IsAssembly, lines_at, literal_addresses, lines_placed, all_statement_words, all_literal_words}
use Rattle.mac_asm.specs.Assembly.{words_at, have_words, are_allowed, start_by, start_at, by_address, are_below}
use Rattle.asm_laws.specs.Found.{map_of}
use Rattle.mac_layout.specs.Faults.{Fault}
use Rattle.mac_layout.specs.LaidOut.{count_or, Layout, empty_layout, taking_all, laid_out, addresses_of_literals}
use Rattle.mac_asm.specs.Outcome.{lines_with, has_start, words_given, image_with, outcome_placed, outcome_from, has_end, outcome_read, outcome_of}
use Rattle.asm_laws.specs.Laws.{addresses_of, ranges_from, addresses_taken}
use Rattle.asm_laws.proofs.Options.{some_parts, bind_some, bind_at, known-some}
use Rattle.asm_laws.proofs.Found.{map_is_met, met_only}
use Rattle.asm_laws.proofs.Taken.{takes_its_addresses}
use Rattle.asm_laws.proofs.Apart.{apart-parts}
use Rattle.asm_laws.proofs.Counts.{all-known, all-taken, taken-all}
use Rattle.asm_laws.proofs.Ends.{ends_once, end-is-last}
use Rattle.asm_laws.proofs.Layouts.{AllRight, final, laid-right, right-laid, Fits, right-fits, end-right, fits-right, address_of, whole_layout, final-is}
use Rattle.asm_laws.proofs.Wholes.{Whole, fits-whole, whole-fits, all-append}
use Rattle.asm_laws.proofs.Given.{starts, Gathers, words-gather, gather-words}
use Rattle.asm_laws.proofs.Order.{by_address-permuted}

-- the lines with the layout's addresses are the lines with theirs
with-placed : (lines : List Line) (m : Labels) (p : ℕ) (lits : List ℕ)
    → lines_with m (map address_of (located m p lines)) lits lines ≡ placed m (located m p lines) lits
unfolding lines_with located placed
with-placed [] m p lits = refl
with-placed (line ∷ lines) m p lits =
    ap (λ l. record { names = names_at m p (take (length line.literals) lits); line = line } ∷ l)
    (with-placed lines m (address_behind m p line.statement) (drop (length line.literals) lits))

counted : (zs : List ℕ) → map (count_or 0) (map Ok zs) ≡ zs
counted [] = refl
counted (z ∷ zs) = ap (λ l. z ∷ l) (counted zs)

abbrev pub line_at : Placed → Line
line_at at = at.line

pub placed-lines : (lines : List Line) (m : Labels) (p : ℕ) (lits : List ℕ) → map line_at (placed m (located m p lines) lits) ≡ lines
unfolding located placed
placed-lines [] m p lits = refl
placed-lines (line ∷ lines) m p lits =
    ap (λ l. line ∷ l) (placed-lines lines m (address_behind m p line.statement) (drop (length line.literals) lits))

end-start : (names : Names) (s : Option Statement) → is_end_statement s ≡ true → has_start names s ≡ is_some (start_by names s)
unfolding has_start
end-start names None h = absurd (cc)
end-start names (Some (statements.Data given)) h = absurd (cc)
end-start names (Some (statements.Loc e)) h = absurd (cc)
end-start names (Some (statements.End e)) h = refl
end-start names (Some (statements.Radix n)) h = absurd (cc)
end-start names (Some statements.Title) h = absurd (cc)

start-end : (names : Names) (s : Option Statement) (start : ℕ) → start_by names s ≡ Some start → is_end_statement s ≡ true
start-end names None start h = absurd (cc)
start-end names (Some (statements.Data given)) start h = absurd (cc)
start-end names (Some (statements.Loc e)) start h = absurd (cc)
start-end names (Some (statements.End e)) start h = refl
start-end names (Some (statements.Radix n)) start h = absurd (cc)
start-end names (Some statements.Title) start h = absurd (cc)

other-start : (names : Names) (s : Option Statement) → is_end_statement s ≡ false → has_start names s ≡ true
unfolding has_start
other-start names None h = refl
other-start names (Some (statements.Data given)) h = refl
other-start names (Some (statements.Loc e)) h = refl
other-start names (Some (statements.End e)) h = absurd (cc)
other-start names (Some (statements.Radix n)) h = refl
other-start names (Some statements.Title) h = refl

all-start : (lines : List Placed) → has_end (map line_at lines) ≡ true → list_all starts lines ≡ true
    → is_some (start_at lines) ≡ true
unfolding start_at
all-start [] h s = absurd (cc)
all-start (at ∷ []) h s = sym (end-start at.names at.line.statement h) ∙ (and_parts (starts at) true s).0
all-start (at ∷ next ∷ lines) h s = all-start (next ∷ lines) h (and_parts (starts at) (list_all starts (next ∷ lines)) s).1

pub start-all : (lines : List Placed) (start : ℕ) → ends_once (map line_at lines) ≡ true → start_at lines ≡ Some start
    → list_all starts lines ≡ true
unfolding start_at
start-all [] start h s = refl
start-all (at ∷ []) start h s = and_from _ _ (end-start at.names at.line.statement h ∙ ap is_some s) refl
start-all (at ∷ next ∷ lines) start h s =
    let b = and_parts (not (is_end at.line)) (ends_once (map line_at (next ∷ lines))) h in
    and_from _ _ (other-start at.names at.line.statement (not-true (is_end at.line) b.0)) (start-all (next ∷ lines) start b.1 s)

start-last : (lines : List Placed) (start : ℕ) → start_at lines ≡ Some start → has_end (map line_at lines) ≡ true
unfolding start_at
start-last [] start s = absurd (cc)
start-last (at ∷ []) start s = start-end at.names at.line.statement start s
start-last (at ∷ next ∷ lines) start s = start-last (next ∷ lines) start s

from-ok : (lines : List Line) (r : Result Layout Fault) (image : Assembled) → outcome_from lines r ≡ Ok image
    → (s : Layout) × (r ≡ Ok s) × (outcome_placed (lines_with s.labels s.addresses (addresses_of_literals s) lines) ≡ Ok image)
from-ok lines (Ok s) image h = (s, refl, h)
from-ok lines (Err fault) image h = absurd (cc)

with-ok : (start : ℕ) (r : Result (List (ℕ × ℕ)) Fault) (image : Assembled) → image_with start r ≡ Ok image
    → (ws : List (ℕ × ℕ)) × (r ≡ Ok ws) × (image.words ≡ by_address (reverse ws)) × (image.start ≡ start)
with-ok start (Ok ws) image h =
    let same : record { words = by_address (reverse ws); start = start } ≡ image = cc in
    (ws, refl, ap (λ x. x.words) (sym same), ap (λ x. x.start) (sym same))
with-ok start (Err fault) image h = absurd (cc)

if-ok : (b : Bool) (r : Result Assembled Fault) (fault : Fault) (image : Assembled) → (if b then r else Err fault) ≡ Ok image
    → (b ≡ true) × (r ≡ Ok image)
if-ok true r fault image h = (refl, h)
if-ok false r fault image h = absurd (cc)

pub read-ok : (r : Result (List Line) ℕ) (image : Assembled) → outcome_read r ≡ Ok image
    → (lines : List Line) × (r ≡ Ok lines) × (has_end lines ≡ true) × (outcome_from lines (laid_out empty_layout 1 lines) ≡ Ok image)
unfolding outcome_read
read-ok (Ok lines) image h =
    let i = if-ok (has_end lines) (outcome_from lines (laid_out empty_layout 1 lines)) _ image h in
    (lines, refl, i.0, i.1)
read-ok (Err n) image h = absurd (cc)

-- the layout of all lines
abbrev pub layout_of : List Line → Layout
layout_of lines = whole_layout (map_of lines) first_address [] [] [] lines

pub layout-placed : (lines : List Line)
    → lines_with (map_of lines) (layout_of lines).addresses (addresses_of_literals (layout_of lines)) lines ≡ lines_placed (map_of lines) lines
layout-placed lines =
    let m = map_of lines in
    ap (λ z. lines_with m (map address_of (lines_at m lines)) (addresses_from (address_after m first_address lines) z) lines)
    (counted (literal_sizes m (lines_at m lines)))
    ∙ with-placed lines m first_address (literal_addresses m lines)

-- what is so of lines that are laid out
pub record LaidOut (lines : List Line) (s : Layout) : Type 0 where
  pub fits : Fits [] first_address [] lines
  pub layout : s ≡ layout_of lines
  pub full : taking_all (layout_of lines).taken (layout_of lines).address (layout_of lines).sizes ≡ None

pub laid-layout : (lines : List Line) (s : Layout) → has_end lines ≡ true → laid_out empty_layout 1 lines ≡ Ok s → LaidOut lines s
unfolding are_apart
laid-layout lines s h l =
    let r = laid-right lines empty_layout 1 s l in
    let full = end-right lines empty_layout h r.0 in
    let last = final empty_layout lines in
    let f : Fits [] first_address [] lines =
    right-fits lines [] first_address [] [] [] r.0 (all-known last.taken last.address last.sizes full) refl refl in
    let same : final empty_layout lines ≡ layout_of lines = final-is lines [] first_address [] [] [] f in
    record { fits = f; layout = sym r.1 ∙ same; full = subst (λ x. taking_all x.taken x.address x.sizes ≡ None) same full }

-- the words are worked out for the lines as they stand
pub laid-placed : (lines : List Line) (s : Layout) → has_end lines ≡ true → laid_out empty_layout 1 lines ≡ Ok s
    → lines_with s.labels s.addresses (addresses_of_literals s) lines ≡ lines_placed (map_of lines) lines
laid-placed lines s h l =
    ap (λ x. lines_with x.labels x.addresses (addresses_of_literals x) lines) (laid-layout lines s h l).layout
    ∙ layout-placed lines

-- the words that are given to lines that stand are those of an image
given-image : (source : List ℕ) (lines : List Line) (image : Assembled) (ws : List (ℕ × ℕ)) → program_of source ≡ Ok lines
    → has_end lines ≡ true → Fits [] first_address [] lines
    → taking_all (layout_of lines).taken (layout_of lines).address (layout_of lines).sizes ≡ None
    → words_given 1 (lines_placed (map_of lines) lines) ≡ Ok ws
    → image.words ≡ by_address (reverse ws)
    → image.start ≡ unwrap_or (start_at (lines_placed (map_of lines) lines)) first_address
    → IsAssembly source image
unfolding words_at are_apart
given-image source lines image ws reads h f full given words_are start_is =
    let m = map_of lines in
    let w : Whole m [] [] (literal_addresses m lines) lines (lines_at m lines) =
    fits-whole lines [] first_address [] (literal_addresses m lines) f refl refl refl in
    let own = flat_map (addresses_of m) (lines_at m lines) in
    let zs = literal_sizes m (lines_at m lines) in
    let t = all-taken zs own (address_after m first_address lines) full w.words_once in
    let at = lines_placed m lines in
    let gather = words-gather at 1 ws given in
    let g : Gathers at ws = gather.0 in
    let words = g.own ++ g.literals in
    let gives : words_at at ≡ Some words =
    bind_at (all_statement_words at) _ g.own g.gives_own ∙ bind_at (all_literal_words at) _ g.literals g.gives_literals in
    let keys : keys_of words ≡ addresses_taken m lines = takes_its_addresses m lines words w.settled gives in
    let once : are_apart (keys_of words) ≡ true = ap are_apart keys ∙ t.0 in
    let ends : has_end (map line_at at) ≡ true = ap has_end (placed-lines lines m first_address (literal_addresses m lines)) ∙ h in
    let s = known-some (start_at at) (all-start at ends gather.1) in
    let start : image.start ≡ s.0 = start_is ∙ ap (λ x. unwrap_or x first_address) s.1 in
    let order : IsPermutation (reverse ws) words =
    IsPermutation-trans (reverse ws) ws words (IsPermutation-sym ws (reverse ws) (IsPermutation-reverse ws)) g.same in
    record {
      lines = lines;
      labels = m;
      words = words;
      reads = reads;
      is_map = map_is_met lines w.settled;
      once = w.once;
      settled = w.settled;
      literals = w.sized;
      allowed = w.allowed;
      gives = gives;
      labels_below = w.low;
      words_below = ap are_below keys ∙ all-append own (ranges_from (address_after m first_address lines) zs) ∙ and_from _ _ w.words_low t.1;
      words_apart = once;
      words_are = words_are ∙ sym (by_address-permuted words (reverse ws) once (IsPermutation-sym (reverse ws) words order));
      start_is = s.1 ∙ ap Some (sym start);
    }

-- what is told is the image
pub told-image : (source : List ℕ) (image : Assembled) → outcome_of source ≡ Ok image → IsAssembly source image
unfolding outcome_of outcome_placed
told-image source image h =
    let r = read-ok (program_of source) image h in
    let lines = r.0 in
    let o = from-ok lines (laid_out empty_layout 1 lines) image r.3 in
    let l : LaidOut lines o.0 = laid-layout lines o.0 r.2 o.1 in
    let at = lines_placed (map_of lines) lines in
    let told : outcome_placed at ≡ Ok image = subst (λ x. outcome_placed x ≡ Ok image) (laid-placed lines o.0 r.2 o.1) o.2 in
    let i = with-ok (unwrap_or (start_at at) first_address) (words_given 1 at) image told in
    given-image source lines image i.0 r.1 r.2 l.fits l.full i.1 i.2 i.3

-- what an image holds under the labels that are met
record Held (m : Labels) (lines : List Line) (words : List (ℕ × ℕ)) (start : ℕ) : Type 0 where
  once : are_apart (keys_of m) ≡ true
  literals : have_words (literal_sizes m (lines_at m lines)) ≡ true
  allowed : are_allowed (lines_placed m lines) ≡ true
  gives : words_at (lines_placed m lines) ≡ Some words
  low : are_below (values_of m) ≡ true
  start_is : start_at (lines_placed m lines) ≡ Some start

pub if-same : (b : Bool) (r : Result Assembled Fault) (fault : Fault) → b ≡ true → (if b then r else Err fault) ≡ r
if-same true r fault h = refl
if-same false r fault h = absurd (cc)

-- and the image is what is told
pub image-told : (source : List ℕ) (image : Assembled) → IsAssembly source image → outcome_of source ≡ Ok image
unfolding outcome_of outcome_read outcome_placed words_at are_apart
image-told source image h =
    let lines = h.lines in
    let m = map_of lines in
    let words = h.words in
    let same : h.labels ≡ m = met_only lines h.labels h.settled h.is_map in
    let k : Held m lines words image.start = subst (λ l. Held l lines words image.start) same
    (record { once = h.once; literals = h.literals; allowed = h.allowed; gives = h.gives; low = h.labels_below; start_is = h.start_is }) in
    let at = lines_placed m lines in
    let own = flat_map (addresses_of m) (lines_at m lines) in
    let zs = literal_sizes m (lines_at m lines) in
    let address = address_after m first_address lines in
    let keys : keys_of words ≡ addresses_taken m lines = takes_its_addresses m lines words h.settled k.gives in
    let once : are_apart (own ++ ranges_from address zs) ≡ true = ap are_apart (sym keys) ∙ h.words_apart in
    let low = and_parts (are_below own) (are_below (ranges_from address zs))
    (sym (all-append own (ranges_from address zs)) ∙ ap are_below (sym keys) ∙ h.words_below) in
    let o = bind_some (all_statement_words at) _ words k.gives in
    let l = bind_some (all_literal_words at) _ words o.2 in
    let w : Whole m [] [] (literal_addresses m lines) lines (lines_at m lines) = record {
      settled = h.settled;
      once = k.once;
      low = k.low;
      sized = k.literals;
      allowed = k.allowed;
      words_once = (apart-parts own (ranges_from address zs) once).0;
      words_low = low.0;
    } in
    let f : Fits [] first_address [] lines = whole-fits lines [] first_address [] (literal_addresses m lines) o.0 w o.1 in
    let lines_are : map line_at at ≡ lines = placed-lines lines m first_address (literal_addresses m lines) in
    let ends : has_end lines ≡ true = ap has_end (sym lines_are) ∙ start-last at image.start k.start_is in
    let last : ends_once lines ≡ true = end-is-last source lines h.reads ends in
    let fin : final empty_layout lines ≡ layout_of lines = final-is lines [] first_address [] [] [] f in
    let full : taking_all own address (map Ok zs) ≡ None = taken-all zs own address once low.1 in
    let right : AllRight empty_layout lines =
    fits-right lines [] first_address [] [] [] f last (subst (λ s. taking_all s.taken s.address s.sizes ≡ None) (sym fin) full) in
    let g = gather-words at 1 o.0 l.0 o.1 l.1 (start-all at image.start (ap ends_once lines_are ∙ last) k.start_is) in
    let all : o.0 ++ l.0 ≡ words = some_parts (o.0 ++ l.0) words l.2 in
    let order : IsPermutation words (reverse g.0) =
    IsPermutation-trans words g.0 (reverse g.0)
    (IsPermutation-sym g.0 words (subst (λ x. IsPermutation g.0 x) all g.2)) (IsPermutation-reverse g.0) in
    ap outcome_read h.reads
    ∙ if-same (has_end lines) (outcome_from lines (laid_out empty_layout 1 lines)) (record { line = length lines; code = NoEnd }) ends
    ∙ ap (outcome_from lines) (right-laid lines empty_layout 1 right ∙ ap Ok fin)
    ∙ ap outcome_placed (layout-placed lines)
    ∙ ap (λ s. image_with (unwrap_or s first_address) (words_given 1 at)) k.start_is
    ∙ ap (image_with image.start) g.1
    ∙ ap (λ x. let i : Assembled = record { words = x; start = image.start } in Ok i)
    (sym (by_address-permuted words (reverse g.0) h.words_apart order) ∙ sym h.words_are)
