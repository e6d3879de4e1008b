-- A source is read as its lines.
use Rattle.std.proofs.Common.{◌≡◌, ◌∙◌, sym, ap, ℕ, ◌==◌, Bool, true, false, List, [], ◌∷◌, ◌++◌, Ok, if◌then◌else◌, refl, append-nil}
use Rattle.mac_text.specs.Lines.{program_of, is_end, radix_after}
use Rattle.mac_text.specs.declared.syntax.Line.{Line}
use Rattle.mac_text.specs.WrittenSource.{SourceLine, GoOn, end_before, radix_behind, source_before, source_given, source_line_text, source_line_given}
use Rattle.mac_text.proofs.WrittenSources.{ended_source_read}
use Rattle.mac_layout.specs.Addresses.{first_address}
use Rattle.mac_asm.specs.Assembly.{Assembled}
use Rattle.mac_source.specs.Sources.{Style, ArePrinting, loc_text, piece_line, end_line, lines_text, pieces_in, source_with}
use Rattle.mac_source.specs.declared.pieces.Piece.{Piece}
use Rattle.mac_source.specs.Pieces.{address_of, behind}
use Rattle.mac_source.proofs.PieceLemmas.{ArePieces}
use Rattle.mac_source.proofs.Given.{loc_if, piece_given, loc_given, end_given, lines_given}
use Rattle.mac_source.proofs.WrittenWords.{Stands, piece_source, loc_source, end_source, piece_stands, loc_stands, end_stands}

-- the lines before END
lines_source : (style : Style) → ArePrinting style → (here least : ℕ) (ps : List Piece) → ArePieces least ps → List SourceLine
lines_source style ok here least [] r = []
lines_source style ok here least (p ∷ ps) r = loc_if (address_of p == here) (loc_source (address_of p)) (piece_source style ok p r.2 ∷ lines_source style ok (behind p) (behind p) ps r.3)

first_text : (l : SourceLine) (text : List ℕ) (given : Line) (ls : List SourceLine) (rest more : List ℕ) → Stands l text given
    → source_before ls rest ≡ more → source_before (l ∷ ls) rest ≡ text ++ more
unfolding source_before
first_text l text given ls rest more s e = s.before (source_before ls rest) ∙ ap (λ t. text ++ t) e

loc_first : (b : Bool) (p : ℕ) (ls : List SourceLine) (rest more : List ℕ) → source_before ls rest ≡ more
    → source_before (loc_if b (loc_source p) ls) rest ≡ (if b then [] else loc_text p) ++ more
loc_first true p ls rest more e = e
loc_first false p ls rest more e = first_text (loc_source p) (loc_text p) (loc_given p) ls rest more (loc_stands p) e

text_is : (style : Style) (ok : ArePrinting style) (start here least : ℕ) (ps : List Piece) (r : ArePieces least ps) (rest : List ℕ)
    → rest ≡ end_line style.marked start
    → source_before (lines_source style ok here least ps r) rest ≡ lines_text style start here ps
unfolding lines_source source_before lines_text
text_is style ok start here least [] r rest e = e
text_is style ok start here least (p ∷ ps) r rest e =
    let later = lines_source style ok (behind p) (behind p) ps r.3 in
    loc_first (address_of p == here) (address_of p) (piece_source style ok p r.2 ∷ later) rest (piece_line style p ++ lines_text style start (behind p) ps)
    (first_text (piece_source style ok p r.2) (piece_line style p) (piece_given style p) later rest (lines_text style start (behind p) ps)
    (piece_stands style ok p r.2) (text_is style ok start (behind p) (behind p) ps r.3 rest e))

loc_given_first : (b : Bool) (p : ℕ) (ls : List SourceLine) (given : List Line) (last : Line) → source_given ls ++ last ∷ [] ≡ given
    → source_given (loc_if b (loc_source p) ls) ++ last ∷ [] ≡ loc_if b (loc_given p) given
loc_given_first true p ls given last e = e
loc_given_first false p ls given last e = ap (λ l. l ∷ (source_given ls ++ last ∷ [])) (loc_stands p).means ∙ ap (λ ls. loc_given p ∷ ls) e

given_is : (style : Style) (ok : ArePrinting style) (start here least : ℕ) (ps : List Piece) (r : ArePieces least ps)
    → source_given (lines_source style ok here least ps r) ++ end_given style.marked start ∷ [] ≡ lines_given style start here ps
unfolding lines_source lines_given
given_is style ok start here least [] r = refl
given_is style ok start here least (p ∷ ps) r =
    let later = lines_source style ok (behind p) (behind p) ps r.3 in
    loc_given_first (address_of p == here) (address_of p) (piece_source style ok p r.2 ∷ later) (piece_given style p ∷ lines_given style start (behind p) ps) (end_given style.marked start)
    (ap (λ l. l ∷ (source_given later ++ end_given style.marked start ∷ [])) (piece_stands style ok p r.2).means
    ∙ ap (λ ls. piece_given style p ∷ ls) (given_is style ok start (behind p) (behind p) ps r.3))

-- a line that leaves radix 8, in which it is written, and is not END
record Leaves (given : Line) : Type 0 where
  radix : radix_after given 8 ≡ 8
  goes : is_end given ≡ false

goes_on : (l : SourceLine) (text : List ℕ) (given : Line) (ls : List SourceLine) → Stands l text given → Leaves given → GoOn 8 ls
    → GoOn 8 (l ∷ ls)
unfolding GoOn
goes_on l text given ls s leaves on = (
  s.radix,
  ap is_end s.means ∙ leaves.goes,
  rw (ap (λ g. radix_after g 8) s.means ∙ leaves.radix) on,
)

loc_goes_on : (b : Bool) (p : ℕ) (ls : List SourceLine) → GoOn 8 ls → GoOn 8 (loc_if b (loc_source p) ls)
loc_goes_on true p ls on = on
loc_goes_on false p ls on = goes_on (loc_source p) (loc_text p) (loc_given p) ls (loc_stands p) (record { radix = refl; goes = refl }) on

all_go_on : (style : Style) (ok : ArePrinting style) (here least : ℕ) (ps : List Piece) (r : ArePieces least ps) → GoOn 8 (lines_source style ok here least ps r)
unfolding lines_source GoOn
all_go_on style ok here least [] r = tt
all_go_on style ok here least (p ∷ ps) r =
    let later = lines_source style ok (behind p) (behind p) ps r.3 in
    loc_goes_on (address_of p == here) (address_of p) (piece_source style ok p r.2 ∷ later)
    (goes_on (piece_source style ok p r.2) (piece_line style p) (piece_given style p) later (piece_stands style ok p r.2)
    (record { radix = refl; goes = refl }) (all_go_on style ok (behind p) (behind p) ps r.3))

radix_kept : (l : SourceLine) (text : List ℕ) (given : Line) (ls : List SourceLine) → Stands l text given → Leaves given
    → radix_behind 8 ls ≡ 8
    → radix_behind 8 (l ∷ ls) ≡ 8
unfolding radix_behind
radix_kept l text given ls s leaves e = ap (λ r. radix_behind r ls) (ap (λ g. radix_after g 8) s.means ∙ leaves.radix) ∙ e

loc_kept : (b : Bool) (p : ℕ) (ls : List SourceLine) → radix_behind 8 ls ≡ 8 → radix_behind 8 (loc_if b (loc_source p) ls) ≡ 8
loc_kept true p ls e = e
loc_kept false p ls e = radix_kept (loc_source p) (loc_text p) (loc_given p) ls (loc_stands p) (record { radix = refl; goes = refl }) e

all_kept : (style : Style) (ok : ArePrinting style) (here least : ℕ) (ps : List Piece) (r : ArePieces least ps) → radix_behind 8 (lines_source style ok here least ps r) ≡ 8
unfolding lines_source radix_behind
all_kept style ok here least [] r = refl
all_kept style ok here least (p ∷ ps) r =
    let later = lines_source style ok (behind p) (behind p) ps r.3 in
    loc_kept (address_of p == here) (address_of p) (piece_source style ok p r.2 ∷ later)
    (radix_kept (piece_source style ok p r.2) (piece_line style p) (piece_given style p) later (piece_stands style ok p r.2)
    (record { radix = refl; goes = refl }) (all_kept style ok (behind p) (behind p) ps r.3))

pub source_read : (style : Style) (ok : ArePrinting style) (image : Assembled) → ArePieces 0 (pieces_in style image)
    → program_of (source_with style image) ≡ Ok (lines_given style image.start first_address (pieces_in style image))
source_read style ok image r =
    let ps = pieces_in style image in
    let ls = lines_source style ok first_address 0 ps r in
    let last = end_source style.marked image.start in
    let stands = end_stands style.marked image.start in
    let ending = source_line_text last ++ end_before last.end [] in
    let texts : ending ≡ end_line style.marked image.start = stands.before [] ∙ append-nil (end_line style.marked image.start) in
    let ends : is_end (source_line_given last) ≡ true = ap is_end stands.means in
    ap program_of (sym (text_is style ok image.start first_address 0 ps r ending texts))
    ∙ (ended_source_read ls last [] (all_go_on style ok first_address 0 ps r) (stands.radix ∙ sym (all_kept style ok first_address 0 ps r)) ends
    ∙ ap Ok (ap (λ l. source_given ls ++ l ∷ []) stands.means ∙ given_is style ok image.start first_address 0 ps r))
