-- Sources are read as they are written.
use Rattle.std.proofs.Common.{◌≡◌, ℕ, ◌+◌, ◌-◌, ◌<◌, ◌≤◌, ◌==◌, List, [], ◌∷◌, ◌++◌, Option, Some, None, Result, Ok, Err, Bool, true, false, cond}
use Rattle.std.proofs.Common.{length, length-append, take, refl, sym, ap, subst, ◌∙◌, append_assoc, append-nil, arith}
use Rattle.std.specs.Prelude.{◌&&◌, nat_le, slice_index}
use Rattle.std.specs.List.{All, list_all, slice_split}
use Rattle.std.specs.Str.Lines.{lines, lines_of_parts, strip_carriage_return}
use Rattle.std.proofs.Math.Seq.{take-append_seam, get_or-append_seam}
use Rattle.std.proofs.lemmas.Bool.{not-true, and_parts, leb-true, ne_eqb}
use Rattle.std.proofs.lemmas.List.Sums.{AllPass-from_list_all}
use Rattle.std.proofs.lemmas.List.Splits.{slice_split_at, slice_split_none}
use Rattle.mac_text.specs.Lines.{line_of, lines_from, program_of, radix_of, radix_after, is_end, line_then, with_line}
use Rattle.mac_text.specs.WrittenSource.{LineEnd, Feed, ReturnAndFeed, end_before, is_line_character, ends_with_return, IsOneLine, SourceLine}
use Rattle.mac_text.specs.WrittenSource.{source_line_text, source_line_given, source_before, source_given, radix_behind, GoOn}
use Rattle.mac_text.specs.declared.syntax.Statement.{Statement}
use Rattle.mac_text.specs.declared.syntax.Statement.TheVariants as statements
use Rattle.mac_text.specs.declared.syntax.Line.{Line}
use Rattle.mac_text.proofs.LineLemmas.{newline, parts_some, parts_more}
use Rattle.mac_text.proofs.SourceLemmas.{with_lines, with_no_lines, lines_from-cons, lines_from-nil, lines_of_nothing}
use Rattle.mac_text.proofs.WrittenLines.{line_read}

-- ---- the first line

no_feeds : (text : List ℕ) → list_all is_line_character text ≡ true → All (λ b. newline b ≡ false) text
no_feeds text h = λ k d lt. not-true (Rattle.std.specs.List.slice_index_or text k d == 10) (AllPass-from_list_all is_line_character text h k d lt)

-- up to its first line feed
fed_line : (text rest : List ℕ) → list_all is_line_character text ≡ true → lines (text ++ 10 ∷ rest) ≡ strip_carriage_return text ∷ lines rest
fed_line text rest h =
    ap lines_of_parts (slice_split_at newline text 10 rest (no_feeds text h) refl) ∙ parts_more text (slice_split newline rest) (parts_some rest)

not_stripped : (text : List ℕ) → ends_with_return text ≡ false → strip_carriage_return text ≡ text
not_stripped text h = ap (λ b. cond b (take (length text - 1) text) text) h

stripped : (text : List ℕ) → strip_carriage_return (text ++ 13 ∷ []) ≡ text
stripped text =
    let long : length (text ++ 13 ∷ []) - 1 ≡ length text = omega (arith, length-append text (13 ∷ [])) in
    let last : slice_index (text ++ 13 ∷ []) (length (text ++ 13 ∷ []) - 1) ≡ 13 = ap (slice_index (text ++ 13 ∷ [])) long ∙ get_or-append_seam text 13 [] 0 in
    ap (λ n. cond (n == 13) (take (length (text ++ 13 ∷ []) - 1) (text ++ 13 ∷ [])) (text ++ 13 ∷ [])) last
    ∙ ap (λ n. take n (text ++ 13 ∷ [])) long ∙ take-append_seam text (13 ∷ [])

return_is_line : (text : List ℕ) → list_all is_line_character text ≡ true → list_all is_line_character (text ++ 13 ∷ []) ≡ true
return_is_line [] h = refl
return_is_line (c ∷ cs) h =
    let p = and_parts (is_line_character c) (list_all is_line_character cs) h in
    rw (p.0, return_is_line cs p.1) refl

first_line : (text : List ℕ) (end : LineEnd) (rest : List ℕ) → IsOneLine text → lines (text ++ end_before end rest) ≡ text ∷ lines rest
first_line text Feed rest one = fed_line text rest one.characters ∙ ap (λ l. l ∷ lines rest) (not_stripped text one.no_return)
first_line text ReturnAndFeed rest one =
    ap lines (sym (append_assoc text (13 ∷ []) (10 ∷ rest)))
    ∙ fed_line (text ++ 13 ∷ []) rest (return_is_line text one.characters)
    ∙ ap (λ l. l ∷ lines rest) (stripped text)

-- the last line has no end
last_line : (text : List ℕ) → 0 < length text → list_all is_line_character text ≡ true → lines text ≡ text ∷ []
last_line text some h =
    ap lines_of_parts (slice_split_none newline text (no_feeds text h)) ∙ ap (λ b. cond b [] (text ∷ [])) (ne_eqb (length text) 0 (λ e. omega arith))

-- ---- the radix stays small

radix_in_range : (n radix : ℕ) (in_range : Bool) → (nat_le 2 n && nat_le n 10) ≡ in_range → radix ≤ 10 → cond in_range n radix ≤ 10
radix_in_range n radix true h small = leb-true n 10 (and_parts (nat_le 2 n) (nat_le n 10) h).1
radix_in_range n radix false h small = small

radix_stays : (statement : Option Statement) (radix : ℕ) → radix ≤ 10 → radix_of statement radix ≤ 10
radix_stays None radix small = small
radix_stays (Some (statements.Data given)) radix small = small
radix_stays (Some (statements.Loc place)) radix small = small
radix_stays (Some (statements.End start)) radix small = small
radix_stays (Some (statements.Radix n)) radix small = radix_in_range n radix (nat_le 2 n && nat_le n 10) refl small
radix_stays (Some statements.Title) radix small = small

pub radix_behind_small : (ls : List SourceLine) (radix : ℕ) → radix ≤ 10 → radix_behind radix ls ≤ 10
unfolding radix_behind
radix_behind_small [] radix small = small
radix_behind_small (l ∷ ls) radix small = radix_behind_small ls _ (radix_stays (source_line_given l).statement radix small)

-- ---- lines one after another

one_then : (line : Line) (front : List Line) (read : Result (List Line) ℕ) → with_line line (with_lines front read) ≡ with_lines (line ∷ front) read
one_then line front (Ok more) = refl
one_then line front (Err n) = refl

source_line_read : (l : SourceLine) (radix : ℕ) → radix ≤ 10 → l.radix ≡ radix → line_of radix (source_line_text l) ≡ Some (source_line_given l)
source_line_read l radix small same =
    subst (λ (r : ℕ). line_of r (source_line_text l) ≡ Some (source_line_given l)) same
    (line_read l.radix l.line (subst (λ (r : ℕ). r ≤ 10) (sym same) small) l.legal)

-- a line that is read, at the head of others
line_first : (radix number : ℕ) (text : List ℕ) (texts all : List (List ℕ)) (line : Line) → all ≡ text ∷ texts
    → line_of radix text ≡ Some line
    → is_end line ≡ false
    → lines_from radix number all ≡ with_line line (lines_from (radix_after line radix) (number + 1) texts)
line_first radix number text texts all line parted is goes =
    ap (lines_from radix number) parted ∙ lines_from-cons radix number text texts
    ∙ ap (λ o. line_then number o (λ l. lines_from (radix_after l radix) (number + 1) texts)) is
    ∙ ap (λ b. cond b (Ok (line ∷ [])) (with_line line (lines_from (radix_after line radix) (number + 1) texts))) goes

line_ends : (radix number : ℕ) (text : List ℕ) (texts all : List (List ℕ)) (line : Line) → all ≡ text ∷ texts
    → line_of radix text ≡ Some line
    → is_end line ≡ true
    → lines_from radix number all ≡ Ok (line ∷ [])
line_ends radix number text texts all line parted is ends =
    ap (lines_from radix number) parted ∙ lines_from-cons radix number text texts
    ∙ ap (λ o. line_then number o (λ l. lines_from (radix_after l radix) (number + 1) texts)) is
    ∙ ap (λ b. cond b (Ok (line ∷ [])) (with_line line (lines_from (radix_after line radix) (number + 1) texts))) ends

line_fails : (radix number : ℕ) (text : List ℕ) (texts all : List (List ℕ)) → all ≡ text ∷ texts → line_of radix text ≡ None
    → lines_from radix number all ≡ Err number
line_fails radix number text texts all parted is =
    ap (lines_from radix number) parted ∙ lines_from-cons radix number text texts
    ∙ ap (λ o. line_then number o (λ l. lines_from (radix_after l radix) (number + 1) texts)) is

-- what stands behind lines is read with the next number, in the radix that they leave
lines_read : (ls : List SourceLine) (radix number : ℕ) (rest : List ℕ) → radix ≤ 10 → GoOn radix ls
    → lines_from radix number (lines (source_before ls rest))
    ≡ with_lines (source_given ls) (lines_from (radix_behind radix ls) (number + length ls) (lines rest))
unfolding source_before radix_behind GoOn
lines_read [] radix number rest small on =
    let same : number ≡ number + 0 = omega arith in
    sym (with_no_lines (lines_from radix number (lines rest))) ∙ ap (λ n. with_lines [] (lines_from radix n (lines rest))) same
lines_read (l ∷ ls) radix number rest small on =
    let line = source_line_given l in
    let next = radix_after line radix in
    let behind = source_before ls rest in
    let more : number + 1 + length ls ≡ number + length (l ∷ ls) = omega arith in
    line_first radix number (source_line_text l) (lines behind) (lines (source_line_text l ++ end_before l.end behind)) line
    (first_line (source_line_text l) l.end behind l.one) (source_line_read l radix small on.0) on.1
    ∙ ap (with_line line) (lines_read ls next (number + 1) rest (radix_stays line.statement radix small) on.2)
    ∙ one_then line (source_given ls) (lines_from (radix_behind next ls) (number + 1 + length ls) (lines rest))
    ∙ ap (λ n. with_lines (line ∷ source_given ls) (lines_from (radix_behind next ls) n (lines rest))) more

source_read : (ls : List SourceLine) (rest : List ℕ) → GoOn 8 ls
    → program_of (source_before ls rest) ≡ with_lines (source_given ls) (lines_from (radix_behind 8 ls) (1 + length ls) (lines rest))
unfolding program_of
source_read ls rest on = lines_read ls 8 1 rest (omega arith) on

-- ---- whole sources

-- lines up to the end of the source
pub whole_source_read : (ls : List SourceLine) → GoOn 8 ls → program_of (source_before ls []) ≡ Ok (source_given ls)
whole_source_read ls on =
    source_read ls [] on
    ∙ ap (with_lines (source_given ls))
    (ap (lines_from (radix_behind 8 ls) (1 + length ls)) (lines_of_nothing [] refl)
    ∙ lines_from-nil (radix_behind 8 ls) (1 + length ls))
    ∙ ap Ok (append-nil (source_given ls))

last_read : (ends : Bool) (l : SourceLine) (radix number : ℕ) → is_end (source_line_given l) ≡ ends
    → lines (source_line_text l) ≡ source_line_text l ∷ []
    → line_of radix (source_line_text l) ≡ Some (source_line_given l)
    → lines_from radix number (lines (source_line_text l)) ≡ Ok (source_line_given l ∷ [])
last_read true l radix number is there read = line_ends radix number (source_line_text l) [] (lines (source_line_text l)) (source_line_given l) there read is
last_read false l radix number is there read =
    line_first radix number (source_line_text l) [] (lines (source_line_text l)) (source_line_given l) there read is
    ∙ ap (with_line (source_line_given l)) (lines_from-nil (radix_after (source_line_given l) radix) (number + 1))

-- a last line that has no end
pub open_source_read : (ls : List SourceLine) (last : SourceLine) → GoOn 8 ls → last.radix ≡ radix_behind 8 ls → 0 < length (source_line_text last)
    → program_of (source_before ls (source_line_text last)) ≡ Ok (source_given ls ++ source_line_given last ∷ [])
open_source_read ls last on same some =
    let read = source_line_read last (radix_behind 8 ls) (radix_behind_small ls 8 (omega arith)) same in
    let there = last_line (source_line_text last) some last.one.characters in
    source_read ls (source_line_text last) on
    ∙ ap (with_lines (source_given ls)) (last_read (is_end (source_line_given last)) last (radix_behind 8 ls) (1 + length ls) refl there read)

-- END, behind which nothing is looked at
pub ended_source_read : (ls : List SourceLine) (last : SourceLine) (rest : List ℕ) → GoOn 8 ls → last.radix ≡ radix_behind 8 ls
    → is_end (source_line_given last) ≡ true
    → program_of (source_before ls (source_line_text last ++ end_before last.end rest)) ≡ Ok (source_given ls ++ source_line_given last ∷ [])
ended_source_read ls last rest on same ends =
    let read = source_line_read last (radix_behind 8 ls) (radix_behind_small ls 8 (omega arith)) same in
    let behind = source_line_text last ++ end_before last.end rest in
    source_read ls behind on
    ∙ ap (with_lines (source_given ls))
    (line_ends (radix_behind 8 ls) (1 + length ls) (source_line_text last) (lines rest) (lines behind)
    (source_line_given last) (first_line (source_line_text last) last.end rest last.one) read ends)

-- a line that is not in the grammar
pub source_refused : (ls : List SourceLine) (text : List ℕ) (end : LineEnd) (rest : List ℕ) → GoOn 8 ls → IsOneLine text
    → line_of (radix_behind 8 ls) text ≡ None
    → program_of (source_before ls (text ++ end_before end rest)) ≡ Err (length ls + 1)
source_refused ls text end rest on one none =
    let behind = text ++ end_before end rest in
    let number : 1 + length ls ≡ length ls + 1 = omega arith in
    source_read ls behind on
    ∙ ap (with_lines (source_given ls))
    (line_fails (radix_behind 8 ls) (1 + length ls) text (lines rest) (lines behind) (first_line text end rest one) none
    ∙ ap Err number)

-- how a written source is read: to its end, to END, to its first refused line
pub ruleset written_sources_read = (whole_source_read, open_source_read, ended_source_read, source_refused)
