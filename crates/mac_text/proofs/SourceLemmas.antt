-- The steps of the loop over a source's lines.
use Rattle.std.proofs.Common.{◌≡◌, ℕ, zero, suc, ◌+◌, drop, List, [], ◌∷◌, ◌++◌, Some, None, Result, Ok, Err, true, false, cond, length, get_or}
use Rattle.std.proofs.Common.{refl, sym, ap, ◌∙◌, append_assoc, append-nil, length-append, arith}
use Rattle.std.proofs.Math.ListN.{set}
use Rattle.std.proofs.Math.Seq.{set-append_seam, get_or-append_seam}
use Rattle.std.specs.Str.Lines.{lines}
use Rattle.mac_text.specs.Lines.{line_of, line_then, lines_from, program_of, with_line, is_end, radix_after}
use Rattle.mac_text.specs.declared.syntax.Line.{Line}

-- what was read before comes first
abbrev pub with_lines : List Line → Result (List Line) ℕ → Result (List Line) ℕ
with_lines front (Ok more) = Ok (front ++ more)
with_lines front (Err n) = Err n

regroup : (front : List Line) (line : Line) (read : Result (List Line) ℕ) → with_lines front (with_line line read) ≡ with_lines (front ++ line ∷ []) read
regroup front line (Ok more) = ap Ok (sym (append_assoc front (line ∷ []) more))
regroup front line (Err n) = refl

pub lines_from-cons : (radix number : ℕ) (text : List ℕ) (texts : List (List ℕ))
    → lines_from radix number (text ∷ texts)
    ≡ line_then number (line_of radix text) (λ line. lines_from (radix_after line radix) (number + 1) texts)
unfolding lines_from
lines_from-cons radix number text texts = refl

pub lines_from-nil : (radix number : ℕ) → lines_from radix number [] ≡ Ok []
unfolding lines_from
lines_from-nil radix number = refl

-- one more line, which does not end the source
pub source_goes_on : (front : List Line) (radix number next next' : ℕ) (all texts : List (List ℕ)) (text : List ℕ) (line : Line) (total : Result (List Line) ℕ)
    → all ≡ text ∷ texts → line_of radix text ≡ Some line → is_end line ≡ false → next ≡ radix_after line radix → next' ≡ number + 1
    → with_lines front (lines_from radix number all) ≡ total → with_lines (front ++ line ∷ []) (lines_from next next' texts) ≡ total
source_goes_on front radix number next next' all texts text line total parted is goes after after' so_far =
    let step = ap (lines_from radix number) parted ∙ lines_from-cons radix number text texts
    ∙ ap (λ o. line_then number o (λ l. lines_from (radix_after l radix) (number + 1) texts)) is
    ∙ ap (λ b. cond b (Ok (line ∷ [])) (with_line line (lines_from (radix_after line radix) (number + 1) texts))) goes in
    ap (λ r. with_lines (front ++ line ∷ []) (lines_from r next' texts)) after
    ∙ ap (λ n. with_lines (front ++ line ∷ []) (lines_from (radix_after line radix) n texts)) after'
    ∙ sym (regroup front line (lines_from (radix_after line radix) (number + 1) texts)) ∙ sym (ap (with_lines front) step) ∙ so_far

-- the line that ends the source
pub source_ends : (front : List Line) (radix number : ℕ) (all texts : List (List ℕ)) (text : List ℕ) (line : Line) (total : Result (List Line) ℕ)
    → all ≡ text ∷ texts → line_of radix text ≡ Some line → is_end line ≡ true
    → with_lines front (lines_from radix number all) ≡ total → total ≡ Ok (front ++ line ∷ [])
source_ends front radix number all texts text line total parted is ends so_far =
    let step = ap (lines_from radix number) parted ∙ lines_from-cons radix number text texts
    ∙ ap (λ o. line_then number o (λ l. lines_from (radix_after l radix) (number + 1) texts)) is
    ∙ ap (λ b. cond b (Ok (line ∷ [])) (with_line line (lines_from (radix_after line radix) (number + 1) texts))) ends in
    sym so_far ∙ ap (with_lines front) step

-- a line that is not in the grammar
pub source_fails : (front : List Line) (radix number : ℕ) (all texts : List (List ℕ)) (text : List ℕ) (total : Result (List Line) ℕ)
    → all ≡ text ∷ texts → line_of radix text ≡ None
    → with_lines front (lines_from radix number all) ≡ total → total ≡ Err number
source_fails front radix number all texts text total parted is so_far =
    let step = ap (lines_from radix number) parted ∙ lines_from-cons radix number text texts
    ∙ ap (λ o. line_then number o (λ l. lines_from (radix_after l radix) (number + 1) texts)) is in
    sym so_far ∙ ap (with_lines front) step

-- no more lines
pub source_done : (front : List Line) (radix number : ℕ) (all : List (List ℕ)) (total : Result (List Line) ℕ)
    → all ≡ [] → with_lines front (lines_from radix number all) ≡ total → total ≡ Ok front
source_done front radix number all total none so_far =
    sym so_far ∙ ap (λ ts. with_lines front (lines_from radix number ts)) none ∙ ap (with_lines front) (lines_from-nil radix number) ∙ ap Ok (append-nil front)

pub with_no_lines : (read : Result (List Line) ℕ) → with_lines [] read ≡ read
with_no_lines (Ok more) = refl
with_no_lines (Err n) = refl

-- before the first line
pub source_begins : (source : List ℕ) (front : List Line) → front ≡ [] → with_lines front (lines_from 8 (length front + 1) (lines source)) ≡ program_of source
unfolding program_of
source_begins source front none = ap (λ f. with_lines f (lines_from 8 (length f + 1) (lines source))) none ∙ with_no_lines (lines_from 8 1 (lines source))

pub lines_of_nothing : (text : List ℕ) → length text ≡ 0 → lines text ≡ []
lines_of_nothing [] h = refl
lines_of_nothing (b ∷ bs) h = absurd (omega arith)

-- a line read in the place of the last
pub placed : (front all : List Line) (line given : Line) (at : ℕ) → at ≡ length front → all ≡ front ++ line ∷ [] → set all at given ≡ front ++ given ∷ []
placed front all line given at here e = rw (here, e) (set-append_seam front line [] given)

pub there : (front all : List Line) (line given : Line) (at : ℕ) (d : Line) → at ≡ length front → all ≡ front ++ line ∷ []
    → get_or (set all at given) at d ≡ given
there front all line given at d here e = rw (placed front all line given at here e, here) (get_or-append_seam front given [] d)

pub one_longer : (front all : List Line) (line : Line) → all ≡ front ++ line ∷ [] → length all ≡ length front + 1
one_longer front all line e = ap length e ∙ length-append front (line ∷ [])

-- the first of the lines that are left stands behind those before it
pub line_there : (all : List (List ℕ)) (n : ℕ) (text : List ℕ) (texts : List (List ℕ)) → drop n all ≡ text ∷ texts → get_or all n [] ≡ text
line_there [] zero text texts h = absurd (cc)
line_there [] (suc n) text texts h = absurd (cc)
line_there (x ∷ xs) zero text texts h = ap (λ l. get_or l 0 []) h
line_there (x ∷ xs) (suc n) text texts h = line_there xs n text texts h

behind : (all : List (List ℕ)) (n : ℕ) (text : List ℕ) (texts : List (List ℕ)) → drop n all ≡ text ∷ texts → drop (suc n) all ≡ texts
behind [] zero text texts h = absurd (cc)
behind [] (suc n) text texts h = absurd (cc)
behind (x ∷ xs) zero text texts h = ap (drop 1) h
behind (x ∷ xs) (suc n) text texts h = behind xs n text texts h

pub lines_behind : (all : List (List ℕ)) (n next : ℕ) (text : List ℕ) (texts : List (List ℕ)) → next ≡ n + 1 → drop n all ≡ text ∷ texts
    → drop next all ≡ texts
lines_behind all n next text texts after h =
    let one : next ≡ suc n = omega (arith, after) in
    ap (λ k. drop k all) one ∙ behind all n text texts h
