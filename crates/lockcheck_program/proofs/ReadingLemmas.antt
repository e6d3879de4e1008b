-- Lemmas on the programs of a script.
use Rattle.std.proofs.Common.{◌≡◌, ◌++◌, ◌==◌, ◌+◌, ◌∙◌, ap, sym, refl, cond, ℕ, true, false, List, [], ◌∷◌, Result, Ok, Err, append_assoc, append-nil}
use Rattle.std.specs.Str.Lines.{lines}
use Rattle.lockcheck_orders.specs.declared.lines.Line.{Line}
use Rattle.lockcheck_orders.specs.declared.lines.TheConstants.{MOST_LINES}
use Rattle.queue_script.specs.Commands.{command_of}
use Rattle.lockcheck_program.specs.Reading.{in_front, joined, lines_behind, onward, programs_of, taken_of}
use Rattle.lockcheck_program.specs.declared.reading.ScriptError.{ScriptError}
use Rattle.lockcheck_program.specs.declared.reading.ScriptError.TheVariants.{TooLong}
use Rattle.lockcheck_program.specs.declared.reading.Taken.{Taken}

joined_nothing : (r : Result (List Line) ScriptError) → joined [] r ≡ r
joined_nothing (Ok more) = refl
joined_nothing (Err e) = refl

-- nothing is read yet
pub read_begins : (script : List ℕ) → joined [] (lines_behind 0 (lines script)) ≡ programs_of script
unfolding programs_of
read_begins script = joined_nothing (lines_behind 0 (lines script))

-- the next line is read
pub read_line : (n m : ℕ) (line : List ℕ) (left more : List (List ℕ)) (kept : List Line) (t : Result Taken ScriptError) (whole : Result (List Line) ScriptError)
    → left ≡ line ∷ more → (n == MOST_LINES) ≡ false → m ≡ n + 1 → t ≡ taken_of m (command_of line)
    → joined kept (lines_behind n left) ≡ whole → joined kept (onward t (lines_behind m more)) ≡ whole
read_line n m line left more kept t whole first few next taken before =
    ap (λ x. joined kept (onward x (lines_behind m more))) taken
    ∙ ap (λ k. joined kept (onward (taken_of k (command_of line)) (lines_behind k more))) next
    ∙ ap (λ b. joined kept (cond b (Err TooLong) (onward (taken_of (n + 1) (command_of line)) (lines_behind (n + 1) more)))) (sym few)
    ∙ ap (λ l. joined kept (lines_behind n l)) (sym first)
    ∙ before

-- there is no room for the next line
pub read_too_long : (n : ℕ) (line : List ℕ) (left more : List (List ℕ)) (kept : List Line) (whole : Result (List Line) ScriptError)
    → left ≡ line ∷ more → (n == MOST_LINES) ≡ true → joined kept (lines_behind n left) ≡ whole → whole ≡ Err TooLong
read_too_long n line left more kept whole first full before =
    sym before ∙ ap (λ l. joined kept (lines_behind n l)) first
    ∙ ap (λ b. joined kept (cond b (Err TooLong) (onward (taken_of (n + 1) (command_of line)) (lines_behind (n + 1) more)))) full

joined_line : (kept : List Line) (l : Line) (r : Result (List Line) ScriptError) → joined (kept ++ l ∷ []) r ≡ joined kept (in_front l r)
joined_line kept l (Ok more) = ap Ok (append_assoc kept (l ∷ []) more)
joined_line kept l (Err e) = refl

-- a line is kept
pub read_kept : (kept new : List Line) (l : Line) (r whole : Result (List Line) ScriptError) → new ≡ kept ++ l ∷ []
    → joined kept (in_front l r) ≡ whole → joined new r ≡ whole
read_kept kept new l r whole is before = ap (λ k. joined k r) is ∙ joined_line kept l r ∙ before

-- all is read
pub read_ended : (kept : List Line) (whole : Result (List Line) ScriptError) → joined kept (Ok []) ≡ whole → whole ≡ Ok kept
read_ended kept whole before = sym before ∙ ap Ok (append-nil kept)
