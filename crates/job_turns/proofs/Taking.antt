-- What leaves a line's output.
use Rattle.std.proofs.Common.{cond, min, Result, Ok, Err, ◌≡◌, ◌<◌, ◌-◌, ◌∙◌, sym, ap, ℕ, List, [], ◌∷◌, ◌++◌, length, take, drop, append_assoc, append-nil, length-drop, refl, arith, slice_set}
use Rattle.std.proofs.lemmas.Grind.{common_steps}
use Rattle.std.proofs.lemmas.List.{get_or-set_same, set-get_or, set-set}
use Rattle.std.proofs.lemmas.Bool.{lt-ltb}
use Rattle.word36.specs.declared.sizes.TheConstants.{LINES, TAKEN_AT_ONCE}
use Rattle.tty_lines.specs.declared.line_error.LineError.{LineError}
use Rattle.tty_lines.specs.declared.line_error.LineError.TheVariants.{NoLine}
use Rattle.tty_lines.specs.Rings.{taking, Rings, input_of, no_characters, output_of, with_output}

output-set : (lines : List Rings) (line : ℕ) (cs : List ℕ) → line < length lines → output_of (with_output lines line cs) line ≡ cs
output-set lines line cs low = ap (λ (r : Rings). r.output) (get_or-set_same lines line _ no_characters low)

input-set : (lines : List Rings) (line : ℕ) (cs : List ℕ) → line < length lines → input_of (with_output lines line cs) line ≡ input_of lines line
input-set lines line cs low = ap (λ (r : Rings). r.input) (get_or-set_same lines line _ no_characters low)

take-and-drop : (n : ℕ) (xs : List ℕ) → take n xs ++ drop n xs ≡ xs
take-and-drop n xs = grind (arith, common_steps)

pub taken-text : (lines : List Rings) (line n : ℕ) (text taken after : List ℕ) (rest : List Rings) → line < length lines
    → taken ≡ take n (output_of lines line) → rest ≡ with_output lines line (drop n (output_of lines line)) → after ≡ text ++ taken
    → after ++ output_of rest line ≡ text ++ output_of lines line
taken-text lines line n text taken after rest low is left put =
    ap (λ l. l ++ output_of rest line) (put ∙ ap (λ l. text ++ l) is)
    ∙ ap (λ (ls : List Rings). (text ++ take n (output_of lines line)) ++ output_of ls line) left
    ∙ ap (λ l. (text ++ take n (output_of lines line)) ++ l) (output-set lines line (drop n (output_of lines line)) low)
    ∙ append_assoc text (take n (output_of lines line)) (drop n (output_of lines line))
    ∙ ap (λ l. text ++ l) (take-and-drop n (output_of lines line))

pub taken-lines : (lines : List Rings) (line : ℕ) (cs : List ℕ) (rest : List Rings) → line < length lines → rest ≡ with_output lines line cs
    → with_output rest line [] ≡ with_output lines line []
taken-lines lines line cs rest low left =
    ap (λ (ls : List Rings). with_output ls line []) left
    ∙ ap (λ i. slice_set (with_output lines line cs) line (record { input = i; output = [] })) (input-set lines line cs low)
    ∙ set-set lines line (record { input = input_of lines line; output = cs }) (record { input = input_of lines line; output = [] })

pub taken-length : (lines : List Rings) (line n : ℕ) (rest : List Rings) → line < length lines
    → rest ≡ with_output lines line (drop n (output_of lines line)) → length (output_of rest line) ≡ length (output_of lines line) - n
taken-length lines line n rest low left =
    ap (λ (ls : List Rings). length (output_of ls line)) left
    ∙ ap length (output-set lines line (drop n (output_of lines line)) low)
    ∙ length-drop n (output_of lines line)

no-length : (xs : List ℕ) → length xs ≡ 0 → xs ≡ []
no-length [] e = refl
no-length (x ∷ xs) e = absurd (omega (arith, e))

-- where nothing is left
pub all-text : (lines : List Rings) (line : ℕ) (text before : List ℕ) → length (output_of lines line) ≡ 0 → text ++ output_of lines line ≡ before → text ≡ before
all-text lines line text before none is =
    sym (append-nil text) ∙ sym (ap (λ l. text ++ l) (no-length (output_of lines line) none)) ∙ is

pub all-lines : (lines first : List Rings) (line : ℕ) → length (output_of lines line) ≡ 0 → with_output lines line [] ≡ with_output first line []
    → lines ≡ with_output first line []
all-lines lines first line none is =
    sym (set-get_or lines line no_characters)
    ∙ ap (λ o. slice_set lines line (record { input = input_of lines line; output = o })) (no-length (output_of lines line) none)
    ∙ is

abbrev text-of : Result (List ℕ) LineError → List ℕ
text-of (Ok a) = a
text-of (Err e) = []

-- what is taken from a line that is there
pub taken_of : (lines : List Rings) (line m n : ℕ) (taken : List ℕ) → line < LINES → m ≡ line → Ok taken ≡ taking lines m n
    → taken ≡ take (min n TAKEN_AT_ONCE) (output_of lines line)
taken_of lines line m n taken low is e =
    ap text-of
    (e ∙ ap (λ k. taking lines k n) is
    ∙ ap (λ b. cond b (Ok (take (min n TAKEN_AT_ONCE) (output_of lines line))) (Err NoLine)) (lt-ltb line LINES low))
