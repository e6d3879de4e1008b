-- END ends a source: it stands last alone.
use Rattle.std.proofs.Common.{◌≡◌, ◌∙◌, sym, ap, ℕ, Bool, true, false, ◌&&◌, List, [], ◌∷◌, Option, Some, None, Result, Ok, Err, refl}
use Rattle.std.specs.Prelude.{not, ◌+◌, if◌then◌else◌}
use Rattle.std.proofs.lemmas.Bool.{and_from, not_from_false}
use Rattle.mac_text.specs.Lines.{is_end, with_line, line_of, line_then, lines_from, program_of, radix_after}
use Rattle.mac_text.specs.declared.syntax.Line.{Line}
use Rattle.mac_asm.specs.Outcome.{has_end}

abbrev pub ends_once : List Line → Bool
ends_once [] = false
ends_once (line ∷ []) = is_end line
ends_once (line ∷ next ∷ lines) = not (is_end line) && ends_once (next ∷ lines)

-- where a line is no END, the lines are it and those behind it
once-behind : (line : Line) (more : Result (List Line) ℕ) (lines : List Line) → is_end line ≡ false
    → with_line line more ≡ Ok lines → has_end lines ≡ true
    → ((ls : List Line) → more ≡ Ok ls → has_end ls ≡ true → ends_once ls ≡ true)
    → ends_once lines ≡ true
once-behind line (Err n) lines e h k f = absurd (cc)
once-behind line (Ok []) lines e h k f =
    let same : lines ≡ line ∷ [] = cc in
    absurd (let no : has_end (line ∷ []) ≡ true = ap has_end (sym same) ∙ k in let bad : false ≡ true = sym e ∙ no in cc)
once-behind line (Ok (next ∷ ls)) lines e h k f =
    let same : lines ≡ line ∷ next ∷ ls = cc in
    let later : has_end (next ∷ ls) ≡ true = ap has_end (sym same) ∙ k in
    ap ends_once same ∙ and_from _ _ (not_from_false (is_end line) e) (f (next ∷ ls) refl later)

once-if : (b : Bool) (line : Line) (more : Result (List Line) ℕ) (lines : List Line) → is_end line ≡ b
    → (if b then Ok (line ∷ []) else with_line line more) ≡ Ok lines → has_end lines ≡ true
    → ((ls : List Line) → more ≡ Ok ls → has_end ls ≡ true → ends_once ls ≡ true)
    → ends_once lines ≡ true
once-if true line more lines e h k f =
    let same : lines ≡ line ∷ [] = cc in
    ap ends_once same ∙ e
once-if false line more lines e h k f = once-behind line more lines e h k f

once-then : (n : ℕ) (o : Option Line) (more : Line → Result (List Line) ℕ) (lines : List Line)
    → line_then n o more ≡ Ok lines → has_end lines ≡ true
    → ((line : Line) (ls : List Line) → more line ≡ Ok ls → has_end ls ≡ true → ends_once ls ≡ true)
    → ends_once lines ≡ true
once-then n None more lines h k f = absurd (cc)
once-then n (Some line) more lines h k f = once-if (is_end line) line (more line) lines refl h k (f line)

once-from : (texts : List (List ℕ)) (r n : ℕ) (lines : List Line) → lines_from r n texts ≡ Ok lines → has_end lines ≡ true
    → ends_once lines ≡ true
unfolding lines_from
once-from [] r n lines h k =
    let same : lines ≡ [] = cc in
    ap ends_once same ∙ (let bad : false ≡ true = ap has_end (sym same) ∙ k in bad)
once-from (text ∷ texts) r n lines h k =
    once-then n (line_of r text) (λ line. lines_from (radix_after line r) (n + 1) texts) lines h k
    (λ line ls. once-from texts (radix_after line r) (n + 1) ls)

pub end-is-last : (source : List ℕ) (lines : List Line) → program_of source ≡ Ok lines → has_end lines ≡ true
    → ends_once lines ≡ true
unfolding program_of
end-is-last source lines h k = once-from _ 8 1 lines h k
