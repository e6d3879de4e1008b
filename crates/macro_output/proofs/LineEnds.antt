-- The blanks at the end of a line, step by step.
use Rattle.std.proofs.Common.{◌≡◌, ◌∙◌, sym, ap, subst, refl, ℕ, ◌+◌, ◌<◌, Bool, true, false, List, [], ◌∷◌, ◌++◌, length, take, drop, get_or, append_assoc}
use Rattle.std.specs.Prelude.{if◌then◌else◌}
use Rattle.std.proofs.lemmas.List.{take_more}
use Rattle.std.proofs.Math.Seq.{take-add}
use Rattle.macro_output.specs.Rows.{is_end_blank, before_rest, without_end}

-- a blank at the end goes
blank-last : (line : List ℕ) (c : ℕ) → is_end_blank c ≡ true → without_end (line ++ c ∷ []) ≡ without_end line
blank-last [] c h = ap (λ (b : Bool). if b then [] else (c ∷ [])) h
blank-last (x ∷ line) c h = ap (before_rest x) (blank-last line c h)

-- a character before others stays
kept : (x : ℕ) (line : List ℕ) (c : ℕ) → before_rest x (line ++ c ∷ []) ≡ x ∷ (line ++ c ∷ [])
kept x [] c = refl
kept x (y ∷ line) c = refl

-- a line that ends with another character stays
text-last : (line : List ℕ) (c : ℕ) → is_end_blank c ≡ false → without_end (line ++ c ∷ []) ≡ line ++ c ∷ []
text-last [] c h = ap (λ (b : Bool). if b then [] else (c ∷ [])) h
text-last (x ∷ line) c h = ap (before_rest x) (text-last line c h) ∙ kept x line c

-- the next character of a line is a blank
pub next-blank : (line : List ℕ) (i : ℕ) → i < length line → is_end_blank (get_or line i 0) ≡ true
    → without_end (take (i + 1) line) ≡ without_end (take i line)
next-blank line i h b = ap without_end (take_more line i 0 h) ∙ blank-last (take i line) (get_or line i 0) b

-- the next character of a line is no blank
pub next-text : (line : List ℕ) (i : ℕ) → i < length line → is_end_blank (get_or line i 0) ≡ false
    → without_end (take (i + 1) line) ≡ take (i + 1) line
next-text line i h b =
    ap without_end (take_more line i 0 h) ∙ text-last (take i line) (get_or line i 0) b ∙ sym (take_more line i 0 h)

-- a text whose last line is cut behind its end, and ended
pub cut-line : (start end : ℕ) (text whole line short new : List ℕ) → whole ≡ text → line ≡ drop start whole
    → take end line ≡ without_end line → short ≡ take (start + end) text → new ≡ short ++ 10 ∷ []
    → new ≡ take start text ++ (without_end (drop start text) ++ 10 ∷ [])
cut-line start end text whole line short new same behind cut shortened ended =
    let is : line ≡ drop start text = behind ∙ ap (drop start) same in
    let ends : take end (drop start text) ≡ without_end (drop start text) =
    subst (λ l. take end l ≡ without_end l) is cut in
    let parts : short ≡ take start text ++ without_end (drop start text) =
    shortened ∙ take-add start end text ∙ ap (λ l. take start text ++ l) ends in
    ended ∙ ap (λ l. l ++ 10 ∷ []) parts ∙ append_assoc (take start text) (without_end (drop start text)) (10 ∷ [])
