-- Texts that are written at a terminal one after the other.
use Rattle.std.proofs.Common.{◌≡◌, ◌<◌, ◌∙◌, ℕ, Bool, true, false, cond, List, [], ◌∷◌, ◌++◌, ap, sym, refl, length, append_assoc, append-nil, arith}
use Rattle.std.specs.Prelude.{nat_le}
use Rattle.std.proofs.lemmas.Bool.{lt-ltb}
use Rattle.ten.specs.declared.terminal.TheConstants.{WIDTH}
use Rattle.ten.specs.Terminals.{held_behind, held_by, is_due, line_text, with_character, written_at, written_by}

pub writes_more : (n : Bool) (line : ℕ) (held a b : List ℕ)
    → written_by n line held (a ++ b) ≡ written_by n line held a ++ written_by n line (held_by n held a) b
writes_more n line held [] b = refl
writes_more n line held (c ∷ a) b =
    ap (λ l. written_at n line held c ++ l) (writes_more n line (held_behind n held c) a b)
    ∙ sym (append_assoc (written_at n line held c) (written_by n line (held_behind n held c) a) (written_by n line (held_by n (held_behind n held c) a) b))

pub held_more : (n : Bool) (held a b : List ℕ) → held_by n held (a ++ b) ≡ held_by n (held_by n held a) b
held_more n held [] b = refl
held_more n held (c ∷ a) b = held_more n (held_behind n held c) a b

-- with one terminal and short text held, a character more
one_more : (line : ℕ) (held cs : List ℕ) (c : ℕ) (b : Bool) (x : List ℕ) → x ≡ held ++ c ∷ [] → nat_le WIDTH (length x) ≡ b
    → written_by false line [] cs ++ held_by false [] cs ≡ cs
    → (length x < WIDTH → written_by false line x cs ++ held_by false x cs ≡ x ++ cs)
    → (cond b x [] ++ written_by false line (cond b [] x) cs) ++ held_by false (cond b [] x) cs ≡ held ++ c ∷ cs
one_more line held cs c true x is due empty more =
    append_assoc x (written_by false line [] cs) (held_by false [] cs) ∙ ap (λ l. x ++ l) empty ∙ ap (λ l. l ++ cs) is
    ∙ append_assoc held (c ∷ []) cs
one_more line held cs c false x is due empty more =
    let few : length x < WIDTH = grind (arith, due) in
    more few ∙ ap (λ l. l ++ cs) is ∙ append_assoc held (c ∷ []) cs

short : (held : List ℕ) (c : ℕ) → length held < WIDTH → with_character false held c ≡ held ++ c ∷ []
short held c few = ap (λ b. cond b (held ++ c ∷ []) held) (lt-ltb (length held) WIDTH few)

-- with one terminal all is written that was held, and all that comes
alone : (line : ℕ) (held text : List ℕ) → length held < WIDTH → written_by false line held text ++ held_by false held text ≡ held ++ text
alone line held [] few = sym (append-nil held)
alone line held (c ∷ cs) few =
    one_more line held cs c (is_due false held c) (with_character false held c) (short held c few) refl
    (alone line [] cs (omega arith))
    (λ still. alone line (with_character false held c) cs still)

pub alone_written : (n : Bool) (line : ℕ) (first partial text rest bytes first_bytes new_bytes : List ℕ) → n ≡ false → first ≡ []
    → rest ≡ [] → bytes ++ written_by n line partial rest ≡ first_bytes ++ written_by n line first text
    → held_by n partial rest ≡ held_by n first text → new_bytes ≡ bytes ++ line_text n line partial → new_bytes ≡ first_bytes ++ text
alone_written n line first partial text rest bytes first_bytes new_bytes one empty end written held new =
    let so_far : bytes ≡ first_bytes ++ written_by n line first text =
    sym (ap (λ r. bytes ++ written_by n line partial r) end ∙ append-nil bytes) ∙ written in
    let left : partial ≡ held_by n first text = sym (ap (λ r. held_by n partial r) end) ∙ held in
    let plain : line_text n line partial ≡ partial = ap (λ b. line_text b line partial) one in
    let all : written_by n line first text ++ held_by n first text ≡ text =
    ap (λ b. written_by b line first text ++ held_by b first text) one
    ∙ ap (λ l. written_by false line l text ++ held_by false l text) empty ∙ alone line [] text (omega arith) in
    new ∙ ap (λ l. bytes ++ l) (plain ∙ left) ∙ ap (λ l. l ++ held_by n first text) so_far
    ∙ append_assoc first_bytes (written_by n line first text) (held_by n first text) ∙ ap (λ l. first_bytes ++ l) all
