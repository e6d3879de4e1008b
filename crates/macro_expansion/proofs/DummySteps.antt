-- Dummies: the steps of their reading.
use Rattle.std.proofs.Common.{◌≡◌, ℕ, suc, Bool, List, true, false, Result, Ok, Err, refl, sym, ap, ◌∙◌}
use Rattle.macro_expressions.specs.declared.fault.Fault.{Fault}
use Rattle.macro_expressions.specs.declared.fault.Fault.TheVariants as faults
use Rattle.macro_expressions.specs.declared.fault.Stop.{Stop}
use Rattle.macro_expressions.specs.Reading.{◌>>=◌, Fails}
use Rattle.macro_expansion.specs.Brackets.{past_comma}
use Rattle.macro_expansion.specs.Macros.{Dummies, end_or_dummy, dummies_at}

-- `)` or a dummy, and what comes after it
abbrev One : Type 0
One = Bool × (Dummies × List ℕ)

-- all dummies, by `)` or the next one, if it is read
by_one : ℕ → Result One Stop → Result (Dummies × List ℕ) Stop
by_one n read = read >>= λ x. elim x.0 [ true ↦ Ok x.1 | false ↦ dummies_at n (x.1).0 (x.1).1 ]

begins : (n : ℕ) (d : Dummies) (text : List ℕ) → dummies_at (suc n) d text ≡ by_one n (end_or_dummy d (past_comma text))
unfolding dummies_at by_one
begins n d text = refl

is_end : (n : ℕ) (d : Dummies) (rest : List ℕ) → by_one n (Ok (true, (d, rest))) ≡ Ok (d, rest)
unfolding by_one
is_end n d rest = refl

is_dummy : (n : ℕ) (d : Dummies) (rest : List ℕ) → by_one n (Ok (false, (d, rest))) ≡ dummies_at n d rest
unfolding by_one
is_dummy n d rest = refl

is_neither : (n : ℕ) (stop : Stop) → by_one n (Err stop) ≡ Err stop
unfolding by_one
is_neither n stop = refl

-- what comes next, after blanks and a comma, leads to all dummies
leads : (m n : ℕ) (d : Dummies) (text next : List ℕ) (read : Result One Stop) → m ≡ suc n → next ≡ past_comma text
    → end_or_dummy d next ≡ read → dummies_at m d text ≡ by_one n read
leads m n d text next read is_more is_next reads =
    ap (λ k. dummies_at k d text) is_more
    ∙ (begins n d text ∙ ap (by_one n) (ap (end_or_dummy d) (sym is_next) ∙ reads))

-- `)` is read
pub dummies_end : (m n : ℕ) (d e : Dummies) (text next rest : List ℕ) (ends : Bool) → m ≡ suc n → next ≡ past_comma text
    → end_or_dummy d next ≡ Ok (ends, (e, rest)) → ends ≡ true → dummies_at m d text ≡ Ok (e, rest)
dummies_end m n d e text next rest ends is_more is_next reads ended =
    leads m n d text next (Ok (true, (e, rest))) is_more is_next (reads ∙ ap (λ b. Ok (b, (e, rest))) ended) ∙ is_end n e rest

-- a dummy is read, and more may come
pub dummies_go_on : (m n : ℕ) (d e : Dummies) (text next rest : List ℕ) (ends : Bool) → m ≡ suc n → next ≡ past_comma text
    → end_or_dummy d next ≡ Ok (ends, (e, rest)) → ends ≡ false → dummies_at m d text ≡ dummies_at n e rest
dummies_go_on m n d e text next rest ends is_more is_next reads more =
    leads m n d text next (Ok (false, (e, rest))) is_more is_next (reads ∙ ap (λ b. Ok (b, (e, rest))) more) ∙ is_dummy n e rest

-- neither is read
pub dummies_stop : (e : Fault) (m n : ℕ) (d : Dummies) (text next : List ℕ) → m ≡ suc n → next ≡ past_comma text
    → Fails e (end_or_dummy d next) → Fails e (dummies_at m d text)
dummies_stop faults.Memory m n d text next is_more is_next fails = tt
dummies_stop (faults.Stopped stop) m n d text next is_more is_next fails =
    leads m n d text next (Err stop) is_more is_next fails ∙ is_neither n stop
