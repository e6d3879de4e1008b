-- Steps after a value, as a loop takes them.
use Rattle.std.proofs.Common.{◌≡◌, ℕ, suc, ◌+◌, ◌-◌, ◌<◌, ◌≤◌, ℤ, List, Some, None, Ok, Err, refl, sym, ap, ◌∙◌, arith}
use Rattle.ddt_commands.specs.declared.line_errors.LineError.{LineError}
use Rattle.ddt_commands.specs.Values.{◌>>=◌, Reading, Steps, repeated}

at_step : (step : Steps) (n i : ℕ) (value : ℤ) (text : List ℕ) → i < n
    → repeated step (n - i) value text ≡ repeated step (suc (n - (i + 1))) value text
at_step step n i value text within =
    let k : n - i ≡ suc (n - (i + 1)) = omega arith in
    ap (λ (m : ℕ). repeated step m value text) k

one_more : (step : Steps) (n : ℕ) (value more : ℤ) (text rest : List ℕ) → step value text ≡ Ok (Some more, rest)
    → repeated step (suc n) value text ≡ repeated step n more rest
unfolding repeated
one_more step n value more text rest gives = rw gives refl

no_more : (step : Steps) (n : ℕ) (value : ℤ) (text rest : List ℕ) → step value text ≡ Ok (None, rest)
    → repeated step (suc n) value text ≡ Ok (value, rest)
unfolding repeated
no_more step n value text rest gives = rw gives refl

wrong : (step : Steps) (n : ℕ) (value : ℤ) (text : List ℕ) (e : LineError) → step value text ≡ Err e
    → repeated step (suc n) value text ≡ Err e
unfolding repeated
wrong step n value text e gives = rw gives refl

-- a step comes
pub goes_on : (step : Steps) (n i : ℕ) (value more : ℤ) (text rest : List ℕ) (total : Reading ℤ) → i < n → step value text ≡ Ok (Some more, rest)
    → repeated step (n - i) value text ≡ total → repeated step (n - (i + 1)) more rest ≡ total
goes_on step n i value more text rest total within gives so_far =
    sym (at_step step n i value text within ∙ one_more step (n - (i + 1)) value more text rest gives) ∙ so_far

-- none comes
pub ends : (step : Steps) (n i : ℕ) (value : ℤ) (text rest : List ℕ) (total : Reading ℤ) → i < n → step value text ≡ Ok (None, rest)
    → repeated step (n - i) value text ≡ total → total ≡ Ok (value, rest)
ends step n i value text rest total within gives so_far =
    sym so_far ∙ (at_step step n i value text within ∙ no_more step (n - (i + 1)) value text rest gives)

-- it is wrong
pub fails : (step : Steps) (n i : ℕ) (value : ℤ) (text : List ℕ) (e : LineError) (total : Reading ℤ) → i < n → step value text ≡ Err e
    → repeated step (n - i) value text ≡ total → total ≡ Err e
fails step n i value text e total within gives so_far =
    sym so_far ∙ (at_step step n i value text within ∙ wrong step (n - (i + 1)) value text e gives)

-- there can be no more
pub done : (step : Steps) (n i : ℕ) (value : ℤ) (text : List ℕ) (total : Reading ℤ) → n ≤ i
    → repeated step (n - i) value text ≡ total → total ≡ Ok (value, text)
unfolding repeated
done step n i value text total le so_far =
    let k : n - i ≡ 0 = omega arith in
    let one : repeated step (n - i) value text ≡ Ok (value, text) = rw k refl in
    sym so_far ∙ one
