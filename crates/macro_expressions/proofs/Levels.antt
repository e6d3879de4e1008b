-- The operators of a level behind a value: the steps of the loop that reads them.
use Rattle.std.proofs.Common.{◌≡◌, ℕ, suc, ◌+◌, ◌-◌, ◌<◌, ◌≤◌, ℤ, Option, Some, None, Result, Ok, Err, refl, sym, ap, ◌∙◌, arith}
use Rattle.macro_expressions.specs.declared.fault.Fault.{Fault}
use Rattle.macro_expressions.specs.declared.fault.Fault.TheVariants as faults
use Rattle.macro_expressions.specs.declared.fault.Stop.{Stop}
use Rattle.macro_expressions.specs.declared.kinds.Infix.{Infix}
use Rattle.macro_expressions.specs.Reading.{◌>>=◌, Front, Reader, Fails, skipped, without}
use Rattle.macro_expressions.specs.Values.{infix_at, infix_length, combined, more_at}

-- what is read where an operator comes, or none
by_infix : Reader ℤ → ℕ → ℕ → ℤ → Front → Option Infix → Result (ℤ × Front) Stop
by_infix operand level n left s None = Ok (left, s)
by_infix operand level n left s (Some between) = do
  right ← operand (without (infix_length between) (skipped s))
  value ← combined between left right.0
  more_at operand level n value right.1

by_next : (operand : Reader ℤ) (level n : ℕ) (left : ℤ) (s : Front)
    → more_at operand level (suc n) left s ≡ by_infix operand level n left s (infix_at level (skipped s).rest)
unfolding more_at by_infix
by_next operand level n left s = refl

at_infix : (operand : Reader ℤ) (level n i : ℕ) (left : ℤ) (s : Front) (next : Option Infix)
    → i < n → infix_at level (skipped s).rest ≡ next
    → more_at operand level (n - i) left s ≡ by_infix operand level (n - (i + 1)) left s next
at_infix operand level n i left s next lt comes =
    let k : n - i ≡ suc (n - (i + 1)) = omega arith in
    ap (λ m. more_at operand level m left s) k
    ∙ (by_next operand level (n - (i + 1)) left s ∙ ap (by_infix operand level (n - (i + 1)) left s) comes)

goes_on : (operand : Reader ℤ) (level n : ℕ) (left right value : ℤ) (between : Infix) (s t : Front)
    → operand (without (infix_length between) (skipped s)) ≡ Ok (right, t) → combined between left right ≡ Ok value
    → by_infix operand level n left s (Some between) ≡ more_at operand level n value t
unfolding by_infix
goes_on operand level n left right value between s t reads gives = rw (reads, gives) refl

unread : (operand : Reader ℤ) (stop : Stop) (level n : ℕ) (left : ℤ) (between : Infix) (s : Front)
    → operand (without (infix_length between) (skipped s)) ≡ Err stop → by_infix operand level n left s (Some between) ≡ Err stop
unfolding by_infix
unread operand stop level n left between s reads = rw reads refl

ungiven : (operand : Reader ℤ) (stop : Stop) (level n : ℕ) (left right : ℤ) (between : Infix) (s t : Front)
    → operand (without (infix_length between) (skipped s)) ≡ Ok (right, t) → combined between left right ≡ Err stop
    → by_infix operand level n left s (Some between) ≡ Err stop
unfolding by_infix
ungiven operand stop level n left right between s t reads gives = rw (reads, gives) refl

none_comes : (operand : Reader ℤ) (level n : ℕ) (left : ℤ) (s : Front) → by_infix operand level n left s None ≡ Ok (left, s)
unfolding by_infix
none_comes operand level n left s = refl

-- an operator comes, and what is behind it is read
pub level_goes_on : (operand : Reader ℤ) (level n i : ℕ) (left right value : ℤ) (between : Infix) (s t : Front) (total : Result (ℤ × Front) Stop)
    → i < n → infix_at level (skipped s).rest ≡ Some between → operand (without (infix_length between) (skipped s)) ≡ Ok (right, t)
    → combined between left right ≡ Ok value
    → more_at operand level (n - i) left s ≡ total
    → more_at operand level (n - (i + 1)) value t ≡ total
level_goes_on operand level n i left right value between s t total lt comes reads gives so_far =
    sym (at_infix operand level n i left s (Some between) lt comes
    ∙ goes_on operand level (n - (i + 1)) left right value between s t reads gives)
    ∙ so_far

-- no operator comes
pub level_ends : (operand : Reader ℤ) (level n i : ℕ) (left : ℤ) (s : Front) (total : Result (ℤ × Front) Stop)
    → i < n → infix_at level (skipped s).rest ≡ None → more_at operand level (n - i) left s ≡ total → total ≡ Ok (left, s)
level_ends operand level n i left s total lt none so_far =
    sym so_far ∙ (at_infix operand level n i left s None lt none ∙ none_comes operand level (n - (i + 1)) left s)

-- what is behind an operator is not read
pub operand_fails : (operand : Reader ℤ) (e : Fault) (level n i : ℕ) (left : ℤ) (between : Infix) (s : Front) (total : Result (ℤ × Front) Stop)
    → i < n → infix_at level (skipped s).rest ≡ Some between → Fails e (operand (without (infix_length between) (skipped s)))
    → more_at operand level (n - i) left s ≡ total → Fails e total
operand_fails operand faults.Memory level n i left between s total lt comes fails so_far = tt
operand_fails operand (faults.Stopped stop) level n i left between s total lt comes fails so_far =
    sym so_far ∙ (at_infix operand level n i left s (Some between) lt comes ∙ unread operand stop level (n - (i + 1)) left between s fails)

-- the operator gives nothing
pub operator_fails : (operand : Reader ℤ) (e : Fault) (level n i : ℕ) (left right : ℤ) (between : Infix) (s t : Front) (total : Result (ℤ × Front) Stop)
    → i < n → infix_at level (skipped s).rest ≡ Some between → operand (without (infix_length between) (skipped s)) ≡ Ok (right, t)
    → Fails e (combined between left right)
    → more_at operand level (n - i) left s ≡ total → Fails e total
operator_fails operand faults.Memory level n i left right between s t total lt comes reads fails so_far = tt
operator_fails operand (faults.Stopped stop) level n i left right between s t total lt comes reads fails so_far =
    sym so_far
    ∙ (at_infix operand level n i left s (Some between) lt comes ∙ ungiven operand stop level (n - (i + 1)) left right between s t reads fails)

-- there can be no more
pub level_done : (operand : Reader ℤ) (level n i : ℕ) (left : ℤ) (s : Front) (total : Result (ℤ × Front) Stop)
    → n ≤ i → more_at operand level (n - i) left s ≡ total → total ≡ Ok (left, s)
unfolding more_at
level_done operand level n i left s total le so_far =
    let k : n - i ≡ 0 = omega arith in
    let one : more_at operand level (n - i) left s ≡ Ok (left, s) = rw k refl in
    sym so_far ∙ one
