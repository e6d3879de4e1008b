-- The codes of refusals have two digits at most.
use Rattle.std.proofs.Common.{◌≡◌, ◌∙◌, ◌+◌, ◌-◌, ◌<◌, ◌≤◌, ◌++◌, ◌∷◌, ◌/◌, ◌%◌, ℕ, [], ap, arith}
use Rattle.std.specs.Prelude.{decimal}
use Rattle.std.proofs.lemmas.Fmt.{decimal_digit, decimal_step}
use Rattle.lock_queue.specs.declared.refusal.Refusal.{Refusal}
use Rattle.lock_queue.specs.declared.refusal.Refusal.TheVariants as refusal
use Rattle.lock_queue.specs.Refusals.{code_of}

pub code_below : (r : Refusal) → code_of r < 20
code_below refusal.NotGranted = omega arith
code_below refusal.NoFunction = omega arith
code_below refusal.BadBlock = omega arith
code_below refusal.BadCount = omega arith
code_below refusal.BadPointer = omega arith
code_below refusal.BadName = omega arith
code_below refusal.BadQualifier = omega arith
code_below refusal.BadPool = omega arith
code_below refusal.Differs = omega arith
code_below refusal.LevelOrder = omega arith
code_below refusal.NamedAlready = omega arith
code_below refusal.NotPresent = omega arith
code_below refusal.WouldLose = omega arith
code_below refusal.QueueFull = omega arith
code_below refusal.NoVector = omega arith
code_below refusal.OverQuota = omega arith
code_below refusal.TimedOut = omega arith
code_below refusal.NoSuchQuota = omega arith

-- a number of 10 to 19
pub two_digits : (n : ℕ) → 10 ≤ n → n < 20 → decimal n ≡ 49 ∷ (48 + (n - 10)) ∷ []
two_digits n least most =
    let tens : n / 10 ≡ 1 = omega arith in
    let ones : n % 10 ≡ n - 10 = omega arith in
    decimal_step n least (omega arith) ∙ rw (tens, ones) (ap (λ l. l ++ (48 + (n - 10)) ∷ []) (decimal_digit 1 (omega arith)))
