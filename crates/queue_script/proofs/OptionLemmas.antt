-- Lemmas on the options of a lock.
use Rattle.std.proofs.Common.{◌≡◌, ◌≤◌, ◌+◌, ◌-◌, ◌*◌, ◌&&◌, ap, Option, ℕ, List, [], ◌∷◌, Bool, true, Some, None, refl, cond, length, take, arith, slice_index_or, nat_le}
use Rattle.std.proofs.lemmas.Bool.Decides.{nat_tests}
use Rattle.std.specs.Prelude.{option_map}
use Rattle.std.specs.List.{list_all}
use Rattle.script_io.specs.Numbers.{number, is_digit}
use Rattle.queue_script.specs.Options.{is_option_character, option_of}
use Rattle.queue_script.specs.declared.options.LockOption.TheVariants.{Level}

tested : (a b : Bool) (v n : ℕ) → a ≡ true → b ≡ true → v ≡ n → cond (true && ((a && true) && b)) (Some v) None ≡ Some n
tested a b v n p q e = rw (p, q, e) refl

digit : (d : ℕ) → 48 ≤ d → d ≤ 57 → number 10 511 (d ∷ []) ≡ Some (d - 48)
unfolding number
digit d least most =
    tested (is_digit 10 d) (nat_le (10 * 0 + (d - 48)) 511) (10 * 0 + (d - 48)) (d - 48) (grind (arith, nat_tests)) (grind (arith, nat_tests)) (omega arith)

some_level : (o : Option ℕ) (n : ℕ) → o ≡ Some n → option_map Level o ≡ Some (Level n)
some_level o n e = ap (option_map Level) e

level : (d : ℕ) → 48 ≤ d → d ≤ 57 → option_of (76 ∷ d ∷ []) ≡ Some (Level (d - 48))
level d least most = some_level (number 10 511 (d ∷ [])) (d - 48) (digit d least most)

-- a level of one digit stands in front of a text
pub level_in_front : (text : List ℕ) (n : ℕ) → 2 ≤ length text → slice_index_or text 0 0 ≡ 76 → 48 ≤ slice_index_or text 1 0
    → slice_index_or text 1 0 ≤ 57
    → n ≡ slice_index_or text 1 0 - 48
    → option_of (take 2 text) ≡ Some (Level n)
level_in_front [] n some here least most is = absurd (omega arith)
level_in_front (v ∷ []) n some here least most is = absurd (omega arith)
level_in_front (v ∷ d ∷ more) n some here least most is = rw (here, is) (level d least most)

pub level_apart : (text : List ℕ) → 2 ≤ length text → slice_index_or text 0 0 ≡ 76 → 48 ≤ slice_index_or text 1 0
    → slice_index_or text 1 0 ≤ 57
    → list_all is_option_character (take 2 text) ≡ true
level_apart [] some here least most = absurd (omega arith)
level_apart (v ∷ []) some here least most = absurd (omega arith)
level_apart (v ∷ d ∷ more) some here least most = grind (arith, nat_tests)
