use Rattle.std.proofs.Common.{◌≡◌, ℕ, ◌<◌, List, Some, Bool, true, false, ◌||◌, refl, arith, length, slice_get, nat_lt}
use Rattle.std.proofs.lemmas.Option.{slice_get_within}
use Rattle.std.proofs.lemmas.Bool.Decides.{nat_tests}
use Rattle.ka_isa.specs.declared.Change.{Change}
use Rattle.ka_isa.specs.declared.Change.TheVariants.{Keep, Up, Down}
use Rattle.ka_cpu.specs.Effects.{memory_legal}
use Rattle.ka_cpu.specs.Conditions.{if_changed}
use Rattle.ka_state.specs.Memory.{is_legal}

pub legal_by : (b : Bool) (core : List ℕ) (e w : ℕ) → slice_get core e ≡ Some w → b || nat_lt e (length core) ≡ true
legal_by true core e w h = refl
legal_by false core e w h = let p : e < length core = slice_get_within core e w h in grind (arith, nat_tests)

-- an address that was read is legal
pub legal_from_read : (core : List ℕ) (e w : ℕ) → slice_get core e ≡ Some w → is_legal core e ≡ true
legal_from_read core e w h = legal_by (nat_lt e 16) core e w h

-- what a word that was read is changed to can be stored back
pub legal_changed : (c : Change) (core : List ℕ) (e w v : ℕ) → slice_get core e ≡ Some w → memory_legal core (if_changed c (e, v)) ≡ true
legal_changed Keep core e w v h = refl
legal_changed Up core e w v h = legal_from_read core e w h
legal_changed Down core e w v h = legal_from_read core e w h

pub legal_register : (c : Change) (core : List ℕ) (e v : ℕ) → e < 16 → memory_legal core (if_changed c (e, v)) ≡ true
legal_register Keep core e v h = refl
legal_register Up core e v h = grind (arith, nat_tests)
legal_register Down core e v h = grind (arith, nat_tests)

pub ruleset legal_changes = (legal_changed, legal_register)
