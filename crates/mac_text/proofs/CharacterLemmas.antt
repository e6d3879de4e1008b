-- The table of characters says what the definitions say. It is computed once, over all bytes.
use Rattle.std.proofs.Common.{◌≡◌, ℕ, ◌-◌, ◌%◌, ◌<◌, ◌==◌, true, get_or, refl}
use Rattle.std.specs.Prelude.{nat_le}
use Rattle.std.proofs.lemmas.Bool.{agree_below, agree_below_at, eqb-true}
use Rattle.mac_text.specs.Characters.{is_name_character, upper_case}
use Rattle.mac_text.specs.declared.characters.TheConstants.{NAMING}

namings_agree : agree_below (λ c. nat_le 64 (get_or NAMING c 0)) is_name_character 256 ≡ true
namings_agree = refl

pub naming_is : (c : ℕ) → c < 256 → nat_le 64 (get_or NAMING c 0) ≡ is_name_character c
naming_is c h = agree_below_at (λ k. nat_le 64 (get_or NAMING k 0)) is_name_character 256 c namings_agree h

codes_agree : agree_below (λ c. get_or NAMING c 0 % 64 == (upper_case c - 32) % 64) (λ c. true) 256 ≡ true
codes_agree = refl

pub code_is : (c : ℕ) → c < 256 → get_or NAMING c 0 % 64 ≡ (upper_case c - 32) % 64
code_is c h = eqb-true _ _ (agree_below_at (λ k. get_or NAMING k 0 % 64 == (upper_case k - 32) % 64) (λ k. true) 256 c codes_agree h)
