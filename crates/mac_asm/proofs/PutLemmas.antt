-- The words of statements put into cells.
use Rattle.std.proofs.Common.{◌≡◌, ℕ, ◌+◌, List, [], ◌∷◌, ◌++◌, Option, Some, true, refl, sym, ap, ◌∙◌}
use Rattle.std.specs.Prelude.{set, option_map}
use Rattle.mac_asm.specs.Words.{Adds}
use Rattle.mac_asm.specs.Assembly.{at_addresses}
use Rattle.mac_asm.specs.Filled.{Cells, put_from, put_all}

put_addresses : (cells : Cells) (address : ℕ) (words : List ℕ) → put_all cells (at_addresses address words) ≡ put_from cells address words
put_addresses cells address [] = refl
put_addresses cells address (word ∷ words) = put_addresses (set cells address (Some word)) (address + 1) words

pub some_put : (cells : Cells) (address : ℕ) (words : Option (List ℕ)) (next : List ℕ) → words ≡ Some next
    → option_map (put_all cells) (option_map (at_addresses address) words) ≡ Some (put_from cells address next)
some_put cells address words next is = ap (λ o. option_map (put_all cells) (option_map (at_addresses address) o)) is ∙ ap Some (put_addresses cells address next)

-- words that were added to none
pub added_put : (cells : Cells) (address : ℕ) (words : Option (List ℕ)) (old next : List ℕ) → old ≡ [] → Adds true old next words
    → option_map (put_all cells) (option_map (at_addresses address) words) ≡ Some (put_from cells address next)
added_put cells address words old next none added = some_put cells address words next (added.1 ∙ ap Some (sym (added.2 ∙ ap (λ o. o ++ added.0) none)))
