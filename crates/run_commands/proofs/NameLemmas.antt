-- Lemmas on names.
use Rattle.std.proofs.Common.{◌≡◌, ◌<◌, ◌&&◌, ℕ, Bool, true, false, refl, List, [], ◌∷◌, arith, All}
use Rattle.std.specs.Prelude.{IsUtf8}
use Rattle.std.specs.List.{list_all}
use Rattle.std.proofs.lemmas.Bool.Decides.{nat_tests}
use Rattle.std.proofs.lemmas.List.Elements.{All-nil, All-cons}
use Rattle.std.proofs.lemmas.Str.{IsUtf8-from_ascii}
use Rattle.std.proofs.lemmas.Str.Ascii.{IsAscii-from_all}
use Rattle.run_commands.specs.Names.{is_name_character, is_name}

pub and_parts : (a b : Bool) → (a && b) ≡ true → (a ≡ true) × (b ≡ true)
and_parts true b h = (refl, h)
and_parts false b h = cc

name_character-ascii : (c : ℕ) → is_name_character c ≡ true → c < 128
name_character-ascii c h = grind (arith, nat_tests)

characters-ascii : (text : List ℕ) → list_all is_name_character text ≡ true → All (λ b. b < 128) text
characters-ascii [] h = All-nil (λ b. b < 128)
characters-ascii (c ∷ cs) h =
    let p = and_parts (is_name_character c) (list_all is_name_character cs) h in
    All-cons (λ b. b < 128) c cs (name_character-ascii c p.0) (characters-ascii cs p.1)

-- names are texts
pub name-utf8 : (text : List ℕ) → is_name text ≡ true → IsUtf8 text
name-utf8 text h =
    let behind = and_parts _ _ h in
    let characters = and_parts _ _ behind.1 in
    IsUtf8-from_ascii text (IsAscii-from_all text (characters-ascii text characters.1))
