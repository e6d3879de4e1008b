-- The characters of a name that count, one by one.
use Rattle.std.proofs.Common.{◌≡◌, ℕ, ◌-◌, ◌%◌, ◌<◌, ◌≤◌, true, List, [], ◌∷◌, length, get_or, map, take, refl, ap, ◌∙◌, arith}
use Rattle.std.specs.Prelude.{◌↔◌}
use Rattle.std.specs.List.{list_all}
use Rattle.std.proofs.lemmas.Bool.{and_parts}
use Rattle.std.proofs.lemmas.Bool.Decides.{nat_tests}
use Rattle.std.proofs.lemmas.List.{get_or-map, get_or-take, get_or_past, length-map, length-take}
use Rattle.ka_isa.specs.Keys.{has_code}
use Rattle.ka_isa.proofs.KeyLemmas.{sixbit_tells}
use Rattle.mac_text.specs.Characters.{is_name_character, upper_case}
use Rattle.mac_text.specs.Names.{folded, code_at, sixbit_of, symbol_of}
use Rattle.mac_text.proofs.LineLemmas.{parts_pass}

pub code_of_character : (name : List ℕ) (at : ℕ) → at < 6 → at < length name → code_at (folded name) at ≡ (upper_case (get_or name at 0) - 32) % 64
code_of_character name at six lt =
    let within : at < length (take 6 name) = omega (arith, length-take 6 name) in
    ap (λ c. (c - 32) % 64) (get_or-map upper_case (take 6 name) at 0 0 within ∙ ap upper_case (get_or-take 6 name at 0 six))

pub code_of_none : (name : List ℕ) (at : ℕ) → length name ≤ at → code_at (folded name) at ≡ 0
code_of_none name at le =
    let past : length (folded name) ≤ at = omega (arith, length-map (take 6 name) upper_case, length-take 6 name) in
    ap (λ c. (c - 32) % 64) (get_or_past (folded name) at 0 past)

-- ---- two names are one symbol where the characters that count are the same

name_character_has_code : (c : ℕ) → is_name_character c ≡ true → has_code (upper_case c) ≡ true
name_character_has_code c h = grind (arith, nat_tests)

upper_case_has_codes : (cs : List ℕ) → list_all is_name_character cs ≡ true → list_all has_code (map upper_case cs) ≡ true
upper_case_has_codes [] h = refl
upper_case_has_codes (c ∷ cs) h =
    let p = and_parts (is_name_character c) (list_all is_name_character cs) h in
    rw (name_character_has_code c p.0) (upper_case_has_codes cs p.1)

pub folded_has_codes : (name : List ℕ) → list_all is_name_character name ≡ true → list_all has_code (folded name) ≡ true
folded_has_codes name h = upper_case_has_codes (take 6 name) (parts_pass is_name_character 6 name h).0

pub folded_short : (name : List ℕ) → length (folded name) ≤ 6
folded_short name = omega (arith, length-map (take 6 name) upper_case, length-take 6 name)

-- the symbol of a name is that of a list of characters in upper case only where they are the name's first six
pub symbol_tells : (name known : List ℕ) → list_all is_name_character name ≡ true → length known ≤ 6
    → list_all has_code known ≡ true → symbol_of name ≡ sixbit_of known
    → folded name ≡ known
unfolding symbol_of
symbol_tells name known h short k same = sixbit_tells (folded name) known (folded_short name) short (folded_has_codes name h) k same

pub one_symbol : (a b : List ℕ) → list_all is_name_character a ≡ true → list_all is_name_character b ≡ true
    → (symbol_of a ≡ symbol_of b) ↔ (folded a ≡ folded b)
unfolding symbol_of
one_symbol a b h k = (λ same. symbol_tells a (folded b) h (folded_short b) (folded_has_codes b k) same, λ same. ap (sixbit_of) same)
