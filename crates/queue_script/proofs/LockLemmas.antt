-- Lemmas on locks.
use Rattle.std.proofs.Common.{◌≡◌, ◌<◌, ◌+◌, ◌==◌, ◌&&◌, ◌∙◌, ℕ, Bool, true, false, refl, List, [], ◌∷◌, arith, ap, get_or, All, length, take}
use Rattle.std.specs.Prelude.{IsUtf8}
use Rattle.std.specs.List.{list_all}
use Rattle.std.proofs.lemmas.Bool.{agree_below, agree_below_at}
use Rattle.std.proofs.lemmas.Bool.Decides.{nat_tests}
use Rattle.std.proofs.lemmas.List.Elements.{All-nil, All-cons}
use Rattle.std.proofs.lemmas.List.Folds.{list_all_more}
use Rattle.std.proofs.lemmas.Str.{IsUtf8-from_ascii}
use Rattle.std.proofs.lemmas.Str.Ascii.{IsAscii-from_all}
use Rattle.queue_script.specs.Locks.{is_name_character}
use Rattle.queue_script.specs.declared.locks.TheConstants.{NAME_CHARACTERS}

-- the table of a name's characters says what the definition says; it is computed once, over all bytes
characters_agree : agree_below (λ c. get_or NAME_CHARACTERS c 0 == 1) is_name_character 256 ≡ true
characters_agree = refl

pub name_characters_are : (c : ℕ) → c < 256 → (get_or NAME_CHARACTERS c 0 == 1) ≡ is_name_character c
name_characters_are c h = agree_below_at (λ k. get_or NAME_CHARACTERS k 0 == 1) is_name_character 256 c characters_agree h

pub and_parts : (a b : Bool) → (a && b) ≡ true → (a ≡ true) × (b ≡ true)
and_parts true b h = (refl, h)
and_parts false b h = cc

name_character-ascii : (c : ℕ) → is_name_character c ≡ true → c < 128
name_character-ascii c h = grind (arith, nat_tests)

names-ascii : (text : List ℕ) → list_all is_name_character text ≡ true → All (λ b. b < 128) text
names-ascii [] h = All-nil (λ b. b < 128)
names-ascii (c ∷ cs) h =
    let p = and_parts (is_name_character c) (list_all is_name_character cs) h in
    All-cons (λ b. b < 128) c cs (name_character-ascii c p.0) (names-ascii cs p.1)

-- names are texts
pub names-utf8 : (text : List ℕ) → list_all is_name_character text ≡ true → IsUtf8 text
names-utf8 text h = IsUtf8-from_ascii text (IsAscii-from_all text (names-ascii text h))

-- ---- one more character of a name, and two, three and four

pub both : (a b : Bool) → a ≡ true → b ≡ true → (a && b) ≡ true
both a b p q = ap (λ x. x && b) p ∙ q

pub named_one : (text : List ℕ) (n : ℕ) → n < length text → list_all is_name_character (take n text) ≡ true
    → is_name_character (get_or text n 0) ≡ true
    → list_all is_name_character (take (n + 1) text) ≡ true
named_one text n within named here =
    list_all_more is_name_character text n 0 within
    ∙ both (list_all is_name_character (take n text)) (is_name_character (get_or text n 0)) named here

pub named_two : (text : List ℕ) (n : ℕ) → n + 1 < length text → list_all is_name_character (take n text) ≡ true
    → is_name_character (get_or text n 0) ≡ true
    → is_name_character (get_or text (n + 1) 0) ≡ true
    → list_all is_name_character (take (n + 2) text) ≡ true
named_two text n within named a b =
    let on : n + 2 ≡ (n + 1) + 1 = omega arith in
    rw on (named_one text (n + 1) within (named_one text n (omega (arith, within)) named a) b)

pub named_three : (text : List ℕ) (n : ℕ) → n + 2 < length text → list_all is_name_character (take n text) ≡ true
    → is_name_character (get_or text n 0) ≡ true
    → is_name_character (get_or text (n + 1) 0) ≡ true
    → is_name_character (get_or text (n + 2) 0) ≡ true
    → list_all is_name_character (take (n + 3) text) ≡ true
named_three text n within named a b c =
    let on : n + 3 ≡ (n + 2) + 1 = omega arith in
    rw on (named_one text (n + 2) within (named_two text n (omega (arith, within)) named a b) c)

pub named_four : (text : List ℕ) (n : ℕ) → n + 3 < length text → list_all is_name_character (take n text) ≡ true
    → is_name_character (get_or text n 0) ≡ true
    → is_name_character (get_or text (n + 1) 0) ≡ true
    → is_name_character (get_or text (n + 2) 0) ≡ true
    → is_name_character (get_or text (n + 3) 0) ≡ true
    → list_all is_name_character (take (n + 4) text) ≡ true
named_four text n within named a b c d =
    let on : n + 4 ≡ (n + 3) + 1 = omega arith in
    rw on (named_one text (n + 3) within (named_three text n (omega (arith, within)) named a b c) d)

-- the names that commands give a lock, of one to four characters and more
pub ruleset names_given = (named_one, named_two, named_three, named_four)
