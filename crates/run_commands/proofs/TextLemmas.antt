-- Lemmas on texts.
use Rattle.std.proofs.Common.{◌≡◌, ◌<◌, ◌≤◌, ◌+◌, ◌-◌, ◌++◌, ◌∙◌, ℕ, zero, suc, List, [], ◌∷◌, Option, Some, None, length, drop, take}
use Rattle.std.proofs.Common.{refl, ap, sym, arith, slice_set, slice_index_or, append_assoc, append-nil, length-append, length-drop}
use Rattle.std.specs.Prelude.{option_map, option_and_then}
use Rattle.std.proofs.lemmas.Grind.{common_steps}
use Rattle.std.proofs.lemmas.List.{take_rest, take-append-drop}
use Rattle.std.specs.List.{flat_map}
use Rattle.std.proofs.lemmas.List.Concat.{flat_map-append}
use Rattle.run_commands.specs.Texts.{first_spelled, spelled_behind, characters_of}
use Rattle.script_io.specs.Printing.{printed_character}
use Rattle.run_commands.specs.declared.texts.Spelled.{Spelled}

-- what was read before is passed over
spelled_behind-drop : (read : ℕ) (text : List ℕ) → spelled_behind read text ≡ characters_of (drop read text)
unfolding spelled_behind
spelled_behind-drop zero text = refl
spelled_behind-drop (suc read) [] = refl
spelled_behind-drop (suc read) (c ∷ more) = spelled_behind-drop read more

-- the characters that were read, before those of the rest
abbrev pub behind : List ℕ → Option (List ℕ) → Option (List ℕ)
behind done rest = option_map (λ cs. done ++ cs) rest

behind-more : (done : List ℕ) (c : ℕ) (rest : Option (List ℕ)) → behind done (option_map (λ cs. c ∷ cs) rest) ≡ behind (done ++ c ∷ []) rest
behind-more done c None = refl
behind-more done c (Some cs) = ap Some (sym (append_assoc done (c ∷ []) cs))

drop-first : (n first : ℕ) (more : List ℕ) → 0 < n → drop (n - 1) more ≡ drop n (first ∷ more)
drop-first zero first more h = absurd (omega arith)
drop-first (suc n) first more h = ap (λ k. drop k more) (let e : suc n - 1 ≡ n = omega arith in e)

characters_of-first : (first : ℕ) (more : List ℕ) (s : Spelled) → first_spelled first more ≡ Some s → 0 < s.length
    → characters_of (first ∷ more) ≡ option_map (λ cs. s.character ∷ cs) (characters_of (drop s.length (first ∷ more)))
unfolding spelled_behind
characters_of-first first more s spelled some =
    ap (λ o. option_and_then (λ s. option_map (λ cs. s.character ∷ cs) (spelled_behind (s.length - 1) more)) o) spelled
    ∙ ap (option_map (λ cs. s.character ∷ cs)) (spelled_behind-drop (s.length - 1) more ∙ ap characters_of (drop-first s.length first more some))

characters_of-fault : (first : ℕ) (more : List ℕ) → first_spelled first more ≡ None → characters_of (first ∷ more) ≡ None
unfolding spelled_behind
characters_of-fault first more spelled =
    ap (λ o. option_and_then (λ s. option_map (λ cs. s.character ∷ cs) (spelled_behind (s.length - 1) more)) o) spelled

characters_of-end : characters_of [] ≡ Some []
unfolding spelled_behind
characters_of-end = refl

-- one character more is read
pub reads-more : (done done' rest more whole : List ℕ) (first : ℕ) (s : Spelled) → rest ≡ first ∷ more → first_spelled first more ≡ Some s → 0 < s.length
    → done' ≡ done ++ s.character ∷ [] → behind done (characters_of rest) ≡ characters_of whole
    → behind done' (characters_of (take (length rest - s.length) (drop s.length rest))) ≡ characters_of whole
reads-more done done' rest more whole first s is spelled some pushed before =
    ap (λ t. behind done' (characters_of t)) (take_rest rest s.length)
    ∙ ap (λ d. behind d (characters_of (drop s.length rest))) pushed
    ∙ sym (behind-more done s.character (characters_of (drop s.length rest)))
    ∙ ap (λ r. behind done (option_map (λ cs. s.character ∷ cs) (characters_of (drop s.length r)))) is
    ∙ ap (behind done) (sym (characters_of-first first more s spelled some) ∙ ap characters_of (sym is))
    ∙ before

-- what comes spells no character
pub reads-fault : (done rest more whole : List ℕ) (first : ℕ) → rest ≡ first ∷ more → first_spelled first more ≡ None
    → behind done (characters_of rest) ≡ characters_of whole → None ≡ characters_of whole
reads-fault done rest more whole first is spelled before =
    ap (behind done) (sym (characters_of-fault first more spelled) ∙ ap characters_of (sym is)) ∙ before

-- all is read
pub reads-end : (done rest whole : List ℕ) → length rest ≡ 0 → behind done (characters_of rest) ≡ characters_of whole → Some done ≡ characters_of whole
reads-end done [] whole is before = ap Some (sym (append-nil done)) ∙ ap (behind done) (sym characters_of-end) ∙ before
reads-end done (c ∷ rest) whole is before = absurd (omega (arith, is))

-- what is read takes no more room than what spells it
pub reads-within : (done done' rest more : List ℕ) (first c n most : ℕ) → rest ≡ first ∷ more → done' ≡ done ++ c ∷ [] → 0 < n → n ≤ length more + 1
    → length done + length rest ≤ most → length done' + length (take (length rest - n) (drop n rest)) ≤ most
reads-within done done' rest more first c n most is pushed some short room =
    let all : length rest ≡ length more + 1 = ap length is ∙ add-one-length in
    let one : length done' ≡ length done + 1 = ap length pushed ∙ length-append done (c ∷ []) in
    let left : length (take (length rest - n) (drop n rest)) ≡ length rest - n = ap length (take_rest rest n) ∙ length-drop n rest in
    omega arith
  where
    add-one-length : suc (length more) ≡ length more + 1
    add-one-length = omega arith

-- one more of some numbers is copied
pub copied-more : (numbers characters : List ℕ) (i d : ℕ) → i < length numbers → i < length characters
    → take i numbers ≡ take i characters
    → take (i + 1) (slice_set numbers i (slice_index_or characters i d)) ≡ take (i + 1) characters
copied-more numbers characters i d = grind (arith, common_steps)

-- one more of some characters stands for itself
pub plain-more : (characters : List ℕ) (i d : ℕ) → i < length characters
    → flat_map printed_character (take i characters) ≡ take i characters
    → printed_character (slice_index_or characters i d) ≡ slice_index_or characters i d ∷ []
    → flat_map printed_character (take (i + 1) characters) ≡ take (i + 1) characters
plain-more characters i d = grind (arith, common_steps)

-- what the first characters spell is written, before that of the rest
pub written-before : (done now rest out : List ℕ) (n : ℕ) → now ≡ done ++ flat_map printed_character (take n rest)
    → done ++ flat_map printed_character rest ≡ out → now ++ flat_map printed_character (drop n rest) ≡ out
written-before done now rest out n is all =
    ap (λ l. l ++ flat_map printed_character (drop n rest)) is
    ∙ append_assoc done (flat_map printed_character (take n rest)) (flat_map printed_character (drop n rest))
    ∙ ap (λ l. done ++ l) (sym (flat_map-append printed_character (take n rest) (drop n rest)))
    ∙ ap (λ l. done ++ flat_map printed_character l) (take-append-drop n rest)
    ∙ all
