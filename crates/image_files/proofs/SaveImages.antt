-- What a file gives is an image.
use Rattle.std.proofs.Common.{◌≡◌, sym, subst, ℕ, zero, suc, ◌+◌, ◌^◌, ◌<◌, ◌≤◌, ◌==◌, Bool, true, false, nat_lt, List, [], ◌∷◌}
use Rattle.std.proofs.Common.{Result, Ok, Err, refl, arith, if◌then◌else◌}
use Rattle.std.proofs.lemmas.Bool.Decides.{nat_tests}
use Rattle.word36.specs.Words.{right_half}
use Rattle.image_files.specs.declared.saves.SaveErrorKind.{SaveErrorKind}
use Rattle.image_files.specs.declared.saves.SaveErrorKind.TheVariants.{Behind, NoBlock, NotRising, TooHigh}
use Rattle.image_files.specs.declared.save_reader.Head.{Head}
use Rattle.image_files.specs.declared.save_reader.Head.TheVariants.{Block as block, Start as start_at}
use Rattle.image_files.specs.Images.{Rises, IsImage}
use Rattle.image_files.specs.Saves.{Loaded, SaveFault, is_iowd, iowd_count, iowd_address, is_jrst, with_word, ended_by, head_at, image_from, image_of_save}
use Rattle.image_files.proofs.SaveLemmas.{headed, head_first}

-- the words stand at this address and above, and the start fits
abbrev Good : ℕ → Result Loaded SaveFault → Type 0
Good address (Ok image) = Rises address image.words × (image.start < 2 ^ 18)
Good address (Err fault) = Unit {0}

good_word : (address w : ℕ) (r : Result Loaded SaveFault) → address < 2 ^ 18 → Good (address + 1) r → Good address (with_word (address, w) r)
good_word address w (Ok image) h g = ((omega arith, h, g.0), g.1)
good_word address w (Err fault) h g = tt

rises_lower : (low high : ℕ) (xs : List (ℕ × ℕ)) → low ≤ high → Rises high xs → Rises low xs
rises_lower low high [] h r = tt
rises_lower low high (x ∷ xs) h r =
    let above : high ≤ x.0 = r.0 in
    (omega arith, r.1, r.2)

good_lower : (low high : ℕ) (r : Result Loaded SaveFault) → low ≤ high → Good high r → Good low r
good_lower low high (Ok image) h g = (rises_lower low high image.words h g.0, g.1)
good_lower low high (Err fault) h g = tt

good_choice : (b : Bool) (address : ℕ) (fault : SaveFault) (r : Result Loaded SaveFault) → Good address r → Good address (if b then r else Err fault)
good_choice true address fault r g = g
good_choice false address fault r g = tt

good_end : (address start number : ℕ) (ws : List ℕ) → start < 2 ^ 18 → Good address (ended_by start number ws)
unfolding ended_by
good_end address start number [] h = (tt, h)
good_end address start number (w ∷ ws) h =
    good_choice (w == 0) address (record { number = number; kind = Behind }) (ended_by start (number + 1) ws) (good_end address start (number + 1) ws h)

-- a block stands at this address or above, and ends below 2 ^ 18
abbrev IsSound : ℕ → Result Head SaveErrorKind → Type 0
IsSound address (Ok (block count first)) = (address ≤ first) × (first + count ≤ 2 ^ 18)
IsSound address (Ok (start_at start)) = start < 2 ^ 18
IsSound address (Err kind) = Unit {0}

at_least : (n m : ℕ) → nat_lt n m ≡ false → m ≤ n
at_least n m h = grind (arith, nat_tests)

sound_if : (a b c d : Bool) (address count first start : ℕ) → (b ≡ false → address ≤ first) → (c ≡ false → first + count ≤ 2 ^ 18) → start < 2 ^ 18
    → IsSound address (if a then (if b then Err NotRising else (if c then Err TooHigh else Ok (block count first))) else (if d then Ok (start_at start) else Err NoBlock))
sound_if true true c d address count first start p q s = tt
sound_if true false true d address count first start p q s = tt
sound_if true false false d address count first start p q s = (p refl, q refl)
sound_if false b c true address count first start p q s = s
sound_if false b c false address count first start p q s = tt

head_sound : (address w : ℕ) → IsSound address (head_at address w)
head_sound address w =
    let small : right_half w < 2 ^ 18 = omega arith in
    sound_if (is_iowd w) (nat_lt (iowd_address w) address) (nat_lt (2 ^ 18) (iowd_address w + iowd_count w)) (is_jrst w) address (iowd_count w) (iowd_address w) (right_half w)
    (at_least (iowd_address w) address) (at_least (2 ^ 18) (iowd_address w + iowd_count w)) small

good_head : (address number : ℕ) (ws : List ℕ) (h : Result Head SaveErrorKind) → IsSound address h
    → ((n count first : ℕ) → first + count ≤ 2 ^ 18 → Good first (image_from n count first ws))
    → Good address (headed number h ws)
good_head address number ws (Err kind) s later = tt
good_head address number ws (Ok (block count first)) s later =
    good_lower address first (image_from (number + 1) count first ws) s.0 (later (number + 1) count first s.1)
good_head address number ws (Ok (start_at start)) s later = good_end address start (number + 1) ws s

good : (ws : List ℕ) (number left address : ℕ) → address + left ≤ 2 ^ 18 → Good address (image_from number left address ws)
unfolding image_from
good [] number zero address k = tt
good [] number (suc left) address k = tt
good (w ∷ ws) number (suc left) address k =
    let room : address + 1 + left ≤ 2 ^ 18 = omega arith in
    let high : address < 2 ^ 18 = omega arith in
    good_word address w (image_from (number + 1) left (address + 1) ws) high (good ws (number + 1) left (address + 1) room)
good (w ∷ ws) number zero address k =
    subst (Good address) (sym (head_first number address w ws (head_at address w) refl))
    (good_head address number ws (head_at address w) (head_sound address w) (λ n count first room. good ws n count first room))

is_image : (image : Loaded) (r : Result Loaded SaveFault) → r ≡ Ok image → Good 0 r → IsImage image.words image.start
is_image image (Ok found) e g =
    let same : found ≡ image = cc in
    subst (λ (i : Loaded). IsImage i.words i.start) same (record { rises = g.0; start_fits = g.1 })
is_image image (Err fault) e g = absurd (cc)

pub save_gives_image : (ws : List ℕ) (image : Loaded) → image_of_save ws ≡ Ok image → IsImage image.words image.start
unfolding image_of_save
save_gives_image ws image e = is_image image (image_from 1 0 0 ws) e (good ws 1 0 0 (omega arith))
