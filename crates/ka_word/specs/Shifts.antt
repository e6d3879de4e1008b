-- ASH, ROT, LSH, ROTC and LSHC (DECsystem-10 Processor Reference Manual, "Shift and rotate").
use Rattle.std.specs.Prelude.{ℕ, ◌+◌, ◌-◌, ◌*◌, ◌/◌, ◌%◌, ◌^◌, nat_eq, nat_lt, Bool, false, not, if◌then◌else◌}
use Rattle.word36.specs.Words.{is_negative, complement}

-- E is a signed number of 18 bits, positive to the left; the places are its magnitude modulo 256
abbrev pub is_left : ℕ → Bool
is_left e = nat_lt e (2 ^ 17)

abbrev pub places_of : ℕ → ℕ
places_of e = if is_left e then e % 256 else (2 ^ 18 - e) % 256

-- n bits, k places to the left or to the right, zeros coming in
abbrev pub shifted_left : ℕ → ℕ → ℕ → ℕ
shifted_left n k w = w * 2 ^ k % 2 ^ n

abbrev pub shifted_right : ℕ → ℕ → ℕ
shifted_right k w = w / 2 ^ k

-- n bits turned round by r places, at most n: the low bits move up and the high ones come in below
abbrev pub turned_left : ℕ → ℕ → ℕ → ℕ
turned_left n r w = w % 2 ^ (n - r) * 2 ^ r + w / 2 ^ (n - r)

-- r places to the right are n - r to the left
abbrev pub turned_right : ℕ → ℕ → ℕ → ℕ
turned_right n r w = turned_left n (n - r) w

-- LSH
unfoldable pub lsh_of : ℕ → ℕ → ℕ
lsh_of e w = if is_left e then shifted_left 36 (places_of e) w else shifted_right (places_of e) w

-- ROT
unfoldable pub rot_of : ℕ → ℕ → ℕ
rot_of e w = if is_left e then turned_left 36 (places_of e % 36) w else turned_right 36 (places_of e % 36) w

-- ASH: the sign stays and bits 1 to 35 are shifted; to the right the sign comes in
unfoldable pub ash_of : ℕ → ℕ → ℕ
ash_of e w =
    if is_left e
    then (if is_negative w then 2 ^ 35 else 0) + shifted_left 35 (places_of e) (w % 2 ^ 35)
    else (if is_negative w then complement (complement w / 2 ^ places_of e) else w / 2 ^ places_of e)

-- the bits that leave bit 1, zeros that came in among them, are not all like the sign
unfoldable pub ash_overflows : ℕ → ℕ → Bool
ash_overflows e w =
    if is_left e
    then not (nat_eq (w % 2 ^ 35 * 2 ^ places_of e / 2 ^ 35) (if is_negative w then 2 ^ places_of e - 1 else 0))
    else false

-- LSHC, of 72 bits
unfoldable pub lshc_of : ℕ → ℕ → ℕ
lshc_of e d = if is_left e then shifted_left 72 (places_of e) d else shifted_right (places_of e) d

-- ROTC, of 72 bits
unfoldable pub rotc_of : ℕ → ℕ → ℕ
rotc_of e d = if is_left e then turned_left 72 (places_of e % 72) d else turned_right 72 (places_of e % 72) d
