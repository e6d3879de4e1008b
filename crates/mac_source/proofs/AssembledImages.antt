-- What a source comes to is an image: its addresses rise, and its start fits.
use Rattle.std.proofs.Common.{◌≡◌, subst, ℕ, zero, suc, ◌+◌, ◌-◌, ◌%◌, ◌^◌, ◌<◌, ◌≤◌, Bool, true, false, nat_eq, nat_le, List, [], ◌∷◌}
use Rattle.std.proofs.Common.{lit<, filter_map, Option, Some, None, option_map, Result, Ok, Err, arith, if◌then◌else◌}
use Rattle.std.specs.Prelude.{ℤ, pos, negsuc, reverse, unwrap_or}
use Rattle.std.specs.List.{range_with_len, cons_option, last_or}
use Rattle.std.specs.Map.{lookup}
use Rattle.mac_text.specs.Lines.{program_of}
use Rattle.mac_text.specs.declared.syntax.Statement.{Statement}
use Rattle.mac_text.specs.declared.syntax.Statement.TheVariants as statements
use Rattle.mac_text.specs.declared.syntax.Line.{Line}
use Rattle.mac_layout.specs.Values.{◌>>=◌, Names, residue_of, value_of}
use Rattle.mac_layout.specs.Addresses.{Placed, first_address}
use Rattle.mac_layout.specs.Faults.{Fault}
use Rattle.mac_layout.specs.LaidOut.{Layout, empty_layout, laid_out, addresses_of_literals}
use Rattle.mac_asm.specs.Words.{fitted}
use Rattle.mac_asm.specs.Assembly.{Assembled, word_at, by_address, start_by, start_from, start_at}
use Rattle.mac_asm.specs.Outcome.{image_with, lines_with, words_given, outcome_placed, outcome_from, has_end, outcome_read, outcome_of}
use Rattle.image_files.specs.Images.{IsImage, Rises}

-- ---- addresses

rise_lower : (low high : ℕ) (xs : List (ℕ × ℕ)) → low ≤ high → Rises high xs → Rises low xs
rise_lower low high [] h r = tt
rise_lower low high (x ∷ xs) h r =
    let above : high ≤ x.0 = r.0 in
    (omega arith, r.1, r.2)

abbrev found : List (ℕ × ℕ) → ℕ → ℕ → List (ℕ × ℕ)
found words a n = filter_map (word_at words) (range_with_len a n)

found_step : (o : Option ℕ) (a : ℕ) (rest : List (ℕ × ℕ)) → a < 2 ^ 18 → Rises (a + 1) rest
    → Rises a (cons_option (option_map (λ w. (a, w)) o) rest)
found_step (Some w) a rest h r = (omega arith, h, r)
found_step None a rest h r = rise_lower a (a + 1) rest (omega arith) r

found_rise : (n a : ℕ) (words : List (ℕ × ℕ)) → a + n ≤ 2 ^ 18 → Rises a (found words a n)
found_rise zero a words h = tt
found_rise (suc n) a words h =
    found_step (lookup (nat_eq a) words) a (found words (a + 1) n) (omega arith) (found_rise n (a + 1) words (omega arith))

by_address_rise : (words : List (ℕ × ℕ)) → Rises 0 (by_address words)
unfolding by_address
by_address_rise words = found_rise (2 ^ 18) 0 words (omega arith)

-- ---- the start

abbrev StartFits : Option ℕ → Type 0
StartFits (Some n) = n < 2 ^ 18
StartFits None = Unit {0}

if_fits : (b : Bool) (n : ℕ) → n < 2 ^ 18 → StartFits (if b then Some n else None)
if_fits true n h = h
if_fits false n h = tt

residue_fits : (z : ℤ) → StartFits (residue_of 0 262143 262144 z)
unfolding residue_of
residue_fits (pos n) = if_fits (nat_le n 262143) (n % 262144) (omega arith)
residue_fits (negsuc n) = if_fits (nat_le (suc n) 0) ((262144 - suc n) % 262144) (omega arith)

chain_fits : (o : Option ℤ) → StartFits (o >>= residue_of 0 262143 262144)
chain_fits (Some z) = residue_fits z
chain_fits None = tt

by_fits : (names : Names) (s : Option Statement) → StartFits (start_by names s)
unfolding fitted
by_fits names None = tt
by_fits names (Some (statements.Data given)) = tt
by_fits names (Some (statements.Loc e)) = tt
by_fits names (Some (statements.End None)) = lit< tt
by_fits names (Some (statements.End (Some e))) = chain_fits (value_of names e)
by_fits names (Some (statements.Radix n)) = tt
by_fits names (Some statements.Title) = tt

from_fits : (o : Option Placed) → StartFits (start_from o)
from_fits None = tt
from_fits (Some at) = by_fits at.names at.line.statement

start_fits : (lines : List Placed) → StartFits (start_at lines)
unfolding start_at
start_fits lines = from_fits (last_or None lines)

or_first : (o : Option ℕ) → StartFits o → unwrap_or o first_address < 2 ^ 18
or_first (Some n) h = h
or_first None h = lit< tt

-- ---- the whole

-- the image of an outcome
abbrev IsPlaced : Result Assembled Fault → Type 0
IsPlaced (Ok image) = Rises 0 image.words × (image.start < 2 ^ 18)
IsPlaced (Err fault) = Unit {0}

with_placed : (start : ℕ) (r : Result (List (ℕ × ℕ)) Fault) → start < 2 ^ 18 → IsPlaced (image_with start r)
with_placed start (Ok words) h = (by_address_rise (reverse words), h)
with_placed start (Err fault) h = tt

placed_placed : (lines : List Placed) → IsPlaced (outcome_placed lines)
unfolding outcome_placed
placed_placed lines = with_placed (unwrap_or (start_at lines) first_address) (words_given 1 lines) (or_first (start_at lines) (start_fits lines))

from_placed : (lines : List Line) (r : Result Layout Fault) → IsPlaced (outcome_from lines r)
from_placed lines (Ok s) = placed_placed (lines_with s.labels s.addresses (addresses_of_literals s) lines)
from_placed lines (Err fault) = tt

ended_placed : (b : Bool) (r : Result Assembled Fault) (fault : Fault) → IsPlaced r → IsPlaced (if b then r else Err fault)
ended_placed true r fault h = h
ended_placed false r fault h = tt

read_placed : (r : Result (List Line) ℕ) → IsPlaced (outcome_read r)
unfolding outcome_read
read_placed (Err number) = tt
read_placed (Ok lines) = ended_placed (has_end lines) (outcome_from lines (laid_out empty_layout 1 lines)) _ (from_placed lines (laid_out empty_layout 1 lines))

outcome_is_placed : (source : List ℕ) → IsPlaced (outcome_of source)
unfolding outcome_of
outcome_is_placed source = read_placed (program_of source)

placed_is_image : (image : Assembled) (r : Result Assembled Fault) → r ≡ Ok image → IsPlaced r → IsImage image.words image.start
placed_is_image image (Ok found) e p =
    let same : found ≡ image = cc in
    subst (λ (i : Assembled). IsImage i.words i.start) same (record { rises = p.0; start_fits = p.1 })
placed_is_image image (Err fault) e p = absurd (cc)

pub assembled_is_image : (source : List ℕ) (image : Assembled) → outcome_of source ≡ Ok image → IsImage image.words image.start
assembled_is_image source image e = placed_is_image image (outcome_of source) e (outcome_is_placed source)
