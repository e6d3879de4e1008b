-- The effective address E of an instruction, and the address of a byte pointer
-- (DECsystem-10 Processor Reference Manual, "Effective address calculation").
use Rattle.std.specs.Prelude.{◌≡◌, ◌<◌, true, false, [], ◌∷◌, ℕ, length, zero, suc, ◌+◌, ◌/◌, ◌%◌, ◌^◌, nat_eq, Bool}
use Rattle.std.specs.Prelude.{if◌then◌else◌, Option, Some, None, List, slice_index, Result, Ok, Err}
use Rattle.word36.specs.Words.{right_half}
use Rattle.ka_cpu.specs.declared.limits.TheConstants.{MOST_LINKS}
use Rattle.ka_state.specs.Memory.{word_at}
use Rattle.ka_state.specs.declared.outcome.StopReason.{StopReason}
use Rattle.ka_state.specs.declared.outcome.StopReason.TheVariants.{IllegalAddress, AddressChain}

-- what follows a read: an illegal address is refused
abbrev pub reading : {A : Type 0} → Option ℕ → (ℕ → Result A StopReason) → Result A StopReason
reading None f = Err IllegalAddress
reading (Some w) f = f w

-- X, bits 14-17
abbrev pub index_of : ℕ → ℕ
index_of w = w / 2 ^ 18 % 2 ^ 4

-- I, bit 13
abbrev pub is_indirect : ℕ → Bool
is_indirect w = nat_eq (w / 2 ^ 22 % 2) 1

-- Y, plus the right half of register X where X is not 0
abbrev pub direct_address : List ℕ → ℕ → ℕ
direct_address ac w =
    if nat_eq (index_of w) 0 then right_half w else (right_half w + right_half (slice_index ac (index_of w))) % 2 ^ 18

-- register X is used after the word that names it; without X the last use is still that before
abbrev pub used_after : List ℕ → ℕ → Option ℕ → Option ℕ
used_after ac w used = if nat_eq (index_of w) 0 then used else Some (slice_index ac (index_of w))

-- an address, and the register or word that was used last to find it
pub record Target : Type 0 where
  pub e : ℕ
  pub used : Option ℕ

abbrev pub target_here : List ℕ → ℕ → Option ℕ → Target
target_here ac w used = record { e = direct_address ac w; used = used_after ac w used }

-- where I is 1 the word at E supplies new I, X and Y, over at most n such words
unfoldable pub target_from : ℕ → List ℕ → List ℕ → ℕ → Option ℕ → Result Target StopReason
target_from zero ac core w used = if is_indirect w then Err AddressChain else Ok (target_here ac w used)
target_from (suc n) ac core w used =
    if is_indirect w
    then reading (word_at ac core (direct_address ac w)) (λ v. target_from n ac core v (Some v))
    else Ok (target_here ac w used)

-- this project's profile: at most MOST_LINKS indirect words
abbrev pub target_of : List ℕ → List ℕ → ℕ → Result Target StopReason
target_of ac core w = target_from MOST_LINKS ac core w None

-- the same as a relation: w leads to t by these links, the words that are read on the way
abbrev pub LeadsTo : List ℕ → List ℕ → ℕ → Option ℕ → List ℕ → Target → Type 0
LeadsTo ac core w used [] t = (is_indirect w ≡ false) × (t ≡ target_here ac w used)
LeadsTo ac core w used (v ∷ vs) t =
    (is_indirect w ≡ true) × (word_at ac core (direct_address ac w) ≡ Some v) × LeadsTo ac core v (Some v) vs t

-- v is the last of these words from w on, each of which follows the one before
abbrev pub Path : (ℕ → ℕ → Type 0) → ℕ → List ℕ → ℕ → Type 0
Path Follows w [] v = v ≡ w
Path Follows w (x ∷ xs) v = Follows w x × Path Follows x xs v

-- an indirect word and the word that it names
abbrev pub Links : List ℕ → List ℕ → ℕ → ℕ → Type 0
Links ac core w v = (is_indirect w ≡ true) × (word_at ac core (direct_address ac w) ≡ Some v)

-- fewer than MOST_LINKS links from w lead to an indirect word that names an illegal address
abbrev pub LeadsOutside : List ℕ → List ℕ → ℕ → Type 0
LeadsOutside ac core w =
    (vs : List ℕ) × (v : ℕ) × (length vs < MOST_LINKS) × Path (Links ac core) w vs v
    × (is_indirect v ≡ true) × (word_at ac core (direct_address ac v) ≡ None)

-- MOST_LINKS links from w lead to one more
abbrev pub LeadsTooFar : List ℕ → List ℕ → ℕ → Type 0
LeadsTooFar ac core w = (vs : List ℕ) × (v : ℕ) × (length vs ≡ MOST_LINKS) × Path (Links ac core) w vs v × (is_indirect v ≡ true)

-- what follows the calculation of an address
abbrev pub at_target : {A : Type 0} → Result Target StopReason → (Target → Result A StopReason) → Result A StopReason
at_target (Err r) f = Err r
at_target (Ok t) f = f t

abbrev pub address_in : Result Target StopReason → Result ℕ StopReason
address_in (Err r) = Err r
address_in (Ok t) = Ok t.e

abbrev pub used_in : Result Target StopReason → Option ℕ
used_in (Err r) = None
used_in (Ok t) = t.used

abbrev pub pair_in : Result Target StopReason → Result (ℕ × Option ℕ) StopReason
pair_in (Err r) = Err r
pair_in (Ok t) = Ok (t.e, t.used)
