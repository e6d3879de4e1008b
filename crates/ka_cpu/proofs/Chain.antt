use Rattle.std.proofs.Common.{◌≡◌, ℕ, ◌+◌, ◌-◌, ◌/◌, ◌%◌, ◌^◌, ◌∙◌, ◌<◌, ◌≤◌, suc, zero, Option, Some, None, Ok}
use Rattle.std.proofs.Common.{Err, Result, List, true, false, refl, arith, ap, sym, nat_eq}
use Rattle.std.proofs.lemmas.Bool.{eqb-true}
use Rattle.ka_cpu.specs.declared.limits.TheConstants.{MOST_LINKS}
use Rattle.ka_state.specs.Memory.{word_at}
use Rattle.ka_cpu.specs.Addresses.{Target, target_here, target_of, target_from, is_indirect, direct_address, address_in, used_in, pair_in}
use Rattle.ka_state.specs.declared.outcome.StopReason.{StopReason}
use Rattle.ka_state.specs.declared.outcome.StopReason.TheVariants.{IllegalAddress, AddressChain}

pub target_direct : (n : ℕ) (ac core : List ℕ) (w : ℕ) (u : Option ℕ) → is_indirect w ≡ false → target_from n ac core w u ≡ Ok (target_here ac w u)
unfolding target_from
target_direct zero ac core w u h = rw h refl
target_direct (suc n) ac core w u h = rw h refl

end_at : (n : ℕ) (ac core : List ℕ) (w : ℕ) (u : Option ℕ) → n ≡ 0 → is_indirect w ≡ true → target_from n ac core w u ≡ Err AddressChain
unfolding target_from
end_at n ac core w u e h = rw e (rw h refl)

pub target_end : (i : ℕ) (ac core : List ℕ) (w : ℕ) (u : Option ℕ) → MOST_LINKS ≤ i → is_indirect w ≡ true
    → target_from (MOST_LINKS - i) ac core w u ≡ Err AddressChain
target_end i ac core w u b h = end_at (MOST_LINKS - i) ac core w u (omega arith) h

illegal_at : (m n : ℕ) (ac core : List ℕ) (w : ℕ) (u : Option ℕ) → n ≡ suc m → is_indirect w ≡ true
    → word_at ac core (direct_address ac w) ≡ None
    → target_from n ac core w u ≡ Err IllegalAddress
unfolding target_from
illegal_at m n ac core w u e h r = rw e (rw h (rw r refl))

turn_at : (m n : ℕ) (ac core : List ℕ) (w v : ℕ) (u : Option ℕ) → n ≡ suc m → is_indirect w ≡ true
    → word_at ac core (direct_address ac w) ≡ Some v
    → target_from n ac core w u ≡ target_from m ac core v (Some v)
unfolding target_from
turn_at m n ac core w v u e h r = rw e (rw h (rw r refl))

pub target_illegal : (i : ℕ) (ac core : List ℕ) (w : ℕ) (u : Option ℕ) → i < MOST_LINKS → is_indirect w ≡ true
    → word_at ac core (direct_address ac w) ≡ None
    → target_from (MOST_LINKS - i) ac core w u ≡ Err IllegalAddress
target_illegal i ac core w u b h r = illegal_at (MOST_LINKS - (i + 1)) (MOST_LINKS - i) ac core w u (omega arith) h r

pub target_turn : (i : ℕ) (ac core : List ℕ) (w v : ℕ) (u : Option ℕ) → i < MOST_LINKS → is_indirect w ≡ true
    → word_at ac core (direct_address ac w) ≡ Some v
    → target_from (MOST_LINKS - i) ac core w u ≡ target_from (MOST_LINKS - (i + 1)) ac core v (Some v)
target_turn i ac core w v u b h r = turn_at (MOST_LINKS - (i + 1)) (MOST_LINKS - i) ac core w v u (omega arith) h r

pub ruleset chain_steps = (target_direct, target_end, target_illegal, target_turn)

-- the parts of a target that was found as a pair
first_in : Result (ℕ × Option ℕ) StopReason → Result ℕ StopReason
first_in (Err r) = Err r
first_in (Ok p) = Ok p.0

second_in : Result (ℕ × Option ℕ) StopReason → Option ℕ
second_in (Err r) = None
second_in (Ok p) = p.1

pub address_from_ok : (x : Result Target StopReason) (e : ℕ) (u : Option ℕ) → Ok (e, u) ≡ pair_in x → address_in x ≡ Ok e
unfolding first_in
address_from_ok (Err r) e u h = cc
address_from_ok (Ok t) e u h = sym (ap first_in h)

pub used_from_ok : (x : Result Target StopReason) (e : ℕ) (u : Option ℕ) → Ok (e, u) ≡ pair_in x → used_in x ≡ u
unfolding second_in
used_from_ok (Err r) e u h = cc
used_from_ok (Ok t) e u h = sym (ap second_in h)

pub address_from_err : (x : Result Target StopReason) (r : StopReason) → Err r ≡ pair_in x → address_in x ≡ Err r
address_from_err (Err r) s h = cc
address_from_err (Ok t) s h = cc

pub used_from_err : (x : Result Target StopReason) (r : StopReason) → Err r ≡ pair_in x → used_in x ≡ None
used_from_err (Err r) s h = refl
used_from_err (Ok t) s h = cc

pub address_direct : (ac core : List ℕ) (w : ℕ) → is_indirect w ≡ false → address_in (target_of ac core w) ≡ Ok (direct_address ac w)
address_direct ac core w h = ap address_in (target_direct MOST_LINKS ac core w None h)

-- neither I nor X
pub address_plain : (ac core : List ℕ) (w : ℕ) → nat_eq (w / 2 ^ 18 % 2 ^ 5) 0 ≡ true → address_in (target_of ac core w) ≡ Ok (w % 2 ^ 18)
address_plain ac core w t =
    let h : w / 2 ^ 18 % 2 ^ 5 ≡ 0 = eqb-true (w / 2 ^ 18 % 2 ^ 5) 0 t in
    let i : w / 2 ^ 22 % 2 ≡ 0 = omega arith in
    let x : w / 2 ^ 18 % 2 ^ 4 ≡ 0 = omega arith in
    let d : is_indirect w ≡ false = rw i refl in
    let e : direct_address ac w ≡ w % 2 ^ 18 = rw x refl in
    address_direct ac core w d ∙ ap (λ (n : ℕ). Ok n) e

pub ruleset chain_parts = (address_plain, address_from_ok, used_from_ok, address_from_err, used_from_err, address_direct)
