use Rattle.std.proofs.Common.{◌≡◌, ℕ, ◌≤◌, ◌⊎◌, suc, zero, Option, Some, None, Ok, Err, Result, List, [], ◌∷◌, length}
use Rattle.std.proofs.Common.{Bool, true, false, cond, refl, arith, sym, ◌∙◌, inl, inr, ap}
use Rattle.ka_cpu.specs.declared.limits.TheConstants.{MOST_LINKS}
use Rattle.ka_state.specs.Memory.{word_at}
use Rattle.ka_cpu.specs.Addresses.{Target, target_here, target_from, target_of, is_indirect, direct_address, LeadsTo, reading}
use Rattle.ka_state.specs.declared.outcome.StopReason.{StopReason}
use Rattle.ka_state.specs.declared.outcome.StopReason.TheVariants.{AddressChain}
use Rattle.ka_cpu.proofs.Chain.{target_direct}

chain_found : (n : ℕ) (ac core : List ℕ) (w : ℕ) (u : Option ℕ) (vs : List ℕ) (t : Target) → length vs ≤ n
    → LeadsTo ac core w u vs t
    → target_from n ac core w u ≡ Ok t
unfolding target_from
chain_found n ac core w u [] t b h = target_direct n ac core w u h.0 ∙ ap (λ (x : Target). Ok x) (sym h.1)
chain_found zero ac core w u (v ∷ vs) t b h = absurd (omega arith)
chain_found (suc n) ac core w u (v ∷ vs) t b h = rw h.0 (rw h.1 (chain_found n ac core v (Some v) vs t (omega arith) h.2))

-- what a result that is found says of the word
found_here : (b : Bool) (u t : Target) → cond b (Err AddressChain) (Ok u) ≡ Ok t → (b ≡ false) × (t ≡ u)
found_here true u t h = cc
found_here false u t h = (refl, cc)

found_on : (o : Option ℕ) (f : ℕ → Result Target StopReason) (t : Target) → reading o f ≡ Ok t → (v : ℕ) × (o ≡ Some v) × (f v ≡ Ok t)
found_on None f t h = cc
found_on (Some v) f t h = (v, refl, h)

found_step : (b : Bool) (o : Option ℕ) (f : ℕ → Result Target StopReason) (u t : Target) → cond b (reading o f) (Ok u) ≡ Ok t
    → ((b ≡ false) × (t ≡ u)) ⊎ ((b ≡ true) × (reading o f ≡ Ok t))
found_step true o f u t h = inr (refl, h)
found_step false o f u t h = inl (refl, cc)

chain_only : (n : ℕ) (ac core : List ℕ) (w : ℕ) (u : Option ℕ) (t : Target) → target_from n ac core w u ≡ Ok t
    → (vs : List ℕ) × (length vs ≤ n) × LeadsTo ac core w u vs t
unfolding target_from
chain_only zero ac core w u t h = ([], omega arith, found_here (is_indirect w) (target_here ac w u) t h)
chain_only (suc n) ac core w u t h =
    elim (found_step (is_indirect w) (word_at ac core (direct_address ac w)) (λ v. target_from n ac core v (Some v)) (target_here ac w u) t h) [
      | inl p ↦ ([], omega arith, p)
      | inr p ↦
          (let q = found_on (word_at ac core (direct_address ac w)) (λ (v : ℕ). target_from n ac core v (Some v)) t p.1 in
          let rest = chain_only n ac core q.0 (Some q.0) t q.2 in
          (q.0 ∷ rest.0, omega arith, (p.0, q.1, rest.2)))
    ]

pub found : (ac core vs : List ℕ) (w : ℕ) (t : Target) → length vs ≤ MOST_LINKS → LeadsTo ac core w None vs t → target_of ac core w ≡ Ok t
found ac core vs w t b h = chain_found MOST_LINKS ac core w None vs t b h

pub only : (ac core : List ℕ) (w : ℕ) (t : Target) → target_of ac core w ≡ Ok t → (vs : List ℕ) × (length vs ≤ MOST_LINKS) × LeadsTo ac core w None vs t
only ac core w t h = chain_only MOST_LINKS ac core w None t h

pub ruleset chain_laws = (found, only)
