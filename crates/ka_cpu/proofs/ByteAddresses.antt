use Rattle.std.proofs.Common.{◌≡◌, ℕ, Option, Some, None, Ok, Err, Result, List, Bool, true, false, refl, ◌∙◌, cond, set, slice_get, nat_lt}
use Rattle.std.proofs.lemmas.List.{set-set, set-get_or}
use Rattle.std.proofs.lemmas.Option.{get_or_from_slice_get}
use Rattle.ka_state.specs.Memory.{word_at, ac_with, core_with}
use Rattle.ka_cpu.specs.Addresses.{Target, target_of, reading, address_in, at_target}
use Rattle.ka_state.specs.declared.outcome.StopReason.{StopReason}
use Rattle.ka_state.specs.declared.outcome.StopReason.TheVariants.{IllegalAddress}
use Rattle.ka_cpu.specs.Bytes.{located_byte}
use Rattle.ka_cpu.proofs.Legal.{legal_from_read}

put_back : (xs : List ℕ) (e old new : ℕ) → slice_get xs e ≡ Some old → set (set xs e new) e old ≡ xs
put_back xs e old new h = set-set xs e new old ∙ rw (← get_or_from_slice_get xs e old 0 h) (set-get_or xs e 0)

ac_back : (b : Bool) (xs ys : List ℕ) (e old new : ℕ) → cond b (slice_get xs e) (slice_get ys e) ≡ Some old
    → cond b (set (cond b (set xs e new) xs) e old) (cond b (set xs e new) xs) ≡ xs
ac_back true xs ys e old new h = put_back xs e old new h
ac_back false xs ys e old new h = refl

core_back : (b : Bool) (xs ys : List ℕ) (e old new : ℕ) → cond b (slice_get xs e) (slice_get ys e) ≡ Some old
    → cond b (cond b ys (set ys e new)) (set (cond b ys (set ys e new)) e old) ≡ ys
core_back true xs ys e old new h = refl
core_back false xs ys e old new h = put_back ys e old new h

-- a word that is stored back leaves registers and core as they were
pub restore_ac : (ac core : List ℕ) (e old new : ℕ) → word_at ac core e ≡ Some old → ac_with (ac_with ac e new) e old ≡ ac
restore_ac ac core e old new h = ac_back (nat_lt e 16) ac core e old new h

pub restore_core : (ac core : List ℕ) (e old new : ℕ) → word_at ac core e ≡ Some old → core_with (core_with core e new) e old ≡ core
restore_core ac core e old new h = core_back (nat_lt e 16) ac core e old new h

pub ruleset restore_steps = (restore_ac, restore_core)

-- the address of a byte by that of its pointer
place_by : (x : Result Target StopReason) (ac core : List ℕ) (e : ℕ) (o : Option ℕ) → Ok e ≡ address_in x → word_at ac core e ≡ o
    → at_target {A = ℕ × ℕ} x (λ t. reading (word_at ac core t.e) (λ w. Ok (t.e, w))) ≡ reading o (λ w. Ok (e, w))
place_by (Err r) ac core e o h p = cc
place_by (Ok t) ac core e o h p = let q : t.e ≡ e = cc in rw (q, p) refl

pub place_ok : (ac core : List ℕ) (p e w : ℕ) → Ok e ≡ address_in (target_of ac core p) → word_at ac core e ≡ Some w → located_byte ac core p ≡ Ok (e, w)
place_ok ac core p e w h q = place_by (target_of ac core p) ac core e (Some w) h q

pub place_illegal : (ac core : List ℕ) (p e : ℕ) → Ok e ≡ address_in (target_of ac core p) → word_at ac core e ≡ None
    → located_byte ac core p ≡ Err IllegalAddress
place_illegal ac core p e h q = place_by (target_of ac core p) ac core e None h q

refused_by : (x : Result Target StopReason) (ac core : List ℕ) (r : StopReason) → Err r ≡ address_in x
    → at_target {A = ℕ × ℕ} x (λ t. reading (word_at ac core t.e) (λ w. Ok (t.e, w))) ≡ Err r
refused_by (Err s) ac core r h = cc
refused_by (Ok t) ac core r h = cc

pub place_refused : (ac core : List ℕ) (p : ℕ) (r : StopReason) → Err r ≡ address_in (target_of ac core p) → located_byte ac core p ≡ Err r
place_refused ac core p r h = refused_by (target_of ac core p) ac core r h

pub ruleset byte_addresses = (place_ok, place_illegal, place_refused, legal_from_read)
