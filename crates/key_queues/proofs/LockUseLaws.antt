-- Queues in use stay used.
use Rattle.std.proofs.lemmas.Grind.{common_steps}
use Rattle.std.proofs.Common.{◌≡◌, ◌≢◌, ◌<◌, sym, subst, ℕ, true, List, ◌∷◌, ◌++◌, length, get_or, inl, inr, arith}
use Rattle.std.proofs.lemmas.Bool.{cases_eq, not-true}
use Rattle.std.proofs.lemmas.List.Folds.{list_any-append}
use Rattle.key_queues.specs.Kept.{KeptQueue}
use Rattle.key_queues.specs.States.{State, IsQueued, IsKept, IsCounted, IsUsed, GivesUpAt, Extended, InUseHaveRequests, in_use}
use Rattle.key_queues.specs.Tables.{is_there}
use Rattle.key_queues.proofs.Using.{queued_there, used_after}

-- what stands around a number that is not it
pub there_around : (m n : ℕ) (a b : List ℕ) → m ≢ n → is_there m (a ++ n ∷ b) ≡ true → is_there m (a ++ b) ≡ true
there_around m n a b ne h = grind (arith, list_any-append)

pub in_use_given_up : (s t : State) (p k : ℕ) → IsKept s → IsKept t → is_there p s.order ≡ true → k < length (s.own p)
    → GivesUpAt s t p k
    → IsCounted t (get_or (s.own p) k 0)
    → InUseHaveRequests s
    → InUseHaveRequests t
in_use_given_up s t p k kept_s kept_t present lt gives counted used m some =
    elim (cases_eq m (get_or (s.own p) k 0)) [
      | inl e ↦ rw e (used_after s t p k kept_s kept_t present lt gives counted (not-true _ (rw e at some)))
      | inr ne ↦
          let u : IsUsed s m = used m (rw (gives.others m ne) at some) in
          record {
            slot = u.slot;
            stands = grind (arith, cases_eq u.slot p, gives.own u.slot, there_around);
          }
    ]

-- a queue that is used stays so where the order and the queues of requests stay
pub used_same : (s t : State) (m : ℕ) → t.order ≡ s.order → ((x : ℕ) → t.own x ≡ s.own x) → IsUsed s m → IsUsed t m
used_same s t m order own u = grind arith

pub in_use_extended : (s t : State) (n : ℕ) → Extended s t n → IsUsed s n → InUseHaveRequests s → InUseHaveRequests t
in_use_extended s t n e used_n used m some =
    used_same s t m e.order e.own
    (elim (cases_eq m n) [
      | inl same ↦ subst (IsUsed s) (sym same) used_n
      | inr ne ↦ used m (subst (λ q. in_use q ≡ true) (e.others m ne) some)
    ])

-- a queue in use has slots
pub in_use_where_there : (x : ℕ) (q : KeptQueue) → is_there x q.slots ≡ true → in_use q ≡ true
in_use_where_there x q h = grind (arith, common_steps)

-- a queue that is used is in use
pub used_in_use : (s : State) (x n : ℕ) → IsKept s → IsQueued s x n → in_use (s.queue n) ≡ true
used_in_use s x n kept st = in_use_where_there x (s.queue n) (queued_there s x n kept st)
