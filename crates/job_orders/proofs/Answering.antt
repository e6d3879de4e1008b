-- A look at all orders, from a machine as it is.
use Rattle.std.proofs.Common.{◌≡◌, ◌≤◌, ◌∙◌, ℕ, List, length, Option, true, sym, ap, subst}
use Rattle.word36.specs.declared.sizes.TheConstants.{DATA_WORDS, JOBS, MOST_REQUESTS}
use Rattle.lock_queue.specs.WellFormed.{are_well_formed}
use Rattle.tty_lines.specs.Rings.{all_clear}
use Rattle.uuo_calls.specs.Performed.{World}
use Rattle.machine.specs.Machine.{S}
use Rattle.machine.specs.Safe.{Safe}
use Rattle.state_search.specs.Found.{HasMore}
use Rattle.state_search.specs.declared.kept.Origin.{Origin}
use Rattle.job_order_laws.specs.Erased.{erased}
use Rattle.job_order_laws.specs.Turned.{V}
use Rattle.job_moves.specs.Moves.{begun, next, settled}
use Rattle.job_orders.specs.declared.kept.KeptState.{KeptState}
use Rattle.job_orders.specs.declared.looking.Looked.{Looked}
use Rattle.job_orders.specs.declared.tables.Tables.{Tables}
use Rattle.job_orders.specs.Endings.{highest_job}
use Rattle.job_orders.specs.Finding.{AreKept, IsFound, met_at}
use Rattle.job_orders.specs.Reports.{IsLooked, count_of, started}
use Rattle.job_orders.specs.Systems.{Begun, IsBegun}
use Rattle.job_orders.proofs.Reported.{From, looked-from, more-from}
use Rattle.job_orders.proofs.Starting.{count-is, lines-are, settled-is, start-begun-as, start-few, start-is, start-jobs, start-sound}

-- w is the world of the machine s, t is made of it, has n jobs, and settles in u
module _ (s : S) (blocks : ℕ) (same : blocks ≡ s.blocks) (safe : Safe s) (w : World) (t : V) (same_world : w ≡ s.world)
    (made : t ≡ begun (record { world = w; time = 0; quantum = 1; blocks = blocks })) (most n : ℕ) (u : V)
    (highest : n ≡ highest_job t.machine.world.table.jobs JOBS) (settles : u ≡ settled most n t) where
  jobs-are : n ≡ count_of (started blocks s.world)
  jobs-are = count-is s blocks same safe w t same_world made n highest

  settled-as : u ≡ settled most (count_of (started blocks s.world)) (erased (started blocks s.world))
  settled-as = settled-is s blocks same safe w t same_world made most n u settles highest

  -- it can be searched
  pub begins : t.machine.world.size ≡ MOST_REQUESTS → t.machine.world.lines ≡ all_clear → are_well_formed s.world.requests ≡ true
      → length t.machine.world.shared ≡ DATA_WORDS → 1 ≤ blocks → IsBegun (record { state = u; count = n; most = most })
  begins size clear well shared some =
      let is : t ≡ erased (started blocks s.world) = start-is s blocks same safe w t same_world made in
      start-begun-as s blocks same safe (sym (ap (λ (v : V). v.machine.world.size) is) ∙ size)
      (sym (lines-are s blocks same safe w t same_world made) ∙ clear) well (sym (ap (λ (v : V). length v.machine.world.shared) is) ∙ shared)
      most n u some jobs-are settled-as

  module _ (b : Begun) (is : b ≡ record { state = u; count = n; most = most }) (limit : ℕ) where
    from-start : b ≡ From most limit (started blocks s.world) (start-sound s blocks same safe) (start-few s blocks same safe) (start-jobs s blocks same safe)
    from-start =
        is ∙ ap (λ (v : V). record { state = v; count = n; most = most }) settled-as
        ∙ ap (λ m. record {
          state = settled most (count_of (started blocks s.world)) (erased (started blocks s.world));
          count = m;
          most = most;
        }) jobs-are

    pub few-jobs : b.count ≤ JOBS
    few-jobs = subst (λ (d : Begun). d.count ≤ JOBS) (sym from-start) (start-few s blocks same safe)

    pub all-looked : (o : Option V) (ts : Tables) (xs : List KeptState) (os : List Origin) (l : Looked) → AreKept b o ts xs os → length xs ≤ limit
        → IsFound b.count (met_at b ts xs os) (length xs) l → IsLooked most limit (started blocks s.world) l
    all-looked o ts xs os l kept low found =
        looked-from most limit (started blocks s.world) (start-sound s blocks same safe) (start-few s blocks same safe)
        (start-jobs s blocks same safe) b o ts xs os l from-start kept low found

    pub more-states : HasMore b.count (next b.most b.count) b.state limit
        → HasMore (count_of (started blocks s.world)) (next most (count_of (started blocks s.world)))
        (settled most (count_of (started blocks s.world)) (erased (started blocks s.world))) limit
    more-states more =
        more-from most limit (started blocks s.world) (start-sound s blocks same safe) (start-few s blocks same safe)
        (start-jobs s blocks same safe) b from-start more
