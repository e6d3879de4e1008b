-- Whether two kept states are the same.
use Rattle.std.specs.Prelude.{◌≡◌, Bool, true, ◌==◌, ◌&&◌}
use Rattle.std.specs.Bool.{Decides}
use Rattle.std.specs.Cmp.{unsigned_Decides, decided, IsEquivalence}
use Rattle.std.specs.Hash as fed
use Rattle.std.specs.Hash.{HashWrites}
use Rattle.std.proofs.Common.{ap, ◌++◌}
use Rattle.std.proofs.lemmas.Bool.{and_parts, and_from}
use Rattle.job_orders.specs.declared.kept.KeptState.{KeptState}

abbrev pub same_state : KeptState → KeptState → Bool
same_state a b = a.jobs == b.jobs && (a.requests == b.requests && (a.shared == b.shared && a.free == b.free))

-- the parts of them that are hashed
abbrev pub state_writes : KeptState → HashWrites
state_writes s = fed.u32 s.jobs ++ (fed.u32 s.requests ++ fed.u32 s.shared)

-- ---- the test decides

pub same_state-Decides : (a b : KeptState) → Decides (same_state a b) (a ≡ b)
same_state-Decides a b = (
  λ h.
      let p = and_parts (a.jobs == b.jobs) (a.requests == b.requests && (a.shared == b.shared && a.free == b.free)) h in
      let q = and_parts (a.requests == b.requests) (a.shared == b.shared && a.free == b.free) p.1 in
      let r = and_parts (a.shared == b.shared) (a.free == b.free) q.1 in
      let jobs = (unsigned_Decides a.jobs b.jobs).0 p.0 in
      let requests = (unsigned_Decides a.requests b.requests).0 q.0 in
      let shared = (unsigned_Decides a.shared b.shared).0 r.0 in
      let free = (unsigned_Decides a.free b.free).0 r.1 in
      λ i. record { jobs = jobs i; requests = requests i; shared = shared i; free = free i },
  λ e. and_from _ _ ((unsigned_Decides a.jobs b.jobs).1 (ap (λ (s : KeptState). s.jobs) e))
      (and_from _ _ ((unsigned_Decides a.requests b.requests).1 (ap (λ (s : KeptState). s.requests) e))
      (and_from _ _ ((unsigned_Decides a.shared b.shared).1 (ap (λ (s : KeptState). s.shared) e))
      ((unsigned_Decides a.free b.free).1 (ap (λ (s : KeptState). s.free) e)))),
)

pub same_state-equiv : IsEquivalence same_state
same_state-equiv = decided same_state same_state-Decides

pub same_state-fed : (a b : KeptState) → same_state a b ≡ true → state_writes a ≡ state_writes b
same_state-fed a b e = ap state_writes ((same_state-Decides a b).0 e)
