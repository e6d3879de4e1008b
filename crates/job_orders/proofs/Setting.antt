-- A machine whose parts are those of a state is in that state.
use Rattle.std.proofs.Common.{◌≡◌, ◌≤◌, ◌*◌, ◌+◌, ◌++◌, ◌∙◌, ℕ, suc, [], List, None, length, take, map, get_or, sym, ap, subst, arith, sum_by}
use Rattle.std.proofs.lemmas.List.{get_or-map, length-map, take-append-le, take_all}
use Rattle.std.specs.List.{All}
use Rattle.word36.specs.declared.sizes.TheConstants.{BLOCK_WORDS, JOBS, MOST_REQUESTS}
use Rattle.core_store.specs.Cores.{Cores, IsWhole}
use Rattle.lock_queue.specs.Unused.{unused_request}
use Rattle.lock_queue.specs.declared.request.Request.{Request}
use Rattle.tty_lines.specs.Rings.{Rings, all_clear}
use Rattle.job_sched.specs.Tables.{Table}
use Rattle.machine.specs.Safe.{all_words}
use Rattle.uuo_calls.specs.Performed.{World}
use Rattle.job_order_laws.specs.Turned.{V}
use Rattle.state_search.specs.Parts.{part_of}
use Rattle.job_orders.specs.declared.kept.KeptState.{KeptState}
use Rattle.job_orders.specs.declared.tables.Tables.{Tables}
use Rattle.job_orders.specs.Forms.{JobForm, StateForm}
use Rattle.job_orders.specs.Framing.{no_job, padded-in, padded-length}
use Rattle.job_orders.specs.Tables.{form_of, job_of, numbers_at, requests_in}
use Rattle.job_orders.specs.Views.{IsFramed, padded, view_of}

-- the free blocks are those that are left
cores-same : (a b : Cores) → a.cores ≡ b.cores → all_words a ≡ all_words b → a ≡ b
cores-same a b is e =
    let sum : sum_by (λ (words : List ℕ). length words) a.cores ≡ sum_by (λ (words : List ℕ). length words) b.cores =
    ap (sum_by (λ (words : List ℕ). length words)) is in
    let free : a.free ≡ b.free = omega (arith, sum, e) in
    λ i. record { cores = is i; free = free i }

pub set-is : (quantum blocks count : ℕ) (f : StateForm) (table : Table) (last : List ℕ) (cores : Cores) (texts : List (List ℕ)) (lines : List Rings)
    (rs : List Request) (shared : List ℕ) → IsFramed quantum blocks count (view_of quantum blocks f)
    → table ≡ record { jobs = padded None (map (λ (j : JobForm). j.slot) f.jobs); current = 0; left = 0 }
    → last ≡ padded 0 (map (λ (j : JobForm). j.last) f.jobs)
    → cores.cores ≡ padded [] (map (λ (j : JobForm). j.core) f.jobs) → all_words cores ≡ blocks * BLOCK_WORDS
    → texts ≡ padded [] (map (λ (j : JobForm). j.text) f.jobs) → lines ≡ all_clear → rs ≡ f.requests → shared ≡ f.shared
    → record {
      machine = record {
        world = record { size = MOST_REQUESTS; table = table; lines = lines; requests = rs; cores = cores; shared = shared };
        time = 0;
        quantum = quantum;
        blocks = blocks;
      };
      texts = texts;
      last = last;
    } ≡ view_of quantum blocks f
set-is quantum blocks count f table last cores texts lines rs shared framed table-is last-is cores-are words texts-are lines-are requests-are shared-are =
    let all = cores-same cores (record { cores = padded [] (map (λ (j : JobForm). j.core) f.jobs); free = f.free }) cores-are
    (words ∙ sym framed.awake.sound.total) in
    λ i. record {
      machine = record {
        world = record {
          size = MOST_REQUESTS;
          table = table-is i;
          lines = lines-are i;
          requests = requests-are i;
          cores = all i;
          shared = shared-are i;
        };
        time = 0;
        quantum = quantum;
        blocks = blocks;
      };
      texts = texts-are i;
      last = last-is i;
    }

-- the same on a machine of its own quantum and blocks
pub set-made : (old : V) (quantum blocks count : ℕ) (f : StateForm) (table : Table) (last : List ℕ) (cores : Cores) (texts : List (List ℕ))
    (lines : List Rings) (rs : List Request) (shared : List ℕ) → quantum ≡ old.machine.quantum → blocks ≡ old.machine.blocks
    → IsFramed old.machine.quantum old.machine.blocks count (view_of old.machine.quantum old.machine.blocks f)
    → table ≡ record { jobs = padded None (map (λ (j : JobForm). j.slot) f.jobs); current = 0; left = 0 }
    → last ≡ padded 0 (map (λ (j : JobForm). j.last) f.jobs)
    → cores.cores ≡ padded [] (map (λ (j : JobForm). j.core) f.jobs) → all_words cores ≡ old.machine.blocks * BLOCK_WORDS
    → texts ≡ padded [] (map (λ (j : JobForm). j.text) f.jobs) → lines ≡ all_clear → rs ≡ f.requests → shared ≡ f.shared
    → record {
      machine = record {
        world = record { size = MOST_REQUESTS; table = table; lines = lines; requests = rs; cores = cores; shared = shared };
        time = 0;
        quantum = quantum;
        blocks = blocks;
      };
      texts = texts;
      last = last;
    } ≡ view_of old.machine.quantum old.machine.blocks f
set-made old quantum blocks count f table last cores texts lines rs shared q b framed table-is last-is cores-are words texts-are lines-are requests-are shared-are =
    (λ i. record {
      machine = record {
        world = record { size = MOST_REQUESTS; table = table; lines = lines; requests = rs; cores = cores; shared = shared };
        time = 0;
        quantum = q i;
        blocks = b i;
      };
      texts = texts;
      last = last;
    })
    ∙ set-is old.machine.quantum old.machine.blocks count f table last cores texts lines rs shared framed table-is last-is cores-are words texts-are lines-are
    requests-are shared-are

-- the texts that were written where they stand
pub written-back : {T : Type 0} (a d : List T) (n : ℕ) → length a ≡ n → take n (a ++ d) ≡ a
written-back a d n long = take-append-le n a d (omega (arith, long)) ∙ take_all n a (omega (arith, long))

-- what a state that is known by its form has

module _ (quantum blocks count : ℕ) (t : Tables) (x : KeptState) (framed : IsFramed quantum blocks count (view_of quantum blocks (form_of t x))) where
  -- the core of each job is whole blocks
  pub whole-cores : length (numbers_at t.lists x.jobs) ≤ JOBS → All (λ n. IsWhole (job_of t n).core) (numbers_at t.lists x.jobs)
  whole-cores few k d low =
      let ns : List ℕ = numbers_at t.lists x.jobs in
      let forms : List JobForm = map (job_of t) ns in
      let cores : List (List ℕ) = map (λ (j : JobForm). j.core) forms in
      let many : length forms ≡ length ns = length-map ns (job_of t) in
      let all : length cores ≡ length forms = length-map forms (λ (j : JobForm). j.core) in
      let long : length (padded [] cores) ≡ JOBS + 1 = padded-length [] cores (omega (arith, few, many, all)) in
      let at : get_or (padded [] cores) (suc k) [] ≡ (job_of t (get_or ns k d)).core =
      padded-in [] cores k (omega (arith, low, many, all))
      ∙ get_or-map (λ (j : JobForm). j.core) forms k no_job [] (omega (arith, low, many))
      ∙ ap (λ (j : JobForm). j.core) (get_or-map (job_of t) ns k d no_job low) in
      subst IsWhole at (framed.awake.sound.housed.store.whole (suc k) [] (omega (arith, long, low, few)))

  -- there is room for the requests
  pub few-requests : length (numbers_at t.lists x.requests) ≤ MOST_REQUESTS
  few-requests =
      let many : length (requests_in t.requests (numbers_at t.lists x.requests)) ≡ length (numbers_at t.lists x.requests) =
      length-map (numbers_at t.lists x.requests) (part_of (λ (r : Request). r) unused_request t.requests) in
      subst (λ n. n ≤ MOST_REQUESTS) many framed.awake.sound.queued.safe.few

-- a machine of these parts
abbrev pub machine_of : World → ℕ → ℕ → List (List ℕ) → List ℕ → V
machine_of w quantum blocks texts last = record {
  machine = record { world = w; time = 0; quantum = quantum; blocks = blocks };
  texts = texts;
  last = last;
}

-- a machine whose cores are as they were
pub same-cores : (m old : V) (cs : Cores) → m ≡ old → cs ≡ m.machine.world.cores
    → record m { machine = record m.machine { world = record m.machine.world { cores = cs } } } ≡ old
same-cores m old cs is same = ap (λ (x : Cores). record m { machine = record m.machine { world = record m.machine.world { cores = x } } }) same ∙ is
