-- States of a machine, and their forms (this project's profile).
use Rattle.std.specs.Prelude.{ℕ, zero, suc, ◌≡◌, ◌<◌, ◌+◌, ◌-◌, ◌⊎◌, true, List, [], ◌∷◌, ◌++◌, map, replicate, length, None, slice_index_or}
use Rattle.word36.specs.declared.sizes.TheConstants.{DATA_WORDS, JOBS, MOST_REQUESTS}
use Rattle.core_store.specs.Cores.{core_of}
use Rattle.lock_queue.specs.WellFormed.{are_well_formed}
use Rattle.tty_lines.specs.Rings.{all_clear}
use Rattle.job_sched.specs.Tables.{job_at}
use Rattle.job_order_laws.specs.Turned.{V}
use Rattle.job_moves.specs.Moves.{HasJobs, IsAwake}
use Rattle.job_orders.specs.Forms.{JobForm, StateForm}

-- a list with an element for each number, z but for the numbers from 1 on that have one of the list
abbrev pub padded : {T : Type 0} → T → List T → List T
padded z xs = z ∷ (xs ++ replicate (JOBS - length xs) z)

-- the state of a machine of this many blocks, that has these jobs and no characters at its lines
abbrev pub view_of : ℕ → ℕ → StateForm → V
view_of quantum blocks f = record {
  machine = record {
    world = record {
      size = MOST_REQUESTS;
      table = record { jobs = padded None (map (λ j. j.slot) f.jobs); current = 0; left = 0 };
      lines = all_clear;
      requests = f.requests;
      cores = record { cores = padded [] (map (λ j. j.core) f.jobs); free = f.free };
      shared = f.shared;
    };
    time = 0;
    quantum = quantum;
    blocks = blocks;
  };
  texts = padded [] (map (λ j. j.text) f.jobs);
  last = padded 0 (map (λ j. j.last) f.jobs);
}

-- job n of a state
abbrev pub job_in : V → ℕ → JobForm
job_in v n = record {
  slot = job_at v.machine.world.table.jobs n;
  last = slice_index_or v.last n 0;
  core = core_of v.machine.world.cores n;
  text = slice_index_or v.texts n [];
}

-- jobs 1 to n
unfoldable pub jobs_in : V → ℕ → List JobForm
jobs_in v zero = []
jobs_in v (suc n) = jobs_in v n ++ job_in v (suc n) ∷ []

-- the form of a state with jobs 1 to `count`
abbrev pub form_in : ℕ → V → StateForm
form_in count v = record {
  jobs = jobs_in v count;
  requests = v.machine.world.requests;
  shared = v.machine.world.shared;
  free = v.machine.world.cores.free;
}

-- not one of the numbers 1 to `count`
abbrev pub IsOutside : ℕ → ℕ → Type 0
IsOutside count m = (m ≡ 0) ⊎ (count < m)

-- a state that is known by its form: nobody sleeps, there are no jobs but 1 to `count`, no characters at the lines, and the requests are
-- well-formed
pub record IsFramed (quantum blocks count : ℕ) (v : V) : Type 0 where
  pub awake : IsAwake v
  pub jobs : HasJobs count v
  pub size : v.machine.world.size ≡ MOST_REQUESTS
  pub quantum_is : v.machine.quantum ≡ quantum
  pub blocks_are : v.machine.blocks ≡ blocks
  pub lines : v.machine.world.lines ≡ all_clear
  pub well : are_well_formed v.machine.world.requests ≡ true
  pub shared : length v.machine.world.shared ≡ DATA_WORDS
  pub texts : length v.texts ≡ JOBS + 1
  pub no_text : (m : ℕ) → IsOutside count m → slice_index_or v.texts m [] ≡ []
  pub last : length v.last ≡ JOBS + 1
  pub no_last : (m : ℕ) → IsOutside count m → slice_index_or v.last m 0 ≡ 0
