-- Machines on which jobs begin: events keep their size, and no job sleeps.
use Rattle.std.proofs.Common.{◌≡◌, ℕ, Bool, true, false, cond, refl, sym, ap, subst, ◌*◌, ◌≤◌, ◌∙◌, map, replicate, ◌+◌, List, [], Option, Some, None, Result, Ok, Err, nat_le}
use Rattle.word36.specs.declared.sizes.TheConstants.{BLOCK_WORDS, JOBS, LINES, MOST_BLOCKS}
use Rattle.job_sched.specs.declared.job_error.JobError.{JobError}
use Rattle.uuo_calls.specs.Performed.{World}
use Rattle.machine.specs.Machine.{Made, S, admitted, examined, logged_in, made_if, started}
use Rattle.machine.specs.Safe.{Safe}
use Rattle.job_order_laws.specs.Turned.{pc_in}
use Rattle.job_moves.specs.Moves.{IsAwake, begun}
use Rattle.job_moves.proofs.Resting.{erased_is_awake}

either-keeps : (b : Bool) (x y : Made) (n : ℕ) → x.state.blocks ≡ n → y.state.blocks ≡ n → (cond b x y).state.blocks ≡ n
either-keeps true x y n p q = p
either-keeps false x y n p q = q

admitted-keeps : (s : S) (line : ℕ) (words : List (ℕ × ℕ)) (start blocks : ℕ) (o : Option ℕ)
    → (admitted s line words start blocks o).state.blocks ≡ s.blocks
admitted-keeps s line words start blocks (Some n) = either-keeps (nat_le blocks s.world.cores.free) _ _ s.blocks refl refl
admitted-keeps s line words start blocks None = refl

examined-keeps : (s : S) (line : ℕ) (words : List (ℕ × ℕ)) (start : ℕ) (o : Option ℕ)
    → (examined s line words start o).state.blocks ≡ s.blocks
examined-keeps s line words start (Some top) = admitted-keeps s line words start _ _
examined-keeps s line words start None = refl

pub login_keeps : (s : S) (line : ℕ) (words : List (ℕ × ℕ)) (start : ℕ) → (logged_in s line words start).state.blocks ≡ s.blocks
login_keeps s line words start =
    either-keeps (nat_le LINES line) _ _ s.blocks refl
    (either-keeps _ _ _ s.blocks refl (examined-keeps s line words start _))

made-keeps : (s : S) (w : World) (r : Result (Unit {0}) JobError) → (made_if s w r).state.blocks ≡ s.blocks
made-keeps s w (Ok x) = refl
made-keeps s w (Err e) = refl

pub start_keeps : (s : S) (n : ℕ) → (started s n).state.blocks ≡ s.blocks
start_keeps s n = made-keeps s _ _

-- no job sleeps on the machine whose world is that of a safe one
pub awake_start : (s : S) (blocks : ℕ) → Safe s → blocks ≡ s.blocks
    → IsAwake (begun (record { world = s.world; time = 0; quantum = 1; blocks = blocks }))
awake_start s blocks h e =
    erased_is_awake
    (record {
      machine = record { world = s.world; time = 0; quantum = 1; blocks = blocks };
      texts = replicate (JOBS + 1) [];
      last = map pc_in s.world.table.jobs;
    })
    (record {
      housed = h.housed;
      queued = h.queued;
      apart = h.apart;
      total = h.total ∙ ap (λ b. b * BLOCK_WORDS) (sym e);
      most = subst (λ b. b ≤ MOST_BLOCKS) (sym e) h.most;
      rings = h.rings;
      numbers = h.numbers;
      ranges = h.ranges;
    })
