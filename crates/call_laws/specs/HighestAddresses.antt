-- The word at address 44 octal, .JBREL of the TOPS-10 Monitor Calls Manual.
use Rattle.std.specs.Prelude.{ℕ, ◌≡◌, ◌+◌, ◌-◌, ◌*◌, ◌/◌, ◌<◌, ◌≤◌, List, length, Some}
use Rattle.core_store.specs.Cores.{blocks_of}
use Rattle.job_sched.specs.Tables.{job_at}
use Rattle.job_sched.specs.declared.job.Job.{Job}
use Rattle.uuo_calls.specs.CallState.{ac_of}
use Rattle.uuo_calls.specs.CoreRow.{blocks_asked}
use Rattle.uuo_calls.specs.Laws.{service_in}
use Rattle.uuo_calls.specs.Performed.{World, performed}
use Rattle.uuo_calls.specs.declared.call.MonitorCall.{MonitorCall}
use Rattle.uuo_calls.specs.declared.service.Service.TheVariants.{Core}
use Rattle.machine.specs.Machine.{S, logged_in}
use Rattle.machine.specs.Safe.{Safe}
use Rattle.machine.specs.Images.{image_top}
use Rattle.machine.specs.Views.{word_in}
use Rattle.machine.specs.declared.event.Answer.TheVariants.{JobNumber}

-- job n has so many blocks of core, and its address 44 octal has the highest legal address: 1024 a block, less one
pub record HasItsSize (w : World) (n blocks : ℕ) : Type 0 where
  pub has : blocks_of w.cores n ≡ blocks
  pub tells : word_in w n 0o44 ≡ Some (1024 * blocks - 1)

-- so it is after a CORE that is granted: AC asks for some blocks, and these are free or the job's own
abbrev pub CoreTellsItsSize : Type 0
CoreTellsItsSize =
    (w : World) (time n blocks : ℕ) (c : MonitorCall) (j : Job)
    → job_at w.table.jobs n ≡ Some j → n < length w.table.jobs → n < length w.cores.cores → service_in c ≡ Core
    → blocks_asked (ac_of j c.ac) ≡ Some blocks → blocks ≤ w.cores.free + blocks_of w.cores n
    → HasItsSize (performed w time n c).world n blocks

-- and after a login that is granted: the job has the blocks that hold the highest address of the image, which has these words and
-- this start
abbrev pub LoginTellsItsSize : Type 0
LoginTellsItsSize =
    (s : S) (line n top start : ℕ) (words : List (ℕ × ℕ))
    → Safe s → image_top words start ≡ Some top → (logged_in s line words start).answer ≡ JobNumber n
    → HasItsSize (logged_in s line words start).state.world n (top / 1024 + 1)
