-- A state, without the machine around it.
use Rattle.std.specs.Prelude.{ℕ, List, Option}
use Rattle.lock_queue.specs.declared.request.Request.{Request}
use Rattle.job_sched.specs.declared.job.Job.{Job}

-- a job, if it is there, the address of its last turn, its core, and what it has put out
pub record JobForm : Type 0 where
  pub slot : Option Job
  pub last : ℕ
  pub core : List ℕ
  pub text : List ℕ

-- jobs 1, 2 and so on, the requests in order of arrival, the shared words, and how many blocks of core are free
pub record StateForm : Type 0 where
  pub jobs : List JobForm
  pub requests : List Request
  pub shared : List ℕ
  pub free : ℕ
