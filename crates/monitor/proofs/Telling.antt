-- What a step makes known is what the first round of its job does.
use Rattle.std.proofs.Common.{◌≡◌, ◌∙◌, sym, ap, ℕ, false, List, Option, Some, None, refl}
use Rattle.std.specs.Prelude.{Result, IfOk}
use Rattle.std.proofs.lemmas.Result.{IfOk-weaker}
use Rattle.lock_queue.specs.declared.request.Request.{Request}
use Rattle.job_sched.specs.Changes.{chosen}
use Rattle.job_sched.specs.Tables.{job_at}
use Rattle.job_sched.specs.declared.job.Job.{Job}
use Rattle.uuo_calls.specs.Asked.{ReadBlock}
use Rattle.uuo_calls.specs.Performed.{World}
use Rattle.machine.specs.declared.told.Told.{Told}
use Rattle.machine.specs.Between.{next_in}
use Rattle.machine.specs.Machine.{S, awake}
use Rattle.machine.specs.Stretches.{Stretch}
use Rattle.machine.specs.Told.{before_by, before_in, before_of, before_on, before_stretch, read_by, read_in, read_of, read_on, read_stretch, told_by, told_in, told_of, told_of_stretch, told_on, world_of}
use Rattle.monitor_laws.proofs.Stretching.{jobs-of_chosen, stretch-one}

told-one : (w : World) (quantum n : ℕ) (o : Option Job) → told_on w quantum n 1 false o ≡ told_by w n o
told-one w quantum n None = refl
told-one w quantum n (Some j) =
    ap (λ (x : Stretch). Some (told_of_stretch w quantum n false x)) (stretch-one n (awake j) w.cores w.requests)

before-one : (w : World) (quantum n : ℕ) (o : Option Job) → before_on w quantum n 1 false o ≡ before_by w n o
before-one w quantum n None = refl
before-one w quantum n (Some j) =
    ap (λ (x : Stretch). before_stretch w quantum n false x) (stretch-one n (awake j) w.cores w.requests)

read-one : (w : World) (quantum n : ℕ) (o : Option Job) → read_on w quantum n 1 false o ≡ read_by w n o
read-one w quantum n None = refl
read-one w quantum n (Some j) =
    ap (λ (x : Stretch). read_stretch w quantum n false x) (stretch-one n (awake j) w.cores w.requests)

pub told-first : (s : S) (n k : ℕ) (t : Option Told) → next_in s ≡ Some n → k ≡ 1
    → t ≡ told_on (world_of s n) s.quantum n k false (job_at (chosen s.world.table n s.quantum).jobs n)
    → t ≡ told_in s
told-first s n k t next one is =
    is
    ∙ ap (λ (i : ℕ). told_on (world_of s n) s.quantum n i false (job_at (chosen s.world.table n s.quantum).jobs n)) one
    ∙ ap (λ (l : List (Option Job)). told_on (world_of s n) s.quantum n 1 false (job_at l n)) (jobs-of_chosen s.world.table n s.quantum)
    ∙ told-one (world_of s n) s.quantum n (job_at s.world.table.jobs n)
    ∙ sym (ap (λ (o : Option ℕ). told_of s o) next)

pub before-first : (s : S) (n k : ℕ) (l : List Request) → next_in s ≡ Some n → k ≡ 1
    → l ≡ before_on (world_of s n) s.quantum n k false (job_at (chosen s.world.table n s.quantum).jobs n)
    → l ≡ before_in s
before-first s n k l next one is =
    is
    ∙ ap (λ (i : ℕ). before_on (world_of s n) s.quantum n i false (job_at (chosen s.world.table n s.quantum).jobs n)) one
    ∙ ap (λ (m : List (Option Job)). before_on (world_of s n) s.quantum n 1 false (job_at m n)) (jobs-of_chosen s.world.table n s.quantum)
    ∙ before-one (world_of s n) s.quantum n (job_at s.world.table.jobs n)
    ∙ sym (ap (λ (o : Option ℕ). before_of s o) next)

pub read-first : (s : S) (n k : ℕ) (b : ReadBlock) → next_in s ≡ Some n → k ≡ 1
    → b ≡ read_on (world_of s n) s.quantum n k false (job_at (chosen s.world.table n s.quantum).jobs n)
    → b ≡ read_in s
read-first s n k b next one is =
    is
    ∙ ap (λ (i : ℕ). read_on (world_of s n) s.quantum n i false (job_at (chosen s.world.table n s.quantum).jobs n)) one
    ∙ ap (λ (m : List (Option Job)). read_on (world_of s n) s.quantum n 1 false (job_at m n)) (jobs-of_chosen s.world.table n s.quantum)
    ∙ read-one (world_of s n) s.quantum n (job_at s.world.table.jobs n)
    ∙ sym (ap (λ (o : Option ℕ). read_of s o) next)

-- what holds of a value that is there, of an equal one
pub kept-so : {X E A : Type 0} (r : Result X E) (f : X → A) (l m : A) → l ≡ m → IfOk r (λ v. f v ≡ l) → IfOk r (λ v. f v ≡ m)
kept-so r f l m e h = IfOk-weaker r (λ v. f v ≡ l) (λ v. f v ≡ m) (λ v found. found ∙ e) h
