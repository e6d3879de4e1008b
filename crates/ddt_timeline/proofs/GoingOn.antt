-- Who goes on: who can run is next, and who is next goes on.
use Rattle.std.specs.Prelude.{is_none, is_some}
use Rattle.std.proofs.Common.{◌≡◌, ◌<◌, ◌≤◌, ◌∙◌, ◌⊎◌, sym, ap, subst, ℕ, zero, suc, ◌+◌, ◌-◌, ◌&&◌, not, cond, Bool, true, false, List, Option}
use Rattle.std.proofs.Common.{Some, None, inl, inr, refl, arith}
use Rattle.std.proofs.lemmas.Bool.{cases_lt, false≢true}
use Rattle.word36.specs.declared.sizes.TheConstants.{JOBS}
use Rattle.lock_queue.proofs.Lists.{list_any-found}
use Rattle.lock_queue.specs.Waits.{jobs}
use Rattle.lock_queue.specs.declared.request.Request.{Request}
use Rattle.tty_lines.specs.Rings.{Rings}
use Rattle.job_sched.proofs.Turns.{idle-none, next-ready}
use Rattle.job_sched.specs.Ready.{holds, is_ready, is_ready_job}
use Rattle.job_sched.specs.Tables.{job_at}
use Rattle.job_sched.specs.declared.job.Job.{Job}
use Rattle.job_sched.specs.declared.job.Wait.{Wait}
use Rattle.job_sched.specs.declared.job.Wait.TheVariants.{None as Nothing, Sleep, Char, Line, Room, Queue}
use Rattle.machine.specs.Between.{next_in}
use Rattle.machine.specs.Machine.{S, after}
use Rattle.machine.specs.Rounds.{rounds}
use Rattle.machine.specs.Views.{job_view, view_of}
use Rattle.ddt_timeline.specs.Runs.{SomeGoesOn, can_run, ends_by_ticks, goes_on, goes_on_in, is_no_wait, some_go_on}
use Rattle.ddt_timeline.proofs.AtOnce.{AllBetween, rounds-behind}

ready-wait : (a h : Bool) (x : Wait) → (a && not h) ≡ true → (a && ends_by_ticks (cond h x Nothing)) ≡ true
ready-wait true true x e = absurd (false≢true e)
ready-wait true false x e = refl
ready-wait false h x e = absurd (false≢true e)

ready-view : (s : S) (n : ℕ) (o : Option Job) → is_ready_job s.world.lines s.world.requests n o ≡ true → goes_on (view_of s.world n o) ≡ true
ready-view s n (Some j) e = ready-wait (is_none j.stop) (holds s.world.lines s.world.requests n j.line j.wait) j.wait e
ready-view s n None e = absurd (false≢true e)

held-wait : (a h : Bool) (x : Wait) → is_no_wait x ≡ false → (a && is_no_wait (cond h x Nothing)) ≡ true → (a && not h) ≡ true
held-wait true true x some e = absurd (false≢true (sym some ∙ e))
held-wait true false x some e = refl
held-wait false h x some e = absurd (false≢true e)

free-wait : (lines : List Rings) (requests : List Request) (n line : ℕ) (a : Bool) (x : Wait)
    → (a && is_no_wait (cond (holds lines requests n line x) x Nothing)) ≡ true → (a && not (holds lines requests n line x)) ≡ true
free-wait lines requests n line a Nothing e = e
free-wait lines requests n line a (Sleep ticks) e = held-wait a (holds lines requests n line (Sleep ticks)) (Sleep ticks) refl e
free-wait lines requests n line a Char e = held-wait a (holds lines requests n line Char) Char refl e
free-wait lines requests n line a Line e = held-wait a (holds lines requests n line Line) Line refl e
free-wait lines requests n line a (Room places) e = held-wait a (holds lines requests n line (Room places)) (Room places) refl e
free-wait lines requests n line a (Queue limit ac) e = held-wait a (holds lines requests n line (Queue limit ac)) (Queue limit ac) refl e

view-ready : (s : S) (n : ℕ) (o : Option Job) → can_run (view_of s.world n o) ≡ true → is_ready_job s.world.lines s.world.requests n o ≡ true
view-ready s n (Some j) e = free-wait s.world.lines s.world.requests n j.line (is_none j.stop) j.wait e
view-ready s n None e = absurd (false≢true e)

some-next : (o : Option ℕ) (b : Bool) → b ≡ true → (o ≡ None → b ≡ false) → is_some o ≡ true
some-next (Some n) b holds none = refl
some-next None b holds none = absurd (false≢true (sym (none refl) ∙ holds))

-- where a job can run, one is next
pub some_is_next : (s : S) (n : ℕ) → 1 ≤ n → n ≤ JOBS → can_run (job_view s.world n) ≡ true → is_some (next_in s) ≡ true
some_is_next s n some most runs =
    some-next (next_in s) (is_ready s.world.table.jobs s.world.lines s.world.requests n)
    (view-ready s n (job_at s.world.table.jobs n) runs)
    (λ (idle : next_in s ≡ None). idle-none s.world.table s.world.lines s.world.requests idle n some most)

by-next : (s : S) (o : Option ℕ) → is_some o ≡ true → next_in s ≡ o → SomeGoesOn s
by-next s (Some n) some is =
    (n, ready-view s n (job_at s.world.table.jobs n) (next-ready s.world.table s.world.lines s.world.requests n is))
by-next s None some is = absurd (false≢true some)

-- where a job is next, it goes on
pub next_goes_on : (s : S) → is_some (next_in s) ≡ true → SomeGoesOn s
next_goes_on s some = by-next s (next_in s) some refl

-- where one of the jobs goes on, a job does
pub found_goes_on : (s : S) → some_go_on s ≡ true → SomeGoesOn s
found_goes_on s some = let found = list_any-found (goes_on_in s) jobs some in (found.0, found.2)

-- a job goes on between rounds that are made at once
pub going_behind : (s m : S) (before made : ℕ) (job : Option ℕ) (addresses : List ℕ) → m ≡ after (rounds before true) s → next_in m ≡ job
    → (2 ≤ made → is_some (next_in m) ≡ true)
    → SomeGoesOn m
    → AllBetween m job addresses made
    → ((k : ℕ) → k < before → SomeGoesOn (after (rounds k true) s))
    → (k : ℕ) → k < before + made → SomeGoesOn (after (rounds k true) s)
going_behind s m before made job addresses there next many goes all earlier k less = by_order (cases_lt k before)
  where
    at : (i : ℕ) → before + i ≡ k → SomeGoesOn (after (rounds i true) m) → SomeGoesOn (after (rounds k true) s)
    at i e g =
        subst (λ (x : S). SomeGoesOn x)
        (ap (λ (x : S). after (rounds i true) x) there ∙ sym (rounds-behind before i s) ∙ ap (λ (n : ℕ). after (rounds n true) s) e) g

    inside : (i : ℕ) → before + i ≡ k → SomeGoesOn (after (rounds i true) m)
    inside zero e = goes
    inside (suc i) e =
        let least : 1 ≤ suc i = omega arith in
        let inner : suc i < made = omega (arith, e, less) in
        let two : 2 ≤ made = omega (arith, least, inner) in
        next_goes_on (after (rounds (suc i) true) m)
        (ap (λ (o : Option ℕ). is_some o) ((all (suc i) least inner).next ∙ sym next) ∙ many two)

    by_order : (k < before) ⊎ (before ≤ k) → SomeGoesOn (after (rounds k true) s)
    by_order (inl early) = earlier k early
    by_order (inr late) =
        let e : before + (k - before) ≡ k = omega (arith, late) in
        at (k - before) e (inside (k - before) e)
