-- A job begins to wait by a step of its own alone.
use Rattle.std.proofs.Common.{◌≡◌, ◌∙◌, sym, ap, subst, ℕ, not, true, false, List, [], ◌∷◌, ◌++◌, Option, Some, None, refl, inl, inr}
use Rattle.std.proofs.lemmas.Bool.{both_ways, eq-eqb}
use Rattle.lock_queue.specs.declared.key.Key.{Key}
use Rattle.lock_queue.specs.declared.request.EnqueueKind.{EnqueueKind}
use Rattle.lock_queue.specs.declared.request.Request.{Request}
use Rattle.lock_queue.specs.declared.want.Want.{Want}
use Rattle.lock_queue.specs.Jobs.{is_blocking, is_one, released}
use Rattle.lock_queue.specs.Queue.{granted_behind, names}
use Rattle.lock_queue.proofs.Fitting.{names-Has}
use Rattle.lock_queue.proofs.Lists.{Has, filter-Has}
use Rattle.lock_laws.specs.Owning.{owns}
use Rattle.lock_laws.proofs.Positions.{Has-middle}
use Rattle.job_sched.specs.Tables.{job_at}
use Rattle.job_sched.specs.declared.job.Job.{Job}
use Rattle.machine.specs.declared.event.Answer.TheVariants.{Ran}
use Rattle.machine.specs.declared.event.Event.{Event}
use Rattle.machine.specs.declared.event.Event.TheVariants.{Step, Tick, Typed, Take, Login, Start, Continue, Kill, Restart}
use Rattle.machine.specs.Alone.{is_ran}
use Rattle.machine.specs.Machine.{S, happens, killed}
use Rattle.machine.specs.Owners.{GivesUp}
use Rattle.machine.specs.Safe.{Safe}
use Rattle.monitor_laws.proofs.Owning.{keeps_owners}
use Rattle.progress_laws.specs.Arrivals.{LeaveOrComeOver}
use Rattle.progress_laws.specs.Fronts.{IsSameButSharing, Remains}
use Rattle.progress_laws.specs.Thinning.{Thinned}
use Rattle.progress_laws.proofs.Arrivals.{in_front_over}
use Rattle.progress_laws.proofs.Blocked.{BlockedFor, blocked-without, IsPlainList, OneWant, one-want}
use Rattle.progress_laws.proofs.Holders.{owns-by}
use Rattle.progress_laws.proofs.Places.{false-of}
use Rattle.progress_laws.proofs.Thinning.{Came, thin-place, thin-one}

no-place : (a b : List Request) (x : Request) → [] ≡ a ++ x ∷ b → ⊥
no-place [] b x e = cc
no-place (y ∷ a) b x e = cc

-- a list with one more behind it
data Behind (xs a : List Request) (x : Request) (y : Request) : Type 0 where
  it : x ≡ y → Behind xs a x y
  among : (m : List Request) → xs ≡ a ++ x ∷ m → Behind xs a x y

behind-one : (xs a b : List Request) (x y : Request) → xs ++ y ∷ [] ≡ a ++ x ∷ b → Behind xs a x y
behind-one [] [] b x y e = it (cc)
behind-one [] (u ∷ a) b x y e = let none : [] ≡ a ++ x ∷ b = cc in absurd (no-place a b x none)
behind-one (z ∷ xs) [] b x y e = let same : z ≡ x = cc in among xs (ap (λ (r : Request). r ∷ xs) same)
behind-one (z ∷ xs) (u ∷ a) b x y e =
    let same : z ≡ u = cc in
    let rest : xs ++ y ∷ [] ≡ a ++ x ∷ b = cc in
    elim (behind-one xs a b x y rest) [
      | it k ↦ it k
      | among m k ↦ among m (ap (λ l. z ∷ l) k ∙ ap (λ (r : Request). r ∷ (a ++ x ∷ m)) same)
    ]

-- what a job had, that waits for it now, it has not given up
kill-not : (s : S) (n job : ℕ) (key : Key) (o : Option Job) → Safe s → n ≡ job → owns s.world.requests job key ≡ true
    → BlockedFor job key (killed s n o).state.world.requests → ⊥
kill-not s n job key None safe same owning b = both_ways _ (blocked-without job key s.world.requests safe.queued.safe b) owning
kill-not s n job key (Some j) safe same owning b =
    let has : Has (released s.world.requests n) b.request = subst (λ l. Has l b.request) (sym b.is) (Has-middle b.before b.later b.request) in
    let other = (filter-Has (λ (r : Request). not (is_one n r.job)) s.world.requests b.request has).0 in
    both_ways _ (ap not (eq-eqb b.request.job n (b.by ∙ sym same))) other

given-not : (s : S) (e : Event) (job : ℕ) (key : Key) → Safe s → is_ran job (happens s e).answer ≡ false → owns s.world.requests job key ≡ true
    → BlockedFor job key (happens s e).state.world.requests → GivesUp s e job → ⊥
given-not s Step job key safe other owning b g = both_ways _ other (ap (is_ran job) g.0 ∙ eq-eqb job job refl)
given-not s Tick job key safe other owning b g = g
given-not s (Typed line c) job key safe other owning b g = g
given-not s (Take line n) job key safe other owning b g = g
given-not s (Login line image) job key safe other owning b g = g
given-not s (Start n) job key safe other owning b g = g
given-not s (Continue n) job key safe other owning b g = g
given-not s (Kill n) job key safe other owning b g = kill-not s n job key (job_at s.world.table.jobs n) safe g owning b
given-not s Restart job key safe other owning b g = no-place b.before b.later b.request b.is

-- the same wait, before an event that was no step of the job
was-blocked : (s : S) (e : Event) (job : ℕ) (key : Key) → Safe s → Safe (happens s e).state → IsPlainList s.world.requests
    → is_ran job (happens s e).answer ≡ false → LeaveOrComeOver IsSameButSharing s e
    → BlockedFor job key (happens s e).state.world.requests → BlockedFor job key s.world.requests
was-blocked s e job key safe after plain other (inl t) b =
    let c : Came (Remains IsSameButSharing) s.world.requests b.request = thin-place (Remains IsSameButSharing) t b.before b.later b.request b.is in
    let r : Request = c.thing in
    let one : OneWant r = one-want s.world.requests r plain (subst (λ l. Has l r) (sym c.is) (Has-middle c.front c.back r)) in
    let left : Thinned IsSameButSharing (one.want ∷ []) (b.want ∷ []) =
    subst (λ l. Thinned IsSameButSharing l (b.want ∷ [])) one.is (subst (λ l. Thinned IsSameButSharing r.wants.items l) b.wants c.becomes.wants) in
    let key_is : one.want.key ≡ key = ap (λ (u : Want). u.key) (sym (thin-one IsSameButSharing left)) ∙ b.key_is in
    let by : r.job ≡ job = sym c.becomes.job ∙ b.by in
    record {
      before = c.front;
      request = r;
      later = c.back;
      want = one.want;
      is = c.is;
      by = by;
      blocking = subst (λ (k : EnqueueKind). is_blocking k ≡ true) c.becomes.kind b.blocking;
      late = false-of (granted_behind c.front r) (λ granted.
          let named : names r.wants.items key ≡ true = names-Has r.wants.items key one.want (subst (λ l. Has l one.want) (sym one.is) (inl refl)) key_is in
          let had : owns s.world.requests job key ≡ true = owns-by s.world.requests c.front c.back r job key c.is by named granted in
          let lacks : owns (happens s e).state.world.requests job key ≡ false =
          blocked-without job key (happens s e).state.world.requests after.queued.safe b in
          given-not s e job key safe other had b (keeps_owners s e job key had lacks));
      wants = one.is;
      key_is = key_is;
    }
was-blocked s e job key safe after plain other (inr h) b =
    elim (behind-one s.world.requests b.before b.later b.request h.0 (sym h.2 ∙ b.is)) [
      | it same ↦
          let ran : (happens s e).answer ≡ Ran job = h.1 ∙ ap Ran (ap (λ (r : Request). r.job) (sym same) ∙ b.by) in
          absurd (both_ways _ other (ap (is_ran job) ran ∙ eq-eqb job job refl))
      | among m is ↦ record {
        before = b.before;
        request = b.request;
        later = m;
        want = b.want;
        is = is;
        by = b.by;
        blocking = b.blocking;
        late = b.late;
        wants = b.wants;
        key_is = b.key_is;
      }
    ]

pub still-blocked : (s : S) (e : Event) (job : ℕ) (key : Key) → Safe s → Safe (happens s e).state → IsPlainList s.world.requests
    → is_ran job (happens s e).answer ≡ false
    → BlockedFor job key (happens s e).state.world.requests → BlockedFor job key s.world.requests
still-blocked s e job key safe after plain other b = was-blocked s e job key safe after plain other (in_front_over s e).any b
