-- Which jobs are reported in a circle.
use Rattle.std.proofs.Common.{◌≡◌, ◌≤◌, ◌<◌, ◌+◌, sym, subst, ℕ, zero, suc, Bool, true, false, not, ◌||◌, ◌==◌, nat_eq, nat_le, List, [], ◌∷◌, refl, arith}
use Rattle.std.specs.List.{list_all, list_any}
use Rattle.std.proofs.lemmas.Bool.{and_parts, both_ways, eqb-true, eqb-false, false_from_ne_true, leb-true}
use Rattle.word36.specs.declared.sizes.TheConstants.{JOBS}
use Rattle.lock_queue.specs.declared.request.Request.{Request}
use Rattle.lock_queue.specs.Jobs.{is_blocked, is_in_the_way, is_kept_by, is_blocked_by, waits_for}
use Rattle.lock_queue.specs.Keys.{same_key}
use Rattle.lock_queue.specs.Queue.{all_wants, fits, requests_of, wants_at}
use Rattle.lock_queue.specs.Waits.{numbers_from, jobs, is_circle, is_in_circle}
use Rattle.lock_queue.specs.WellFormed.{is_job, is_well_formed, are_well_formed}
use Rattle.lock_queue.proofs.Lists.{Has, Has-left, filter-Has, flat_map-Has, list_all-Has, list_all-each, list_any-found, Sub-all, Sub-filter}
use Rattle.lock_queue.proofs.WellKept.{job_number}
use Rattle.lock_laws.specs.Circles.{has_one_plain_want, is_plain, CirclesAreTold, PlainJobsAreInNoCircle}
use Rattle.lock_laws.proofs.EveryChange.{safe_jobs_make_no_circle}
use Rattle.lock_laws.proofs.Positions.{some_found}
use Rattle.lock_laws.proofs.Walks.{is_among, ForJobs, circle-leads, leads-circle}

-- a job's number is among them
numbers-have : (n first count : ℕ) → first ≤ n → n < first + count → list_any (nat_eq n) (numbers_from first count) ≡ true
unfolding numbers_from
numbers-have n first zero le lt = absurd (omega (arith, le, lt))
numbers-have n first (suc count) le lt = go (nat_eq n first) refl (numbers-have n (first + 1) count)
  where
    go : (b : Bool) → nat_eq n first ≡ b
        → (first + 1 ≤ n → n < first + 1 + count → list_any (nat_eq n) (numbers_from (first + 1) count) ≡ true)
        → (b || list_any (nat_eq n) (numbers_from (first + 1) count)) ≡ true
    go true e rest = refl
    go false e rest =
        let other = eqb-false n first e in
        let above : first + 1 ≤ n = omega (arith, other) in
        rest above (omega (arith, lt))

job-among : (n : ℕ) → is_job n ≡ true → is_among n ≡ true
unfolding jobs
job-among n h =
    let p = and_parts (nat_le 1 n) (nat_le n JOBS) h in
    numbers-have n 1 JOBS (leb-true 1 n p.0) (omega (arith, leb-true n JOBS p.1))

-- only jobs with requests are waited for
for_jobs : (requests : List Request) → are_well_formed requests ≡ true → ForJobs (waits_for requests)
for_jobs requests well j m h =
    let f = some_found (is_blocked_by j m) [] requests h in
    let a : List Request = f.split.before in
    let parts = and_parts (is_blocked j a f.request) (list_any (is_kept_by m a) f.request.wants.items) f.passes in
    let kept = list_any-found (is_kept_by m a) f.request.wants.items parts.1 in
    let w = kept.0 in
    let way = and_parts (not (fits a w)) (list_any (λ v. is_in_the_way v w) (wants_at (requests_of a m) w.key)) kept.2 in
    let v = list_any-found (λ v. is_in_the_way v w) (wants_at (requests_of a m) w.key) way.1 in
    let at = filter-Has (λ u. same_key u.key w.key) (all_wants (requests_of a m)) v.0 v.1 in
    let s = flat_map-Has (λ (q : Request). q.wants.items) (requests_of a m) v.0 at.1 in
    let his = filter-Has (λ (q : Request). q.job == m) a s.0 s.1 in
    let there : Has requests s.0 = subst (λ l. Has l s.0) (sym f.split.is) (Has-left a (f.request ∷ f.split.after) s.0 his.1) in
    let job : is_job s.0.job ≡ true = job_number s.0 (list_all-Has is_well_formed requests s.0 well there) in
    job-among m (subst (λ n. is_job n ≡ true) (eqb-true s.0.job m his.0) job)

pub circles_are_told : CirclesAreTold
circles_are_told requests job well =
    (leads-circle (waits_for requests) job (for_jobs requests well), circle-leads (waits_for requests) job)

pub plain_jobs_are_in_no_circle : PlainJobsAreInNoCircle
plain_jobs_are_in_no_circle size requests safe latest plain job =
    false_from_ne_true (is_in_circle (waits_for requests) job) (λ h.
    let back = circle-leads (waits_for requests) job h in
    let circle : List ℕ = job ∷ back.0 in
    let all : list_all (is_plain requests) circle ≡ true =
    list_all-each (is_plain requests) circle (λ j k. Sub-all has_one_plain_want (Sub-filter (λ (r : Request). r.job == j) requests) plain) in
    both_ways (is_circle (waits_for requests) circle) (safe_jobs_make_no_circle size requests safe latest circle all) back.1)
