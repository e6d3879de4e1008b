use Rattle.std.proofs.lemmas.Result.{on_ok_weaker}
use Rattle.run_notes.proofs.WordLemmas.{first_of, texts_more}
use Rattle.run_notes.proofs.circle_lines.+push_jobs.Goals as goal

pub returns-in_ok-push_job-in-len1-up : goal.returns-in_ok-push_job-in-len1-up
returns-in_ok-push_job-in-len1-up t c =
    let has = c.lock_between-had.ensures in
    let waits = c.lock_between-waited.ensures in
    on_ok_weaker c.push_jobs.result
    (λ rest.
    texts_more c.args.requests.now c.args.before c.args.jobs.now c.args.after c.args.comma.now _ _ c.first_or.result
    c.lock_between-had.result c.lock_between-waited.result _ _ _ _ (first_of c.args.jobs.now c.in-len1-up.len_at_least) c.first_or.ensures
    (record { held = has.held; lock = has.lock; first = has.first; none = has.none })
    (record { held = waits.held; lock = waits.lock; first = waits.first; none = waits.none })
    c.in_ok-push_str-in-len1-up.ensures.bytes c.in_ok-push_job-in-len1-up.ensures rest)
    c.push_jobs.ensures
