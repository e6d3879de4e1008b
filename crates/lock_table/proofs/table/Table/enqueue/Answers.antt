use Rattle.std.proofs.Common.{◌≡◌, ◌∙◌, sym, ap, subst, false, [], None, length, arith, lit<}
use Rattle.std.proofs.lemmas.Grind.{common_steps}
use Rattle.std.specs.List.{list_all}
use Rattle.std.proofs.lemmas.Bool.{both_ways}
use Rattle.lock_queue.specs.declared.call.LockReply.TheVariants.{Refused}
use Rattle.lock_queue.specs.declared.refusal.Refusal.TheVariants.{NotGranted}
use Rattle.lock_queue.specs.declared.request.EnqueueKind.{EnqueueKind}
use Rattle.lock_queue.specs.Enqueues.{enqueue, enqueue_fault, enqueue_refusal, request_of}
use Rattle.lock_queue.specs.Jobs.{as_notified, is_interrupt}
use Rattle.lock_queue.specs.Outcomes.{Outcome, first_refusal, outcome}
use Rattle.lock_queue.specs.Queue.{fits}
use Rattle.lock_queue.proofs.Granted.{granted_last}
use Rattle.lock_queue.proofs.WellKept.{right_job}
use Rattle.key_queues.specs.declared.entry.Entry.{Entry}
use Rattle.lock_table.specs.Arrivals.{AreFound}
use Rattle.lock_table.specs.Whole.{requests_in}
use Rattle.lock_table.proofs.Admitting.{admits_from, arrives_granted, requests_after, turned_away}
use Rattle.lock_table.proofs.table.Table.enqueue.Given.{Over}
use Rattle.lock_table.proofs.table.Table.enqueue.Goals as goal

pub returns-in-true-Interrupt-clause-whole : goal.returns-in-true-Interrupt-clause-whole
returns-in-true-Interrupt-clause-whole g c = c.set_notified.ensures.whole g.row.REQS c.arrive-p.new.self.keys c.arrive-p.ensures.whole

pub returns-in-true-Interrupt-clause-requests : goal.returns-in-true-Interrupt-clause-requests
returns-in-true-Interrupt-clause-requests g c =
    let rs = requests_in c.args.self.now.store in
    let job = c.args.job in
    let asking = c.args.asking.now in
    let wants = c.args.wants.now in
    let came = c.arrive-p.ensures in
    let passed = ap (enqueue_refusal g.row.REQS rs job asking) (sym c.as_slice-asked.ensures.value) ∙ sym c.refusal_of_enqueue.ensures.refusal ∙ c.in_default.is in
    let yes = sym came.granted ∙ ap (λ (f : Entry). f.granted) (sym c.get.ensures.value) ∙ c.in-true-Interrupt.is-0 in
    requests_after c.args.self.now.store c.set_notified.new.store c.arrive-p.result job (request_of job asking (is_interrupt asking.kind) wants)
    came.out (c.set_notified.ensures.order ∙ came.order)
    (c.set_notified.ensures.request ∙ ap as_notified came.request
    ∙ ap (λ (k : EnqueueKind). request_of job asking (is_interrupt k) wants) (sym c.in-true-Interrupt.is-1))
    (λ x ne. c.set_notified.ensures.others x ne ∙ came.others x ne)
    ∙ sym (ap (λ (o : Outcome). o.requests) (arrives_granted g.row.REQS rs job asking wants passed yes))

nothing_comes : (g : Over) (c : goal.Then-is_turned_away g)
    → enqueue g.row.REQS (requests_in c.args.self.now.store) c.args.job c.args.asking.now c.args.wants.now
    ≡ outcome (requests_in c.args.self.now.store) (Refused NotGranted)
nothing_comes g c =
    let rs = requests_in c.args.self.now.store in
    let seen = sym c.as_slice-asked.ensures.value in
    let away = c.is_turned_away.ensures.away c.if-is_turned_away.true in
    turned_away g.row.REQS rs c.args.job c.args.asking.now c.args.wants.now
    (ap (enqueue_refusal g.row.REQS rs c.args.job c.args.asking.now) seen ∙ sym c.refusal_of_enqueue.ensures.refusal ∙ c.in_default.is) away.0
    (ap (list_all (fits rs)) seen ∙ away.1)

pub is_turned_away-requires : goal.is_turned_away-requires
is_turned_away-requires g c =
    let s = c.args.self.now.store in
    let locks = c.args.self.now.keys in
    let job = c.args.job in
    let asked = c.as_slice-asked.result.now in
    let passed = sym c.refusal_of_enqueue.ensures.refusal ∙ c.in_default.is in
    let fault : first_refusal (enqueue_fault (requests_in s) job) [] asked ≡ None = grind (arith, passed) in
    let come = c.refusal_of_enqueue.ensures in
    let seen = c.as_slice-found.ensures.value in
    let found = subst (AreFound 0 locks asked) (sym seen) (come.found c.in_default.is) in
    let admits = admits_from g.row.REQS s locks job asked c.requires.whole (right_job job c.requires.job) fault in
    (lit< tt, (c.requires.whole.table, (ap length seen ∙ come.long c.in_default.is, (found, admits))))

pub returns-then-is_turned_away-clause-requests : goal.returns-then-is_turned_away-clause-requests
returns-then-is_turned_away-clause-requests g c = ap (λ (o : Outcome). o.requests) (sym (nothing_comes g c))

pub returns-then-is_turned_away-clause-reply : goal.returns-then-is_turned_away-clause-reply
returns-then-is_turned_away-clause-reply g c = ap (λ (o : Outcome). o.reply) (sym (nothing_comes g c))

pub returns-in-false-AtOnce-clause-requests : goal.returns-in-false-AtOnce-clause-requests
returns-in-false-AtOnce-clause-requests g c =
    let rs = requests_in c.args.self.now.store in
    let wants = c.args.wants.now in
    let wait = sym c.arrive-p.ensures.granted ∙ ap (λ (f : Entry). f.granted) (sym c.get.ensures.value) ∙ c.in-false-AtOnce.is-0 in
    let fit = ap (list_all (fits rs)) (sym c.as_slice-asked.ensures.value) ∙ c.is_turned_away.ensures.stays c.if-is_turned_away.false c.in-false-AtOnce.is-1 in
    absurd (both_ways _ (sym (granted_last rs (request_of c.args.job c.args.asking.now false wants)) ∙ wait) fit)

pub arrive-p-requires : goal.arrive-p-requires
arrive-p-requires g c = grind (arith, common_steps)

pub get-requires : goal.get-requires
get-requires g c = grind (arith, common_steps)

pub set_notified-requires : goal.set_notified-requires
set_notified-requires g c = grind (arith, common_steps)

pub refusal_of_enqueue-requires : goal.refusal_of_enqueue-requires
refusal_of_enqueue-requires g c = grind arith
