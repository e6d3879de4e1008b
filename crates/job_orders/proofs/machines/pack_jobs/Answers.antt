use Rattle.std.proofs.Common.{◌≡◌, ◌+◌, ℕ, List, [], map, refl, sym, ap, subst, ◌∙◌, arith}
use Rattle.std.specs.List.{All}
use Rattle.job_orders.specs.declared.tables.Tables.{Tables}
use Rattle.job_orders.specs.Framing.{jobs-none}
use Rattle.job_orders.specs.Learning.{all_jobs_stay, jobs_stay, learns_itself, learns_on, same_list-Decides}
use Rattle.job_orders.specs.Tables.{IsJob, items_of, job_of, same_list}
use Rattle.job_orders.specs.Views.{job_in, jobs_in}
use Rattle.job_orders.proofs.Listed.{lists-learn, next-all, next-job}
use Rattle.job_orders.proofs.Numbers.{stored}
use Rattle.job_orders.proofs.machines.pack_jobs.Goals as goal

pub loop-k-init : goal.loop-k-init
loop-k-init c = record {
  same = refl;
  jobs = ap (map (job_of c.args.tables.now)) c.in_ok-numbers.ensures.items ∙ sym (jobs-none c.args.machine.now);
  each = subst (λ (ns : List ℕ). All (IsJob c.args.tables.now) ns) (sym c.in_ok-numbers.ensures.items) (λ k d l. absurd (omega (arith, l)));
  learns = learns_itself c.args.tables.now;
}

pub loop-k-preserved : goal.loop-k-preserved
loop-k-preserved c = record {
  same = c.in_ok-number.ensures.same ∙ c.loop-k.invariant.same;
  jobs = next-job c.args.machine.now c.loop-k.k c.loop-k.tables c.pack_job_of.new.tables c.loop-k.numbers.items c.push.new.self.items
      c.in_ok-number.number c.in_ok-number.ensures.learns c.loop-k.invariant.each c.loop-k.invariant.jobs
      (c.in_ok-number.ensures.job ∙ ap (λ m. job_in m (c.loop-k.k + 1)) c.loop-k.invariant.same)
      c.in_ok-push.ensures.items;
  each = next-all c.loop-k.tables c.pack_job_of.new.tables c.loop-k.numbers.items c.push.new.self.items c.in_ok-number.number
      c.in_ok-number.ensures.learns c.loop-k.invariant.each c.in_ok-number.ensures.there c.in_ok-push.ensures.items;
  learns = learns_on c.args.tables.now c.loop-k.tables c.pack_job_of.new.tables c.loop-k.invariant.learns c.in_ok-number.ensures.learns;
}

pub returns-clause-jobs : goal.returns-clause-jobs
returns-clause-jobs c =
    let t = c.loop-k.tables in
    let u : Tables = record c.loop-k.tables { lists = c.number_of.new.self } in
    let s = c.in_ok-number-2.ensures.stored in
    let end : c.args.count ≡ c.loop-k.k = omega arith in
    let is = stored items_of [] same_list same_list-Decides c.number_of.new.self c.in_ok-number-2.number c.loop-k.numbers s.0
    c.in_ok-number-2.ensures.within s.1 s.2 in
    ap (map (job_of u)) is
    ∙ jobs_stay t u (lists-learn t c.number_of.new.self c.in_ok-number-2.ensures.grown c.in_ok-number-2.ensures.unique) c.loop-k.numbers.items
    c.loop-k.invariant.each
    ∙ c.loop-k.invariant.jobs ∙ ap (jobs_in c.args.machine.now) (sym end)

pub returns-clause-each : goal.returns-clause-each
returns-clause-each c =
    let t = c.loop-k.tables in
    let u : Tables = record c.loop-k.tables { lists = c.number_of.new.self } in
    let s = c.in_ok-number-2.ensures.stored in
    subst (λ (ns : List ℕ). All (IsJob u) ns)
    (sym (stored items_of [] same_list same_list-Decides c.number_of.new.self c.in_ok-number-2.number c.loop-k.numbers s.0
    c.in_ok-number-2.ensures.within s.1 s.2))
    (all_jobs_stay t u (lists-learn t c.number_of.new.self c.in_ok-number-2.ensures.grown c.in_ok-number-2.ensures.unique) c.loop-k.numbers.items
    c.loop-k.invariant.each)

pub returns-clause-learns : goal.returns-clause-learns
returns-clause-learns c =
    let t = c.loop-k.tables in
    learns_on c.args.tables.now t (record c.loop-k.tables { lists = c.number_of.new.self }) c.loop-k.invariant.learns
    (lists-learn t c.number_of.new.self c.in_ok-number-2.ensures.grown c.in_ok-number-2.ensures.unique)
