use Rattle.std.proofs.Common.{◌≡◌, ◌∙◌, None, sym, map, length, arith}
use Rattle.std.proofs.lemmas.List.{ext_get_or, get_or-map, length-map}
use Rattle.job_sched.specs.declared.table.TheConstants.{JOB_SLOTS}
use Rattle.job_order_laws.specs.Turned.{pc_in}
use Rattle.job_turns.proofs.turns.pcs_of.Goals as goal

pub returns : goal.returns
returns c =
    let all : length c.args.jobs.now ≡ JOB_SLOTS = c.type_inv.jobs in
    ext_get_or 0 c.loop-n.pcs (map pc_in c.args.jobs.now) (c.loop-n.invariant.count ∙ sym all ∙ sym (length-map c.args.jobs.now pc_in))
    (λ k low.
    c.loop-n.invariant.so_far k (omega (arith, low, c.loop-n.invariant.count, c.loop-n-test.false, c.loop-n.auto.n-end))
    ∙ sym (get_or-map pc_in c.args.jobs.now k None 0 (omega (arith, low, c.loop-n.invariant.count, all))))
