use Rattle.std.proofs.Common.{◌∙◌, [], ap}
use Rattle.std.specs.Prelude.{slice_index_or}
use Rattle.job_sched.specs.Tables.{job_at}
use Rattle.job_order_laws.specs.Turned.{V}
use Rattle.core_store.specs.Cores.{core_of}
use Rattle.job_orders.proofs.Jobs.{is-job, job-is, job-learns}
use Rattle.job_orders.proofs.machines.pack_job_of.Goals as goal

pub returns-clause-job : goal.returns-clause-job
returns-clause-job c =
    let m : V = c.args.machine.now in
    job-is c.args.tables.now c.pack_slot_of.new.slots c.pack_core_of.new.tables c.pack_text_of.new.texts c.pack_three.new.lists
    c.in_ok-slot.ensures.grown c.in_ok-slot.ensures.unique c.in_ok-core.ensures.learns c.in_ok-text.ensures.grown c.in_ok-text.ensures.unique
    c.in_ok-number.ensures.grown c.in_ok-number.ensures.unique c.in_ok-slot.slot c.in_ok-core.core c.in_ok-text.text c.in_ok-number.number
    c.in_ok-number.ensures.there c.in_ok-number.ensures.list c.in_ok-slot.ensures.there c.in_ok-core.ensures.pages c.in_ok-text.ensures.there
    (job_at m.machine.world.table.jobs c.args.n) (slice_index_or m.last c.args.n 0) (core_of m.machine.world.cores c.args.n)
    (slice_index_or m.texts c.args.n []) c.in_ok-slot.ensures.slot c.in_ok-core.ensures.words
    (c.in_ok-text.ensures.text ∙ ap (λ (v : V). slice_index_or v.texts c.args.n []) c.in_ok-core.ensures.same)

pub returns-clause-there : goal.returns-clause-there
returns-clause-there c =
    is-job c.args.tables.now c.pack_slot_of.new.slots c.pack_core_of.new.tables c.pack_text_of.new.texts c.pack_three.new.lists
    c.in_ok-slot.ensures.grown c.in_ok-slot.ensures.unique c.in_ok-core.ensures.learns c.in_ok-text.ensures.grown c.in_ok-text.ensures.unique
    c.in_ok-number.ensures.grown c.in_ok-number.ensures.unique c.in_ok-slot.slot c.in_ok-core.core c.in_ok-text.text c.in_ok-number.number
    c.in_ok-number.ensures.there c.in_ok-number.ensures.list c.in_ok-slot.ensures.there c.in_ok-core.ensures.pages c.in_ok-text.ensures.there

pub returns-clause-learns : goal.returns-clause-learns
returns-clause-learns c =
    job-learns c.args.tables.now c.pack_slot_of.new.slots c.pack_core_of.new.tables c.pack_text_of.new.texts c.pack_three.new.lists
    c.in_ok-slot.ensures.grown c.in_ok-slot.ensures.unique c.in_ok-core.ensures.learns c.in_ok-text.ensures.grown c.in_ok-text.ensures.unique
    c.in_ok-number.ensures.grown c.in_ok-number.ensures.unique
