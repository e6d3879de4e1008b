use Rattle.std.proofs.Common.{◌≡◌, ◌≤◌, ◌<◌, ◌∙◌, List, None, length, map, get_or, sym, ap, arith}
use Rattle.std.proofs.lemmas.List.{length-map}
use Rattle.word36.specs.declared.sizes.TheConstants.{JOBS}
use Rattle.job_sched.specs.Tables.{Table}
use Rattle.job_orders.specs.Forms.{JobForm}
use Rattle.job_orders.specs.Framing.{no_job}
use Rattle.job_orders.specs.Tables.{job_of, no_slot, slot_at}
use Rattle.kept_parts.specs.declared.slots.KeptSlot.{KeptSlot}
use Rattle.job_orders.proofs.Filling.{part-is}
use Rattle.job_orders.proofs.Jobs.{last-at, slot-at, slot-there}
use Rattle.job_orders.proofs.Padding.{padded-next}
use Rattle.job_orders.proofs.unpacking.set_slots.Goals as goal

pub loop-k-preserved : goal.loop-k-preserved
loop-k-preserved c =
    let t = c.args.tables.now in
    let ns = c.args.numbers.now in
    let k = c.loop-k.k in
    let low : c.loop-k.k < length c.args.numbers.now = omega arith in
    let p = c.parts_of-slot.result in
    let forms : List JobForm = map (job_of c.args.tables.now) c.args.numbers.now in
    let long : length (map (job_of c.args.tables.now) c.args.numbers.now) ≡ length c.args.numbers.now = length-map ns (job_of t) in
    let few : length (map (job_of c.args.tables.now) c.args.numbers.now) ≤ JOBS = omega (arith, long, c.requires.few) in
    let there : c.loop-k.k < length (map (job_of c.args.tables.now) c.args.numbers.now) = omega (arith, long, low) in
    let view = c.kept.view_is in
    let opened : c.kept.inside.kept ≡ c.part-kept.result.now = cc in
    let kept : c.part-kept.result.now ≡ slot_at c.args.tables.now.slots c.parts_of-slot.result.0 =
    part-is (λ (s : KeptSlot). s) no_slot t.slots p.0 c.part-kept.result.now
    (slot-there t (get_or ns k 0) p.0 p.1 p.2 (c.requires.jobs k 0 low) c.parts_of-slot.ensures) c.part-kept.ensures in (
      c.set_slot.ensures
          ∙ (λ i. record {
            jobs = padded-next None (λ (j : JobForm). j.slot) no_job forms few k c.loop-k.table.jobs c.part-kept.result.now.slot there
                (ap (λ (x : Table). x.jobs) c.loop-k.invariant.0)
                (ap (λ (s : KeptSlot). s.slot) kept ∙ sym (slot-at t ns k p.0 p.1 p.2 low c.parts_of-slot.ensures)) i;
            current = (ap (λ (x : Table). x.current) c.loop-k.invariant.0) i;
            left = (ap (λ (x : Table). x.left) c.loop-k.invariant.0) i;
          }),
      padded-next 0 (λ (j : JobForm). j.last) no_job forms few k c.loop-k.last c.kept.inside.kept.last there c.loop-k.invariant.1
          (ap (λ (s : KeptSlot). s.last) opened ∙ ap (λ (s : KeptSlot). s.last) kept ∙ sym (last-at t ns k p.0 p.1 p.2 low c.parts_of-slot.ensures)),
    )
