use Rattle.std.proofs.Common.{◌≡◌, ◌≤◌, ◌<◌, ◌∙◌, [], List, length, map, sym, arith}
use Rattle.std.proofs.lemmas.List.{length-map}
use Rattle.word36.specs.declared.sizes.TheConstants.{JOBS}
use Rattle.job_orders.specs.Forms.{JobForm}
use Rattle.job_orders.specs.Framing.{no_job}
use Rattle.job_orders.specs.Tables.{job_of}
use Rattle.job_orders.proofs.Jobs.{core-at}
use Rattle.job_orders.proofs.Padding.{padded-next}
use Rattle.job_orders.proofs.unpacking.set_cores.Goals as goal

pub loop-k-preserved : goal.loop-k-preserved
loop-k-preserved g c =
    let t = c.args.tables.now in
    let ns = c.args.numbers.now in
    let k = c.loop-k.k in
    let low : c.loop-k.k < length c.args.numbers.now = omega arith in
    let p = c.parts_of-core.result in
    let forms : List JobForm = map (job_of c.args.tables.now) c.args.numbers.now in
    let long : length (map (job_of c.args.tables.now) c.args.numbers.now) ≡ length c.args.numbers.now = length-map ns (job_of t) in
    let few : length (map (job_of c.args.tables.now) c.args.numbers.now) ≤ JOBS = omega (arith, long, c.requires.few) in
    let there : c.loop-k.k < length (map (job_of c.args.tables.now) c.args.numbers.now) = omega (arith, long, low) in (
      c.in_ok-set_core.ensures.core
          ∙ padded-next [] (λ (j : JobForm). j.core) no_job forms few k (g.C.CoreStore.meaning c.loop-k.cores).cores _ there c.loop-k.invariant.0
          (sym (core-at t ns k p.0 p.1 p.2 low c.parts_of-core.ensures)),
      c.in_ok-set_core.ensures.words ∙ c.loop-k.invariant.1,
    )
