use Rattle.std.proofs.Common.{◌≡◌, ◌≤◌, ◌<◌, ◌+◌, ◌∙◌, ℕ, [], List, Vec, Global, length, map, get_or, sym, arith}
use Rattle.std.proofs.lemmas.List.{length-map, map-set}
use Rattle.word36.specs.declared.sizes.TheConstants.{JOBS}
use Rattle.job_orders.specs.Forms.{JobForm}
use Rattle.job_orders.specs.Framing.{no_job}
use Rattle.job_orders.specs.Tables.{job_of, page_at}
use Rattle.job_orders.proofs.Filling.{part-is}
use Rattle.job_orders.proofs.Jobs.{text-at, text-there}
use Rattle.job_orders.proofs.Padding.{padded-next}
use Rattle.job_orders.proofs.unpacking.set_texts.Goals as goal

pub loop-k-preserved : goal.loop-k-preserved
loop-k-preserved c =
    let t = c.args.tables.now in
    let ns = c.args.numbers.now in
    let k = c.loop-k.k in
    let low : c.loop-k.k < length c.args.numbers.now = omega arith in
    let p = c.parts_of-number.result in
    let forms : List JobForm = map (job_of c.args.tables.now) c.args.numbers.now in
    let long : length (map (job_of c.args.tables.now) c.args.numbers.now) ≡ length c.args.numbers.now = length-map ns (job_of t) in
    let few : length (map (job_of c.args.tables.now) c.args.numbers.now) ≤ JOBS = omega (arith, long, c.requires.few) in
    let there : c.loop-k.k < length (map (job_of c.args.tables.now) c.args.numbers.now) = omega (arith, long, low) in
    let kept : c.part-kept.result.now ≡ page_at c.args.tables.now.texts c.parts_of-number.result.2 =
    part-is (λ (x : List ℕ). x) [] t.texts p.2 c.part-kept.result.now
    (text-there t (get_or ns k 0) p.0 p.1 p.2 (c.requires.jobs k 0 low) c.parts_of-number.ensures) c.part-kept.ensures in
    map-set (λ (x : Vec ℕ Global). x.items) c.loop-k.texts (c.loop-k.k + 1) c.set_text.new.text
    ∙ padded-next [] (λ (j : JobForm). j.text) no_job forms few k (map (λ (x : Vec ℕ Global). x.items) c.loop-k.texts) c.set_text.new.text.items there
    c.loop-k.invariant
    (c.in_ok-set_text.ensures ∙ kept ∙ sym (text-at t ns k p.0 p.1 p.2 low c.parts_of-number.ensures))
