use Rattle.std.proofs.Common.{◌≡◌, ◌∙◌, ℕ, List, length, map, ap, arith}
use Rattle.word36.specs.declared.sizes.TheConstants.{DATA_WORDS}
use Rattle.lock_queue.specs.declared.request.Request.{Request}
use Rattle.job_orders.specs.Forms.{JobForm, StateForm}
use Rattle.job_orders.specs.Learning.{learns_on}
use Rattle.job_orders.specs.Tables.{job_of, numbers_at}
use Rattle.job_orders.proofs.Packed.{packed-form, packed-numbered}
use Rattle.job_orders.proofs.packing.pack_rest.Goals as goal

pub pack_words-requires : goal.pack_words-requires
pack_words-requires g c =
    let size : length c.args.shared.now ≡ DATA_WORDS = c.told-shared in
    let same : length c.as_slice.result.now ≡ length c.args.shared.now = ap length c.as_slice.ensures in
    omega (arith, size, same)

pub returns-clause-form : goal.returns-clause-form
returns-clause-form g c =
    let t = c.args.tables.now in
    let js : List JobForm = map (job_of c.args.tables.now) (numbers_at c.args.tables.now.lists c.args.jobs) in
    let rs : List Request = g.L.LockTable.requests c.args.locks.now in
    let F : ℕ → StateForm = λ n. record { jobs = js; requests = rs; shared = c.args.shared.now; free = n } in
    packed-form t c.pack_requests.new.tables c.pack_words.new.tables c.in_ok-requests.ensures.learns c.in_ok-shared.ensures.learns
    c.args.jobs c.in_ok-requests.requests c.in_ok-shared.shared c.free.result c.requires.there c.requires.each
    c.in_ok-requests.ensures.there c.in_ok-requests.ensures.asked c.in_ok-shared.ensures.pages js rs c.args.shared.now (λ i. js)
    c.in_ok-requests.ensures.requests (c.in_ok-shared.ensures.words ∙ c.as_slice.ensures)
    ∙ ap F c.free.ensures.value

pub returns-clause-numbered : goal.returns-clause-numbered
returns-clause-numbered g c =
    packed-numbered c.args.tables.now c.pack_requests.new.tables c.pack_words.new.tables c.in_ok-requests.ensures.learns c.in_ok-shared.ensures.learns
    c.args.jobs c.in_ok-requests.requests c.in_ok-shared.shared c.free.result c.requires.there c.requires.each
    c.in_ok-requests.ensures.there c.in_ok-requests.ensures.asked c.in_ok-shared.ensures.pages

pub returns-clause-learns : goal.returns-clause-learns
returns-clause-learns g c =
    learns_on c.args.tables.now c.pack_requests.new.tables c.pack_words.new.tables c.in_ok-requests.ensures.learns c.in_ok-shared.ensures.learns
