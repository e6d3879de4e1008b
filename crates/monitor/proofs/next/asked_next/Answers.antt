use Rattle.std.proofs.Common.{◌≡◌, ◌∙◌, ap, refl, sym}
use Rattle.core_store.specs.Cores.{Cores, core_of}
use Rattle.monitor.proofs.Calling.{asked-found, block-found}
use Rattle.monitor.proofs.next.asked_next.Goals as goal

pub returns-in-Some-clause-asked : goal.returns-in-Some-clause-asked
returns-in-Some-clause-asked g c =
    λ w same there.
    let at : core_of w.cores c.args.n ≡ c.new-memory.result = ap (λ (x : Cores). core_of x c.args.n) same ∙ sym c.new-memory.ensures in
    c.asked_by.ensures.asked
    ∙ asked-found w c.args.n c.args.job.now c.new-memory.result c.in-Some.found.0 _ c.in-Some.found.1 _ c.in-Some.found.2 _ there at c.in-Some.ensures
    refl refl refl

pub returns-in-Some-clause-block : goal.returns-in-Some-clause-block
returns-in-Some-clause-block g c =
    λ w same there.
    let at : core_of w.cores c.args.n ≡ c.new-memory.result = ap (λ (x : Cores). core_of x c.args.n) same ∙ sym c.new-memory.ensures in
    c.asked_by.ensures.block
    ∙ block-found w c.args.n c.args.job.now c.new-memory.result c.in-Some.found.0 _ c.in-Some.found.1 _ c.in-Some.found.2 _ there at c.in-Some.ensures
    refl refl refl
