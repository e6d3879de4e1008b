use Rattle.std.proofs.Common.{◌++◌, drop}
use Rattle.script_io.proofs.ServeLemmas.{cut_in_flush}
use Rattle.script_io.proofs.serving.serve_front.Goals as goal

pub returns-in-Err-flush-clause-cuts : goal.returns-in-Err-flush-clause-cuts
returns-in-Err-flush-clause-cuts g c =
    let cut = c.in-Err-flush.ensures.cut in
    let bytes = c.args.bytes.now in
    cut_in_flush _ _ (λ more. g.S.Session.follow c.args.session.now (bytes ++ more))
    (λ more. g.S.Session.follow c.feed.new.self (drop c.in-Ok.count bytes ++ more)) _ _ cut.0
    c.in-Ok.ensures.follows cut.1
