use Rattle.lock_laws.proofs.Telling.{told_alike}
use Rattle.lock_laws.proofs.laws.askers_are_told_alike.Goals as goal

pub returns : goal.returns
returns g c = λ key.
    let told = told_alike (g.L.LockTable.requests c.args.table.now) key in
    (told.first, told.second, told.third, told.below (g.met.L.LockTable.well c.args.table.now), told.words)
