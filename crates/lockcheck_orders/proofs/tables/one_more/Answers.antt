use Rattle.std.proofs.Common.{◌≡◌, ◌<◌, ◌≤◌, ◌+◌, ◌-◌, ℕ, length, get_or, set, ap, subst, arith}
use Rattle.lockcheck_orders.specs.Tables.{numbers_at}
use Rattle.lockcheck_orders.proofs.Numbers.{vector-is, front-more, back-more}
use Rattle.lockcheck_orders.proofs.tables.one_more.Goals as goal

pub returns-in_ok-front-clause-made : goal.returns-in_ok-front-clause-made
returns-in_ok-front-clause-made c =
    let old = c.args.tables.now.vectors in
    let same = ap length (vector-is old c.args.state.front c.part.result.now c.part.ensures) in
    let within : c.args.by < length (numbers_at c.args.tables.now.vectors c.args.state.front) = omega (arith, same, c.len-half.ensures, c.if-by-half.true) in
    front-more old c.number_with_more.new.vectors c.args.state.front c.args.state.back c.in_ok-front.front c.args.by c.in_ok-front.ensures.grown
    c.requires.back within c.in_ok-front.ensures.more

pub returns-in_ok-back-clause-made : goal.returns-in_ok-back-clause-made
returns-in_ok-back-clause-made c =
    let old = c.args.tables.now.vectors in
    let new = c.number_with_more-else-by-half.new.vectors in
    let same = ap length (vector-is old c.args.state.front c.part.result.now c.part.ensures) in
    let half : c.len-half.result ≡ length (numbers_at c.args.tables.now.vectors c.args.state.front) = omega (arith, same, c.len-half.ensures) in
    let behind : length (numbers_at c.args.tables.now.vectors c.args.state.front) ≤ c.args.by = omega (arith, half, c.if-by-half.false) in
    let P : ℕ → Type 0 =
    λ m. numbers_at c.number_with_more-else-by-half.new.vectors c.in_ok-back.back
    ≡ set (numbers_at c.args.tables.now.vectors c.args.state.back) (c.args.by - m)
    (get_or (numbers_at c.args.tables.now.vectors c.args.state.back) (c.args.by - m) 0 + 1) in
    back-more old new c.args.state.front c.args.state.back c.in_ok-back.back c.args.by c.in_ok-back.ensures.grown c.requires.front behind
    (subst P half c.in_ok-back.ensures.more)
