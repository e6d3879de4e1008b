use Rattle.std.proofs.Common.{◌≡◌, ◌∙◌, sym, ap, ◌<◌, ◌≤◌, ◌^◌, ◌%◌, ◌==◌, nat_lt, false, arith}
use Rattle.std.proofs.Math.Nat.{div-eq_of_lt, pow-le-pow_right}
use Rattle.std.proofs.lemmas.Bool.Decides.{nat_tests}
use Rattle.lock_queue.proofs.granting.is_among.Goals as goal

pub returns-else-job-lt64 : goal.returns-else-job-lt64
returns-else-job-lt64 c =
    let le : 64 ≤ c.args.job = c.if-job-lt64.false in
    let two : 0 < 2 = omega arith in
    let powers : 2 ^ 64 ≤ 2 ^ c.args.job = pow-le-pow_right two le in
    let small : c.args.jobs < 2 ^ c.args.job = omega (arith, powers, c.ranges.jobs.fits) in
    let not_lt : nat_lt c.args.job 64 ≡ false = grind (arith, nat_tests, le) in
    not_lt ∙ sym (ap (λ q. (q % 2) == 1) (div-eq_of_lt small))
