use Rattle.std.proofs.Common.{◌≡◌, ◌∙◌, sym, ap, ℕ, arith}
use Rattle.job_sched.specs.Changes.{left_after}
use Rattle.job_sched.proofs.Quanta.{left-first, left-rest, left-zero}
use Rattle.job_sched.proofs.table.left_after.Goals as goal
use Rattle.job_sched.proofs.table.left_after.Goals.{then-quantum-eq0-via-then-quantum-eq0, then-quantum-eq0-via-else-quantum-eq0+then-rounds-first}

pub returns-then-quantum-eq0 : goal.returns-then-quantum-eq0
returns-then-quantum-eq0 c = elim c.then-quantum-eq0.branch [
  | then-quantum-eq0-via-then-quantum-eq0 w ↦
      let none : c.args.quantum ≡ 0 = omega (arith, w.if-quantum-eq0) in
      omega (arith, c.saturating_sub.ensures, c.from.ensures, ap (λ (q : ℕ). left_after q c.args.left c.args.rounds) none ∙ left-zero c.args.left c.args.rounds)
  | then-quantum-eq0-via-else-quantum-eq0+then-rounds-first w ↦
      omega (
        arith,
        c.saturating_sub.ensures,
        c.from.ensures,
        left-first c.args.quantum c.args.left c.args.rounds
            (omega (arith, w.if-rounds-first, c.max.ensures, c.from-first.ensures)),
      )
]

pub returns : goal.returns
returns c =
    let first = c.from-first.ensures ∙ c.max.ensures in
    let rest = left-rest c.args.quantum c.args.left c.args.rounds (omega (arith, c.if-rounds-first, first)) (omega (arith, c.if-quantum-eq0)) in
    rw (c.from-2.ensures, first) (sym rest)
