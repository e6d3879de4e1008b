use Rattle.std.proofs.Common.{◌≡◌, ◌∙◌, ap, sym, subst, IsSome, arith}
use Rattle.word36.specs.declared.sizes.TheConstants.{JOBS}
use Rattle.job_order_laws.specs.Erased.{erased}
use Rattle.job_moves.specs.Moves.{IsAwake, begun, next, settled}
use Rattle.job_orders.specs.Endings.{highest_job}
use Rattle.job_orders.specs.Reports.{count_of}
use Rattle.orders_program.specs.Begun.{begun_with, start_of}
use Rattle.orders_program.proofs.Begun.{awake-start, begun-blocks}
use Rattle.orders_program.proofs.Leading.{first_of, led, move-led, next-can-be-made}
use Rattle.orders_program.proofs.following.follow.Goals as goal

pub new-requires-2-clause-awake : goal.new-requires-2-clause-awake
new-requires-2-clause-awake c =
    let work = c.args.work.now in
    let same = ap (λ s. s.blocks) c.in_ok-system.ensures ∙ begun-blocks work.config.blocks work.config.quantum work.programs.now in
    let is = ap (λ w. begun (record { world = w; time = 0; quantum = 1; blocks = c.blocks-2.result })) c.into_world-world.ensures.world in
    subst IsAwake (sym (c.in_ok-machine.ensures.begun ∙ is))
    (awake-start c.in_ok-system.system c.blocks-2.result c.into_world-world.ensures.sound.safe (c.blocks-2.ensures.value ∙ sym same))

pub loop-by-init : goal.loop-by-init
loop-by-init c =
    let work = c.args.work.now in
    let v = start_of work in
    let world = c.into_world-world.ensures.world ∙ ap (λ s. s.world) c.in_ok-system.ensures in
    let at = begun_with work.config.blocks work.config.quantum work.programs.now in
    let count : c.in_ok-following.following.count ≡ count_of v =
    c.in_ok-following.ensures.count ∙ c.count_jobs-count.ensures.highest ∙ ap (λ w. highest_job w.table.jobs JOBS) world in
    let machine : c.in_ok-following.following.machine ≡ erased v =
    c.in_ok-following.ensures.machine ∙ c.in_ok-machine.ensures.begun
    ∙ ap (λ w. begun (record { world = w; time = 0; quantum = 1; blocks = c.blocks-2.result })) world
    ∙ ap (λ b. begun (record { world = at.world; time = 0; quantum = 1; blocks = b })) c.blocks-2.ensures.value in
    let settle = c.in_ok-settle.ensures in
    let first : c.settle.new.self.machine ≡ first_of c.args.most v =
    settle.machine ∙ ap (λ m. settled m c.in_ok-following.following.count c.in_ok-following.following.machine) c.in_ok-following.ensures.most
    ∙ ap (λ n. settled c.args.most n c.in_ok-following.following.machine) count ∙ ap (settled c.args.most (count_of v)) machine in
    record {
      following = settle.following;
      count = settle.count ∙ count;
      most = settle.most ∙ c.in_ok-following.ensures.most;
      rest = ap (λ x. led c.args.most v x c.args.moves.now) first;
    }

pub make_move-requires-clause-job : goal.make_move-requires-clause-job
make_move-requires-clause-job c =
    let v = start_of c.args.work.now in
    let ks = c.args.moves.now in
    let i = c.loop-by.by-index in
    let can = next-can-be-made c.args.most v c.loop-by.following.machine _ ks i _ c.loop-by-test.true c.loop-by.invariant.rest c.requires.1 in
    let low = can.low in
    let is = c.in-Ok.ensures.1 in
    let many = c.loop-by.invariant.count in
    omega (arith, low, is, many)

pub make_move-requires-clause-made : goal.make_move-requires-clause-made
make_move-requires-clause-made c =
    let v = start_of c.args.work.now in
    let f = c.loop-by.following in
    let can =
    next-can-be-made c.args.most v f.machine _ c.args.moves.now c.loop-by.by-index _ c.loop-by-test.true c.loop-by.invariant.rest c.requires.1 in
    subst IsSome
    (sym
    (ap (λ m. next m f.count f.machine c.in-Ok.k) c.loop-by.invariant.most
    ∙ ap (λ n. next c.args.most n f.machine c.in-Ok.k) c.loop-by.invariant.count
    ∙ ap (next c.args.most (count_of v) f.machine) c.in-Ok.ensures.1)) can.some

pub loop-by-preserved : goal.loop-by-preserved
loop-by-preserved c =
    let v = start_of c.args.work.now in
    let f = c.loop-by.following in
    let can =
    next-can-be-made c.args.most v f.machine _ c.args.moves.now c.loop-by.by-index _ c.loop-by-test.true c.loop-by.invariant.rest c.requires.1 in
    let goes = c.in_ok-make_move.ensures.goes in
    record {
      following = goes.following;
      count = goes.count ∙ c.loop-by.invariant.count;
      most = goes.most ∙ c.loop-by.invariant.most;
      rest =
          move-led c.args.most v f.machine c.make_move.new.self.machine c.args.moves.now c.loop-by.by-index _ c.loop-by-test.true can.low
          (sym
          (ap (λ m. next m f.count f.machine c.in-Ok.k) c.loop-by.invariant.most
          ∙ ap (λ n. next c.args.most n f.machine c.in-Ok.k) c.loop-by.invariant.count
          ∙ ap (next c.args.most (count_of v) f.machine) c.in-Ok.ensures.1)
          ∙ c.in_ok-make_move.ensures.made) c.loop-by.invariant.rest;
    }
