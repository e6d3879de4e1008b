use Rattle.std.proofs.Common.{inl, inr, map, refl, subst}
use Rattle.lockcheck_program.specs.Checks.{Checks}
use Rattle.lockcheck_program.proofs.serving.program.Goals as goal

-- the script that was read is the one that is looked at, and nothing was reported before
pub returns-in-Ok-read_script : goal.returns-in-Ok-read_script
returns-in-Ok-read_script g c =
    let Looks = g.T.Watch.Looks in
    let w = c.args.watch.now in
    let u = c.check_script.new.watch in
    let states = c.in-Ok.options.states in
    let all = c.in-Ok.options.all in
    let o = g.W.ByteOut.written c.args.writer.now in
    let o' = g.W.ByteOut.written c.check_script.new.writer in
    let failed = g.W.ByteOut.has_failed c.check_script.new.writer in
    let e' = g.E.ByteOut.written c.check_script.new.errors in
    let errors_failed = g.E.ByteOut.has_failed c.check_script.new.errors in
    let status = c.check_script.result in
    inl
    (record {
      options = c.in-Ok.options;
      asked = c.in-Ok.ensures.asked;
      script = c.in-Ok-read_script.script.items;
      read = c.in-Ok-read_script.ensures.script;
      checks =
          subst (λ s. Checks Looks w u s states all o o' failed (g.E.ByteOut.written c.args.errors.now) e' errors_failed status) c.as_slice.ensures.value
          (subst (λ e. Checks Looks w u c.as_slice.result.now states all o o' failed e e' errors_failed status) c.in-Ok-read_script.ensures.quiet
          c.check_script.ensures);
    })

pub returns : goal.returns
returns g c =
    inr
    (inl
    (record {
      options = c.in-Ok.options;
      asked = c.in-Ok.ensures.asked;
      unread = c.in-Err-read_script.ensures.unread;
      unwritten = refl;
    }))

pub returns-in-Err : goal.returns-in-Err
returns-in-Err g c = inr (inr (refl, c.refuse_arguments.ensures (map g.S.AsStr.text c.args.arguments.now) c.in-Err.ensures.due))
