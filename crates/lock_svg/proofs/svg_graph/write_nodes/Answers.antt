use Rattle.std.proofs.Common.{◌++◌, [], arith, refl, rules}
use Rattle.std.proofs.Output.{has_written_append, has_written_of_eq}
use Rattle.lock_bars.proofs.EachJob.{each_end, each_start, each_step}
use Rattle.lock_svg.specs.Graphs.{node_text, nodes_text}
use Rattle.lock_svg.proofs.svg_graph.write_nodes.Goals as goal

pub loop-job-init : goal.loop-job-init
loop-job-init g c = λ plain. ([], search rules, each_start (node_text c.args.frame.now c.args.graph.now) [] refl)

pub loop-job-preserved : goal.loop-job-preserved
loop-job-preserved g c = λ plain.
    let now = c.loop-job.invariant plain in
    let node = node_text c.args.frame.now c.args.graph.now in
    let job = c.loop-job.job in (
      now.0 ++ node job,
      has_written_append _ _ _ _ _ _ now.1 (c.write_node.ensures now.1.plain (search rules)),
      each_step node job now.0 (now.0 ++ node job) (nodes_text c.args.frame.now c.args.graph.now) (omega arith) refl now.2,
    )

pub returns : goal.returns
returns g c = λ plain ok.
    let now = c.loop-job.invariant plain in
    let node = node_text c.args.frame.now c.args.graph.now in
    has_written_of_eq _ _ _ _ _
    (each_end node c.loop-job.job now.0 (nodes_text c.args.frame.now c.args.graph.now) (omega arith) now.2) now.1
