use Rattle.macro_output.proofs.LineEnds.{cut-line}
use Rattle.macro_output.proofs.rows.end_line.Goals as goal

pub returns : goal.returns
returns c =
    cut-line c.args.start c.end_of.result c.args.out.now.items c.as_slice.result.now c.split_at.result.1.now c.truncate.new.self.items
    c.push.new.self.items c.as_slice.ensures.value c.split_at.ensures.back c.end_of.ensures.text c.truncate.ensures.items
    c.in_ok-push.ensures.items
