use Rattle.std.proofs.Common.{rules}
use Rattle.run_record.specs.Scripts.{end_text, head_text, text_in}
use Rattle.ten.proofs.Adding.{four_parts}
use Rattle.ten.proofs.recording.Recording.script.Goals as goal

pub returns-in_ok-push_end-in-Some-2 : goal.returns-in_ok-push_end-in-Some-2
returns-in_ok-push_end-in-Some-2 c = (
  c.in-Some-2.events,
  search rules,
  four_parts (head_text c.args.config.blocks c.args.config.quantum) c.args.self.now.programs.items (text_in c.in-Some-2.events) end_text
      c.push_head.new.out.items c.extend_from_slice.new.self.items c.push_pieces.new.out.items c.push_end.new.out.items
      (search rules) (search rules) (search rules) c.in_ok-push_end-in-Some-2.ensures,
)
