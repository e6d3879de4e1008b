use Rattle.image_files.proofs.WriteLemmas.{joined_word, parted_word}
use Rattle.image_files.proofs.save_writer.push_before.Goals as goal

pub returns-then-is_apart-clause-written : goal.returns-then-is_apart-clause-written
returns-then-is_apart-clause-written c = λ start blocks h.
    parted_word start blocks c.args.file.now.items c.push_iowd.new.file.items c.push.new.self.items c.args.count c.args.first
    (c.args.address, c.args.word) c.is_apart.result c.is_apart.ensures c.if-is_apart.true c.in_ok-push_iowd.ensures c.in_ok-push.ensures.items h

pub returns-clause-written : goal.returns-clause-written
returns-clause-written c = λ start blocks h.
    joined_word start blocks c.args.file.now.items c.push-2.new.self.items c.args.count c.args.first
    (c.args.address, c.args.word) c.is_apart.result c.is_apart.ensures c.if-is_apart.false c.requires.few c.in_ok-push-2.ensures.items h
