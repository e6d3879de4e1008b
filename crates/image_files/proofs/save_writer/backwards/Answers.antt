use Rattle.std.proofs.Common.{◌-◌, ◌<◌, ◌^◌, drop, length, arith}
use Rattle.image_files.specs.Saves.{blocks_of}
use Rattle.image_files.proofs.WriteLemmas.{address_below, nothing_written, word_written, all_written}
use Rattle.image_files.proofs.save_writer.backwards.Goals as goal

pub push_before-requires-clause-address : goal.push_before-requires-clause-address
push_before-requires-clause-address c =
    address_below c.args.words.now 0 (c.loop-i.i - 1) c.index-words-i.result c.requires.rises (omega arith) c.index-words-i.is

pub loop-i-init : goal.loop-i-init
loop-i-init c =
    record {
      written =
          nothing_written c.args.start c.args.words.now (length c.args.words.now) c.new-file.result.items c.push.new.self.items c.jrst.result
          (omega arith) c.new-file.ensures.items c.jrst.ensures c.in_ok-push.ensures.items;
      there = omega arith;
      few = omega arith;
      fits = omega arith;
    }

pub loop-i-preserved : goal.loop-i-preserved
loop-i-preserved c =
    let x = c.index-words-i.result in
    let address : x.0 < 2 ^ 18 = address_below c.args.words.now 0 (c.loop-i.i - 1) x c.requires.rises (omega arith) c.index-words-i.is in
    record {
      written =
          word_written c.args.start c.args.words.now c.loop-i.i (c.loop-i.i - 1) x c.push_before.new.file.items c.in_ok-more.more x.0
          (omega arith) c.loop-i.invariant.there c.index-words-i.is
          (c.in_ok-more.ensures.written c.args.start (blocks_of (drop c.loop-i.i c.args.words.now)) c.loop-i.invariant.written);
      there = omega arith;
      few = c.in_ok-more.ensures.few;
      fits = address;
    }

pub returns : goal.returns
returns c =
    all_written c.args.words.now c.args.start c.loop-i.i c.loop-i.file.items c.push_iowd.new.file.items c.loop-i.count c.loop-i.first
    (omega arith) c.loop-i.invariant.written c.in_ok-push_iowd.ensures
