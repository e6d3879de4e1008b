use Rattle.std.proofs.Common.{refl, arith}
use Rattle.image_files.specs.Packings.{dense_bytes}
use Rattle.image_files.proofs.PackLemmas.{dense_step, dense_one, dense_none}
use Rattle.image_files.proofs.to_bytes.pack_dense.Goals as goal

pub loop-rest-preserved : goal.loop-rest-preserved
loop-rest-preserved c =
    dense_step c.loop-rest.bytes.items c.extend_from_slice.new.self.items c.dense_pair.result c.loop-rest.rest.now (dense_bytes c.args.words.now)
    _ c.index-rest-0.result c.index-rest-1.result c.loop-rest-test.true c.index-rest-0.is c.index-rest-1.is c.dense_pair.ensures
    c.in_ok-extend_from_slice.ensures.items refl c.loop-rest.invariant

pub returns : goal.returns
returns c = dense_none c.loop-rest.bytes.items c.loop-rest.rest.now (dense_bytes c.args.words.now) (omega arith) c.loop-rest.invariant

pub returns-then-rest-eq1 : goal.returns-then-rest-eq1
returns-then-rest-eq1 c =
    dense_one c.loop-rest.bytes.items c.extend_from_slice-then-rest-eq1.new.self.items c.dense_last.result c.loop-rest.rest.now
    (dense_bytes c.args.words.now) c.index-rest-0-then-rest-eq1.result c.if-rest-eq1.true c.index-rest-0-then-rest-eq1.is
    c.dense_last.ensures c.in_ok-extend_from_slice-2.ensures.items c.loop-rest.invariant
