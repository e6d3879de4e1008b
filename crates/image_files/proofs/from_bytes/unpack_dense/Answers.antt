use Rattle.std.proofs.Common.{◌+◌, refl, arith, vec_len}
use Rattle.image_files.specs.Packings.{dense_words}
use Rattle.image_files.proofs.UnpackLemmas.{dense_stepped}
use Rattle.image_files.proofs.from_bytes.unpack_dense.Goals as goal

pub loop-rest-preserved : goal.loop-rest-preserved
loop-rest-preserved c =
    dense_stepped c.loop-rest.words.items c.push.new.self.items c.push-in-loop-rest.new.self.items c.loop-rest.rest.now (vec_len c.loop-rest.words + 1)
    (vec_len c.push-in-loop-rest.new.self + 1) _ c.five_bytes.result c.second_word.result (dense_words 1 c.args.bytes.now)
    c.in_ok-push.ensures.items c.in_ok-push-2.ensures.items c.five_bytes.ensures c.second_word.ensures
    (omega arith) (omega arith) (omega arith) refl c.loop-rest.invariant
