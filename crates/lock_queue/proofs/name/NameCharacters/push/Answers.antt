use Rattle.std.proofs.Common.{◌≡◌, ◌<◌, ap, length, arith}
use Rattle.std.proofs.lemmas.List.{length-take-le}
use Rattle.lock_queue.proofs.Texts.{filled-pushed, pushed-utf8}
use Rattle.lock_queue.proofs.name.NameCharacters.push.Goals as goal

pub invariant_of-self : goal.invariant_of-self
invariant_of-self c =
    let n = c.self.inside.len in
    let bytes = c.self.inside.bytes in
    let all : length bytes ≡ 32 = c.self.told in
    let count = length-take-le n bytes (omega (arith, c.self.invariant.0, all)) in
    let less : n < length bytes = omega (arith, all, count, ap length c.self.view_is, c.requires.room) in (
      omega (arith, all, less),
      filled-pushed bytes n c.args.character less all c.self.invariant.1,
      pushed-utf8 bytes n c.args.character less c.requires.ascii c.self.invariant.2,
    )
