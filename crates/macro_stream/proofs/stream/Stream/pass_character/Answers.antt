use Rattle.std.proofs.Common.{refl}
use Rattle.macro_stream.specs.Standing.{store_of}
use Rattle.macro_stream.proofs.Steps.{read-item, past}
use Rattle.macro_stream.proofs.stream.Stream.pass_character.Goals as goal

pub returns-then-self-clause-read : goal.returns-then-self-clause-read
returns-then-self-clause-read c k rest given =
    let s = c.args.self.now in read-item (store_of s) s.top (past s.top) s.lower.items k rest c.if-self.true refl given
