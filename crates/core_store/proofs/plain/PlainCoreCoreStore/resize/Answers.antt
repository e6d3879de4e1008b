use Rattle.std.proofs.Common.{refl, ◌≡◌, arith}
use Rattle.std.proofs.lemmas.List.{map-set}
use Rattle.core_store.specs.Cores.{core_of, resized_words}
use Rattle.core_store.proofs.Views.{viewed, IsStore-viewed}
use Rattle.core_store.proofs.plain.PlainCoreCoreStore.resize.Goals as goal

pub returns-clause-ok : goal.returns-clause-ok
returns-clause-ok c =
    let had : core_of c.args.self.now c.args.job ≡ c.index_mut.result.now.items =
    rw (← c.self.view_is)
    (viewed c.self.inside.cores.items c.args.job c.index_mut.result.now (omega arith) c.index_mut.ensures.value) in
    let grown : c.fill.new.words.items ≡ resized_words (core_of c.args.self.now c.args.job) c.args.blocks = rw had c.fill.ensures.words in
    rw (← grown, ← c.blocks-had.ensures.value) (rw (← c.self.view_is) (rw map-set refl))

pub returns-then-blocks-self-clause-store : goal.returns-then-blocks-self-clause-store
returns-then-blocks-self-clause-store c =
    rw (← c.self.view_is) (IsStore-viewed _ _ _ c.self.invariant)

pub returns-clause-store : goal.returns-clause-store
returns-clause-store c =
    rw (← c.self.view_is) (IsStore-viewed _ _ _ c.self.invariant)
