use Rattle.std.proofs.Common.{ap, refl, sym, ◌∙◌, ◌≡◌, ◌*◌, [], replicate, arith}
use Rattle.std.proofs.lemmas.List.{map-set}
use Rattle.core_store.specs.Cores.{core_of, resized_words}
use Rattle.core_store.proofs.Views.{viewed, IsStore-viewed, resized_words-none}
use Rattle.core_store.proofs.plain.PlainCoreCoreStore.take.Goals as goal

pub returns-clause-ok : goal.returns-clause-ok
returns-clause-ok c =
    let had : core_of c.args.self.now c.args.job ≡ c.index_mut.result.now.items =
    rw (← c.self.view_is)
    (viewed c.self.inside.cores.items c.args.job c.index_mut.result.now (omega arith) c.index_mut.ensures.value) in
    let none : c.index_mut.result.now.items ≡ [] = sym had ∙ c.requires.none_yet in
    let grown : c.fill.new.words.items ≡ replicate (c.args.blocks * 1024) 0 =
    c.fill.ensures.words ∙ ap (λ words. resized_words words c.args.blocks) none ∙ resized_words-none c.args.blocks in
    rw (← c.self.view_is) (rw (map-set, grown) refl)

pub returns-then-blocks-self-clause-store : goal.returns-then-blocks-self-clause-store
returns-then-blocks-self-clause-store c =
    rw (← c.self.view_is) (IsStore-viewed _ _ _ c.self.invariant)

pub returns-clause-store : goal.returns-clause-store
returns-clause-store c =
    rw (← c.self.view_is) (IsStore-viewed _ _ _ c.self.invariant)
