use Rattle.std.proofs.Common.{refl}
use Rattle.std.proofs.lemmas.List.{map-set}
use Rattle.core_store.proofs.Views.{IsStore-viewed}
use Rattle.core_store.proofs.plain.PlainCoreCoreStore.give.Goals as goal

pub returns-clause-core : goal.returns-clause-core
returns-clause-core c = rw (← c.blocks-2.ensures.value) (rw (← c.self.view_is) (rw (map-set, c.clear.ensures.items) refl))

pub returns-clause-store : goal.returns-clause-store
returns-clause-store c =
    rw (← c.self.view_is) (IsStore-viewed _ _ _ c.self.invariant)
