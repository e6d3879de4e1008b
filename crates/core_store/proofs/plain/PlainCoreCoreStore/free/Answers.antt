use Rattle.core_store.proofs.Views.{IsStore-viewed}
use Rattle.core_store.proofs.plain.PlainCoreCoreStore.free.Goals as goal

pub returns-clause-store : goal.returns-clause-store
returns-clause-store c =
    rw (← c.self.view_is) (IsStore-viewed _ _ _ c.self.invariant)
