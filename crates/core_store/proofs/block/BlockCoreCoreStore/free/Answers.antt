use Rattle.core_store.proofs.BlockStore.{IsStore-laid}
use Rattle.core_store.proofs.block.BlockCoreCoreStore.free.Goals as goal

pub returns-clause-store : goal.returns-clause-store
returns-clause-store c = IsStore-laid _ _ _ _ c.args.self.now.laid_out
