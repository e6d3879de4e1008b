use Rattle.core_store.proofs.BlockStore.{IsStore-laid}
use Rattle.core_store.proofs.block.BlockCoreCoreStore.resize.Goals as goal

pub returns-then-blocks-self-clause-store : goal.returns-then-blocks-self-clause-store
returns-then-blocks-self-clause-store c = IsStore-laid _ _ _ _ c.args.self.now.laid_out

pub returns-clause-store : goal.returns-clause-store
returns-clause-store c = IsStore-laid _ _ _ _ c.args.self.now.laid_out
