use Rattle.std.proofs.Common.{◌∙◌, ap}
use Rattle.std.proofs.lemmas.Result.{IfOk-weaker}
use Rattle.key_queues.specs.Stores.{number_of}
use Rattle.key_queues.proofs.Lists.{repeated_at}
use Rattle.key_queues.proofs.slot_list.no_counts.Goals as goal

pub returns-clause-zero : goal.returns-clause-zero
returns-clause-zero c =
    IfOk-weaker c.vec.result _ _ (λ v is job. ap (λ l. number_of l job) (is (λ y e. e)) ∙ repeated_at c.args.numbers job 0)
    c.vec.ensures.items_if_clones_equal
