use Rattle.std.proofs.Common.{◌≡◌, sym, ◌∙◌}
use Rattle.mac_text.specs.Names.{folded, sixbit_of, symbol_of}
use Rattle.mac_text.proofs.OperationLemmas.{folded_plain, operation_says}
use Rattle.mac_text.proofs.operations.operation.Goals as goal

pub returns : goal.returns
unfolding symbol_of
returns c =
    let name = folded c.args.name.now in
    let key : sixbit_of name ≡ c.sixbit.result = sym (c.sixbit.ensures ∙ c.of.ensures) in
    let says = operation_says name c.operation_of_key.result (c.operation_of_key.ensures name (folded_plain c.args.name.now c.requires) key) in
    record { form = says.form; named = says.named }
