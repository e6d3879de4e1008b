use Rattle.std.proofs.Common.{◌≡◌, ◌∙◌, Some, None, ap, sym, rules}
use Rattle.ka_isa.proofs.MeaningLemmas.{named_of_call, named_of_operation, code_below}
use Rattle.ka_isa.specs.Operations.{operations, calls, call_meaning, call_in, code_in}
use Rattle.std.specs.Option.{option_map}
use Rattle.ka_isa.proofs.KeyLemmas.{tables_agree}
use Rattle.ka_isa.proofs.names.named.Goals as goal

pub operation_in-requires : goal.operation_in-requires
operation_in-requires c = tables_agree

pub operation_meaning-requires : goal.operation_meaning-requires
operation_meaning-requires c =
    let is : Some c.in-Some.code ≡ code_in operations c.args.name.now = search rules in
    code_below c.args.name.now c.in-Some.code is

pub returns-in-Some : goal.returns-in-Some
returns-in-Some c =
    let is : Some c.in-Some.code ≡ code_in operations c.args.name.now = search rules in
    ap Some c.operation_meaning.ensures ∙ sym (named_of_operation c.args.name.now c.in-Some.code is)

pub returns-in_err-call-in-None : goal.returns-in_err-call-in-None
unfolding calls
returns-in_err-call-in-None c =
    let no_operation : None ≡ code_in operations c.args.name.now = search rules in
    let looked_up : c.call_in.result ≡ call_in calls c.args.name.now = c.call_in.ensures in
    let meaning = named_of_call c.args.name.now no_operation ∙ ap (option_map call_meaning) (sym looked_up ∙ c.in_err-call-in-None.was) in
    c.from_residual.ensures ∙ sym meaning

pub returns-in_ok-call-in-None : goal.returns-in_ok-call-in-None
unfolding calls
returns-in_ok-call-in-None c =
    let no_operation : None ≡ code_in operations c.args.name.now = search rules in
    let looked_up : c.call_in.result ≡ call_in calls c.args.name.now = c.call_in.ensures in
    let meaning = named_of_call c.args.name.now no_operation ∙ ap (option_map call_meaning) (sym looked_up ∙ c.in_ok-call-in-None.was) in
    ap Some c.call_meaning.ensures ∙ sym meaning
