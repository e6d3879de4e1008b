use Rattle.std.proofs.Common.{◌≡◌, Some, get_or, sym, ap, ◌∙◌}
use Rattle.ka_isa.specs.declared.names.TheConstants.{KEYS, CODES}
use Rattle.ka_isa.proofs.KeyLemmas.{operation_at, means, means_nothing, found_key}
use Rattle.ka_isa.proofs.names.operation_of_key.Goals as goal

pub operation_meaning-requires : goal.operation_meaning-requires
operation_meaning-requires c = (operation_at c.in-Ok.position c.in-Ok.ensures.bound).1.small

pub returns-in-Ok : goal.returns-in-Ok
returns-in-Ok c name plain e =
    let position = c.in-Ok.position in
    let here : get_or KEYS position 0 ≡ c.args.key = found_key _ _ (c.in-Ok.ensures.ok 0) in
    ap Some c.operation_meaning.ensures
    ∙ means (get_or KEYS position 0) (get_or CODES position 0) name (operation_at position c.in-Ok.ensures.bound).1 plain
    (e ∙ sym here)

pub returns-in-Err : goal.returns-in-Err
returns-in-Err c name plain e = means_nothing c.args.key c.in-Err.field-0 name c.in-Err.ensures.position e
