use Rattle.std.proofs.Common.{◌∙◌, ◌<◌, length, map, Ok, sym, arith}
use Rattle.ka_isa.proofs.SearchLemmas.{same, differ, as_long, key_found, code_found, other_beside_key, no_code_found}
use Rattle.ka_isa.proofs.names.operation_in.Goals as goal

pub bounds-names-position : goal.bounds-names-position
bounds-names-position c = omega (arith, as_long c.args.names.now c.args.keys.now c.args.codes.now c.requires, c.in-Ok.ensures.bound)

pub bounds-codes-position : goal.bounds-codes-position
bounds-codes-position c =
    let within : c.in-Ok.position < length c.args.names.now =
    omega (arith, as_long c.args.names.now c.args.keys.now c.args.codes.now c.requires, c.in-Ok.ensures.bound) in
    (code_found c.args.names.now c.args.keys.now c.args.codes.now c.args.name.now c.in-Ok.position _ c.requires within
    (same _ _ (sym c.eq.ensures ∙ c.if-eq.true))).0

pub returns-then-eq : goal.returns-then-eq
returns-then-eq c =
    let within : c.in-Ok.position < length c.args.names.now =
    omega (arith, as_long c.args.names.now c.args.keys.now c.args.codes.now c.requires, c.in-Ok.ensures.bound) in
    (code_found c.args.names.now c.args.keys.now c.args.codes.now c.args.name.now c.in-Ok.position _ c.requires within
    (same _ _ (sym c.eq.ensures ∙ c.if-eq.true))).1

pub returns-else-eq : goal.returns-else-eq
returns-else-eq c =
    let key = key_found c.args.names.now c.args.keys.now c.args.codes.now c.key.result (Ok c.in-Ok.position) c.requires c.in-Ok.ensures.position in
    other_beside_key c.args.names.now c.args.keys.now c.args.codes.now c.args.name.now c.in-Ok.position _ c.requires
    c.in-Ok.ensures.bound (key.1 ∙ c.key.ensures) (differ _ _ (sym c.eq.ensures ∙ c.if-eq.false))

pub returns-in-Err : goal.returns-in-Err
returns-in-Err c =
    no_code_found (map (λ name. name.now) c.args.names.now) c.args.keys.now c.args.codes.now c.key.result c.in-Err.field-0
    c.args.name.now c.requires c.in-Err.ensures.position (sym c.key.ensures)
