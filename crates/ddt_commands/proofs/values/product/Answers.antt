use Rattle.std.proofs.Common.{◌≡◌, ◌∙◌, ◌+◌, ◌-◌, ap, sym, length, rules, ℕ, ℤ, List, Option, w64, of_z, to_z, Ok, Err, Some, None}
use Rattle.std.proofs.lemmas.Int.{to_z-of_z}
use mir.Val.{SFits}
use Rattle.ddt_commands.specs.Values.{factor, product_of, repeated}
use Rattle.ddt_commands.proofs.StepLemmas.{done, ends, fails, goes_on}
use Rattle.ddt_commands.proofs.values.product.Goals as goal

pub returns-in-None : goal.returns-in-None
returns-in-None c =
    let value : ℤ = to_z w64 c.factors.value-bits in
    let rest : List ℕ = c.factor.new.reader.rest.now in
    let h : factor c.args.scope.now value c.factors.reader.rest.now ≡ Ok (c.in-Ok.step, rest) = c.in-Ok.ensures in
    let none : factor c.args.scope.now value c.factors.reader.rest.now ≡ Ok (None, rest) = h ∙ ap (λ (o : Option ℤ). Ok (o, rest)) c.in-None.is in
    ends (factor c.args.scope.now) _ c.factors.counter value c.factors.reader.rest.now _ _ c.factors-test.true none c.factors.invariant

pub returns-in-Err : goal.returns-in-Err
returns-in-Err c =
    let value : ℤ = to_z w64 c.factors.value-bits in
    let h : factor c.args.scope.now value c.factors.reader.rest.now ≡ Err c.in-Err.error = c.in-Err.ensures in
    fails (factor c.args.scope.now) _ c.factors.counter value c.factors.reader.rest.now _ _ c.factors-test.true h c.factors.invariant

pub factors-preserved : goal.factors-preserved
factors-preserved c =
    let value : ℤ = to_z w64 c.factors.value-bits in
    let rest : List ℕ = c.factor.new.reader.rest.now in
    let most : ℕ = length c.term.new.reader.rest.now in
    let h : factor c.args.scope.now value c.factors.reader.rest.now ≡ Ok (c.in-Ok.step, rest) = c.in-Ok.ensures in
    let some : factor c.args.scope.now value c.factors.reader.rest.now ≡ Ok (Some c.in-Some.more, rest) =
    h ∙ ap (λ (o : Option ℤ). Ok (o, rest)) c.in-Some.is in
    let fits : SFits w64 c.in-Some.more = search rules in
    let same : to_z w64 (of_z w64 c.in-Some.more) ≡ c.in-Some.more = to_z-of_z w64 c.in-Some.more fits in
    ap (λ (v : ℤ). repeated (factor c.args.scope.now) (most - (c.factors.counter + 1)) v rest) same
    ∙ goes_on (factor c.args.scope.now) most c.factors.counter value c.in-Some.more c.factors.reader.rest.now rest
    (product_of c.args.scope.now c.args.reader.now.rest.now) c.factors-test.true some c.factors.invariant

pub returns : goal.returns
returns c =
    let value : ℤ = to_z w64 c.factors.value-bits in
    done (factor c.args.scope.now) (length c.term.new.reader.rest.now) c.factors.counter value c.factors.reader.rest.now
    (product_of c.args.scope.now c.args.reader.now.rest.now) c.factors-test.false c.factors.invariant
