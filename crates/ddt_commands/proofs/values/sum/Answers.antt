use Rattle.std.proofs.Common.{◌≡◌, ◌∙◌, ◌+◌, ◌-◌, ap, sym, length, rules, ℕ, ℤ, List, Option, w64, of_z, to_z, Ok, Err, Some, None}
use Rattle.std.proofs.lemmas.Int.{to_z-of_z}
use mir.Val.{SFits}
use Rattle.ddt_commands.specs.Values.{summand, sum_of, repeated}
use Rattle.ddt_commands.proofs.StepLemmas.{done, ends, fails, goes_on}
use Rattle.ddt_commands.proofs.values.sum.Goals as goal

pub returns-in-None : goal.returns-in-None
returns-in-None c =
    let value : ℤ = to_z w64 c.summands.value-bits in
    let rest : List ℕ = c.summand.new.reader.rest.now in
    let h : summand c.args.scope.now value c.summands.reader.rest.now ≡ Ok (c.in-Ok.step, rest) = c.in-Ok.ensures in
    let none : summand c.args.scope.now value c.summands.reader.rest.now ≡ Ok (None, rest) = h ∙ ap (λ (o : Option ℤ). Ok (o, rest)) c.in-None.is in
    ends (summand c.args.scope.now) _ c.summands.counter value c.summands.reader.rest.now _ _ c.summands-test.true none c.summands.invariant

pub returns-in-Err : goal.returns-in-Err
returns-in-Err c =
    let value : ℤ = to_z w64 c.summands.value-bits in
    let h : summand c.args.scope.now value c.summands.reader.rest.now ≡ Err c.in-Err.error = c.in-Err.ensures in
    fails (summand c.args.scope.now) _ c.summands.counter value c.summands.reader.rest.now _ _ c.summands-test.true h c.summands.invariant

pub summands-preserved : goal.summands-preserved
summands-preserved c =
    let value : ℤ = to_z w64 c.summands.value-bits in
    let rest : List ℕ = c.summand.new.reader.rest.now in
    let most : ℕ = length c.signed_product.new.reader.rest.now in
    let h : summand c.args.scope.now value c.summands.reader.rest.now ≡ Ok (c.in-Ok.step, rest) = c.in-Ok.ensures in
    let some : summand c.args.scope.now value c.summands.reader.rest.now ≡ Ok (Some c.in-Some.more, rest) =
    h ∙ ap (λ (o : Option ℤ). Ok (o, rest)) c.in-Some.is in
    let fits : SFits w64 c.in-Some.more = search rules in
    let same : to_z w64 (of_z w64 c.in-Some.more) ≡ c.in-Some.more = to_z-of_z w64 c.in-Some.more fits in
    ap (λ (v : ℤ). repeated (summand c.args.scope.now) (most - (c.summands.counter + 1)) v rest) same
    ∙ goes_on (summand c.args.scope.now) most c.summands.counter value c.in-Some.more c.summands.reader.rest.now rest
    (sum_of c.args.scope.now c.args.reader.now.rest.now) c.summands-test.true some c.summands.invariant

pub returns : goal.returns
returns c =
    let value : ℤ = to_z w64 c.summands.value-bits in
    done (summand c.args.scope.now) (length c.signed_product.new.reader.rest.now) c.summands.counter value c.summands.reader.rest.now
    (sum_of c.args.scope.now c.args.reader.now.rest.now) c.summands-test.false c.summands.invariant
