use Rattle.std.proofs.Common.{◌≡◌, ◌<◌, ◌-◌, ◌+◌, ◌/◌, ◌∙◌, ◌∷◌, ap, sym, drop, refl, arith}
use Rattle.std.proofs.Math.ListN.{set, length-set}
use Rattle.ddt_show.proofs.RadixLemmas.{digit_put, digits_begun, digits_left, digits_none, first_digit, next_digit}
use Rattle.ddt_show.proofs.word_text.digits_of.Goals as goal

pub loop-count-init : goal.loop-count-init
loop-count-init c = record { size = refl; digits = digits_begun c.args.radix c.args.number }

pub returns-then-left-eq0-clause-digits : goal.returns-then-left-eq0-clause-digits
returns-then-left-eq0-clause-digits c =
    let l = c.loop-count in
    digit_put l.room l.count c.digit.result c.loop-count-test.true l.invariant.size
    ∙ ap (λ x. x ∷ drop (64 - l.count) l.room) c.digit.ensures
    ∙ sym (first_digit l.count c.args.radix l.left (drop (64 - l.count) l.room) c.loop-count-test.true c.if-left-eq0.true)
    ∙ l.invariant.digits

pub loop-count-preserved : goal.loop-count-preserved
loop-count-preserved c =
    let l = c.loop-count in
    let radix = c.args.radix in
    let at : 64 - (l.count + 1) ≡ 63 - l.count = omega arith in
    let more : 0 < l.left / radix = omega arith in
    let digits_so =
    ap (λ k. digits_left (64 - (l.count + 1)) radix (l.left / radix) (drop k (set l.room (63 - l.count) c.digit.result))) at
    ∙ ap (λ d. digits_left (64 - (l.count + 1)) radix (l.left / radix) d)
    (digit_put l.room l.count c.digit.result c.loop-count-test.true l.invariant.size
    ∙ ap (λ x. x ∷ drop (64 - l.count) l.room) c.digit.ensures)
    ∙ sym (next_digit l.count radix l.left (drop (64 - l.count) l.room) c.loop-count-test.true more)
    ∙ l.invariant.digits in
    record { size = length-set l.room (63 - l.count) c.digit.result ∙ l.invariant.size; digits = digits_so }

pub returns-clause-digits : goal.returns-clause-digits
returns-clause-digits c =
    let l = c.loop-count in
    let end : 64 - l.count ≡ 0 = omega arith in
    sym (digits_none (64 - l.count) c.args.radix l.left l.room end) ∙ l.invariant.digits
