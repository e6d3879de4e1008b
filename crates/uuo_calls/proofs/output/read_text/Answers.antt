use Rattle.std.proofs.Common.{◌≡◌, ◌-◌, ◌+◌, ◌*◌, ◌/◌, ◌∙◌, None, Some, length, refl, arith}
use Rattle.word36.specs.declared.sizes.TheConstants.{OUTPUT_RING}
use Rattle.ka_state.specs.Memory.{word_below}
use Rattle.uuo_calls.proofs.Texts.{text_from-zero, text-none, either-way}
use Rattle.uuo_calls.proofs.output.read_text.Goals as goal

pub returns-in_default-clause-text : goal.returns-in_default-clause-text
returns-in_default-clause-text g c =
    let i = c.loop-i.i in
    let at : 5 * i / 5 ≡ i = omega arith in
    let none : word_below c.args.regs.now.ac (g.M.ReadMemory.words c.loop-i.memory) (c.args.e + 5 * i / 5) ≡ None = rw at (cc) in
    let e =
    text-none c.args.regs.now.ac (g.M.ReadMemory.words c.loop-i.memory) c.args.e c.loop-i.text.items (OUTPUT_RING - 5 * i)
    (OUTPUT_RING - (5 * i + 1)) (5 * i) (omega (arith, c.loop-i-test.true)) c.loop-i.invariant.long none in
    rw (← c.loop-i.invariant.same, ← c.loop-i.invariant.rest) e

pub returns-then-not-add_word-clause-text : goal.returns-then-not-add_word-clause-text
returns-then-not-add_word-clause-text g c =
    let i = c.loop-i.i in
    let at : 5 * i / 5 ≡ i = omega arith in
    let some : word_below c.args.regs.now.ac (g.M.ReadMemory.words c.loop-i.memory) (c.args.e + length c.loop-i.text.items / 5)
    ≡ Some c.in-Some.word = rw (c.loop-i.invariant.long, at) (cc) in
    let left : OUTPUT_RING - 5 * i ≡ OUTPUT_RING - 5 * i - 5 + 5 = omega (arith, c.loop-i-test.true) in
    let e = c.add_word.ensures.ended c.if-not-add_word.true c.args.regs.now.ac (g.M.ReadMemory.words c.loop-i.memory) c.args.e (OUTPUT_RING - 5 * i - 5) some in
    rw (← c.loop-i.invariant.same, ← c.loop-i.invariant.rest, left) e

pub returns-in_default-word_kept-clause-text : goal.returns-in_default-word_kept-clause-text
returns-in_default-word_kept-clause-text g c =
    let last : c.loop-i.i ≡ 102 = omega (arith, c.loop-i-test.false, c.loop-i.auto.i-end) in
    let none : word_below c.args.regs.now.ac (g.M.ReadMemory.words c.loop-i.memory) (c.args.e + 510 / 5) ≡ None = cc in
    let e =
    text-none c.args.regs.now.ac (g.M.ReadMemory.words c.loop-i.memory) c.args.e c.loop-i.text.items
    (OUTPUT_RING - 5 * c.loop-i.i) 1 510 (omega (arith, last)) (omega (arith, last, c.loop-i.invariant.long)) none in
    rw (← c.loop-i.invariant.same, ← c.loop-i.invariant.rest) e

pub returns-clause-text : goal.returns-clause-text
returns-clause-text g c =
    let ac = c.args.regs.now.ac in
    let core = g.M.ReadMemory.words c.loop-i.memory in
    let last : c.loop-i.i ≡ 102 = omega (arith, c.loop-i-test.false, c.loop-i.auto.i-end) in
    let long : length c.loop-i.text.items / 5 ≡ 102 = omega (arith, last, c.loop-i.invariant.long) in
    let some : word_below ac core (c.args.e + length c.loop-i.text.items / 5) ≡ Some c.in-Some-word_kept.word = rw long (cc) in
    let left : OUTPUT_RING - 5 * c.loop-i.i ≡ 0 + 2 = omega (arith, last) in
    let e = either-way c.add_word-2.result _
    (λ goes. c.add_word-2.ensures.goes_on goes ac core c.args.e 0 some ∙ text_from-zero ac core c.args.e _ 0 refl)
    (λ ends. c.add_word-2.ensures.ended ends ac core c.args.e 0 some) in
    rw (← c.loop-i.invariant.same, ← c.loop-i.invariant.rest, left) e
