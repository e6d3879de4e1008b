use Rattle.std.proofs.Common.{◌<◌, ◌≤◌, ◌++◌, ◌∙◌, length, ap, subst, arith, length-append}
use Rattle.word36.specs.declared.sizes.TheConstants.{TAKEN_AT_ONCE}
use Rattle.machine.specs.declared.sizes.TheConstants.{MOST_TAKES}
use Rattle.op_script.proofs.EventLemmas.{taken-start, taken-last, taken-more, taken-refused, taken-other, taken-end}
use Rattle.op_script.proofs.events.take_characters.Goals as goal

pub takes-init : goal.takes-init
takes-init g c = record {
  taken = taken-start MOST_TAKES c.args.event.now c.args.machine.now _ c.requires;
  room = let n = ap length c.requires in omega arith;
}

pub takes-preserved : goal.takes-preserved
takes-preserved g c =
    let value = c.as_slice-characters.ensures.value in
    let pushed = c.extend.ensures ∙ ap (λ l. c.takes.text.items ++ l) value in
    let long : TAKEN_AT_ONCE ≤ length c.in-Text.taken = subst (λ l. TAKEN_AT_ONCE ≤ length l) value c.if-characters-lt-TAKEN_AT_ONCE.false in
    record {
      taken =
          taken-more c.takes.counter MOST_TAKES c.args.event.now c.takes.machine c.event.new.self c.takes.text.items _
          c.takes-test.true c.event.ensures.state c.takes.invariant.taken c.in-Text.taken c.extend.new.text.items
          c.in-Text.ensures.answer long pushed;
      room =
          let room = c.takes.invariant.room in
          let few = c.as_slice-characters.ensures.within in
          let n = ap length c.extend.ensures ∙ length-append c.takes.text.items c.as_slice-characters.result.now in omega arith;
    }

pub returns-then-characters-lt-TAKEN_AT_ONCE : goal.returns-then-characters-lt-TAKEN_AT_ONCE
returns-then-characters-lt-TAKEN_AT_ONCE g c =
    let value = c.as_slice-characters.ensures.value in
    let pushed = c.extend.ensures ∙ ap (λ l. c.takes.text.items ++ l) value in
    let short : length c.in-Text.taken < TAKEN_AT_ONCE = subst (λ l. length l < TAKEN_AT_ONCE) value c.if-characters-lt-TAKEN_AT_ONCE.true in
    let last =
    taken-last c.takes.counter MOST_TAKES c.args.event.now c.takes.machine c.event.new.self c.takes.text.items _
    c.takes-test.true c.event.ensures.state c.takes.invariant.taken c.in-Text.taken c.extend.new.text.items
    c.in-Text.ensures.answer short pushed in
    record { machine = ap (λ t. t.machine) last; text = ap (λ t. t.text) last; refusal = ap (λ t. t.refusal) last }

pub returns-in-Refused : goal.returns-in-Refused
returns-in-Refused g c =
    let refused =
    taken-refused c.takes.counter MOST_TAKES c.args.event.now c.takes.machine c.event.new.self c.takes.text.items _
    c.takes-test.true c.event.ensures.state c.takes.invariant.taken c.in-Refused.refusal c.in-Refused.ensures.answer in
    record { machine = ap (λ t. t.machine) refused; text = ap (λ t. t.text) refused; refusal = ap (λ t. t.refusal) refused }

pub returns-in_default : goal.returns-in_default
returns-in_default g c =
    let other =
    taken-other c.takes.counter MOST_TAKES c.args.event.now c.takes.machine c.event.new.self c.takes.text.items _
    c.takes-test.true c.event.ensures.state c.takes.invariant.taken c.event.result c.event.ensures.answer
    c.in_default.not-Text c.in_default.not-Refused in
    record { machine = ap (λ t. t.machine) other; text = ap (λ t. t.text) other; refusal = ap (λ t. t.refusal) other }

pub returns : goal.returns
returns g c =
    let end = taken-end c.takes.counter MOST_TAKES c.args.event.now c.takes.machine c.takes.text.items _ c.takes-test.false c.takes.invariant.taken in
    record { machine = ap (λ t. t.machine) end; text = ap (λ t. t.text) end; refusal = ap (λ t. t.refusal) end }
