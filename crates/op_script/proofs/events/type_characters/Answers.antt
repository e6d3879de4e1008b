use Rattle.std.proofs.Common.{ap}
use Rattle.op_script.proofs.EventLemmas.{typed-more, typed-refused, typed-end}
use Rattle.op_script.proofs.events.type_characters.Goals as goal

pub returns-in-Some-clause-machine : goal.returns-in-Some-clause-machine
returns-in-Some-clause-machine g c =
    ap (λ t. t.machine)
    (typed-refused c.args.text.now c.characters.character-index c.args.line c.character-item.result c.characters.machine _ _
    c.characters-test.true
    c.character-item.is c.type_character.ensures.state c.characters.invariant c.in-Some.refusal c.in-Some.ensures.refusal)

pub returns-in-Some-clause-refusal : goal.returns-in-Some-clause-refusal
returns-in-Some-clause-refusal g c =
    ap (λ t. t.refusal)
    (typed-refused c.args.text.now c.characters.character-index c.args.line c.character-item.result c.characters.machine
    c.type_character.new.machine _ c.characters-test.true
    c.character-item.is c.type_character.ensures.state c.characters.invariant c.in-Some.refusal c.in-Some.ensures.refusal)

pub characters-preserved : goal.characters-preserved
characters-preserved g c =
    typed-more c.args.text.now c.characters.character-index c.args.line c.character-item.result c.characters.machine _ _
    c.characters-test.true c.character-item.is
    c.type_character.ensures.state c.characters.invariant c.in-None.ensures.refusal

pub returns-clause-machine : goal.returns-clause-machine
returns-clause-machine g c =
    ap (λ t. t.machine)
    (typed-end c.args.text.now c.characters.character-index c.args.line c.characters.machine _ c.characters-test.false
    c.characters.invariant)

pub returns-clause-refusal : goal.returns-clause-refusal
returns-clause-refusal g c =
    ap (λ t. t.refusal)
    (typed-end c.args.text.now c.characters.character-index c.args.line c.characters.machine _ c.characters-test.false
    c.characters.invariant)
