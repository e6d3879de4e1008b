use Rattle.std.proofs.Common.{arith, rules}
use Rattle.queue_script.proofs.ItemLemmas.{options-end, options-blank, options-slash}
use Rattle.queue_script.proofs.options.front_options.Goals as goal

pub returns-then-length-rest : goal.returns-then-length-rest
returns-then-length-rest c =
    c.loop-option.invariant.goes_on _ _
    (options-end _ _ _ _ _ c.if-length-rest.true c.in_ok-option.ensures.characters c.in_ok-option.ensures.option (c.add.ensures.added c.if-not-add.false))

pub returns-then-rest-length-eq32 : goal.returns-then-rest-length-eq32
returns-then-rest-length-eq32 c =
    let within = c.in_ok-option.ensures.within in
    c.loop-option.invariant.goes_on _ _
    (options-blank _ _ _ _ _ (omega (arith, within, c.if-length-rest.false)) c.if-rest-length-eq32.true
    c.in_ok-option.ensures.characters c.in_ok-option.ensures.option (c.add.ensures.added c.if-not-add.false))

pub loop-option-preserved : goal.loop-option-preserved
loop-option-preserved c =
    let within = c.in_ok-option.ensures.within in record {
      goes_on = λ last others spells.
          c.loop-option.invariant.goes_on _ _
          (options-slash _ _ _ _ _ _ _ (omega (arith, within, c.if-length-rest.false)) c.if-rest-length-ne47.false
          c.in_ok-option.ensures.characters c.in_ok-option.ensures.option (c.add.ensures.added c.if-not-add.false) spells);
      within = search rules;
    }
