use Rattle.std.proofs.Common.{◌≡◌, ◌∷◌, ◌∙◌, ◌<◌, sym, rules}
use Rattle.run_commands.proofs.TextLemmas.{reads-more, reads-fault, reads-end, reads-within}
use Rattle.run_commands.proofs.texts.TypedText.read.Goals as goal

pub returns-in_err-spelled : goal.returns-in_err-spelled
returns-in_err-spelled c =
    let is : c.loop-first.rest.now ≡ c.in-Some.first.now ∷ c.in-Some.more.now = search rules in
    c.from_residual.ensures ∙ reads-fault _ _ _ _ _ is (sym c.in_err-spelled.ensures.value) c.loop-first.invariant.spelled

pub loop-first-preserved : goal.loop-first-preserved
loop-first-preserved c =
    let is : c.loop-first.rest.now ≡ c.in-Some.first.now ∷ c.in-Some.more.now = search rules in
    let spelled = c.in_ok-spelled.ensures.value in
    let some : 0 < c.in_ok-spelled.spelled.length = c.in_ok-spelled.ensures.within.0 in
    record {
      spelled = reads-more _ _ _ _ _ _ c.in_ok-spelled.spelled is (sym spelled) some c.push.ensures c.loop-first.invariant.spelled;
      room = reads-within _ _ _ _ _ c.in_ok-spelled.spelled.character _ _ is c.push.ensures some c.in_ok-spelled.ensures.within.1 c.loop-first.invariant.room;
    }

pub returns : goal.returns
returns c = reads-end _ _ _ c.in_default.ensures.cases c.loop-first.invariant.spelled
