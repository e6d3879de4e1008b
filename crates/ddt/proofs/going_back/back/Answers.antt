use Rattle.std.proofs.Common.{◌≡◌, ◌+◌, ◌-◌, ◌++◌, ◌∙◌, ap, arith}
use Rattle.ddt_timeline.specs.Timelines.{steps_in}
use Rattle.ddt_timeline.specs.Views.{history}
use Rattle.ddt.proofs.Adding.{steps_append}
use Rattle.ddt.proofs.going_back.back.Goals as goal

pub returns-clause-there : goal.returns-clause-there
returns-clause-there c = λ whole few within.
    let h = history c.args.timeline.now in
    let sum : steps_in (h.past ++ h.ahead) ≡ steps_in h.past + steps_in h.ahead = steps_append h.past h.ahead in
    let made : c.steps-made.result ≡ steps_in h.past = omega arith in
    c.put_back.ensures.there whole (omega arith) ∙ ap (λ n. n - c.args.steps) made
