use Rattle.std.proofs.Common.{◌≡◌, ◌<◌, ◌≤◌, ◌∙◌, length, sym, arith}
use Rattle.std.proofs.lemmas.List.{ext_get_or, get_or-replicate, length-replicate}
use Rattle.tty_lines.specs.Rings.{all_clear, no_characters}
use Rattle.word36.specs.declared.sizes.TheConstants.{LINES}
use Rattle.job_orders.proofs.looking.busy_line.Goals as goal

pub returns-clause-none : goal.returns-clause-none
returns-clause-none c = λ none.
    let end : LINES ≤ c.loop-line.line = omega arith in
    ext_get_or no_characters c.args.lines.now all_clear (c.requires ∙ sym (length-replicate LINES no_characters))
    (λ k low.
    let below : k < LINES = (let long : length c.args.lines.now ≡ LINES = c.requires in omega (arith, low, long)) in
    c.loop-line.invariant k (omega (arith, below, end)) ∙ sym (get_or-replicate LINES k no_characters no_characters below))
