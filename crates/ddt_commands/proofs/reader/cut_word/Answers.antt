use Rattle.std.proofs.Common.{◌≡◌, ◌<◌, ◌+◌, ◌∙◌, sym, ap, ℕ, true, List, length, get_or, drop, arith}
use Rattle.ddt_commands.specs.Texts.{is_blank, trimmed}
use Rattle.ddt_commands.proofs.TextLemmas.{found, none_left}
use Rattle.ddt_commands.proofs.reader.cut_word.Goals as goal

pub returns-then-is_blank-clause-rest : goal.returns-then-is_blank-clause-rest
returns-then-is_blank-clause-rest c =
    let i : ℕ = c.loop-i.i in
    let within : i < length c.args.text.now = omega arith in
    let blank : is_blank (get_or c.args.text.now i 0) ≡ true = sym c.is_blank.ensures ∙ c.if-is_blank.true in
    let place = found is_blank c.args.text.now i within blank c.loop-i.invariant in
    c.trimmed.ensures ∙ ap trimmed (c.behind.ensures ∙ ap (λ (n : ℕ). drop (n + 1) c.args.text.now) place)

pub returns-clause-rest : goal.returns-clause-rest
returns-clause-rest c = sym (none_left c.args.text.now c.loop-i.i (omega arith) c.loop-i.invariant)
