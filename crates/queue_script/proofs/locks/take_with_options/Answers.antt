use Rattle.std.proofs.Common.{Some, sym, take, arith, ◌∙◌}
use Rattle.script_io.proofs.NumberLemmas.{parts-nonempty}
use Rattle.queue_script.proofs.ItemLemmas.{characters-name, characters-apart, with_options}
use Rattle.queue_script.specs.declared.locks.LockName.TheVariants.{Spelled, Coded}
use Rattle.queue_script.proofs.locks.take_with_options.Goals as goal

pub returns-in-Some : goal.returns-in-Some
returns-in-Some c =
    let rest = c.requires.count (omega arith) in (
      Some (record { name = Spelled c.spelled-name.result; options = c.in-Some.options }),
      rw c.requires.text
          (rw c.between_blanks.ensures
          (rw c.spelled-name.ensures
          (with_options c.args.text.now _ _ c.args.count _ rest c.if-text-count-eq47.true
          (characters-apart (take c.args.count c.args.text.now) c.requires.named) c.in-Some.ensures
          (characters-name c.args.text.now c.args.count (λ e. omega arith) (omega (arith, rest)) c.requires.named)))),
      c.store_spelled.ensures,
    )

pub returns-in-Some-options_behind : goal.returns-in-Some-options_behind
returns-in-Some-options_behind c = (
  Some (record { name = Coded _; options = c.in-Some-options_behind.options }),
  rw c.requires.text (rw c.between_blanks-in-Some-options_behind.ensures (c.in-Some-options_behind.ensures _ c.in-Some-front_code.ensures.name)),
  c.store_or_refuse.ensures,
)

pub take_next-requires-clause-some : goal.take_next-requires-clause-some
take_next-requires-clause-some c = λ e. parts-nonempty 32 c.args.text.now (sym c.requires.text ∙ e)
