use Rattle.std.proofs.Common.{◌∙◌, ap, sym, length, arith}
use Rattle.std.specs.Option.{option_copied}
use Rattle.std.proofs.lemmas.List.{length-map}
use Rattle.std.proofs.lemmas.Bool.{ltb-false}
use Rattle.std.proofs.lemmas.Bool.Decides.{nat_tests}
use Rattle.ka_isa.proofs.TableLemmas.{is_entry_read, none_past, entry_name, entry_short, entry_none}
use Rattle.ka_isa.proofs.mnemonics.name_in.Goals as goal

pub returns-in_err-name-clause-name : goal.returns-in_err-name-clause-name
returns-in_err-name-clause-name c =
    let past = ltb-false c.args.op (length c.args.names.now) (sym c.in_err-name.ensures.lookup.0) in
    ap option_copied c.from_residual.ensures ∙ none_past _ c.args.op c.requires (omega (arith, length-map c.args.names.now (λ name. name.now)))

pub returns-then-is_empty-clause-name : goal.returns-then-is_empty-clause-name
returns-then-is_empty-clause-name c =
    entry_none _ _ (is_entry_read _ c.args.op _ _ c.requires c.in_ok-name.ensures.lookup.0 c.in_ok-name.ensures.lookup.1) (grind (arith, nat_tests))

pub returns-else-is_empty-clause-name : goal.returns-else-is_empty-clause-name
returns-else-is_empty-clause-name c =
    entry_name _ _ (is_entry_read _ c.args.op _ _ c.requires c.in_ok-name.ensures.lookup.0 c.in_ok-name.ensures.lookup.1) (grind (arith, nat_tests))

pub returns-else-is_empty-clause-short : goal.returns-else-is_empty-clause-short
returns-else-is_empty-clause-short c =
    entry_short _ _ (is_entry_read _ c.args.op _ _ c.requires c.in_ok-name.ensures.lookup.0 c.in_ok-name.ensures.lookup.1)
