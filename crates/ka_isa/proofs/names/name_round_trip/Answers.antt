use Rattle.std.proofs.Common.{◌∙◌, refl}
use Rattle.ka_isa.proofs.DistinctLemmas.{named_of_name_of}
use Rattle.ka_isa.proofs.names.name_round_trip.Goals as goal

pub returns : goal.returns
returns c = c.named.ensures ∙ named_of_name_of c.args.op c.in_ok-mnemonic.field-0.now _ c.in_ok-mnemonic.ensures.name refl
