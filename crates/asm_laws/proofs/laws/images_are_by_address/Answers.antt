use Rattle.std.proofs.Common.{◌∙◌, ap, sym, subst, nat_eq}
use Rattle.std.specs.List.Sorted.{IsStrictlyIncreasing}
use Rattle.std.specs.Map.{lookup, keys_of}
use Rattle.asm_laws.proofs.Rising.{addresses_rise, words_are_kept}
use Rattle.asm_laws.proofs.laws.images_are_by_address.Goals as goal

pub returns : goal.returns
returns c = λ source image assembly. record {
  rising = subst (λ l. IsStrictlyIncreasing (keys_of l)) (sym assembly.words_are) (addresses_rise assembly.words);
  same = λ address below. ap (λ l. lookup (nat_eq address) l) assembly.words_are ∙ words_are_kept assembly.words address below;
}
