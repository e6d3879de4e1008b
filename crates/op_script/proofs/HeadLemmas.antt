-- An option more of the head of a script.
use Rattle.std.proofs.Common.{◌≡◌, ◌∙◌, ℕ, true, false, List, ◌∷◌, Option, Some, None, cond, ap, sym}
use Rattle.std.specs.Prelude.{bytes_eq, codes, option_and_then}
use Rattle.word36.specs.declared.sizes.TheConstants.{MOST_BLOCKS}
use Rattle.machine.specs.Setups.{Setup}
use Rattle.machine.specs.declared.sizes.TheConstants.{MOST_QUANTUM}
use Rattle.script_io.specs.Numbers.{number}
use Rattle.op_script.specs.Heads.{head_from}

module _ (b q n : ℕ) (all rest more : List (List ℕ)) (name value : List ℕ) (whole : Option Setup)
    (here : all ≡ name ∷ rest) (later : rest ≡ value ∷ more) (before : head_from b q all ≡ whole) where
  abbrev for_blocks : Option ℕ → Option Setup
  for_blocks o = option_and_then (λ m. head_from m q more) o

  abbrev for_quantum : Option ℕ → Option Setup
  for_quantum o = option_and_then (λ m. head_from b m more) o

  abbrev other : Option Setup
  other = cond (bytes_eq name (codes "--quantum")) (for_quantum (number 10 MOST_QUANTUM value)) None

  split : head_from b q (name ∷ value ∷ more) ≡ whole
  split = sym (ap (head_from b q) (here ∙ ap (λ l. name ∷ l) later)) ∙ before

  pub blocks_more : bytes_eq name (codes "--blocks") ≡ true → Some n ≡ number 10 MOST_BLOCKS value → head_from n q more ≡ whole
  blocks_more is read =
      ap for_blocks read
      ∙ sym (ap (λ t. cond t (for_blocks (number 10 MOST_BLOCKS value)) other) is)
      ∙ split

  pub quantum_more : bytes_eq name (codes "--blocks") ≡ false → bytes_eq name (codes "--quantum") ≡ true
      → Some n ≡ number 10 MOST_QUANTUM value
      → head_from b n more ≡ whole
  quantum_more differs is read =
      ap for_quantum read
      ∙ sym (ap (λ t. cond t (for_quantum (number 10 MOST_QUANTUM value)) None) is)
      ∙ sym (ap (λ t. cond t (for_blocks (number 10 MOST_BLOCKS value)) other) differs)
      ∙ split
