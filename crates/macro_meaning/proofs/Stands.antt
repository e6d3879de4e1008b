-- What a source means by a table and the places of pools.
use Rattle.std.proofs.Common.{◌≡◌, ℕ, ℤ, List, Some, true, Result, Ok, Err}
use Rattle.std.specs.Prelude.{IsPermutation}
use Rattle.macro_expressions.specs.declared.fault.Stop.{Stop}
use Rattle.macro_expressions.specs.declared.fault.Stop.TheVariants.{Beyond}
use Rattle.macro_meaning.specs.Meaning.{Walk, IsLeft, IsMeant, Stands, is_settled, meaning}

pub left_by : (table : List (ℕ × ℤ)) (w : Walk) (words : List (ℕ × ℕ)) (start : ℕ)
    → w.start ≡ Some start → is_settled table w.defined ≡ true → IsPermutation w.words words → IsLeft table w words start
left_by table w words start starts settled same = record { settled = settled; same_words = same; start_is = starts }

pub left_stands : (table : List (ℕ × ℤ)) (left : Result Walk Stop) (w : Walk) (words : List (ℕ × ℕ)) (start : ℕ)
    → left ≡ Ok w → IsLeft table w words start → Stands table left words start
left_stands table left w words start is stands = rw is stands

pub beyond_stands : (table : List (ℕ × ℤ)) (left : Result Walk Stop) (words : List (ℕ × ℕ)) (start : ℕ)
    → left ≡ Err Beyond → Stands table left words start
beyond_stands table left words start is = rw is tt

pub is_meant_by : (table : List (ℕ × ℤ)) (pools : List ℤ) (source : List ℕ) (words : List (ℕ × ℕ)) (start : ℕ)
    → Stands table (meaning table pools source) words start → IsMeant source words start
is_meant_by table pools source words start stands = (table, pools, stands)
