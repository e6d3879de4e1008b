-- Faults that are passed on by what gives words and an image.
use Rattle.std.proofs.Common.{◌≡◌, ℕ, List, Result, Ok, Err}
use Rattle.mac_layout.specs.Faults.{Fault}
use Rattle.mac_asm.specs.Outcome.{and_words, image_with}

pub and-err : (first : List (ℕ × ℕ)) (r : Result (List (ℕ × ℕ)) Fault) (fault : Fault) → and_words first r ≡ Err fault → r ≡ Err fault
and-err first (Ok more) fault h = absurd (cc)
and-err first (Err g) fault h = cc

pub image-err : (start : ℕ) (r : Result (List (ℕ × ℕ)) Fault) (fault : Fault) → image_with start r ≡ Err fault → r ≡ Err fault
image-err start (Ok ws) fault h = absurd (cc)
image-err start (Err g) fault h = cc
