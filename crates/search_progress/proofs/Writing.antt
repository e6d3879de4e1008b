-- Texts that are written to a port in pieces.
use Rattle.std.proofs.Common.{◌≡◌, ◌+◌, ◌++◌, ◌∙◌, ℕ, Bool, List, Option, Result, Ok, Err, true, length, min, take, sym, subst}
use Rattle.std.proofs.Math.Nat.{min-le_right}
use Rattle.std.proofs.Math.Seq.{take-append-add}
use Rattle.std.proofs.lemmas.List.{take-append-le, take_min}
use Rattle.std.specs.Io.KnownBytes.{Appends}
use Rattle.std.proofs.KnownBytes.{Appends-trans}
use Rattle.std.specs.Prelude.{is_err}
use Rattle.search_progress.specs.Lines.{GetsAll}
use Rattle.script_io.specs.Ports.{WritesAll}

-- a write of all fails where the port has failed
pub fails_with : {T E : Type 0} (old new : Option (List ℕ)) (failed : Bool) (r : Result T E) (bytes : List ℕ)
    → WritesAll old new failed r bytes → is_err r ≡ failed
fails_with old new failed (Ok u) bytes h = sym h.1
fails_with old new failed (Err e) bytes h = sym h.1

-- where it was asked whether a write of all failed, all was written, or a beginning
pub gets_all : {T E : Type 0} (old new : Option (List ℕ)) (failed : Bool) (r : Result T E) (asked : Bool) (bytes : List ℕ)
    → asked ≡ is_err r → WritesAll old new failed r bytes → GetsAll old new asked bytes
gets_all old new failed (Ok u) asked bytes is h = subst (λ b. GetsAll old new b bytes) (sym is) h.0
gets_all old new failed (Err e) asked bytes is h = subst (λ b. GetsAll old new b bytes) (sym is) h.0

-- a write that failed behind a beginning of some bytes, which followed others, did so behind a beginning of both
pub cut_behind : (old mid new : Option (List ℕ)) (failed : Bool) (a b : List ℕ) → Appends old mid a
    → ((n : ℕ) × Appends mid new (take n b)) × (failed ≡ true) → ((n : ℕ) × Appends old new (take n (a ++ b))) × (failed ≡ true)
cut_behind old mid new failed a b p h = (
  (
    length a + h.0.0,
    subst (λ l. Appends old new l) (sym (take-append-add a b h.0.0)) (Appends-trans old mid new a (take h.0.0 b) p h.0.1),
  ),
  h.1,
)

-- a write of all behind another writes both
pub both_written : {T E : Type 0} (old mid new : Option (List ℕ)) (failed : Bool) (r : Result T E) (a b : List ℕ)
    → Appends old mid a → WritesAll mid new failed r b → WritesAll old new failed r (a ++ b)
both_written old mid new failed (Ok u) a b p h = (Appends-trans old mid new a b p h.0, h.1)
both_written old mid new failed (Err e) a b p h = cut_behind old mid new failed a b p h

-- a write that failed behind a beginning of some bytes did so behind a beginning of them and more
pub cut_short : (old new : Option (List ℕ)) (failed : Bool) (a b : List ℕ)
    → ((n : ℕ) × Appends old new (take n a)) × (failed ≡ true) → ((n : ℕ) × Appends old new (take n (a ++ b))) × (failed ≡ true)
cut_short old new failed a b h =
    let n = min h.0.0 (length a) in
    let same : take n (a ++ b) ≡ take h.0.0 a =
    take-append-le n a b (min-le_right h.0.0 (length a)) ∙ take_min h.0.0 a in
    ((n, subst (λ l. Appends old new l) (sym same) h.0.1), h.1)
