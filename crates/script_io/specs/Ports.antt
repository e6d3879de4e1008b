-- What a read and a write do to the bytes of a port whose bytes are known (this project's profile).
use Rattle.std.specs.Prelude.{◌≡◌, ◌<◌, ◌≤◌, ℕ, Bool, true, false, List, length, take, Option, Result, MatchResult}
use Rattle.std.specs.Io.KnownBytes.{Appends, Consumes, IsAtEnd, Keeps}

-- A read of a piece: its first n bytes are the next bytes of the port, and one read fewer is left if n is not 0; n is 0 only
-- at the end. A failure takes nothing, and the port remembers it.
abbrev pub Reads : {E : Type 0}
    → Option (List ℕ) → Option (List ℕ) → ℕ → ℕ → Bool → Result ℕ E → List ℕ → Type 0
Reads old new reads_old reads_new failed r piece = MatchResult r
    (λ n. (n ≤ length piece) × Consumes old new (take n piece) × (failed ≡ false)
    × (n ≡ 0 → IsAtEnd new) × (reads_new ≤ reads_old) × (0 < n → reads_new < reads_old))
    (λ _. Keeps old new × (failed ≡ true))

-- A write of a piece takes at least one byte from its front. A failure takes none, and the port remembers it.
abbrev pub Writes : {E : Type 0} → Option (List ℕ) → Option (List ℕ) → Bool → Result ℕ E → List ℕ → Type 0
Writes old new failed r piece = MatchResult r
    (λ n. (0 < n) × (n ≤ length piece) × Appends old new (take n piece) × (failed ≡ false))
    (λ _. Keeps old new × (failed ≡ true))

-- A write of all: on success every byte was written, on failure a beginning of them.
abbrev pub WritesAll : {T E : Type 0} → Option (List ℕ) → Option (List ℕ) → Bool → Result T E → List ℕ → Type 0
WritesAll old new failed r bytes = MatchResult r
    (λ _. Appends old new bytes × (failed ≡ false))
    (λ _. ((n : ℕ) × Appends old new (take n bytes)) × (failed ≡ true))
