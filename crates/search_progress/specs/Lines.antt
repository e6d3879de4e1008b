-- Lines on how far a long search is (this project's profile).
use Rattle.std.specs.Prelude.{◌≡◌, ◌++◌, ◌||◌, ℕ, ◌-◌, Bool, true, false, List, nat_lt, take, Option, codes, decimal, ◌^◌, min, ◌+◌}
use Rattle.std.specs.Io.KnownBytes.{Appends}
use Rattle.search_progress.specs.declared.progress.TheConstants.{EACH}

-- `met` states are met, and `done` of these are done; the line begins with `head`
abbrev pub progress_line : List ℕ → ℕ → ℕ → List ℕ
progress_line head met done =
    (head ++ decimal met) ++ (codes " states met, " ++ (decimal (met - done) ++ codes " waiting\n"))

-- a port, from t to t', got all of a line; or a beginning of it, after which it failed
abbrev pub GetsAll : Option (List ℕ) → Option (List ℕ) → Bool → List ℕ → Type 0
GetsAll t t' false line = Appends t t' line
GetsAll t t' true line = (n : ℕ) × Appends t t' (take n line)

-- a port got nothing if the observer is silent, and else a line, all of it unless the port failed
abbrev pub Tells : Bool → Option (List ℕ) → Option (List ℕ) → Bool → List ℕ → Type 0
Tells true t t' failed line = t' ≡ t
Tells false t t' failed line = GetsAll t t' failed line

-- nothing is reported if the port is closed, and while fewer states are met than the next line waits for
abbrev pub is_silent : Bool → ℕ → ℕ → Bool
is_silent is_closed next met = is_closed || nat_lt met next

-- when the next line is written: once 50,000 more states are met than at the last
abbrev pub next_line : Bool → ℕ → ℕ → ℕ
next_line true next met = next
next_line false next met = min (met + EACH) (2 ^ 64 - 1)
