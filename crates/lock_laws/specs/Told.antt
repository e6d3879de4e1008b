-- The status words of a key, for all askers (this project's profile).
use Rattle.std.specs.Prelude.{◌≡◌, ℕ, ◌+◌, ◌^◌, ◌<◌, List, [], ◌∷◌}
use Rattle.lock_queue.specs.declared.key.Key.{Key}
use Rattle.lock_queue.specs.declared.request.Request.{Request}
use Rattle.lock_queue.specs.StatusWords.{status_of, words_of}
use Rattle.lock_laws.specs.Safe.{asker_bits}

-- the three words of a key are the same for all askers, but for bits 1 and 2 of the first, which speak of the asker
abbrev pub AllAreToldTheSame : List Request → Key → Type 0
AllAreToldTheSame requests key =
    (first : ℕ) × (second : ℕ) × (third : ℕ) × (first < 2 ^ 33)
    × ((asker : ℕ)
    → words_of (status_of requests key asker) ≡ (asker_bits (status_of requests key asker) + first) ∷ second ∷ third ∷ [])
