-- A watch that makes each round of a run (this project's profile).
use Rattle.std.specs.Prelude.{◌≡◌, ℕ, zero, suc, ◌-◌, ◌&&◌, is_none, Bool, true, false, Option}
use Rattle.machine.specs.Machine.{S, after}
use Rattle.machine.specs.Rounds.{rounds}
use Rattle.ddt_timeline.specs.declared.stops.Run.{Run}

-- a watch, w at first and u now, made so many rounds from a state on, and ended the run after none; what a round makes of a watch
-- is said by `asks`
abbrev pub Asked : {W : Type 0} → (W → W → S → Bool → Type 0) → S → W → W → ℕ → Type 0
Asked asks s w u zero = u ≡ w
Asked {W} asks s w u (suc k) = (v : W) × Asked asks s w v k × asks v u (after (rounds k true) s) false

-- it made these rounds, and ended the run after the last, if no stop holds there
abbrev pub AskedLast : {W : Type 0} → (W → W → S → Bool → Type 0) → S → W → W → ℕ → Option ℕ → Bool → Type 0
AskedLast {W} asks s w u made stop by_watch =
    (v : W) × (ends : Bool) × Asked asks s w v (made - 1) × asks v u (after (rounds (made - 1) true) s) ends
    × (by_watch ≡ (ends && is_none stop))

-- it made each round of a run
abbrev pub IsAsked : {W : Type 0} → (W → W → S → Bool → Type 0) → S → W → W → Run → Type 0
IsAsked asks s w u ran = AskedLast asks s w u ran.made ran.stop ran.by_watch
