-- What is kept of an input (this project's profile).
use Rattle.std.specs.Prelude.{◌≡◌, ℕ, List, drop}

-- a text is the end of another, or all of it
abbrev pub IsEndOf : List ℕ → List ℕ → Type 0
IsEndOf whole text = (n : ℕ) × (text ≡ drop n whole)
