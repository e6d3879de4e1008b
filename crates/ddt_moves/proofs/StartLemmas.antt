-- Jobs that are started one after the other.
use Rattle.std.proofs.Common.{◌≡◌, ◌<◌, ◌≤◌, ◌+◌, ◌-◌, ◌∙◌, ap, sym, refl, arith}
use Rattle.std.proofs.Common.{ℕ, suc, Bool, true, false, List, [], ◌∷◌}
use Rattle.std.specs.Prelude.{◌||◌, if◌then◌else◌}
use Rattle.std.specs.List.{list_any, range_with_len}
use Rattle.ddt_timeline.specs.Histories.{History, done}
use Rattle.ddt_timeline.specs.declared.entries.Entry.TheVariants.{Start}
use Rattle.ddt_moves.specs.Starts.{all_started, is_new}

-- what is left to be done, before the job n, is what all of it is
pub record IsLeft (n end : ℕ) (any : Bool) (h : History) (all : List ℕ) (before : History) : Type 0 where
  pub started : all_started (range_with_len n (end - n)) h ≡ all_started all before
  pub some : (any || list_any (is_new h) (range_with_len n (end - n))) ≡ list_any (is_new before) all
  pub none : any ≡ false → h ≡ before

next-number : (n end : ℕ) → n < end → range_with_len n (end - n) ≡ n ∷ range_with_len (n + 1) (end - (n + 1))
next-number n end within = ap (range_with_len n) (let e : end - n ≡ suc (end - (n + 1)) = omega arith in e)

or-true : (b : Bool) → (b || true) ≡ true
or-true true = refl
or-true false = refl

-- a job that was not started yet is
pub new-started : (n end : ℕ) (any : Bool) (h next : History) (all : List ℕ) (before : History)
    → IsLeft n end any h all before → n < end → is_new h n ≡ true → next ≡ done h (Start n ∷ [])
    → IsLeft (n + 1) end true next all before
new-started n end any h next all before left within new started = record {
  started =
      ap (all_started (range_with_len (n + 1) (end - (n + 1)))) started
      ∙ ap (λ (b : Bool). all_started (range_with_len (n + 1) (end - (n + 1))) (if b then done h (Start n ∷ []) else h)) (sym new)
      ∙ ap (λ (ns : List ℕ). all_started ns h) (sym (next-number n end within))
      ∙ left.started;
  some =
      sym (or-true any)
      ∙ ap (λ (b : Bool). any || (b || list_any (is_new h) (range_with_len (n + 1) (end - (n + 1))))) (sym new)
      ∙ ap (λ (ns : List ℕ). any || list_any (is_new h) ns) (sym (next-number n end within))
      ∙ left.some;
  none = λ no. cc;
}

-- and another one is passed over
pub other-passed : (n end : ℕ) (any : Bool) (h : History) (all : List ℕ) (before : History)
    → IsLeft n end any h all before → n < end → is_new h n ≡ false → IsLeft (n + 1) end any h all before
other-passed n end any h all before left within old = record {
  started =
      ap (λ (b : Bool). all_started (range_with_len (n + 1) (end - (n + 1))) (if b then done h (Start n ∷ []) else h)) (sym old)
      ∙ ap (λ (ns : List ℕ). all_started ns h) (sym (next-number n end within))
      ∙ left.started;
  some =
      ap (λ (b : Bool). any || (b || list_any (is_new h) (range_with_len (n + 1) (end - (n + 1))))) (sym old)
      ∙ ap (λ (ns : List ℕ). any || list_any (is_new h) ns) (sym (next-number n end within))
      ∙ left.some;
  none = left.none;
}

none-left : (n end : ℕ) → end ≤ n → range_with_len n (end - n) ≡ []
none-left n end over = ap (range_with_len n) (let e : end - n ≡ 0 = omega arith in e)

or-false : (b : Bool) → (b || false) ≡ b
or-false true = refl
or-false false = refl

-- where no job is left, all are started, and one was where any was not started yet
pub record IsDone (any : Bool) (h : History) (all : List ℕ) (before : History) : Type 0 where
  pub started : h ≡ all_started all before
  pub some : any ≡ list_any (is_new before) all
  pub none : any ≡ false → h ≡ before

pub all-passed : (n end : ℕ) (any : Bool) (h : History) (all : List ℕ) (before : History)
    → IsLeft n end any h all before → end ≤ n → IsDone any h all before
all-passed n end any h all before left over = record {
  started = ap (λ (ns : List ℕ). all_started ns h) (sym (none-left n end over)) ∙ left.started;
  some =
      sym (or-false any)
      ∙ ap (λ (ns : List ℕ). any || list_any (is_new h) ns) (sym (none-left n end over))
      ∙ left.some;
  none = left.none;
}
