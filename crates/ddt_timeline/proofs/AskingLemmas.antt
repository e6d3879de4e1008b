-- A watch that makes one round more.
use Rattle.std.proofs.Common.{◌≡◌, ◌<◌, ◌≤◌, ◌∙◌, ◌+◌, ◌&&◌, ap, sym, refl, subst, ℕ, zero, suc, ◌-◌, Bool, true, false, Option, Some, None, arith}
use Rattle.std.proofs.lemmas.Bool.{and_parts, false_from_ne_true, false≢true}
use Rattle.std.specs.Prelude.{is_none}
use Rattle.machine.specs.Machine.{S, after}
use Rattle.machine.specs.Rounds.{rounds}
use Rattle.ddt_timeline.specs.Asking.{Asked, AskedLast}

-- a round that ends no run, where no stop holds
pub both-none : (b : Bool) (stop : Option ℕ) → stop ≡ None → (b && is_none stop) ≡ false → b ≡ false
both-none true stop none quiet = absurd (false≢true (sym quiet ∙ ap (λ (o : Option ℕ). is_none o) none))
both-none false stop none quiet = refl

-- it made all rounds so far, where none of them ended the run
pub asked_so_far : {W : Type 0} (asks : W → W → S → Bool → Type 0) (s : S) (w u : W) (made : ℕ) (stop : Option ℕ) (by_watch : Bool)
    → stop ≡ None → by_watch ≡ false → (made ≡ 0 → u ≡ w)
    → (1 ≤ made → AskedLast asks s w u made stop by_watch)
    → Asked asks s w u made
asked_so_far asks s w u zero stop by_watch none quiet fresh later = fresh refl
asked_so_far asks s w u (suc k) stop by_watch none quiet fresh later =
    let some : 1 ≤ suc k = omega arith in
    let one : suc k - 1 ≡ k = omega arith in
    let x = later some in
    let goes_on : x.1 ≡ false = both-none x.1 stop none (sym x.4 ∙ quiet) in (
      x.0,
      subst (λ (n : ℕ). Asked asks s w x.0 n) one x.2,
      subst (λ (n : ℕ). asks x.0 u (after (rounds n true) s) false) one
          (subst (λ (b : Bool). asks x.0 u (after (rounds (suc k - 1) true) s) b) goes_on x.3),
    )

-- and one round more, which begins in m
pub asked_more : {W : Type 0} (asks : W → W → S → Bool → Type 0) (s : S) (w v u : W) (m : S) (made made' : ℕ) (stop : Option ℕ)
    (ends by_watch : Bool)
    → made' - 1 ≡ made → m ≡ after (rounds made true) s → Asked asks s w v made → asks v u m ends → by_watch ≡ (ends && is_none stop)
    → AskedLast asks s w u made' stop by_watch
asked_more asks s w v u m made made' stop ends by_watch one at before last is = (
  v,
  ends,
  subst (λ (n : ℕ). Asked asks s w v n) (sym one) before,
  subst (λ (n : ℕ). asks v u (after (rounds n true) s) ends) (sym one) (subst (λ (x : S). asks v u x ends) at last),
  is,
)

pub none-by : (o : Option ℕ) → is_none o ≡ true → o ≡ None
none-by None is = refl
none-by (Some x) is = absurd (false≢true is)

-- a watch ends a run only where no stop does
pub no_stop_by : (ends by_watch : Bool) (stop : Option ℕ) → by_watch ≡ (ends && is_none stop) → by_watch ≡ true → stop ≡ None
no_stop_by ends by_watch stop is ended = none-by stop (and_parts ends (is_none stop) (sym is ∙ ended)).1

-- and only where it makes the rounds
pub watched_by : (is_watched ends by_watch : Bool) (stop : Option ℕ) → by_watch ≡ (ends && is_none stop) → by_watch ≡ true
    → (is_watched ≡ false → ends ≡ false)
    → is_watched ≡ true
watched_by true ends by_watch stop is ended quiet = refl
watched_by false ends by_watch stop is ended quiet =
    absurd (false≢true (sym (quiet refl) ∙ (and_parts ends (is_none stop) (sym is ∙ ended)).0))
