use Rattle.std.proofs.Common.{◌≡◌, ◌++◌, ◌∙◌, List, ℕ, ap, refl}
use Rattle.std.specs.Prelude.{codes, string_bytes}
use Rattle.source_labels.specs.Spots.{spot_words}
use Rattle.ten.specs.Jobs.{IsSpotText}
use Rattle.ten.proofs.Adding.{made_so, some_both, some_of}
use Rattle.ten.proofs.jobs.report_spot.Goals as goal

pub returns : goal.returns
returns c =
    let words : List ℕ = spot_words c.args.job.now.places c.args.place in
    some_both c.args.errors.now c.say.new.self c.say_made.new.self (λ (t : List ℕ). t ≡ codes " at ") (λ (t : List ℕ). t ≡ words)
    (IsSpotText c.args.job.now.places c.args.place) (λ x y head spot. ap (λ l. l ++ y) head ∙ ap (λ l. codes " at " ++ l) spot)
    (some_of c.args.errors.now c.say.new.self (codes " at ") (λ (t : List ℕ). t ≡ codes " at ") c.say.ensures refl)
    (made_so c.format.result string_bytes c.say.new.self c.say_made.new.self (λ (t : List ℕ). t ≡ words)
    (rw (← c.spot-spot.ensures.places, ← c.spot-spot.ensures.place) c.format.ensures.ok) c.say_made.ensures.made c.say_made.ensures.lost)
