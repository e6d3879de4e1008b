use Rattle.std.proofs.Common.{◌≡◌, ◌++◌, ◌∙◌, List, ℕ, [], ap, refl, rules}
use Rattle.std.specs.Prelude.{codes, string_bytes, if◌then◌else◌}
use Rattle.run_notes.specs.Standings.{IsStandingText}
use Rattle.ten.specs.Jobs.{IsIllegalText, IsSpotText, StandsSo, is_waiting, spot_text, told_place}
use Rattle.ten.proofs.Adding.{made_so, some_both, some_of}
use Rattle.ten.proofs.jobs.RunningJob.report_standing.Goals as goal

pub returns : goal.returns
returns c = λ same.
    let s = c.args.machine.now in
    let me = c.args.self.now in
    let requests = s.world.requests in
    let job = me.traced.number in
    let places = me.traced.places in
    let standing = c.args.standing in
    let place : ℕ = told_place s me standing in
    let e0 = c.args.errors.now in
    let e1 = c.say_made.new.self in
    let e2 = c.say.new.self in
    let e3 = c.report_spot.new.errors in
    let e4 = c.report_illegal.new.errors in
    let comma : List ℕ = if is_waiting standing then codes "," else [] in
    let Illegal = λ (t : List ℕ). IsIllegalText s.world places job place standing t in
    some_both e0 e1 e4 (IsStandingText requests job standing)
    (λ (y : List ℕ). (illegal : List ℕ) × Illegal illegal × (y ≡ comma ++ (spot_text places place ++ illegal)))
    (StandsSo s me standing)
    (λ x y words rest. record {
      words = x;
      illegal = rest.0;
      is_standing = words;
      is_illegal = rest.1;
      is_text = ap (λ l. x ++ l) rest.2;
    })
    (made_so c.standing_text.result string_bytes e0 e1 (IsStandingText requests job standing)
    (rw same c.standing_text.ensures) c.say_made.ensures.made c.say_made.ensures.lost)
    (some_both e1 e2 e4 (λ (y : List ℕ). y ≡ comma)
    (λ (y : List ℕ). (illegal : List ℕ) × Illegal illegal × (y ≡ spot_text places place ++ illegal)) _
    (λ x y first rest. (rest.0, rest.1, ap (λ l. l ++ y) first ∙ ap (λ l. comma ++ l) rest.2))
    (some_of e1 e2 comma (λ (y : List ℕ). y ≡ comma) (search rules) refl)
    (some_both e2 e3 e4 (IsSpotText places place) Illegal _
    (λ x y at words. (y, words, ap (λ l. l ++ y) at))
    (rw (← c.place-place.ensures) c.report_spot.ensures) (rw (← c.place-place.ensures) c.report_illegal.ensures)))
