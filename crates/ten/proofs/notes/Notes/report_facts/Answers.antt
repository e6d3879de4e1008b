use Rattle.std.proofs.Common.{◌≡◌, ◌++◌, ◌∙◌, List, ℕ, ap}
use Rattle.std.specs.Prelude.{string_bytes}
use Rattle.ten.specs.Reports.{AreCircles, AreFactLines, grant_lines, lock_lines}
use Rattle.ten.proofs.Adding.{made_so, some_both}
use Rattle.ten.proofs.notes.Notes.report_facts.Goals as goal

pub returns-clause-lines : goal.returns-clause-lines
returns-clause-lines c =
    let s = c.args.machine.now in
    let t = c.args.tick in
    let fs = c.args.facts.now in
    let first = c.args.errors.now in
    let second = c.say_made.new.self in
    let third = c.say_made-2.new.self in
    let last = c.report_circles.new.errors in
    some_both first second last
    (λ (x : List ℕ). x ≡ lock_lines c.args.self.now.locks s t fs)
    (λ (y : List ℕ). (circles : List ℕ) × (y ≡ grant_lines c.args.self.now.clocks t fs ++ circles) × AreCircles t s.world.requests fs circles)
    (AreFactLines c.args.self.now.locks c.args.self.now.clocks s t fs)
    (λ x y locks waits. record {
      circles = waits.0;
      are_circles = waits.2;
      is_text = ap (λ l. l ++ y) locks ∙ ap (λ l. lock_lines c.args.self.now.locks s t fs ++ l) waits.1;
    })
    (made_so c.lock_text.result string_bytes first second _ c.lock_text.ensures c.say_made.ensures.made c.say_made.ensures.lost)
    (some_both second third last
    (λ (y : List ℕ). y ≡ grant_lines c.args.self.now.clocks t fs) (AreCircles t s.world.requests fs) _
    (λ y z waits circles. (z, ap (λ l. l ++ z) waits, circles))
    (made_so c.wait_text.result string_bytes second third _ c.wait_text.ensures.text c.say_made-2.ensures.made c.say_made-2.ensures.lost)
    c.report_circles.ensures)
