use Rattle.std.proofs.Common.{◌≡◌, ◌∙◌, sym, ap, refl, ℕ, Bool, false, List, [], take, Some}
use Rattle.std.proofs.lemmas.Bool.{false≢true}
use Rattle.lock_queue.specs.Queue.{some_behind}
use Rattle.lock_queue.specs.Waits.{waits_hard_for}
use Rattle.lock_queue.specs.declared.request.Request.{Request}
use Rattle.lock_queue.specs.declared.want.Want.{Want}
use Rattle.wait_graph.specs.LockWaits.{is_kept_from, want_at, want_kept}
use Rattle.lock_bars.specs.Arrows.{IsLockBetween}
use Rattle.lock_bars.proofs.arrows.lock_of.Goals as goal

-- what is found where it is known whether the other owns the lock
lock_found : (requests : List Request) (job other : ℕ) (is_held : Bool) (position : ℕ) (want : Want)
    → is_held ≡ waits_hard_for requests job other → want_at (want_kept is_held job other) requests position ≡ Some want
    → some_behind (is_kept_from is_held job other) [] (take position requests) ≡ false
    → IsLockBetween requests job other (Some want.key)
lock_found requests job other is_held position want held lock first = record {
  position = position;
  want = want;
  lock = sym (ap (λ h. want_at (want_kept h job other) requests position) held) ∙ lock;
  first = sym (ap (λ h. some_behind (is_kept_from h job other) [] (take position requests)) held) ∙ first;
  named = refl;
}

pub returns-in-Some : goal.returns-in-Some
returns-in-Some c =
    let found = c.in-Some.ensures in
    lock_found c.args.requests.now c.args.job c.args.other c.in-Some.between.is_held c.in-Some.between.position
    c.in-Some.between.want.now found.held found.lock found.first

pub returns-in-None : goal.returns-in-None
returns-in-None c = absurd (false≢true (sym (c.in-None.ensures.none refl) ∙ c.requires.waits))
