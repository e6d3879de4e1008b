-- A job that goes on alone makes a run that nobody notices.
use Rattle.std.proofs.Common.{◌≡◌, ◌≢◌, ◌<◌, ◌≤◌, ◌+◌, ◌∙◌, sym, ap, subst, ℕ, zero, suc, ◌&&◌, ◌||◌, not, Bool, true, false, cond, List, [], ◌∷◌, ◌++◌, length, Option, Some, None, is_some, slice_set, refl, arith, inl, inr}
use Rattle.std.specs.Prelude.{unwrap_or}
use Rattle.std.specs.Option.{option_map}
use Rattle.std.proofs.lemmas.Bool.{and_parts, cases_eq, cases_lt, false≢true}
use Rattle.std.proofs.lemmas.List.{get_or-set_other}
use Rattle.job_sched.specs.Tables.{job_at}
use Rattle.uuo_calls.specs.Performed.{World}
use Rattle.monitor_laws.proofs.Housing.{at-mapped}
use Rattle.job_order_laws.specs.Erased.{IsAtOnce, erased, turned_at_once}
use Rattle.job_order_laws.specs.Noticed.{is_noticed}
use Rattle.job_order_laws.specs.Orders.{IsQuietRun, IsSettled, Settles}
use Rattle.job_order_laws.specs.Places.{turn, with_slots}
use Rattle.job_order_laws.specs.Turned.{IsSound, V, can_run, stepped_on}
use Rattle.job_order_laws.proofs.AtOnce.{Made, at-once-system, made}
use Rattle.job_order_laws.proofs.Choosing.{Ran, ran}
use Rattle.job_order_laws.proofs.Commuting.{has-place}
use Rattle.job_order_laws.proofs.Slots.{turns_read_quotas_alone}
use Rattle.job_order_laws.proofs.Turning.{there}
use Rattle.job_moves.proofs.Resting.{R, erased-twice}
use Rattle.job_moves.specs.Laws.{IsKept, MovesAreNoticed, MovesKeep, SettledIsSettled}
use Rattle.job_moves.specs.Moves.{HasJobs, IsAwake, alone, has_limit, is_clear, is_clear_of, is_loud_turn, is_quiet, next, reads_clock, settled}

-- a turn at once, of a job that can run
runs-at-once : (v : V) (n : ℕ) → can_run v.machine.world n ≡ true → turned_at_once v n ≡ Some (erased (stepped_on v n))
runs-at-once v n h = ap (λ b. option_map erased (cond b (Some (stepped_on v n)) None)) h

-- a job that takes a turn can run
pub could-run : (v a : V) (n : ℕ) → turned_at_once v n ≡ Some a → can_run v.machine.world n ≡ true
could-run v a n e = let m : Made v a n = made v a n e in (ran v m.state n m.turn).runs

pub at-once : (v : V) → IsAwake v → IsAtOnce v
at-once v h = (h.sound, sym (ap (λ (u : V). u.machine.time) h.awake))

-- who is awake stays so
pub stays-awake : (v a : V) (n : ℕ) → IsAwake v → turned_at_once v n ≡ Some a → IsAwake a
stays-awake v a n h e =
    let m : Made v a n = made v a n e in
    record {
      sound = (at-once-system.keeps v a n (at-once v h) e).0;
      awake = ap erased (sym m.is) ∙ erased-twice m.state ∙ m.is;
    }

-- a turn changes no slot but its own
pub other-slot : (v a : V) (n m : ℕ) → IsSound v → m ≢ n → turned_at_once v n ≡ Some a → job_at a.machine.world.table.jobs m ≡ R (job_at v.machine.world.table.jobs m)
other-slot v a n m h ne e =
    let q : Made v a n = made v a n e in
    let r : Ran v q.state n = ran v q.state n q.turn in
    let w : World = v.machine.world in
    let t : ℕ = v.machine.time in
    let x : World = turn w t n in
    let low : n < length w.table.jobs = (has-place v.machine n r.job h r.at).slot in
    let same : x ≡ with_slots (slice_set w.table.jobs n (job_at x.table.jobs n)) x =
    turns_read_quotas_alone w w.table.jobs t n low low refl (λ k. refl) (ap is_some r.at) in
    ap (λ (u : V). job_at u.machine.world.table.jobs m) (sym q.is)
    ∙ at-mapped R q.state.machine.world.table.jobs m refl
    ∙ ap (λ (u : V). R (job_at u.machine.world.table.jobs m)) r.is
    ∙ ap (λ (u : World). R (job_at u.table.jobs m)) same
    ∙ ap R (get_or-set_other w.table.jobs n m (job_at x.table.jobs n) None ne)

pub jobs-stay : (count : ℕ) (v a : V) (n : ℕ) → IsAwake v → HasJobs count v → n ≤ count → turned_at_once v n ≡ Some a → HasJobs count a
jobs-stay count v a n h jobs low e m above =
    other-slot v a n m h.sound (λ is. absurd (omega (arith, is, above, low))) e ∙ ap R (jobs m above)

not-true : (b : Bool) → not b ≡ true → b ≡ false
not-true true h = sym h
not-true false h = refl

-- a state that another has gone on to
pub record GoesOn (count : ℕ) (v t : V) : Type 0 where
  pub turns : List ℕ
  pub quiet : IsQuietRun turned_at_once is_loud_turn v turns t
  pub awake : IsAwake t
  pub jobs : HasJobs count t

quiet-joined : (v u t : V) (ns ms : List ℕ) → IsQuietRun turned_at_once is_loud_turn v ns u → IsQuietRun turned_at_once is_loud_turn u ms t
    → IsQuietRun turned_at_once is_loud_turn v (ns ++ ms) t
quiet-joined v u t [] ms p q = subst (λ x. IsQuietRun turned_at_once is_loud_turn x ms t) (sym p) q
quiet-joined v u t (n ∷ ns) ms (a, by_n, quiet, run) q = (a, by_n, quiet, quiet-joined a u t ns ms run q)

pub alone-none : (n : ℕ) (v : V) → alone zero n v ≡ v
unfolding alone
alone-none n v = refl

pub alone-more : (most n : ℕ) (v a : V) → is_quiet v n ≡ true → turned_at_once v n ≡ Some a → alone (suc most) n v ≡ alone most n a
unfolding alone
alone-more most n v a quiet e = ap (λ b. cond b (alone most n (unwrap_or (turned_at_once v n) v)) v) quiet ∙ ap (λ o. alone most n (unwrap_or o v)) e

pub alone-stopped : (most n : ℕ) (v : V) → is_quiet v n ≡ false → alone most n v ≡ v
unfolding alone
alone-stopped zero n v loud = refl
alone-stopped (suc most) n v loud = ap (λ b. cond b (alone most n (unwrap_or (turned_at_once v n) v)) v) loud

goes-on : (count most n : ℕ) (v : V) → IsAwake v → HasJobs count v → n ≤ count → GoesOn count v (alone most n v)
goes-on count zero n v h jobs low =
    subst (GoesOn count v) (sym (alone-none n v)) (record { turns = []; quiet = refl; awake = h; jobs = jobs })
goes-on count (suc most) n v h jobs low = by_quiet (is_quiet v n) refl (λ a awake there. goes-on count most n a awake there low)
  where
    by_quiet : (b : Bool) → is_quiet v n ≡ b → ((a : V) → IsAwake a → HasJobs count a → GoesOn count a (alone most n a))
        → GoesOn count v (alone (suc most) n v)
    by_quiet false is next_turns = subst (GoesOn count v) (sym (alone-stopped (suc most) n v is)) (record { turns = []; quiet = refl; awake = h; jobs = jobs })
    by_quiet true is next_turns =
        let parts = and_parts (can_run v.machine.world n) (not (is_loud_turn v n)) is in
        let a : V = erased (stepped_on v n) in
        let e : turned_at_once v n ≡ Some a = runs-at-once v n parts.0 in
        let more : GoesOn count a (alone most n a) = next_turns a (stays-awake v a n h e) (jobs-stay count v a n h jobs low e) in
        subst (GoesOn count v) (sym (alone-more most n v a is e)) (record {
          turns = n ∷ more.turns;
          quiet = (a, e, not-true (is_loud_turn v n) parts.1, more.quiet);
          awake = more.awake;
          jobs = more.jobs;
        })

pub settled-none : (most : ℕ) (v : V) → settled most zero v ≡ v
unfolding settled
settled-none most v = refl

pub settled-more : (most count : ℕ) (v : V) → settled most (suc count) v ≡ alone most (suc count) (settled most count v)
unfolding settled
settled-more most count v = refl

pub all-go-on : (most count some : ℕ) (v : V) → IsAwake v → HasJobs count v → some ≤ count → GoesOn count v (settled most some v)
all-go-on most count zero v h jobs low =
    subst (GoesOn count v) (sym (settled-none most v)) (record { turns = []; quiet = refl; awake = h; jobs = jobs })
all-go-on most count (suc some) v h jobs low =
    let u : V = settled most some v in
    let before : GoesOn count v u = all-go-on most count some v h jobs (omega (arith, low)) in
    let more : GoesOn count u (alone most (suc some) u) = goes-on count most (suc some) u before.awake before.jobs low in
    subst (GoesOn count v) (sym (settled-more most some v)) (record {
      turns = before.turns ++ more.turns;
      quiet = quiet-joined v u (alone most (suc some) u) before.turns more.turns before.quiet more.quiet;
      awake = more.awake;
      jobs = more.jobs;
    })

-- what is clear
clear-more : (count : ℕ) (v : V) → is_clear (suc count) v ≡ true → (is_clear count v ≡ true) × (is_clear_of v (suc count) ≡ true)
unfolding is_clear
clear-more count v h = and_parts (is_clear count v) (is_clear_of v (suc count)) h

pub clear-at : (count n : ℕ) (v : V) → is_clear count v ≡ true → 1 ≤ n → n ≤ count → is_clear_of v n ≡ true
clear-at zero n v h some low = absurd (omega (arith, some, low))
clear-at (suc count) n v h some low =
    let parts = clear-more count v h in
    elim (cases_eq n (suc count)) [
      | inl is ↦ subst (λ m. is_clear_of v m ≡ true) (sym is) parts.1
      | inr ne ↦ clear-at count n v parts.0 some (omega (arith, ne, low))
    ]

pub clear-parts : (limit runs noticed asks : Bool) → not limit && (not runs || (noticed && not asks)) ≡ true → runs ≡ true
    → (limit ≡ false) × (noticed ≡ true) × (asks ≡ false)
clear-parts false true true false h run = (refl, refl, refl)
clear-parts false true true true h run = absurd (false≢true h)
clear-parts false true false asks h run = absurd (false≢true h)
clear-parts false false noticed asks h run = absurd (false≢true run)
clear-parts true runs noticed asks h run = absurd (false≢true h)

-- a job that can run is one of those that are there
pub number-of : (count n : ℕ) (v : V) → IsAwake v → HasJobs count v → can_run v.machine.world n ≡ true → (1 ≤ n) × (n ≤ count)
number-of count n v h jobs run =
    let w : World = v.machine.world in
    let here = there w.lines w.requests n (job_at w.table.jobs n) run in
    let some : Some here.0 ≢ None = λ e. cc in
    let positive : n ≢ 0 = λ e. some (sym here.1 ∙ ap (λ m. job_at w.table.jobs m) e ∙ h.sound.housed.none_0) in
    let below : count < n → ⊥ = λ above. some (sym here.1 ∙ jobs n above) in
    (omega (arith, positive), elim (cases_lt count n) [ inl above ↦ absurd (below above) | inr low ↦ omega (arith, low) ])

pub clear-settled : (count : ℕ) (v : V) → IsAwake v → HasJobs count v → is_clear count v ≡ true → IsSettled turned_at_once is_loud_turn v
clear-settled count v h jobs clear n a e quiet =
    let run : can_run v.machine.world n ≡ true = could-run v a n e in
    let number = number-of count n v h jobs run in
    let w : World = v.machine.world in
    let parts = clear-parts (has_limit w n) (can_run w n) (is_noticed w n) (reads_clock w n) (clear-at count n v clear number.0 number.1) run in
    false≢true (sym quiet ∙ ap (λ b. b || reads_clock w n) parts.1)

pub settled_is_settled : SettledIsSettled
settled_is_settled most count v h jobs clear =
    let x : GoesOn count v (settled most count v) = all-go-on most count count v h jobs (omega arith) in
    record { turns = x.turns; quiet = x.quiet; settled = clear-settled count (settled most count v) x.awake x.jobs clear }

-- a move
pub record Moved (most count : ℕ) (v t : V) (k : ℕ) : Type 0 where
  pub clear : is_clear count v ≡ true
  pub state : V
  pub turn : turned_at_once v (k + 1) ≡ Some state
  pub is : settled most count state ≡ t

pub moved : (most count : ℕ) (v t : V) (k : ℕ) → next most count v k ≡ Some t → Moved most count v t k
moved most count v t k = by_clear (is_clear count v) refl
  where
    by_turn : (o : Option V) → turned_at_once v (k + 1) ≡ o → is_clear count v ≡ true → option_map (settled most count) o ≡ Some t → Moved most count v t k
    by_turn None is clear e = cc
    by_turn (Some a) is clear e = record { clear = clear; state = a; turn = is; is = cc }

    by_clear : (b : Bool) → is_clear count v ≡ b → cond b (option_map (settled most count) (turned_at_once v (k + 1))) None ≡ Some t → Moved most count v t k
    by_clear true is e = by_turn (turned_at_once v (k + 1)) refl is e
    by_clear false is e = cc

pub moves_are_noticed : MovesAreNoticed
moves_are_noticed most count v t k h jobs low e clear =
    let m : Moved most count v t k = moved most count v t k e in
    let one : k + 1 ≤ count = omega (arith, low) in
    let w : World = v.machine.world in
    let run : can_run w (k + 1) ≡ true = could-run v m.state (k + 1) m.turn in
    let parts = clear-parts (has_limit w (k + 1)) (can_run w (k + 1)) (is_noticed w (k + 1)) (reads_clock w (k + 1))
    (clear-at count (k + 1) v m.clear (omega arith) one) run in
    let s : Settles turned_at_once is_loud_turn m.state (settled most count m.state) =
    settled_is_settled most count m.state (stays-awake v m.state (k + 1) h m.turn) (jobs-stay count v m.state (k + 1) h jobs one m.turn)
    (subst (λ u. is_clear count u ≡ true) (sym m.is) clear) in
    record { state = m.state; turn = m.turn; noticed = parts.1; settles = subst (Settles turned_at_once is_loud_turn m.state) m.is s }

pub moves_keep : MovesKeep
moves_keep most count v t k h low e =
    let m : Moved most count v t k = moved most count v t k e in
    let one : k + 1 ≤ count = omega (arith, low) in
    let x : GoesOn count m.state (settled most count m.state) =
    all-go-on most count count m.state (stays-awake v m.state (k + 1) h.awake m.turn) (jobs-stay count v m.state (k + 1) h.awake h.jobs one m.turn) (omega arith) in
    subst (IsKept count) m.is (record { awake = x.awake; jobs = x.jobs })
