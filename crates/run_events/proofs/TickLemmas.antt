-- The limits that end, by the set that a tick tells.
use Rattle.std.proofs.Common.{◌≡◌, ◌≢◌, ◌∙◌, sym, ap, ℕ, Bool, true, false, cond, List, [], ◌∷◌, Option, Some, None, refl, ◌++◌, ◌==◌, length}
use Rattle.std.proofs.lemmas.Bool.{false≢true}
use Rattle.std.specs.List.{cons_option, filter_map}
use Rattle.lock_queue.specs.Jobs.{is_among}
use Rattle.lock_queue.specs.declared.request.Request.{Request}
use Rattle.job_sched.specs.Limits.{expires}
use Rattle.job_sched.specs.declared.job.Job.{Job}
use Rattle.job_sched.proofs.Limits.{nobody}
use Rattle.machine.specs.Waits.{ungranted}
use Rattle.run_events.specs.Facts.{ended_fact, granted_facts, limit_fact, with_grants}
use Rattle.run_events.specs.Grants.{waiting_id}
use Rattle.run_events.specs.declared.facts.Fact.{Fact}
use Rattle.run_events.specs.declared.facts.Fact.TheVariants.{LimitEnded}

some-bit : (ended n : ℕ) → is_among ended n ≡ true → ended ≢ 0
some-bit ended n bit none = false≢true (sym (nobody n) ∙ sym (ap (λ (k : ℕ). is_among k n) none) ∙ bit)

by-bit : (ended : ℕ) (before requests : List Request) (table : List (Option Job)) (n : ℕ) (b : Bool) → is_among ended n ≡ b
    → is_among ended n ≡ expires requests table n → (ended ≢ 0 → before ≡ ungranted requests) → ended_fact ended before n ≡ limit_fact requests table n
by-bit ended before requests table n true bit is kept =
    ap (λ (b : Bool). cond b (Some (LimitEnded n (waiting_id before n))) None) bit
    ∙ ap (λ (l : List Request). Some (LimitEnded n (waiting_id l n))) (kept (some-bit ended n bit))
    ∙ sym (ap (λ (b : Bool). cond b (Some (LimitEnded n (waiting_id (ungranted requests) n))) None) (sym is ∙ bit))
by-bit ended before requests table n false bit is kept =
    ap (λ (b : Bool). cond b (Some (LimitEnded n (waiting_id before n))) None) bit
    ∙ sym (ap (λ (b : Bool). cond b (Some (LimitEnded n (waiting_id (ungranted requests) n))) None) (sym is ∙ bit))

all-same : (f g : ℕ → Option Fact) → ((n : ℕ) → f n ≡ g n) → (l : List ℕ) → filter_map f l ≡ filter_map g l
all-same f g e [] = refl
all-same f g e (x ∷ xs) = ap (λ (o : Option Fact). cons_option o (filter_map f xs)) (e x) ∙ ap (λ (l : List Fact). cons_option (g x) l) (all-same f g e xs)

none-of : (f : ℕ → Option Fact) → ((n : ℕ) → f n ≡ None) → (l : List ℕ) → filter_map f l ≡ []
none-of f e [] = refl
none-of f e (x ∷ xs) = ap (λ (o : Option Fact). cons_option o (filter_map f xs)) (e x) ∙ none-of f e xs

-- the facts of the set are those of the limits
pub limits_told : (ended : ℕ) (before requests : List Request) (table : List (Option Job)) (l : List ℕ)
    → ((n : ℕ) → is_among ended n ≡ expires requests table n) → (ended ≢ 0 → before ≡ ungranted requests)
    → filter_map (ended_fact ended before) l ≡ filter_map (limit_fact requests table) l
limits_told ended before requests table l is kept =
    all-same (ended_fact ended before) (limit_fact requests table) (λ n. by-bit ended before requests table n (is_among ended n) refl (is n) kept) l

-- where the set is empty no limit ends
pub no_limits : (ended : ℕ) (requests : List Request) (table : List (Option Job)) (l : List ℕ) → ended ≡ 0
    → ((n : ℕ) → is_among ended n ≡ expires requests table n) → filter_map (limit_fact requests table) l ≡ []
no_limits ended requests table l none is =
    none-of (limit_fact requests table)
    (λ n. ap (λ (b : Bool). cond b (Some (LimitEnded n (waiting_id (ungranted requests) n))) None)
    (sym (is n) ∙ ap (λ (k : ℕ). is_among k n) none ∙ nobody n)) l

-- no limit ends where none expires
pub none-calm : (requests : List Request) (table : List (Option Job)) (l : List ℕ) → ((n : ℕ) → expires requests table n ≡ false)
    → filter_map (limit_fact requests table) l ≡ []
none-calm requests table l calm =
    none-of (limit_fact requests table) (λ n. ap (λ (b : Bool). cond b (Some (LimitEnded n (waiting_id (ungranted requests) n))) None) (calm n)) l

-- the facts on some limits, and the grants behind them
pub with-all : (before after : List Request) (f g all : List Fact) → f ≡ g → (length f == 0) ≡ false
    → all ≡ f ++ granted_facts before after → all ≡ with_grants before after g
with-all before after [] g all e some is = absurd (false≢true (sym some))
with-all before after (x ∷ l) g all e some is = is ∙ ap (λ (m : List Fact). with_grants before after m) e
