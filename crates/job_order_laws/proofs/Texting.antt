-- What each job of a run puts out is what events take from its line, followed by what still stands there.
use Rattle.std.proofs.Common.{◌≡◌, ◌≢◌, ◌⊎◌, ◌<◌, ◌∙◌, sym, ap, subst, ℕ, ◌==◌, ◌&&◌, Bool, true, false, cond, List, [], ◌∷◌, ◌++◌, append_assoc, drop, take, length, Option, Some, None, is_none, inl, inr, refl}
use Rattle.std.proofs.Common.{slice_index_or, slice_set}
use Rattle.std.proofs.lemmas.Bool.{both_ways, cases_eq, eq-eqb, eqb-true}
use Rattle.std.proofs.lemmas.List.{append-nil, get_or-set_other, get_or-set_same, length-set, take-append-drop}
use Rattle.std.specs.Option.{option_map}
use Rattle.tty_lines.specs.Rings.{Rings, output_of, with_output}
use Rattle.lock_queue.specs.Jobs.{is_waiting_job}
use Rattle.job_sched.proofs.Limits.{limited-kept}
use Rattle.job_sched.specs.Changes.{with_change}
use Rattle.job_sched.specs.Jobs.{broken_job, going_on, halted, ticked_job}
use Rattle.job_sched.specs.Limits.{limited_job}
use Rattle.job_sched.specs.Tables.{job_at}
use Rattle.job_sched.specs.declared.job.Job.{Job}
use Rattle.job_sched.specs.declared.job.Stop.TheVariants as stop
use Rattle.job_sched.specs.declared.job.Wait.TheVariants.{Room}
use Rattle.uuo_calls.specs.Performed.{World}
use Rattle.uuo_calls.proofs.Tests.{by_test}
use Rattle.machine.specs.Machine.{S, broken}
use Rattle.machine.specs.Safe.{line_of}
use Rattle.monitor_laws.proofs.Housing.{at-mapped}
use Rattle.job_order_laws.specs.Ticked.{tick}
use Rattle.job_order_laws.specs.Places.{turn}
use Rattle.job_order_laws.specs.Turned.{V, steered}
use Rattle.job_order_laws.proofs.Choosing.{Ran as DidRun, ran as did-turn}
use Rattle.job_order_laws.proofs.Likeness.{Stayed, Took}
use Rattle.job_order_laws.proofs.LineTurns.{FineSlot}
use Rattle.job_order_laws.proofs.OtherRows.{rings-other}
use Rattle.job_order_laws.proofs.OwnRows.{rings-set}
use Rattle.job_order_laws.proofs.Returning.{slot-ticked}

-- a line is that of job n alone
pub record Owns (s : S) (n line : ℕ) : Type 0 where
  pub mine : (l : ℕ) → line_of (job_at s.world.table.jobs n) ≡ Some l → l ≡ line
  pub only : (m : ℕ) → line_of (job_at s.world.table.jobs m) ≡ Some line → m ≡ n

-- no job has a line that it did not have
abbrev pub SameLines : S → S → Type 0
SameLines s t = (m l : ℕ) → line_of (job_at t.world.table.jobs m) ≡ Some l → line_of (job_at s.world.table.jobs m) ≡ Some l

pub owns-still : (s t : S) (n line : ℕ) → SameLines s t → Owns s n line → Owns t n line
owns-still s t n line same h = record { mine = λ l e. h.mine l (same n l e); only = λ m e. h.only m (same m line e) }

-- what a job has put out is what was taken, followed by what still stands at its line
pub record Tells (s : S) (v : V) (n line : ℕ) (text : List ℕ) : Type 0 where
  pub owns : Owns s n line
  pub place : n < length v.texts
  pub text_is : slice_index_or v.texts n [] ≡ text ++ output_of s.world.lines line

pub tells-still : (s t : S) (v : V) (n line : ℕ) (text : List ℕ) → SameLines s t → t.world.lines ≡ s.world.lines → Tells s v n line text → Tells t v n line (text ++ [])
tells-still s t v n line text same lines h = record {
  owns = owns-still s t n line same h.owns;
  place = h.place;
  text_is = h.text_is ∙ ap (λ ls. text ++ output_of ls line) (sym lines) ∙ ap (λ (x : List ℕ). x ++ output_of t.world.lines line) (sym (append-nil text));
}

-- jobs keep their lines
pub broken-lines : (s : S) (line : ℕ) → SameLines s (record s { world = broken s.world line })
broken-lines s line m l e = by_slot (job_at s.world.table.jobs m) (ap line_of (sym (at-mapped (option_map (broken_job line)) s.world.table.jobs m refl)) ∙ e)
  where
    by_slot : (o : Option Job) → line_of (option_map (broken_job line) o) ≡ Some l → line_of o ≡ Some l
    by_slot None e = e
    by_slot (Some i) e =
        by_test (λ (k : Job). line_of (Some k) ≡ Some l → Some i.line ≡ Some l) ((i.line == line) && is_none i.stop) (halted i stop.Typed) i (λ _ x. x) (λ _ x. x) e

pub going-lines : (s : S) (n : ℕ) → n < length s.world.table.jobs → SameLines s (record s { world = record s.world { table = with_change s.world.table n going_on } })
going-lines s n low m l e = elim (cases_eq m n) [
  | inl is ↦ subst (λ k. line_of (job_at s.world.table.jobs k) ≡ Some l) (sym is)
      (by_slot (job_at s.world.table.jobs n)
      (ap line_of (sym (get_or-set_same s.world.table.jobs n (option_map going_on (job_at s.world.table.jobs n)) None low))
      ∙ subst (λ k. line_of (job_at (slice_set s.world.table.jobs n (option_map going_on (job_at s.world.table.jobs n))) k) ≡ Some l) is e))
  | inr ne ↦ ap line_of (sym (get_or-set_other s.world.table.jobs n m _ None ne)) ∙ e
]
  where
    by_slot : (o : Option Job) → line_of (option_map going_on o) ≡ Some l → line_of o ≡ Some l
    by_slot None e = e
    by_slot (Some i) e = e

pub ticked-lines : (w : World) (m l : ℕ) → line_of (job_at (tick w).table.jobs m) ≡ Some l → line_of (job_at w.table.jobs m) ≡ Some l
ticked-lines w m l e = by_slot (job_at w.table.jobs m) (ap line_of (sym (slot-ticked w m)) ∙ e)
  where
    by_slot : (o : Option Job) → line_of (option_map (limited_job (is_waiting_job w.requests m)) (option_map ticked_job o)) ≡ Some l → line_of o ≡ Some l
    by_slot None e = e
    by_slot (Some i) e = ap Some (sym (limited-kept (is_waiting_job w.requests m) (ticked_job i)).line) ∙ e

-- a text is taken from the front
pub tells-taken : (s : S) (v : V) (n line l k : ℕ) (text : List ℕ) → l < length s.world.lines → Tells s v n line text
    → Tells (record s { world = record s.world { lines = with_output s.world.lines l (drop k (output_of s.world.lines l)) } }) v n line
    (text ++ cond (l == line) (take k (output_of s.world.lines l)) [])
tells-taken s v n line l k text low h = record {
  owns = owns-still s _ n line (λ m a e. e) h.owns;
  place = h.place;
  text_is = by_line (l == line) refl;
}
  where
    by_line : (b : Bool) → (l == line) ≡ b
        → slice_index_or v.texts n [] ≡ (text ++ cond b (take k (output_of s.world.lines l)) []) ++ output_of (with_output s.world.lines l (drop k (output_of s.world.lines l))) line
    by_line true is =
        let here : l ≡ line = eqb-true l line is in
        let out : output_of (with_output s.world.lines l (drop k (output_of s.world.lines l))) line ≡ drop k (output_of s.world.lines l) =
        subst (λ m. output_of (with_output s.world.lines l (drop k (output_of s.world.lines l))) m ≡ drop k (output_of s.world.lines l)) here
        (ap (λ (r : Rings). r.output) (rings-set s.world.lines l _ low)) in
        h.text_is
        ∙ ap (λ m. text ++ output_of s.world.lines m) (sym here)
        ∙ ap (λ x. text ++ x) (sym (take-append-drop k (output_of s.world.lines l)))
        ∙ sym (append_assoc text (take k (output_of s.world.lines l)) (drop k (output_of s.world.lines l)))
        ∙ ap (λ x. (text ++ take k (output_of s.world.lines l)) ++ x) (sym out)
    by_line false is =
        let apart : line ≢ l = λ e. both_ways (l == line) is (eq-eqb l line (sym e)) in
        h.text_is
        ∙ ap (λ x. text ++ x) (sym (ap (λ (r : Rings). r.output) (rings-other s.world.lines l line _ apart)))
        ∙ ap (λ (x : List ℕ). x ++ output_of (with_output s.world.lines l (drop k (output_of s.world.lines l))) line) (sym (append-nil text))

-- a turn of the run
nil-first : (a b : List ℕ) → [] ≡ a ++ b → a ≡ []
nil-first [] b e = refl
nil-first (x ∷ a) b e = cc

slot-line : (line l : ℕ) (o : Option Job) → FineSlot line o → line_of o ≡ Some l → l ≡ line
slot-line line l None fine e = cc
slot-line line l (Some j) fine e = let same : j.line ≡ l = cc in sym same ∙ fine.2

took-lines : (s : S) (v : V) (m current left : ℕ) (i j : Job) → Took s v m i j → m < length s.world.table.jobs → job_at s.world.table.jobs m ≡ Some i
    → SameLines s (record s { world = steered current left (turn s.world s.time m) })
took-lines s v m current left i j x low at k l e = elim (cases_eq k m) [
  | inl is ↦ (
      let own : line_of (job_at (turn s.world s.time m).table.jobs m) ≡ Some l = subst (λ q. line_of (job_at (turn s.world s.time m).table.jobs q) ≡ Some l) is e in
      let line : l ≡ i.line = slot-line i.line l (job_at (turn s.world s.time m).table.jobs m) x.fine own in
      subst (λ q. line_of (job_at s.world.table.jobs q) ≡ Some l) (sym is) (ap line_of at ∙ ap Some (sym line)))
  | inr ne ↦ ap line_of (sym (ap (λ jobs. job_at jobs k) x.jobs ∙ get_or-set_other s.world.table.jobs m k _ None ne)) ∙ e
]

pub stayed-lines : (s : S) (v : V) (n current left : ℕ) (i j : Job) → Stayed s v n j → n < length s.world.table.jobs
    → job_at s.world.table.jobs n ≡ Some i → j.line ≡ i.line → SameLines s (record s { world = steered current left (turn s.world s.time n) })
stayed-lines s v n current left i j x low at same_line k l e = elim (cases_eq k n) [
  | inl is ↦ (
      let own : line_of (job_at (slice_set s.world.table.jobs n (Some (record j { wait = Room x.places }))) n) ≡ Some l =
      subst (λ q. line_of (job_at (slice_set s.world.table.jobs n (Some (record j { wait = Room x.places }))) q) ≡ Some l) is
      (sym (ap (λ jobs. line_of (job_at jobs k)) x.jobs) ∙ e) in
      subst (λ q. line_of (job_at s.world.table.jobs q) ≡ Some l) (sym is)
      (ap line_of at ∙ ap Some (sym same_line) ∙ sym (ap line_of (get_or-set_same s.world.table.jobs n (Some (record j { wait = Room x.places })) None low)) ∙ own))
  | inr ne ↦ ap line_of (sym (ap (λ jobs. job_at jobs k) x.jobs ∙ get_or-set_other s.world.table.jobs n k _ None ne)) ∙ e
]

pub tells-took : (s : S) (v : V) (m n line current left : ℕ) (i j : Job) (text : List ℕ) → (x : Took s v m i j)
    → m < length s.world.table.jobs → job_at s.world.table.jobs m ≡ Some i → job_at v.machine.world.table.jobs m ≡ Some j → j.line ≡ i.line
    → ((more : List ℕ) × (output_of (turn s.world s.time m).lines line ≡ output_of s.world.lines line ++ more))
    → Tells s v n line text → Tells (record s { world = steered current left (turn s.world s.time m) }) x.state n line (text ++ [])
tells-took s v m n line current left i j text x low at at_run same_line keeps h =
    let r : DidRun v x.state m = did-turn v x.state m x.step in
    let job : r.job ≡ j = (let both : Some r.job ≡ Some j = sym r.at ∙ at_run in cc) in
    let put : List ℕ = output_of (turn v.machine.world v.machine.time m).lines j.line in
    let texts : x.state.texts ≡ slice_set v.texts m (slice_index_or v.texts m [] ++ put) =
    ap (λ (u : V). u.texts) r.is ∙ ap (λ (k : Job). slice_set v.texts m (slice_index_or v.texts m [] ++ output_of (turn v.machine.world v.machine.time m).lines k.line)) job in
    record {
      owns = owns-still s (record s { world = steered current left (turn s.world s.time m) }) n line (took-lines s v m current left i j x low at) h.owns;
      place = subst (λ (l : List (List ℕ)). n < length l) (sym texts) (subst (λ k. n < k) (sym (length-set v.texts m (slice_index_or v.texts m [] ++ put))) h.place);
      text_is = elim (cases_eq m n) [
        | inl is ↦ (
            let here : i.line ≡ line = h.owns.mine i.line (subst (λ q. line_of (job_at s.world.table.jobs q) ≡ Some i.line) is (ap line_of at)) in
            let j_here : j.line ≡ line = same_line ∙ here in
            let own : output_of (turn s.world s.time m).lines line ≡ output_of s.world.lines line ++ put =
            subst (λ l. output_of (turn s.world s.time m).lines l ≡ output_of s.world.lines l ++ put) j_here
            (grown x.kept.own (subst (λ l. (more : List ℕ) × (output_of (turn s.world s.time m).lines l ≡ output_of s.world.lines l ++ more)) (sym j_here) keeps)) in
            ap (λ (l : List (List ℕ)). slice_index_or l n []) texts
            ∙ subst (λ q. slice_index_or (slice_set v.texts m (slice_index_or v.texts m [] ++ put)) q [] ≡ slice_index_or v.texts q [] ++ put) is
            (get_or-set_same v.texts m (slice_index_or v.texts m [] ++ put) [] (subst (λ q. q < length v.texts) (sym is) h.place))
            ∙ ap (λ (t : List ℕ). t ++ put) h.text_is
            ∙ append_assoc text (output_of s.world.lines line) put
            ∙ ap (λ (t : List ℕ). text ++ t) (sym own)
            ∙ ap (λ (t : List ℕ). t ++ output_of (turn s.world s.time m).lines line) (sym (append-nil text)))
        | inr ne ↦ (
            let apart : line ≢ j.line = λ e. ne (h.owns.only m (ap line_of at ∙ ap Some (sym same_line ∙ sym e))) in
            ap (λ (l : List (List ℕ)). slice_index_or l n []) texts
            ∙ get_or-set_other v.texts m n _ [] (λ e. ne (sym e))
            ∙ h.text_is
            ∙ ap (λ (q : Rings). text ++ q.output) (sym (x.kept.rest line apart))
            ∙ ap (λ (t : List ℕ). t ++ output_of (turn s.world s.time m).lines line) (sym (append-nil text)))
      ];
    }
  where
    grown : (output_of (turn s.world s.time m).lines j.line ≡ output_of s.world.lines j.line ++ output_of (turn v.machine.world v.machine.time m).lines j.line)
        ⊎ ((output_of (turn s.world s.time m).lines j.line ≡ []) × (output_of (turn v.machine.world v.machine.time m).lines j.line ≡ []))
        → ((more : List ℕ) × (output_of (turn s.world s.time m).lines j.line ≡ output_of s.world.lines j.line ++ more))
        → output_of (turn s.world s.time m).lines j.line ≡ output_of s.world.lines j.line ++ output_of (turn v.machine.world v.machine.time m).lines j.line
    grown (inl put) keeps = put
    grown (inr clear) keeps =
        let none : output_of s.world.lines j.line ≡ [] = nil-first (output_of s.world.lines j.line) keeps.0 (sym clear.0 ∙ keeps.1) in
        clear.0 ∙ sym clear.1 ∙ ap (λ (t : List ℕ). t ++ output_of (turn v.machine.world v.machine.time m).lines j.line) (sym none)
