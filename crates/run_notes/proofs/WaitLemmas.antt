-- The rows of the table of waits, the clocks, and facts one after the other.
use Rattle.std.proofs.Common.{◌≡◌, ◌<◌, ◌+◌, ◌++◌, ◌∙◌, ℕ, Bool, true, false, cond, List, [], ◌∷◌, length, take, drop, get_or, refl, sym, ap, append_assoc}
use Rattle.std.proofs.Math.ListN.{set}
use Rattle.std.proofs.lemmas.List.{drop_more, take_more, take-set, drop-set, take-append-drop}
use Rattle.std.proofs.lemmas.Option.{slice_get_read}
use Rattle.std.specs.List.{flat_map}
use Rattle.std.specs.Prelude.{Option, Some, None, position, remove, ◌-◌}
use Rattle.run_events.specs.declared.facts.Fact.{Fact}
use Rattle.lock_queue.specs.Keys.{same_key}
use Rattle.lock_queue.specs.declared.key.Key.{Key}
use Rattle.run_notes.specs.Waits.{Clocks, after_end, after_fact, after_facts, clock_at, counted, ends, lock_line, stopped_by, wait_line, wait_lines, with_count, with_counts, with_wait, without}
use Rattle.run_notes.specs.declared.lock_rows.Count.{Count}
use Rattle.run_notes.specs.declared.lock_rows.Count.TheVariants.{Waited}
use Rattle.run_notes.specs.declared.wait_clocks.WaitClock.{WaitClock}
use Rattle.run_notes.specs.declared.lock_rows.LockRow.{LockRow}

-- the row at a position is the first of those that are left
here : (count : Count) (key : Key) (rows : List LockRow) (i : ℕ) (x : LockRow) (b : Bool)
    → i < length rows → x ≡ get_or rows i x → same_key x.key key ≡ b
    → with_count count key (drop i rows)
    ≡ cond b (counted count x ∷ drop (i + 1) rows) (x ∷ with_count count key (drop (i + 1) rows))
here count key rows i x b within is known =
    ap (λ l. with_count count key l) (drop_more rows i x within ∙ ap (λ y. y ∷ drop (i + 1) rows) (sym is))
    ∙ ap (λ (t : Bool). cond t (counted count x ∷ drop (i + 1) rows) (x ∷ with_count count key (drop (i + 1) rows))) known

-- a row of another lock
pub row_further : (count : Count) (key : Key) (rows : List LockRow) (i : ℕ) (x : LockRow) (all : List LockRow)
    → i < length rows → x ≡ get_or rows i x → same_key x.key key ≡ false
    → take i rows ++ with_count count key (drop i rows) ≡ all
    → take (i + 1) rows ++ with_count count key (drop (i + 1) rows) ≡ all
row_further count key rows i x all within is other before =
    let later : List LockRow = with_count count key (drop (i + 1) rows) in
    ap (λ l. l ++ later) (take_more rows i x within ∙ ap (λ y. take i rows ++ y ∷ []) (sym is))
    ∙ append_assoc (take i rows) (x ∷ []) later
    ∙ ap (λ l. take i rows ++ l) (sym (here count key rows i x false within is other))
    ∙ before

-- the row of the lock
pub row_found : (count : Count) (key : Key) (rows : List LockRow) (i : ℕ) (x : LockRow) (all : List LockRow)
    → i < length rows → x ≡ get_or rows i x → same_key x.key key ≡ true
    → take i rows ++ with_count count key (drop i rows) ≡ all
    → set rows i (counted count x) ≡ all
row_found count key rows i x all within is own before =
    sym (take-append-drop i (set rows i (counted count x)))
    ∙ ap (λ l. l ++ drop i (set rows i (counted count x))) (take-set rows i (counted count x))
    ∙ ap (λ l. take i rows ++ l) (drop-set rows i (counted count x) within ∙ sym (here count key rows i x true within is own))
    ∙ before

-- the clock that a fact stops, by its position
pub stopped : (f : Fact) (waiting : List WaitClock) (i : ℕ) (clock : WaitClock)
    → Some i ≡ position (ends f) waiting → i < length waiting → clock ≡ get_or waiting i clock → stopped_by f waiting ≡ Some clock
stopped f waiting i clock at within is =
    ap (λ o. clock_at waiting o) (sym at) ∙ slice_get_read waiting (length waiting) i clock refl within is

-- the clocks and the rows where a fact stops one, and where it stops none
pub after_stop : (tick : ℕ) (f : Fact) (s : Clocks) (i : ℕ) (clock : WaitClock) (waiting : List WaitClock) (rows : List LockRow)
    → Some i ≡ position (ends f) s.waiting → i < length s.waiting → clock ≡ get_or s.waiting i clock
    → waiting ≡ remove s.waiting i → rows ≡ with_counts (Waited (tick - clock.since)) clock.request.wants.items s.rows
    → (let t : Clocks = record { most = s.most; waiting = waiting; rows = rows } in t ≡ after_end tick f s)
after_stop tick f s i clock waiting rows at within is left counted_so =
    let w : waiting ≡ without s.waiting (position (ends f) s.waiting) = left ∙ ap (λ o. without s.waiting o) at in
    let r : rows ≡ with_wait tick (stopped_by f s.waiting) s.rows =
    counted_so ∙ ap (λ o. with_wait tick o s.rows) (sym (stopped f s.waiting i clock at within is)) in
    ap (λ (x : List WaitClock). let t : Clocks = record { most = s.most; waiting = x; rows = rows } in t) w
    ∙ ap (λ (y : List LockRow). let t : Clocks = record { most = s.most; waiting = without s.waiting (position (ends f) s.waiting); rows = y } in t) r

pub after_none : (tick : ℕ) (f : Fact) (s : Clocks) → None ≡ position (ends f) s.waiting → s ≡ after_end tick f s
after_none tick f s at =
    ap (λ (o : Option ℕ). let t : Clocks = record s { waiting = without s.waiting o; rows = with_wait tick (clock_at s.waiting o) s.rows } in t) at

-- one fact more
pub facts_further : (tick : ℕ) (facts : List Fact) (i : ℕ) (f : Fact) (s t all : Clocks)
    → i < length facts → f ≡ get_or facts i f → t ≡ after_fact tick f s → after_facts tick (drop i facts) s ≡ all
    → after_facts tick (drop (i + 1) facts) t ≡ all
facts_further tick facts i f s t all within is made before =
    ap (λ u. after_facts tick (drop (i + 1) facts) u) made
    ∙ ap (λ l. after_facts tick l s) (sym (drop_more facts i f within ∙ ap (λ y. y ∷ drop (i + 1) facts) (sym is)))
    ∙ before

pub lines_further : (tick : ℕ) (facts : List Fact) (i : ℕ) (f : Fact) (s t : Clocks) (sofar new all : List ℕ)
    → i < length facts → f ≡ get_or facts i f → t ≡ after_fact tick f s → new ≡ sofar ++ wait_line tick f s.waiting
    → sofar ++ wait_lines tick (drop i facts) s ≡ all → new ++ wait_lines tick (drop (i + 1) facts) t ≡ all
lines_further tick facts i f s t sofar new all within is made added before =
    ap (λ u. new ++ wait_lines tick (drop (i + 1) facts) u) made
    ∙ ap (λ l. l ++ wait_lines tick (drop (i + 1) facts) (after_fact tick f s)) added
    ∙ append_assoc sofar (wait_line tick f s.waiting) (wait_lines tick (drop (i + 1) facts) (after_fact tick f s))
    ∙ ap (λ l. sofar ++ wait_lines tick l s) (sym (drop_more facts i f within ∙ ap (λ y. y ∷ drop (i + 1) facts) (sym is)))
    ∙ before

-- one line of the table more
pub table_further : (waiting : List WaitClock) (rows : List LockRow) (i : ℕ) (row : LockRow) (sofar new all : List ℕ)
    → i < length rows → row ≡ get_or rows i row → new ≡ sofar ++ lock_line waiting row
    → sofar ++ flat_map (lock_line waiting) (drop i rows) ≡ all → new ++ flat_map (lock_line waiting) (drop (i + 1) rows) ≡ all
table_further waiting rows i row sofar new all within is added before =
    ap (λ l. l ++ flat_map (lock_line waiting) (drop (i + 1) rows)) added
    ∙ append_assoc sofar (lock_line waiting row) (flat_map (lock_line waiting) (drop (i + 1) rows))
    ∙ ap (λ l. sofar ++ flat_map (lock_line waiting) l) (sym (drop_more rows i row within ∙ ap (λ y. y ∷ drop (i + 1) rows) (sym is)))
    ∙ before
