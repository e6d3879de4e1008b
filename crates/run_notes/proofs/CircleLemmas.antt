-- Circles of waits, by a table of who waits for whom.
use Rattle.std.proofs.Common.{◌≡◌, ◌<◌, ◌+◌, ◌*◌, ◌/◌, ◌%◌, ◌&&◌, ◌∙◌, ℕ, Bool, true, false, List, [], ◌∷◌}
use Rattle.std.proofs.Common.{length, slice_index_or, sym, ap, inl, inr, arith}
use Rattle.std.proofs.lemmas.Bool.{and_parts, cases_lt}
use Rattle.std.proofs.lemmas.List.{get_or_past}
use Rattle.lock_queue.specs.Jobs.{waits_for}
use Rattle.lock_queue.specs.Waits.{is_circle, is_walk, leads_to}
use Rattle.lock_queue.specs.declared.request.Request.{Request}
use Rattle.wait_graph.proofs.PairLemmas.{leads-same, table-pairs}
use Rattle.wait_graph.specs.Pairs.{pair_in}
use Rattle.wait_graph.specs.declared.pairs.TheConstants.{NUMBERS, PAIRS}

-- a number that waits by a table is one of those that have a row there
has_row : (pairs : List Bool) (j k : ℕ) → length pairs ≡ PAIRS → pair_in pairs j k ≡ true → j < NUMBERS
has_row pairs j k size waits =
    elim (cases_lt j NUMBERS) [
      | inl within ↦ within
      | inr past ↦
          let nothing : pair_in pairs j k ≡ false = get_or_past pairs (NUMBERS * j + k) false (omega (arith, size, past)) in
          let contrary : true ≡ false = sym waits ∙ nothing in
          cc
    ]

-- so is one from which a walk leads
walk_row : (pairs : List Bool) (j : ℕ) (between : List ℕ) (k : ℕ) → length pairs ≡ PAIRS
    → is_walk (pair_in pairs) j between k ≡ true → j < NUMBERS
walk_row pairs j [] k size walk = has_row pairs j k size walk
walk_row pairs j (m ∷ between) k size walk =
    has_row pairs j m size (and_parts (pair_in pairs j m) (is_walk (pair_in pairs) m between k) walk).0

-- a walk by the table is one by what the table says
walk_same : (pairs : List Bool) (w : ℕ → ℕ → Bool) → length pairs ≡ PAIRS
    → ((j k : ℕ) → j < NUMBERS → k < NUMBERS → pair_in pairs j k ≡ w j k) → (j : ℕ) (between : List ℕ) (k : ℕ) → k < NUMBERS
    → is_walk (pair_in pairs) j between k ≡ true → is_walk w j between k ≡ true
walk_same pairs w size same j [] k within walk = sym (same j k (has_row pairs j k size walk) within) ∙ walk
walk_same pairs w size same j (m ∷ between) k within walk =
    let parts = and_parts (pair_in pairs j m) (is_walk (pair_in pairs) m between k) walk in
    let next : m < NUMBERS = walk_row pairs m between k size parts.1 in
    ap (λ b. b && is_walk w m between k) (sym (same j m (has_row pairs j m size parts.0) next) ∙ parts.0)
    ∙ walk_same pairs w size same m between k within parts.1

circle_by : (pairs : List Bool) (w : ℕ → ℕ → Bool) → length pairs ≡ PAIRS
    → ((j k : ℕ) → j < NUMBERS → k < NUMBERS → pair_in pairs j k ≡ w j k) → (circle : List ℕ)
    → is_circle (pair_in pairs) circle ≡ true → is_circle w circle ≡ true
circle_by pairs w size same [] h = h
circle_by pairs w size same (j ∷ later) h =
    walk_same pairs w size same j later j (walk_row pairs j later j size h) h

-- a circle by a table of who waits for whom is one of those who wait
pub circle_waits : (pairs : List Bool) (requests : List Request) → length pairs ≡ PAIRS
    → ((i : ℕ) → i < PAIRS → slice_index_or pairs i false ≡ waits_for requests (i / NUMBERS) (i % NUMBERS)) → (circle : List ℕ)
    → is_circle (pair_in pairs) circle ≡ true → is_circle (waits_for requests) circle ≡ true
circle_waits pairs requests size known circle h =
    circle_by pairs (waits_for requests) size (table-pairs pairs (waits_for requests) known) circle h

-- and so many steps lead no further by one than by the other
pub steps_wait : (pairs : List Bool) (requests : List Request)
    → ((i : ℕ) → i < PAIRS → slice_index_or pairs i false ≡ waits_for requests (i / NUMBERS) (i % NUMBERS)) → (n job : ℕ) → job < NUMBERS
    → leads_to (pair_in pairs) n job job ≡ false → leads_to (waits_for requests) n job job ≡ false
steps_wait pairs requests known n job within h =
    sym (leads-same (pair_in pairs) (waits_for requests) n job job (table-pairs pairs (waits_for requests) known) within within) ∙ h
