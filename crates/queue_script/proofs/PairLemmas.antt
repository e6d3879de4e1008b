-- Lemmas on what WAITS writes.
use Rattle.std.proofs.Common.{◌≡◌, ◌<◌, ◌≤◌, ◌++◌, ℕ, Bool, false, cond, List, [], ◌∷◌, slice_index_or, refl, sym, ap, ◌∙◌, append_assoc, append-nil}
use Rattle.std.specs.List.{flat_map}
use Rattle.std.specs.Prelude.{codes, decimal}
use Rattle.lock_queue.specs.Waits.{jobs}
use Rattle.word36.specs.declared.sizes.TheConstants.{JOBS}
use Rattle.wait_graph.specs.declared.pairs.TheConstants.{NUMBERS}
use Rattle.wait_graph.specs.Pairs.{MarksWaiters}
use Rattle.wait_graph.proofs.JobLemmas.{lists-same}
use Rattle.wait_graph.proofs.PairLemmas.{leads-same, no_walk, resting}
use Rattle.queue_script.specs.WaitPairs.{pair_line, pairs_text, circle_job, circle_jobs}

pub circle-same : (v w : ℕ → ℕ → Bool) → ((a b : ℕ) → a < NUMBERS → b < NUMBERS → v a b ≡ w a b) → circle_jobs v ≡ circle_jobs w
circle-same v w same =
    lists-same (circle_job v) (circle_job w) (λ m hm. ap (λ b. cond b (codes " " ++ decimal m) []) (leads-same v w JOBS m m same hm hm))

pub pairs-same : (v w : ℕ → ℕ → Bool) → ((a b : ℕ) → a < NUMBERS → b < NUMBERS → v a b ≡ w a b) → pairs_text v ≡ pairs_text w
pairs-same v w same =
    lists-same (λ j. flat_map (pair_line v j) jobs) (λ j. flat_map (pair_line w j) jobs)
    (λ j hj. lists-same (pair_line v j) (pair_line w j) (λ k hk. ap (λ b. cond b (decimal j ++ codes " FOR " ++ decimal k ++ codes "\n") []) (same j k hj hk)))

abbrev no_text : ℕ → List ℕ
no_text m = []

no_texts : (xs : List ℕ) → flat_map no_text xs ≡ []
no_texts [] = refl
no_texts (x ∷ xs) = no_texts xs

pub no_lines : (waiting : List Bool) (w : ℕ → ℕ → Bool) (j : ℕ) (out : List ℕ) → MarksWaiters waiting w → j < NUMBERS → slice_index_or waiting j false ≡ false
    → out ≡ out ++ flat_map (pair_line w j) jobs
no_lines waiting w j out marks hj h =
    sym (ap (λ l. out ++ l)
    (lists-same (pair_line w j) no_text
    (λ m hm. ap (λ b. cond b (decimal j ++ codes " FOR " ++ decimal m ++ codes "\n") []) (marks j m hj hm h)) ∙ no_texts jobs)
    ∙ append-nil out)

pub no_circle : (waiting : List Bool) (w : ℕ → ℕ → Bool) (j : ℕ) (out : List ℕ) → MarksWaiters waiting w → 1 ≤ j → j < NUMBERS
    → slice_index_or waiting j false ≡ false
    → out ≡ out ++ circle_job w j
no_circle waiting w j out marks least most h =
    sym (ap (λ b. out ++ cond b (codes " " ++ decimal j) []) (no_walk w JOBS j least most (resting waiting w j marks most h)) ∙ append-nil out)

-- four texts in turn
pub four_texts : (o0 o1 o2 o3 o4 a b c d : List ℕ) → o1 ≡ o0 ++ a → o2 ≡ o1 ++ b → o3 ≡ o2 ++ c → o4 ≡ o3 ++ d → o4 ≡ o0 ++ (((a ++ b) ++ c) ++ d)
four_texts o0 o1 o2 o3 o4 a b c d p q r s =
    s ∙ ap (λ l. l ++ d) (r ∙ ap (λ l. l ++ c) (q ∙ ap (λ l. l ++ b) p ∙ append_assoc o0 a b) ∙ append_assoc o0 (a ++ b) c) ∙ append_assoc o0 ((a ++ b) ++ c) d
