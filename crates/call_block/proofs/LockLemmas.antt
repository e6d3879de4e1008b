-- The wants of a block are those of its locks, one for one.
use Rattle.std.proofs.Common.{◌≡◌, ℕ, suc, zero, ◌+◌, ◌*◌, ◌<◌, List, ◌∷◌, length, arith, refl, sym, ap, ◌∙◌, Some, subst}
use Rattle.std.specs.Prelude.{Result, Ok, Err, IsOk, is_ok, MatchResult, slice_get}
use Rattle.lock_queue.specs.declared.want.Want.{Want}
use Rattle.lock_queue.specs.declared.refusal.Refusal.{Refusal}
use Rattle.lock_queue.specs.declared.terms.BlockUse.{BlockUse}
use Rattle.call_block.specs.Laws.{nth_want}
use Rattle.call_block.specs.Blocks.{lock_at, wants_at}
use Rattle.call_block.specs.Locks.{want_of}
use Rattle.call_block.specs.Steps.{◌>>=◌}
use Rattle.call_block.proofs.WantLemmas.{wants_at-suc, none_left}

-- that a result is what so many locks give, one after another
abbrev pub IsInOrder : (ℕ → Result Want Refusal) → ℕ → Result (List Want) Refusal → Type 0
IsInOrder nth n r = MatchResult r
    (λ wants. (length wants ≡ n) × ((i : ℕ) (want : Want) → slice_get wants i ≡ Some want → nth i ≡ Ok want))
    (λ refusal. (i : ℕ) × (i < n) × (nth i ≡ Err refusal) × ((k : ℕ) → k < i → IsOk (nth k)))

wants-cons : (nth : ℕ → Result Want Refusal) (want : Want) (wants : List Want) → nth 0 ≡ Ok want
    → ((i : ℕ) (later : Want) → slice_get wants i ≡ Some later → nth (i + 1) ≡ Ok later)
    → (i : ℕ) (one : Want) → slice_get (want ∷ wants) i ≡ Some one → nth i ≡ Ok one
wants-cons nth want wants first rest zero one got = let same : want ≡ one = cc in first ∙ ap Ok same
wants-cons nth want wants first rest (suc i) one got = let next : suc i ≡ i + 1 = omega arith in ap nth next ∙ rest i one got

passed-cons : (nth : ℕ → Result Want Refusal) (want : Want) (n : ℕ) → nth 0 ≡ Ok want → ((k : ℕ) → k < n → IsOk (nth (k + 1)))
    → (k : ℕ) → k < n + 1 → IsOk (nth k)
passed-cons nth want n first rest zero below = ap is_ok first
passed-cons nth want n first rest (suc k) below =
    let next : suc k ≡ k + 1 = omega arith in
    ap (λ (i : ℕ). is_ok (nth i)) next ∙ rest k (omega arith)

-- one lock before those that are read already
in_order-cons : (nth : ℕ → Result Want Refusal) (n : ℕ) (first : Result Want Refusal) (rest : Result (List Want) Refusal) →
    nth 0 ≡ first → IsInOrder (λ i. nth (i + 1)) n rest
    → IsInOrder nth (suc n) (first >>= (λ want. rest >>= (λ wants. Ok (want ∷ wants))))
in_order-cons nth n (Err refusal) rest e h = (0, omega arith, e, λ k below. absurd (omega arith))
in_order-cons nth n (Ok want) (Ok wants) e h = (omega (arith, h.0), wants-cons nth want wants e h.1)
in_order-cons nth n (Ok want) (Err refusal) e h = (h.0 + 1, omega (arith, h.1), h.2, passed-cons nth want h.0 e h.3)

pub in_order : (ac core : List ℕ) (job : ℕ) (block_use : BlockUse) (a n : ℕ) (nth : ℕ → Result Want Refusal) →
    ((i : ℕ) → nth i ≡ nth_want ac core job block_use a i)
    → IsInOrder nth n (wants_at ac core job block_use a n)
in_order ac core job block_use a zero nth is =
    let P : Result (List Want) Refusal → Type 0 = IsInOrder nth 0 in
    subst P (sym (none_left ac core job block_use a)) (refl, λ i want got. cc)
in_order ac core job block_use a (suc n) nth is =
    let P : Result (List Want) Refusal → Type 0 = IsInOrder nth (suc n) in
    let from = λ (place : ℕ). want_of ac core job block_use (lock_at ac core place) in
    let here : a + 3 * 0 ≡ a = omega arith in
    let later : (i : ℕ) → a + 3 * (i + 1) ≡ a + 3 + 3 * i = λ i. omega arith in
    let rest = in_order ac core job block_use (a + 3) n (λ i. nth (i + 1)) (λ i. is (i + 1) ∙ ap from (later i)) in
    subst P (sym (wants_at-suc ac core job block_use a n)) (in_order-cons nth n (from a) (wants_at ac core job block_use (a + 3) n) (is 0 ∙ ap from here) rest)
