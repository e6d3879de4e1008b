-- The wants of a block, lock by lock.
use Rattle.std.proofs.Common.{◌≡◌, ℕ, suc, ◌+◌, ◌-◌, ◌*◌, ◌<◌, ◌≤◌, List, [], ◌∷◌, ◌++◌, true, arith, refl, sym, ap, ◌∙◌, append_assoc}
use Rattle.std.specs.Prelude.{Result, Ok, Err}
use Rattle.std.specs.List.{list_all}
use Rattle.std.proofs.lemmas.Bool.{and_from}
use Rattle.std.proofs.lemmas.List.{append-nil}
use Rattle.std.proofs.lemmas.List.Folds.{list_all-append}
use Rattle.lock_queue.specs.declared.want.Want.{Want}
use Rattle.lock_queue.specs.declared.refusal.Refusal.{Refusal}
use Rattle.lock_queue.specs.declared.terms.BlockUse.{BlockUse}
use Rattle.lock_queue.specs.WellFormed.{shares_rightly}
use Rattle.call_block.specs.declared.want.Lock.{Lock}
use Rattle.call_block.specs.Locks.{want_of}
use Rattle.call_block.specs.Blocks.{lock_at, wants_at}
use Rattle.call_block.specs.Steps.{◌>>=◌}

-- wants that stand before those of a result
abbrev pub behind : List Want → Result (List Want) Refusal → Result (List Want) Refusal
behind wants r = r >>= (λ rest. Ok (wants ++ rest))

pub wants_at-suc : (ac core : List ℕ) (job : ℕ) (block_use : BlockUse) (a n : ℕ) →
    wants_at ac core job block_use a (suc n) ≡ (want_of ac core job block_use (lock_at ac core a) >>=
    (λ want. wants_at ac core job block_use (a + 3) n >>= (λ wants. Ok (want ∷ wants))))
unfolding wants_at
wants_at-suc ac core job block_use a n = refl

pub none_left : (ac core : List ℕ) (job : ℕ) (block_use : BlockUse) (a : ℕ) → wants_at ac core job block_use a 0 ≡ Ok []
unfolding wants_at
none_left ac core job block_use a = refl

-- where so many locks are read: a step by what the next lock gives
wants_at-next : (ac core : List ℕ) (job : ℕ) (block_use : BlockUse) (a n k : ℕ) (lock : Lock) (x : Result Want Refusal) → k < n →
    lock ≡ lock_at ac core (a + 3 * k) → x ≡ want_of ac core job block_use lock →
    wants_at ac core job block_use (a + 3 * k) (n - k) ≡ (x >>=
    (λ want. wants_at ac core job block_use (a + 3 * (k + 1)) (n - (k + 1)) >>= (λ wants. Ok (want ∷ wants))))
wants_at-next ac core job block_use a n k lock x h is gives =
    let left = n - (k + 1) in
    let e : n - k ≡ suc left = omega arith in
    let place : a + 3 * k + 3 ≡ a + 3 * (k + 1) = omega arith in
    let from = λ (r : Result Want Refusal) (b : ℕ). r >>= (λ want. wants_at ac core job block_use b left >>= (λ wants. Ok (want ∷ wants))) in
    let first : want_of ac core job block_use (lock_at ac core (a + 3 * k)) ≡ x = ap (want_of ac core job block_use) (sym is) ∙ sym gives in
    ap (wants_at ac core job block_use (a + 3 * k)) e
    ∙ wants_at-suc ac core job block_use (a + 3 * k) left
    ∙ ap (λ (b : ℕ). from (want_of ac core job block_use (lock_at ac core (a + 3 * k))) b) place
    ∙ ap (λ (r : Result Want Refusal). from r (a + 3 * (k + 1))) first

behind-cons : (wants : List Want) (want : Want) (r : Result (List Want) Refusal) →
    behind wants (r >>= (λ rest. Ok (want ∷ rest))) ≡ behind (wants ++ want ∷ []) r
behind-cons wants want (Ok rest) = simp append_assoc
behind-cons wants want (Err refusal) = refl

pub more : (ac core : List ℕ) (job : ℕ) (block_use : BlockUse) (a n k : ℕ) (lock : Lock)
    (want : Want) (wants : List Want) (all : Result (List Want) Refusal) → k < n →
    all ≡ behind wants (wants_at ac core job block_use (a + 3 * k) (n - k)) →
    lock ≡ lock_at ac core (a + 3 * k) → Ok want ≡ want_of ac core job block_use lock →
    all ≡ behind (wants ++ want ∷ []) (wants_at ac core job block_use (a + 3 * (k + 1)) (n - (k + 1)))
more ac core job block_use a n k lock want wants all h e is gives =
    e
    ∙ ap (behind wants) (wants_at-next ac core job block_use a n k lock (Ok want) h is gives)
    ∙ behind-cons wants want (wants_at ac core job block_use (a + 3 * (k + 1)) (n - (k + 1)))

pub refused : (ac core : List ℕ) (job : ℕ) (block_use : BlockUse) (a n k : ℕ) (lock : Lock)
    (refusal : Refusal) (wants : List Want) (all : Result (List Want) Refusal) → k < n →
    all ≡ behind wants (wants_at ac core job block_use (a + 3 * k) (n - k)) →
    lock ≡ lock_at ac core (a + 3 * k) → Err refusal ≡ want_of ac core job block_use lock →
    all ≡ Err refusal
refused ac core job block_use a n k lock refusal wants all h e is gives =
    e ∙ ap (behind wants) (wants_at-next ac core job block_use a n k lock (Err refusal) h is gives)

pub enough : (ac core : List ℕ) (job : ℕ) (block_use : BlockUse) (a n k : ℕ) (wants : List Want) (all : Result (List Want) Refusal) → n ≤ k →
    all ≡ behind wants (wants_at ac core job block_use (a + 3 * k) (n - k)) → all ≡ Ok wants
enough ac core job block_use a n k wants all h e =
    let none : n - k ≡ 0 = omega arith in
    e
    ∙ ap (behind wants) (ap (wants_at ac core job block_use (a + 3 * k)) none ∙ none_left ac core job block_use (a + 3 * k))
    ∙ ap (λ (all : List Want). Ok all) (append-nil wants)

-- one more want that shares no pool
pub unshared-push : (wants : List Want) (want : Want) → list_all shares_rightly wants ≡ true → shares_rightly want ≡ true
    → list_all shares_rightly (wants ++ want ∷ []) ≡ true
unshared-push wants want h k = list_all-append shares_rightly wants (want ∷ []) ∙ and_from _ _ h (and_from _ _ k refl)
