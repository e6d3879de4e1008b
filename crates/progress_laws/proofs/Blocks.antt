-- What a block asks for is well-formed.
use Rattle.std.proofs.Common.{◌≡◌, ◌≤◌, sym, subst, ℕ, zero, suc, ◌+◌, ◌*◌, ◌^◌, ◌==◌, ◌&&◌, ◌||◌, not, nat_lt, Bool, true}
use Rattle.std.proofs.Common.{false, List, ◌∷◌, length, Option, Some, Result, Ok, Err, refl, arith}
use Rattle.std.specs.List.{list_all}
use Rattle.std.proofs.lemmas.Bool.{and_parts, and_from, lt-ltb, ltb-false, or_parts}
use Rattle.std.proofs.lemmas.Grind.{common_steps}
use Rattle.word36.specs.declared.sizes.TheConstants.{LOCKS_A_CALL}
use Rattle.word36.specs.Words.{left_half, right_half}
use Rattle.ka_cpu.proofs.ExecLaws.{by_test}
use Rattle.ka_state.specs.Memory.{are_legal}
use Rattle.lock_queue.specs.declared.key.Key.{Key}
use Rattle.lock_queue.specs.declared.refusal.Refusal.{Refusal}
use Rattle.lock_queue.specs.declared.refusal.Refusal.TheVariants.{BadPool, BadBlock, BadCount}
use Rattle.lock_queue.specs.declared.terms.BlockUse.{BlockUse}
use Rattle.lock_queue.specs.declared.terms.BlockUse.TheVariants.{Blocking, Full, Named}
use Rattle.lock_queue.specs.declared.terms.Terms.{Terms}
use Rattle.lock_queue.specs.declared.want.Want.{Want}
use Rattle.lock_queue.specs.Pools.{PoolShare, share_of, is_right_share}
use Rattle.lock_queue.specs.Uses.{pool_on, requested_want, want_on}
use Rattle.lock_queue.specs.WellFormed.{is_in_range, shares_rightly}
use Rattle.call_block.specs.declared.block.Block.{Block}
use Rattle.call_block.specs.declared.want.Lock.{Lock}
use Rattle.call_block.specs.Bits.{bits}
use Rattle.call_block.specs.Blocks.{word, lock_at, may_have_limit, wants_at, block_at}
use Rattle.call_block.specs.Locks.{key_of, scope_of, terms_of, want_of}
use Rattle.call_block.specs.Names.{name_at}
use Rattle.call_block.specs.Steps.{◌>>=◌}
use Rattle.call_block.proofs.WantLemmas.{wants_at-suc, none_left}

-- what holds of the value of a step that is not refused
abbrev pub OkHolds : {A : Type 0} → (A → Type 0) → Result A Refusal → Type 0
OkHolds P (Ok x) = P x
OkHolds P (Err refusal) = Unit {0}

module _ {A B : Type 0} (P : B → Type 0) where
  ok-then : (r : Result A Refusal) (next : A → Result B Refusal) → ((x : A) → OkHolds P (next x)) → OkHolds P (r >>= next)
  ok-then (Ok x) next h = h x
  ok-then (Err refusal) next h = tt

-- a want that is asked for
record IsRight (w : Want) : Type 0 where
  range : is_in_range w ≡ true
  shares : shares_rightly w ≡ true

pool-right : (shared : Bool) (b : Bool) → (not shared && b) ≡ true → not (shared && true) ≡ true
pool-right true b h = absurd (cc)
pool-right false b h = refl

none-pooled : (shared : Bool) → not (shared && false) ≡ true
none-pooled true = refl
none-pooled false = refl

group-right : (shared : Bool) (group : ℕ) → (not shared && not (group == 0)) ≡ false → (shared || (group == 0)) ≡ true
group-right true group h = refl
group-right false group h = go (group == 0) h
  where
    go : (b : Bool) → not b ≡ false → b ≡ true
    go true h = refl
    go false h = absurd (cc)

right-requested : (key : Key) (terms : Terms) → nat_lt terms.level (2 ^ 9) ≡ true
    → OkHolds IsRight (requested_want key terms (pool_on terms.shared terms.group terms.pool_size terms.pool_amount))
right-requested key terms low =
    by_test P (not terms.shared && not (terms.group == 0)) (Err BadPool) _ (λ _. tt)
    (λ grouped. by_test P (terms.pool_size == 0 && terms.pool_amount == 0) _ _
    (λ _. record { range = and_from _ _ low refl; shares = and_from _ _ (none-pooled terms.shared) (group-right terms.shared terms.group grouped) })
    (λ _. by_test P (not terms.shared && is_right_share (share_of terms.pool_size terms.pool_amount))
    (Ok (Some (share_of terms.pool_size terms.pool_amount))) (Err BadPool)
    (λ right. record {
      range = and_from _ _ low (and_parts (not terms.shared) (is_right_share (share_of terms.pool_size terms.pool_amount)) right).1;
      shares = and_from _ _ (pool-right terms.shared _ right) (group-right terms.shared terms.group grouped);
    })
    (λ _. tt)))
  where
    P : Result (Option PoolShare) Refusal → Type 0
    P r = OkHolds IsRight (requested_want key terms r)

level-low : (w : ℕ) → nat_lt (bits 9 17 w) (2 ^ 9) ≡ true
level-low w = lt-ltb (bits 9 17 w) (2 ^ 9) (omega arith)

-- a use in which what is wanted is asked for
abbrev AsksFor : BlockUse → Type 0
AsksFor Blocking = Unit {0}
AsksFor Full = Unit {0}
AsksFor Named = ⊥

right-on : (use_of : BlockUse) (key : Key) (terms : Terms) → AsksFor use_of → nat_lt terms.level (2 ^ 9) ≡ true → OkHolds IsRight (want_on use_of key terms)
right-on Blocking key terms asks low = right-requested key terms low
right-on Full key terms asks low = right-requested key terms low
right-on Named key terms asks low = absurd asks

right-want : (ac core : List ℕ) (job : ℕ) (use_of : BlockUse) (lock : Lock) → AsksFor use_of → OkHolds IsRight (want_of ac core job use_of lock)
right-want ac core job use_of lock asks =
    ok-then IsRight (name_at ac core lock.name) _ (λ name.
    ok-then IsRight (scope_of job lock.qualifier) _ (λ scope.
    right-on use_of (key_of name scope) (terms_of lock) asks (level-low lock.qualifier)))

-- some wants
record AreRight (n : ℕ) (ws : List Want) : Type 0 where
  count : length ws ≡ n
  range : list_all is_in_range ws ≡ true
  shares : list_all shares_rightly ws ≡ true

right-more : (n : ℕ) (r : Result Want Refusal) (rest : Result (List Want) Refusal) → OkHolds IsRight r → OkHolds (AreRight n) rest
    → OkHolds (AreRight (suc n)) (r >>= (λ want. rest >>= (λ wants. Ok (want ∷ wants))))
right-more n (Err refusal) rest h k = tt
right-more n (Ok w) (Err refusal) h k = tt
right-more n (Ok w) (Ok ws) h k = record { count = omega (arith, k.count); range = and_from _ _ h.range k.range; shares = and_from _ _ h.shares k.shares }

right-wants : (ac core : List ℕ) (job : ℕ) (use_of : BlockUse) (a n : ℕ) → AsksFor use_of → OkHolds (AreRight n) (wants_at ac core job use_of a n)
right-wants ac core job use_of a zero asks =
    subst (OkHolds (AreRight 0)) (sym (none_left ac core job use_of a)) (record { count = refl; range = refl; shares = refl })
right-wants ac core job use_of a (suc n) asks =
    subst (OkHolds (AreRight (suc n))) (sym (wants_at-suc ac core job use_of a n))
    (right-more n (want_of ac core job use_of (lock_at ac core a)) (wants_at ac core job use_of (a + 3) n)
    (right-want ac core job use_of (lock_at ac core a) asks) (right-wants ac core job use_of (a + 3) n asks))

-- wants of any use
counted-more : (n : ℕ) (r : Result Want Refusal) (rest : Result (List Want) Refusal) → OkHolds (λ (ws : List Want). length ws ≡ n) rest
    → OkHolds (λ (ws : List Want). length ws ≡ suc n) (r >>= (λ want. rest >>= (λ wants. Ok (want ∷ wants))))
counted-more n (Err refusal) rest k = tt
counted-more n (Ok w) (Err refusal) k = tt
counted-more n (Ok w) (Ok ws) k = omega (arith, k)

counted : (ac core : List ℕ) (job : ℕ) (use_of : BlockUse) (a n : ℕ) → OkHolds (λ (ws : List Want). length ws ≡ n) (wants_at ac core job use_of a n)
counted ac core job use_of a zero = subst (OkHolds (λ (ws : List Want). length ws ≡ 0)) (sym (none_left ac core job use_of a)) refl
counted ac core job use_of a (suc n) =
    subst (OkHolds (λ (ws : List Want). length ws ≡ suc n)) (sym (wants_at-suc ac core job use_of a n))
    (counted-more n (want_of ac core job use_of (lock_at ac core a)) (wants_at ac core job use_of (a + 3) n) (counted ac core job use_of (a + 3) n))

-- a block
pub record IsBlock (b : Block) : Type 0 where
  pub some : 1 ≤ length b.wants.items
  pub few : length b.wants.items ≤ LOCKS_A_CALL
  pub range : list_all is_in_range b.wants.items ≡ true
  pub shares : list_all shares_rightly b.wants.items ≡ true

count-some : (n : ℕ) → ((n == 0) || nat_lt LOCKS_A_CALL n) ≡ false → (1 ≤ n) × (n ≤ LOCKS_A_CALL)
count-some n h =
    let p = or_parts (n == 0) (nat_lt LOCKS_A_CALL n) h in
    let most : n ≤ LOCKS_A_CALL = ltb-false LOCKS_A_CALL n p.1 in
    (grind (arith, common_steps), most)

block-of : (n id limit : ℕ) (r : Result (List Want) Refusal) → (1 ≤ n) × (n ≤ LOCKS_A_CALL) → OkHolds (AreRight n) r
    → OkHolds IsBlock (r >>= (λ wants. Ok (record { id = id; limit = limit; wants = record { items = wants } })))
block-of n id limit (Err refusal) k h = tt
block-of n id limit (Ok ws) k h = record { some = omega (arith, h.count); few = omega (arith, h.count); range = h.range; shares = h.shares }

pub right-block : (ac core : List ℕ) (a job : ℕ) (use_of : BlockUse) → AsksFor use_of → OkHolds IsBlock (block_at ac core a job use_of)
unfolding block_at
right-block ac core a job use_of asks =
    by_test (OkHolds IsBlock)
    (not
    (are_legal core a (2 + 3 * left_half (word ac core a))
    && right_half (word ac core a) == 2 + 3 * left_half (word ac core a)
    && (may_have_limit use_of || left_half (word ac core (a + 1)) == 0))) (Err BadBlock) _ (λ _. tt)
    (λ _. by_test (OkHolds IsBlock) (left_half (word ac core a) == 0 || nat_lt LOCKS_A_CALL (left_half (word ac core a))) (Err BadCount) _ (λ _. tt)
    (λ some. block-of (left_half (word ac core a)) _ _ (wants_at ac core job use_of (a + 2) (left_half (word ac core a)))
    (count-some _ some) (right-wants ac core job use_of (a + 2) (left_half (word ac core a)) asks)))

some-of : (n id limit : ℕ) (r : Result (List Want) Refusal) → (1 ≤ n) × (n ≤ LOCKS_A_CALL) → OkHolds (λ (ws : List Want). length ws ≡ n) r
    → OkHolds (λ (b : Block). 1 ≤ length b.wants.items) (r >>= (λ wants. Ok (record { id = id; limit = limit; wants = record { items = wants } })))
some-of n id limit (Err refusal) k h = tt
some-of n id limit (Ok ws) k h = omega (arith, h, k.0)

pub some-block : (ac core : List ℕ) (a job : ℕ) (use_of : BlockUse) → OkHolds (λ (b : Block). 1 ≤ length b.wants.items) (block_at ac core a job use_of)
unfolding block_at
some-block ac core a job use_of =
    let P : Result Block Refusal → Type 0 = OkHolds (λ (b : Block). 1 ≤ length b.wants.items) in
    by_test P
    (not
    (are_legal core a (2 + 3 * left_half (word ac core a))
    && right_half (word ac core a) == 2 + 3 * left_half (word ac core a)
    && (may_have_limit use_of || left_half (word ac core (a + 1)) == 0))) (Err BadBlock) _ (λ _. tt)
    (λ _. by_test P (left_half (word ac core a) == 0 || nat_lt LOCKS_A_CALL (left_half (word ac core a))) (Err BadCount) _ (λ _. tt)
    (λ some. some-of (left_half (word ac core a)) _ _ (wants_at ac core job use_of (a + 2) (left_half (word ac core a)))
    (count-some _ some) (counted ac core job use_of (a + 2) (left_half (word ac core a)))))
