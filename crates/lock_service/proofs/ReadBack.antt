-- What is shown of a want, read again.
use Rattle.std.proofs.Common.{◌≡◌, ◌∙◌, sym, ap, subst, ℕ, ◌<◌, ◌≤◌, ◌^◌, ◌==◌, ◌&&◌, ◌||◌, ◌+◌, not, Bool, true, false, List, length, take, refl, arith}
use Rattle.std.proofs.Math.Seq.{take-append_seam}
use Rattle.std.proofs.lemmas.Bool.{and_parts, both_ways}
use Rattle.std.proofs.lemmas.List.Folds.{list_all_at}
use Rattle.std.proofs.lemmas.Option.{get_or_from_slice_get, slice_get-get_or, slice_get_within}
use Rattle.std.proofs.lemmas.Str.{is_utf8-from_IsUtf8}
use Rattle.std.specs.Prelude.{Option, Some, None, Result, Ok, Err, if◌then◌else◌, nat_le, nat_lt, slice_get, slice_index_or, IsUtf8}
use Rattle.std.specs.Str.{is_utf8}
use Rattle.std.specs.List.{list_all}
use Rattle.std.specs.Option.{is_some}
use Rattle.word36.specs.declared.sizes.TheConstants.{LOCKS_A_CALL}
use Rattle.lock_queue.specs.declared.key.Key.{Key}
use Rattle.lock_queue.specs.declared.key.Scope.{Scope}
use Rattle.lock_queue.specs.declared.key.Scope.TheVariants.{All, Job}
use Rattle.lock_queue.specs.declared.name.Name.{Name}
use Rattle.lock_queue.specs.declared.name.Name.TheVariants.{Text, Code}
use Rattle.lock_queue.specs.declared.refusal.Refusal.{Refusal}
use Rattle.lock_queue.specs.declared.refusal.Refusal.TheVariants.{BadQualifier}
use Rattle.lock_queue.specs.declared.terms.BlockUse.TheVariants.{Full}
use Rattle.lock_queue.specs.declared.terms.Terms.{Terms}
use Rattle.lock_queue.specs.declared.request.Request.{Request}
use Rattle.lock_queue.specs.declared.want.Want.{Want}
use Rattle.lock_queue.specs.Dequeues.{has_wants}
use Rattle.lock_queue.specs.Names.{filled_up}
use Rattle.lock_queue.specs.Pools.{PoolShare}
use Rattle.lock_queue.specs.Uses.{pool_on, requested_want}
use Rattle.lock_queue.specs.WellFormed.{shares_rightly, is_in_range, is_right_pool, is_job, is_well_formed, are_well_formed, are_right_wants, are_apart}
use Rattle.lock_service.specs.ReadBack.{spells, read_again}
use Rattle.lock_service.specs.Readings.{weight, is_own, is_code, name_bytes, name_code, name_length, shown_want, size_of, amount_of}
use Rattle.lock_service.specs.Spelled.{has, want_of, named_want, name_of, scope_of, text_of, code_of, is_in_bounds}

yes : {A : Type 0} (x : Bool) (a b : A) → x ≡ true → (if x then a else b) ≡ a
yes x a b e = subst (λ y. (if y then a else b) ≡ a) (sym e) refl

no : {A : Type 0} (x : Bool) (a b : A) → x ≡ false → (if x then a else b) ≡ b
no x a b e = subst (λ y. (if y then a else b) ≡ b) (sym e) refl

-- ---- the name

pub text_again : (t : List ℕ) → 1 ≤ length t → length t ≤ 30 → IsUtf8 t → text_of (filled_up t) (length t) ≡ Some (Text t)
text_again t some few utf8 =
    let front : take (length t) (filled_up t) ≡ t = take-append_seam t _ in
    let is : is_utf8 t ≡ true = is_utf8-from_IsUtf8 t utf8 in
    grind (arith, front, is, some, few)

-- ---- the flags

abbrev flags : Bool → Bool → Bool → Bool → ℕ
flags s b o c = weight 1 s + weight 2 b + weight 4 o + weight 8 c

abbrev Reads : ℕ → Bool → Bool → Bool → Bool → Type 0
Reads n s b o c = (nat_lt n 16 ≡ true) × (has n 1 ≡ s) × (has n 2 ≡ b) × (has n 4 ≡ o) × (has n 8 ≡ c)

read_flags : (s b o c : Bool) → Reads (flags s b o c) s b o c
read_flags false false false false = (refl, refl, refl, refl, refl)
read_flags false false false true = (refl, refl, refl, refl, refl)
read_flags false false true false = (refl, refl, refl, refl, refl)
read_flags false false true true = (refl, refl, refl, refl, refl)
read_flags false true false false = (refl, refl, refl, refl, refl)
read_flags false true false true = (refl, refl, refl, refl, refl)
read_flags false true true false = (refl, refl, refl, refl, refl)
read_flags false true true true = (refl, refl, refl, refl, refl)
read_flags true false false false = (refl, refl, refl, refl, refl)
read_flags true false false true = (refl, refl, refl, refl, refl)
read_flags true false true false = (refl, refl, refl, refl, refl)
read_flags true false true true = (refl, refl, refl, refl, refl)
read_flags true true false false = (refl, refl, refl, refl, refl)
read_flags true true false true = (refl, refl, refl, refl, refl)
read_flags true true true false = (refl, refl, refl, refl, refl)
read_flags true true true true = (refl, refl, refl, refl, refl)

abbrev is_of_one : Scope → Bool
is_of_one All = false
is_of_one (Job owner) = true

abbrev is_number : Name → Bool
is_number (Text text) = false
is_number (Code number) = true

own_weight : (scope : Scope) → is_own scope ≡ weight 4 (is_of_one scope)
own_weight All = refl
own_weight (Job owner) = refl

code_weight : (name : Name) → is_code name ≡ weight 8 (is_number name)
code_weight (Text text) = refl
code_weight (Code number) = refl

-- the flags that are shown of a want, read
shown_flags : (w : Want) → Reads (shown_want w).flags w.shared w.bypass (is_of_one w.key.scope) (is_number w.key.name)
shown_flags w =
    let head = weight 1 w.shared + weight 2 w.bypass in
    subst (λ n. Reads n w.shared w.bypass (is_of_one w.key.scope) (is_number w.key.name))
    (sym (ap (λ (o : ℕ). head + o + is_code w.key.name) (own_weight w.key.scope)
    ∙ ap (λ (c : ℕ). head + weight 4 (is_of_one w.key.scope) + c) (code_weight w.key.name)))
    (read_flags w.shared w.bypass (is_of_one w.key.scope) (is_number w.key.name))

-- ---- what they say

same_job : (owner job : ℕ) → (owner == job) ≡ true → Job job ≡ Job owner
same_job owner job h =
    let e : job ≡ owner = grind (arith, h) in
    ap Job e

scope_again : (scope : Scope) (job f : ℕ) → spells job scope ≡ true → has f 4 ≡ is_of_one scope → scope_of job f ≡ scope
scope_again All job f spelled own = no (has f 4) (Job job) All own
scope_again (Job owner) job f spelled own = yes (has f 4) (Job job) All own ∙ same_job owner job spelled

name_again : (w : Want) → has (shown_want w).flags 8 ≡ is_number w.key.name → read_again w.key.name ≡ Some w.key.name
    → name_of (shown_want w) ≡ Some w.key.name
name_again w is again = by w.key.name (shown_want w).flags is again
  where
    by : (name : Name) (f : ℕ) → has f 8 ≡ is_number name → read_again name ≡ Some name
        → (if has f 8 then code_of (name_code name) else text_of (name_bytes name) (name_length name)) ≡ Some name
    by (Text text) f number again = no (has f 8) _ _ number ∙ again
    by (Code code) f number again = yes (has f 8) _ _ number ∙ again

pool_again : (shared : Bool) (group : ℕ) (pool : Option PoolShare) → is_right_pool pool ≡ true
    → (not (shared && is_some pool) && (shared || group == 0)) ≡ true → pool_on shared group (size_of pool) (amount_of pool) ≡ Ok pool
pool_again shared group None right shares = grind (arith, shares)
pool_again shared group (Some share) right shares = grind (arith, right, shares)

-- ---- the want

in_bounds : (f level group : ℕ) → nat_lt f 16 ≡ true → nat_lt level 512 ≡ true → group < 2 ^ 18
    → (nat_lt f 16 && (nat_lt level 512 && nat_lt group (2 ^ 18))) ≡ true
in_bounds f level group few low small = grind (arith, few, low, small)

pub want_again : (w : Want) (job : ℕ) → is_in_range w ≡ true → w.group < 2 ^ 18 → read_again w.key.name ≡ Some w.key.name
    → shares_rightly w ≡ true → spells job w.key.scope ≡ true → want_of Full job (shown_want w) ≡ Ok w
unfolding want_of
want_again w job range small name shares spelled =
    let t = shown_want w in
    let f = t.flags in
    let k = shown_flags w in
    let range_of = and_parts (nat_lt w.level (2 ^ 9)) (is_right_pool w.pool) range in
    let size = size_of w.pool in
    let amount = amount_of w.pool in
    yes (is_in_bounds t) (named_want Full job t (name_of t)) (Err BadQualifier) (in_bounds f w.level w.group k.0 range_of.0 small)
    ∙ ap (named_want Full job t) (name_again w k.4 name)
    ∙ ap (λ (x : Bool). requested_want (record { scope = scope_of job f; name = w.key.name })
    (record { shared = x; group = w.group; bypass = has f 2; level = w.level; pool_size = size; pool_amount = amount }) (pool_on x w.group size amount)) k.1
    ∙ ap (λ (y : Bool). requested_want (record { scope = scope_of job f; name = w.key.name })
    (record { shared = w.shared; group = w.group; bypass = y; level = w.level; pool_size = size; pool_amount = amount }) (pool_on w.shared w.group size amount)) k.2
    ∙ ap (λ (s : Scope). requested_want (record { scope = s; name = w.key.name })
    (record { shared = w.shared; group = w.group; bypass = w.bypass; level = w.level; pool_size = size; pool_amount = amount }) (pool_on w.shared w.group size amount)) (scope_again w.key.scope job f spelled k.3)
    ∙ ap (λ (p : Result (Option PoolShare) Refusal). requested_want w.key
    (record { shared = w.shared; group = w.group; bypass = w.bypass; level = w.level; pool_size = size; pool_amount = amount }) p) (pool_again w.shared w.group w.pool range_of.1 shares)

-- ---- a want of a table

decided : (b : Bool) → ((b ≡ false) → ⊥) → b ≡ true
decided true n = refl
decided false n = absurd (n refl)

each : {X : Type 0} (p : X → Bool) (xs : List X) (i : ℕ) (d : X) → i < length xs → list_all p xs ≡ true → p (slice_index_or xs i d) ≡ true
each p xs i d h all = decided (p (slice_index_or xs i d)) (λ e. both_ways (list_all p xs) (list_all_at p xs i d h e) all)

-- a want of a request that is present is shared rightly
pub shared_rightly : (requests : List Request) (i k : ℕ) (r : Request) (w : Want) → are_well_formed requests ≡ true
    → slice_get requests i ≡ Some r → slice_get r.wants.items k ≡ Some w → shares_rightly w ≡ true
shared_rightly requests i k r w well at_i at_k =
    let e = get_or_from_slice_get requests i r r at_i in
    let right : is_well_formed r ≡ true =
    subst (λ (x : Request). is_well_formed x ≡ true) e (each is_well_formed requests i r (slice_get_within requests i r at_i) well) in
    let parts = and_parts ((is_job r.job && (has_wants r && nat_le (length r.wants.items) LOCKS_A_CALL))) (are_right_wants r.wants.items) right in
    let wants = and_parts (list_all is_in_range r.wants.items && list_all shares_rightly r.wants.items) (are_apart r.wants.items) parts.1 in
    let shares = and_parts (list_all is_in_range r.wants.items) (list_all shares_rightly r.wants.items) wants.0 in
    subst (λ (x : Want). shares_rightly x ≡ true) (get_or_from_slice_get r.wants.items k w w at_k)
    (each shares_rightly r.wants.items k w (slice_get_within r.wants.items k w at_k) shares.1)

-- the want at a place of the request at a place
pub want_at : (r : Request) (k : ℕ) (items : List Want) (w : Want) → items ≡ r.wants.items → k < length r.wants.items
    → w ≡ slice_index_or items k w → slice_get r.wants.items k ≡ Some w
want_at r k items w same within is =
    slice_get-get_or r.wants.items k w within
    ∙ ap (λ (x : Want). Some x) (sym (is ∙ ap (λ (l : List Want). slice_index_or l k w) same))
