-- Whether two kept requests are the same.
use Rattle.std.specs.Prelude.{ℕ, ◌≡◌, ◌==◌, ◌&&◌, nat_eq, if◌then◌else◌, Bool, true, List, Option, Some, None, ◌++◌, slice_index_or}
use Rattle.std.specs.Bool.{Decides}
use Rattle.std.specs.Cmp.{decided, IsEquivalence}
use Rattle.std.specs.Cmp.Lexicographic.{pointwise}
use Rattle.std.specs.Hash as fed
use Rattle.std.specs.Hash.{HashWrites}
use Rattle.std.proofs.Common.{refl, ap, sym, ◌∙◌}
use Rattle.std.proofs.lemmas.Bool.{and_parts, and_from}
use Rattle.std.proofs.lemmas.Slice.Eq.{slice_eq-Decides}
use Rattle.lock_queue.specs.Keys.{same_key}
use Rattle.lock_queue.specs.Pools.{PoolShare}
use Rattle.lock_queue.specs.declared.key.Key.{Key}
use Rattle.lock_queue.specs.declared.request.EnqueueKind.{EnqueueKind}
use Rattle.lock_queue.specs.declared.request.EnqueueKind.TheVariants.{Blocking, AtOnce, Interrupt}
use Rattle.lock_queue.specs.declared.request.Request.{Request}
use Rattle.lock_queue.specs.declared.want.Want.{Want}
use Rattle.lock_queue.proofs.Fitting.{eq-same_key, same_key-eq}
use Rattle.kept_parts.specs.Requests.{kind_number, pool_numbers, request_numbers, same_want, want_numbers}
use Rattle.kept_parts.specs.SameSlots.{flag-back, flag-is, numbers-decide}
use Rattle.kept_parts.specs.Slots.{flag}

abbrev pub same_request : Request → Request → Bool
same_request a b = pointwise nat_eq (request_numbers a) (request_numbers b) && pointwise same_want a.wants.items b.wants.items

-- what is hashed of them
abbrev pub request_writes : Request → HashWrites
request_writes r = fed.u8 r.job ++ (fed.u32 r.id ++ fed.u32 (flag r.notified))

-- ---- the tests decide

abbrev at : List ℕ → ℕ → ℕ
at l n = slice_index_or l n 0

abbrev pool-back : ℕ → ℕ → ℕ → Option PoolShare
pool-back n size amount = if n == 0 then None else Some (record { size = size; amount = amount })

abbrev want-back : List ℕ → Key → Want
want-back l key = record {
  key = key;
  shared = flag-back (at l 0);
  group = at l 1;
  bypass = flag-back (at l 2);
  level = at l 3;
  pool = pool-back (at l 4) (at l 5) (at l 6);
}

want-with : (w : Want) (p : Option PoolShare)
    → record { key = w.key; shared = flag-back (flag w.shared); group = w.group; bypass = flag-back (flag w.bypass); level = w.level; pool = p }
    ≡ record w { pool = p }
want-with w p = λ i. record {
  key = w.key;
  shared = flag-is w.shared i;
  group = w.group;
  bypass = flag-is w.bypass i;
  level = w.level;
  pool = p;
}

by-pool : (w : Want) (p : Option PoolShare) → want-back (want_numbers (record w { pool = p })) w.key ≡ record w { pool = p }
by-pool w None = want-with w None
by-pool w (Some p) = want-with w (Some p)

want-is : (w : Want) → want-back (want_numbers w) w.key ≡ w
want-is w = by-pool w w.pool

pub same_want-Decides : (a b : Want) → Decides (same_want a b) (a ≡ b)
same_want-Decides a b = (
  λ h.
      let p = and_parts (same_key a.key b.key) (pointwise nat_eq (want_numbers a) (want_numbers b)) h in
      let key = same_key-eq a.key b.key p.0 in
      let numbers = (numbers-decide (want_numbers a) (want_numbers b)).0 p.1 in
      sym (want-is a) ∙ ap (λ l. want-back l a.key) numbers ∙ ap (want-back (want_numbers b)) key ∙ want-is b,
  λ e. and_from _ _ (eq-same_key a.key b.key (ap (λ (w : Want). w.key) e))
      ((numbers-decide (want_numbers a) (want_numbers b)).1 (ap want_numbers e)),
)

abbrev kind-back : ℕ → EnqueueKind
kind-back n = if n == 0 then Blocking else if n == 1 then AtOnce else Interrupt

kind-is : (k : EnqueueKind) → kind-back (kind_number k) ≡ k
kind-is Blocking = refl
kind-is AtOnce = refl
kind-is Interrupt = refl

abbrev request-back : List ℕ → List Want → Request
request-back l wants = record {
  job = at l 0;
  id = at l 1;
  kind = kind-back (at l 2);
  notified = flag-back (at l 3);
  wants = record { items = wants };
}

request-is : (r : Request) → request-back (request_numbers r) r.wants.items ≡ r
request-is r = λ i. record { job = r.job; id = r.id; kind = kind-is r.kind i; notified = flag-is r.notified i; wants = r.wants }

pub same_request-Decides : (a b : Request) → Decides (same_request a b) (a ≡ b)
same_request-Decides a b =
    let wants = slice_eq-Decides same_want-Decides a.wants.items b.wants.items (pointwise same_want a.wants.items b.wants.items) refl in (
      λ h.
          let p = and_parts (pointwise nat_eq (request_numbers a) (request_numbers b)) (pointwise same_want a.wants.items b.wants.items) h in
          let numbers = (numbers-decide (request_numbers a) (request_numbers b)).0 p.0 in
          sym (request-is a) ∙ ap (λ l. request-back l a.wants.items) numbers ∙ ap (request-back (request_numbers b)) (wants.0 p.1) ∙ request-is b,
      λ e. and_from _ _ ((numbers-decide (request_numbers a) (request_numbers b)).1 (ap request_numbers e))
          (wants.1 (ap (λ (r : Request). r.wants.items) e)),
    )

pub same_request-equiv : IsEquivalence same_request
same_request-equiv = decided same_request same_request-Decides

pub same_request-fed : (a b : Request) → same_request a b ≡ true → request_writes a ≡ request_writes b
same_request-fed a b e = ap request_writes ((same_request-Decides a b).0 e)
