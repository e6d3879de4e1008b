-- What a store keeps when a request comes, leaves or is changed.
use Rattle.std.proofs.Common.{◌≡◌, ◌≢◌, ◌≤◌, ◌<◌, ◌+◌, ◌∙◌, sym, ap, subst, ℕ, zero, suc, Bool, true, false, ◌&&◌, ◌==◌, List, [], ◌∷◌}
use Rattle.std.proofs.Common.{◌++◌, length, map, filter, get_or, slice_set, Option, Some, None, is_some, inl, inr, refl, arith, take, drop}
use Rattle.std.proofs.lemmas.Bool.{both_ways, eq-eqb, cases_eq}
use Rattle.std.proofs.lemmas.List.{append-nil, length-append, length-set, get_or-set_same, get_or-set_other, get_or_default, map-set, length-map}
use Rattle.std.proofs.lemmas.List.Elements.{filter-append}
use Rattle.std.proofs.Math.Seq.{take-append_seam}
use Rattle.word36.specs.declared.sizes.TheConstants.{JOBS, MOST_REQUESTS}
use Rattle.key_queues.specs.declared.entry.Entry.{Entry}
use Rattle.key_queues.specs.Entries.{unused_entry}
use Rattle.key_queues.specs.EntrySlabs.{content_at, is_filled, with_content}
use Rattle.key_queues.specs.Stores.{one_if, without_slot, Stored, entry_at, with_entry, entry_or, job_at, list_of, IsStored, blocked_at, blocked_of, is_blocked, slots_of, number_of, recounted}
use Rattle.key_queues.specs.Tables.{is_there, AreDistinct}
use Rattle.key_queues.proofs.Orders.{there_filter, filter_passes, count_changed, count_last, count_without, there_last, stands_filter, filter_same, filter_short}
use Rattle.key_queues.proofs.Orders.{filter_there, stands_last, without_other, without_gone, without_once, without_length, without_kept, without_left}
use Rattle.key_queues.proofs.Contents.{within}

-- the request of a slot, from what stands there
pub entry_is : (contents : List (Option Entry)) (p : ℕ) → get_or (map entry_or contents) p unused_entry ≡ entry_or (content_at contents p)
entry_is [] zero = refl
entry_is [] (suc p) = refl
entry_is (o ∷ contents) zero = refl
entry_is (o ∷ contents) (suc p) = entry_is contents p

pub and_true : (b : Bool) → (b && true) ≡ b
and_true true = refl
and_true false = refl

module _ (n : ℕ) (contents : List (Option Entry)) (len : ℕ) (order : List ℕ) (own : List (List ℕ)) (counts : List ℕ)
    (k : IsStored n contents len order own counts) (p : ℕ) where
  same_content : (o : Option Entry) → p < n → content_at (with_content contents p o) p ≡ o
  same_content o lt = get_or-set_same contents p o None (omega (arith, k.long))

  other_content : (o : Option Entry) (q : ℕ) → q ≢ p → content_at (with_content contents p o) q ≡ content_at contents q
  other_content o q ne = get_or-set_other contents p q o None ne

  job_same : (o : Option Entry) → p < n → job_at (with_content contents p o) p ≡ (entry_or o).request.job
  job_same o lt = ap (λ x. (entry_or x).request.job) (same_content o lt)

  job_other : (o : Option Entry) (q : ℕ) → q ≢ p → job_at (with_content contents p o) q ≡ job_at contents q
  job_other o q ne = ap (λ x. (entry_or x).request.job) (other_content o q ne)

  block_same : (o : Option Entry) → p < n → blocked_at (with_content contents p o) p ≡ is_blocked (entry_or o)
  block_same o lt = ap (λ x. is_blocked (entry_or x)) (same_content o lt)

  block_other : (o : Option Entry) (q : ℕ) → q ≢ p → blocked_at (with_content contents p o) q ≡ blocked_at contents q
  block_other o q ne = ap (λ x. is_blocked (entry_or x)) (other_content o q ne)

  pub numbered : (job : ℕ) → job ≤ JOBS → job < length counts
  numbered job le = omega (arith, k.numbers, le)

  pub list_room : (job : ℕ) → job ≤ JOBS → length order < n → length (list_of own job) < n
  list_room job le room =
      omega (arith, ap length (k.each job le), filter_short (λ x. job_at contents x == job) order, room)

  pub job_listed : (job : ℕ) → job ≤ JOBS → job < length own
  job_listed job le = omega (arith, k.lists, le)

  -- what is read as a job's list
  pub list_read : (job : ℕ) (list : List ℕ) → job ≤ JOBS → list ≡ get_or own job list → list ≡ list_of own job
  list_read job list le is = is ∙ get_or_default own job list [] (job_listed job le)

  pub number_small : (job : ℕ) → job ≤ JOBS → number_of counts job ≤ MOST_REQUESTS
  number_small job le =
      omega (
        arith,
        k.blocked job le,
        filter_short (blocked_at contents) (list_of own job),
        ap length (k.each job le),
        filter_short (λ x. job_at contents x == job) order,
        k.few,
        k.small,
      )

  -- the numbers of other jobs
  other_number : (o : Option Entry) (own_then : List (List ℕ)) (more : ℕ) (j job : ℕ) → j ≤ JOBS → j ≢ job
      → list_of own_then j ≡ list_of own j
      → ((x : ℕ) → is_there x (list_of own j) ≡ true → x ≢ p)
      → number_of (slice_set counts job more) j ≡ length (filter (blocked_at (with_content contents p o)) (list_of own_then j))
  other_number o own_then more j job le ne list away =
      let same = filter_same (blocked_at contents) (blocked_at (with_content contents p o)) (list_of own j) (λ x t. sym (block_other o x (away x t))) in
      grind (arith, get_or-set_other counts job j more 0 ne, k.blocked j le, same, list)

  -- a slot that stands in another job's list
  away_from : (j : ℕ) → j ≤ JOBS → j ≢ job_at contents p → (x : ℕ) → is_there x (list_of own j) ≡ true → x ≢ p
  away_from j le ne x t s = grind (arith, filter_passes (λ y. job_at contents y == j) x order, k.each j le, t, s, ne)

  pub filled_within : is_filled contents p ≡ true → p < n
  filled_within h = within n contents p k.long h

  -- a request is changed, and not its job
  module _ (f : Entry) (h : is_filled contents p ≡ true) (same : f.request.job ≡ job_at contents p) where
    job_kept : (q : ℕ) → job_at (with_content contents p (Some f)) q ≡ job_at contents q
    job_kept q = grind (arith, same, job_same (Some f) (filled_within h), job_other (Some f) q)

    filled_kept : (q : ℕ) → is_filled (with_content contents p (Some f)) q ≡ is_filled contents q
    filled_kept q = grind (arith, h, same_content (Some f) (filled_within h), other_content (Some f) q)

    change_keeps_by : (numbers : List ℕ) → length numbers ≡ JOBS + 1
        → ((j : ℕ) → j ≤ JOBS → number_of numbers j ≡ length (filter (blocked_at (with_content contents p (Some f))) (list_of own j)))
        → IsStored n (with_content contents p (Some f)) len order own numbers
    change_keeps_by numbers as_many right = record {
      small = k.small;
      numbers = as_many;
      blocked = right;
      long = length-set contents p (Some f) ∙ k.long;
      there = λ q. k.there q ∙ sym (filled_kept q);
      once = k.once;
      many = k.many;
      few = k.few;
      lists = k.lists;
      jobs = λ q. subst (λ j. j ≤ JOBS) (sym (job_kept q)) (k.jobs q);
      each =
          λ j le. k.each j le
          ∙ filter_same (λ x. job_at contents x == j) (λ x. job_at (with_content contents p (Some f)) x == j) order
          (λ x t. ap (λ y. y == j) (sym (job_kept x)));
    }

    block_kept : (q : ℕ) → is_blocked f ≡ blocked_at contents p → blocked_at contents q ≡ blocked_at (with_content contents p (Some f)) q
    block_kept q kept = elim (cases_eq q p) [
      | inl e ↦ rw e (sym kept ∙ sym (block_same (Some f) (filled_within h)))
      | inr ne ↦ sym (block_other (Some f) q ne)
    ]

    pub change_keeps : is_blocked f ≡ blocked_at contents p → IsStored n (with_content contents p (Some f)) len order own counts
    change_keeps kept = change_keeps_by counts k.numbers (λ j le.
        k.blocked j le
        ∙ ap length (filter_same (blocked_at contents) (blocked_at (with_content contents p (Some f))) (list_of own j)
        (λ x t. block_kept x kept)))

    pub grant_keeps : IsStored n (with_content contents p (Some f)) len order own
        (slice_set counts f.request.job (recounted (number_of counts f.request.job) (blocked_at contents p) (is_blocked f)))
    grant_keeps =
        subst
        (λ job. IsStored n (with_content contents p (Some f)) len order own
        (slice_set counts job (recounted (number_of counts job) (blocked_at contents p) (is_blocked f)))) (sym same)
        (change_keeps_by _ (length-set counts (job_at contents p) _ ∙ k.numbers) (λ j le. elim (cases_eq j (job_at contents p)) [
          | inl s ↦
              let job : ℕ = job_at contents p in
              let new : ℕ → Bool = blocked_at (with_content contents p (Some f)) in
              let there : is_there p (list_of own job) ≡ true =
              ap (is_there p) (k.each job (k.jobs p)) ∙ filter_there (λ x. job_at contents x == job) p order (k.there p ∙ h) (eq-eqb job job refl) in
              let once : AreDistinct (list_of own job) = subst AreDistinct (sym (k.each job (k.jobs p))) (stands_filter (λ x. job_at contents x == job) order k.once) in
              let changed = count_changed (blocked_at contents) new p (list_of own job) once there (λ x ne. sym (block_other (Some f) x ne)) in
              let mine : one_if (new p) ≡ one_if (is_blocked f) = ap one_if (block_same (Some f) (filled_within h)) in
              let counted : recounted (number_of counts job) (blocked_at contents p) (is_blocked f) ≡ length (filter new (list_of own job)) =
              omega (arith, changed, mine, k.blocked job (k.jobs p)) in
              let number = get_or-set_same counts job (recounted (number_of counts job) (blocked_at contents p) (is_blocked f)) 0 (numbered job (k.jobs p)) in
              grind (arith, counted, number)
          | inr ne ↦
              other_number (Some f) own (recounted (number_of counts (job_at contents p)) (blocked_at contents p) (is_blocked f)) j
              (job_at contents p) le ne refl (away_from j le ne)
        ]))

  -- a request comes
  module _ (f : Entry) (e : content_at contents p ≡ None) (lt : p < n) (room : length order < n) (most : f.request.job ≤ JOBS) where
    pub out_is : is_there p order ≡ false
    out_is = k.there p ∙ ap is_some e

    not_here : (x : ℕ) → is_there x order ≡ true → x ≢ p
    not_here x t s = grind (arith, out_is, t, s)

    there_then : (q : ℕ) → is_there q (order ++ p ∷ []) ≡ is_filled (with_content contents p (Some f)) q
    there_then q = grind (arith, there_last q p order, same_content (Some f) lt, other_content (Some f) q, k.there q)

    jobs_then : (q : ℕ) → job_at (with_content contents p (Some f)) q ≤ JOBS
    jobs_then q = grind (arith, job_same (Some f) lt, job_other (Some f) q, most, k.jobs q)

    each_then : (j : ℕ) → j ≤ JOBS
        → list_of (slice_set own f.request.job (list_of own f.request.job ++ p ∷ [])) j
        ≡ filter (λ x. job_at (with_content contents p (Some f)) x == j) (order ++ p ∷ [])
    each_then j le =
        let new : ℕ → Bool = λ x. job_at (with_content contents p (Some f)) x == j in
        let front : filter (λ x. job_at contents x == j) order ≡ filter new order =
        filter_same (λ x. job_at contents x == j) new order (λ x t. ap (λ y. y == j) (sym (job_other (Some f) x (not_here x t)))) in
        let last = filter-append new order (p ∷ []) in
        let here = job_same (Some f) lt in
        let there : f.request.job < length own = omega (arith, k.lists, most) in
        grind (arith, k.each j le, front, last, here, there, get_or-set_same, get_or-set_other, append-nil)

    pub insert_keeps : IsStored n (with_content contents p (Some f)) (len + 1) (order ++ p ∷ []) (slice_set own f.request.job (list_of own f.request.job ++ p ∷ []))
        (slice_set counts f.request.job (recounted (number_of counts f.request.job) false (is_blocked f)))
    insert_keeps = record {
      small = k.small;
      numbers = length-set counts f.request.job _ ∙ k.numbers;
      blocked = λ j le. elim (cases_eq j f.request.job) [
        | inl s ↦
            let job : ℕ = f.request.job in
            let new : ℕ → Bool = blocked_at (with_content contents p (Some f)) in
            let list : List ℕ = list_of own job ++ p ∷ [] in
            let away : (x : ℕ) → is_there x (list_of own job) ≡ true → x ≢ p =
            λ x t. not_here x (there_filter (λ y. job_at contents y == job) x order (subst (λ l. is_there x l ≡ true) (k.each job most) t)) in
            let front = ap length (filter_same (blocked_at contents) new (list_of own job) (λ x t. sym (block_other (Some f) x (away x t)))) in
            let mine : one_if (new p) ≡ one_if (is_blocked f) = ap one_if (block_same (Some f) lt) in
            let counted : recounted (number_of counts job) false (is_blocked f) ≡ length (filter new list) =
            omega (arith, count_last new (list_of own job) p, front, mine, k.blocked job most) in
            let at = get_or-set_same own job list [] (job_listed job most) in
            grind (arith, counted, at, get_or-set_same counts job (recounted (number_of counts job) false (is_blocked f)) 0 (numbered job most))
        | inr ne ↦
            other_number (Some f) (slice_set own f.request.job (list_of own f.request.job ++ p ∷ []))
            (recounted (number_of counts f.request.job) false (is_blocked f)) j f.request.job le ne
            (get_or-set_other own f.request.job j (list_of own f.request.job ++ p ∷ []) [] ne)
            (λ x t. not_here x (there_filter (λ y. job_at contents y == j) x order (subst (λ l. is_there x l ≡ true) (k.each j le) t)))
      ];
      long = length-set contents p (Some f) ∙ k.long;
      there = there_then;
      once = stands_last order p out_is k.once;
      many = omega (arith, k.many, length-append order (p ∷ []));
      few = omega (arith, room, length-append order (p ∷ []));
      lists = length-set own f.request.job (list_of own f.request.job ++ p ∷ []) ∙ k.lists;
      jobs = jobs_then;
      each = each_then;
    }

  -- a request leaves
  module _ (h : is_filled contents p ≡ true) where
    pub present : is_there p order ≡ true
    present = k.there p ∙ h

    pub in_list : is_there p (list_of own (job_at contents p)) ≡ true
    in_list =
        ap (is_there p) (k.each (job_at contents p) (k.jobs p))
        ∙ filter_there (λ x. job_at contents x == job_at contents p) p order present (eq-eqb (job_at contents p) (job_at contents p) refl)

    pub list_once : AreDistinct (list_of own (job_at contents p))
    list_once =
        subst AreDistinct (sym (k.each (job_at contents p) (k.jobs p))) (stands_filter (λ x. job_at contents x == job_at contents p) order k.once)

    there_left : (q : ℕ) → is_there q (without_slot order p) ≡ is_filled (with_content contents p None) q
    there_left q =
        let gone = without_gone p order k.once in
        let other = without_other p order q in
        grind (arith, gone, other, same_content None (filled_within h), other_content None q, k.there q)

    jobs_left : (q : ℕ) → job_at (with_content contents p None) q ≤ JOBS
    jobs_left q = grind (arith, job_same None (filled_within h), job_other None q, k.jobs q)

    gone_from : (x : ℕ) → is_there x (without_slot order p) ≡ true → x ≢ p
    gone_from x t s = grind (arith, without_gone p order k.once, t, s)

    each_left : (j : ℕ) → j ≤ JOBS
        → list_of (slice_set own (job_at contents p) (without_slot (list_of own (job_at contents p)) p)) j
        ≡ filter (λ x. job_at (with_content contents p None) x == j) (without_slot order p)
    each_left j le =
        let was : ℕ → Bool = λ x. job_at contents x == j in
        let same : filter was (without_slot order p) ≡ filter (λ x. job_at (with_content contents p None) x == j) (without_slot order p) =
        filter_same was (λ x. job_at (with_content contents p None) x == j) (without_slot order p)
        (λ x t. ap (λ y. y == j) (sym (job_other None x (gone_from x t)))) in
        let there = job_listed (job_at contents p) (k.jobs p) in
        grind (arith, k.each j le, same, there, without_kept p order was, without_left p order was, get_or-set_same, get_or-set_other)

    pub remove_keeps : (left : ℕ) → left + 1 ≡ len
        → IsStored n (with_content contents p None) left (without_slot order p) (slice_set own (job_at contents p) (without_slot (list_of own (job_at contents p)) p))
        (slice_set counts (job_at contents p) (recounted (number_of counts (job_at contents p)) (blocked_at contents p) false))
    remove_keeps left fewer = record {
      small = k.small;
      numbers = length-set counts (job_at contents p) _ ∙ k.numbers;
      blocked = λ j le. elim (cases_eq j (job_at contents p)) [
        | inl s ↦
            let job : ℕ = job_at contents p in
            let new : ℕ → Bool = blocked_at (with_content contents p None) in
            let list : List ℕ = without_slot (list_of own job) p in
            let away : (x : ℕ) → is_there x list ≡ true → x ≢ p =
            λ x t e. both_ways (is_there p list) (without_gone p (list_of own job) list_once) (subst (λ y. is_there y list ≡ true) e t) in
            let same = ap length (filter_same (blocked_at contents) new list (λ x t. sym (block_other None x (away x t)))) in
            let counted : recounted (number_of counts job) (blocked_at contents p) false ≡ length (filter new list) =
            omega (arith, count_without (blocked_at contents) p (list_of own job) in_list, same, k.blocked job (k.jobs p)) in
            let at = get_or-set_same own job list [] (job_listed job (k.jobs p)) in
            let number = get_or-set_same counts job (recounted (number_of counts job) (blocked_at contents p) false) 0 (numbered job (k.jobs p)) in
            grind (arith, counted, at, number)
        | inr ne ↦
            other_number None (slice_set own (job_at contents p) (without_slot (list_of own (job_at contents p)) p))
            (recounted (number_of counts (job_at contents p)) (blocked_at contents p) false) j (job_at contents p) le ne
            (get_or-set_other own (job_at contents p) j (without_slot (list_of own (job_at contents p)) p) [] ne)
            (away_from j le ne)
      ];
      long = length-set contents p None ∙ k.long;
      there = there_left;
      once = without_once p order k.once;
      many = omega (arith, fewer, k.many, without_length p order present);
      few = omega (arith, k.few, without_length p order present);
      lists = length-set own (job_at contents p) (without_slot (list_of own (job_at contents p)) p) ∙ k.lists;
      jobs = jobs_left;
      each = each_left;
    }

-- an element of a list that is written in place
pub written_in : {A : Type 0} → (xs ys : List A) (k : ℕ) (x : A) → ys ≡ xs
    → take (length xs) (slice_set ys k x ++ drop (length (slice_set ys k x)) xs) ≡ slice_set xs k x
written_in xs ys k x is =
    let past : List _ = drop (length (slice_set xs k x)) xs in
    rw is (ap (λ n. take n (slice_set xs k x ++ past)) (sym (length-set xs k x)) ∙ take-append_seam (slice_set xs k x) past)

-- what is seen of a store

module _ (contents : List (Option Entry)) (order : List ℕ) (s : Stored) (p : ℕ) where
  pub seen_entry : record { entries = map entry_or contents; order = order } ≡ s → entry_at s p ≡ entry_or (content_at contents p)
  seen_entry seen = ap (λ (t : Stored). entry_at t p) (sym seen) ∙ entry_is contents p

  pub seen_set : record { entries = map entry_or contents; order = order } ≡ s → (o : Option Entry)
      → map entry_or (with_content contents p o) ≡ slice_set s.entries p (entry_or o)
  seen_set seen o = map-set entry_or contents p o ∙ ap (λ (t : Stored). slice_set t.entries p (entry_or o)) seen

  pub seen_then : record { entries = map entry_or contents; order = order } ≡ s → (new : List (Option Entry)) (later : List ℕ) (o : Option Entry)
      → (after : List ℕ → List ℕ) → new ≡ with_content contents p o → later ≡ after order
      → ◌≡◌ {A = Stored} (record { entries = map entry_or new; order = later }) (record { entries = slice_set s.entries p (entry_or o); order = after s.order })
  seen_then seen new later o after is then =
      let entries : map entry_or new ≡ slice_set s.entries p (entry_or o) = ap (map entry_or) is ∙ seen_set seen o in
      let order_then : later ≡ after s.order = then ∙ ap (λ (t : Stored). after t.order) seen in
      λ i. record { entries = entries i; order = order_then i }

  pub seen_change : record { entries = map entry_or contents; order = order } ≡ s → (change : Entry → Entry) (old f : Entry)
      → old ≡ entry_or (content_at contents p) → f ≡ change old
      → record { entries = map entry_or (with_content contents p (Some f)); order = order } ≡ with_entry s p (change (entry_at s p))
  seen_change seen change old f was is =
      seen_then seen (with_content contents p (Some f)) order (Some f) (λ l. l) refl refl
      ∙ ap (with_entry s p) (is ∙ ap change (was ∙ sym (seen_entry seen)))

-- a slot that is present
module _ (n : ℕ) (contents : List (Option Entry)) (len : ℕ) (order : List ℕ) (own : List (List ℕ)) (counts : List ℕ)
    (k : IsStored n contents len order own counts) (s : Stored) (p : ℕ) (seen : record { entries = map entry_or contents; order = order } ≡ s)
    (h : is_there p s.order ≡ true) where
  pub seen_filled : is_filled contents p ≡ true
  seen_filled = sym (k.there p) ∙ ap (λ (t : Stored). is_there p t.order) seen ∙ h

  pub seen_small : p < n
  seen_small = within n contents p k.long seen_filled

  pub seen_within : p < length s.entries
  seen_within = omega (arith, seen_small, k.long, length-map contents entry_or, ap (λ (t : Stored). length t.entries) seen)

  -- a change that leaves its job, and whether that waits
  pub change_kept : (old f : Entry) → old ≡ entry_or (content_at contents p) → f.request.job ≡ old.request.job → is_blocked f ≡ is_blocked old
      → IsStored n (with_content contents p (Some f)) len order own counts
  change_kept old f was job blocked =
      change_keeps n contents len order own counts k p f seen_filled (job ∙ ap (λ (x : Entry). x.request.job) was) (blocked ∙ ap is_blocked was)

-- a job's list, and by how many of its requests it waits
module _ (n : ℕ) (contents : List (Option Entry)) (len : ℕ) (order : List ℕ) (own : List (List ℕ)) (counts : List ℕ)
    (k : IsStored n contents len order own counts) (s : Stored) (job : ℕ) (seen : record { entries = map entry_or contents; order = order } ≡ s)
    (le : job ≤ JOBS) where
  pub list_is : list_of own job ≡ slots_of s job
  list_is =
      k.each job le
      ∙ filter_same (λ x. job_at contents x == job) (λ x. (entry_at s x).request.job == job) order
      (λ x t. ap (λ (f : Entry). f.request.job == job) (sym (seen_entry contents order s x seen)))
      ∙ ap (λ (t : Stored). filter (λ x. (entry_at s x).request.job == job) t.order) seen

  pub seen_blocked : number_of counts job ≡ blocked_of s job
  seen_blocked =
      k.blocked job le
      ∙ ap (λ l. length (filter (blocked_at contents) l)) list_is
      ∙ ap length
      (filter_same (blocked_at contents) (λ x. is_blocked (entry_at s x)) (slots_of s job)
      (λ x t. ap is_blocked (sym (seen_entry contents order s x seen))))
