-- Kept states stay when the tables grow, and those that show the same are the same numbers.
use Rattle.std.specs.Prelude.{◌≡◌, ℕ, zero, suc, ◌+◌, ◌<◌, ◌++◌, List, [], ◌∷◌, length, map, slice_index_or}
use Rattle.std.specs.Bool.{Decides}
use Rattle.std.specs.List.{All}
use Rattle.std.proofs.Common.{Vec, Global, refl, sym, ap, subst, ◌∙◌, arith, length-append}
use Rattle.kept_parts.specs.SameRequests.{same_request, same_request-Decides}
use Rattle.kept_parts.specs.SameSlots.{same_kept, same_kept-Decides}
use Rattle.kept_parts.specs.declared.slots.KeptSlot.{KeptSlot}
use Rattle.lock_queue.specs.Unused.{unused_request}
use Rattle.lock_queue.specs.declared.request.Request.{Request}
use Rattle.state_search.specs.Parts.{AreGrown, AreNumbers, grown_itself, grown_on, grown_length, numbers_stay, part_stays, parts_stay, number_apart, numbers_apart}
use Rattle.job_orders.specs.declared.kept.KeptState.{KeptState}
use Rattle.job_orders.specs.declared.tables.TheConstants.{PAGE_WORDS}
use Rattle.job_orders.specs.declared.tables.Tables.{Tables}
use Rattle.job_orders.specs.Forms.{JobForm, StateForm}
use Rattle.job_orders.specs.Pages.{same_numbers, numbers-Decides}
use Rattle.job_orders.specs.Tables.{items_of, same_list, numbers_at, page_at, words_in, no_slot, slot_at, requests_in, words_at, job_by, job_of, form_of}
use Rattle.job_orders.specs.Tables.{IsPage, IsPages, IsJob, IsRight, IsNumbered, Learns}

pub learns_itself : (t : Tables) → Learns t t
learns_itself t = record {
  slots = grown_itself t.slots;
  requests = grown_itself t.requests;
  pages = grown_itself t.pages;
  texts = grown_itself t.texts;
  lists = grown_itself t.lists;
  right = λ h. h;
}

pub learns_on : (t u v : Tables) → Learns t u → Learns u v → Learns t v
learns_on t u v e f = record {
  slots = grown_on t.slots u.slots v.slots e.slots f.slots;
  requests = grown_on t.requests u.requests v.requests e.requests f.requests;
  pages = grown_on t.pages u.pages v.pages e.pages f.pages;
  texts = grown_on t.texts u.texts v.texts e.texts f.texts;
  lists = grown_on t.lists u.lists v.lists e.lists f.lists;
  right = λ h. f.right (e.right h);
}

-- ---- the parts with some numbers stay

pub page_stays : (old new : List (List ℕ)) (n : ℕ) → AreGrown old new → n < length old → page_at new n ≡ page_at old n
page_stays old new n e l = part_stays (λ (p : List ℕ). p) [] old new n e l

pub pages_stay : (old new : List (List ℕ)) (ns : List ℕ) → AreGrown old new → All (IsPage old) ns → words_in new ns ≡ words_in old ns
pages_stay old new [] e h = refl
pages_stay old new (n ∷ ns) e h =
    let here : page_at new n ≡ page_at old n = page_stays old new n e (h zero 0 (omega arith)).0 in
    let rest : words_in new ns ≡ words_in old ns = pages_stay old new ns e (λ k d l. h (suc k) d (omega (arith, l))) in
    λ i. here i ++ rest i

pub all_pages_stay : (old new : List (List ℕ)) (ns : List ℕ) → AreGrown old new → All (IsPage old) ns → All (IsPage new) ns
all_pages_stay old new ns e h k d l = (
  grown_length old new e (slice_index_or ns k d) (h k d l).0,
  ap length (page_stays old new (slice_index_or ns k d) e (h k d l).0) ∙ (h k d l).1,
)

module _ (t u : Tables) (e : Learns t u) where
  pub list_stays : (n : ℕ) → n < length t.lists → numbers_at u.lists n ≡ numbers_at t.lists n
  list_stays n l = part_stays items_of [] t.lists u.lists n e.lists l

  pub words_stay : (n : ℕ) → IsPages t n → words_at u n ≡ words_at t n
  words_stay n h =
      ap (words_in u.pages) (list_stays n h.there)
      ∙ pages_stay t.pages u.pages (numbers_at t.lists n) e.pages h.pages

  pub is_pages_stays : (n : ℕ) → IsPages t n → IsPages u n
  is_pages_stays n h = record {
    there = grown_length t.lists u.lists e.lists n h.there;
    pages = subst (λ ns. All (IsPage u.pages) ns) (sym (list_stays n h.there))
        (all_pages_stay t.pages u.pages (numbers_at t.lists n) e.pages h.pages);
  }

  job_by_stays : (s c x : ℕ) → s < length t.slots → IsPages t c → x < length t.texts
      → job_by u (s ∷ c ∷ x ∷ []) ≡ job_by t (s ∷ c ∷ x ∷ [])
  job_by_stays s c x ls hc lx =
      let slot : slot_at u.slots s ≡ slot_at t.slots s = part_stays (λ (k : KeptSlot). k) no_slot t.slots u.slots s e.slots ls in
      let core : words_at u c ≡ words_at t c = words_stay c hc in
      let text : page_at u.texts x ≡ page_at t.texts x = page_stays t.texts u.texts x e.texts lx in
      λ i. record { slot = (slot i).slot; last = (slot i).last; core = core i; text = text i }

  pub job_stays : (n : ℕ) → IsJob t n → job_of u n ≡ job_of t n
  job_stays n h =
      ap (job_by u) (list_stays n h.there ∙ h.parts)
      ∙ job_by_stays h.slot h.core h.text h.has_slot h.has_core h.has_text
      ∙ sym (ap (job_by t) h.parts)

  pub is_job_stays : (n : ℕ) → IsJob t n → IsJob u n
  is_job_stays n h = record {
    slot = h.slot;
    core = h.core;
    text = h.text;
    there = grown_length t.lists u.lists e.lists n h.there;
    parts = list_stays n h.there ∙ h.parts;
    has_slot = grown_length t.slots u.slots e.slots h.slot h.has_slot;
    has_core = is_pages_stays h.core h.has_core;
    has_text = grown_length t.texts u.texts e.texts h.text h.has_text;
  }

  pub jobs_stay : (ns : List ℕ) → All (IsJob t) ns → map (job_of u) ns ≡ map (job_of t) ns
  jobs_stay [] h = refl
  jobs_stay (n ∷ ns) h =
      let here : job_of u n ≡ job_of t n = job_stays n (h zero 0 (omega arith)) in
      let rest : map (job_of u) ns ≡ map (job_of t) ns = jobs_stay ns (λ k d l. h (suc k) d (omega (arith, l))) in
      λ i. here i ∷ rest i

  pub all_jobs_stay : (ns : List ℕ) → All (IsJob t) ns → All (IsJob u) ns
  all_jobs_stay ns h k d l = is_job_stays (slice_index_or ns k d) (h k d l)

  pub form_stays : (x : KeptState) → IsNumbered t x → form_of u x ≡ form_of t x
  form_stays x h =
      let jobs : map (job_of u) (numbers_at u.lists x.jobs) ≡ map (job_of t) (numbers_at t.lists x.jobs) =
      ap (map (job_of u)) (list_stays x.jobs h.jobs) ∙ jobs_stay (numbers_at t.lists x.jobs) h.each in
      let requests : requests_in u.requests (numbers_at u.lists x.requests) ≡ requests_in t.requests (numbers_at t.lists x.requests) =
      ap (requests_in u.requests) (list_stays x.requests h.requests)
      ∙ parts_stay (λ (r : Request). r) unused_request t.requests u.requests (numbers_at t.lists x.requests) e.requests h.asked in
      let shared : words_at u x.shared ≡ words_at t x.shared = words_stay x.shared h.shared in
      λ i. record { jobs = jobs i; requests = requests i; shared = shared i; free = x.free }

  pub numbered_stays : (x : KeptState) → IsNumbered t x → IsNumbered u x
  numbered_stays x h = record {
    jobs = grown_length t.lists u.lists e.lists x.jobs h.jobs;
    each = subst (λ ns. All (IsJob u) ns) (sym (list_stays x.jobs h.jobs)) (all_jobs_stay (numbers_at t.lists x.jobs) h.each);
    requests = grown_length t.lists u.lists e.lists x.requests h.requests;
    asked = subst (λ ns. AreNumbers u.requests ns) (sym (list_stays x.requests h.requests))
        (numbers_stay t.requests u.requests (numbers_at t.lists x.requests) e.requests h.asked);
    shared = is_pages_stays x.shared h.shared;
  }

-- ---- the numbers tell states apart

pub same_list-Decides : (x y : Vec ℕ Global) → Decides (same_list x y) (x.items ≡ y.items)
same_list-Decides x y = numbers-Decides x.items y.items

split-apart : (xs ys s t : List ℕ) → length xs ≡ length ys → xs ++ s ≡ ys ++ t → (xs ≡ ys) × (s ≡ t)
split-apart [] [] s t l h = (refl, h)
split-apart [] (y ∷ ys) s t l h = absurd (cc)
split-apart (x ∷ xs) [] s t l h = absurd (cc)
split-apart (x ∷ xs) (y ∷ ys) s t l h =
    let first : x ≡ y = cc in
    let more : xs ++ s ≡ ys ++ t = cc in
    let fewer : length xs ≡ length ys = cc in
    let rest = split-apart xs ys s t fewer more in
    (λ i. first i ∷ rest.0 i, rest.1)

no-more : (xs s : List ℕ) → [] ≡ xs ++ s → length xs ≡ PAGE_WORDS → ⊥
no-more xs s h l =
    let none : 0 ≡ length (xs ++ s) = ap length h in
    let sum : length (xs ++ s) ≡ length xs + length s = length-append xs s in
    omega (arith, none, sum, l)

pub pages_apart : (pages : List (List ℕ)) (ns ms : List ℕ) → All (IsPage pages) ns → All (IsPage pages) ms → words_in pages ns ≡ words_in pages ms
    → map (page_at pages) ns ≡ map (page_at pages) ms
pages_apart pages [] [] a b e = refl
pages_apart pages [] (m ∷ ms) a b e = absurd (no-more (page_at pages m) (words_in pages ms) e (b zero 0 (omega arith)).1)
pages_apart pages (n ∷ ns) [] a b e = absurd (no-more (page_at pages n) (words_in pages ns) (sym e) (a zero 0 (omega arith)).1)
pages_apart pages (n ∷ ns) (m ∷ ms) a b e =
    let parts = split-apart (page_at pages n) (page_at pages m) (words_in pages ns) (words_in pages ms)
    ((a zero 0 (omega arith)).1 ∙ sym (b zero 0 (omega arith)).1) e in
    let here : page_at pages n ≡ page_at pages m = parts.0 in
    let rest : map (page_at pages) ns ≡ map (page_at pages) ms =
    pages_apart pages ns ms (λ k d l. a (suc k) d (omega (arith, l))) (λ k d l. b (suc k) d (omega (arith, l))) parts.1 in
    λ i. here i ∷ rest i

module _ (t : Tables) (right : IsRight t) where
  list_apart : (n m : ℕ) → n < length t.lists → m < length t.lists → numbers_at t.lists n ≡ numbers_at t.lists m → n ≡ m
  list_apart n m ln lm e = number_apart items_of [] same_list same_list-Decides t.lists right.lists n m ln lm e

  words_apart : (n m : ℕ) → IsPages t n → IsPages t m → words_at t n ≡ words_at t m → n ≡ m
  words_apart n m a b e =
      list_apart n m a.there b.there (numbers_apart (λ (p : List ℕ). p) [] same_numbers numbers-Decides t.pages right.pages
      (numbers_at t.lists n) (numbers_at t.lists m) (λ k d l. (a.pages k d l).0) (λ k d l. (b.pages k d l).0)
      (pages_apart t.pages (numbers_at t.lists n) (numbers_at t.lists m) a.pages b.pages e))

  job_apart : (n m : ℕ) → IsJob t n → IsJob t m → job_of t n ≡ job_of t m → n ≡ m
  job_apart n m a b e =
      let f : job_by t (a.slot ∷ a.core ∷ a.text ∷ []) ≡ job_by t (b.slot ∷ b.core ∷ b.text ∷ []) =
      sym (ap (job_by t) a.parts) ∙ e ∙ ap (job_by t) b.parts in
      let kept : slot_at t.slots a.slot ≡ slot_at t.slots b.slot =
      ap (λ (j : JobForm). record { slot = j.slot; last = j.last }) f in
      let slot : a.slot ≡ b.slot = number_apart (λ (k : KeptSlot). k) no_slot same_kept same_kept-Decides t.slots right.slots a.slot b.slot
      a.has_slot b.has_slot kept in
      let core : a.core ≡ b.core = words_apart a.core b.core a.has_core b.has_core (ap (λ (j : JobForm). j.core) f) in
      let text : a.text ≡ b.text = number_apart (λ (p : List ℕ). p) [] same_numbers numbers-Decides t.texts right.texts a.text b.text
      a.has_text b.has_text (ap (λ (j : JobForm). j.text) f) in
      list_apart n m a.there b.there (a.parts ∙ (λ i. slot i ∷ core i ∷ text i ∷ []) ∙ sym b.parts)

  jobs_apart : (ns ms : List ℕ) → All (IsJob t) ns → All (IsJob t) ms → map (job_of t) ns ≡ map (job_of t) ms → ns ≡ ms
  jobs_apart [] [] a b e = refl
  jobs_apart [] (m ∷ ms) a b e = absurd (cc)
  jobs_apart (n ∷ ns) [] a b e = absurd (cc)
  jobs_apart (n ∷ ns) (m ∷ ms) a b e =
      let first : job_of t n ≡ job_of t m = cc in
      let more : map (job_of t) ns ≡ map (job_of t) ms = cc in
      let here = job_apart n m (a zero 0 (omega arith)) (b zero 0 (omega arith)) first in
      let rest = jobs_apart ns ms (λ k d l. a (suc k) d (omega (arith, l))) (λ k d l. b (suc k) d (omega (arith, l))) more in
      λ i. here i ∷ rest i

  -- kept states that show the same are the same numbers
  pub forms_apart : (x y : KeptState) → IsNumbered t x → IsNumbered t y → form_of t x ≡ form_of t y → x ≡ y
  forms_apart x y a b e =
      let jobs : x.jobs ≡ y.jobs = list_apart x.jobs y.jobs a.jobs b.jobs
      (jobs_apart (numbers_at t.lists x.jobs) (numbers_at t.lists y.jobs) a.each b.each (ap (λ (f : StateForm). f.jobs) e)) in
      let requests : x.requests ≡ y.requests = list_apart x.requests y.requests a.requests b.requests
      (numbers_apart (λ (r : Request). r) unused_request same_request same_request-Decides t.requests right.requests
      (numbers_at t.lists x.requests) (numbers_at t.lists y.requests) a.asked b.asked (ap (λ (f : StateForm). f.requests) e)) in
      let shared : x.shared ≡ y.shared = words_apart x.shared y.shared a.shared b.shared (ap (λ (f : StateForm). f.shared) e) in
      let free : x.free ≡ y.free = ap (λ (f : StateForm). f.free) e in
      λ i. record { jobs = jobs i; requests = requests i; shared = shared i; free = free i }
