-- The number of a job that is put together of the numbers of its parts.
use Rattle.std.proofs.Common.{◌≡◌, ◌<◌, ◌∙◌, [], ◌∷◌, ℕ, List, Option, length, map, get_or, sym, ap, subst}
use Rattle.std.proofs.lemmas.List.{get_or-map}
use Rattle.std.specs.Prelude.{slice_index_or}
use Rattle.std.specs.List.{IsDistinct}
use Rattle.job_sched.specs.declared.job.Job.{Job}
use Rattle.kept_parts.specs.SameSlots.{same_kept}
use Rattle.kept_parts.specs.declared.slots.KeptSlot.{KeptSlot}
use Rattle.state_search.specs.Parts.{AreGrown, grown_itself, grown_length, part_stays}
use Rattle.job_orders.specs.declared.tables.Tables.{Tables}
use Rattle.job_orders.specs.Forms.{JobForm}
use Rattle.job_orders.specs.Framing.{no_job}
use Rattle.job_orders.specs.Learning.{is_pages_stays, learns_on, words_stay}
use Rattle.job_orders.specs.Pages.{same_numbers}
use Rattle.job_orders.specs.Tables.{IsJob, IsPages, Learns, Lists, job_by, job_of, no_slot, numbers_at, page_at, same_list, slot_at, words_at}

module _ (t : Tables) (slots : List KeptSlot) (u : Tables) (texts : List (List ℕ)) (lists : Lists) (grown_slots : AreGrown t.slots slots)
    (slots_once : IsDistinct same_kept slots) (learns : Learns (record t { slots = slots }) u) (grown_texts : AreGrown u.texts texts)
    (texts_once : IsDistinct same_numbers texts) (grown_lists : AreGrown u.lists lists) (lists_once : IsDistinct same_list lists) where
  begins : Learns t (record t { slots = slots })
  begins = record {
    slots = grown_slots;
    requests = grown_itself t.requests;
    pages = grown_itself t.pages;
    texts = grown_itself t.texts;
    lists = grown_itself t.lists;
    right = λ h. record { slots = slots_once; requests = h.requests; pages = h.pages; texts = h.texts; lists = h.lists };
  }

  goes-on : Learns u (record u { texts = texts; lists = lists })
  goes-on = record {
    slots = grown_itself u.slots;
    requests = grown_itself u.requests;
    pages = grown_itself u.pages;
    texts = grown_texts;
    lists = grown_lists;
    right = λ h. record { slots = h.slots; requests = h.requests; pages = h.pages; texts = texts_once; lists = lists_once };
  }

  pub job-learns : Learns t (record u { texts = texts; lists = lists })
  job-learns =
      learns_on t (record t { slots = slots }) (record u { texts = texts; lists = lists }) begins
      (learns_on (record t { slots = slots }) u (record u { texts = texts; lists = lists }) learns goes-on)

  module _ (s c x n : ℕ) (there : n < length lists) (is : numbers_at lists n ≡ s ∷ c ∷ x ∷ []) (has_slot : s < length slots) (has_core : IsPages u c)
      (has_text : x < length texts) where
    pub is-job : IsJob (record u { texts = texts; lists = lists }) n
    is-job = record {
      slot = s;
      core = c;
      text = x;
      there = there;
      parts = is;
      has_slot = grown_length slots u.slots learns.slots s has_slot;
      has_core = is_pages_stays u (record u { texts = texts; lists = lists }) goes-on c has_core;
      has_text = has_text;
    }

    pub job-is : (j : Option Job) (last : ℕ) (core text : List ℕ) → slot_at slots s ≡ record { slot = j; last = last } → words_at u c ≡ core
        → page_at texts x ≡ text → job_of (record u { texts = texts; lists = lists }) n ≡ record { slot = j; last = last; core = core; text = text }
    job-is j last core text slot-is core-is text-is =
        let slot : slot_at u.slots s ≡ record { slot = j; last = last } =
        part_stays (λ (k : KeptSlot). k) no_slot slots u.slots s learns.slots has_slot ∙ slot-is in
        let words : words_at (record u { texts = texts; lists = lists }) c ≡ core =
        words_stay u (record u { texts = texts; lists = lists }) goes-on c has_core ∙ core-is in
        ap (job_by (record u { texts = texts; lists = lists })) is
        ∙ (λ i. record { slot = (slot i).slot; last = (slot i).last; core = words i; text = text-is i })

-- ---- the parts of a job, by its number

module _ (t : Tables) (n s c x : ℕ) (h : IsJob t n) (is : numbers_at t.lists n ≡ s ∷ c ∷ x ∷ []) where
  same-parts : h.slot ∷ h.core ∷ h.text ∷ [] ≡ s ∷ c ∷ x ∷ []
  same-parts = sym h.parts ∙ is

  pub slot-there : s < length t.slots
  slot-there = subst (λ k. k < length t.slots) (ap (λ ns. slice_index_or ns 0 0) same-parts) h.has_slot

  pub core-there : IsPages t c
  core-there = subst (IsPages t) (ap (λ ns. slice_index_or ns 1 0) same-parts) h.has_core

  pub text-there : x < length t.texts
  text-there = subst (λ k. k < length t.texts) (ap (λ ns. slice_index_or ns 2 0) same-parts) h.has_text

pub three-parts : (t : Tables) (n : ℕ) → IsJob t n → length (numbers_at t.lists n) ≡ 3
three-parts t n h = ap length h.parts

module _ (t : Tables) (ns : List ℕ) (k s c x : ℕ) (low : k < length ns) (is : numbers_at t.lists (get_or ns k 0) ≡ s ∷ c ∷ x ∷ []) where
  job-at : get_or (map (job_of t) ns) k no_job ≡ job_by t (s ∷ c ∷ x ∷ [])
  job-at = get_or-map (job_of t) ns k 0 no_job low ∙ ap (job_by t) is

  pub slot-at : (get_or (map (job_of t) ns) k no_job).slot ≡ (slot_at t.slots s).slot
  slot-at = ap (λ (j : JobForm). j.slot) job-at

  pub last-at : (get_or (map (job_of t) ns) k no_job).last ≡ (slot_at t.slots s).last
  last-at = ap (λ (j : JobForm). j.last) job-at

  pub core-at : (get_or (map (job_of t) ns) k no_job).core ≡ words_at t c
  core-at = ap (λ (j : JobForm). j.core) job-at

  pub text-at : (get_or (map (job_of t) ns) k no_job).text ≡ page_at t.texts x
  text-at = ap (λ (j : JobForm). j.text) job-at
