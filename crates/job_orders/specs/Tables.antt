-- What states are made of: tables of parts.
use Rattle.std.specs.Prelude.{◌≡◌, ℕ, ◌<◌, Bool, List, [], ◌∷◌, None, length, map, slice_index_or}
use Rattle.std.specs.List.{All, IsDistinct, flat_map}
use Rattle.std.proofs.Common.{Vec, Global}
use Rattle.lock_queue.specs.Unused.{unused_request}
use Rattle.lock_queue.specs.declared.request.Request.{Request}
use Rattle.kept_parts.specs.SameRequests.{same_request}
use Rattle.kept_parts.specs.SameSlots.{same_kept}
use Rattle.kept_parts.specs.declared.slots.KeptSlot.{KeptSlot}
use Rattle.state_search.specs.Parts.{AreGrown, AreNumbers, part_of, parts_of}
use Rattle.job_orders.specs.declared.kept.KeptState.{KeptState}
use Rattle.job_orders.specs.declared.tables.TheConstants.{PAGE_WORDS}
use Rattle.job_orders.specs.declared.tables.Tables.{Tables}
use Rattle.job_orders.specs.Forms.{JobForm, StateForm}
use Rattle.job_orders.specs.Pages.{same_numbers}

-- ---- the parts of a state, by their numbers

-- lists of numbers
abbrev pub Lists : Type 0
Lists = List (Vec ℕ Global)

abbrev pub items_of : Vec ℕ Global → List ℕ
items_of v = v.items

abbrev pub same_list : Vec ℕ Global → Vec ℕ Global → Bool
same_list x y = same_numbers x.items y.items

-- the list with a number
abbrev pub numbers_at : Lists → ℕ → List ℕ
numbers_at lists n = part_of items_of [] lists n

-- the page, and the text, with a number
abbrev pub page_at : List (List ℕ) → ℕ → List ℕ
page_at pages n = part_of (λ p. p) [] pages n

-- the words of pages with some numbers
abbrev pub words_in : List (List ℕ) → List ℕ → List ℕ
words_in pages ns = flat_map (page_at pages) ns

-- no job
abbrev pub no_slot : KeptSlot
no_slot = record { slot = None; last = 0 }

abbrev pub slot_at : List KeptSlot → ℕ → KeptSlot
slot_at slots n = part_of (λ s. s) no_slot slots n

-- the requests with some numbers
abbrev pub requests_in : List Request → List ℕ → List Request
requests_in requests ns = parts_of (λ r. r) unused_request requests ns

-- the words of a list of pages
abbrev pub words_at : Tables → ℕ → List ℕ
words_at t n = words_in t.pages (numbers_at t.lists n)

-- a job, by the numbers of its slot, its core and its text
abbrev pub job_by : Tables → List ℕ → JobForm
job_by t ns = record {
  slot = (slot_at t.slots (slice_index_or ns 0 0)).slot;
  last = (slot_at t.slots (slice_index_or ns 0 0)).last;
  core = words_at t (slice_index_or ns 1 0);
  text = page_at t.texts (slice_index_or ns 2 0);
}

abbrev pub job_of : Tables → ℕ → JobForm
job_of t n = job_by t (numbers_at t.lists n)

-- a kept state
abbrev pub form_of : Tables → KeptState → StateForm
form_of t x = record {
  jobs = map (job_of t) (numbers_at t.lists x.jobs);
  requests = requests_in t.requests (numbers_at t.lists x.requests);
  shared = words_at t x.shared;
  free = x.free;
}

-- ---- facts on them

-- the number of a page, which has the words of one
abbrev pub IsPage : List (List ℕ) → ℕ → Type 0
IsPage pages n = (n < length pages) × (length (page_at pages n) ≡ PAGE_WORDS)

-- the number of a list of such
pub record IsPages (t : Tables) (n : ℕ) : Type 0 where
  pub there : n < length t.lists
  pub pages : All (IsPage t.pages) (numbers_at t.lists n)

-- the number of a list of a slot, a core and a text
pub record IsJob (t : Tables) (n : ℕ) : Type 0 where
  pub slot : ℕ
  pub core : ℕ
  pub text : ℕ
  pub there : n < length t.lists
  pub parts : numbers_at t.lists n ≡ slot ∷ core ∷ text ∷ []
  pub has_slot : slot < length t.slots
  pub has_core : IsPages t core
  pub has_text : text < length t.texts

-- no part has two numbers
pub record IsRight (t : Tables) : Type 0 where
  pub slots : IsDistinct same_kept t.slots
  pub requests : IsDistinct same_request t.requests
  pub pages : IsDistinct same_numbers t.pages
  pub texts : IsDistinct same_numbers t.texts
  pub lists : IsDistinct same_list t.lists

-- all numbers of a state are those of parts
pub record IsNumbered (t : Tables) (x : KeptState) : Type 0 where
  pub jobs : x.jobs < length t.lists
  pub each : All (IsJob t) (numbers_at t.lists x.jobs)
  pub requests : x.requests < length t.lists
  pub asked : AreNumbers t.requests (numbers_at t.lists x.requests)
  pub shared : IsPages t x.shared

-- the tables have grown, and are as right as they were
pub record Learns (t u : Tables) : Type 0 where
  pub slots : AreGrown t.slots u.slots
  pub requests : AreGrown t.requests u.requests
  pub pages : AreGrown t.pages u.pages
  pub texts : AreGrown t.texts u.texts
  pub lists : AreGrown t.lists u.lists
  pub right : IsRight t → IsRight u
