-- A state is known by its form, and two forms that show one state are the same.
use Rattle.std.proofs.Common.{◌≡◌, ◌≤◌, ◌<◌, ◌∙◌, sym, ap, subst, ℕ, zero, suc, ◌+◌, ◌-◌, List, [], ◌∷◌, ◌++◌, map, replicate, length, None, inl, inr, refl, arith, get_or}
use Rattle.std.proofs.lemmas.Bool.{cases_lt}
use Rattle.std.proofs.lemmas.List.{ext_get_or, get_or_append_left, get_or-append_right, get_or-replicate, get_or-map, get_or_past, length-append, length-map, length-replicate}
use Rattle.word36.specs.declared.sizes.TheConstants.{JOBS, MOST_REQUESTS}
use Rattle.core_store.specs.Cores.{core_of}
use Rattle.job_sched.specs.Tables.{job_at}
use Rattle.uuo_calls.specs.Performed.{World}
use Rattle.machine.specs.Safe.{Housed}
use Rattle.job_order_laws.specs.Turned.{V}
use Rattle.job_orders.specs.Forms.{JobForm, StateForm}
use Rattle.job_orders.specs.Views.{IsFramed, IsOutside, form_in, job_in, jobs_in, padded, view_of}

pub jobs-none : (v : V) → jobs_in v zero ≡ []
unfolding jobs_in
jobs-none v = refl

pub jobs-more : (v : V) (n : ℕ) → jobs_in v (suc n) ≡ jobs_in v n ++ job_in v (suc n) ∷ []
unfolding jobs_in
jobs-more v n = refl

pub jobs-length : (v : V) (n : ℕ) → length (jobs_in v n) ≡ n
jobs-length v zero = ap length (jobs-none v)
jobs-length v (suc n) =
    let more : length (jobs_in v (suc n)) ≡ length (jobs_in v n ++ job_in v (suc n) ∷ []) = ap length (jobs-more v n) in
    let sum : length (jobs_in v n ++ job_in v (suc n) ∷ []) ≡ length (jobs_in v n) + 1 = length-append (jobs_in v n) (job_in v (suc n) ∷ []) in
    let rest : length (jobs_in v n) ≡ n = jobs-length v n in
    omega (arith, more, sum, rest)

abbrev pub no_job : JobForm
no_job = record { slot = None; last = 0; core = []; text = [] }

pub jobs-at : (v : V) (n i : ℕ) → i < n → get_or (jobs_in v n) i no_job ≡ job_in v (suc i)
jobs-at v zero i low = absurd (omega (arith, low))
jobs-at v (suc n) i low =
    let long : length (jobs_in v n) ≡ n = jobs-length v n in
    ap (λ js. get_or js i no_job) (jobs-more v n) ∙ elim (cases_lt i n) [
      | inl below ↦ get_or_append_left (jobs_in v n) (job_in v (suc n) ∷ []) no_job i (omega (arith, below, long)) ∙ jobs-at v n i below
      | inr above ↦
          let is : i ≡ n = omega (arith, low, above) in
          let none : i - n ≡ 0 = omega (arith, low, above) in
          get_or-append_right (jobs_in v n) (job_in v (suc n) ∷ []) n i no_job long (omega (arith, above))
          ∙ ap (λ k. get_or (job_in v (suc n) ∷ []) k no_job) none ∙ ap (λ k. job_in v (suc k)) (sym is)
    ]

-- ---- lists with an element for each number

pub padded-length : {T : Type 0} (z : T) (xs : List T) → length xs ≤ JOBS → length (padded z xs) ≡ JOBS + 1
padded-length z xs few =
    let sum : length (xs ++ replicate (JOBS - length xs) z) ≡ length xs + length (replicate (JOBS - length xs) z) = length-append xs _ in
    let rest : length (replicate (JOBS - length xs) z) ≡ JOBS - length xs = length-replicate (JOBS - length xs) z in
    omega (arith, sum, rest, few)

pub padded-in : {T : Type 0} (z : T) (xs : List T) (i : ℕ) → i < length xs → get_or (padded z xs) (suc i) z ≡ get_or xs i z
padded-in z xs i low = get_or_append_left xs (replicate (JOBS - length xs) z) z i low

pub padded-out : {T : Type 0} (z : T) (xs : List T) (m : ℕ) → IsOutside (length xs) m → get_or (padded z xs) m z ≡ z
padded-out z xs zero out = refl
padded-out z xs (suc m) out =
    let above : length xs ≤ m = elim out [ inl is_none ↦ absurd (omega (arith, is_none)) | inr is_above ↦ omega (arith, is_above) ] in
    get_or-append_right xs (replicate (JOBS - length xs) z) (length xs) m z refl above ∙ elim (cases_lt (m - length xs) (JOBS - length xs)) [
      | inl low ↦ get_or-replicate (JOBS - length xs) (m - length xs) z z low
      | inr high ↦
          let long : length (replicate (JOBS - length xs) z) ≡ JOBS - length xs = length-replicate (JOBS - length xs) z in
          get_or_past (replicate (JOBS - length xs) z) (m - length xs) z (omega (arith, long, high))
    ]

pub padded-is : {T : Type 0} (z : T) (xs l : List T) → length xs ≤ JOBS → length l ≡ JOBS + 1
    → ((i : ℕ) → i < length xs → get_or xs i z ≡ get_or l (suc i) z)
    → ((m : ℕ) → IsOutside (length xs) m → get_or l m z ≡ z) → padded z xs ≡ l
padded-is z xs l few long inside outside =
    ext_get_or z (padded z xs) l (padded-length z xs few ∙ sym long) at
  where
    at : (k : ℕ) → k < length (padded z xs) → get_or (padded z xs) k z ≡ get_or l k z
    at zero low = sym (outside zero (inl refl))
    at (suc i) low = elim (cases_lt i (length xs)) [
      | inl below ↦ padded-in z xs i below ∙ inside i below
      | inr above ↦
          let out : IsOutside (length xs) (suc i) = inr (omega (arith, above)) in
          padded-out z xs (suc i) out ∙ sym (outside (suc i) out)
    ]

-- ---- a state is known by its form

-- one of its lists
listed : {T : Type 0} (z : T) (f : JobForm → T) (v : V) (count : ℕ) (l : List T) → count ≤ JOBS → length l ≡ JOBS + 1
    → ((n : ℕ) → f (job_in v n) ≡ get_or l n z) → ((m : ℕ) → IsOutside count m → get_or l m z ≡ z) → padded z (map f (jobs_in v count)) ≡ l
listed z f v count l few long same outside =
    let many : length (map f (jobs_in v count)) ≡ count = length-map (jobs_in v count) f ∙ jobs-length v count in
    padded-is z (map f (jobs_in v count)) l (omega (arith, many, few)) long
    (λ i low.
    let below : i < count = omega (arith, low, many) in
    get_or-map f (jobs_in v count) i no_job z (omega (arith, below, jobs-length v count)) ∙ ap f (jobs-at v count i below) ∙ same (suc i))
    (λ m out. outside m (subst (λ n. IsOutside n m) many out))

pub form-shows : (quantum blocks count : ℕ) (v : V) → count ≤ JOBS → IsFramed quantum blocks count v → view_of quantum blocks (form_in count v) ≡ v
form-shows quantum blocks count v few h =
    let w : World = v.machine.world in
    let housed : Housed w.table.jobs w.cores = h.awake.sound.housed in
    let slots : padded None (map (λ (j : JobForm). j.slot) (jobs_in v count)) ≡ w.table.jobs =
    listed None (λ j. j.slot) v count w.table.jobs few housed.slots (λ n. refl)
    (λ m out. elim out [ inl is ↦ subst (λ n. job_at w.table.jobs n ≡ None) (sym is) housed.none_0 | inr above ↦ h.jobs m above ]) in
    let bare : (m : ℕ) → IsOutside count m → core_of w.cores m ≡ [] =
    λ m out. housed.bare m (elim out [ inl is ↦ subst (λ n. job_at w.table.jobs n ≡ None) (sym is) housed.none_0 | inr above ↦ h.jobs m above ]) in
    let cores : padded [] (map (λ (j : JobForm). j.core) (jobs_in v count)) ≡ w.cores.cores =
    listed [] (λ j. j.core) v count w.cores.cores few housed.store.jobs (λ n. refl) bare in
    let texts : padded [] (map (λ (j : JobForm). j.text) (jobs_in v count)) ≡ v.texts =
    listed [] (λ j. j.text) v count v.texts few h.texts (λ n. refl) h.no_text in
    let last : padded 0 (map (λ (j : JobForm). j.last) (jobs_in v count)) ≡ v.last =
    listed 0 (λ j. j.last) v count v.last few h.last (λ n. refl) h.no_last in
    let time : 0 ≡ v.machine.time = ap (λ (u : V). u.machine.time) h.awake.awake in
    let current : 0 ≡ w.table.current = ap (λ (u : V). u.machine.world.table.current) h.awake.awake in
    let left : 0 ≡ w.table.left = ap (λ (u : V). u.machine.world.table.left) h.awake.awake in
    let size : MOST_REQUESTS ≡ w.size = sym h.size in
    let lines = sym h.lines in
    let q : quantum ≡ v.machine.quantum = sym h.quantum_is in
    let b : blocks ≡ v.machine.blocks = sym h.blocks_are in
    λ i. record {
      machine = record {
        world = record {
          size = size i;
          table = record { jobs = slots i; current = current i; left = left i };
          lines = lines i;
          requests = w.requests;
          cores = record { cores = cores i; free = w.cores.free };
          shared = w.shared;
        };
        time = time i;
        quantum = q i;
        blocks = b i;
      };
      texts = texts i;
      last = last i;
    }

-- ---- and back

view-job : (quantum blocks : ℕ) (f : StateForm) (i : ℕ) → i < length f.jobs → job_in (view_of quantum blocks f) (suc i) ≡ get_or f.jobs i no_job
view-job quantum blocks f i low =
    let slot = at None (λ (j : JobForm). j.slot) in
    let last = at 0 (λ (j : JobForm). j.last) in
    let core = at [] (λ (j : JobForm). j.core) in
    let text = at [] (λ (j : JobForm). j.text) in
    λ k. record { slot = slot k; last = last k; core = core k; text = text k }
  where
    at : {T : Type 0} (z : T) (g : JobForm → T) → get_or (padded z (map g f.jobs)) (suc i) z ≡ g (get_or f.jobs i no_job)
    at z g =
        let long : length (map g f.jobs) ≡ length f.jobs = length-map f.jobs g in
        padded-in z (map g f.jobs) i (omega (arith, long, low)) ∙ get_or-map g f.jobs i no_job z low

view-jobs : (quantum blocks : ℕ) (f : StateForm) → jobs_in (view_of quantum blocks f) (length f.jobs) ≡ f.jobs
view-jobs quantum blocks f =
    let v : V = view_of quantum blocks f in
    let long : length (jobs_in v (length f.jobs)) ≡ length f.jobs = jobs-length v (length f.jobs) in
    ext_get_or no_job (jobs_in v (length f.jobs)) f.jobs long (λ i low.
    let below : i < length f.jobs = omega (arith, low, long) in
    jobs-at v (length f.jobs) i below ∙ view-job quantum blocks f i below)

pub form-back : (quantum blocks : ℕ) (f : StateForm) → form_in (length f.jobs) (view_of quantum blocks f) ≡ f
form-back quantum blocks f =
    let jobs = view-jobs quantum blocks f in
    λ i. record { jobs = jobs i; requests = f.requests; shared = f.shared; free = f.free }

pub views-apart : (quantum blocks count : ℕ) (f g : StateForm) → length f.jobs ≡ count → length g.jobs ≡ count
    → view_of quantum blocks f ≡ view_of quantum blocks g → f ≡ g
views-apart quantum blocks count f g lf lg e =
    sym (form-back quantum blocks f) ∙ ap (λ n. form_in n (view_of quantum blocks f)) lf ∙ ap (form_in count) e
    ∙ ap (λ n. form_in n (view_of quantum blocks g)) (sym lg) ∙ form-back quantum blocks g
