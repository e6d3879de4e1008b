-- Kept states stay when the tables grow, and those that show the same are the same numbers.
use Rattle.std.specs.Prelude.{◌≡◌, ℕ, ◌<◌, ◌++◌, List, [], ◌∷◌, Bool, true, false, length, map, slice_index_or}
use Rattle.std.specs.Bool.{Decides}
use Rattle.std.specs.Cmp.{unsigned_Decides}
use Rattle.std.specs.List.{All}
use Rattle.std.specs.Cmp.Lexicographic.{pointwise}
use Rattle.std.specs.Prelude.{nat_eq}
use Rattle.std.proofs.Common.{Vec, Global, refl, sym, ap, subst, ◌∙◌}
use Rattle.std.proofs.lemmas.Slice.Eq.{slice_eq-Decides}
use Rattle.lock_queue.specs.Jobs.{is_waiting_job}
use Rattle.state_search.specs.Parts.{AreGrown, AreNumbers, grown_itself, grown_on, grown_length, numbers_stay, part_stays, parts_stay, number_apart, numbers_apart}
use Rattle.lockcheck_orders.specs.declared.kept.KeptState.{KeptState}
use Rattle.lockcheck_orders.specs.declared.kept.KnownMove.{KnownMove}
use Rattle.lockcheck_orders.specs.declared.lines.Line.{Line}
use Rattle.lockcheck_orders.specs.declared.tables.Tables.{Tables}
use Rattle.lockcheck_orders.specs.Circles.{has_circle}
use Rattle.lockcheck_orders.specs.Origins.{IsKept}
use Rattle.lockcheck_orders.specs.Packing.{RequestForm, StateForm, packed, unpacked, unpacked_request}
use Rattle.lockcheck_orders.specs.Programs.{no_line}
use Rattle.lockcheck_orders.specs.Same.{same_request, same_request-Decides, same_state, same_state-Decides}
use Rattle.lockcheck_orders.specs.Tables.{no_form, forms_at, numbers_at, list_at, form_of, IsListed, IsLeft, IsMade, IsKnown, same_vector, IsRight, IsSoundState, Learns}

pub learns_itself : (lines : List Line) (t : Tables) → Learns lines t lines t
learns_itself lines t = record {
  same_lines = refl;
  requests = grown_itself t.requests;
  vectors = grown_itself t.vectors;
  right = λ h. h;
}

pub learns_on : (k l m : List Line) (t u v : Tables) → Learns k t l u → Learns l u m v → Learns k t m v
learns_on k l m t u v e f = record {
  same_lines = f.same_lines ∙ e.same_lines;
  requests = grown_on t.requests u.requests v.requests e.requests f.requests;
  vectors = grown_on t.vectors u.vectors v.vectors e.vectors f.vectors;
  right = λ h. f.right (e.right h);
}

-- ---- what the numbers stand for stays

module _ (t u : Tables) (requests : AreGrown t.requests u.requests) (vectors : AreGrown t.vectors u.vectors) where
  pub vector_stays : (n : ℕ) → n < length t.vectors → numbers_at u.vectors n ≡ numbers_at t.vectors n
  vector_stays n l = part_stays (λ (v : Vec ℕ Global). v.items) [] t.vectors u.vectors n vectors l

  pub list_stays : (n : ℕ) → IsListed t n → list_at u n ≡ list_at t n
  list_stays n h =
      ap (forms_at u.requests) (vector_stays n h.there)
      ∙ parts_stay (λ (r : RequestForm). r) no_form t.requests u.requests (numbers_at t.vectors n) requests h.numbers

  pub listed_stays : (n : ℕ) → IsListed t n → IsListed u n
  listed_stays n h =
      let P : List ℕ → Type 0 = λ ns. AreNumbers u.requests ns in
      record {
        there = grown_length t.vectors u.vectors vectors n h.there;
        numbers = subst P (sym (vector_stays n h.there)) (numbers_stay t.requests u.requests (numbers_at t.vectors n) requests h.numbers);
      }

  pub made_stays : (lines : List Line) (k : KnownMove) → IsMade lines t k → IsMade lines u k
  made_stays lines k m =
      let old = list_stays k.from m.from in
      let new = list_stays k.after m.after in
      let job : ℕ = (slice_index_or lines k.line no_line).job in
      let P : List RequestForm → Type 0 = λ fs. IsLeft lines (map (unpacked_request lines) fs) k.line (list_at u k.after) k.circle in
      let Q : List RequestForm → Type 0 = λ fs. IsLeft lines (map (unpacked_request lines) (list_at t k.from)) k.line fs k.circle in
      record {
        from = listed_stays k.from m.from;
        after = listed_stays k.after m.after;
        waits = m.waits ∙ ap (λ fs. is_waiting_job (map (unpacked_request lines) fs) job) (sym old);
        left = λ w. subst P (sym old) (subst Q (sym new) (m.left w));
      }

  pub known_stays : (lines : List Line) (calls : List KnownMove) → All (IsKnown lines t) calls → All (IsKnown lines u) calls
  known_stays lines calls h k d l w = made_stays lines (slice_index_or calls k d) (h k d l w)

  pub form_stays : (x : KeptState) → IsListed t x.requests → x.front < length t.vectors → x.back < length t.vectors → form_of u x ≡ form_of t x
  form_stays x h f b =
      let list = list_stays x.requests h in
      let front = vector_stays x.front f in
      let back = vector_stays x.back b in
      λ i. record { requests = list i; made = front i ++ back i }

  sound_grown : (lines : List Line) (x : KeptState) → IsRight lines u → IsSoundState lines t x → IsSoundState lines u x
  sound_grown lines x right h =
      let same = form_stays x h.requests h.front h.back in
      record {
        right = right;
        requests = listed_stays x.requests h.requests;
        front = grown_length t.vectors u.vectors vectors x.front h.front;
        back = grown_length t.vectors u.vectors vectors x.back h.back;
        half = ap length (vector_stays x.front h.front) ∙ h.half;
        kept = subst (IsKept lines) (sym same) h.kept;
        circle = h.circle ∙ ap (λ f. has_circle lines (unpacked lines f)) (sym same);
      }

pub sound_stays : (k l : List Line) (t u : Tables) (x : KeptState) → Learns k t l u → IsSoundState k t x → IsSoundState l u x
sound_stays k l t u x e h =
    let P : List Line → Type 0 = λ lines. IsSoundState lines u x in
    let Q : List Line → Type 0 = λ lines. IsRight lines u in
    subst P (sym e.same_lines) (sound_grown t u e.requests e.vectors k x (subst Q e.same_lines (e.right h.right)) h)

pub shown_stays : (k l : List Line) (t u : Tables) (x : KeptState) → Learns k t l u → IsSoundState k t x
    → unpacked l (form_of u x) ≡ unpacked k (form_of t x)
shown_stays k l t u x e h =
    ap (λ lines. unpacked lines (form_of u x)) e.same_lines
    ∙ ap (unpacked k) (form_stays t u e.requests e.vectors x h.requests h.front h.back)

-- ---- the numbers tell states apart

pub same_vector-Decides : (x y : Vec ℕ Global) → Decides (same_vector x y) (x.items ≡ y.items)
same_vector-Decides x y = slice_eq-Decides unsigned_Decides x.items y.items (same_vector x y) refl

split-apart : (xs ys s t : List ℕ) → length xs ≡ length ys → xs ++ s ≡ ys ++ t → (xs ≡ ys) × (s ≡ t)
split-apart [] [] s t l h = (refl, h)
split-apart [] (y ∷ ys) s t l h = absurd (cc)
split-apart (x ∷ xs) [] s t l h = absurd (cc)
split-apart (x ∷ xs) (y ∷ ys) s t l h =
    let first : x ≡ y = cc in
    let more : xs ++ s ≡ ys ++ t = cc in
    let fewer : length xs ≡ length ys = cc in
    let rest = split-apart xs ys s t fewer more in
    (λ i. first i ∷ rest.0 i, rest.1)

pub equal_are_same : (lines : List Line) (t : Tables) (x y : KeptState) → same_state x y ≡ true
    → unpacked lines (form_of t x) ≡ unpacked lines (form_of t y)
equal_are_same lines t x y e = ap (λ z. unpacked lines (form_of t z)) ((same_state-Decides x y).0 e)

pub same_are_equal : (lines : List Line) (t : Tables) (x y : KeptState) → IsSoundState lines t x → IsSoundState lines t y
    → unpacked lines (form_of t x) ≡ unpacked lines (form_of t y)
    → same_state x y ≡ true
same_are_equal lines t x y a b e =
    let forms : form_of t x ≡ form_of t y = sym a.kept.same ∙ ap (packed lines) e ∙ b.kept.same in
    let lists : list_at t x.requests ≡ list_at t y.requests = ap (λ (s : StateForm). s.requests) forms in
    let apart = number_apart (λ (v : Vec ℕ Global). v.items) [] same_vector same_vector-Decides t.vectors a.right.vectors in
    let numbers = numbers_apart (λ (r : RequestForm). r) no_form same_request same_request-Decides t.requests a.right.requests
    (numbers_at t.vectors x.requests) (numbers_at t.vectors y.requests) a.requests.numbers b.requests.numbers lists in
    let requests : x.requests ≡ y.requests = apart x.requests y.requests a.requests.there b.requests.there numbers in
    let halves = split-apart (numbers_at t.vectors x.front) (numbers_at t.vectors y.front) (numbers_at t.vectors x.back) (numbers_at t.vectors y.back)
    (a.half ∙ sym b.half) (ap (λ (s : StateForm). s.made) forms) in
    let front : x.front ≡ y.front = apart x.front y.front a.front b.front halves.0 in
    let back : x.back ≡ y.back = apart x.back y.back a.back b.back halves.1 in
    let circle : x.circle ≡ y.circle = a.circle ∙ ap (has_circle lines) e ∙ sym b.circle in
    (same_state-Decides x y).1 (λ i. record { requests = requests i; front = front i; back = back i; circle = circle i })
