-- What the numbers of vectors and of requests stand for.
use Rattle.std.proofs.Common.{◌≡◌, ◌<◌, ◌≤◌, ◌+◌, ◌-◌, ◌++◌, ◌∷◌, [], ℕ, zero, suc, true, List, length, map, slice_get, Some, Vec, Global, get_or, set, refl, sym, ap, subst, ◌∙◌, arith}
use Rattle.std.proofs.Common.{take}
use Rattle.std.specs.List.{All}
use Rattle.std.proofs.Math.ListN.{get_or-append}
use Rattle.std.proofs.lemmas.List.{get_or-append_right, set-append_left, set-append_right, map-append}
use Rattle.std.proofs.lemmas.Grind.{get_or_default_zero}
use Rattle.std.proofs.lemmas.List.Folds.{list_all-map}
use Rattle.lock_queue.specs.declared.request.Request.{Request}
use Rattle.lock_queue.specs.WellFormed.{are_well_formed, is_well_formed}
use Rattle.lockcheck_orders.specs.declared.lines.Line.{Line}
use Rattle.state_search.specs.Parts.{AreGrown, AreNumbers, part_of, part_stays, parts_stay}
use Rattle.state_search.proofs.Keeping.{state_is}
use Rattle.lockcheck_orders.specs.Learning.{same_vector-Decides}
use Rattle.lockcheck_orders.specs.Packing.{RequestForm, unpacked_request}
use Rattle.lockcheck_orders.proofs.Placing.{map-twice, take-whole}
use Rattle.lockcheck_orders.proofs.Positions.{all-map-at}
use Rattle.lockcheck_orders.specs.Same.{same_request, same_request-Decides}
use Rattle.lockcheck_orders.specs.Tables.{Vectors, no_form, form_at, forms_at, numbers_at, same_vector}

pub vector-is : (vectors : Vectors) (n : ℕ) (v : Vec ℕ Global) → slice_get vectors n ≡ Some v → numbers_at vectors n ≡ v.items
vector-is vectors n v e = sym (state_is (λ (x : Vec ℕ Global). x.items) [] vectors [] n v e)

pub form-is : (requests : List RequestForm) (n : ℕ) (r : RequestForm) → slice_get requests n ≡ Some r
    → part_of (λ (x : RequestForm). x) no_form requests n ≡ r
form-is requests n r e = sym (state_is (λ (x : RequestForm). x) no_form requests [] n r e)

-- the vector that is stored under a number
pub vector-stored : (vectors : Vectors) (n : ℕ) (v k : Vec ℕ Global) → slice_get vectors n ≡ Some k → same_vector v k ≡ true
    → numbers_at vectors n ≡ v.items
vector-stored vectors n v k e s = vector-is vectors n k e ∙ sym ((same_vector-Decides v k).0 s)

-- ---- counts of calls, in two halves

pub count-front : (vectors : Vectors) (f b by : ℕ) (v : Vec ℕ Global) → slice_get vectors f ≡ Some v → by < length v.items
    → get_or v.items by 0 ≡ get_or (numbers_at vectors f ++ numbers_at vectors b) by 0
count-front vectors f b by v e l =
    sym (get_or-append v.items (numbers_at vectors b) 0 by l) ∙ ap (λ xs. get_or (xs ++ numbers_at vectors b) by 0) (sym (vector-is vectors f v e))

pub count-back : (vectors : Vectors) (f b by : ℕ) (v w : Vec ℕ Global) → slice_get vectors f ≡ Some v → slice_get vectors b ≡ Some w
    → length v.items ≤ by
    → get_or w.items (by - length v.items) 0 ≡ get_or (numbers_at vectors f ++ numbers_at vectors b) by 0
count-back vectors f b by v w e g l =
    let front = vector-is vectors f v e in
    let back = vector-is vectors b w g in
    let turn : get_or (numbers_at vectors f ++ numbers_at vectors b) by 0 ≡ get_or (v.items ++ w.items) by 0 = λ i. get_or (front i ++ back i) by 0 in
    sym (get_or-append_right v.items w.items (length v.items) by 0 refl l) ∙ sym turn

pub front-more : (old new : Vectors) (f b n by : ℕ) → AreGrown old new → b < length old → by < length (numbers_at old f)
    → numbers_at new n ≡ set (numbers_at old f) by (get_or (numbers_at old f) by 0 + 1)
    → numbers_at new n ++ numbers_at new b
    ≡ set (numbers_at old f ++ numbers_at old b) by (get_or (numbers_at old f ++ numbers_at old b) by 0 + 1)
front-more old new f b n by g lb l e =
    let fs = numbers_at old f in
    let bs = numbers_at old b in
    let stays : numbers_at new b ≡ bs = part_stays (λ (x : Vec ℕ Global). x.items) [] old new b g lb in
    let value : get_or (fs ++ bs) by 0 ≡ get_or fs by 0 = get_or-append fs bs 0 by l in
    let turn : numbers_at new n ++ numbers_at new b ≡ set fs by (get_or fs by 0 + 1) ++ bs = λ i. e i ++ stays i in
    turn ∙ sym (set-append_left fs bs by (get_or fs by 0 + 1) l) ∙ ap (λ m. set (fs ++ bs) by (m + 1)) (sym value)

pub back-more : (old new : Vectors) (f b n by : ℕ) → AreGrown old new → f < length old → length (numbers_at old f) ≤ by
    → numbers_at new n
    ≡ set (numbers_at old b) (by - length (numbers_at old f)) (get_or (numbers_at old b) (by - length (numbers_at old f)) 0 + 1)
    → numbers_at new f ++ numbers_at new n
    ≡ set (numbers_at old f ++ numbers_at old b) by (get_or (numbers_at old f ++ numbers_at old b) by 0 + 1)
back-more old new f b n by g lf l e =
    let fs = numbers_at old f in
    let bs = numbers_at old b in
    let stays : numbers_at new f ≡ fs = part_stays (λ (x : Vec ℕ Global). x.items) [] old new f g lf in
    let value : get_or (fs ++ bs) by 0 ≡ get_or bs (by - length fs) 0 = get_or-append_right fs bs (length fs) by 0 refl l in
    let turn : numbers_at new f ++ numbers_at new n ≡ fs ++ set bs (by - length fs) (get_or bs (by - length fs) 0 + 1) = λ i. stays i ++ e i in
    turn ∙ sym (set-append_right fs bs (length fs) by (get_or bs (by - length fs) 0 + 1) refl l)
    ∙ ap (λ m. set (fs ++ bs) by (m + 1)) (sym value)

-- ---- numbers of requests

pub numbers-more : (requests : List RequestForm) (ns : List ℕ) (n : ℕ) → AreNumbers requests ns → n < length requests → AreNumbers requests (ns ++ n ∷ [])
numbers-more requests [] n a h zero d l = h
numbers-more requests [] n a h (suc k) d l = absurd (omega arith)
numbers-more requests (x ∷ xs) n a h zero d l = a 0 d (omega arith)
numbers-more requests (x ∷ xs) n a h (suc k) d l = numbers-more requests xs n (λ i e m. a (suc i) e (omega (arith, m))) h k d (omega (arith, l))

-- one request more is numbered
pub packed-more : (old new : List RequestForm) (ns : List ℕ) (n : ℕ) (r k : RequestForm) (sofar : List RequestForm) → AreGrown old new
    → AreNumbers old ns → slice_get new n ≡ Some k → same_request r k ≡ true → forms_at old ns ≡ sofar
    → forms_at new (ns ++ n ∷ []) ≡ sofar ++ r ∷ []
packed-more old new ns n r k sofar g a e s h =
    let rest : forms_at new ns ≡ sofar = parts_stay (λ (x : RequestForm). x) no_form old new ns g a ∙ h in
    let here : part_of (λ (x : RequestForm). x) no_form new n ≡ r = form-is new n k e ∙ sym ((same_request-Decides r k).0 s) in
    let turn : forms_at new ns ++ part_of (λ (x : RequestForm). x) no_form new n ∷ [] ≡ sofar ++ r ∷ [] = λ i. rest i ++ here i ∷ [] in
    map-append (part_of (λ (x : RequestForm). x) no_form new) ns (n ∷ []) ∙ turn

-- all requests are set out
pub set-all : (lines : List Line) (requests : List RequestForm) (numbers : List ℕ) (n : ℕ) (desk : List Request) → length numbers ≡ n
    → desk ≡ map (λ k. unpacked_request lines (form_at requests k)) (take n numbers)
    → desk ≡ map (unpacked_request lines) (forms_at requests numbers)
set-all lines requests numbers n desk e h =
    h ∙ ap (map (λ k. unpacked_request lines (form_at requests k))) (take-whole numbers n e)
    ∙ map-twice (unpacked_request lines) (form_at requests) numbers

-- each that is set out is well-formed
pub well-at : (lines : List Line) (requests : List RequestForm) (numbers : List ℕ) (i : ℕ) (r : RequestForm) → i < length numbers
    → slice_get requests (get_or numbers i 0) ≡ Some r
    → are_well_formed (map (unpacked_request lines) (forms_at requests numbers)) ≡ true
    → is_well_formed (unpacked_request lines r) ≡ true
well-at lines requests numbers i r l e h =
    let n : ℕ = get_or numbers i 0 in
    ap (λ x. is_well_formed (unpacked_request lines x)) (sym (form-is requests n r e))
    ∙ all-map-at (λ x. is_well_formed (unpacked_request lines x)) (form_at requests) numbers i n
    (sym (list_all-map is_well_formed (unpacked_request lines) (forms_at requests numbers)) ∙ h) l (sym (get_or_default_zero numbers i n l))
