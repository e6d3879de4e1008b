-- Words that are set out page by page.
use Rattle.std.proofs.Common.{◌≡◌, ◌<◌, ◌≤◌, ◌+◌, ◌*◌, ◌++◌, ◌∷◌, ◌∙◌, [], ℕ, zero, suc, List, Some, length, take, drop, get_or, slice_get, refl, sym, ap, subst, arith}
use Rattle.std.proofs.lemmas.List.{append_assoc, drop-append-le, drop-drop, drop_all, get_or-map, get_or-take, take-append-le, take_all, length-append, length-take-le, take_more}
use Rattle.std.proofs.lemmas.Option.{slice_get-get_or}
use Rattle.std.specs.List.{All}
use Rattle.state_search.specs.Parts.{part_of}
use Rattle.job_orders.specs.declared.tables.TheConstants.{PAGE_WORDS}
use Rattle.job_orders.specs.Tables.{IsPage, page_at, words_in}
use Rattle.job_orders.proofs.Numbers.{some-is, words-more}

pub words-length : (pages : List (List ℕ)) (ns : List ℕ) → All (IsPage pages) ns → length (words_in pages ns) ≡ length ns * PAGE_WORDS
words-length pages [] h = refl
words-length pages (n ∷ ns) h =
    let sum : length (words_in pages (n ∷ ns)) ≡ length (page_at pages n) + length (words_in pages ns) = length-append (page_at pages n) (words_in pages ns) in
    let here : length (page_at pages n) ≡ PAGE_WORDS = (h zero 0 (omega arith)).1 in
    let rest : length (words_in pages ns) ≡ length ns * PAGE_WORDS = words-length pages ns (λ k d l. h (suc k) d (omega (arith, l))) in
    omega (arith, sum, here, rest)

pub all-taken : (P : ℕ → Type 0) (ns : List ℕ) (i : ℕ) → i ≤ length ns → All P ns → All P (take i ns)
all-taken P ns i low h k d l =
    let long : length (take i ns) ≡ i = length-take-le i ns low in
    subst P (sym (get_or-take i ns k d (omega (arith, l, long)))) (h k d (omega (arith, l, long, low)))

-- a page in its place
taken-front : (a d : List ℕ) (n : ℕ) → length a ≡ n → take n (a ++ d) ≡ a
taken-front a d n la = take-append-le n a d (omega (arith, la)) ∙ take_all n a (omega (arith, la))

place : (a d p : List ℕ) (n m : ℕ) → length a ≡ n → take n (a ++ d) ++ (p ++ drop (n + m) (a ++ d)) ≡ (a ++ p) ++ drop m d
place a d p n m la =
    let rest : drop (n + m) (a ++ d) ≡ drop m d =
    sym (drop-drop m n (a ++ d)) ∙ ap (drop m) (drop-append-le n a d (omega (arith, la)) ∙ ap (λ w. w ++ d) (drop_all n a (omega (arith, la)))) in
    ap (λ w. w ++ (p ++ drop (n + m) (a ++ d))) (taken-front a d n la) ∙ ap (λ w. a ++ (p ++ w)) rest ∙ sym (append_assoc a p (drop m d))

-- one page more
pub filled : (pages : List (List ℕ)) (ns old now : List ℕ) (i : ℕ) (p : List ℕ) → All (IsPage pages) ns → i < length ns → p ≡ page_at pages (get_or ns i 0)
    → now ≡ words_in pages (take i ns) ++ drop (i * PAGE_WORDS) old
    → take (i * PAGE_WORDS) now ++ (p ++ drop (i * PAGE_WORDS + PAGE_WORDS) now)
    ≡ words_in pages (take (i + 1) ns) ++ drop ((i + 1) * PAGE_WORDS) old
filled pages ns old now i p h low is before =
    let a : List ℕ = words_in pages (take i ns) in
    let d : List ℕ = drop (i * PAGE_WORDS) old in
    let many : length (take i ns) ≡ i = length-take-le i ns (omega (arith, low)) in
    let la : length a ≡ i * PAGE_WORDS = words-length pages (take i ns) (all-taken (IsPage pages) ns i (omega (arith, low)) h) ∙ ap (λ k. k * PAGE_WORDS) many in
    let next : i * PAGE_WORDS + PAGE_WORDS ≡ (i + 1) * PAGE_WORDS = omega arith in
    ap (λ w. take (i * PAGE_WORDS) w ++ (p ++ drop (i * PAGE_WORDS + PAGE_WORDS) w)) before
    ∙ place a d p (i * PAGE_WORDS) PAGE_WORDS la
    ∙ ap (λ w. w ++ drop PAGE_WORDS d)
    (ap (λ q. a ++ q) is ∙ sym (words-more pages (take i ns) (get_or ns i 0)) ∙ sym (ap (words_in pages) (take_more ns i 0 low)))
    ∙ ap (λ e. words_in pages (take (i + 1) ns) ++ e) (drop-drop PAGE_WORDS (i * PAGE_WORDS) old ∙ ap (λ n. drop n old) next)

-- the part with a number
pub part-is : {T W : Type 0} (seen : T → W) (none : W) (parts : List T) (n : ℕ) (k : T) → n < length parts → slice_get parts n ≡ Some k
    → seen k ≡ part_of seen none parts n
part-is seen none parts n k low got =
    let at : get_or parts n k ≡ k = some-is (get_or parts n k) k (sym (slice_get-get_or parts n k low) ∙ got) in
    sym (get_or-map seen parts n k none low ∙ ap seen at)
