-- The kept states, while the search goes on and the system learns.
use Rattle.std.proofs.Common.{◌≡◌, ◌≢◌, ℕ, ◌+◌, ◌<◌, zero, suc, List, [], ◌∷◌, ◌++◌, length, map, Option, Some, None, cond, if◌then◌else◌, not}
use Rattle.std.proofs.Common.{true, false, true≢false, Bool, All, nat_lt, get_or, slice_get, option_map, IfSome, refl, sym, ap, subst, ◌∙◌, arith, length-append}
use Rattle.std.specs.List.{list_any}
use Rattle.std.proofs.Math.ListN.{get_or-append}
use Rattle.std.proofs.Math.Seq.{get_or-append_seam}
use Rattle.std.proofs.lemmas.Bool.{lt-ltb}
use Rattle.std.proofs.lemmas.List.{get_or-map}
use Rattle.std.proofs.lemmas.List.Folds.{list_any_at, Any-from_list_any}
use Rattle.indexmap.specs.IndexSet.{insert_key}
use Rattle.state_search.specs.declared.kept.Origin.{Origin}
use Rattle.state_search.specs.Orders.{made}
use Rattle.state_search.specs.Searched.{Met, IsSearched, IsGoing, origin_of, seen_of}
use Rattle.state_search.proofs.Steps.{next_known, next_new, next_nowhere, next_state, searched_start}

got : {X : Type 0} (xs : List X) (i : ℕ) (x : X) → slice_get xs i ≡ Some x → get_or xs i x ≡ x
got [] i x e = absurd (cc)
got (y ∷ ys) zero x e = cc
got (y ∷ ys) (suc i) x e = got ys i x e

got-within : {X : Type 0} (xs : List X) (i : ℕ) (x : X) → slice_get xs i ≡ Some x → i < length xs
got-within [] i x e = absurd (cc)
got-within (y ∷ ys) zero x e = omega arith
got-within (y ∷ ys) (suc i) x e = (let l = got-within ys i x e in omega (arith, l))

-- a kept state, read from the list
pub state_is : {S V : Type 0} (shown : S → V) (first : V) (xs : List S) (os : List Origin) (i : ℕ) (x : S) → slice_get xs i ≡ Some x
    → shown x ≡ (seen_of shown first xs os i).state
state_is shown first xs os i x e = ap shown (sym (got xs i x e)) ∙ sym (get_or-map shown xs i x first (got-within xs i x e))

pub origin_is : (os : List Origin) (i : ℕ) (o : Origin) → slice_get os i ≡ Some o → o ≡ origin_of os i
origin_is [] i o e = absurd (cc)
origin_is (p ∷ os) zero o e = cc
origin_is (p ∷ os) (suc i) o e = origin_is os i o e

-- the state to which a move leads, as it is shown
pub made_seen : {S V : Type 0} (shown : S → V) (count : ℕ) (next : V → ℕ → Option V) (first : V) (xs : List S) (os : List Origin)
    (position by : ℕ) (x : S) (o : Option V) → slice_get xs position ≡ Some x → o ≡ next (shown x) by → by < count
    → made count next (Some (seen_of shown first xs os position).state) by ≡ o
made_seen {S} {V} shown count next first xs os position by x o r m h =
    let P : V → Type 0 = λ v. made count next (Some v) by ≡ o in
    let t : nat_lt by count ≡ true = lt-ltb by count h in
    subst P (state_is shown first xs os position x r) (ap (λ b. cond b (next (shown x) by) None) t ∙ sym m)

-- the states show the same when the system has learnt
shown-same : {S V : Type 0} (shown more : S → V) (IsSound : S → Type 0) → ((x : S) → IsSound x → more x ≡ shown x) → (xs : List S)
    → All IsSound xs
    → map more xs ≡ map shown xs
shown-same shown more IsSound same [] a = refl
shown-same shown more IsSound same (x ∷ xs) a =
    let here = same x (a 0 x (omega arith)) in
    let rest = shown-same shown more IsSound same xs (λ k d l. a (suc k) d (omega (arith, l))) in
    λ j. here j ∷ rest j

-- what was found stays when the system has learnt
pub going_along : {S V : Type 0} {count count' : ℕ} {next next' : V → ℕ → Option V} {shown shown' : S → V} {first first' : V}
    {IsSound IsSound' : S → Type 0} {xs : List S} {os : List Origin} {position by : ℕ}
    → count' ≡ count → next' ≡ next → first' ≡ first
    → ((x : S) → IsSound x → shown' x ≡ shown x) → ((x : S) → IsSound x → IsSound' x)
    → IsGoing count next shown first IsSound xs os position by
    → IsGoing count' next' shown' first' IsSound' xs os position by
going_along {S} {V} {count} {count'} {next} {next'} {shown} {shown'} {first} {first'} {IsSound} {IsSound'} {xs} {os} {position} {by} c n f same sound g =
    let m : map shown' xs ≡ map shown xs = shown-same shown shown' IsSound same xs g.sound in
    let at : seen_of shown' first' xs os ≡ seen_of shown first xs os =
    λ j i. record { state = get_or (m j) i (f j); parent = (origin_of os i).parent; by = (origin_of os i).by } in
    let A : ℕ → Type 0 = λ v. IsSearched v next first (seen_of shown first xs os) (length xs) position by in
    let B : (V → ℕ → Option V) → Type 0 = λ v. IsSearched count' v first (seen_of shown first xs os) (length xs) position by in
    let C : V → Type 0 = λ v. IsSearched count' next' v (seen_of shown first xs os) (length xs) position by in
    let D : (ℕ → Met V) → Type 0 = λ v. IsSearched count' next' first' v (length xs) position by in
    record {
      searched = subst D (sym at) (subst C (sym f) (subst B (sym n) (subst A (sym c) g.searched)));
      sound = λ k d l. sound _ (g.sound k d l);
      told = g.told;
    }

seen_before : {S V : Type 0} (shown : S → V) (first : V) (xs : List S) (os : List Origin) (n : S) (o : Origin) → length os ≡ length xs
    → (i : ℕ) → i < length xs
    → seen_of shown first (xs ++ n ∷ []) (os ++ o ∷ []) i ≡ seen_of shown first xs os i
seen_before shown first xs os n o told i l =
    let d : Origin = record { parent = 0; by = 0 } in
    let s = get_or-map shown (xs ++ n ∷ []) i n first (omega (arith, length-append xs (n ∷ [])))
    ∙ ap shown (get_or-append xs (n ∷ []) n i l) ∙ sym (get_or-map shown xs i n first l) in
    let q : origin_of (os ++ o ∷ []) i ≡ origin_of os i = get_or-append os (o ∷ []) d i (omega arith) in
    λ j. record { state = s j; parent = (q j).parent; by = (q j).by }

seen_last : {S V : Type 0} (shown : S → V) (first : V) (xs : List S) (os : List Origin) (n : S) (o : Origin) → length os ≡ length xs
    → seen_of shown first (xs ++ n ∷ []) (os ++ o ∷ []) (length xs) ≡ record { state = shown n; parent = o.parent; by = o.by }
seen_last shown first xs os n o told =
    let d : Origin = record { parent = 0; by = 0 } in
    let s = get_or-map shown (xs ++ n ∷ []) (length xs) n first (omega (arith, length-append xs (n ∷ [])))
    ∙ ap shown (get_or-append_seam xs n [] n) in
    let q : origin_of (os ++ o ∷ []) (length xs) ≡ o = ap (λ v. get_or (os ++ o ∷ []) v d) (sym told) ∙ get_or-append_seam os o [] d in
    λ j. record { state = s j; parent = (q j).parent; by = (q j).by }

all-append : {S : Type 0} (P : S → Type 0) (xs : List S) (n : S) → All P xs → P n → All P (xs ++ n ∷ [])
all-append P [] n a h zero d l = h
all-append P [] n a h (suc k) d l = absurd (omega arith)
all-append P (x ∷ xs) n a h zero d l = a 0 d (omega arith)
all-append P (x ∷ xs) n a h (suc k) d l = all-append P xs n (λ i e m. a (suc i) e (omega (arith, m))) h k d (omega (arith, l))

-- a move that may not be made
pub going_nowhere : {S V : Type 0} {count : ℕ} {next : V → ℕ → Option V} {shown : S → V} {first : V} {IsSound : S → Type 0}
    {xs : List S} {os : List Origin} {position by : ℕ} → (x : S) (made_by : Option S)
    → IsGoing count next shown first IsSound xs os position by
    → slice_get xs position ≡ Some x → by < count → option_map shown made_by ≡ next (shown x) by → made_by ≡ None
    → IsGoing count next shown first IsSound xs os position (by + 1)
going_nowhere {S} {V} {count} {next} {shown} {first} {IsSound} {xs} {os} {position} {by} x made_by g at_x few leads is = record {
  searched = next_nowhere g.searched
      (made_seen shown count next first xs os position by x None at_x (ap (option_map shown) (sym is) ∙ leads) few);
  sound = g.sound;
  told = g.told;
}

-- all moves of a state are made
pub going_further : {S V : Type 0} {count : ℕ} {next : V → ℕ → Option V} {shown : S → V} {first : V} {IsSound : S → Type 0}
    {xs : List S} {os : List Origin} {position by : ℕ} → by ≡ count
    → IsGoing count next shown first IsSound xs os position by
    → IsGoing count next shown first IsSound xs os (position + 1) 0
going_further {S} {V} {count} {next} {shown} {first} {IsSound} {xs} {os} {position} {by} e g =
    let P : ℕ → Type 0 = λ v. IsSearched count next first (seen_of shown first xs os) (length xs) position v in
    record { searched = next_state (subst P e g.searched); sound = g.sound; told = g.told }

module _ {S V : Type 0} (eq : S → S → Bool) (count : ℕ) (next : V → ℕ → Option V) (shown : S → V) (first : V) (IsSound : S → Type 0) where
  -- a state that a move leads to, known or new
  pub going_met : ((x y : S) → IsSound x → IsSound y → eq x y ≡ true → shown x ≡ shown y)
      → ((x y : S) → IsSound x → IsSound y → shown x ≡ shown y → eq x y ≡ true)
      → (xs ys : List S) (os ps : List Origin) (position by : ℕ) (x n : S) (made_by : Option S) (new : Bool)
      → IsGoing count next shown first IsSound xs os position by
      → slice_get xs position ≡ Some x → by < count → option_map shown made_by ≡ next (shown x) by → IfSome made_by IsSound → made_by ≡ Some n
      → ys ≡ insert_key eq xs n → new ≡ not (list_any (eq n) xs)
      → ps ≡ (if new then os ++ record { parent = position; by = by } ∷ [] else os)
      → IsGoing count next shown first IsSound ys ps position (by + 1)
  going_met same equal xs ys os ps position by x n made_by new g at_x few leads kept_sound is y b p =
      let low = got-within xs position x at_x in
      let K : Option S → Type 0 = λ v. IfSome v IsSound in
      let s : IsSound n = subst K is kept_sound in
      let m : made count next (Some (seen_of shown first xs os position).state) by ≡ Some (shown n) =
      made_seen shown count next first xs os position by x (Some (shown n)) at_x (ap (option_map shown) (sym is) ∙ leads) few in
      let o : Origin = record { parent = position; by = by } in
      let G : Bool → Type 0 = λ c. list_any (eq n) xs ≡ c → ys ≡ (if c then xs else xs ++ n ∷ []) → ps ≡ (if not c then os ++ o ∷ [] else os)
      → IsGoing count next shown first IsSound ys ps position (by + 1) in
      let go : G (list_any (eq n) xs) = elim (list_any (eq n) xs) as G [
        | true ↦ λ e yy pp.
            let found = Any-from_list_any (eq n) xs e in
            let P : S → Type 0 = λ v. IsSound v in
            let sx : IsSound found.1 = subst P found.3 (g.sound found.0 found.1 found.2) in
            let at : (seen_of shown first xs os found.0).state ≡ shown n =
            get_or-map shown xs found.0 found.1 first found.2 ∙ ap shown found.3 ∙ sym (same n found.1 s sx found.4) in
            let Q : List S → Type 0 = λ v. IsGoing count next shown first IsSound v ps position (by + 1) in
            let R : List Origin → Type 0 = λ v. IsGoing count next shown first IsSound xs v position (by + 1) in
            subst Q (sym yy) (subst R (sym pp) (record {
              searched = next_known g.searched (shown n) found.0 m found.2 at;
              sound = g.sound;
              told = g.told;
            }))
        | false ↦ λ e yy pp.
            let Q : List S → Type 0 = λ v. IsGoing count next shown first IsSound v ps position (by + 1) in
            let R : List Origin → Type 0 = λ v. IsGoing count next shown first IsSound (xs ++ n ∷ []) v position (by + 1) in
            let T : ℕ → Type 0 = λ v. IsSearched count next first (seen_of shown first (xs ++ n ∷ []) (os ++ o ∷ [])) v position (by + 1) in
            let fresh : (i : ℕ) → i < length xs → (seen_of shown first xs os i).state ≢ shown n =
            λ i l q. true≢false (sym (list_any_at (eq n) xs i n l (equal n (get_or xs i n) s (g.sound i n l)
            (sym q ∙ get_or-map shown xs i n first l))) ∙ e) in
            subst Q (sym yy) (subst R (sym pp) (record {
              searched = subst T (sym (length-append xs (n ∷ []))) (next_new g.searched (record { state = shown n; parent = position; by = by })
                  refl refl low m fresh (seen_before shown first xs os n o g.told) (seen_last shown first xs os n o g.told));
              sound = all-append IsSound xs n g.sound s;
              told = length-append os (o ∷ []) ∙ ap (λ v. v + 1) g.told ∙ sym (length-append xs (n ∷ []));
            }))
      ] in
      go refl y (p ∙ ap (λ v. if v then os ++ o ∷ [] else os) b)

  -- the first state
  pub going_begun : (xs ys : List S) (os ps : List Origin) (n : S) (new : Bool) → xs ≡ [] → os ≡ [] → IsSound n → shown n ≡ first
      → ys ≡ insert_key eq xs n → new ≡ not (list_any (eq n) xs)
      → ps ≡ (if new then os ++ record { parent = 0; by = 0 } ∷ [] else os)
      → IsGoing count next shown first IsSound ys ps 0 0
  going_begun xs ys os ps n new e f s h y b p =
      let o : Origin = record { parent = 0; by = 0 } in
      let t : new ≡ true = b ∙ ap (λ v. not (list_any (eq n) v)) e in
      let yy : ys ≡ n ∷ [] = y ∙ ap (λ v. insert_key eq v n) e in
      let pp : ps ≡ o ∷ [] = p ∙ ap (λ v. if v then os ++ o ∷ [] else os) t ∙ ap (λ v. v ++ o ∷ []) f in
      let Q : List S → Type 0 = λ v. IsGoing count next shown first IsSound v ps 0 0 in
      let R : List Origin → Type 0 = λ v. IsGoing count next shown first IsSound (n ∷ []) v 0 0 in
      subst Q (sym yy) (subst R (sym pp) (record {
        searched = searched_start count next first (seen_of shown first (n ∷ []) (o ∷ [])) h;
        sound = all-append IsSound [] n (λ k d l. absurd (omega arith)) s;
        told = refl;
      }))
