-- Lemmas on the wants of a call.
use Rattle.std.proofs.Common.{◌≡◌, ◌≤◌, ◌+◌, ◌++◌, ◌&&◌, ℕ, Bool, true, false, cond, List, [], ◌∷◌, length, Option, Some, None, Result}
use Rattle.std.proofs.Common.{Ok, Err, min, nat_le, arith, refl, sym, ap, subst, take, ◌∙◌, append_assoc, append-nil, length-append}
use Rattle.std.specs.Prelude.{option_map, option_and_then}
use Rattle.std.specs.Option.{option_map_or}
use Rattle.std.proofs.lemmas.Bool.Decides.{nat_tests}
use Rattle.arrayvec.specs.ArrayVec.{ArrayVec}
use Rattle.lock_queue.specs.declared.refusal.Refusal.{Refusal}
use Rattle.lock_queue.specs.declared.refusal.Refusal.TheVariants.{BadCount}
use Rattle.lock_queue.specs.declared.want.Want.{Want}
use Rattle.queue_script.specs.declared.locks.Lock.{Lock}
use Rattle.lock_queue.specs.declared.terms.BlockUse.{BlockUse}
use Rattle.queue_script.specs.Borrowed.{filled}
use Rattle.queue_script.specs.Options.{no_options}
use Rattle.queue_script.specs.declared.locks.LockName.TheVariants.{Spelled}
use Rattle.queue_script.specs.declared.locks.StoreOutcome.{StoreOutcome}
use Rattle.queue_script.specs.declared.locks.StoreOutcome.TheVariants as outcome
use Rattle.lock_queue.specs.declared.terms.BlockUse.TheVariants.{Blocking, Full, Named}
use Rattle.queue_script.specs.Locks.{lock_of, locks_of, want_of, plain_want, store_outcome, StoresWant, Stores, StoresFirst}
use Rattle.queue_script.specs.Locks.{IsFirstLock, refused_with, onto_wants, wants_of, stored, call_wants}

-- the wants so far, or the first refusal
abbrev pub told_by : Option Refusal → List Want → Result (List Want) Refusal
told_by None wants = Ok wants
told_by (Some refusal) wants = Err refusal

-- the items before the rest spell locks, and these are what was gathered
pub record Gathers (job : ℕ) (use_ : BlockUse) (all rest : List (List ℕ)) (count : ℕ) (wants : List Want) (refusal : Option Refusal) : Type 0 where
  pub seen : List Lock
  pub read : locks_of all ≡ option_map (λ ls. seen ++ ls) (locks_of rest)
  pub counted : count ≡ min (length seen) 17
  pub told : length seen ≤ 16 → wants_of job use_ seen ≡ told_by refusal wants

-- one want behind others
abbrev join : Result (List Want) Refusal → Result Want Refusal → Result (List Want) Refusal
join (Ok wants) (Ok want) = Ok (wants ++ want ∷ [])
join (Ok wants) (Err refusal) = Err refusal
join (Err refusal) later = Err refusal

join-first : (w : Result Want Refusal) → onto_wants w (Ok []) ≡ join (Ok []) w
join-first (Ok w) = refl
join-first (Err r) = refl

onto-join : (w : Result Want Refusal) (ws : Result (List Want) Refusal) (v : Result Want Refusal) → onto_wants w (join ws v) ≡ join (onto_wants w ws) v
onto-join (Err r) ws v = refl
onto-join (Ok w) (Err r) v = refl
onto-join (Ok w) (Ok ws) (Ok v) = refl
onto-join (Ok w) (Ok ws) (Err r) = refl

wants_of-push : (job : ℕ) (use_ : BlockUse) (locks : List Lock) (lock : Lock)
    → wants_of job use_ (locks ++ lock ∷ []) ≡ join (wants_of job use_ locks) (want_of job use_ lock)
wants_of-push job use_ [] lock = join-first (want_of job use_ lock)
wants_of-push job use_ (l ∷ ls) lock =
    ap (onto_wants (want_of job use_ l)) (wants_of-push job use_ ls lock) ∙ onto-join (want_of job use_ l) (wants_of job use_ ls) (want_of job use_ lock)

-- a name alone is wanted on the same terms by every call
pub want_of_plain : (job : ℕ) (use_ : BlockUse) (text : List ℕ) → want_of job use_ (record { name = Spelled text; options = no_options }) ≡ plain_want text
want_of_plain job Blocking text = refl
want_of_plain job Full text = refl
want_of_plain job Named text = refl

-- ---- what has come of an item

pushed : (position : ℕ) (ws ws' : List Want) (w : Result Want Refusal) → StoresWant w position ws ws' outcome.Stored
    → (want : Want) × (w ≡ Ok want) × (take (position + 1) ws' ≡ take position ws ++ want ∷ []) × (position + 1 ≤ length ws')
pushed position ws ws' (Ok want) h = (want, refl, h.1, h.2)
pushed position ws ws' (Err why) h = let e : outcome.Stored ≡ outcome.Refused why = h.0 in absurd (cc)

refused : (position : ℕ) (ws ws' : List Want) (w : Result Want Refusal) (why : Refusal) → StoresWant w position ws ws' (outcome.Refused why) → w ≡ Err why
refused position ws ws' (Ok want) why h = let e : outcome.Refused why ≡ outcome.Stored = h.0 in absurd (cc)
refused position ws ws' (Err other) why h = let e : outcome.Refused why ≡ outcome.Refused other = h.0 in cc

no_lock-not : (w : Result Want Refusal) → outcome.NoLock ≡ store_outcome w → ⊥
no_lock-not (Ok want) h = cc
no_lock-not (Err why) h = cc

pub record IsWanted (job : ℕ) (use_ : BlockUse) (items others : List (List ℕ)) (position : ℕ) (wants next : List Want) : Type 0 where
  pub lock : Lock
  pub first : IsFirstLock items (Some lock) others
  pub want : Want
  pub is : want_of job use_ lock ≡ Ok want
  pub behind : take (position + 1) next ≡ take position wants ++ want ∷ []
  pub long : position + 1 ≤ length next

pub wanted : (job : ℕ) (use_ : BlockUse) (items others : List (List ℕ)) (position : ℕ) (wants next : List Want)
    → StoresFirst job use_ items others position wants next outcome.Stored
    → IsWanted job use_ items others position wants next
wanted job use_ items others position wants next t = by t.0 t.1 t.2
  where
    by : (lock : Option Lock) → IsFirstLock items lock others → Stores job use_ lock position wants next outcome.Stored
        → IsWanted job use_ items others position wants next
    by None first h = absurd (cc)
    by (Some lock) first h =
        let p = pushed position wants next (want_of job use_ lock) h in
        record { lock = lock; first = first; want = p.0; is = p.1; behind = p.2; long = p.3 }

pub record IsRefused (job : ℕ) (use_ : BlockUse) (items others : List (List ℕ)) (why : Refusal) : Type 0 where
  pub lock : Lock
  pub first : IsFirstLock items (Some lock) others
  pub is : want_of job use_ lock ≡ Err why

pub wanted-not : (job : ℕ) (use_ : BlockUse) (items others : List (List ℕ)) (position : ℕ) (wants next : List Want) (why : Refusal)
    → StoresFirst job use_ items others position wants next (outcome.Refused why)
    → IsRefused job use_ items others why
wanted-not job use_ items others position wants next why t = by t.0 t.1 t.2
  where
    by : (lock : Option Lock) → IsFirstLock items lock others → Stores job use_ lock position wants next (outcome.Refused why)
        → IsRefused job use_ items others why
    by None first h = absurd (cc)
    by (Some lock) first h = record { lock = lock; first = first; is = refused position wants next (want_of job use_ lock) why h }

pub no_lock : (job : ℕ) (use_ : BlockUse) (items others : List (List ℕ)) (position : ℕ) (wants next : List Want)
    → StoresFirst job use_ items others position wants next outcome.NoLock
    → IsFirstLock items None others
no_lock job use_ items others position wants next t = by t.0 t.1 t.2
  where
    by : (lock : Option Lock) → IsFirstLock items lock others → Stores job use_ lock position wants next outcome.NoLock → IsFirstLock items None others
    by None first h = first
    by (Some lock) first h = absurd (no_lock-not (want_of job use_ lock) h.0)

pub takes-plain : (job : ℕ) (use_ : BlockUse) (items others : List (List ℕ)) (position : ℕ) (wants next : List Want) (result : StoreOutcome) (text : List ℕ)
    → IsFirstLock items (Some (record { name = Spelled text; options = no_options })) others
    → StoresWant (plain_want text) position wants next result
    → StoresFirst job use_ items others position wants next result
takes-plain job use_ items others position wants next result text first takes = (
  Some (record { name = Spelled text; options = no_options }),
  first,
  subst (λ w. StoresWant w position wants next result) (sym (want_of_plain job use_ text)) takes,
)

-- reading one more item
map-push : (seen : List Lock) (lock : Lock) (o : Option (List Lock))
    → option_map (λ ls. seen ++ ls) (option_map (λ ls. lock ∷ ls) o) ≡ option_map (λ ls. (seen ++ lock ∷ []) ++ ls) o
map-push seen lock None = refl
map-push seen lock (Some ls) = ap Some (sym (append_assoc seen (lock ∷ []) ls))

locks_of-cons : (item : List ℕ) (rest : List (List ℕ)) (lock : Lock) → lock_of item ≡ Some lock
    → locks_of (item ∷ rest) ≡ option_map (λ ls. lock ∷ ls) (locks_of rest)
locks_of-cons item rest lock is = rw is refl

read-push : (all old rest : List (List ℕ)) (item : List ℕ) (seen : List Lock) (lock : Lock)
    → locks_of all ≡ option_map (λ ls. seen ++ ls) (locks_of old) → old ≡ item ∷ rest
    → lock_of item ≡ Some lock
    → locks_of all ≡ option_map (λ ls. (seen ++ lock ∷ []) ++ ls) (locks_of rest)
read-push all old rest item seen lock read next is =
    read ∙ ap (λ l. option_map (λ ls. seen ++ ls) (locks_of l)) next
    ∙ ap (option_map (λ ls. seen ++ ls)) (locks_of-cons item rest lock is) ∙ map-push seen lock (locks_of rest)

join-told : (refusal : Option Refusal) (wants : List Want) (want : Want) → join (told_by refusal wants) (Ok want) ≡ told_by refusal (wants ++ want ∷ [])
join-told None wants want = refl
join-told (Some r) wants want = refl

pub gathers-want : (job : ℕ) (use_ : BlockUse) (all old rest : List (List ℕ)) (item : List ℕ) (lock : Lock) (count next : ℕ)
    (wants wants' : List Want) (want : Want) (refusal : Option Refusal)
    → Gathers job use_ all old count wants refusal → old ≡ item ∷ rest → lock_of item ≡ Some lock → next ≡ min 16 count + 1
    → want_of job use_ lock ≡ Ok want → wants' ≡ wants ++ want ∷ [] → Gathers job use_ all rest next wants' refusal
gathers-want job use_ all old rest item lock count next wants wants' want refusal g split is counted wanted pushed = record {
  seen = g.seen ++ lock ∷ [];
  read = read-push all old rest item g.seen lock g.read split is;
  counted = let c = g.counted in let n = length-append g.seen (lock ∷ []) in omega arith;
  told = λ h.
      let n = length-append g.seen (lock ∷ []) in
      wants_of-push job use_ g.seen lock ∙ ap (λ w. join w (want_of job use_ lock)) (g.told (omega arith))
      ∙ ap (join (told_by refusal wants)) wanted ∙ join-told refusal wants want ∙ ap (told_by refusal) (sym pushed);
}

-- ---- the start and the end

nothing-before : (o : Option (List Lock)) → o ≡ option_map (λ ls. [] ++ ls) o
nothing-before None = refl
nothing-before (Some ls) = refl

pub gathers-start : (job : ℕ) (use_ : BlockUse) (items : List (List ℕ)) (wants : List Want) → Gathers job use_ items items 0 (take 0 wants) None
gathers-start job use_ items wants = record { seen = []; read = nothing-before (locks_of items); counted = refl; told = λ h. refl }

few_or_many : (n : ℕ) (x y : Result (ArrayVec Want) Refusal) → (1 ≤ n → n ≤ 16 → ⊥) → cond (nat_le 1 n && nat_le n 16) x y ≡ y
few_or_many n x y h = grind (arith, nat_tests)

right_many : (n : ℕ) (x y : Result (ArrayVec Want) Refusal) → 1 ≤ n → n ≤ 16 → cond (nat_le 1 n && nat_le n 16) x y ≡ x
right_many n x y one most = grind (arith, nat_tests)

all-seen : (job : ℕ) (use_ : BlockUse) (all rest : List (List ℕ)) (count : ℕ) (wants : List Want) (g : Gathers job use_ all rest count wants None)
    → rest ≡ []
    → locks_of all ≡ Some g.seen
all-seen job use_ all rest count wants g end =
    g.read ∙ ap (λ l. option_map (λ ls. g.seen ++ ls) (locks_of l)) end ∙ ap Some (append-nil g.seen)

pub gathers-end : (job : ℕ) (use_ : BlockUse) (all rest : List (List ℕ)) (count : ℕ) (wants : List Want) (after : ArrayVec Want)
    → Gathers job use_ all rest count wants None → rest ≡ [] → 1 ≤ count → count ≤ 16 → after.items ≡ wants
    → filled outcome.Stored after ≡ option_map (call_wants job use_) (locks_of all)
gathers-end job use_ all rest count wants after g end some few is =
    let c = g.counted in
    ap (λ ws. Some (Ok (record { items = ws }))) is
    ∙ sym
    (ap (option_map (call_wants job use_)) (all-seen job use_ all rest count wants g end)
    ∙ ap Some
    (right_many (length g.seen) (stored (wants_of job use_ g.seen)) (Err BadCount) (omega (arith, some, few)) (omega (arith, some, few))
    ∙ ap stored (g.told (omega (arith, few)))))

pub gathers-nothing : (job : ℕ) (use_ : BlockUse) (all rest : List (List ℕ)) (count : ℕ) (wants : List Want) (after : ArrayVec Want)
    → Gathers job use_ all rest count wants None → rest ≡ [] → count ≡ 0
    → filled (outcome.Refused BadCount) after ≡ option_map (call_wants job use_) (locks_of all)
gathers-nothing job use_ all rest count wants after g end none =
    let c = g.counted in
    sym
    (ap (option_map (call_wants job use_)) (all-seen job use_ all rest count wants g end)
    ∙ ap Some (few_or_many (length g.seen) (stored (wants_of job use_ g.seen)) (Err BadCount) (λ one most. omega (arith, none))))

-- ---- a call that is refused

wants_of-refused : (job : ℕ) (use_ : BlockUse) (locks more : List Lock) (why : Refusal) → wants_of job use_ locks ≡ Err why
    → wants_of job use_ (locks ++ more) ≡ Err why
wants_of-refused job use_ [] more why h = absurd (cc)
wants_of-refused job use_ (l ∷ ls) more why h =
    first (want_of job use_ l) (wants_of job use_ ls) (wants_of job use_ (ls ++ more)) h
    (λ e. wants_of-refused job use_ ls more why e)
  where
    first : (w : Result Want Refusal) (ws all : Result (List Want) Refusal) → onto_wants w ws ≡ Err why
        → (ws ≡ Err why → all ≡ Err why)
        → onto_wants w all ≡ Err why
    first (Err r) ws all h later = h
    first (Ok w) (Err r) all h later = let e = later h in rw e refl
    first (Ok w) (Ok ws) all h later = absurd (cc)

few_refused : (n m : ℕ) (x y z : Result (ArrayVec Want) Refusal) → 1 ≤ n → m ≡ n → x ≡ y → cond (nat_le 1 n && nat_le n 16) x z ≡ cond (nat_le m 16) y z
few_refused n m x y z one same e = grind (arith, nat_tests)

filled_refused : (b : Bool) (why : Refusal) (wants : ArrayVec Want)
    → filled (cond b (outcome.Refused why) (outcome.Refused BadCount)) wants ≡ Some (cond b (Err why) (Err BadCount))
filled_refused true why wants = refl
filled_refused false why wants = refl

pub gathers-refused : (job : ℕ) (use_ : BlockUse) (all old rest : List (List ℕ)) (item : List ℕ) (lock : Lock) (count : ℕ)
    (wants : List Want) (after : ArrayVec Want) (why : Refusal) (r : StoreOutcome)
    → Gathers job use_ all old count wants None → count ≤ 16 → old ≡ item ∷ rest → lock_of item ≡ Some lock → want_of job use_ lock ≡ Err why
    → r ≡ option_map_or (refused_with (count + 1) why) (locks_of rest) outcome.NoLock → filled r after ≡ option_map (call_wants job use_) (locks_of all)
gathers-refused job use_ all old rest item lock count wants after why r g few split is wrong result =
    ap (λ x. filled x after) result ∙ finish (locks_of rest)
    ∙ sym (ap (option_map (call_wants job use_)) (read-push all old rest item g.seen lock g.read split is))
  where
    seen : List Lock
    seen = g.seen ++ lock ∷ []

    refused-so : wants_of job use_ seen ≡ Err why
    refused-so =
        let c = g.counted in
        wants_of-push job use_ g.seen lock ∙ ap (λ w. join w (want_of job use_ lock)) (g.told (omega (arith, few))) ∙ ap (join (Ok wants)) wrong

    finish : (o : Option (List Lock))
        → filled (option_map_or (refused_with (count + 1) why) o outcome.NoLock) after
        ≡ option_map (call_wants job use_) (option_map (λ ls. seen ++ ls) o)
    finish None = refl
    finish (Some ls) =
        let c = g.counted in
        let n = length-append g.seen (lock ∷ []) in
        let m = length-append seen ls in
        filled_refused (nat_le (count + 1 + length ls) 16) why after
        ∙ ap Some
        (sym
        (few_refused (length (seen ++ ls)) (count + 1 + length ls) _ _ _ (omega arith) (omega (arith, few))
        (ap stored (wants_of-refused job use_ seen ls why refused-so))))

pub gathers-full : (job : ℕ) (use_ : BlockUse) (all rest : List (List ℕ)) (count : ℕ) (wants : List Want) (after : ArrayVec Want)
    (r : StoreOutcome)
    → Gathers job use_ all rest count wants None → 16 ≤ count → (rest ≡ [] → ⊥)
    → r ≡ option_map_or (refused_with 16 BadCount) (locks_of rest) outcome.NoLock → filled r after ≡ option_map (call_wants job use_) (locks_of all)
gathers-full job use_ all rest count wants after r g many some result =
    ap (λ x. filled x after) result ∙ finish rest some ∙ sym (ap (option_map (call_wants job use_)) g.read)
  where
    same : (b : Bool) → filled (cond b (outcome.Refused BadCount) (outcome.Refused BadCount)) after ≡ Some (Err BadCount)
    same true = refl
    same false = refl

    first : (lock : Option Lock) (more : Option (List Lock))
        → filled (option_map_or (refused_with 16 BadCount) (option_and_then (λ l. option_map (λ ls. l ∷ ls) more) lock) outcome.NoLock) after
        ≡ option_map (call_wants job use_) (option_map (λ ls. g.seen ++ ls) (option_and_then (λ l. option_map (λ ls. l ∷ ls) more) lock))
    first None more = refl
    first (Some l) None = refl
    first (Some l) (Some ls) =
        let c = g.counted in
        let n = length-append g.seen (l ∷ ls) in
        same (nat_le (16 + length (l ∷ ls)) 16) ∙ ap Some (sym (few_or_many (length (g.seen ++ l ∷ ls)) _ _ (λ one most. omega (arith, many))))

    finish : (items : List (List ℕ)) → (items ≡ [] → ⊥)
        → filled (option_map_or (refused_with 16 BadCount) (locks_of items) outcome.NoLock) after
        ≡ option_map (call_wants job use_) (option_map (λ ls. g.seen ++ ls) (locks_of items))
    finish [] some = absurd (some refl)
    finish (item ∷ more) some = first (lock_of item) (locks_of more)

locks_of-none : (item : List ℕ) (rest : List (List ℕ)) → lock_of item ≡ None → locks_of (item ∷ rest) ≡ None
locks_of-none item rest is = rw is refl

pub gathers-none : (job : ℕ) (use_ : BlockUse) (all old rest : List (List ℕ)) (count : ℕ) (wants : List Want) (refusal : Option Refusal)
    → Gathers job use_ all old count wants refusal → IsFirstLock old None rest → None ≡ option_map (call_wants job use_) (locks_of all)
gathers-none job use_ all old rest count wants refusal g first =
    sym
    (ap (option_map (call_wants job use_))
    (g.read ∙ ap (λ l. option_map (λ ls. g.seen ++ ls) (locks_of l)) first.1
    ∙ ap (option_map (λ ls. g.seen ++ ls)) (locks_of-none first.0 rest first.2)))

-- a name alone
pub gathers-one : (job : ℕ) (use_ : BlockUse) (items : List (List ℕ)) (text : List ℕ) (wants next : List Want) (after : ArrayVec Want) (r : StoreOutcome)
    → IsFirstLock items (Some (record { name = Spelled text; options = no_options })) []
    → StoresWant (plain_want text) 0 wants next r → (r ≡ outcome.Stored → after.items ≡ take 1 next)
    → filled r after ≡ option_map (call_wants job use_) (locks_of items)
gathers-one job use_ items text wants next after r first stores left = by (plain_want text) refl
  where
    lock : Lock
    lock = record { name = Spelled text; options = no_options }

    start : Gathers job use_ items items 0 (take 0 wants) None
    start = gathers-start job use_ items wants

    by : (want : Result Want Refusal) → plain_want text ≡ want → filled r after ≡ option_map (call_wants job use_) (locks_of items)
    by (Ok want) is =
        let s : StoresWant (Ok want) 0 wants next r = subst (λ w. StoresWant w 0 wants next r) is stores in
        let more =
        gathers-want job use_ items items [] first.0 lock 0 1 (take 0 wants) (take 1 next) want None start first.1 first.2 refl
        (want_of_plain job use_ text ∙ is) s.1 in
        ap (λ o. filled o after) s.0 ∙ gathers-end job use_ items [] 1 (take 1 next) after more refl (omega arith) (omega arith) (left s.0)
    by (Err why) is =
        let s : StoresWant (Err why) 0 wants next r = subst (λ w. StoresWant w 0 wants next r) is stores in
        gathers-refused job use_ items items [] first.0 lock 0 (take 0 wants) after why r start (omega arith) first.1 first.2
        (want_of_plain job use_ text ∙ is) s.0
