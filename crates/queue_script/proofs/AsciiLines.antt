-- Whatever spells a command is ASCII: so only a line that does nothing has to be asked whether it is.
use Rattle.std.proofs.Common.{◌≡◌, ◌==◌, ◌&&◌, ◌<◌, ◌≤◌, ◌∙◌, ℕ, Bool, true, false, List, [], ◌∷◌, Option, Some, None, refl, ap, sym, cond, arith, nat_lt, nat_le, length}
use Rattle.std.specs.Prelude.{codes, bytes_eq, option_map, option_and_then}
use Rattle.std.specs.List.{list_all, slice_split, onto_first}
use Rattle.std.proofs.lemmas.Bool.Decides.{nat_tests}
use Rattle.std.proofs.lemmas.List.Splits.{slice_split-cons_no, slice_split-cons_yes}
use Rattle.std.proofs.lemmas.Option.{cond_some, none-some, option_and_then_some}
use Rattle.std.proofs.lemmas.Slice.Eq.{bytes_eq-Decides}
use Rattle.script_io.specs.Lines.{is_allowed, is_silent}
use Rattle.script_io.specs.Numbers.{is_digit, number, parts}
use Rattle.lock_queue.specs.declared.call.LockCall.{LockCall}
use Rattle.lock_queue.specs.declared.want.Want.{Want}
use Rattle.lock_queue.specs.declared.refusal.Refusal.{Refusal}
use Rattle.lock_queue.specs.declared.terms.BlockUse.{BlockUse}
use Rattle.arrayvec.specs.ArrayVec.{ArrayVec}
use Rattle.std.specs.Prelude.{Result}
use Rattle.queue_script.specs.Options.{half_of, pool_of, alone, option_of, with_option, options_from, no_options}
use Rattle.queue_script.specs.declared.options.LockOption.{LockOption}
use Rattle.queue_script.specs.declared.options.LockOption.TheVariants as option
use Rattle.queue_script.specs.declared.options.Options.{Options}
use Rattle.queue_script.specs.declared.options.PoolOption.{PoolOption}
use Rattle.queue_script.specs.declared.options.TheConstants.{MOST_HALF, MOST_LEVEL}
use Rattle.queue_script.specs.declared.locks.Lock.{Lock}
use Rattle.queue_script.specs.declared.locks.LockName.{LockName}
use Rattle.queue_script.specs.declared.locks.LockName.TheVariants.{Coded}
use Rattle.queue_script.specs.declared.locks.TheConstants.{MOST_CODE}
use Rattle.queue_script.specs.Locks.{is_name_character, user_code, name_of, name_of_characters, lock_of, lock_of_parts, locks_of}
use Rattle.queue_script.specs.Commands.{OwnedCommand, not_zero, job_of, call_by, status_by, call_for, unknown_call, enqueue_call, enqueue_of}
use Rattle.queue_script.specs.Commands.{release_all_call, release_id_call, dequeue_call, dequeue_of, status_of_items, free_of, bare}
use Rattle.queue_script.specs.Commands.{named_command, command_of_items, command_of}
use Rattle.queue_script.proofs.LockLemmas.{and_parts}

abbrev ascii : ℕ → Bool
ascii b = nat_lt b 128

abbrev IsAscii : List ℕ → Type 0
IsAscii text = list_all ascii text ≡ true

abbrev AreAscii : List (List ℕ) → Type 0
AreAscii texts = list_all (list_all ascii) texts ≡ true

both : (a b : Bool) → a ≡ true → b ≡ true → (a && b) ≡ true
both a b p q = cc

weaker : (p : ℕ → Bool) (text : List ℕ) → ((c : ℕ) → p c ≡ true → ascii c ≡ true) → list_all p text ≡ true → IsAscii text
weaker p [] h all = refl
weaker p (c ∷ cs) h all =
    let here = and_parts (p c) (list_all p cs) all in
    both (ascii c) (list_all ascii cs) (h c here.0) (weaker p cs h here.1)

-- ---- parts

onto-ascii : (c : ℕ) (cs : List ℕ) (texts : List (List ℕ)) → (AreAscii texts → IsAscii cs) → AreAscii (onto_first c texts) → IsAscii (c ∷ cs)
onto-ascii c cs [] rest all =
    let here = and_parts (list_all ascii (c ∷ [])) true all in
    let first = and_parts (ascii c) true here.0 in
    both (ascii c) (list_all ascii cs) first.0 (rest refl)
onto-ascii c cs (text ∷ more) rest all =
    let here = and_parts (list_all ascii (c ∷ text)) (list_all (list_all ascii) more) all in
    let first = and_parts (ascii c) (list_all ascii text) here.0 in
    both (ascii c) (list_all ascii cs) first.0 (rest (both (list_all ascii text) (list_all (list_all ascii) more) first.1 here.1))

split_step : (s c : ℕ) (cs : List ℕ) (here : Bool) → (c == s) ≡ here → ascii s ≡ true → (AreAscii (slice_split (λ b. b == s) cs) → IsAscii cs)
    → AreAscii (slice_split (λ b. b == s) (c ∷ cs)) → IsAscii (c ∷ cs)
split_step s c cs true is known rest all =
    let others = rw (slice_split-cons_yes (λ b. b == s) c cs is) at all in
    both (ascii c) (list_all ascii cs) (grind (arith, nat_tests)) (rest others)
split_step s c cs false is known rest all =
    onto-ascii c cs (slice_split (λ b. b == s) cs) rest (rw (slice_split-cons_no (λ b. b == s) c cs is) at all)

split-ascii : (s : ℕ) (text : List ℕ) → ascii s ≡ true → AreAscii (slice_split (λ b. b == s) text) → IsAscii text
split-ascii s [] known all = refl
split-ascii s (c ∷ cs) known all = split_step s c cs (c == s) refl known (split-ascii s cs known) all

parts-ascii : (s : ℕ) (text : List ℕ) → ascii s ≡ true → AreAscii (parts s text) → IsAscii text
unfolding parts
parts-ascii s text known all = split-ascii s text known all

-- ---- numbers

digit-ascii : (base c : ℕ) → base ≤ 10 → is_digit base c ≡ true → ascii c ≡ true
digit-ascii base c few is = grind (arith, nat_tests)

number-ascii : (base most : ℕ) (text : List ℕ) (n : ℕ) → base ≤ 10 → number base most text ≡ Some n → IsAscii text
unfolding number
number-ascii base most text n few is =
    let all = (cond_some _ _ _ is).0 in
    let more = (and_parts _ _ all).1 in
    weaker (is_digit base) text (λ c. digit-ascii base c few) (and_parts _ _ more).0

pub half-ascii : (text : List ℕ) (n : ℕ) → half_of text ≡ Some n → IsAscii text
half-ascii text n is = number-ascii 10 MOST_HALF text n (omega arith) is

job-ascii : (text : List ℕ) (j : ℕ) (read : Option ℕ) → number 10 63 text ≡ read → not_zero read ≡ Some j → IsAscii text
job-ascii text j None is some = absurd (none-some j some)
job-ascii text j (Some n) is some = number-ascii 10 63 text n (omega arith) is

job_ascii : (text : List ℕ) (j : ℕ) → job_of text ≡ Some j → IsAscii text
job_ascii text j is = job-ascii text j (number 10 63 text) refl is

-- ---- options

-- what a map gives comes of something
mapped : {A B P : Type 0} (f : A → B) (o : Option A) (y : B) → option_map f o ≡ Some y → ((x : A) → o ≡ Some x → P) → P
mapped f None y is go = absurd (none-some y is)
mapped f (Some x) y is go = go x refl

known-ascii : (c k : ℕ) → (c == k) ≡ true → ascii k ≡ true → ascii c ≡ true
known-ascii c k is known = grind (arith, nat_tests)

-- a choice that gives something, by its two sides
choice : {A P : Type 0} (b : Bool) (x y : Option A) (z : A) → cond b x y ≡ Some z → (b ≡ true → x ≡ Some z → P) → (y ≡ Some z → P) → P
choice true x y z is first second = first refl is
choice false x y z is first second = second is

letter-ascii : (c k : ℕ) (rest : List ℕ) → (c == k) ≡ true → ascii k ≡ true → IsAscii rest → IsAscii (c ∷ rest)
letter-ascii c k rest is known all = both (ascii c) (list_all ascii rest) (known-ascii c k is known) all

alone-ascii : (o : LockOption) (rest : List ℕ) (z : LockOption) → alone o rest ≡ Some z → IsAscii rest
alone-ascii o [] z is = refl
alone-ascii o (c ∷ cs) z is = absurd (none-some z is)

pool-parts : (texts : List (List ℕ)) (p : PoolOption) → pool_of texts ≡ Some p → AreAscii texts
pool-parts [] p is = absurd (none-some p is)
pool-parts (size ∷ []) p is = absurd (none-some p is)
pool-parts (size ∷ amount ∷ []) p is =
    option_and_then_some _ (half_of size) p is
    (λ s first rest. mapped _ (half_of amount) p rest (λ a second.
    both (list_all ascii size) (list_all (list_all ascii) (amount ∷ [])) (half-ascii size s first)
    (both (list_all ascii amount) true (half-ascii amount a second) refl)))
pool-parts (size ∷ amount ∷ other ∷ more) p is = absurd (none-some p is)

option-ascii : (text : List ℕ) (o : LockOption) → option_of text ≡ Some o → IsAscii text
option-ascii [] o is = absurd (none-some o is)
option-ascii (c ∷ rest) o is =
    choice (c == 83) _ _ o is (λ b x. letter-ascii c 83 rest b refl (alone-ascii option.Shared rest o x)) (λ is2.
    choice (c == 66) _ _ o is2 (λ b x. letter-ascii c 66 rest b refl (alone-ascii option.Bypass rest o x)) (λ is3.
    choice (c == 74) _ _ o is3 (λ b x. letter-ascii c 74 rest b refl (alone-ascii option.Own rest o x)) (λ is4.
    choice (c == 76) _ _ o is4 (λ b x. letter-ascii c 76 rest b refl
    (mapped _ (number 10 MOST_LEVEL rest) o x (λ n found. number-ascii 10 MOST_LEVEL rest n (omega arith) found))) (λ is5.
    choice (c == 80) _ _ o is5 (λ b x. letter-ascii c 80 rest b refl
    (mapped _ (pool_of (parts 58 rest)) o x (λ p found. parts-ascii 58 rest refl (pool-parts (parts 58 rest) p found)))) (λ is6.
    choice (c == 71) _ _ o is6 (λ b x. letter-ascii c 71 rest b refl (mapped _ (half_of rest) o x (λ n found. half-ascii rest n found)))
    (λ none. absurd (none-some o none)))))))

options-ascii : (texts : List (List ℕ)) (before after : Options) → options_from before texts ≡ Some after → AreAscii texts
options-ascii [] before after is = refl
options-ascii (text ∷ more) before after is =
    option_and_then_some _ (option_of text) after is (λ o first rest.
    option_and_then_some _ (with_option before o) after rest (λ next taken others.
    both (list_all ascii text) (list_all (list_all ascii) more) (option-ascii text o first) (options-ascii more next after others)))

-- ---- locks

name_character-ascii : (c : ℕ) → is_name_character c ≡ true → ascii c ≡ true
name_character-ascii c is = grind (arith, nat_tests)

code-ascii : (digits : List ℕ) (n : ℕ) → user_code digits ≡ Some n → IsAscii digits
code-ascii digits n is = choice _ (number 8 MOST_CODE digits) None n is (λ b x. number-ascii 8 MOST_CODE digits n (omega arith) x) (λ none. absurd (none-some n none))

characters-ascii : (text : List ℕ) (n : LockName) → name_of_characters text ≡ Some n → IsAscii text
characters-ascii text n is = weaker is_name_character text name_character-ascii (cond_some _ _ _ is).0

name-ascii : (text : List ℕ) (n : LockName) → name_of text ≡ Some n → IsAscii text
name-ascii [] n is = absurd (none-some n is)
name-ascii (c ∷ rest) n is =
    choice (c == 35) _ _ n is (λ b x. letter-ascii c 35 rest b refl (mapped Coded (user_code rest) n x (λ code found. code-ascii rest code found)))
    (λ x. characters-ascii (c ∷ rest) n x)

lock-parts : (texts : List (List ℕ)) (l : Lock) → lock_of_parts texts ≡ Some l → AreAscii texts
lock-parts [] l is = absurd (none-some l is)
lock-parts (name ∷ options) l is =
    option_and_then_some _ (name_of name) l is (λ n first rest.
    mapped _ (options_from no_options options) l rest (λ o others.
    both (list_all ascii name) (list_all (list_all ascii) options) (name-ascii name n first) (options-ascii options no_options o others)))

lock-ascii : (item : List ℕ) (l : Lock) → lock_of item ≡ Some l → IsAscii item
lock-ascii item l is = parts-ascii 47 item refl (lock-parts (parts 47 item) l is)

locks-ascii : (items : List (List ℕ)) (ls : List Lock) → locks_of items ≡ Some ls → AreAscii items
locks-ascii [] ls is = refl
locks-ascii (item ∷ more) ls is =
    option_and_then_some _ (lock_of item) ls is (λ l first rest.
    mapped _ (locks_of more) ls rest (λ others found.
    both (list_all ascii item) (list_all (list_all ascii) more) (lock-ascii item l first) (locks-ascii more others found)))

-- ---- calls

-- a call that comes of all the locks that items spell
named-ascii : {A : Type 0} (make : List Lock → A) (items : List (List ℕ)) (c : A) → option_map make (locks_of items) ≡ Some c → AreAscii items
named-ascii make items c is = mapped make (locks_of items) c is (λ ls found. locks-ascii items ls found)

enqueue_call-ascii : (f i j : ℕ) (items : List (List ℕ)) (c : Result LockCall Refusal) → enqueue_call f i j items ≡ Some c → AreAscii items
enqueue_call-ascii f i j items c is =
    choice (f == 0) _ _ c is (λ b x. named-ascii _ items c x) (λ is2.
    choice (f == 1) _ _ c is2 (λ b x. named-ascii _ items c x) (λ is3.
    choice (f == 2) _ _ c is3 (λ b x. named-ascii _ items c x) (λ is4.
    choice (f == 3) _ _ c is4 (λ b x. named-ascii _ items c x) (λ x. named-ascii _ items c x))))

asked : (j : ℕ) (o : Option (Result LockCall Refusal)) (a : OwnedCommand) {P : Type 0} → call_by j o ≡ Some a → ((c : Result LockCall Refusal) → o ≡ Some c → P) → P
asked j None a is go = absurd (none-some a is)
asked j (Some c) a is go = go c refl

three : (a b c : List ℕ) (more : List (List ℕ)) → IsAscii a → IsAscii b → IsAscii c → AreAscii more → AreAscii (a ∷ b ∷ c ∷ more)
three a b c more p q r others = cc

enqueue-ascii : (items : List (List ℕ)) (a : OwnedCommand) → enqueue_of items ≡ Some a → AreAscii items
enqueue-ascii [] a is = absurd (none-some a is)
enqueue-ascii (job ∷ []) a is = absurd (none-some a is)
enqueue-ascii (job ∷ function ∷ []) a is = absurd (none-some a is)
enqueue-ascii (job ∷ function ∷ id ∷ locks) a is =
    option_and_then_some _ (job_of job) a is (λ j first rest.
    option_and_then_some _ (half_of function) a rest (λ f second rest2.
    option_and_then_some _ (half_of id) a rest2 (λ i third call.
    asked j (enqueue_call f i j locks) a call (λ c found.
    three job function id locks (job_ascii job j first) (half-ascii function f second) (half-ascii id i third) (enqueue_call-ascii f i j locks c found)))))

all-ascii : (items : List (List ℕ)) (c : Result LockCall Refusal) → release_all_call items ≡ Some c → AreAscii items
all-ascii [] c is = refl
all-ascii (item ∷ more) c is = absurd (none-some c is)

id-ascii : (items : List (List ℕ)) (c : Result LockCall Refusal) → release_id_call items ≡ Some c → AreAscii items
id-ascii [] c is = absurd (none-some c is)
id-ascii (id ∷ []) c is = mapped _ (half_of id) c is (λ n found. both (list_all ascii id) true (half-ascii id n found) refl)
id-ascii (id ∷ item ∷ more) c is = absurd (none-some c is)

dequeue_call-ascii : (f j : ℕ) (items : List (List ℕ)) (c : Result LockCall Refusal) → dequeue_call f j items ≡ Some c → AreAscii items
dequeue_call-ascii f j items c is =
    choice (f == 0) _ _ c is (λ b x. named-ascii _ items c x) (λ is2.
    choice (f == 1) _ _ c is2 (λ b x. all-ascii items c x) (λ is3.
    choice (f == 2) _ _ c is3 (λ b x. id-ascii items c x) (λ x. named-ascii _ items c x)))

two : (a b : List ℕ) (more : List (List ℕ)) → IsAscii a → IsAscii b → AreAscii more → AreAscii (a ∷ b ∷ more)
two a b more p q others = cc

dequeue-ascii : (items : List (List ℕ)) (a : OwnedCommand) → dequeue_of items ≡ Some a → AreAscii items
dequeue-ascii [] a is = absurd (none-some a is)
dequeue-ascii (job ∷ []) a is = absurd (none-some a is)
dequeue-ascii (job ∷ function ∷ rest) a is =
    option_and_then_some _ (job_of job) a is (λ j first more.
    option_and_then_some _ (half_of function) a more (λ f second call.
    asked j (dequeue_call f j rest) a call (λ c found.
    two job function rest (job_ascii job j first) (half-ascii function f second) (dequeue_call-ascii f j rest c found))))

asked_keys : (j : ℕ) (o : Option (Result (ArrayVec Want) Refusal)) (a : OwnedCommand) {P : Type 0} → status_by j o ≡ Some a → ((c : Result (ArrayVec Want) Refusal) → o ≡ Some c → P) → P
asked_keys j None a is go = absurd (none-some a is)
asked_keys j (Some c) a is go = go c refl

status-ascii : (items : List (List ℕ)) (a : OwnedCommand) → status_of_items items ≡ Some a → AreAscii items
status-ascii [] a is = absurd (none-some a is)
status-ascii (job ∷ locks) a is =
    option_and_then_some _ (job_of job) a is (λ j first keys.
    asked_keys j _ a keys (λ c found.
    mapped _ (locks_of locks) c found (λ ls spelled.
    both (list_all ascii job) (list_all (list_all ascii) locks) (job_ascii job j first) (locks-ascii locks ls spelled))))

free-ascii : (items : List (List ℕ)) (a : OwnedCommand) → free_of items ≡ Some a → AreAscii items
free-ascii [] a is = absurd (none-some a is)
free-ascii (job ∷ []) a is = mapped _ (job_of job) a is (λ j found. both (list_all ascii job) true (job_ascii job j found) refl)
free-ascii (job ∷ item ∷ more) a is = absurd (none-some a is)

bare-ascii : (command : OwnedCommand) (items : List (List ℕ)) (a : OwnedCommand) → bare command items ≡ Some a → AreAscii items
bare-ascii command [] a is = refl
bare-ascii command (item ∷ more) a is = absurd (none-some a is)

-- ---- lines

word : (name letters : List ℕ) (rest : List (List ℕ)) → bytes_eq name letters ≡ true → IsAscii letters → AreAscii rest → AreAscii (name ∷ rest)
word name letters rest is known others = let same = (bytes_eq-Decides name letters).0 is in cc

items-ascii : (items : List (List ℕ)) (a : OwnedCommand) → command_of_items items ≡ Some a → AreAscii items
items-ascii [] a is = absurd (none-some a is)
items-ascii (name ∷ rest) a is =
    choice (bytes_eq name (codes "ENQ")) _ _ a is (λ b x. word name (codes "ENQ") rest b refl (enqueue-ascii rest a x)) (λ is2.
    choice (bytes_eq name (codes "DEQ")) _ _ a is2 (λ b x. word name (codes "DEQ") rest b refl (dequeue-ascii rest a x)) (λ is3.
    choice (bytes_eq name (codes "STAT")) _ _ a is3 (λ b x. word name (codes "STAT") rest b refl (status-ascii rest a x)) (λ is4.
    choice (bytes_eq name (codes "FREE")) _ _ a is4 (λ b x. word name (codes "FREE") rest b refl (free-ascii rest a x)) (λ is5.
    choice (bytes_eq name (codes "SHOW")) _ _ a is5 (λ b x. word name (codes "SHOW") rest b refl (bare-ascii _ rest a x)) (λ is6.
    choice (bytes_eq name (codes "WAITS")) _ _ a is6 (λ b x. word name (codes "WAITS") rest b refl (bare-ascii _ rest a x)) (λ is7.
    choice (bytes_eq name (codes "QUIT")) _ _ a is7 (λ b x. word name (codes "QUIT") rest b refl (bare-ascii _ rest a x))
    (λ none. absurd (none-some a none))))))))

line-ascii : (line : List ℕ) (a : OwnedCommand) → command_of_items (parts 32 line) ≡ Some a → IsAscii line
line-ascii line a is = parts-ascii 32 line refl (items-ascii (parts 32 line) a is)

other : (line : List ℕ) (read : Option OwnedCommand) → command_of_items (parts 32 line) ≡ read → list_all ascii line ≡ false → read ≡ None
other line None is beyond = refl
other line (Some a) is beyond = let all = line-ascii line a is in cc

spelled_step : (line : List ℕ) (known : Bool) → list_all ascii line ≡ known → nat_le (length line) 256 ≡ true → is_silent line ≡ false
    → command_of_items (parts 32 line) ≡ command_of line
unfolding command_of
spelled_step line true is short loud = cc
spelled_step line false is short loud = let none = other line (command_of_items (parts 32 line)) refl is in cc

-- a line that is not too long and does something asks for what its items spell
pub spelled_alone : (line : List ℕ) → nat_le (length line) 256 ≡ true → is_silent line ≡ false → command_of_items (parts 32 line) ≡ command_of line
spelled_alone line short loud = spelled_step line (list_all ascii line) refl short loud
