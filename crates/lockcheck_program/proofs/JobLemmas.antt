-- Whoever makes a call or leaves is a job.
use Rattle.std.proofs.Common.{◌≡◌, ◌&&◌, ◌==◌, ap, subst, refl, cond, ℕ, Bool, true, false, List, [], ◌∷◌, ◌∙◌}
use Rattle.std.proofs.Common.{length, Option, Some, None, Result, nat_le, nat_lt, arith}
use Rattle.std.specs.Prelude.{option_map, option_and_then, bytes_eq, codes}
use Rattle.std.specs.List.{list_all}
use Rattle.std.proofs.lemmas.Bool.Decides.{nat_tests}
use Rattle.arrayvec.specs.ArrayVec.{ArrayVec}
use Rattle.word36.specs.declared.sizes.TheConstants.{JOBS}
use Rattle.lock_queue.specs.WellFormed.{is_job}
use Rattle.lock_queue.specs.declared.call.LockCall.{LockCall}
use Rattle.lock_queue.specs.declared.refusal.Refusal.{Refusal}
use Rattle.lock_queue.specs.declared.terms.BlockUse.TheVariants.{Named}
use Rattle.lock_queue.specs.declared.want.Want.{Want}
use Rattle.queue_script.specs.Commands.{OwnedCommand, show, waits, quit, free, not_zero, job_of, call_by, status_by, enqueue_call, enqueue_of}
use Rattle.queue_script.specs.Commands.{dequeue_call, dequeue_of, status_of_items, free_of, bare, named_command, command_of_items, command_of}
use Rattle.queue_script.specs.Locks.{locks_of, call_wants}
use Rattle.queue_script.specs.Options.{half_of}
use Rattle.script_io.specs.Lines.{is_allowed, is_silent}
use Rattle.script_io.specs.Numbers.{number, is_digit, value_onto, parts}
use Rattle.lockcheck_program.specs.Reading.{is_by_job}

-- ---- a job's number

tested : (a b c : Bool) (v n : ℕ) → cond (a && (b && c)) (Some v) None ≡ Some n → (c ≡ true) × (v ≡ n)
tested true true true v n h = (refl, cc)
tested true true false v n h = absurd (cc)
tested true false c v n h = absurd (cc)
tested false b c v n h = absurd (cc)

number_most : (base most n : ℕ) (text : List ℕ) → number base most text ≡ Some n → nat_le n most ≡ true
unfolding number
number_most base most n text h =
    let p = tested (nat_lt 0 (length text)) (list_all (is_digit base) text) (nat_le (value_onto base 0 text) most) (value_onto base 0 text) n h in
    subst (λ v. nat_le v most ≡ true) p.1 p.0

from_one : (z : Bool) (n j : ℕ) → z ≡ (n == 0) → nat_le n JOBS ≡ true → cond z None (Some n) ≡ Some j → is_job j ≡ true
from_one true n j is most h = absurd (cc)
from_one false n j is most h =
    let same : n ≡ j = cc in
    let some : nat_le 1 n ≡ true = grind (arith, nat_tests) in
    subst (λ k. is_job k ≡ true) same (ap (λ x. x && nat_le n JOBS) some ∙ most)

some_job : (o : Option ℕ) (j : ℕ) → ((n : ℕ) → o ≡ Some n → nat_le n JOBS ≡ true) → not_zero o ≡ Some j → is_job j ≡ true
some_job None j most h = absurd (cc)
some_job (Some n) j most h = from_one (n == 0) n j refl (most n refl) h

job_right : (text : List ℕ) (j : ℕ) → job_of text ≡ Some j → is_job j ≡ true
job_right text j h = some_job (number 10 JOBS text) j (λ n e. number_most 10 JOBS n text e) h

-- ---- lines

then_right : (o : Option ℕ) (f : ℕ → Option OwnedCommand) → ((n : ℕ) → o ≡ Some n → is_by_job (f n) ≡ true) → is_by_job (option_and_then f o) ≡ true
then_right None f right = refl
then_right (Some n) f right = right n refl

call_right : (job : ℕ) (o : Option (Result LockCall Refusal)) → is_job job ≡ true → is_by_job (call_by job o) ≡ true
call_right job None is = refl
call_right job (Some c) is = is

enqueue_right : (items : List (List ℕ)) → is_by_job (enqueue_of items) ≡ true
enqueue_right [] = refl
enqueue_right (job ∷ []) = refl
enqueue_right (job ∷ function ∷ []) = refl
enqueue_right (job ∷ function ∷ id ∷ locks) =
    then_right (job_of job) _ (λ j is. then_right (half_of function) _ (λ f hf. then_right (half_of id) _ (λ i hi.
    call_right j (enqueue_call f i j locks) (job_right job j is))))

dequeue_right : (items : List (List ℕ)) → is_by_job (dequeue_of items) ≡ true
dequeue_right [] = refl
dequeue_right (job ∷ []) = refl
dequeue_right (job ∷ function ∷ rest) =
    then_right (job_of job) _ (λ j is. then_right (half_of function) _ (λ f hf. call_right j (dequeue_call f j rest) (job_right job j is)))

status_right : (job : ℕ) (o : Option (Result (ArrayVec Want) Refusal)) → is_by_job (status_by job o) ≡ true
status_right job None = refl
status_right job (Some wants) = refl

status_of_right : (items : List (List ℕ)) → is_by_job (status_of_items items) ≡ true
status_of_right [] = refl
status_of_right (job ∷ locks) = then_right (job_of job) _ (λ j is. status_right j (option_map (call_wants j Named) (locks_of locks)))

free_right : (o : Option ℕ) → ((n : ℕ) → o ≡ Some n → is_job n ≡ true) → is_by_job (option_map free o) ≡ true
free_right None right = refl
free_right (Some job) right = right job refl

free_of_right : (items : List (List ℕ)) → is_by_job (free_of items) ≡ true
free_of_right [] = refl
free_of_right (job ∷ []) = free_right (job_of job) (λ j is. job_right job j is)
free_of_right (job ∷ item ∷ more) = refl

bare_right : (a : OwnedCommand) (items : List (List ℕ)) → is_by_job (Some a) ≡ true → is_by_job (bare a items) ≡ true
bare_right a [] right = right
bare_right a (item ∷ more) right = refl

asks_if : (b : Bool) (x y : Option OwnedCommand) → is_by_job x ≡ true → is_by_job y ≡ true → is_by_job (cond b x y) ≡ true
asks_if true x y p q = p
asks_if false x y p q = q

named_right : (name : List ℕ) (rest : List (List ℕ)) → is_by_job (named_command name rest) ≡ true
named_right name rest =
    asks_if (bytes_eq name (codes "ENQ")) _ _ (enqueue_right rest)
    (asks_if (bytes_eq name (codes "DEQ")) _ _ (dequeue_right rest)
    (asks_if (bytes_eq name (codes "STAT")) _ _ (status_of_right rest)
    (asks_if (bytes_eq name (codes "FREE")) _ _ (free_of_right rest)
    (asks_if (bytes_eq name (codes "SHOW")) _ _ (bare_right show rest refl)
    (asks_if (bytes_eq name (codes "WAITS")) _ _ (bare_right waits rest refl)
    (asks_if (bytes_eq name (codes "QUIT")) _ _ (bare_right quit rest refl) refl))))))

items_right : (items : List (List ℕ)) → is_by_job (command_of_items items) ≡ true
items_right [] = refl
items_right (name ∷ rest) = named_right name rest

-- whoever makes a call or leaves in a line is a job
pub line_by_job : (line : List ℕ) → is_by_job (command_of line) ≡ true
unfolding command_of
line_by_job line =
    asks_if (is_allowed line) _ _ (asks_if (is_silent line) _ _ refl (items_right (parts 32 line))) refl
