-- What was found of wants' keys stays so while a want of another key is entered, or given up.
use Rattle.std.proofs.Common.{◌≡◌, ◌∙◌, ◌<◌, ◌≤◌, ◌+◌, sym, ap, ℕ, true, false, List, Option, Some, None, inl, inr, arith, IfSome, get_or, length}
use Rattle.std.proofs.lemmas.Bool.{both_ways, cases_eq, false_from_ne_true}
use Rattle.lock_queue.specs.declared.key.Key.{Key}
use Rattle.lock_queue.specs.declared.want.Want.{Want}
use Rattle.lock_queue.specs.Keys.{same_key}
use Rattle.lock_queue.proofs.Fitting.{eq-same_key, same_key-eq}
use Rattle.key_queues.specs.declared.found.Found.{Found}
use Rattle.key_queues.specs.declared.lock.Lock.{Lock}
use Rattle.key_queues.specs.Hashes.{hash_of}
use Rattle.key_queues.specs.Found.{IsEntered, IsFound}
use Rattle.key_queues.specs.Kept.{appended}
use Rattle.key_queues.specs.Locks.{lock_at}
use Rattle.key_queues.specs.LockUse.{is_free, in_use_for}
use Rattle.key_queues.proofs.Finding.{in_use_parts}
use Rattle.lock_queue.specs.Unused.{unused_want}
use Rattle.lock_table.specs.Arrivals.{no_found}
use Rattle.lock_table.specs.Departures.{KeepsLocks}
use Rattle.lock_table.proofs.Entries.{lock_mine, lock_other}

-- keys with different hashes are different
pub other_hash : (a b : Key) → (hash_of a ≡ hash_of b → ⊥) → same_key a b ≡ false
other_hash a b ne = false_from_ne_true (same_key a b) (λ t. ne (ap hash_of (same_key-eq a b t)))

-- a lock of another key is not in use for this one, and neither is a free lock
other_key : (w : Want) (key : Key) (l : Lock) → same_key w.key key ≡ false → l.key ≡ w.key → in_use_for key l ≡ false
other_key w key l other is = grind arith

not_in_use : (key : Key) (l : Lock) → is_free l ≡ true → in_use_for key l ≡ false
not_in_use key l free = grind arith

-- what is found by one test is found by another that says the same
same_found : (locks most : List Lock) (key : Key) (o : Option ℕ) → ((m : ℕ) → in_use_for key (lock_at most m) ≡ in_use_for key (lock_at locks m))
    → IfSome o (λ n. in_use_for key (lock_at locks n) ≡ true) → IfSome o (λ n. in_use_for key (lock_at most n) ≡ true)
same_found locks most key None same found = tt
same_found locks most key (Some n) same found = same n ∙ found

module _ (locks most : List Lock) (p n : ℕ) (w : Want) (key : Key) (e : IsEntered locks most p w n) (other : same_key w.key key ≡ false) where
  -- the lock of the want that is entered
  entered_key : (lock_at e.middle n).key ≡ w.key
  entered_key =
      elim e.ready.mine [
        | inl was ↦ ap (λ (l : Lock). l.key) was.same ∙ (in_use_parts w.key (lock_at locks n) was.in_use_for).1
        | inr begun ↦ ap (λ (l : Lock). l.key) begun.fresh
      ]

  was_not : in_use_for key (lock_at locks n) ≡ false
  was_not =
      elim e.ready.mine [
        | inl was ↦ other_key w key (lock_at locks n) other (in_use_parts w.key (lock_at locks n) was.in_use_for).1
        | inr begun ↦ not_in_use key (lock_at locks n) begun.free
      ]

  in_use_as_before : (m : ℕ) → in_use_for key (lock_at most m) ≡ in_use_for key (lock_at locks m)
  in_use_as_before m =
      elim (cases_eq m n) [
        | inl is ↦
            let here = lock_mine e.middle most n (appended (lock_at e.middle n).queue p w) e.ready.within e.after in
            ap (λ z. in_use_for key (lock_at most z)) is
            ∙ other_key w key (lock_at most n) other (ap (λ (l : Lock). l.key) here ∙ entered_key)
            ∙ sym was_not
            ∙ ap (λ z. in_use_for key (lock_at locks z)) (sym is)
        | inr ne ↦
            ap (in_use_for key)
            (lock_other e.middle most n (appended (lock_at e.middle n).queue p w) e.ready.within e.after m ne ∙ e.ready.others m ne)
      ]

  pub found_later : (seen : Found) → IsFound locks key seen → IsFound most key seen
  found_later seen f = record {
    hash = f.hash;
    found = same_found locks most key seen.number in_use_as_before f.found;
    none = λ is m. in_use_as_before m ∙ f.none is m;
  }

-- the locks of the keys that are named later stay in use
pub later_in_use : (locks more : List Lock) (n i : ℕ) (named : List Want) (found : List Found) → KeepsLocks locks more n
    → (lock_at locks n).key ≡ (get_or named i unused_want).key
    → ((j : ℕ) → i < j → j < length named → same_key (get_or named i unused_want).key (get_or named j unused_want).key ≡ false) → ((j : ℕ) → i ≤ j → j < length named
    → IfSome (get_or found j no_found).number (λ m. in_use_for (get_or named j unused_want).key (lock_at locks m) ≡ true)) → (j : ℕ) → i + 1 ≤ j → j < length named
    → IfSome (get_or found j no_found).number (λ m. in_use_for (get_or named j unused_want).key (lock_at more m) ≡ true)
later_in_use locks more n i named found keeps is apart was j above within = go (get_or found j no_found).number (was j (omega (arith, above)) within)
  where
    key : Key
    key = (get_or named j unused_want).key

    go : (o : Option ℕ) → IfSome o (λ m. in_use_for key (lock_at locks m) ≡ true) → IfSome o (λ m. in_use_for key (lock_at more m) ≡ true)
    go None h = tt
    go (Some m) h =
        let other : m ≡ n → ⊥ =
        λ e.
        both_ways (same_key (get_or named i unused_want).key key) (apart j (omega (arith, above)) within)
        (eq-same_key (get_or named i unused_want).key key
        (sym is ∙ ap (λ z. (lock_at locks z).key) (sym e) ∙ (in_use_parts key (lock_at locks m) h).1)) in
        grind (arith, keeps.keys m, keeps.queues m other, h)
