-- What status words say to each asker.
use Rattle.std.proofs.Common.{◌≡◌, ◌≤◌, ◌<◌, ◌+◌, ◌*◌, ◌^◌, ap, ℕ, Bool, true, false, List, [], ◌∷◌, unwrap_or, nat_le, nat_lt, arith}
use Rattle.std.specs.List.{list_all}
use Rattle.std.proofs.lemmas.Bool.{and_parts, leb-true, ltb-true}
use Rattle.word36.specs.declared.sizes.TheConstants.{JOBS}
use Rattle.word36.specs.Words.{joined}
use Rattle.lock_queue.specs.declared.key.Key.{Key}
use Rattle.lock_queue.specs.declared.request.Request.{Request}
use Rattle.lock_queue.specs.declared.status.Status.{Status}
use Rattle.lock_queue.specs.declared.want.Want.{Want}
use Rattle.lock_queue.specs.Keys.{same_key}
use Rattle.lock_queue.specs.Queue.{all_wants, wants_at, is_owner, owners}
use Rattle.lock_queue.specs.StatusWords.{status_of, left_bit, count_word, first_level, first_job, level_of}
use Rattle.lock_queue.specs.WellFormed.{is_in_range, is_right_pool, is_well_formed, are_well_formed}
use Rattle.lock_queue.proofs.Lists.{Sub-all, Sub-filter, list_all-each, list_all-Has, flat_map-Has}
use Rattle.lock_queue.proofs.WellKept.{job_number, wants_in_range, Sub-chosen}
use Rattle.lock_laws.specs.Safe.{ToldAlike}

-- a word is the asker's two bits and the rest
parted : (x y c l r : ℕ) → (x + y + c + l) * 2 ^ 18 + r ≡ ((x + y) * 2 ^ 18 + 0) + ((c + l) * 2 ^ 18 + r)
parted x y c l r = omega arith

bit_three : (b : Bool) → left_bit 3 b ≤ 2 ^ 14
bit_three true = omega arith
bit_three false = omega arith

common-below : (c l r : ℕ) → c ≤ 2 ^ 14 → l < 2 ^ 9 → r < 2 ^ 18 → (c + l) * 2 ^ 18 + r < 2 ^ 33
common-below c l r hc hl hr = omega arith

-- the level that is told is that of a present want, and the owner is a job
first-level : (ws : List Want) → list_all is_in_range ws ≡ true → unwrap_or (first_level ws) 0 < 2 ^ 9
first-level [] h = omega arith
first-level (w ∷ ws) h =
    let range = and_parts (is_in_range w) (list_all is_in_range ws) h in
    ltb-true w.level (2 ^ 9) (and_parts (nat_lt w.level (2 ^ 9)) (is_right_pool w.pool) range.0).0

level-below : (requests : List Request) (key : Key) → are_well_formed requests ≡ true → level_of requests key < 2 ^ 9
level-below requests key h =
    first-level (wants_at requests key)
    (Sub-all is_in_range (Sub-filter (λ (w : Want). same_key w.key key) (all_wants requests)) (list_all-each is_in_range (all_wants requests) (λ w k.
    let from = flat_map-Has (λ (r : Request). r.wants.items) requests w k in
    list_all-Has is_in_range from.0.wants.items w (wants_in_range from.0 (list_all-Has is_well_formed requests from.0 h from.1)) from.2)))

first-job : (rs : List Request) → list_all is_well_formed rs ≡ true → unwrap_or (first_job rs) 0 < 2 ^ 18
first-job [] h = omega arith
first-job (r ∷ rs) h =
    let job = job_number r (and_parts (is_well_formed r) (list_all is_well_formed rs) h).0 in
    let most : r.job ≤ JOBS = leb-true r.job JOBS (and_parts (nat_le 1 r.job) (nat_le r.job JOBS) job).1 in
    omega (arith, most)

owner-below : (requests : List Request) (key : Key) → are_well_formed requests ≡ true
    → unwrap_or (first_job (owners requests key)) 0 < 2 ^ 18
owner-below requests key h = first-job (owners requests key) (Sub-all is_well_formed (Sub-chosen (is_owner key) [] requests) h)

-- the rest is the same for all askers
pub told_alike : (requests : List Request) (key : Key) → ToldAlike requests key
told_alike requests key =
    let s : Status = status_of requests key 0 in
    record {
      first = joined (left_bit 3 s.exclusive + s.level) (unwrap_or s.first_owner 0);
      second = count_word s;
      third = s.amount;
      words = λ asker.
          let t : Status = status_of requests key asker in
          ap (λ n. n ∷ count_word s ∷ s.amount ∷ [])
          (parted (left_bit 1 t.owns) (left_bit 2 t.waits) (left_bit 3 t.exclusive) t.level (unwrap_or t.first_owner 0));
      below = λ well.
          common-below (left_bit 3 s.exclusive) s.level (unwrap_or s.first_owner 0) (bit_three s.exclusive) (level-below requests key well)
          (owner-below requests key well);
    }
