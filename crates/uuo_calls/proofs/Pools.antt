-- Wants that are read may be asked for.
use Rattle.std.specs.Prelude.{◌≤◌, IsTrue, Result, Ok, Err, OnOk}
use Rattle.std.specs.List.{list_all}
use Rattle.std.proofs.lemmas.Bool.{le-leb}
use Rattle.arrayvec.specs.ArrayVec.{ArrayVec, array_vec_len}
use Rattle.lock_queue.specs.WellFormed.{shares_rightly}
use Rattle.lock_queue.specs.declared.refusal.Refusal.{Refusal}
use Rattle.lock_queue.specs.declared.want.Want.{Want}
use Rattle.uuo_calls.specs.LockRows.{AreAskable}

pub askable : {A : Type 0} (r : Result A Refusal) (wants : ArrayVec Want) → OnOk r (1 ≤ array_vec_len wants)
    → OnOk r (IsTrue (list_all shares_rightly wants.items)) → OnOk r (AreAskable wants)
askable (Ok head) wants some own = (le-leb _ _ some, own)
askable (Err refusal) wants some own = tt
