-- How a want that is asked for meets another one (ENQ/DEQ of the TOPS-10 Monitor Calls Manual, in this project's
-- profile).
use Rattle.std.specs.Prelude.{Bool, not, ◌&&◌, List, [], ◌∷◌, Option, Some, None, nat_le}
use Rattle.std.specs.List.{find}
use Rattle.lock_queue.specs.declared.request.Request.{Request}
use Rattle.lock_queue.specs.declared.want.Want.{Want}
use Rattle.lock_queue.specs.Enqueues.{are_alike}
use Rattle.lock_queue.specs.Keys.{same_key}
use Rattle.lock_queue.specs.Queue.{is_pooled}
use Rattle.lock_reasons.specs.declared.meetings.Present.{Present}
use Rattle.lock_reasons.specs.declared.meetings.Rule.{Rule}
use Rattle.lock_reasons.specs.declared.meetings.Rule.TheVariants.{Differs, Names, Reaches, Pools}

-- whether a want w meets another one so: it is of the same key, and not alike; of the same key; at least as high; or of
-- the same key, and of a pool
abbrev pub meets : Rule → Want → Want → Bool
meets Differs w v = same_key v.key w.key && not (are_alike v w)
meets Names w v = same_key v.key w.key
meets Reaches w v = nat_le w.level v.level
meets Pools w v = same_key v.key w.key && is_pooled v

-- a want of a request, with whose it is and the number of the request
abbrev pub present_of : Request → Want → Present
present_of r w = record { job = r.job; id = r.id; want = w }

-- the want of the request, if there is one, or else a later one
abbrev pub or_later : Request → Option Want → Option Present → Option Present
or_later r (Some v) later = Some (present_of r v)
or_later r None later = later

-- the first want of some requests that w meets so
abbrev pub first_present : Rule → Want → List Request → Option Present
first_present rule w [] = None
first_present rule w (r ∷ later) = or_later r (find (meets rule w) r.wants.items) (first_present rule w later)
