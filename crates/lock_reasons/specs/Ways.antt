-- Who stands in the way of a want (this project's profile).
use Rattle.std.specs.Prelude.{Bool, ◌&&◌, List, filter, map}
use Rattle.std.specs.List.{flat_map}
use Rattle.lock_queue.specs.declared.request.Request.{Request}
use Rattle.lock_queue.specs.declared.want.Want.{Want}
use Rattle.lock_queue.specs.Jobs.{is_in_the_way}
use Rattle.lock_queue.specs.Keys.{same_key}
use Rattle.lock_reasons.specs.declared.meetings.Present.{Present}
use Rattle.lock_reasons.specs.Meetings.{present_of}

-- whether a want in the queue is of the same key, and stands in the way
abbrev pub is_met : Want → Want → Bool
is_met w v = same_key v.key w.key && is_in_the_way v w

-- a request's wants that stand in the way of a want
abbrev pub in_the_way : Want → Request → List Present
in_the_way w r = map (present_of r) (filter (is_met w) r.wants.items)

-- those of all requests, in order of arrival
abbrev pub way_of : List Request → Want → List Present
way_of requests w = flat_map (in_the_way w) requests
