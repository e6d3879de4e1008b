use Rattle.progress_laws.proofs.Wakes.{who_has_room_is_granted, first_is_granted, waiters_wait_for_others, granted_are_ready}
use Rattle.progress_laws.proofs.no_wake_up_is_lost.Goals as goal

pub returns-clause-room : goal.returns-clause-room
returns-clause-room c = λ s. who_has_room_is_granted s.world.requests

pub returns-clause-first : goal.returns-clause-first
returns-clause-first c = λ s well. first_is_granted s.world.requests well

pub returns-clause-others : goal.returns-clause-others
returns-clause-others c = λ s safe well. waiters_wait_for_others s.world.requests well safe.queued.safe

pub returns-clause-ready : goal.returns-clause-ready
returns-clause-ready c = granted_are_ready
