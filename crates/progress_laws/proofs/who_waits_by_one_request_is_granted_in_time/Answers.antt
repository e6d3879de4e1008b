use Rattle.progress_laws.proofs.OneRequest.{is_granted_by_one_request}
use Rattle.progress_laws.proofs.who_waits_by_one_request_is_granted_in_time.Goals as goal

pub returns : goal.returns
returns c = is_granted_by_one_request
