use Rattle.call_laws.proofs.HighestAddresses.{core_tells_its_size, login_tells_its_size}
use Rattle.call_laws.proofs.address_44_tells_the_size.Goals as goal

pub returns-clause-login : goal.returns-clause-login
returns-clause-login c = login_tells_its_size

pub returns-clause-core : goal.returns-clause-core
returns-clause-core c = core_tells_its_size
