use Rattle.sentry_text.proofs.Addresses.{address_of_iff, written_address}
use Rattle.sentry_text.proofs.laws.addresses.Goals as goal

pub returns-clause-texts : goal.returns-clause-texts
returns-clause-texts c = address_of_iff

pub returns-clause-read_back : goal.returns-clause-read_back
returns-clause-read_back c = written_address
