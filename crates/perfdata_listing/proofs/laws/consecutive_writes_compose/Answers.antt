use Rattle.perfdata_listing.proofs.CountingBufWriterLemmas.{forwards-compose}
use Rattle.perfdata_listing.proofs.laws.consecutive_writes_compose.Goals as goal

pub returns : goal.returns
returns g c = λ old mid new first second p q. forwards-compose p q
