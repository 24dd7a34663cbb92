use Rattle.ia_meaning.proofs.AtAddresses.{entry_at_address, byte_at_address}
use Rattle.ia_meaning.proofs.laws.addresses.Goals as goal

pub returns-clause-entries : goal.returns-clause-entries
returns-clause-entries c = entry_at_address

pub returns-clause-bytes : goal.returns-clause-bytes
returns-clause-bytes c = byte_at_address
