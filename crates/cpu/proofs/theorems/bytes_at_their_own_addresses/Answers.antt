use Rattle.cpu.proofs.ByteMeaning.{load_byte, store_byte, store-others, load-flat, store-flat}
use Rattle.cpu.proofs.theorems.bytes_at_their_own_addresses.Goals as goal

pub returns : goal.returns
returns c = assumption (load_byte, store_byte, store-others, load-flat, store-flat)
