use Rattle.word.specs.Ram.{little_endian, stored, bytes_of}
use Rattle.cpu.specs.Bytes.{load_end, load_of, verdict_of, first_outside, split_value, byte_in, store_end, store_ram_end, store_ram, split_stored, fetch_end, insn_of}
use Rattle.cpu.proofs.theorems.worked_ends.Goals as goal

pub returns : goal.returns
unfolding load_end load_of verdict_of first_outside split_value byte_in little_endian store_end store_ram_end store_ram split_stored stored bytes_of fetch_end insn_of
returns c = assumption
