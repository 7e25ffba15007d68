-- PC and PSTATE decide of no access.
use Rattle.std.proofs.Common.{ℕ, refl}
use Rattle.exception.specs.declared.flags.Flags.{Flags}
use Rattle.cpu.specs.Core.{after_access}
use Rattle.cpu.specs.Says.{translate, access, load, store, fetch, fetch_pa, data_pa}
use Rattle.cpu.specs.Memory.{stepped_now, fetch_stepped_now, located_now, translate_of, translate_access_of, read_of, write_of, ram_after_write, fetch_of, fetch_pa_of, data_pa_of}
use Rattle.cpu.specs.declared.Core.{Core}
use Rattle.core_parts.specs.Accesses.{SameAccesses}

pub same_beside : (c : Core) (f : Flags) (pc : ℕ) → SameAccesses c (record c { flags = f; pc = pc })
unfolding after_access stepped_now fetch_stepped_now located_now translate_of translate_access_of read_of write_of ram_after_write fetch_of fetch_pa_of data_pa_of
same_beside c f pc base ram (translate va kind) = record { answer = refl; bytes = refl; cache = refl }
same_beside c f pc base ram (access va n kind) = record { answer = refl; bytes = refl; cache = refl }
same_beside c f pc base ram (load va n) = record { answer = refl; bytes = refl; cache = refl }
same_beside c f pc base ram (store va n v) = record { answer = refl; bytes = refl; cache = refl }
same_beside c f pc base ram (fetch va) = record { answer = refl; bytes = refl; cache = refl }
same_beside c f pc base ram (fetch_pa va) = record { answer = refl; bytes = refl; cache = refl }
same_beside c f pc base ram (data_pa va) = record { answer = refl; bytes = refl; cache = refl }
