-- What the core keeps, said once more: its general registers by reading what was written, and the physical addresses of the last load and of the last
-- external abort by who sets them.
use Rattle.std.specs.Prelude.{◌≡◌, ℕ, ◌+◌, ◌<◌, ◌≤◌, Bool, true, false, List, [], ◌∷◌, length, map, ◌≢◌}
use Rattle.cpu.specs.Core.{fresh_core, reg_of, set_reg}
use Rattle.cpu.specs.Says.{Operation, load, store, fetch, operation_core}
use Rattle.cpu.specs.declared.Core.{Core}

-- GENERAL REGISTERS

-- what is written to one of the 31 is read from it, and the others stay
abbrev pub ReadsWhatIsWritten : Type 0
ReadsWhatIsWritten = (c : Core) (n v : ℕ) → length c.x ≡ 31 → n < 31 → reg_of (set_reg c n v) n ≡ v

abbrev pub OthersStay : Type 0
OthersStay = (c : Core) (n m v : ℕ) → m ≢ n → reg_of (set_reg c n v) m ≡ reg_of c m

-- X30, the last
abbrev pub LastIsWritten : Type 0
LastIsWritten = (c : Core) (v : ℕ) → length c.x ≡ 31 → reg_of (set_reg c 30 v) 30 ≡ v

-- register 31, and any above it, reads as zero, and what is written to it is dropped: the core stays as it is
abbrev pub ReadsZero : Type 0
ReadsZero = (c : Core) (n : ℕ) → 31 ≤ n → reg_of c n ≡ 0

abbrev pub DropsWrites : Type 0
DropsWrites = (c : Core) (n v : ℕ) → 31 ≤ n → set_reg c n v ≡ c

-- a write changes the general registers alone, and there are as many
abbrev pub NothingElse : Type 0
NothingElse = (c : Core) (n v : ℕ) → (record (set_reg c n v) { x = c.x } ≡ c) × (length (set_reg c n v).x ≡ length c.x)

-- in numbers: each of registers 0 to 32 of a fresh core, read after 0x100 and its number was written to it; and read where nothing was
abbrev pub numbers : List ℕ
numbers =
    0 ∷ 1 ∷ 2 ∷ 3 ∷ 4 ∷ 5 ∷ 6 ∷ 7 ∷ 8 ∷ 9 ∷ 10 ∷ 11 ∷ 12 ∷ 13 ∷ 14 ∷ 15 ∷ 16 ∷ 17 ∷ 18 ∷ 19 ∷ 20 ∷ 21 ∷ 22 ∷ 23 ∷ 24 ∷ 25 ∷ 26 ∷ 27 ∷ 28 ∷ 29 ∷ 30 ∷ 31 ∷ 32 ∷ []

abbrev pub RegisterRows : Type 0
RegisterRows =
    map (λ (n : ℕ). reg_of (set_reg fresh_core n (0x100 + n)) n) numbers
    ≡ (0x100 ∷ 0x101 ∷ 0x102 ∷ 0x103 ∷ 0x104 ∷ 0x105 ∷ 0x106 ∷ 0x107 ∷ 0x108 ∷ 0x109 ∷ 0x10A ∷ 0x10B ∷ 0x10C ∷ 0x10D ∷ 0x10E ∷ 0x10F ∷ 0x110
    ∷ 0x111 ∷ 0x112 ∷ 0x113 ∷ 0x114 ∷ 0x115 ∷ 0x116 ∷ 0x117 ∷ 0x118 ∷ 0x119 ∷ 0x11A ∷ 0x11B ∷ 0x11C ∷ 0x11D ∷ 0x11E ∷ 0 ∷ 0
    ∷ [])

-- register 31 after X30 was written, and X0 after register 31 was
abbrev pub NeighbourRows : Type 0
NeighbourRows =
    (reg_of (set_reg fresh_core 30 0xABCD) 31 ∷ reg_of (set_reg fresh_core 31 0xABCD) 0 ∷ reg_of (set_reg fresh_core 31 0xABCD) 30 ∷ []) ≡ (0 ∷ 0 ∷ 0 ∷ [])

-- `last_pa` AND `abort_pa`

-- only a load sets `last_pa`
abbrev pub is_load : Operation → Bool
is_load (load va n) = true
is_load _ = false

abbrev pub OnlyLoadsSetLast : Type 0
OnlyLoadsSetLast = (c : Core) (base : ℕ) (ram : List ℕ) (o : Operation) → is_load o ≡ false → (operation_core c base ram o).last_pa ≡ c.last_pa

-- only what goes to memory sets `abort_pa`
abbrev pub moves_bytes : Operation → Bool
moves_bytes (load va n) = true
moves_bytes (store va n v) = true
moves_bytes (fetch va) = true
moves_bytes _ = false

abbrev pub TranslationsKeepAbort : Type 0
TranslationsKeepAbort =
    (c : Core) (base : ℕ) (ram : List ℕ) (o : Operation) → moves_bytes o ≡ false → (operation_core c base ram o).abort_pa ≡ c.abort_pa
