-- The worked cases of docs/SCOPE.md that are translations with an empty cache, and the untagging: rows 1 to 9 and 12, as one computed statement.
use Rattle.std.specs.Prelude.{if◌then◌else◌, ◌≡◌, Bool, true, false, [], ◌∷◌, length, ℕ, ◌+◌, ◌%◌, ◌^◌, Ok, Err, List, ◌-◌, ◌*◌, ◌/◌, ◌≤◌, ◌<◌}
use Rattle.std.specs.Prelude.{Option}
use Rattle.word.specs.Bits.{bit_on, align_down}
use Rattle.word.specs.Ram.{word_at, bytes_of}
use Rattle.sysreg.specs.declared.regs.Regime.TheVariants.{El1}
use Rattle.word.specs.Places.{bits}
use Rattle.sysreg.specs.declared.regs.Control.{Control}
use Rattle.sysreg.specs.declared.regs.Regime.{Regime}
use Rattle.walk.specs.Regime.{untagged}
use Rattle.walk.specs.Permission.{Access, reading, fetching, kind_bit, first_bit, permission_byte}
use Rattle.walk.specs.Walk.{walk_of, fetches_of}
use Rattle.walk.specs.declared.regime.Bank.{Bank}
use Rattle.walk.specs.Answers.{Walked}
use Rattle.walk.specs.Table.{startlevel_of, inputsize, Lookup, deeper, first_lookup, range_of, level_next, leaf_permissions, descaddr}
use Rattle.walk.specs.declared.{range.Range.Range, level.Params.Params, level.Leaf.Leaf}

-- a translation's answer: an address, or a fault status code
pub data WorkedAnswer : Type 0 where
  address : ℕ → WorkedAnswer
  status : ℕ → WorkedAnswer

-- the leaf's page with the address's low twelve bits, where the leaf has the bit that the access needs
unfoldable pub judged : Bool → Access → ℕ → Walked → WorkedAnswer
judged privileged a va (Ok leaf) =
    if bit_on leaf.perms (kind_bit a + first_bit privileged) then address (align_down leaf.oa 12 + va % 2 ^ 12) else status (12 + leaf.level)
judged privileged a va (Err code) = status code

-- SCTLR_EL1.M set, TCR_EL1 = 25, TTBR0_EL1 as given, other registers zero
unfoldable pub registers : ℕ → Bank
registers ttbr0 = record { sctlr = 1; tcr = 25; ttbr0 = ttbr0; ttbr1_el1 = 0; scr_el3 = 0; hcr_el2 = 0 }

-- a translation in the EL1&0 regime: TTBR0, the address of a window of eight bytes and the word there, the access
unfoldable pub translated : ℕ → ℕ → ℕ → Bool → Access → ℕ → WorkedAnswer
unfolding judged registers
translated ttbr0 at word privileged a va =
    judged privileged a va (walk_of (registers ttbr0) El1 (untagged 25 El1 va) (word_at at (bytes_of 8 word) 8))

-- the word at 0x1008, at address 0x40001234
unfoldable pub row : ℕ → Bool → Access → WorkedAnswer
unfolding translated
row word privileged a = translated 0x1000 0x1008 word privileged a 0x40001234

-- rows 1 to 9, the last address in range, and row 12
abbrev pub WorkedTranslations : Type 0
WorkedTranslations =
    (row 0x80000401 true reading
    ∷ row 0x80000401 false reading
    ∷ row 0x80000401 false fetching
    ∷ row 0x80000001 true reading
    ∷ row 0 true reading
    ∷ row 0x100000001 true reading
    ∷ translated 0x1000 0x1008 0x80000401 true reading 0x8000000000
    ∷ translated 0x100000000 0x1008 0x80000401 true reading 0x40001234
    ∷ translated 0x1000 0x1010 0x80000401 true reading 0x40001234
    ∷ translated 0x1000 0x1FF8 0x80000401 true reading 0x7FFFFFFFFF
    ∷ address (untagged (2 ^ 38) El1 0x12FFFFFFFFFFF000)
    ∷ [])
    ≡ (address 0x80001234
    ∷ status 0x0D
    ∷ address 0x80001234
    ∷ status 0x09
    ∷ status 0x05
    ∷ status 0x01
    ∷ status 0x04
    ∷ status 0x00
    ∷ status 0x15
    ∷ address 0xBFFFFFFF
    ∷ address 0xFFFFFFFFFFFFF000
    ∷ [])

-- how many descriptors each of these walks reads: one, but none where the range or the base is refused
unfoldable pub descriptors : ℕ → ℕ → ℕ → ℕ → ℕ
unfolding registers
descriptors ttbr0 at word va = length (fetches_of (registers ttbr0) El1 (untagged 25 El1 va) (word_at at (bytes_of 8 word) 8))

abbrev pub WorkedReads : Type 0
WorkedReads =
    (descriptors 0x1000 0x1008 0x80000401 0x40001234
    ∷ descriptors 0x1000 0x1008 0x80000001 0x40001234
    ∷ descriptors 0x1000 0x1008 0 0x40001234
    ∷ descriptors 0x1000 0x1008 0x100000001 0x40001234
    ∷ descriptors 0x1000 0x1008 0x80000401 0x8000000000
    ∷ descriptors 0x100000000 0x1008 0x80000401 0x40001234
    ∷ descriptors 0x1000 0x1010 0x80000401 0x40001234
    ∷ descriptors 0x1000 0x1FF8 0x80000401 0x7FFFFFFFFF
    ∷ [])
    ≡ (1 ∷ 1 ∷ 1 ∷ 1 ∷ 0 ∷ 0 ∷ 1 ∷ 1 ∷ [])

-- What `theorems` says of a walk in numbers: the bits of addresses and descriptors at each level, by granule. Each statement has the numbers as arguments;
-- `theorems::addresses_of_levels` gives them.

-- with so many bits of input, from low to high, a walk begins at the level; by whether the granule is 64 KiB
abbrev pub StartsAt : Bool → ℕ → ℕ → ℕ → Type 0
StartsAt largegrain low high level = (n : ℕ) → low ≤ n → n ≤ high → startlevel_of largegrain n ≡ level

-- a leaf of the level maps with its descriptor's bits 47 to low, and the address's bits below
abbrev pub LeafMaps : Bool → ℕ → ℕ → Type 0
LeafMaps largegrain level low =
    (s : Bank) (r : Regime) (va : ℕ) (memory : ℕ → Option ℕ) (leaf : Leaf) → (range_of s r va).largegrain ≡ largegrain
    → walk_of s r va memory ≡ Ok leaf → leaf.level ≡ level → leaf.oa ≡ bits leaf.desc 47 low * 2 ^ low + va % 2 ^ low

-- a table descriptor of the level leads to the descriptor at va<high:low> of the table at its bits 47 to grain
abbrev pub TableMaps : Bool → ℕ → ℕ → ℕ → ℕ → Type 0
TableMaps largegrain level grain high low =
    (p : Params) (va : ℕ) (l k : Lookup) (desc : ℕ) → p.largegrain ≡ largegrain → l.level ≡ level → level_next p va l desc ≡ deeper k
    → descaddr p va k ≡ bits desc 47 grain * 2 ^ grain + bits va high low * 8

-- with so many bits of input, from low to high, the first descriptor is at va<inputsize-1:n> of the table at the base's bits 47 to 3 + inputsize - n
abbrev pub FirstMaps : Bool → ℕ → ℕ → ℕ → Type 0
FirstMaps largegrain low high n =
    (p : Params) (g : Range) (va : ℕ) → p.largegrain ≡ largegrain → g.largegrain ≡ largegrain → low ≤ inputsize g → inputsize g ≤ high
    → descaddr p va (first_lookup g)
    ≡ bits g.baseregister 47 (3 + inputsize g - n) * 2 ^ (3 + inputsize g - n) + bits va (inputsize g - 1) n * 8

-- what a table descriptor adds to what the tables above it forbid
abbrev pub TablesAdd : (Params → Lookup → ℕ → Lookup → Type 0) → Type 0
TablesAdd P = (p : Params) (va : ℕ) (l k : Lookup) (desc : ℕ) → level_next p va l desc ≡ deeper k → P p l desc k

-- a fact of every leaf that a walk answers
abbrev pub EachLeaf : (Regime → Leaf → Type 0) → Type 0
EachLeaf P =
    (s : Bank) (r : Regime) (va : ℕ) (memory : ℕ → Option ℕ) (leaf : Leaf) → walk_of s r va memory ≡ Ok leaf → P r leaf

-- SETTINGS FOR ROWS THAT ARE COMPUTED

-- a range by its granule and TxSZ, with a base register of all ones
abbrev pub sized : Bool → ℕ → Range
sized largegrain txsz =
    record { largegrain = largegrain; baseregister = 0xFFFF_FFFF_FFFF_FFFF; txsz = txsz; disabled = false; ps = 5; upper = false }

-- the upper range of that size
abbrev pub upper_sized : ℕ → Range
upper_sized txsz =
    record { largegrain = false; baseregister = 0; txsz = txsz; disabled = false; ps = 5; upper = true }

-- the address of the first table
abbrev pub first_base : Bool → ℕ → ℕ
first_base largegrain txsz = (first_lookup (sized largegrain txsz)).baseaddress

-- SCTLR.M, SCR_EL3.NS, HCR_EL2.TGE and HCR_EL2.DC by the bits 3 to 0 of a number
abbrev pub controls : ℕ → Bank
controls n =
    record {
      sctlr = bits n 3 3;
      tcr = 0;
      ttbr0 = 0;
      ttbr1_el1 = 0;
      scr_el3 = bits n 2 2;
      hcr_el2 = bits n 1 1 * 2 ^ 27 + bits n 0 0 * 2 ^ 12;
    }

abbrev pub sixteen : List ℕ
sixteen = 0 ∷ 1 ∷ 2 ∷ 3 ∷ 4 ∷ 5 ∷ 6 ∷ 7 ∷ 8 ∷ 9 ∷ 10 ∷ 11 ∷ 12 ∷ 13 ∷ 14 ∷ 15 ∷ []

-- control registers that all differ: level 0 of an array is never read
abbrev pub distinct : Control
distinct =
    record {
      sctlr = 0x10 ∷ 0x11 ∷ 0x12 ∷ 0x13 ∷ [];
      tcr = 0x20 ∷ 0x21 ∷ 0x22 ∷ 0x23 ∷ [];
      ttbr0 = 0x30 ∷ 0x31 ∷ 0x32 ∷ 0x33 ∷ [];
      ttbr1_el1 = 0x41;
      scr_el3 = 0x53;
      hcr_el2 = 0x62;
    }

-- SCTLR, TCR, TTBR0, TTBR1_EL1, SCR_EL3, HCR_EL2
abbrev pub six : Bank → List ℕ
six s = s.sctlr ∷ s.tcr ∷ s.ttbr0 ∷ s.ttbr1_el1 ∷ s.scr_el3 ∷ s.hcr_el2 ∷ []

-- the permission byte of a descriptor below tables that forbid nothing, in EL1&0 or a regime of one level, with WXN or not
abbrev pub byte_of : Bool → Bool → ℕ → ℕ
byte_of singlepriv wxn desc =
    permission_byte singlepriv wxn
    (leaf_permissions (record { largegrain = false; outputsize = 44; singlepriv = singlepriv; wxn = wxn }) (first_lookup (sized false 25)) desc)

-- TCR of 0, TBI0, TBI1 and TBI
abbrev pub tags : List ℕ
tags = 0 ∷ 0x20_0000_0000 ∷ 0x40_0000_0000 ∷ 0x10_0000 ∷ []

-- a fact of every two addresses of one page, under each TCR and regime
abbrev pub EachFlatPage : (ℕ → Regime → ℕ → ℕ → Type 0) → Type 0
EachFlatPage P = (tcr : ℕ) (r : Regime) (va vb : ℕ) → va < 2 ^ 64 → vb < 2 ^ 64 → va / 2 ^ 12 ≡ vb / 2 ^ 12 → P tcr r va vb
