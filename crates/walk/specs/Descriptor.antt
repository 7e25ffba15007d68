-- A VMSAv8-64 stage 1 descriptor by the manual's field names: DDI 0487, ARMv8.0. Written from knowledge of it; the document itself was not at hand.
-- `theorems::places_in_descriptors` has the bits of each field. Not read: NSTable, bit 63 (M1, A6, M17), and the contiguous bit, 52 (O4): rows
-- of docs/DIFFERENCES.md.
use Rattle.std.specs.Prelude.{Bool, ℕ}
use Rattle.word.specs.Bits.{bit_on, bit0, field}

-- desc<0>: valid. desc<1>: a table above level 3, a page at level 3; a block where it is clear
abbrev pub valid : ℕ → Bool
valid desc = bit0 desc

abbrev pub table_or_page : ℕ → Bool
table_or_page desc = bit_on desc 1

-- lower attributes of a block or page
abbrev pub attr_indx : ℕ → ℕ
attr_indx desc = field desc 2 3

abbrev pub ns : ℕ → Bool
ns desc = bit_on desc 5

abbrev pub ap1 : ℕ → Bool
ap1 desc = bit_on desc 6

abbrev pub ap2 : ℕ → Bool
ap2 desc = bit_on desc 7

abbrev pub sh : ℕ → ℕ
sh desc = field desc 8 2

abbrev pub af : ℕ → Bool
af desc = bit_on desc 10

abbrev pub not_global : ℕ → Bool
not_global desc = bit_on desc 11

-- upper attributes of a block or page; UXN is XN in a regime of one privilege level
abbrev pub pxn : ℕ → Bool
pxn desc = bit_on desc 53

abbrev pub uxn : ℕ → Bool
uxn desc = bit_on desc 54

-- attributes of a table
abbrev pub pxn_table : ℕ → Bool
pxn_table desc = bit_on desc 59

abbrev pub uxn_table : ℕ → Bool
uxn_table desc = bit_on desc 60

abbrev pub ap_table0 : ℕ → Bool
ap_table0 desc = bit_on desc 61

abbrev pub ap_table1 : ℕ → Bool
ap_table1 desc = bit_on desc 62
