-- The VMSAv8-64 stage 1 translation table walk: DDI 0487, AArch64.TranslationTableWalk of ARMv8.0, with its variables' names. Written from
-- knowledge of that pseudocode; the document itself was not at hand. x<hi:lo> is `field x lo (hi + 1 - lo)`.
-- Where the pseudocode has something else, a comment names the row of docs/DIFFERENCES.md. Left out of it are: ns_table, and with it what it does to
-- nG (M1), to the NS of the output (A6, M17) and to that of the descriptors' addresses (M17); reversedescriptors (A10); stage 2 of a descriptor's address (M3);
-- the contiguous bit (O4); a memory type (D3, D4, O7). What it leaves open is settled by B1, O1, O2 and O3.
use Rattle.std.specs.Prelude.{if◌then◌else◌, Bool, true, false, not, ◌&&◌, ◌||◌, ℕ, zero, suc, ◌+◌, ◌-◌, ◌*◌, ◌/◌, ◌%◌, ◌^◌, min, max, eqb, ltb}
use Rattle.std.specs.Prelude.{Option, Some, None}
use Rattle.word.specs.Bits.{bit_on, field, align_down}
use Rattle.sysreg.specs.Shape.{t0sz, epd0, tg0, t1sz, epd1, tg1, ips, ps}
use Rattle.walk.specs.Descriptor.{valid, table_or_page, ap1, ap2, af, not_global, pxn, uxn, pxn_table, uxn_table, ap_table0, ap_table1}
use Rattle.walk.specs.Permission.{under_ap_table, under_xn_table}
use Rattle.walk.specs.Regime.{wxn_of, pa_size}
use Rattle.sysreg.specs.Regs.{single_priv}
use Rattle.walk.specs.declared.{regime.Bank.Bank, range.Range.Range, rights.Permissions.Permissions, level.Params.Params}
use Rattle.sysreg.specs.declared.regs.Regime.{Regime}
use Rattle.sysreg.specs.declared.regs.Regime.TheVariants.{El1, El2, El3}

-- how a walk ends short of a leaf, with the level
pub data Fault : Type 0 where
  address_size translation access_flag external_abort : ℕ → Fault

-- the fault's status code
abbrev pub status_of : Fault → ℕ
status_of (address_size level) = level
status_of (translation level) = 4 + level
status_of (access_flag level) = 8 + level
status_of (external_abort level) = 20 + level

-- what a walk finds: the output address, the permission attributes as the tables above leave them, the rest as the descriptor has it.
-- A6, M17: NS would be NS OR ns_table, and choose one of two physical address spaces. D3, D4, O7: no memory type is made of AttrIndx
pub record Translation : Type 0 where
  pub address : ℕ
  pub level : ℕ
  pub perms : Permissions
  pub not_global : Bool
  pub descriptor : ℕ

pub data Result : Type 0 where
  mapped : Translation → Result
  faults : Fault → Result

-- the translation granule, 64 KiB or 4 KiB (an A72 has no 16 KiB): log2 of its bytes, the address bits that a table resolves, the first level
-- that may hold blocks
abbrev pub grainsize : Bool → ℕ
grainsize largegrain = if largegrain then 16 else 12

abbrev pub stride : Bool → ℕ
stride largegrain = grainsize largegrain - 3

abbrev pub firstblocklevel : Bool → ℕ
firstblocklevel largegrain = if largegrain then 2 else 1

-- how many levels a granule has at most
abbrev pub levels_of : Bool → ℕ
levels_of largegrain = if largegrain then 3 else 4

-- the range of an address: TTBR0 and TTBR1, T0SZ and T1SZ, EPD0 and EPD1, IPS in EL1&0, by va<55>; TTBR0, T0SZ, PS in EL2 and EL3.
-- TG0 of '01' and TG1 of '11' are 64 KiB. O1: every other code counts as 4 KiB, one that the A72 lacks too
abbrev pub lower_range : Bank → Range
lower_range s =
    record {
      largegrain = eqb (tg0 s.tcr) 0b01;
      baseregister = s.ttbr0;
      txsz = t0sz s.tcr;
      disabled = epd0 s.tcr;
      ps = ips s.tcr;
      upper = false;
    }

abbrev pub upper_range : Bank → Range
upper_range s =
    record {
      largegrain = eqb (tg1 s.tcr) 0b11;
      baseregister = s.ttbr1_el1;
      txsz = t1sz s.tcr;
      disabled = epd1 s.tcr;
      ps = ips s.tcr;
      upper = true;
    }

abbrev pub only_range : Bank → Range
only_range s = record (lower_range s) { disabled = false; ps = ps s.tcr }

unfoldable pub range_of : Bank → Regime → ℕ → Range
range_of s El1 va = if bit_on va 55 then upper_range s else lower_range s
range_of s El2 va = only_range s
range_of s El3 va = only_range s

-- 64 - TxSZ. B1: TxSZ is held to 16..39; beyond, a level 0 translation fault is allowed too
abbrev pub inputsize : Range → ℕ
inputsize g = 64 - max 16 (min 39 g.txsz)

-- basefound: va<top:inputsize> is all ones in an upper range, and zero in a lower one. The address is untagged, so top is 63 (Regime.antt)
abbrev pub in_range : Range → ℕ → Bool
in_range g va = eqb (va / 2 ^ inputsize g) (if g.upper then 2 ^ (64 - inputsize g) - 1 else 0)

-- 4 - RoundUp((inputsize - grainsize) / stride)
abbrev pub startlevel_of : Bool → ℕ → ℕ
startlevel_of largegrain inputbits = 4 - (inputbits - grainsize largegrain + (stride largegrain - 1)) / stride largegrain

abbrev pub startlevel : Range → ℕ
startlevel g = startlevel_of g.largegrain (inputsize g)

-- the lowest address bit that indexes a table of the level
abbrev pub addrselectbottom : Bool → ℕ → ℕ
addrselectbottom largegrain level = (3 - level) * stride largegrain + grainsize largegrain

-- log2 of the first table's bytes
abbrev pub baselowerbound : Range → ℕ
baselowerbound g = 3 + inputsize g - addrselectbottom g.largegrain (startlevel g)

-- x<47:n> is not zero: an address beyond n bits. Bits 63:48 of a base or descriptor are no part of an address
abbrev pub beyond : ℕ → ℕ → Bool
beyond n x = not (eqb (field x n (48 - n)) 0)

-- what a regime's registers say of every level. IPS and PS have three bits
unfoldable pub params_of : Bank → Regime → Range → Params
params_of s r g =
    record { largegrain = g.largegrain; outputsize = pa_size (g.ps % 2 ^ 3); singlepriv = single_priv r; wxn = wxn_of s }

-- a table: its level and base, the bit above those that index it, and what the tables above forbid: ap_table, xn_table and pxn_table.
-- M1, A6, M17: ns_table would stand here too
pub record Lookup : Type 0 where
  pub level : ℕ
  pub baseaddress : ℕ
  pub top : ℕ
  pub ap_table1 : Bool
  pub ap_table0 : Bool
  pub xn_table : Bool
  pub pxn_table : Bool

-- baseregister<47:baselowerbound> : Zeros(baselowerbound); nothing is forbidden yet. O3: what the base has below that bound is taken as zero
abbrev pub first_lookup : Range → Lookup
first_lookup g =
    record {
      level = startlevel g;
      baseaddress = align_down (g.baseregister % 2 ^ 48) (baselowerbound g);
      top = inputsize g;
      ap_table1 = false;
      ap_table0 = false;
      xn_table = false;
      pxn_table = false;
    }

-- what a descriptor leads to
pub data Next : Type 0 where
  deeper : Lookup → Next
  ends : Result → Next

-- a table descriptor: desc<47:grainsize>. APTable<1> and XNTable accumulate; APTable<0> and PXNTable too where there are two privilege levels.
-- M1, A6, M17: NSTable, desc<63>, would accumulate too
unfoldable pub table_next : Params → Lookup → ℕ → Next
table_next p l desc =
    if beyond p.outputsize desc then ends (faults (address_size l.level))
    else deeper
    record {
      level = l.level + 1;
      baseaddress = align_down (desc % 2 ^ 48) (grainsize p.largegrain);
      top = addrselectbottom p.largegrain l.level;
      ap_table1 = l.ap_table1 || ap_table1 desc;
      ap_table0 = l.ap_table0 || (not p.singlepriv && ap_table0 desc);
      xn_table = l.xn_table || uxn_table desc;
      pxn_table = l.pxn_table || (not p.singlepriv && pxn_table desc);
    }

-- desc<47:addrselectbottom> : va<addrselectbottom-1:0>
abbrev pub outputaddress : ℕ → ℕ → ℕ → ℕ
outputaddress bottom va desc = align_down (desc % 2 ^ 48) bottom + va % 2 ^ bottom

-- a leaf's permission attributes under those of the tables above, with two privilege levels
abbrev pub permissions_two : Lookup → ℕ → Permissions
permissions_two l desc =
    record {
      ap2 = (under_ap_table l.ap_table1 l.ap_table0 (ap2 desc) (ap1 desc)).0;
      ap1 = (under_ap_table l.ap_table1 l.ap_table0 (ap2 desc) (ap1 desc)).1;
      xn = under_xn_table l.xn_table (uxn desc);
      pxn = under_xn_table l.pxn_table (pxn desc);
    }

-- and with one, where AP[1] is one, PXN is zero, and APTable[0] and PXNTable have no effect
abbrev pub permissions_one : Lookup → ℕ → Permissions
permissions_one l desc =
    record {
      ap2 = (under_ap_table l.ap_table1 false (ap2 desc) true).0;
      ap1 = true;
      xn = under_xn_table l.xn_table (uxn desc);
      pxn = false;
    }

unfoldable pub leaf_permissions : Params → Lookup → ℕ → Permissions
leaf_permissions p l desc = if p.singlepriv then permissions_one l desc else permissions_two l desc

-- with one privilege level nG is zero. M1: in Secure EL1&0 nG would be nG OR ns_table
unfoldable pub leaf_translation : Params → ℕ → Lookup → ℕ → Translation
leaf_translation p va l desc =
    record {
      address = outputaddress (addrselectbottom p.largegrain l.level) va desc;
      level = l.level;
      perms = leaf_permissions p l desc;
      not_global = not p.singlepriv && not_global desc;
      descriptor = desc;
    }

-- a block or page: its level, then its output size, then its access flag. O4: between the first two the contiguous bit may be checked
unfoldable pub leaf_result : Params → ℕ → Lookup → ℕ → Result
leaf_result p va l desc =
    if ltb l.level (firstblocklevel p.largegrain) then faults (translation l.level)
    else if beyond p.outputsize desc then faults (address_size l.level)
    else if af desc then mapped (leaf_translation p va l desc)
    else faults (access_flag l.level)

-- '00', '10' and, at level 3, '01' are faults; '01' is a block, '11' a page at level 3 and a table above
unfoldable pub level_next : Params → ℕ → Lookup → ℕ → Next
level_next p va l desc =
    if not (valid desc) || (eqb l.level 3 && not (table_or_page desc)) then ends (faults (translation l.level))
    else if eqb l.level 3 || not (table_or_page desc) then ends (leaf_result p va l desc)
    else table_next p l desc

-- baseaddress, and in place of its low bits the index va<top-1:addrselectbottom> : '000'
unfoldable pub descaddr : Params → ℕ → Lookup → ℕ
descaddr p va l =
    l.baseaddress
    + field va (addrselectbottom p.largegrain l.level) (l.top - addrselectbottom p.largegrain l.level) * 8

abbrev pub on_word : Option ℕ → (ℕ → Next) → Next → Next
on_word (Some desc) k none = k desc
on_word None k none = none

-- one level: the descriptor is fetched from memory, a function from an address to the 64-bit word there, and read.
-- M3: in Non-secure EL1&0 its address would go through stage 2. M17: the address would be of one of two spaces, by ns_table.
-- A10: by SCTLR_ELx.EE the descriptor would be BigEndianReverse of that word
unfoldable pub lookup_next : (ℕ → Option ℕ) → Params → ℕ → Lookup → Next
lookup_next memory p va l = on_word (memory (descaddr p va l)) (level_next p va l) (ends (faults (external_abort l.level)))

abbrev pub on_next : Next → (Lookup → Result) → Result
on_next (deeper l) k = k l
on_next (ends r) k = r

-- the walk with n levels to go; none is left below level 3, where no descriptor is a table
unfoldable pub walk_from : ℕ → (ℕ → Option ℕ) → Params → ℕ → Lookup → Result
walk_from zero memory p va l = faults (translation 3)
walk_from (suc n) memory p va l = on_next (lookup_next memory p va l) (walk_from n memory p va)

-- the walk's entry, in the order of docs/SCOPE.md's table: out of range, or EPD set; then a base beyond the output size; then the walk
abbrev pub entered : {A : Type 0} → ℕ → Range → ℕ → (Fault → A) → A → A
entered outputsize g va fault walk =
    if not (in_range g va) || g.disabled then fault (translation 0)
    else if beyond outputsize g.baseregister then fault (address_size 0)
    else walk

-- the walk of an untagged address in its range
unfoldable pub walk_range : Params → Range → ℕ → (ℕ → Option ℕ) → Result
walk_range p g va memory = entered p.outputsize g va faults (walk_from (4 - startlevel g) memory p va (first_lookup g))

unfoldable pub table_walk : Bank → Regime → ℕ → (ℕ → Option ℕ) → Result
table_walk s r va memory = walk_range (params_of s r (range_of s r va)) (range_of s r va) va memory
