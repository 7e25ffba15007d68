-- Stage 1 access permissions as the manual's tables: DDI 0487, memory access control, ARMv8.0. Written from knowledge of them; the document itself
-- was not at hand. Letters with a number are rows of docs/DIFFERENCES.md. `theorems::permissions_by_expressions` says the tables equal to the
-- expressions of AArch64.CheckPermission and AArch64.TranslationTableWalk. Of those are left out: SCR_EL3.SIF (M2); alignment and Device memory (A13,
-- D3, D4, O7).
use Rattle.std.specs.Prelude.{Bool, true, false, ℕ, ◌+◌, ◌*◌}
use Rattle.word.specs.Bits.{flag}
use Rattle.walk.specs.declared.rights.Permissions.{Permissions}

pub data Access : Type 0 where
  reading writing fetching : Access

pub data DataAccess : Type 0 where
  none read_only read_write : DataAccess

-- AP[2], AP[1] in the EL1&0 regime: data accesses from EL1, and from EL0
abbrev pub data_access : Bool → Bool → DataAccess × DataAccess
data_access false false = (read_write, none)
data_access false true = (read_write, read_write)
data_access true false = (read_only, none)
data_access true true = (read_only, read_only)

-- AP[2] in the EL2 and EL3 regimes
abbrev pub data_access_only : Bool → DataAccess
data_access_only false = read_write
data_access_only true = read_only

-- PXN, AP[2], AP[1], WXN: may EL1 execute? Not under PXN, not what EL0 may write, and under WXN not what EL1 may write
abbrev pub execute_el1 : Bool → Bool → Bool → Bool → Bool
execute_el1 true ap2 ap1 wxn = false
execute_el1 false false true wxn = false
execute_el1 false false false false = true
execute_el1 false false false true = false
execute_el1 false true ap1 wxn = true

-- UXN, AP[2], AP[1], WXN: may EL0 execute? Not under UXN, and under WXN not what EL0 may write. What it may not read it may execute
abbrev pub execute_el0 : Bool → Bool → Bool → Bool → Bool
execute_el0 true ap2 ap1 wxn = false
execute_el0 false false false wxn = true
execute_el0 false false true false = true
execute_el0 false false true true = false
execute_el0 false true ap1 wxn = true

-- XN, AP[2], WXN: may EL2, or EL3, execute?
abbrev pub execute_only : Bool → Bool → Bool → Bool
execute_only true ap2 wxn = false
execute_only false false false = true
execute_only false false true = false
execute_only false true wxn = true

-- Hierarchical control. APTable[1], APTable[0] of the tables above, and what they leave of a leaf's AP[2], AP[1]: no effect; no access from EL0;
-- read-only; both
abbrev pub under_ap_table : Bool → Bool → Bool → Bool → Bool × Bool
under_ap_table false false ap2 ap1 = (ap2, ap1)
under_ap_table false true ap2 ap1 = (ap2, false)
under_ap_table true false ap2 ap1 = (true, ap1)
under_ap_table true true ap2 ap1 = (true, false)

-- UXNTable (XNTable) over UXN (XN), PXNTable over PXN: no effect; never executed
abbrev pub under_xn_table : Bool → Bool → Bool
under_xn_table false xn = xn
under_xn_table true xn = true

-- what one privilege level may do
pub record Rights : Type 0 where
  pub r : Bool
  pub w : Bool
  pub x : Bool

abbrev pub reads : DataAccess → Bool
reads none = false
reads d = true

abbrev pub writes : DataAccess → Bool
writes read_write = true
writes d = false

abbrev pub rights : DataAccess → Bool → Rights
rights d x = record { r = reads d; w = writes d; x = x }

-- singlepriv, whether the access is privileged, and WXN. A regime of one privilege level has no EL0.
-- M2: in Secure state SCR_EL3.SIF would forbid fetches from a page with NS set, whatever its x
abbrev pub rights_of : Bool → Bool → Bool → Permissions → Rights
rights_of true true wxn t = rights (data_access_only t.ap2) (execute_only t.xn t.ap2 wxn)
rights_of true false wxn t = rights none false
rights_of false true wxn t = rights (data_access t.ap2 t.ap1).0 (execute_el1 t.pxn t.ap2 t.ap1 wxn)
rights_of false false wxn t = rights (data_access t.ap2 t.ap1).1 (execute_el0 t.xn t.ap2 t.ap1 wxn)

abbrev pub grants : Rights → Access → Bool
grants g reading = g.r
grants g writing = g.w
grants g fetching = g.x

-- the permission check
abbrev pub allowed : Bool → Bool → Bool → Permissions → Access → Bool
allowed singlepriv ispriv wxn t a = grants (rights_of singlepriv ispriv wxn t) a

-- read 1, write 2, fetch 4
abbrev pub access_bits : Rights → ℕ
access_bits g = flag (grants g reading) 1 + flag (grants g writing) 2 + flag (grants g fetching) 4

-- the permission byte: EL0's rights, and the privileged ones three bits higher
abbrev pub permission_byte : Bool → Bool → Permissions → ℕ
permission_byte singlepriv wxn t =
    access_bits (rights_of singlepriv false wxn t) + access_bits (rights_of singlepriv true wxn t) * 8

-- the bit of an access: EL0's from 0, the privileged ones from 3
abbrev pub kind_bit : Access → ℕ
kind_bit reading = 0
kind_bit writing = 1
kind_bit fetching = 2

abbrev pub first_bit : Bool → ℕ
first_bit true = 3
first_bit false = 0

-- AArch64.CheckPermission: r, w, and xn negated
abbrev pub made : Bool → Bool → Bool → Rights
made r w x = record { r = r; w = w; x = x }

-- AP<2>, AP<1>, xn and pxn as AArch64.TranslationTableWalk's last lines leave them
abbrev pub attributes : Bool → Bool → Bool → Bool → Permissions
attributes a2 a1 x p = record { ap2 = a2; ap1 = a1; xn = x; pxn = p }
