-- AT, DC, IC and TLBI by their names here, as the manual's names of crates/system/specs.
use Rattle.std.specs.Prelude.{if◌then◌else◌, Bool, true, false, ◌&&◌, List, [], ◌∷◌, ℕ, ◌==◌}
use Rattle.system.specs.Decode.{Name, TLBI, named}
use Rattle.system.specs.Decode.{AT-S1E1R, AT-S1E1W, AT-S1E0R, AT-S1E0W, AT-S1E2R, AT-S1E2W, AT-S12E1R, AT-S12E1W, AT-S12E0R, AT-S12E0W, AT-S1E3R, AT-S1E3W}
use Rattle.system.specs.Decode.{DC-ZVA, DC-CVAC, DC-CVAU, DC-CIVAC, DC-IVAC, DC-ISW, DC-CSW, DC-CISW, IC-IVAU, IC-IALLU, IC-IALLUIS}
use Rattle.system.specs.Tlbi.{TlbiForm, Instruction, instruction_at, instructions}
use Rattle.system.specs.Tlbi.{VMALLE1, VAE1, ASIDE1, VAAE1, VALE1, VAALE1, ALLE2, VAE2, ALLE1, VALE2, VMALLS12E1, ALLE3, VAE3, VALE3, IPAS2E1, IPAS2LE1}
use Rattle.manual_words.specs.declared.encoding.Fields.{Fields}
use Rattle.manual_words.specs.declared.{operation.At.At, operation.Cache.Cache, operation.Tlbi.Tlbi, operation.Operation.Operation}
use Rattle.manual_words.specs.declared.operation.At.TheVariants.{S1e1r, S1e1w, S1e0r, S1e0w, S1e2r, S1e2w, S12e1r, S12e1w, S12e0r, S12e0w, S1e3r, S1e3w}
use Rattle.manual_words.specs.declared.operation.Cache.TheVariants.{Zva, Cvac, Cvau, Civac, Ivac, Isw, Csw, Cisw, Ivau, Iallu, Ialluis}
use Rattle.manual_words.specs.declared.operation.Tlbi.TheVariants.{Vmalle1, Vmalle1is, Vae1, Vae1is, Aside1, Aside1is, Vaae1, Vaae1is, Vale1, Vale1is, Vaale1, Vaale1is}
use Rattle.manual_words.specs.declared.operation.Tlbi.TheVariants.{Alle2, Alle2is, Vae2, Vae2is, Alle1, Alle1is, Vale2, Vale2is, Vmalls12e1, Vmalls12e1is, Alle3, Alle3is}
use Rattle.manual_words.specs.declared.operation.Tlbi.TheVariants.{Vae3, Vae3is, Vale3, Vale3is, Ipas2e1, Ipas2e1is, Ipas2le1, Ipas2le1is}

abbrev pub at_name : At → Name
at_name S1e1r = AT-S1E1R
at_name S1e1w = AT-S1E1W
at_name S1e0r = AT-S1E0R
at_name S1e0w = AT-S1E0W
at_name S1e2r = AT-S1E2R
at_name S1e2w = AT-S1E2W
at_name S12e1r = AT-S12E1R
at_name S12e1w = AT-S12E1W
at_name S12e0r = AT-S12E0R
at_name S12e0w = AT-S12E0W
at_name S1e3r = AT-S1E3R
at_name S1e3w = AT-S1E3W

abbrev pub cache_name : Cache → Name
cache_name Zva = DC-ZVA
cache_name Cvac = DC-CVAC
cache_name Cvau = DC-CVAU
cache_name Civac = DC-CIVAC
cache_name Ivac = DC-IVAC
cache_name Isw = DC-ISW
cache_name Csw = DC-CSW
cache_name Cisw = DC-CISW
cache_name Ivau = IC-IVAU
cache_name Iallu = IC-IALLU
cache_name Ialluis = IC-IALLUIS

abbrev pub name_of : Operation → Name
name_of (Operation.At a) = at_name a
name_of (Operation.Cache c) = cache_name c
name_of (Operation.Tlbi t) = TLBI

abbrev pub instruction_of : Tlbi → Instruction
instruction_of Vmalle1 = VMALLE1
instruction_of Vmalle1is = VMALLE1
instruction_of Vae1 = VAE1
instruction_of Vae1is = VAE1
instruction_of Aside1 = ASIDE1
instruction_of Aside1is = ASIDE1
instruction_of Vaae1 = VAAE1
instruction_of Vaae1is = VAAE1
instruction_of Vale1 = VALE1
instruction_of Vale1is = VALE1
instruction_of Vaale1 = VAALE1
instruction_of Vaale1is = VAALE1
instruction_of Alle2 = ALLE2
instruction_of Alle2is = ALLE2
instruction_of Vae2 = VAE2
instruction_of Vae2is = VAE2
instruction_of Alle1 = ALLE1
instruction_of Alle1is = ALLE1
instruction_of Vale2 = VALE2
instruction_of Vale2is = VALE2
instruction_of Vmalls12e1 = VMALLS12E1
instruction_of Vmalls12e1is = VMALLS12E1
instruction_of Alle3 = ALLE3
instruction_of Alle3is = ALLE3
instruction_of Vae3 = VAE3
instruction_of Vae3is = VAE3
instruction_of Vale3 = VALE3
instruction_of Vale3is = VALE3
instruction_of Ipas2e1 = IPAS2E1
instruction_of Ipas2e1is = IPAS2E1
instruction_of Ipas2le1 = IPAS2LE1
instruction_of Ipas2le1is = IPAS2LE1

-- those whose name ends in IS
abbrev pub is_shareable : Tlbi → Bool
is_shareable Vmalle1 = false
is_shareable Vmalle1is = true
is_shareable Vae1 = false
is_shareable Vae1is = true
is_shareable Aside1 = false
is_shareable Aside1is = true
is_shareable Vaae1 = false
is_shareable Vaae1is = true
is_shareable Vale1 = false
is_shareable Vale1is = true
is_shareable Vaale1 = false
is_shareable Vaale1is = true
is_shareable Alle2 = false
is_shareable Alle2is = true
is_shareable Vae2 = false
is_shareable Vae2is = true
is_shareable Alle1 = false
is_shareable Alle1is = true
is_shareable Vale2 = false
is_shareable Vale2is = true
is_shareable Vmalls12e1 = false
is_shareable Vmalls12e1is = true
is_shareable Alle3 = false
is_shareable Alle3is = true
is_shareable Vae3 = false
is_shareable Vae3is = true
is_shareable Vale3 = false
is_shareable Vale3is = true
is_shareable Ipas2e1 = false
is_shareable Ipas2e1is = true
is_shareable Ipas2le1 = false
is_shareable Ipas2le1is = true

-- whether the form of an encoding is Inner Shareable
abbrev pub shareable_at : List TlbiForm → ℕ → ℕ → ℕ → Bool
shareable_at [] op1 crm op2 = false
shareable_at (r ∷ rs) op1 crm op2 =
    if op1 == r.op1 && (crm == r.crm && op2 == r.op2) then r.shareable else shareable_at rs op1 crm op2

-- WHAT IS FOUND IN THE TABLES OF crates/system BY AN ENCODING'S FIELDS

abbrev pub name_at : Fields → Name
name_at f = (named f.op1 f.crn f.crm f.op2).name

abbrev pub tlbi_at : Fields → Instruction
tlbi_at f = instruction_at instructions f.op1 f.crm f.op2

abbrev pub reaches : Fields → Bool
reaches f = shareable_at instructions f.op1 f.crm f.op2
