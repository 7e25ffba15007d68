-- op1, CRn, CRm and op2 of AT, DC, IC and TLBI by name (DDI 0487, C5.3 to C5.5, from knowledge of ARMv8.0: the document itself was not at hand).
use Rattle.std.specs.Prelude.{Bool, true, false, ℕ}
use Rattle.system.specs.declared.decode.Encoding.{Encoding}
use Rattle.manual_words.specs.declared.encoding.Fields.{Fields}
use Rattle.manual_words.specs.declared.{operation.At.At, operation.Cache.Cache, operation.Tlbi.Tlbi, operation.Operation.Operation}
use Rattle.manual_words.specs.declared.operation.At.TheVariants.{S1e1r, S1e1w, S1e0r, S1e0w, S1e2r, S1e2w, S12e1r, S12e1w, S12e0r, S12e0w, S1e3r, S1e3w}
use Rattle.manual_words.specs.declared.operation.Cache.TheVariants.{Zva, Cvac, Cvau, Civac, Ivac, Isw, Csw, Cisw, Ivau, Iallu, Ialluis}
use Rattle.manual_words.specs.declared.operation.Tlbi.TheVariants.{Vmalle1, Vmalle1is, Vae1, Vae1is, Aside1, Aside1is, Vaae1, Vaae1is, Vale1, Vale1is, Vaale1, Vaale1is}
use Rattle.manual_words.specs.declared.operation.Tlbi.TheVariants.{Alle2, Alle2is, Vae2, Vae2is, Alle1, Alle1is, Vale2, Vale2is, Vmalls12e1, Vmalls12e1is, Alle3, Alle3is}
use Rattle.manual_words.specs.declared.operation.Tlbi.TheVariants.{Vae3, Vae3is, Vale3, Vale3is, Ipas2e1, Ipas2e1is, Ipas2le1, Ipas2le1is}

abbrev coded : ℕ → ℕ → ℕ → ℕ → Fields
coded a b c d = record { op1 = a; crn = b; crm = c; op2 = d }

abbrev pub at_fields : At → Fields
at_fields S1e1r = coded 0 7 8 0
at_fields S1e1w = coded 0 7 8 1
at_fields S1e0r = coded 0 7 8 2
at_fields S1e0w = coded 0 7 8 3
at_fields S1e2r = coded 4 7 8 0
at_fields S1e2w = coded 4 7 8 1
at_fields S12e1r = coded 4 7 8 4
at_fields S12e1w = coded 4 7 8 5
at_fields S12e0r = coded 4 7 8 6
at_fields S12e0w = coded 4 7 8 7
at_fields S1e3r = coded 6 7 8 0
at_fields S1e3w = coded 6 7 8 1

abbrev pub cache_fields : Cache → Fields
cache_fields Zva = coded 3 7 4 1
cache_fields Cvac = coded 3 7 10 1
cache_fields Cvau = coded 3 7 11 1
cache_fields Civac = coded 3 7 14 1
cache_fields Ivac = coded 0 7 6 1
cache_fields Isw = coded 0 7 6 2
cache_fields Csw = coded 0 7 10 2
cache_fields Cisw = coded 0 7 14 2
cache_fields Ivau = coded 3 7 5 1
cache_fields Iallu = coded 0 7 5 0
cache_fields Ialluis = coded 0 7 1 0

abbrev pub tlbi_fields : Tlbi → Fields
tlbi_fields Vmalle1 = coded 0 8 7 0
tlbi_fields Vmalle1is = coded 0 8 3 0
tlbi_fields Vae1 = coded 0 8 7 1
tlbi_fields Vae1is = coded 0 8 3 1
tlbi_fields Aside1 = coded 0 8 7 2
tlbi_fields Aside1is = coded 0 8 3 2
tlbi_fields Vaae1 = coded 0 8 7 3
tlbi_fields Vaae1is = coded 0 8 3 3
tlbi_fields Vale1 = coded 0 8 7 5
tlbi_fields Vale1is = coded 0 8 3 5
tlbi_fields Vaale1 = coded 0 8 7 7
tlbi_fields Vaale1is = coded 0 8 3 7
tlbi_fields Alle2 = coded 4 8 7 0
tlbi_fields Alle2is = coded 4 8 3 0
tlbi_fields Vae2 = coded 4 8 7 1
tlbi_fields Vae2is = coded 4 8 3 1
tlbi_fields Alle1 = coded 4 8 7 4
tlbi_fields Alle1is = coded 4 8 3 4
tlbi_fields Vale2 = coded 4 8 7 5
tlbi_fields Vale2is = coded 4 8 3 5
tlbi_fields Vmalls12e1 = coded 4 8 7 6
tlbi_fields Vmalls12e1is = coded 4 8 3 6
tlbi_fields Alle3 = coded 6 8 7 0
tlbi_fields Alle3is = coded 6 8 3 0
tlbi_fields Vae3 = coded 6 8 7 1
tlbi_fields Vae3is = coded 6 8 3 1
tlbi_fields Vale3 = coded 6 8 7 5
tlbi_fields Vale3is = coded 6 8 3 5
tlbi_fields Ipas2e1 = coded 4 8 4 1
tlbi_fields Ipas2e1is = coded 4 8 0 1
tlbi_fields Ipas2le1 = coded 4 8 4 5
tlbi_fields Ipas2le1is = coded 4 8 0 5

-- those of an instruction
abbrev pub fields_in : Encoding → Fields
fields_in e = coded e.op1 e.crn e.crm e.op2

abbrev pub fields_of : Operation → Fields
fields_of (Operation.At a) = at_fields a
fields_of (Operation.Cache c) = cache_fields c
fields_of (Operation.Tlbi t) = tlbi_fields t

-- whether Xt says which entries: not where all of a regime or a stage go
abbrev pub tlbi_takes_register : Tlbi → Bool
tlbi_takes_register Vmalle1 = false
tlbi_takes_register Vmalle1is = false
tlbi_takes_register Vae1 = true
tlbi_takes_register Vae1is = true
tlbi_takes_register Aside1 = true
tlbi_takes_register Aside1is = true
tlbi_takes_register Vaae1 = true
tlbi_takes_register Vaae1is = true
tlbi_takes_register Vale1 = true
tlbi_takes_register Vale1is = true
tlbi_takes_register Vaale1 = true
tlbi_takes_register Vaale1is = true
tlbi_takes_register Alle2 = false
tlbi_takes_register Alle2is = false
tlbi_takes_register Vae2 = true
tlbi_takes_register Vae2is = true
tlbi_takes_register Alle1 = false
tlbi_takes_register Alle1is = false
tlbi_takes_register Vale2 = true
tlbi_takes_register Vale2is = true
tlbi_takes_register Vmalls12e1 = false
tlbi_takes_register Vmalls12e1is = false
tlbi_takes_register Alle3 = false
tlbi_takes_register Alle3is = false
tlbi_takes_register Vae3 = true
tlbi_takes_register Vae3is = true
tlbi_takes_register Vale3 = true
tlbi_takes_register Vale3is = true
tlbi_takes_register Ipas2e1 = true
tlbi_takes_register Ipas2e1is = true
tlbi_takes_register Ipas2le1 = true
tlbi_takes_register Ipas2le1is = true

abbrev pub cache_takes_register : Cache → Bool
cache_takes_register Zva = true
cache_takes_register Cvac = true
cache_takes_register Cvau = true
cache_takes_register Civac = true
cache_takes_register Ivac = true
cache_takes_register Isw = true
cache_takes_register Csw = true
cache_takes_register Cisw = true
cache_takes_register Ivau = true
cache_takes_register Iallu = false
cache_takes_register Ialluis = false

abbrev pub takes_register : Operation → Bool
takes_register (Operation.At a) = true
takes_register (Operation.Cache c) = cache_takes_register c
takes_register (Operation.Tlbi t) = tlbi_takes_register t
