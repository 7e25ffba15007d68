-- What the tables of crates/system have at the encoding of each operation: its own name.
use Rattle.std.proofs.Common.{◌≡◌, refl}
use Rattle.system.specs.Decode as Decode
use Rattle.manual_words.specs.Encodings.{fields_of, tlbi_fields}
use Rattle.manual_words.specs.Operations.{instruction_of, is_shareable, name_at, name_of, reaches, tlbi_at}
use Rattle.manual_words.specs.declared.{operation.Tlbi.Tlbi, operation.Operation.Operation}
use Rattle.manual_words.specs.declared.operation.At.TheVariants.{S1e1r, S1e1w, S1e0r, S1e0w, S1e2r, S1e2w, S12e1r, S12e1w, S12e0r, S12e0w, S1e3r, S1e3w}
use Rattle.manual_words.specs.declared.operation.Cache.TheVariants.{Zva, Cvac, Cvau, Civac, Ivac, Isw, Csw, Cisw, Ivau, Iallu, Ialluis}
use Rattle.manual_words.specs.declared.operation.Tlbi.TheVariants.{Vmalle1, Vmalle1is, Vae1, Vae1is, Aside1, Aside1is, Vaae1, Vaae1is, Vale1, Vale1is, Vaale1, Vaale1is}
use Rattle.manual_words.specs.declared.operation.Tlbi.TheVariants.{Alle2, Alle2is, Vae2, Vae2is, Alle1, Alle1is, Vale2, Vale2is, Vmalls12e1, Vmalls12e1is, Alle3, Alle3is}
use Rattle.manual_words.specs.declared.operation.Tlbi.TheVariants.{Vae3, Vae3is, Vale3, Vale3is, Ipas2e1, Ipas2e1is, Ipas2le1, Ipas2le1is}

pub own_name : (o : Operation) → name_at (fields_of o) ≡ name_of o
unfolding Decode.named
own_name (Operation.At S1e1r) = refl
own_name (Operation.At S1e1w) = refl
own_name (Operation.At S1e0r) = refl
own_name (Operation.At S1e0w) = refl
own_name (Operation.At S1e2r) = refl
own_name (Operation.At S1e2w) = refl
own_name (Operation.At S12e1r) = refl
own_name (Operation.At S12e1w) = refl
own_name (Operation.At S12e0r) = refl
own_name (Operation.At S12e0w) = refl
own_name (Operation.At S1e3r) = refl
own_name (Operation.At S1e3w) = refl
own_name (Operation.Cache Zva) = refl
own_name (Operation.Cache Cvac) = refl
own_name (Operation.Cache Cvau) = refl
own_name (Operation.Cache Civac) = refl
own_name (Operation.Cache Ivac) = refl
own_name (Operation.Cache Isw) = refl
own_name (Operation.Cache Csw) = refl
own_name (Operation.Cache Cisw) = refl
own_name (Operation.Cache Ivau) = refl
own_name (Operation.Cache Iallu) = refl
own_name (Operation.Cache Ialluis) = refl
own_name (Operation.Tlbi Vmalle1) = refl
own_name (Operation.Tlbi Vmalle1is) = refl
own_name (Operation.Tlbi Vae1) = refl
own_name (Operation.Tlbi Vae1is) = refl
own_name (Operation.Tlbi Aside1) = refl
own_name (Operation.Tlbi Aside1is) = refl
own_name (Operation.Tlbi Vaae1) = refl
own_name (Operation.Tlbi Vaae1is) = refl
own_name (Operation.Tlbi Vale1) = refl
own_name (Operation.Tlbi Vale1is) = refl
own_name (Operation.Tlbi Vaale1) = refl
own_name (Operation.Tlbi Vaale1is) = refl
own_name (Operation.Tlbi Alle2) = refl
own_name (Operation.Tlbi Alle2is) = refl
own_name (Operation.Tlbi Vae2) = refl
own_name (Operation.Tlbi Vae2is) = refl
own_name (Operation.Tlbi Alle1) = refl
own_name (Operation.Tlbi Alle1is) = refl
own_name (Operation.Tlbi Vale2) = refl
own_name (Operation.Tlbi Vale2is) = refl
own_name (Operation.Tlbi Vmalls12e1) = refl
own_name (Operation.Tlbi Vmalls12e1is) = refl
own_name (Operation.Tlbi Alle3) = refl
own_name (Operation.Tlbi Alle3is) = refl
own_name (Operation.Tlbi Vae3) = refl
own_name (Operation.Tlbi Vae3is) = refl
own_name (Operation.Tlbi Vale3) = refl
own_name (Operation.Tlbi Vale3is) = refl
own_name (Operation.Tlbi Ipas2e1) = refl
own_name (Operation.Tlbi Ipas2e1is) = refl
own_name (Operation.Tlbi Ipas2le1) = refl
own_name (Operation.Tlbi Ipas2le1is) = refl

pub own_instruction : (t : Tlbi) → tlbi_at (tlbi_fields t) ≡ instruction_of t
own_instruction Vmalle1 = refl
own_instruction Vmalle1is = refl
own_instruction Vae1 = refl
own_instruction Vae1is = refl
own_instruction Aside1 = refl
own_instruction Aside1is = refl
own_instruction Vaae1 = refl
own_instruction Vaae1is = refl
own_instruction Vale1 = refl
own_instruction Vale1is = refl
own_instruction Vaale1 = refl
own_instruction Vaale1is = refl
own_instruction Alle2 = refl
own_instruction Alle2is = refl
own_instruction Vae2 = refl
own_instruction Vae2is = refl
own_instruction Alle1 = refl
own_instruction Alle1is = refl
own_instruction Vale2 = refl
own_instruction Vale2is = refl
own_instruction Vmalls12e1 = refl
own_instruction Vmalls12e1is = refl
own_instruction Alle3 = refl
own_instruction Alle3is = refl
own_instruction Vae3 = refl
own_instruction Vae3is = refl
own_instruction Vale3 = refl
own_instruction Vale3is = refl
own_instruction Ipas2e1 = refl
own_instruction Ipas2e1is = refl
own_instruction Ipas2le1 = refl
own_instruction Ipas2le1is = refl

pub own_reach : (t : Tlbi) → reaches (tlbi_fields t) ≡ is_shareable t
own_reach Vmalle1 = refl
own_reach Vmalle1is = refl
own_reach Vae1 = refl
own_reach Vae1is = refl
own_reach Aside1 = refl
own_reach Aside1is = refl
own_reach Vaae1 = refl
own_reach Vaae1is = refl
own_reach Vale1 = refl
own_reach Vale1is = refl
own_reach Vaale1 = refl
own_reach Vaale1is = refl
own_reach Alle2 = refl
own_reach Alle2is = refl
own_reach Vae2 = refl
own_reach Vae2is = refl
own_reach Alle1 = refl
own_reach Alle1is = refl
own_reach Vale2 = refl
own_reach Vale2is = refl
own_reach Vmalls12e1 = refl
own_reach Vmalls12e1is = refl
own_reach Alle3 = refl
own_reach Alle3is = refl
own_reach Vae3 = refl
own_reach Vae3is = refl
own_reach Vale3 = refl
own_reach Vale3is = refl
own_reach Ipas2e1 = refl
own_reach Ipas2e1is = refl
own_reach Ipas2le1 = refl
own_reach Ipas2le1is = refl
