-- MAIR_ELx.Attr<n> and SH as the manual has them (DDI 0487, D17.2, from knowledge of ARMv8.0: the document itself was not at hand).
use Rattle.std.specs.Prelude.{if◌then◌else◌, ℕ, not, ◌==◌, ◌%◌, ◌*◌}
use Rattle.word.specs.Bits.{bit0, bit_on, field}
use Rattle.manual_words.specs.declared.{memory.Device.Device, memory.Cacheability.Cacheability, memory.Memory.Memory, memory.Shareability.Shareability}
use Rattle.manual_words.specs.declared.memory.Device.TheVariants.{NGnRnE, NGnRE, NGRE, GRE}
use Rattle.manual_words.specs.declared.memory.Cacheability.TheVariants.{NonCacheable, Cacheable}
use Rattle.manual_words.specs.declared.memory.Shareability.TheVariants.{NonShareable, Reserved, OuterShareable, InnerShareable}

-- 0b0000dd00: dd
abbrev pub device_of : ℕ → Device
device_of dd =
    if dd == 0b00 then NGnRnE
    else if dd == 0b01 then NGnRE
    else if dd == 0b10 then NGRE
    else GRE

-- 0b0100 is Non-cacheable. Else bit 2 is Write-Back, bit 3 Non-transient, bit 1 Read-Allocate and bit 0 Write-Allocate.
abbrev pub cacheability_of : ℕ → Cacheability
cacheability_of n =
    if n == 0b0100 then NonCacheable
    else Cacheable (bit_on n 2) (not (bit_on n 3)) (bit_on n 1) (bit0 n)

-- Attr<7:4> outer, Attr<3:0> inner; outer 0b0000 is Device memory
abbrev pub memory_of : ℕ → Memory
memory_of n =
    if field n 4 4 == 0 then (if field n 0 2 == 0 then Memory.Device (device_of (field n 2 2)) else Memory.Unpredictable)
    else (if field n 0 4 == 0 then Memory.Unpredictable else Memory.Normal (cacheability_of (field n 4 4)) (cacheability_of (field n 0 4)))

abbrev pub shareability_of : ℕ → Shareability
shareability_of n =
    if field n 0 2 == 0b00 then NonShareable
    else if field n 0 2 == 0b01 then Reserved
    else if field n 0 2 == 0b10 then OuterShareable
    else InnerShareable

-- Attr<n> of MAIR_ELx
abbrev pub attribute_at : ℕ → ℕ → ℕ
attribute_at mair n = field mair (n % 8 * 8) 8
