-- Where each part of a core stands among the words of a saved core, as `saved::place` has it. A place never moves: new words are appended.
use Rattle.std.specs.Prelude.{ℕ}

-- how many words a saved core has
abbrev pub WORDS : ℕ
WORDS = 5213

abbrev pub SCTLR : ℕ
SCTLR = 0

abbrev pub TCR : ℕ
TCR = 3

abbrev pub TTBR0 : ℕ
TTBR0 = 6

abbrev pub TTBR1-EL1 : ℕ
TTBR1-EL1 = 9

abbrev pub MAIR : ℕ
MAIR = 10

abbrev pub VBAR : ℕ
VBAR = 13

abbrev pub ELR : ℕ
ELR = 16

abbrev pub SPSR : ℕ
SPSR = 19

abbrev pub ESR : ℕ
ESR = 22

abbrev pub FAR : ℕ
FAR = 25

abbrev pub SCR-EL3 : ℕ
SCR-EL3 = 28

abbrev pub HCR-EL2 : ℕ
HCR-EL2 = 29

abbrev pub VPIDR-EL2 : ℕ
VPIDR-EL2 = 30

abbrev pub VMPIDR-EL2 : ℕ
VMPIDR-EL2 = 31

abbrev pub PAR-EL1 : ℕ
PAR-EL1 = 32

abbrev pub PC : ℕ
PC = 33

abbrev pub NZCV : ℕ
NZCV = 34

abbrev pub DAIF : ℕ
DAIF = 35

abbrev pub SPSEL : ℕ
SPSEL = 36

abbrev pub GENERAL : ℕ
GENERAL = 37

abbrev pub LEVEL : ℕ
LEVEL = 68

abbrev pub UNPRIVILEGED : ℕ
UNPRIVILEGED = 69

-- words 70 and 71 hold nothing
abbrev pub FLUSHES : ℕ
FLUSHES = 72

abbrev pub DROPS : ℕ
DROPS = 73

abbrev pub EPOCH : ℕ
EPOCH = 74

abbrev pub PENDING : ℕ
PENDING = 75

abbrev pub PENDING-VALUE : ℕ
PENDING-VALUE = 76

abbrev pub LAST-PA : ℕ
LAST-PA = 77

abbrev pub ABORT-PA : ℕ
ABORT-PA = 78

abbrev pub GENERATION : ℕ
GENERATION = 79

abbrev pub ASID : ℕ
ASID = 80

abbrev pub FETCH : ℕ
FETCH = 81

abbrev pub FETCH-PAGE : ℕ
FETCH-PAGE = 82

abbrev pub FETCH-LEVEL : ℕ
FETCH-LEVEL = 83

abbrev pub FETCH-PA : ℕ
FETCH-PA = 84

abbrev pub HINTS : ℕ
HINTS = 85

abbrev pub HINT-PA : ℕ
HINT-PA = 86

abbrev pub ENTRIES : ℕ
ENTRIES = 1109

abbrev pub ENTRY-GENERATION : ℕ
ENTRY-GENERATION = 1110

abbrev pub ENTRY-ATTRIBUTES : ℕ
ENTRY-ATTRIBUTES = 1111

abbrev pub ENTRY-PA : ℕ
ENTRY-PA = 1112

-- hits by level, EL0 to EL3; then walks
abbrev pub LEVEL-HITS : ℕ
LEVEL-HITS = 5205

abbrev pub LEVEL-WALKS : ℕ
LEVEL-WALKS = 5209
