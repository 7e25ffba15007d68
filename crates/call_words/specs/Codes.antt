-- The codes of the boundary, in numbers: the call and the exception that words name, and what is told of a reply.
use Rattle.std.specs.Prelude.{◌≡◌, ℕ, false, true, List, [], ◌∷◌, ◌++◌, Ok, Err}
use Rattle.fault.specs.First.{first}
use Rattle.word.specs.Ram.{bytes_of}
use Rattle.tlb.specs.declared.access.Kind.TheVariants.{Read, Write, Fetch}
use Rattle.exception.specs.Abort.{data_abort_at, insn_abort_at}
use Rattle.exception.specs.declared.{kind.Exception.Exception, kind.Stop.Stop}
use Rattle.cpu.specs.declared.{call.Call.Call, call.Reply.Reply}
use Rattle.call_words.specs.declared.{op.DecodedCall.DecodedCall, op.DecodedException.DecodedException}
use Rattle.walk.specs.declared.level.Leaf.{Leaf}
use Rattle.sysreg.specs.declared.regs.Regime.TheVariants.{El1, El2, El3}
use Rattle.sysreg.specs.Regs.{regime_at}
use Rattle.call_words.specs.Walk.{bank_at, leaf_after, code_of, words_of, walk_code, walk_words}
use Rattle.call_words.specs.Ops.{exception_of, call_of}
use Rattle.call_words.specs.Replies.{code_by, value_by, reads_by, words_by, step_words}

-- CALLS

abbrev pub Names : Call → List ℕ → Type 0
Names call words = call_of words ≡ DecodedCall.Known call

abbrev pub NamesNothing : List ℕ → Type 0
NamesNothing words = call_of words ≡ DecodedCall.Unknown

-- a code, the words that its call takes, and whatever the rest holds
pub record CallCodes (a b c d e : ℕ) (rest : List ℕ) : Type 0 where
  pub translate_read : Names (Call.Translate Read a) (1 ∷ 1 ∷ a ∷ rest)
  pub translate_write : Names (Call.Translate Write a) (1 ∷ 2 ∷ a ∷ rest)
  pub translate_fetch : Names (Call.Translate Fetch a) (1 ∷ 4 ∷ a ∷ rest)
  pub data_pa : Names (Call.DataPa a) (2 ∷ a ∷ rest)
  pub fetch_pa : Names (Call.FetchPa a) (3 ∷ a ∷ rest)
  pub load : Names (Call.Load a b) (4 ∷ a ∷ b ∷ rest)
  pub store : Names (Call.Store a b c) (5 ∷ a ∷ b ∷ c ∷ rest)
  pub fetch : Names (Call.Fetch a) (6 ∷ a ∷ rest)
  pub system : Names (Call.System (record { op1 = a; crn = b; crm = c; op2 = d; rt = e })) (7 ∷ a ∷ b ∷ c ∷ d ∷ e ∷ rest)
  pub register : Names (Call.Register 0xC080 a) (8 ∷ 0xC080 ∷ a ∷ rest)
  pub last_key : Names (Call.Register 0xFFFF_FFFF a) (8 ∷ 0xFFFF_FFFF ∷ a ∷ rest)
  -- 32 bits do not hold it: the key of no register
  pub long_key : Names (Call.Register 0 a) (8 ∷ 0x1_0000_C080 ∷ a ∷ rest)
  pub level : Names (Call.Level a) (9 ∷ a ∷ rest)
  pub mark_off : Names (Call.Mark false) (10 ∷ 0 ∷ rest)
  pub mark_on : Names (Call.Mark true) (10 ∷ 1 ∷ rest)
  pub general : Names (Call.General a b) (11 ∷ a ∷ b ∷ rest)
  pub abort : Names (Call.Abort (Exception.Svc 0x1234)) (12 ∷ 1 ∷ 0x1234 ∷ rest)
  pub census : Names (Call.Census a b) (13 ∷ a ∷ b ∷ rest)
  pub windows : Names Call.Windows (14 ∷ rest)
  pub flip_read : Names (Call.Flip Read false a) (15 ∷ 1 ∷ 0 ∷ a ∷ rest)
  pub flip_write : Names (Call.Flip Write true a) (15 ∷ 2 ∷ 1 ∷ a ∷ rest)
  pub flip_fetch : Names (Call.Flip Fetch true a) (15 ∷ 4 ∷ 1 ∷ a ∷ rest)
  pub code_0 : NamesNothing (0 ∷ rest)
  pub code_16 : NamesNothing (16 ∷ rest)
  pub kind_0 : NamesNothing (1 ∷ 0 ∷ rest)
  pub kind_3 : NamesNothing (1 ∷ 3 ∷ rest)
  pub flip_kind_3 : NamesNothing (15 ∷ 3 ∷ 0 ∷ rest)
  pub flip_view_2 : NamesNothing (15 ∷ 1 ∷ 2 ∷ rest)
  pub mark_2 : NamesNothing (10 ∷ 2 ∷ rest)
  pub exception_8 : NamesNothing (12 ∷ 8 ∷ rest)

-- EXCEPTIONS

abbrev pub Raises : Exception → DecodedException → Type 0
Raises e decoded = decoded ≡ DecodedException.Known e

-- an immediate of 16 bits, a status of 8; words that an exception does not take may be any
pub record ExceptionCodes (a b c : ℕ) : Type 0 where
  pub undefined : Raises Exception.Undefined (exception_of 0 a b c)
  pub svc : Raises (Exception.Svc 0xFFFF) (exception_of 1 0xFFFF b c)
  pub hvc : Raises (Exception.Hvc 0xFFFF) (exception_of 2 0xFFFF b c)
  pub smc : Raises (Exception.Smc 0xFFFF) (exception_of 3 0xFFFF b c)
  pub brk : Raises (Exception.Brk 0xFFFF) (exception_of 4 0xFFFF b c)
  pub load : Raises (data_abort_at a false (first 0xFF)) (exception_of 5 a 0 0xFF)
  pub store : Raises (data_abort_at a true (first 0xFF)) (exception_of 5 a 1 0xFF)
  pub insn_abort : Raises (insn_abort_at a (first 0xFF)) (exception_of 6 a 0xFF c)
  pub pc_alignment : Raises Exception.PcAlignment (exception_of 7 a b c)
  pub imm_too_long : exception_of 1 0x1_0000 b c ≡ DecodedException.Unknown
  pub write_2 : exception_of 5 a 2 0xFF ≡ DecodedException.Unknown
  pub status_too_long : exception_of 6 a 0x100 c ≡ DecodedException.Unknown
  pub code_8 : exception_of 8 a b c ≡ DecodedException.Unknown

-- REPLIES

-- a reply's number, its value and what was read in words that were `old`, its four words, and the fifth of a step
pub record Gives (reply : Reply) (reads old number value told last : ℕ) (words : List ℕ) : Type 0 where
  pub by_number : code_by reply ≡ number
  pub by_value : value_by reply old ≡ value
  pub by_reads : reads_by reply reads old ≡ told
  pub by_words : words_by reply ≡ words
  pub by_step : step_words reply reads ≡ words ++ (last ∷ [])

abbrev pub stopped_by : Exception → Reply
stopped_by e = Reply.Stopped (Stop.Exception e)

-- the faults have status 0x21
pub record ReplyCodes (a reads old : ℕ) : Type 0 where
  pub done : Gives Reply.Done reads old 0 old reads reads (0 ∷ 0 ∷ 0 ∷ 0 ∷ [])
  pub value : Gives (Reply.Value a) reads old 0 a reads reads (1 ∷ a ∷ 0 ∷ 0 ∷ [])
  pub faults : Gives Reply.Faults reads old 0x100 old reads reads (2 ∷ 0 ∷ 0 ∷ 0 ∷ [])
  pub refused : Gives (Reply.Refused 7) reads old 7 old old 0 (5 ∷ 7 ∷ 0 ∷ 0 ∷ [])
  pub undefined : Gives (stopped_by Exception.Undefined) reads old 65 old old 0 (6 ∷ 0 ∷ 0 ∷ 0 ∷ [])
  pub unimplemented : Gives (Reply.Stopped Stop.Unimplemented) reads old 66 old old 0 (7 ∷ 0 ∷ 0 ∷ 0 ∷ [])
  pub fault : Gives (Reply.Fault a (first 0x21)) reads old 0x121 old reads reads (8 ∷ a ∷ 0x21 ∷ 0 ∷ [])
  pub load : Gives (stopped_by (data_abort_at a false (first 0x21))) reads old 0x121 a reads reads (9 ∷ a ∷ 0x21 ∷ 0 ∷ [])
  pub store : Gives (stopped_by (data_abort_at a true (first 0x21))) reads old 0x121 a reads reads (9 ∷ a ∷ 0x21 ∷ 1 ∷ [])
  pub insn_abort : Gives (stopped_by (insn_abort_at a (first 0x21))) reads old 0x121 old reads reads (10 ∷ a ∷ 0x21 ∷ 0 ∷ [])

-- WALKS of the tables by lent words

abbrev a_leaf : Leaf
a_leaf = record { oa = 11; desc = 12; perms = 13; level = 3; global = true }

-- a walk of EL3: TCR 25, TTBR0 0x1000, address 0x40001234, and a window of eight bytes at 0x1008, where its first descriptor lies
abbrev walked_words : ℕ → List ℕ → List ℕ
walked_words word out = walk_words (1 ∷ 25 ∷ 0x1000 ∷ 0 ∷ 0 ∷ 0 ∷ []) 3 0x4000_1234 0x1008 (bytes_of 8 word) out

-- an address that its range refuses: no descriptor is read
abbrev out_of_range : List ℕ → List ℕ
out_of_range out = walk_words (1 ∷ 25 ∷ 0x1000 ∷ 0 ∷ 0 ∷ 0 ∷ []) 3 0x80_0000_0000 0x1008 (bytes_of 8 0x8000_0401) out

-- regimes 1 to 3, the words of the registers and of a leaf with what was read, and the numbers
pub record WalkCodes (words : List ℕ) (va : ℕ) : Type 0 where
  pub el1 : regime_at 1 ≡ Ok El1
  pub el2 : regime_at 2 ≡ Ok El2
  pub el3 : regime_at 3 ≡ Ok El3
  pub registers : bank_at (11 ∷ 12 ∷ 13 ∷ 14 ∷ 15 ∷ 16 ∷ []) ≡ record { sctlr = 11; tcr = 12; ttbr0 = 13; ttbr1_el1 = 14; scr_el3 = 15; hcr_el2 = 16 }
  pub leaf : leaf_after a_leaf 2 ≡ (11 ∷ 12 ∷ 13 ∷ 3 ∷ 1 ∷ 2 ∷ [])
  -- whole walks of one descriptor each: a block, and a fault, which writes the sixth word alone; and one that reads none
  pub block : (out : List ℕ) → walked_words 0x8000_0401 out ≡ (0x8000_1234 ∷ 0x8000_0401 ∷ 0x38 ∷ 1 ∷ 1 ∷ 1 ∷ [])
  pub invalid : walked_words 0 (1 ∷ 2 ∷ 3 ∷ 5 ∷ 6 ∷ 7 ∷ []) ≡ (1 ∷ 2 ∷ 3 ∷ 5 ∷ 6 ∷ 1 ∷ [])
  pub range : out_of_range (1 ∷ 2 ∷ 3 ∷ 5 ∷ 6 ∷ 7 ∷ []) ≡ (1 ∷ 2 ∷ 3 ∷ 5 ∷ 6 ∷ 0 ∷ [])
  pub faulted : words_of (Err 0x21) 4 (1 ∷ 2 ∷ 3 ∷ 5 ∷ 6 ∷ 7 ∷ []) ≡ (1 ∷ 2 ∷ 3 ∷ 5 ∷ 6 ∷ 4 ∷ [])
  -- a walk that is refused writes none
  pub unwritten_0 : (out : List ℕ) → walk_words words 0 va 0 [] out ≡ out
  pub unwritten_4 : (out : List ℕ) → walk_words words 4 va 0 [] out ≡ out
  pub unwritten_past : (out : List ℕ) → walk_words words 1 va 0xFFFF_FFFF_FFFF_FFFF (0 ∷ 0 ∷ []) out ≡ out
  pub no_regime_0 : walk_code words 0 va 0 [] ≡ 64
  pub no_regime_4 : walk_code words 4 va 0 [] ≡ 64
  -- two bytes at the last address
  pub window : walk_code words 1 va 0xFFFF_FFFF_FFFF_FFFF (0 ∷ 0 ∷ []) ≡ 2
  pub found : code_of (Ok a_leaf) ≡ 0
  pub fault : code_of (Err 0x21) ≡ 0x121
