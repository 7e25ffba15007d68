-- How the code keeps the manual's variables: the bits of all table descriptors passed in one word, and the bit at which an index begins. These
-- are the code's own states, for the contracts of its parts; no definition of the walk reads this file.
use Rattle.std.specs.Prelude.{◌≡◌, not, ◌&&◌, ℕ, ◌+◌, ◌%◌, ◌^◌, ◌≤◌, ◌<◌, Ok, Err, zero, suc, Option, Some, None}
use Rattle.word.specs.Bits.{align_down}
use Rattle.sysreg.specs.declared.regs.Regime.{Regime}
use Rattle.walk.specs.Descriptor.{ap_table0, ap_table1, uxn_table, pxn_table}
use Rattle.walk.specs.Table.{status_of, entered, Lookup, Next, deeper, ends, inputsize, startlevel, addrselectbottom, baselowerbound, first_lookup}
use Rattle.walk.specs.Table.{range_of, params_of, descaddr, lookup_next}
use Rattle.walk.specs.Walk.{walked_of}
use Rattle.walk.specs.declared.{range.Range.Range, level.Params.Params, level.WalkState.WalkState, level.Step.Step, regime.Bank.Bank}
use Rattle.walk.specs.declared.level.Step.TheVariants.{Next as Onward, Leaf as Found, Fault}
use Rattle.walk.specs.Answers.{Begin, Walked, Visited}

-- the manual's state that a state of the code stands for. Of `tables` bits 62 to 59 alone count; the others are free
abbrev pub lookup_of : Params → WalkState → Lookup
lookup_of p w =
    record {
      level = w.level;
      baseaddress = w.table;
      top = w.top;
      ap_table1 = ap_table1 w.tables;
      ap_table0 = not p.singlepriv && ap_table0 w.tables;
      xn_table = uxn_table w.tables;
      pxn_table = not p.singlepriv && pxn_table w.tables;
    }

-- what a step comes to, for the code and for the manual
pub data StepEnd : Type 0 where
  onward : Lookup → StepEnd
  answers : Walked → StepEnd

abbrev pub stepped : Params → Step → StepEnd
stepped p (Onward w) = onward (lookup_of p w)
stepped p (Found leaf) = answers (Ok leaf)
stepped p (Fault status) = answers (Err status)

abbrev pub meant : Params → Next → StepEnd
meant p (deeper l) = onward l
meant p (ends r) = answers (walked_of p.singlepriv p.wxn r)

-- what holds of the code's state at each level
pub record Standing (p : Params) (w : WalkState) : Type 0 where
  pub level : w.level ≤ 3
  pub lsb : w.lsb ≡ addrselectbottom p.largegrain w.level
  pub below_top : w.lsb < w.top
  pub top : w.top ≤ 48
  pub table : w.table < 2 ^ 48

-- and of a step that leads on: one level down
abbrev pub Leads : Params → WalkState → Step → Type 0
Leads p w (Onward v) = (v.level ≡ w.level + 1) × Standing p v
Leads p w (Found leaf) = Unit {0}
Leads p w (Fault status) = Unit {0}

-- where the code begins a walk: the first table, which no table is above
abbrev pub first_of : Range → WalkState
first_of g =
    record {
      tables = 0;
      table = align_down (g.baseregister % 2 ^ 48) (baselowerbound g);
      top = inputsize g;
      lsb = addrselectbottom g.largegrain (startlevel g);
      level = startlevel g;
    }

unfoldable pub begin_of : Range → ℕ → ℕ → Begin
begin_of g outputsize va = entered outputsize g va (λ f. Err (status_of f)) (Ok (first_of g))

-- The tables that a walk reads, one by one, for those who show a walk: the table, the address of its descriptor, and what that leads to.

-- a table read, or that the walk ended before
pub data Seen : Type 0 where
  seen : Lookup → ℕ → StepEnd → Seen
  past : Seen

abbrev pub seen_after : Next → (Lookup → Seen) → Seen
seen_after (deeper l) k = k l
seen_after (ends r) k = past

-- the table that a walk from l reads after n others
unfoldable pub visit_from : ℕ → (ℕ → Option ℕ) → Params → ℕ → Lookup → Seen
visit_from zero memory p va l = seen l (descaddr p va l) (meant p (lookup_next memory p va l))
visit_from (suc n) memory p va l = seen_after (lookup_next memory p va l) (visit_from n memory p va)

-- and the whole walk
unfoldable pub visit_of : Bank → Regime → ℕ → (ℕ → Option ℕ) → ℕ → Seen
visit_of s r va memory n =
    entered (params_of s r (range_of s r va)).outputsize (range_of s r va) va (λ f. past)
    (visit_from n memory (params_of s r (range_of s r va)) va (first_lookup (range_of s r va)))

-- what the code's answer stands for
abbrev pub seen_as : Params → Visited → Seen
seen_as p (Some v) = seen (lookup_of p v.state) v.at (stepped p v.step)
seen_as p None = past

-- the address of the descriptor read
abbrev pub seen_address : Seen → Option ℕ
seen_address (seen l at step) = Some at
seen_address past = None
