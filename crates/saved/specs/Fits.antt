-- What the parts of every core that a program holds are: numbers as their types have them, lists as long as their arrays.
use Rattle.std.specs.Prelude.{◌≡◌, ℕ, ◌<◌, ◌^◌, length, Option, Some, None}
use Rattle.tlb.specs.Tlb.{entry_at}
use Rattle.tlb.specs.declared.{entry.Entry.Entry, hint.FetchHint.FetchHint, Inval.Inval}
use Rattle.tlb.specs.declared.Inval.TheVariants.{All, Page, Asid}
use Rattle.cpu.specs.declared.Core.{Core}

pub record EntryFits (e : Entry) : Type 0 where
  pub generation : e.generation < 2 ^ 32
  pub perms : e.perms < 2 ^ 8
  pub level : e.level < 2 ^ 8
  pub asid : e.asid < 2 ^ 16

abbrev pub PendingFits : Option Inval → Type 0
PendingFits None = Unit {0}
PendingFits (Some All) = Unit {0}
PendingFits (Some (Page p)) = Unit {0}
PendingFits (Some (Asid n)) = n < 2 ^ 16

abbrev pub FetchFits : Option FetchHint → Type 0
FetchFits None = Unit {0}
FetchFits (Some f) = f.level < 2 ^ 8

-- all but the entries
pub record PartsFit (c : Core) : Type 0 where
  pub level : c.privilege.level < 2 ^ 8
  pub nzcv : c.flags.nzcv < 2 ^ 32
  pub daif : c.flags.daif < 2 ^ 32
  pub general : length c.x ≡ 31
  pub generation : c.tlb.generation < 2 ^ 32
  pub asid : c.tlb.asid < 2 ^ 16
  pub fetch : FetchFits c.tlb.fetch
  pub levels : length c.tlb.levels ≡ 4
  pub hints : length c.tlb.hints ≡ 512
  pub entries : length c.tlb.entries ≡ 1024
  pub pending : PendingFits c.tlb.broadcast

pub record Fits (c : Core) : Type 0 where
  pub parts : PartsFit c
  pub entries : (j : ℕ) → j < 1024 → EntryFits (entry_at c.tlb j)
