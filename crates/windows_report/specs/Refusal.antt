-- Why a list is wrong, and at which byte.
use Rattle.std.specs.Prelude.{ℕ, ◌+◌, ◌*◌, List, length, unwrap_or}
use Rattle.word.specs.Ram.{word_at}
use Rattle.word.specs.Bits.{wrap}
use Rattle.windows.specs.declared.list.Malformed.{Malformed}
use Rattle.windows.specs.declared.list.Malformed.TheVariants as Why
use Rattle.windows_report.specs.declared.refusal.{Refusal.Refusal, Reason.Reason}
use Rattle.windows_report.specs.declared.refusal.Reason.TheVariants.{Bytes, Count, Start, Pages, End}

-- the number of so many bytes at a place, 0 past the end
abbrev pub value_at : List ℕ → ℕ → ℕ → ℕ
value_at list n place = unwrap_or (word_at 0 list n place) 0

abbrev pub count_in : List ℕ → ℕ
count_in list = value_at list 2 0

-- where a window's first address stands, and where its length: behind all first addresses. Of a list in memory no place is past 2^64
abbrev pub start_place : ℕ → ℕ
start_place i = wrap (2 + 8 * i)

abbrev pub pages_place : List ℕ → ℕ → ℕ
pages_place list i = wrap (2 + 8 * count_in list + 2 * i)

abbrev pub start_in : List ℕ → ℕ → ℕ
start_in list i = value_at list 8 (start_place i)

abbrev pub pages_in : List ℕ → ℕ → ℕ
pages_in list i = value_at list 2 (pages_place list i)

-- a list that is too short or too long is at fault where it ends; it should end where one more length would stand
abbrev pub refusal_of : Malformed → List ℕ → Refusal
refusal_of Why.Length list = record { byte = length list; reason = Bytes (length list) (pages_place list (count_in list)) }
refusal_of Why.Count list = record { byte = 0; reason = Count (count_in list) }
refusal_of (Why.Start i) list = record { byte = start_place i; reason = Start i (start_in list i) }
refusal_of (Why.Pages i) list = record { byte = pages_place list i; reason = Pages i (pages_in list i) }
refusal_of (Why.End i) list = record { byte = start_place i; reason = End i (start_in list i) (pages_in list i) }
