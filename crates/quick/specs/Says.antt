-- What a call on a core says: its number, its report, and the core that it leaves.
use Rattle.std.specs.Prelude.{if◌then◌else◌, ◌≡◌, ◌-◌, ◌^◌, ◌<◌, ◌≤◌, ◌&&◌, nat_le, nat_lt, is_none, Bool, true, false, List, ℕ, length, Option, Some, None, Result, Ok, Err}
use Rattle.cpu.specs.declared.Core.{Core}
use Rattle.word.specs.Ram.{word_at}
use Rattle.cpu.specs.Memory.{with_tlb, loaded_by, read_of, ended_by, write_of, ram_after_write, fetch_of, fetch_pa_of}
use Rattle.cpu.specs.Core.{Answered}
use Rattle.tlb.specs.Answers.{Answer}
use Rattle.tlb.specs.Tlb.{fetch_found}
use Rattle.tlb.specs.Translate.{fetch_left, hint_in, no_work}
use Rattle.cpu.specs.Bytes.{placed_one, load_end, store_end, store_ram_end, fetch_end, reached_by, FetchAnswer, LoadAnswer, StoreAnswer}
use Rattle.tlb.specs.declared.{access.Kind.Kind, access.NoSuchKind.NoSuchKind, hint.FetchHint.FetchHint}
use Rattle.cpu.specs.System.{done_with, zero_of, zero_ram}
use Rattle.cpu.specs.Check.{first_of, ram_rows, translation, reaching}
use Rattle.cpu.specs.declared.call.Reply.{Reply}
use Rattle.cpu.specs.declared.call.Reply.TheVariants.{Refused}
use Rattle.cpu.specs.Step.{Stepped, ends, refused_or, step_of, after_fetch, after_address}
use Rattle.cpu.specs.Work.{read_work, write_work, zero_work, step_work}
use Rattle.tlb.specs.declared.work.Work.{Work}
use Rattle.call_words.specs.Replies.{code_by, value_by, reads_by}
use Rattle.call_words.specs.declared.reply.Report.{Report}
use Rattle.call_words.specs.declared.op.DecodedCall.{DecodedCall}
use Rattle.call_words.specs.declared.op.DecodedCall.TheVariants.{Known, Unknown}

-- the number n, the report that was old, and the core d tell a step that read w
pub record Tells (s : Stepped) (w : Work) (old : Report) (n : ℕ) (new : Report) (d : Core) : Type 0 where
  pub number : n ≡ code_by s.reply
  pub value : new.value ≡ value_by s.reply old.value
  pub reads : new.reads ≡ reads_by s.reply w.reads old.reads
  pub core : d ≡ s.core

-- 64 where words name no call, and nothing changes
pub record Nothing (c : Core) (old : Report) (n : ℕ) (new : Report) (d : Core) : Type 0 where
  pub number : n ≡ 64
  pub report : new ≡ old
  pub core : d ≡ c

abbrev pub Says : DecodedCall → Core → ℕ → List ℕ → Report → ℕ → Report → Core → Type 0
Says (Known x) c base ram old n new d = Tells (step_of c base ram x) (step_work c base ram x no_work) old n new d
Says Unknown c base ram old n new d = Nothing c old n new d

-- a report of a call that reads nothing
abbrev pub unread : ℕ → Report
unread v = record { value = v; reads = 0 }

-- a call that is handed neither RAM nor a report, whatever RAM stands there: it has no value, and reads nothing
pub record Sets (call : DecodedCall) (c : Core) (n : ℕ) (d : Core) : Type 0 where
  pub on : (base : ℕ) (ram : List ℕ) (v : ℕ) → Says call c base ram (unread v) n (unread v) d

-- a call that is handed RAM and no more, by its checks and its operation
abbrev pub ram_checked : Core → ℕ → List ℕ → Stepped → Stepped
ram_checked c base ram s = refused_or (first_of (ram_rows c.privilege.level base (length ram))) (λ n. ends c (Refused n)) s

-- a translation, or where an access goes: its reply, and its operation
abbrev pub asked_reply : Bool → ℕ → Answer → Reply
asked_reply true va a = translation va a
asked_reply false va a = reaching (reached_by a)

abbrev pub asked_run : Bool → ℕ → Answered Answer → Stepped
asked_run tells va t = ends t.core (asked_reply tells va t.answer)

-- AT ONCE BY A HINT: at a known level, with a window that ends at the last address or before

abbrev pub plain : Core → ℕ → ℕ → Bool
plain c base len = nat_le c.privilege.level 3 && nat_le base (2 ^ 64 - 1 - len)

abbrev pub served : Core → ℕ → ℕ → ℕ → Result Kind NoSuchKind → Option ℕ
served c base len va (Ok k) = if plain c base len then hint_in c.privilege va k c.tlb else None
served c base len va (Err e) = None

-- the same of a core by its number among four, with nothing pending
abbrev pub served_among : Core → ℕ → ℕ → ℕ → ℕ → Result Kind NoSuchKind → Option ℕ
served_among c n base len va w = if nat_lt n 4 && is_none c.tlb.broadcast then served c base len va w else None

-- the fetch hint, or one of a page that is no address's
abbrev pub fetch_hint_of : Option FetchHint → FetchHint
fetch_hint_of (Some f) = f
fetch_hint_of None = record { page = 1; level = 0; pa = 0 }

abbrev pub fetch_served : Core → ℕ → ℕ → ℕ → Option ℕ
fetch_served c base len va = if plain c base len then fetch_found c.tlb.fetch c.privilege.level va else None

-- AN ACCESS OF ONE PAGE, on the core that its translation left

abbrev pub ended_of : Core → Answer → ℕ → List ℕ → ℕ → ℕ → Answered LoadAnswer
ended_of d a base ram va n = loaded_by d d.tlb (load_end (placed_one va a) d.last_pa d.abort_pa base ram va n)

abbrev pub stored_of : Core → Answer → ℕ → List ℕ → ℕ → ℕ → Answered StoreAnswer
stored_of d a base ram va n = ended_by d d.tlb (store_end (placed_one va a) d.abort_pa base ram va n)

abbrev pub put_of : Answer → ℕ → List ℕ → ℕ → ℕ → ℕ → List ℕ
put_of a base ram va n v = store_ram_end (placed_one va a) base ram n v

abbrev pub fetched_of : Core → Answer → ℕ → List ℕ → ℕ → Answered FetchAnswer
fetched_of d a base ram va = ended_by d d.tlb (fetch_end a d.abort_pa base ram va)

abbrev pub reached_of : Core → Answer → Answered (Option ℕ)
reached_of d a = record { core = d; answer = reached_by a }

-- a fetch, or where one goes: its operation, and its end by the answer of its translation
abbrev pub fetch_run : Bool → Core → ℕ → List ℕ → ℕ → Stepped
fetch_run true c base ram va = after_fetch (fetch_of c base ram va)
fetch_run false c base ram va = after_address (fetch_pa_of c (word_at base ram 8) va)

abbrev pub fetch_ended : Bool → Core → Answer → ℕ → List ℕ → ℕ → Stepped
fetch_ended true d a base ram va = after_fetch (fetched_of d a base ram va)
fetch_ended false d a base ram va = after_address (reached_of d a)

-- the fetch hint that an answer leaves
abbrev pub hint_left : Core → ℕ → Answer → Core
hint_left d va a = with_tlb d (fetch_left d.privilege.level va a d.tlb)

-- AN ACCESS OF TWO PAGES by their hints: no check is missed, and it reads no descriptor

-- the first byte's place and the value of a load
abbrev pub OfTwo : Core → ℕ → List ℕ → ℕ → ℕ → Option (ℕ × ℕ) → Type 0
OfTwo c base ram va n (Some x) =
    (c.privilege.level < 4) × (base ≤ 2 ^ 64 - 1 - length ram)
    × (record { core = record c { last_pa = x.0 }; answer = Ok x.1 } ≡ read_of c base ram va n)
    × (no_work ≡ read_work c base ram va n no_work)
OfTwo c base ram va n None = Unit {0}

-- whether a store is made, and the bytes after it
abbrev pub PutTwo : Core → ℕ → List ℕ → ℕ → ℕ → ℕ → Bool → List ℕ → Type 0
PutTwo c base ram va n v true ys =
    (c.privilege.level < 4) × (base ≤ 2 ^ 64 - 1 - length ram)
    × (record { core = c; answer = Ok tt } ≡ write_of c base ram va n)
    × (no_work ≡ write_work c base ram va n no_work)
    × (ys ≡ ram_after_write c base ram va n v)
PutTwo c base ram va n v false ys = ys ≡ ram

-- A LINE OF DC ZVA by its hint: whether it is cleared, with no descriptor read, and the bytes after it
abbrev pub Cleared : Core → ℕ → List ℕ → ℕ → Bool → List ℕ → Type 0
Cleared c base ram va true ys =
    (zero_of 8 c base ram va ≡ done_with c) × (no_work ≡ zero_work 8 c base ram va no_work) × (ys ≡ zero_ram 8 c base ram va)
Cleared c base ram va false ys = ys ≡ ram
