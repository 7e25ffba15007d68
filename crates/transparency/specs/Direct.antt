-- Faithfulness of each call that translates, read off `step_of` itself: where the pages meet the premise it has the same
-- physical address, the same fault with its status and address, and the same bytes as on the core without a cache.
use Rattle.std.specs.Prelude.{if◌then◌else◌, ◌≡◌, List, ℕ, Some}
use Rattle.word.specs.Bits.{align_down}
use Rattle.word.specs.Ram.{width_of, bytes_in}
use Rattle.word.specs.declared.ram.Width.{Width}
use Rattle.tlb.specs.Live.{Each}
use Rattle.tlb.specs.Asks.{address_of}
use Rattle.tlb.specs.declared.access.Kind.{Kind}
use Rattle.tlb.specs.Answers.{Answer}
use Rattle.cpu.specs.Bytes.{Placed, next_page, crosses, placed_one, placed_both, reached_by, load_end, store_end, store_ram_end, fetch_end}
use Rattle.cpu.specs.Bare.{Bare, fresh_bare, bare_of}
use Rattle.cpu.specs.Memory.{located_now}
use Rattle.cpu.specs.declared.Core.{Core}
use Rattle.system.specs.declared.decode.Encoding.{Encoding}
use Rattle.system.specs.declared.decode.SysOp.TheVariants as Op
use Rattle.cpu.specs.Check.{translation, reaching, loading, storing, fetching}
use Rattle.cpu.specs.Step.{step_of, ram_after}
use Rattle.cpu.specs.declared.call.Call.TheVariants.{Translate, DataPa, FetchPa, Load, Store, Fetch, System}
use Rattle.history.specs.World.{regime_now, page_now, on_now, uncached}
use Rattle.history.specs.History.{Event, Settled}
use Rattle.history.specs.Invisible.{Tidy}
use Rattle.history.specs.Calls.{Fed, lent_of, events_run}
use Rattle.history.specs.Instance.{Ram, memory_of, real}
use Rattle.transparency.specs.Bare.{missed_in, op_in, operand_in}
use Rattle.transparency.specs.Events.{plain_in, zero_steps}
use Rattle.transparency.specs.Claim.{access_in}
use Rattle.transparency.specs.Replies.{outcome_of, bare_zero}
use Rattle.transparency.specs.Starts.{later_in}
use Rattle.transparency.specs.Machine.{machine}
use Rattle.transparency.specs.Beside.{core_after, bare_after}

-- After a list of calls from the fresh core, fed as its run shows it: the core, the state of the core without a cache,
-- and the list's steps
abbrev pub core_now : List (Fed real machine) → Core
core_now list = core_after (lent_of real machine list)

abbrev pub bare_now : List (Fed real machine) → Bare
bare_now list = bare_after (lent_of real machine list)

abbrev pub past : List (Fed real machine) → List (Event real)
past list = events_run real machine fresh_bare list

-- With the RAM m now.
module _ (list : List (Fed real machine)) (m : Ram) where
  -- The page of the address meets the premise.
  abbrev pub SettledAt : ℕ → Type 0
  SettledAt va =
      Settled real (plain_in fresh_bare) (past list) m (regime_now real (plain_in (bare_now list))) (page_now real (plain_in (bare_now list)) va)

  -- so do the pages of n bytes: one, or two where they cross with stage 1 on
  abbrev pub SettledOver : ℕ → ℕ → Kind → Type 0
  SettledOver va n kind = Each (λ a. SettledAt (address_of a)) (access_in (bare_now list) va n kind)

  -- THE CORE WITHOUT A CACHE: its answer to a translation, and where it puts an access of n bytes: the physical
  -- addresses of its pages, or the fault with its status and address
  abbrev pub uncached_at : Kind → ℕ → Answer
  uncached_at kind va = uncached real (plain_in (bare_now list)) m kind va

  abbrev pub placed_at : ℕ → ℕ → Kind → Placed
  placed_at va n kind =
      if crosses (on_now real (plain_in (bare_now list))) va n then placed_both va (uncached_at kind va) (uncached_at kind (next_page va))
      else placed_one va (uncached_at kind va)

  -- TRANSLATIONS

  -- the same physical address, or the same fault with its status and address
  abbrev pub translate_after : Type 0
  translate_after =
      (kind : Kind) (va : ℕ) → missed_in (bare_of (core_now list)) m (Translate kind va) ≡ 0 → SettledAt va
      → (step_of (core_now list) m.base m.bytes (Translate kind va)).reply ≡ translation va (uncached_at kind va)

  abbrev pub data_pa_after : Type 0
  data_pa_after =
      (va : ℕ) → missed_in (bare_of (core_now list)) m (DataPa va) ≡ 0 → SettledAt va
      → (step_of (core_now list) m.base m.bytes (DataPa va)).reply ≡ reaching (reached_by (uncached_at Kind.Read va))

  abbrev pub fetch_pa_after : Type 0
  fetch_pa_after =
      (va : ℕ) → missed_in (bare_of (core_now list)) m (FetchPa va) ≡ 0 → SettledAt va
      → (step_of (core_now list) m.base m.bytes (FetchPa va)).reply ≡ reaching (reached_by (uncached_at Kind.Fetch va))

  -- ACCESSES

  -- the same physical addresses, or the same fault
  abbrev pub access_after : Type 0
  access_after =
      (va n : ℕ) (kind : Kind) → SettledOver va n kind
      → (located_now (core_now list) (memory_of m) va n kind).placed ≡ placed_at va n kind

  -- A load replies the bytes there, or the fault or the abort.
  abbrev pub load_after : Type 0
  load_after =
      (va size : ℕ) (w : Width) → width_of size ≡ Some w → missed_in (bare_of (core_now list)) m (Load va size) ≡ 0
      → SettledOver va (bytes_in w) Kind.Read
      → (step_of (core_now list) m.base m.bytes (Load va size)).reply
      ≡ loading (load_end (placed_at va (bytes_in w) Kind.Read) 0 0 m.base m.bytes va (bytes_in w)).answer

  -- A store replies the same, and leaves the same bytes.
  abbrev pub store_after : Type 0
  store_after =
      (va size value : ℕ) (w : Width) → width_of size ≡ Some w
      → missed_in (bare_of (core_now list)) m (Store va size value) ≡ 0
      → SettledOver va (bytes_in w) Kind.Write
      → ((step_of (core_now list) m.base m.bytes (Store va size value)).reply
      ≡ storing (store_end (placed_at va (bytes_in w) Kind.Write) 0 m.base m.bytes va (bytes_in w)).answer)
      × (ram_after (core_now list) m.base m.bytes (Store va size value)
      ≡ store_ram_end (placed_at va (bytes_in w) Kind.Write) m.base m.bytes (bytes_in w) value)

  -- A fetch replies the four bytes there, or the fault or the abort.
  abbrev pub fetch_after : Type 0
  fetch_after =
      (va : ℕ) → missed_in (bare_of (core_now list)) m (Fetch va) ≡ 0 → SettledAt va
      → (step_of (core_now list) m.base m.bytes (Fetch va)).reply
      ≡ fetching (fetch_end (uncached_at Kind.Fetch va) 0 m.base m.bytes va).answer

  -- A zeroing, where the page meets the premise at each store begun: the reply and the bytes of the eight stores on the
  -- core without a cache.
  abbrev pub zero_after : Type 0
  zero_after =
      (e : Encoding) → missed_in (bare_now list) m (System e) ≡ 0 → op_in (bare_now list) e ≡ Op.Zva
      → Tidy real (plain_in fresh_bare) (past list) (zero_steps (bare_now list) m (later_in (core_now list) m (System e)) (align_down (operand_in (bare_now list) e) 6))
      → outcome_of (core_now list) m (System e) ≡ bare_zero 7 (bare_now list) m (align_down (operand_in (bare_now list) e) 6)
