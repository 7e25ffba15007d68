-- Faithfulness of each call that translates, read off `step_of` itself: where the pages meet the premise it has the same
-- physical address, the same fault with its status and address, and the same bytes as on the core without a cache.
use Rattle.std.specs.Prelude.{◌≡◌, List, [], ◌∷◌, ℕ}
use Rattle.std.proofs.Math.Path.{refl, sym, ap}
use Rattle.std.proofs.Common.{ap₂, subst, ◌∙◌, append-nil, arith}
use Rattle.word.specs.Bits.{align_down}
use Rattle.word.specs.Ram.{bytes_in}
use Rattle.tlb.specs.Live.{Each, done, more}
use Rattle.tlb.specs.Tlb.{fresh}
use Rattle.tlb.specs.Asks.{Ask, translates, fetches, kind_of, address_of}
use Rattle.tlb.specs.declared.{access.Kind.Kind, Tlb.Tlb}
use Rattle.tlb.specs.Answers.{Answer}
use Rattle.cpu.specs.Bytes.{Placed, reached_by, store_end, store_ram_end, fetch_end}
use Rattle.cpu.specs.Bare.{Bare, fresh_bare, bare_of}
use Rattle.cpu.specs.Core.{fresh_core}
use Rattle.cpu.specs.Memory.{translate_in, translate_fetch_in, stepped_now, fetch_stepped_now, translate_of, fetch_pa_of, data_pa_of, fetch_of}
use Rattle.cpu.specs.Asks.{first_of, placed_from}
use Rattle.cpu.proofs.OpLaws.{placed_by}
use Rattle.cpu.specs.Check.{translation, reaching, storing, fetching}
use Rattle.cpu.specs.Step.{run_of, ram_of, step_of, ram_after}
use Rattle.cpu.specs.declared.call.Call.TheVariants.{System}
use Rattle.history.specs.World.{Plain, regime_now, page_now}
use Rattle.history.specs.History.{nothing, plain_run, tlb_run, answer_of, answers, Settled}
use Rattle.history.specs.Invisible.{plain_answers, Tidy}
use Rattle.history.proofs.Corollaries.{all_settled}
use Rattle.history.specs.Calls.{Fed, lent_of, Shown, showing}
use Rattle.history.proofs.EveryCall.{now-plain, fresh-run}
use Rattle.history.specs.Instance.{Ram, real}
use Rattle.history.proofs.Instance.{real-laws, fresh-asid}
use Rattle.transparency.specs.Bare.{operand_in}
use Rattle.transparency.specs.Events.{plain_in, zero_steps, events_in}
use Rattle.transparency.specs.Claim.{access_in}
use Rattle.transparency.specs.Replies.{Outcome, bare_zero, bare_reply}
use Rattle.transparency.specs.Starts.{later_in}
use Rattle.transparency.specs.Machine.{machine}
use Rattle.transparency.proofs.Answered.{load-answered, store-answered, fetch-end}
use Rattle.transparency.proofs.Bridge.{bridge}
use Rattle.transparency.proofs.Instance.{every-reply}
use Rattle.transparency.proofs.Beside.{two-cores}
use Rattle.transparency.specs.Direct.{core_now, bare_now, past, SettledAt, SettledOver, uncached_at, placed_at}
use Rattle.transparency.specs.Direct as Statement

-- After a list of calls from the fresh core, fed as its run shows it, with the RAM m now.
module _ (list : List (Fed real machine)) (seen : Shown real machine fresh_core list) (m : Ram) where
  -- ANSWERS to the translations of a step after the list

  pub begins : plain_run real (plain_in fresh_bare) (past list) ≡ plain_in (bare_now list)
  unfolding fresh_core
  begins =
      ap (plain_run real (plain_in fresh_bare)) (sym (append-nil (past list)))
      ∙ sym (now-plain real machine bridge fresh_core list seen [])

  cached : tlb_run real (plain_in fresh_bare) (past list) fresh ≡ (core_now list).tlb
  unfolding fresh_core
  cached = sym (fresh-run real machine bridge real-laws fresh_core refl fresh-asid (omega arith) list seen)

  given-after : (l : List Ask) → Each (λ a. SettledAt list m (address_of a)) l
      → answers real (plain_in (bare_of (core_now list))) m l (core_now list).tlb ≡ plain_answers real (plain_in (bare_now list)) m l
  given-after l ss =
      ap₂ (λ (b : Bare) (t : Tlb). answers real (plain_in b) m l t) (two-cores (lent_of real machine list)) (sym cached)
      ∙ subst
      (λ (p : Plain real).
      Each (λ a. Settled real (plain_in fresh_bare) (past list) m (regime_now real p) (page_now real p (address_of a))) l
      → answers real p m l (tlb_run real (plain_in fresh_bare) (past list) fresh) ≡ plain_answers real p m l)
      begins
      (λ s. all_settled real real-laws (plain_in fresh_bare) fresh-asid (omega arith) (past list) m (record { asks = l; effect = nothing }) s)
      ss

  pub one-ask : (a : Ask) → SettledAt list m (address_of a)
      → answer_of real (plain_in (bare_of (core_now list))) m a (core_now list).tlb ≡ uncached_at list m (kind_of a) (address_of a)
  one-ask a st = ap first_of (given-after (a ∷ []) (more st done))

  -- TRANSLATIONS

  -- the same physical address, or the same fault with its status and address
  pub translate-after : Statement.translate_after list m
  unfolding step_of run_of translate_of stepped_now translate_in
  translate-after kind va passed st = rw passed (ap (translation va) (one-ask (translates kind va) st))

  pub data-pa-after : Statement.data_pa_after list m
  unfolding step_of run_of data_pa_of stepped_now translate_in
  data-pa-after va passed st = rw passed (ap (λ (x : Answer). reaching (reached_by x)) (one-ask (translates Kind.Read va) st))

  pub fetch-pa-after : Statement.fetch_pa_after list m
  unfolding step_of run_of fetch_pa_of fetch_stepped_now translate_fetch_in
  fetch-pa-after va passed st = rw passed (ap (λ (x : Answer). reaching (reached_by x)) (one-ask (fetches va) st))

  -- ACCESSES

  -- where an access lies
  given-placed : (va n : ℕ) (kind : Kind) → SettledOver list m va n kind
      → placed_from va (answers real (plain_in (bare_of (core_now list))) m (access_in (bare_of (core_now list)) va n kind) (core_now list).tlb) ≡ placed_at list m va n kind
  given-placed va n kind ss = grind (arith, two-cores, given-after)

  -- the same physical addresses, or the same fault
  pub access-after : Statement.access_after list m
  access-after va n kind ss = placed_by (core_now list) m.base m.bytes va n kind ∙ given-placed va n kind ss

  -- A load replies the bytes there, or the fault or the abort.
  pub load-after : Statement.load_after list m
  unfolding step_of run_of
  load-after va size w sized passed ss = grind (arith, load-answered, given-placed)

  -- A store replies the same, and leaves the same bytes.
  pub store-after : Statement.store_after list m
  unfolding step_of run_of ram_after ram_of
  store-after va size value w sized passed ss = (
    rw (passed, sized)
        (ap (λ (o : Outcome). o.reply) (store-answered (core_now list) m va (bytes_in w) value)
        ∙ ap (λ (p : Placed). storing (store_end p 0 m.base m.bytes va (bytes_in w)).answer) (given-placed va (bytes_in w) Kind.Write ss)),
    rw (passed, sized)
        (ap (λ (o : Outcome). o.bytes) (store-answered (core_now list) m va (bytes_in w) value)
        ∙ ap (λ (p : Placed). store_ram_end p m.base m.bytes (bytes_in w) value) (given-placed va (bytes_in w) Kind.Write ss)),
  )

  -- A fetch replies the four bytes there, or the fault or the abort.
  pub fetch-after : Statement.fetch_after list m
  unfolding step_of run_of fetch_of fetch_stepped_now translate_fetch_in
  fetch-after va passed st =
      rw passed
      (ap fetching (fetch-end _ _ m.base m.bytes va)
      ∙ ap (λ (a : Answer). fetching (fetch_end a 0 m.base m.bytes va).answer) (one-ask (fetches va) st))

  -- A zeroing, where the page meets the premise at each store begun: the reply and the bytes of the eight stores on the
  -- core without a cache.
  pub zero-after : Statement.zero_after list m
  unfolding fresh_core
  zero-after e passed named tidy =
      every-reply list seen (showing real machine (core_now list) (record { ram = m; call = System e })) refl
      (subst (Tidy real (plain_in fresh_bare) (past list)) (sym events) tidy)
      ∙ replies
    where
      events : events_in (bare_now list) m (later_in (core_now list) m (System e)) (System e)
          ≡ zero_steps (bare_now list) m (later_in (core_now list) m (System e)) (align_down (operand_in (bare_now list) e) 6)
      events = rw (passed, named)

      replies : bare_reply (bare_now list) m (System e) ≡ bare_zero 7 (bare_now list) m (align_down (operand_in (bare_now list) e) 6)
      replies = rw (passed, named)
