-- What a call promises: of the core c, and of RAM's bytes from base on.
use Rattle.std.specs.Prelude.{◌≡◌, List, ℕ, ◌<◌, get_or}
use Rattle.cpu.specs.declared.Core.{Core}
use Rattle.cpu.specs.Step.{step_of, counts_after}
use Rattle.cpu.specs.declared.{call.Call.Call, call.Reply.Reply}
use Rattle.cpu.specs.declared.call.Call.TheVariants.{Census}
use Rattle.history.specs.Calls.{Lent}
use Rattle.history.specs.Instance.{Ram, window_of as ram_of, real}
use Rattle.transparency.specs.Machine.{machine}
use Rattle.transparency.specs.Replies.{outcome, bare_reply}
use Rattle.transparency.specs.Beside.{core_after, bare_after}
use Rattle.transparency.specs.Census.{bare_counts}
use Rattle.transparency.specs.Faithful.{Faithful}
use Rattle.call_words.specs.Replies.{code_by, value_by, step_words}
use Rattle.call_words.specs.declared.reply.Report.{Report}
use Rattle.call_words.specs.declared.op.DecodedCall.{DecodedCall}
use Rattle.call_words.specs.declared.op.DecodedCall.TheVariants.{Known, Unknown}
use Rattle.quick.specs.Says.{unread}
use Rattle.core_calls.specs.Windows.{found_number, found_words, windows_in, bare_windows}
use Rattle.core_calls.specs.Flip.{flip_number, flip_words, flip_in, bare_flip}
use Rattle.core_calls.specs.Named.{call_number, call_value, call_reads, call_ram, call_core, call_code, call_words}

-- FAITHFULNESS

-- The number n, the value v (the word was old) and the bytes ys tell a reply that is faithful after a list of calls. What was read is no part
-- of it: the core without a cache reads more.
pub record FaithfulNumber (list : List (Lent real machine)) (m : Ram) (x : Call) (n old v : ℕ) (ys : List ℕ) : Type 0 where
  pub reply : Reply
  pub number_is : n ≡ code_by reply
  pub value_is : v ≡ value_by reply old
  pub faithful : Faithful list m x (outcome reply ys)

-- the same of five words, of which the last, whatever it is, says what was read
pub record FaithfulWords (list : List (Lent real machine)) (m : Ram) (x : Call) (v ys : List ℕ) : Type 0 where
  pub reply : Reply
  pub reads : ℕ
  pub words_are : v ≡ step_words reply reads
  pub faithful : Faithful list m x (outcome reply ys)

-- whatever list of calls left the core; of words that name no call nothing is asked
abbrev pub AfterEveryList : DecodedCall → (List (Lent real machine) → Call → Type 0) → Core → Type 0
AfterEveryList (Known x) promise c = (list : List (Lent real machine)) → c ≡ core_after list → promise list x
AfterEveryList Unknown promise c = Unit {0}

-- THE CALLS

-- A call that gives a number n and a report, which was old, and leaves the bytes ys and the core d.
--   reads       the descriptors that its walks read, in every report with a value or a fault
--   unchanged   a number from 1 to 255 says that nothing was written
pub record Promise (call : DecodedCall) (base : ℕ) (ram : List ℕ) (c : Core) (n : ℕ) (old new : Report) (ys : List ℕ) (d : Core) : Type 0 where
  pub code : n ≡ call_number call c base ram
  pub value : new.value ≡ call_value call c base ram old.value
  pub reads : new.reads ≡ call_reads call c base ram old.reads
  pub bytes : ys ≡ call_ram call c base ram
  pub core : d ≡ call_core call c base ram
  pub unchanged : 0 < n → n < 256 → (d ≡ c) × ((ys ≡ ram) × (new ≡ old))
  pub faithful : AfterEveryList call (λ list x. FaithfulNumber list (ram_of base ram) x n old.value new.value ys) c

-- a call that is handed neither RAM nor a report, whatever RAM stands there: it has no value, and reads nothing
pub record Setting (call : DecodedCall) (c : Core) (n : ℕ) (d : Core) : Type 0 where
  pub on : (base : ℕ) (ram : List ℕ) (v : ℕ) → Promise call base ram c n (unread v) (unread v) ram d

-- Every call by eight words: 0, and in five its answer and what it read.
--   unnamed     where the words name no call nothing is written
--   unchanged   where the answer is a refusal, Undefined or Unimplemented (5, 6, 7), nothing of the core and no byte
pub record StepPromise (call : DecodedCall) (base : ℕ) (ram : List ℕ) (c : Core) (n : ℕ) (old v ys : List ℕ) (d : Core) : Type 0 where
  pub code : n ≡ call_code call
  pub answer : v ≡ call_words call c base ram old
  pub bytes : ys ≡ call_ram call c base ram
  pub core : d ≡ call_core call c base ram
  pub unnamed : 0 < n → (d ≡ c) × ((ys ≡ ram) × (v ≡ old))
  pub unchanged : 4 < get_or v 0 0 → get_or v 0 0 < 8 → (d ≡ c) × (ys ≡ ram)
  pub faithful : AfterEveryList call (λ list x. FaithfulWords list (ram_of base ram) x v ys) c

-- A census, which is lent the core shared: the number n, and the counts, which were old.
--   unchanged   any other number than 0 says that no count was written
--   faithful    whatever list of calls left the core: counts and number are those of the core without a cache
pub record CensusPromise (first pages base : ℕ) (ram : List ℕ) (c : Core) (n : ℕ) (old counts : List ℕ) : Type 0 where
  pub code : n ≡ code_by (step_of c base ram (Census first pages)).reply
  pub counted : counts ≡ counts_after c base ram first pages old
  pub unchanged : 0 < n → counts ≡ old
  pub faithful : (list : List (Lent real machine)) → c ≡ core_after list
      → (counts ≡ bare_counts (bare_after list) (ram_of base ram) first pages old)
      × (n ≡ code_by (bare_reply (bare_after list) (ram_of base ram) (Census first pages)).reply)

-- Windows, which are lent the core shared: the number n, and three words, which were old.
--   unchanged   1, 2 and 9 say that no word was written
--   faithful    whatever list of calls left the core: number and words are those of the core without a cache
pub record WindowsPromise (bytes : List ℕ) (base : ℕ) (ram : List ℕ) (c : Core) (n : ℕ) (old words : List ℕ) : Type 0 where
  pub code : n ≡ found_number (windows_in c base ram bytes)
  pub told : words ≡ found_words (windows_in c base ram bytes) old
  pub unchanged : 0 < n → n < 10 → words ≡ old
  pub faithful : (list : List (Lent real machine)) → c ≡ core_after list
      → (n ≡ found_number (bare_windows (bare_after list) (ram_of base ram) bytes))
      × (words ≡ found_words (bare_windows (bare_after list) (ram_of base ram) bytes) old)

-- A flip, which is lent the core shared, and RAM to change and to put back: the number n, three words, which were old, and the bytes ys.
--   bytes       RAM ends as it began
--   unchanged   any other number than 0 says that no word was written
--   faithful    whatever list of calls left the core: number and words are those of the core without a cache
pub record FlipPromise (va kind user base : ℕ) (ram : List ℕ) (c : Core) (n : ℕ) (old words ys : List ℕ) : Type 0 where
  pub code : n ≡ flip_number (flip_in c base ram va kind user)
  pub told : words ≡ flip_words (flip_in c base ram va kind user) old
  pub bytes : ys ≡ ram
  pub unchanged : 0 < n → words ≡ old
  pub faithful : (list : List (Lent real machine)) → c ≡ core_after list
      → (n ≡ flip_number (bare_flip (bare_after list) (ram_of base ram) va kind user))
      × (words ≡ flip_words (bare_flip (bare_after list) (ram_of base ram) va kind user) old)
