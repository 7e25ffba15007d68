-- Faithfulness of every list of calls of the core, from the fresh core that `Cpu::new` gives.
use Rattle.std.specs.Prelude.{refl}
use Rattle.std.proofs.Common.{arith}
use Rattle.cpu.specs.Core.{fresh_core}
use Rattle.history.specs.Calls.{EveryCallFaithful, SameReplies, InvisibleCalls}
use Rattle.history.proofs.EveryCall.{every_call_faithful}
use Rattle.history.proofs.EveryReply.{same-replies, invisible-calls}
use Rattle.history.specs.Instance.{real}
use Rattle.history.proofs.Instance.{real-laws, fresh-asid}
use Rattle.transparency.specs.Machine.{machine}
use Rattle.transparency.specs.Instance.{replies}
use Rattle.transparency.proofs.Bridge.{bridge}
use Rattle.transparency.proofs.Alone.{alone-same}

-- After every list of calls, in every call, each translation of a page that meets the premise is answered as by the
-- core without a cache.
pub every-translation : EveryCallFaithful real machine fresh_core
unfolding fresh_core
every-translation = every_call_faithful real machine bridge real-laws fresh_core refl fresh-asid (omega arith)

-- Where all pages that a call translates meet the premise, its reply and RAM are those of the core without a cache.
pub every-reply : SameReplies real machine replies fresh_core
unfolding fresh_core
every-reply = same-replies real machine bridge real-laws fresh_core refl fresh-asid (omega arith) replies alone-same

-- Where no table is changed without the matching TLBI, no reply and no RAM of a list shows the cache.
pub invisible-lists : InvisibleCalls real machine replies fresh_core
unfolding fresh_core
invisible-lists = invisible-calls real machine bridge real-laws fresh_core refl fresh-asid (omega arith) replies alone-same
