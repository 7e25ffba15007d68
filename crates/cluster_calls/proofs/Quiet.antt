-- Translations, loads, stores and fetches leave nothing pending where nothing was.
use Rattle.std.specs.Prelude.{◌≡◌, refl, ℕ, List, None, Option, Result, Ok, Err}
use Rattle.std.proofs.Common.{◌∙◌}
use Rattle.tlb.specs.declared.{Inval.Inval, access.Kind.Kind, access.NoSuchKind.NoSuchKind}
use Rattle.cpu.specs.Bare.{Bare, bare_of}
use Rattle.cpu.specs.declared.{Core.Core, call.Call.Call}
use Rattle.history.specs.Window.{window_of}
use Rattle.transparency.specs.Bare.{Ruling, allowed, ruling_in, if_allowed}
use Rattle.cluster.specs.Shared.{shared_call}
use Rattle.cluster.proofs.Laws.{left-as-shared}
use Rattle.call_words.specs.Ops.{translate_call}
use Rattle.call_words.specs.declared.op.DecodedCall.{DecodedCall}
use Rattle.call_words.specs.declared.op.DecodedCall.TheVariants.{Known}
use Rattle.core_calls.specs.Named.{call_core}

abbrev pub Quiet : DecodedCall → Type 0
Quiet call = (c : Core) (base : ℕ) (ram : List ℕ) → c.tlb.broadcast ≡ None → (call_core call c base ram).tlb.broadcast ≡ None

shares-none : (r : Ruling) (v : Option Inval) → v ≡ None → if_allowed r v None ≡ None
shares-none r v e = go r
  where
    go : (r : Ruling) → if_allowed r v None ≡ None
    go allowed = e
    go _ = refl

-- a call that shares nothing
known-quiet : (x : Call) → ((b : Bare) → shared_call b x ≡ None) → Quiet (Known x)
known-quiet x h c base ram q =
    left-as-shared c (window_of base ram) x q
    ∙ shares-none (ruling_in (bare_of c) (window_of base ram) x) (shared_call (bare_of c) x) (h (bare_of c))

pub translate-quiet : (w : Result Kind NoSuchKind) (va : ℕ) → Quiet (translate_call w va)
unfolding translate_call
translate-quiet (Ok k) va = known-quiet (Call.Translate k va) (λ b. refl)
translate-quiet (Err e) va = λ c base ram q. q

pub data-pa-quiet : (va : ℕ) → Quiet (Known (Call.DataPa va))
data-pa-quiet va = known-quiet (Call.DataPa va) (λ b. refl)

pub fetch-pa-quiet : (va : ℕ) → Quiet (Known (Call.FetchPa va))
fetch-pa-quiet va = known-quiet (Call.FetchPa va) (λ b. refl)

pub load-quiet : (va size : ℕ) → Quiet (Known (Call.Load va size))
load-quiet va size = known-quiet (Call.Load va size) (λ b. refl)

pub store-quiet : (va size v : ℕ) → Quiet (Known (Call.Store va size v))
store-quiet va size v = known-quiet (Call.Store va size v) (λ b. refl)

pub fetch-quiet : (va : ℕ) → Quiet (Known (Call.Fetch va))
fetch-quiet va = known-quiet (Call.Fetch va) (λ b. refl)
