-- The translations of a call as the audit lists them, and what it says of each.
use Rattle.std.specs.Prelude.{List, [], ◌∷◌, Option, Some, None}
use Rattle.tlb.specs.Asks as Asks
use Rattle.tlb.specs.Asks.{Given, kind_of, address_of}
use Rattle.tlb.specs.Answers.{Answer}
use Rattle.tlb.specs.declared.Inval.{Inval}
use Rattle.cpu.specs.Bare.{bare_of}
use Rattle.cpu.specs.declared.Core.{Core}
use Rattle.history.specs.Window.{Ram}
use Rattle.transparency.specs.Claim.{uncached}
use Rattle.audit.specs.declared.answers.{Ask.Ask, Asked.Asked, Answered.Answered, Answers.Answers}
use Rattle.audit.specs.declared.answers.Ask.TheVariants.{Translates, Fetches}

-- a translation, in the claim's words
abbrev pub ask_of : Ask → Asks.Ask
ask_of (Translates kind va) = Asks.translates kind va
ask_of (Fetches va) = Asks.fetches va

abbrev pub asks_in : Asked → List Asks.Ask
asks_in Asked.Nothing = []
asks_in (Asked.One a) = ask_of a ∷ []
asks_in (Asked.Two a b) = ask_of a ∷ ask_of b ∷ []

-- with the core's answer
abbrev pub given_of : Answered → Given
given_of a = record { ask = ask_of a.ask; answer = a.core }

abbrev pub listed : Answers → List Answered
listed Answers.Nothing = []
listed (Answers.One a) = a ∷ []
listed (Answers.Two a b) = a ∷ b ∷ []

abbrev pub given_in : Answers → List Given
given_in Answers.Nothing = []
given_in (Answers.One a) = given_of a ∷ []
given_in (Answers.Two a b) = given_of a ∷ given_of b ∷ []

-- the answer of the core without a cache to the same translation
abbrev pub fresh_answer : Core → Ram → Ask → Answer
fresh_answer c m a = uncached (bare_of c) m (kind_of (ask_of a)) (address_of (ask_of a))

-- what a call invalidates
abbrev pub drops_in : Option Inval → List Inval
drops_in (Some v) = v ∷ []
drops_in None = []
