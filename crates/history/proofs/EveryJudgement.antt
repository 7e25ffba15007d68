-- After every history each answer comes from where Origin.antt says, and is judged as Judgement.antt says.
use Rattle.std.specs.Prelude.{List}
use Rattle.std.proofs.Common.{subst, arith}
use Rattle.tlb.specs.Live.{Each, done, more}
use Rattle.history.specs.Instance.{real, fresh_plain}
use Rattle.history.proofs.Instance.{real-laws, fresh-asid}
use Rattle.history.proofs.Origins.{origin}
use Rattle.history.specs.Judgement.{Judged}
use Rattle.history.proofs.Judgement.{judged-from, status-row}
use Rattle.history.specs.Theorems.{every_origin, every_judgement, every_fault_row}

each_map : {A : Type 0} {P Q : A → Type 0} {l : List A} → ((a : A) → P a → Q a) → Each P l → Each Q l
each_map f done = done
each_map f (more {a = a} p ps) = more (f a p) (each_map f ps)

pub every-origin : every_origin
every-origin = origin real real-laws fresh_plain fresh-asid (omega arith)

pub every-judgement : every_judgement
every-judgement past m s = each_map (λ g f. judged-from past m g.ask g.answer f) (every-origin past m s)

pub every-fault-row : every_fault_row
every-fault-row past m s =
    each_map (λ g j f e. status-row past m g.ask f (subst (Judged past m g.ask) e j)) (every-judgement past m s)
