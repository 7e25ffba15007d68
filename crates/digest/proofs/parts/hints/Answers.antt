use Rattle.digest.proofs.Parting.{hints-end}
use Rattle.digest.proofs.parts.hints.Goals as goal

pub returns-clause-digest_value : goal.returns-clause-digest_value
returns-clause-digest_value c = hints-end _ _ _ c.data_hints-s.ensures.digest_value c.with_fetch.ensures.digest_value
