-- What a handle lends.
use base.Fml.{Fml}
use denote.Ref.{MutBor}
use denote.Follow.{follows}
use Rattle.cluster.specs.declared.Cluster.{Cluster}
use Rattle.handle.specs.declared.four.ClusterHandle.{ClusterHandle}
use Rattle.cluster.specs.contracts.Cluster.{the_row as cluster_row}
use Rattle.handle.specs.contracts.four.ClusterHandle.{the_row as handle_row}

-- the handle with another cluster
abbrev pub with_cluster : ClusterHandle → Cluster → ClusterHandle
with_cluster h c = record h { cluster = c }

-- once the loan is over, the handle's cluster is the last value written
abbrev pub lends_cluster : MutBor ClusterHandle → MutBor Cluster → Fml
lends_cluster h r = follows handle_row cluster_row h.ghost_name r.ghost_name (with_cluster h.now)
