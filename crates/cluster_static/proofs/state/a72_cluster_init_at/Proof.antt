-- `a72_cluster_init_at` writes four cores after reset where there is room for them.
use Rattle.std.proofs.Common.{◌≡◌, List, [], ◌∷◌, refl, ap}
use Rattle.std.proofs.raw_atomic.Walks.{proved}
use base.Fraction.{full_share}
use base.Logic.{id⊢}
use base.Fml.{ftrue}
use mir.Val.{vunit}
use prog.Wp.{WpFn}
use contract.Monad.{fact}
use contract.Running.{tables}
use types.Kit.{‵, raw, ◌⊛◌, some, later, prop, ◌$◌, ◌∵◌, !, qed, move, drop, use1, use2, split, join, pick, await, rewrite, feq_i, regoal, suffices, group, done}
use types.Run.{enter, of_opd, unit_lit, init, stop, no_more, assigns, returns}
use types.ByLocal.{alloc_all, pass_all, free_all, look_at, get, through, sets, lands_as}
use borrow.Table.OneValue.{part_in}
use denote.Exit.{yes}
use denote.Laws.{shows}
use denote.RawPtr.{Ptr, RawPtr, block_ptr, room_at, lies_at, in_a_block, rawptr_vals, rawptr_Tells}
use denote.Signature.{plain}
use denote.Steps.{nothing, heard, peeks}
use denote.Triple.Call.{calls_at}
use denote.Triple.Clauses.{lasts}
use denote.Triple.Entry.{on_entry}
use denote.Triple.Spec.{triple_of}
use denote.Triple.Table.{framed}
use denote.Triple.Walked.{Stays, stay_dropped, Goes-dropped, walk_of, ends_at}
use Rattle.cpu.specs.declared.Core.{Core}
use Rattle.cluster.specs.Cluster.{fresh_cluster}
use Rattle.cluster.specs.declared.Cluster.{Cluster}
use Rattle.cluster.specs.contracts.Cluster.{the_row as T}
use Rattle.cluster.proofs.Cluster.TheLaws.{the_row_laws}
use Rattle.cluster.specs.contracts.Cluster.new as g
use Rattle.cluster.proofs.Cluster.new.Met.{met}
use Rattle.cluster_static.specs.contracts.state.a72_cluster_init_at as f
use Rattle.cluster_static.proofs.state.a72_cluster_init_at.Statement.{statement}
use Rattle.cluster_static.proofs.state.a72_cluster_init_at.Code as code

abbrev fresh : Cluster
fresh = record { cores = fresh_cluster }

abbrev stayed : Stays f.ended.signature.params f.ended.kept
stayed = (stay_dropped _ yes, tt)

pub a72_cluster_init_at_spec : {M : Type 1} → statement M
a72_cluster_init_at_spec 𝓤 𝓛 𝓜 𝓡 wired =
    let c = f.clauses 𝓛 𝓜.mem 𝓡.returns in let W = walk_of 𝓛 f.ended stayed c in let 𝓣 = tables 𝓤 𝓛.H 𝓜 𝓡 𝓡.env in
    proved 𝓛 f.ended stayed c 𝓜 𝓡 (Goes-dropped 𝓛 0 (plain (λ _. RawPtr)) yes (λ κs x w. refl), tt)
    f.Key.name code.function (code.unfolded 𝓤 𝓛.H 𝓜 𝓡 wired)
    (λ κs. (rawptr_vals, tt)) (λ κs. (rawptr_Tells, tt)) (λ κs qs bounds a _ are.
    let y : Ptr → W.Ghost = λ p. ((κs, qs, bounds, (p, tt), (rawptr_vals p, tt)), tt) in
    qed 𝓛 (raw (on_entry 𝓛 f.signature κs qs a (y a.0).0.4) ∷ ‵ (room_at T a.0) ∷ []) ∵ drop ! $
    in_a_block ! a.0 (λ p. room_at T p) (id⊢ 𝓤 _) (λ b o e.
    regoal ! (λ p. prop (WpFn 𝓤 𝓛.H 𝓣.C 𝓣.Λ code.function (rawptr_vals p) (W.post (y p)))) e refl $
    enter ! _ _ _ _ _ $ alloc_all ! (λ l. pass_all ! refl ((tt, tt), tt) $
    -- [the room; the locals]
    let G = triple_of 𝓛 g.signature (g.spec 𝓛 𝓜.mem 𝓡.returns) in let z : G.Ghost = ((tt, tt, tt, tt, tt), tt) in
    nothing ! $ nothing ! $ join ! $ nothing ! $ move ! (1 ∷ 0 ∷ []) $ use2 𝓛 (raw (G.pre z)) (id⊢ 𝓤 _) $
    calls_at ! (framed 𝓤 𝓛.H 𝓜 (tables 𝓤 𝓛.H 𝓜 𝓡 𝓡.env)) G (met 𝓤 𝓛 𝓜 𝓡 (code.calls-cluster::Cluster::new 𝓡.env wired)) z (no_more !) (λ v.
    use1 𝓛 (later (some (λ (r : Cluster). (‵ ftrue ⊛ ‵ (T.own_val r (v ∷ []))) ⊛ some (λ (ws : Unit {0}). ‵ (lasts g.ended tt tt ws) ⊛ raw (fact 𝓤 (r.cores ≡ fresh_cluster)))))) (id⊢ 𝓤 _) $
    await ! tt $ pick ! (λ r. split ! $ move ! (1 ∷ []) $ pick ! (λ ws. split ! $ drop ! $ heard ! (r.cores ≡ fresh_cluster) (λ is_fresh. split ! $ drop ! $
    rewrite ! 0 (λ (x : Cluster). ‵ (T.own_val x (v ∷ []))) (ap (λ (l : List Core). record { cores = l }) is_fresh) refl $
    peeks ! T _ (shows 𝓛 T) fresh (v ∷ []) (λ is. let typed = ((the_row_laws.lawful 𝓛).typed fresh (v ∷ []) is).0 in
    lands_as ! refl refl typed $
    -- [the core; the room; the locals]
    assigns ! (of_opd ! (get ! refl)) (through ! refl (stop !)) (init ! 1 refl typed) $
    sets ! (of_opd ! (unit_lit !)) refl (tt, tt) $
    returns ! (look_at ! 0 refl) $ free_all ! refl $ move ! (1 ∷ 0 ∷ []) $
    use2 𝓛 (‵ (lies_at T full_share (block_ptr b o) fresh)) (part_in 𝓛 T refl full_share fresh b o v) $
    suffices ! _ (ends_at 𝓛 f.ended stayed c (y (block_ptr b o)) vunit tt (tt, tt) (tt, tt)) $
    feq_i ! _ (vunit ∷ []) _ refl $ nothing ! $ nothing ! $ join ! $ nothing ! $ group ! 3 $ done !))))))))
