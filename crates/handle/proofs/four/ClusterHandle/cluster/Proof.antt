-- `cluster` lends the cluster, and the handle follows it.
use Rattle.std.proofs.Common.{◌≡◌, List, [], ◌∷◌, refl, ap, ◌∙◌, MutBor}
use Rattle.std.proofs.raw_atomic.Walks.{proved}
use base.Fraction.{full_share}
use base.Logic.{id⊢}
use base.Fml.{Fml, GName, ftrue, flft}
use mir.Syntax.{named}
use mir.Val.{Val, vptr}
use contract.Running.{tables}
use types.Logic.{sem}
use types.Kit.{‵, raw, ◌⊛◌, some, later, at_ret, ◌$◌, ◌∵◌, !, qed, move, keep, drop, use1, pick, await, split, join, fsplit, fsplit3, fjoin, rewrite, suffices, frame, group, done}
use types.Part.{whole, sub, look_in}
use types.Run.{stop, fld, hop, of_opd, addr, first, blocks, exec, returns, enter}
use types.ByLocal.{alloc_all, pass_all, free_all, look_at, get, through, sets, sets_last, env}
use denote.Exit.{no}
use denote.Laws.{shows}
use denote.Follow.{follows, Part, lends_Part}
use denote.Memory.{cell_at}
use denote.RawPtr.{Ptr, block_ptr, lies_at, in_a_block}
use denote.Ref.{MutRef, mut_vals, mut_Tells}
use denote.Signature.{plain, mut_ref_to}
use denote.Steps.{nothing, opens, peeks}
use denote.Triple.Walked.{says, Stays, stay_dropped, walk_of, ends_at, Goes-spent_ref}
use Rattle.std.proofs.VecSteps.Shapes.{after}
use Rattle.cluster.specs.declared.Cluster.{Cluster}
use Rattle.handle.specs.LendingCluster.{with_cluster}
use Rattle.handle.proofs.HandledCluster.{word, back}
use Rattle.cluster.specs.contracts.Cluster.{the_row as T}
use Rattle.handle.specs.contracts.four.ClusterHandle.{the_row as R}
use Rattle.handle.proofs.four.ClusterHandle.TheLaws.{lowers}
use Rattle.handle.specs.contracts.four.ClusterHandle.cluster as f
use Rattle.handle.proofs.four.ClusterHandle.cluster.Statement.{statement}
use Rattle.handle.proofs.four.ClusterHandle.cluster.Code as code

abbrev stayed : Stays f.ended.signature.params f.ended.kept
stayed = (stay_dropped (mut_ref_to (0 ∷ []) tt (plain (λ _. R))) no, tt)

pub cluster_spec : {M : Type 1} → statement M
cluster_spec 𝓤 𝓛 𝓜 𝓡 wired =
    let c = f.clauses 𝓛 𝓜.mem 𝓡.returns in let W = walk_of 𝓛 f.ended stayed c in let 𝓣 = tables 𝓤 𝓛.H 𝓜 𝓡 𝓡.env in
    proved 𝓛 f.ended stayed c 𝓜 𝓡 (Goes-spent_ref 𝓛 1 (0 ∷ []) tt (plain (λ _. R)), tt)
    f.Key.name code.function (code.unfolded 𝓤 𝓛.H 𝓜 𝓡 wired)
    (λ κs. (mut_vals, tt)) (λ κs. (mut_Tells (named 0) κs.0 R, tt)) (λ κs qs bounds a _ are.
    let κ = κs.0 in let q = qs.0 in let rb = a.0.ref_ptr.0 in let ro = a.0.ref_ptr.1 in let γ = a.0.ghost_name in let h = a.0.now in let vs = mut_vals a.0 in
    let y : W.Ghost = ((κs, qs, bounds, a, (vs, tt)), tt) in
    qed 𝓛 (((‵ (flft κ q) ⊛ ‵ ftrue) ⊛ ‵ ((MutRef (named 0) κ R).own_val a.0 vs) ⊛ ‵ ftrue) ∷ ‵ ftrue ∷ []) ∵
    split ! $ split ! $ move ! (2 ∷ []) $ split ! $ keep ! (0 ∷ 2 ∷ []) $
    enter ! _ _ _ _ _ $ alloc_all ! (λ l. pass_all ! refl ((tt, tt), tt) $
    fsplit3 ! $ drop ! $ move ! (0 ∷ 1 ∷ 2 ∷ []) $ opens ! tt R rb ro (λ us.
    move ! (1 ∷ []) $ peeks ! R _ (shows 𝓛 R) h us (λ is. fsplit ! $ drop ! $
    in_a_block ! h.at (λ p. lies_at T full_share p h.cluster) (id⊢ 𝓤 _) (λ b o e.
    let at_us : us ≡ word (block_ptr b o) ∷ [] = lowers.val_is h us is ∙ ap (λ (p : Ptr). word p ∷ []) e in
    let Cell : List Val → Fml = λ ws. cell_at full_share R.mir ws rb ro in let Rest : Fml = Cell (word (block_ptr b o) ∷ []) in
    rewrite ! 1 (λ ws. ‵ (Cell ws)) at_us refl $
    -- [the cluster; the handle's cell; the open borrow, in three entries]
    first ! $ blocks ! $
    sets_last ! (addr ! (through ! refl (fld ! refl (hop ! (look_in ! 1 (sub ! 0 refl (whole !))) (stop !))))) refl (tt, tt) $
    exec ! 𝓣.C 𝓣.Λ (env code.Mir.locals l) (after 1 (code.function).body) (at_ret _ (W.post y)) $
    sets ! (of_opd ! (get ! refl)) refl (tt, tt) $
    move ! (2 ∷ 3 ∷ 4 ∷ 0 ∷ 1 ∷ []) $ group ! 5 $
    use1 𝓛 (later (some (λ (γ' : GName). raw (Part 𝓛 R T (with_cluster h) (named 0) κ q rb ro b o γ (sem 𝓛 Rest) (back 𝓛 h b o rb ro e) h.cluster γ'))))
    (lends_Part 𝓛 R T (with_cluster h) (named 0) κ q rb ro b o γ (sem 𝓛 Rest) (back 𝓛 h b o rb ro e) (R.coded.code h) (R.coded.code h) h.cluster) $ await ! tt $ pick ! (λ γ'.
    returns ! (look_at ! 0 refl) $ free_all ! refl $ keep ! (0 ∷ []) $
    let r : MutBor Cluster = record { ref_ptr = (b, o); ghost_name = γ'; now = h.cluster } in
    use1 𝓛 (‵ ((MutRef (named 0) κ T).own_val r (vptr b o ∷ [])) ⊛ (‵ (flft κ q) ⊛ ‵ (follows R T γ γ' (with_cluster h)))) (id⊢ 𝓤 _) $ split ! $ move ! (1 ∷ []) $ split ! $ move ! (2 ∷ 0 ∷ 1 ∷ []) $
    suffices ! _ (ends_at 𝓛 f.ended stayed c y (vptr b o) r (tt, tt) (tt, tt)) $
    nothing ! $ nothing ! $ fjoin ! $ join ! $ nothing ! $ move ! (2 ∷ 0 ∷ []) $ join ! $ join ! $ frame ! $ says ! refl $ done !))))))
