-- The data field of a handle, and the handle's cell filled again once the cluster's loan is over. Assumes `Logic`.
use Rattle.std.proofs.Common.{◌≡◌, ℕ, List, [], ◌∷◌, refl, sym}
use seplogic.Ra.Ura.{Ura}
use base.Fraction.{full_share}
use base.Logic.{ent, emp, sep}
use base.Fml.{Fml, fsep}
use mir.Val.{Val, vstruct, vcons, vnil}
use types.Logic.{Logic, sem}
use types.Kit.{‵, ◌$◌, ◌∵◌, !, qed, move, use0, rewrite, fjoin, fpack, done}
use denote.RattleType.{RattleType}
use denote.Memory.{part_at, part_of, mem, cell_at}
use denote.RawPtr.{Ptr, ptr_val, block_ptr, lies_at}
use denote.Shadow.{makes_shadow}
use denote.Struct.Struct.{Struct}
use denote.Struct.Owning.{shape}
use Rattle.cluster.specs.declared.Cluster.{Cluster}
use Rattle.handle.specs.declared.four.ClusterHandle.{ClusterHandle}
use Rattle.cluster.specs.contracts.Cluster.{the_row as T}
use Rattle.handle.specs.contracts.four.ClusterHandle.{the_row as R, the_type as type}
use Rattle.handle.specs.LendingCluster.{with_cluster}

abbrev pub word : Ptr → Val
word p = vstruct (vcons (ptr_val p) vnil)

abbrev pub Data : RattleType
Data = Struct (shape type)

module _ {M : Type 1} {𝓤 : Ura M} (𝓛 : Logic 𝓤) where
  pub made : (p : Ptr) → ent 𝓤 (emp 𝓤) (sem 𝓛 (Data.own_val (p, tt) (word p ∷ [])))
  made p = makes_shadow 𝓛 (Data.own_val (p, tt) (word p ∷ [])) (λ vss. (tt, (tt, tt))) ((ptr_val p ∷ [], tt), (refl, (refl, tt)))

  -- with a cluster at the handle's pointer, the handle's cell is a handle of it
  pub back : (h : ClusterHandle) (b o rb ro : ℕ) → h.at ≡ block_ptr b o → (w : Cluster) → ent 𝓤 (sep 𝓤 (sem 𝓛 ((mem T).own_at w b o)) (sem 𝓛 (cell_at full_share R.mir (word (block_ptr b o) ∷ []) rb ro))) (sem 𝓛 ((mem R).own_at (with_cluster h w) rb ro))
  unfolding part_of
  back h b o rb ro e w =
      let Cell : Ptr → Fml = λ p. cell_at full_share R.mir (word p ∷ []) rb ro in
      qed 𝓛 (‵ (part_at T full_share w b o) ∷ ‵ (Cell (block_ptr b o)) ∷ []) ∵
      rewrite ! 0 (λ p. ‵ (lies_at T full_share p w)) (sym e) refl $ rewrite ! 1 (λ p. ‵ (Cell p)) (sym e) refl $
      use0 𝓛 (‵ (Data.own_val (h.at, tt) (word h.at ∷ []))) (made h.at) $ fjoin ! $ move ! (1 ∷ 0 ∷ []) $ fjoin ! $
      fpack ! (List Val) (λ us. fsep (cell_at full_share R.mir us rb ro) (R.own_val (with_cluster h w) us)) (word h.at ∷ []) $ done !
