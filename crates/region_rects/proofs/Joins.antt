-- Joined pieces: they tile the same rows, and neighbours differ.
use Rattle.std.proofs.Common.{◌≡◌, true, false, cond, ℤ, ◌<ℤ◌, List, [], ◌∷◌, sym, subst, ap, ◌∙◌, arith}
use Rattle.std.proofs.lemmas.Int.{ints, by_lt_z}
use Rattle.list_facts.proofs.Tests.{by_test, clash}
use Rattle.row_state.specs.declared.piece.Piece.{Piece}
use Rattle.row_state.specs.Pieces.{Tile}
use Rattle.region_rects.specs.declared.stretch.Stretch.{Stretch}
use Rattle.region_rects.specs.Working.Joins.{Differ, FirstDiffers, joined, joined_from}
use Rattle.region_rects.specs.Working.Stretches.{equal_same, same_equal, same_stretch}

pub join_same : (p q : Piece Stretch) (qs : List (Piece Stretch)) → same_stretch p.old q.old ≡ true → joined_from p (q ∷ qs) ≡ joined_from (record { x0 = p.x0; x1 = q.x1; old = p.old }) qs
join_same p q qs e = ap (λ b. cond b (joined_from (record { x0 = p.x0; x1 = q.x1; old = p.old }) qs) (p ∷ joined_from q qs)) e

pub join_other : (p q : Piece Stretch) (qs : List (Piece Stretch)) → same_stretch p.old q.old ≡ false → joined_from p (q ∷ qs) ≡ p ∷ joined_from q qs
join_other p q qs e = ap (λ b. cond b (joined_from (record { x0 = p.x0; x1 = q.x1; old = p.old }) qs) (p ∷ joined_from q qs)) e

tile_from : (values : ℤ → Stretch) (x0 x1 : ℤ) (p : Piece Stretch) (qs : List (Piece Stretch)) → Tile values x0 x1 (p ∷ qs) → Tile values x0 x1 (joined_from p qs)
tile_from values x0 x1 p [] t = t
tile_from values x0 x1 p (q ∷ qs) t =
    by_test (same_stretch p.old q.old)
    (λ e.
    subst (Tile values x0 x1) (sym (join_same p q qs e))
    (tile_from values x0 x1 (record { x0 = p.x0; x1 = q.x1; old = p.old }) qs (
      t.0,
      let a : x0 <ℤ p.x1 = t.1 in let b : p.x1 <ℤ q.x1 = t.3.1 in omega (arith, ints),
      λ x l m. by_lt_z x p.x1 (λ n. t.2 x l n) (λ n. t.3.2 x n m ∙ sym (same_equal p.old q.old e)),
      t.3.3,
    )))
    (λ e. subst (Tile values x0 x1) (sym (join_other p q qs e)) (t.0, t.1, t.2, tile_from values p.x1 x1 q qs t.3))

pub tile_joined : (values : ℤ → Stretch) (x0 x1 : ℤ) (ps : List (Piece Stretch)) → Tile values x0 x1 ps → Tile values x0 x1 (joined ps)
tile_joined values x0 x1 [] t = t
tile_joined values x0 x1 (p ∷ ps) t = tile_from values x0 x1 p ps t

first_from : (v : Stretch) (p : Piece Stretch) (qs : List (Piece Stretch)) → (v ≡ p.old → ⊥) → FirstDiffers v (joined_from p qs)
first_from v p [] n = n
first_from v p (q ∷ qs) n =
    by_test (same_stretch p.old q.old)
    (λ e. subst (FirstDiffers v) (sym (join_same p q qs e)) (first_from v (record { x0 = p.x0; x1 = q.x1; old = p.old }) qs n))
    (λ e. subst (FirstDiffers v) (sym (join_other p q qs e)) n)

differ_from : (p : Piece Stretch) (qs : List (Piece Stretch)) → Differ (joined_from p qs)
differ_from p [] = (tt, tt)
differ_from p (q ∷ qs) =
    by_test (same_stretch p.old q.old)
    (λ e. subst Differ (sym (join_same p q qs e)) (differ_from (record { x0 = p.x0; x1 = q.x1; old = p.old }) qs))
    (λ e.
    subst Differ (sym (join_other p q qs e))
    (first_from p.old q qs (λ s. clash (same_stretch p.old q.old) (subst (λ v. same_stretch p.old v ≡ true) s (equal_same p.old)) e), differ_from q qs))

pub differ_joined : (ps : List (Piece Stretch)) → Differ (joined ps)
differ_joined [] = tt
differ_joined (p ∷ ps) = differ_from p ps
