-- The units of a boundary on a line, by the squares on both sides of it.
use Rattle.std.proofs.Common.{◌≡◌, Bool, true, false, not, ◌&&◌, ℤ, pos, ◌+ℤ◌, ◌-ℤ◌, refl, sym, ap, ◌∙◌, arith}
use Rattle.std.proofs.lemmas.Int.{ints}
use mathlib.Core.Bool.{true≢false}
use Rattle.list_facts.proofs.Tests.{and_false}
use Rattle.drc_geom.specs.Squares.{Squares}
use Rattle.drc_geom.specs.Units.{boundary, has_unit}
use Rattle.edge_of_region.specs.Working.Walks.{level_side, upright_side}

module _ (set : Squares) where
  -- an upright side of squares to the west, or to the east
  abbrev pub stands : (east : Bool) → (line row : ℤ) → Bool
  stands true line row = set (line -ℤ pos 1) row && not (set line row)
  stands false line row = set line row && not (set (line -ℤ pos 1) row)

  abbrev pub lies : (inside : Bool) → (line column : ℤ) → Bool
  lies true line column = set column line && not (set column (line -ℤ pos 1))
  lies false line column = set column (line -ℤ pos 1) && not (set column line)

  there_and_back : (z : ℤ) → (z -ℤ pos 1) +ℤ pos 1 ≡ z
  there_and_back z = omega (arith, ints)

  pub upright_unit : (east : Bool) (line row : ℤ) → has_unit (boundary set) (upright_side east) line row ≡ stands east line row
  upright_unit true line row = ap (λ z. set (line -ℤ pos 1) row && not (set z row)) (there_and_back line)
  upright_unit false line row = refl

  pub level_unit : (inside : Bool) (line column : ℤ) → has_unit (boundary set) (level_side inside) line column ≡ lies inside line column
  level_unit true line column = refl
  level_unit false line column = ap (λ z. set column (line -ℤ pos 1) && not (set column z)) (there_and_back line)

  both : (p q : Bool) → p ≡ true → q ≡ false → (p && not q) ≡ true
  both p q e f = ap (λ b. b && not q) e ∙ ap not f

  first_out : (p q : Bool) → p ≡ false → (p && not q) ≡ false
  first_out p q e = ap (λ b. b && not q) e

  second_in : (p q : Bool) → q ≡ true → (p && not q) ≡ false
  second_in p q e = ap (λ b. p && not b) e ∙ and_false p

  pub stands_true : (east : Bool) (line row : ℤ) → set (line -ℤ pos 1) row ≡ east → set line row ≡ not east → stands east line row ≡ true
  stands_true true line row p q = both (set (line -ℤ pos 1) row) (set line row) p q
  stands_true false line row p q = both (set line row) (set (line -ℤ pos 1) row) q p

  parts_of : (p q : Bool) → (p && not q) ≡ true → (p ≡ true) × (q ≡ false)
  parts_of true true e = absurd (true≢false (sym e))
  parts_of true false e = (refl, refl)
  parts_of false q e = absurd (true≢false (sym e))

  pub stands_from : (east : Bool) (line row : ℤ) → stands east line row ≡ true → (set (line -ℤ pos 1) row ≡ east) × (set line row ≡ not east)
  stands_from true line row e = parts_of (set (line -ℤ pos 1) row) (set line row) e
  stands_from false line row e = let p = parts_of (set line row) (set (line -ℤ pos 1) row) e in (p.1, p.0)

  pub stands_false : (east : Bool) (line row : ℤ) → (set (line -ℤ pos 1) row ≡ east → set line row ≡ not east → ⊥) → stands east line row ≡ false
  stands_false east line row n = known (stands east line row) refl
    where
      known : (b : Bool) → stands east line row ≡ b → b ≡ false
      known true e = let p = stands_from east line row e in absurd (n p.0 p.1)
      known false e = refl

  pub lies_true : (inside : Bool) (line column : ℤ) → set column line ≡ inside → set column (line -ℤ pos 1) ≡ not inside → lies inside line column ≡ true
  lies_true true line column p q = both (set column line) (set column (line -ℤ pos 1)) p q
  lies_true false line column p q = both (set column (line -ℤ pos 1)) (set column line) q p

  pub lies_from : (inside : Bool) (line column : ℤ) → lies inside line column ≡ true → (set column line ≡ inside) × (set column (line -ℤ pos 1) ≡ not inside)
  lies_from true line column e = parts_of (set column line) (set column (line -ℤ pos 1)) e
  lies_from false line column e = let p = parts_of (set column (line -ℤ pos 1)) (set column line) e in (p.1, p.0)

  pub lies_false : (inside : Bool) (line column : ℤ) → (set column line ≡ inside → set column (line -ℤ pos 1) ≡ not inside → ⊥) → lies inside line column ≡ false
  lies_false inside line column n = known (lies inside line column) refl
    where
      known : (b : Bool) → lies inside line column ≡ b → b ≡ false
      known true e = let p = lies_from inside line column e in absurd (n p.0 p.1)
      known false e = refl
