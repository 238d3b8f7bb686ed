use Rattle.std.proofs.Common.{◌≡◌, ◌∙◌, arith, w64, to_z, of_z, ◌-ℤ◌}
use Rattle.std.proofs.lemmas.Int.{ints}
use Rattle.gds_placing.proofs.said.displacement.Goals as goal

pub returns-clause-said : goal.returns-clause-said
returns-clause-said c =
    let p = c.point_at-point.result in
    let o = c.point_at-origin.result in
    let near_p = c.point_at-point.ensures.near in
    let near_o = c.point_at-origin.ensures.near in
    let px = near_p.x in
    let py = near_p.y in
    let ox = near_o.x in
    let oy = near_o.y in
    let x : to_z w64 (of_z w64 (to_z w64 (of_z w64 p.x) -ℤ to_z w64 (of_z w64 o.x)))
    ≡ p.x -ℤ o.x = omega (arith, ints) in
    let y : to_z w64 (of_z w64 (to_z w64 (of_z w64 p.y) -ℤ to_z w64 (of_z w64 o.y)))
    ≡ p.y -ℤ o.y = omega (arith, ints) in
    let said_p = c.point_at-point.ensures.said in
    let said_o = c.point_at-origin.ensures.said in
    (λ i. record { x = x i; y = y i })
    ∙ (λ i. record { x = (said_p i).x -ℤ (said_o i).x; y = (said_p i).y -ℤ (said_o i).y })
