use Rattle.std.proofs.Common.{◌≡◌, ◌⊎◌, inl, inr, ◌↔◌, ◌<◌, ◌+◌, ℕ, [], ◌∷◌, ◌++◌, length, None, Some, sym, ap, subst, ◌∙◌, arith}
use Rattle.std.proofs.lemmas.Option.{slice_get-get_or}
use Rattle.std.specs.Prelude.{slice_get}
use Rattle.gds_reach.specs.References.{IsNamedBelow, Refers, named_in}
use Rattle.gds_reach.proofs.Naming.{below_named, below_none, named_below}
use Rattle.gds_reach.proofs.Paths.{named_here}
use Rattle.gds_reach.proofs.Turning.{turn_more, turn_skip}
use Rattle.gds_reach.proofs.liveness.turn.Goals as goal
use Rattle.gds_reach.proofs.liveness.turn.Goals.{in-Some+in_ok-push, in_default}

pub bounds-turned-other : goal.bounds-turned-other
bounds-turned-other c =
    let here : slice_get c.args.named.now c.loop-name.name-index ≡ Some (Some c.in-Some.other) = slice_get-get_or c.args.named.now c.loop-name.name-index None c.loop-name-test.true ∙ ap (λ o. Some o) c.in-Some.is in
    let l = c.requires c.in-Some.other (c.loop-name.name-index, here) in
    let n = c.loop-name.auto.turned in
    omega arith

pub loop-name-init : goal.loop-name-init
loop-name-init c = λ i j. (λ refers. inl refers, λ either. elim either [ inl refers ↦ refers | inr (b, q) ↦ absurd (below_none c.args.named.now i b) ])

pub loop-name-preserved : goal.loop-name-preserved
loop-name-preserved c =
    let n = c.loop-name.name-index in
    let named = c.args.named.now in
    let old = c.args.turned.now in
    let links = c.loop-name.turned in
    elim c.match-name.branch [
      | in-Some+in_ok-push w ↦
          let k = w.in-Some.other in
          let here : slice_get named n ≡ Some (Some k) = slice_get-get_or named n None c.loop-name-test.true ∙ ap (λ o. Some o) w.in-Some.is in
          let l : k < length links = let t = c.requires k (n, here) in let s = c.loop-name.auto.turned in omega arith in
          let more : w.push.new.self.items ≡ named_in links k ++ Some c.args.structure ∷ [] = w.in_ok-push.ensures.items ∙ ap (λ xs. xs ++ Some c.args.structure ∷ []) (sym (named_here links k w.index-turned-other.result l)) in
          subst (λ xs. (i j : ℕ) → Refers xs i j ↔ (Refers old i j ⊎ (IsNamedBelow named (n + 1) i × (j ≡ c.args.structure)))) (sym w.turned-is)
          (turn_more named old links w.push.new.self n k c.args.structure here l more c.loop-name.invariant)
      | in_default w ↦
          let none : slice_get named n ≡ Some None = slice_get-get_or named n None c.loop-name-test.true ∙ ap (λ o. Some o) w.in_default.is in
          subst (λ xs. (i j : ℕ) → Refers xs i j ↔ (Refers old i j ⊎ (IsNamedBelow named (n + 1) i × (j ≡ c.args.structure)))) (sym w.turned-is)
          (turn_skip named old links n c.args.structure none c.loop-name.invariant)
    ]

pub returns : goal.returns
returns c = λ i j.
    let n = c.loop-name.name-index in (
      λ refers. elim ((c.loop-name.invariant i j).0 refers) [
        | inl old ↦ inl old
        | inr (b, q) ↦ inr (below_named c.args.named.now n i b, q)
      ],
      λ either. elim either [
        | inl old ↦ (c.loop-name.invariant i j).1 (inl old)
        | inr (named, q) ↦ (c.loop-name.invariant i j).1 (inr (named_below c.args.named.now n i (let t = c.loop-name-test.false in omega arith) named, q))
      ],
    )
