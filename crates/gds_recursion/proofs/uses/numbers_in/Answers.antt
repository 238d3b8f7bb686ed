use Rattle.std.proofs.Common.{◌≡◌, ◌↔◌, ℕ, ◌+◌, [], ◌∷◌, ◌++◌, None, Some, sym, ap, subst, ◌∙◌, arith}
use Rattle.std.proofs.lemmas.Option.{slice_get-get_or}
use Rattle.std.specs.Prelude.{slice_get}
use Rattle.std.specs.Global.{Vec}
use Rattle.gds_reach.specs.References.{IsNamedBelow}
use Rattle.gds_reach.proofs.Naming.{below_named, named_below}
use Rattle.gds_recursion.specs.Working.Circles.{IsHeld}
use Rattle.gds_recursion.proofs.Using.{held_more, held_skip, none_held}
use Rattle.gds_recursion.proofs.uses.numbers_in.Goals as goal
use Rattle.gds_recursion.proofs.uses.numbers_in.Goals.{in-Some+in_ok-push, in_default}

pub loop-name-init : goal.loop-name-init
loop-name-init c = subst (λ xs. (j : ℕ) → IsHeld xs j ↔ IsNamedBelow c.args.named.now 0 j) (sym c.new-numbers.ensures.items) (none_held c.args.named.now)

pub loop-name-preserved : goal.loop-name-preserved
loop-name-preserved c =
    let n = c.loop-name.name-index in
    let named = c.args.named.now in
    elim c.match-name.branch [
      | in-Some+in_ok-push w ↦
          let here : slice_get named n ≡ Some (Some w.in-Some.structure) = slice_get-get_or named n None c.loop-name-test.true ∙ ap (λ o. Some o) w.in-Some.is in
          let more : w.push.new.self.items ≡ c.loop-name.numbers.items ++ w.in-Some.structure ∷ [] = w.in_ok-push.ensures.items in
          subst (λ (v : Vec ℕ). (j : ℕ) → IsHeld v.items j ↔ IsNamedBelow named (n + 1) j) (sym w.numbers-is)
          (subst (λ xs. (j : ℕ) → IsHeld xs j ↔ IsNamedBelow named (n + 1) j) (sym more) (held_more named c.loop-name.numbers.items n w.in-Some.structure here c.loop-name.invariant))
      | in_default w ↦
          let none : slice_get named n ≡ Some None = slice_get-get_or named n None c.loop-name-test.true ∙ ap (λ o. Some o) w.in_default.is in
          subst (λ (v : Vec ℕ). (j : ℕ) → IsHeld v.items j ↔ IsNamedBelow named (n + 1) j) (sym w.numbers-is) (held_skip named c.loop-name.numbers.items n none c.loop-name.invariant)
    ]

pub returns : goal.returns
returns c = λ j. (
  λ held. below_named c.args.named.now c.loop-name.name-index j ((c.loop-name.invariant j).0 held),
  λ named. (c.loop-name.invariant j).1 (named_below c.args.named.now c.loop-name.name-index j (let t = c.loop-name-test.false in omega arith) named),
)
