use Rattle.std.proofs.Common.{◌≡◌, ◌⊎◌, inl, inr, ℕ, ◌+◌, None, Some, sym, ap, subst, ◌∙◌, arith}
use Rattle.std.proofs.lemmas.Option.{slice_get-get_or, same_Some}
use Rattle.std.specs.Prelude.{slice_get}
use Rattle.std.specs.Global.{Vec}
use Rattle.gds_reach.specs.Working.Marks.{IsMarked}
use Rattle.gds_reach.proofs.Marking.{both_marked, none_marked, same_marked}
use Rattle.gds_reach.proofs.Naming.{below_here, below_more, below_named, below_none, below_skip, below_split, named_below}
use Rattle.gds_reach.proofs.mark.mark_all.Goals as goal
use Rattle.gds_reach.specs.References.{IsNamedBelow}
use Rattle.gds_reach.proofs.mark.mark_all.Goals.{in-Some+in_ok-mark, in_default}

pub mark-requires : goal.mark-requires
mark-requires c =
    let here : slice_get c.args.named.now c.loop-name.name-index ≡ Some (Some c.in-Some.structure) = slice_get-get_or c.args.named.now c.loop-name.name-index None c.loop-name-test.true ∙ ap (λ o. Some o) c.in-Some.is in
    let l = c.requires c.in-Some.structure (c.loop-name.name-index, here) in
    let n = c.loop-name.invariant.all in
    omega arith

pub loop-name-init : goal.loop-name-init
loop-name-init c = none_marked c.args.flags.now c.args.waiting.now.items (λ j b. absurd (below_none c.args.named.now j b))

pub loop-name-preserved : goal.loop-name-preserved
loop-name-preserved c =
    let n = c.loop-name.name-index in
    elim c.match-name.branch [
      | in-Some+in_ok-mark w ↦
          let here : slice_get c.args.named.now n ≡ Some (Some w.in-Some.structure) = slice_get-get_or c.args.named.now n None c.loop-name-test.true ∙ ap (λ o. Some o) w.in-Some.is in
          let split : (i : ℕ) → IsNamedBelow c.args.named.now (n + 1) i → IsNamedBelow c.args.named.now n i ⊎ (i ≡ w.in-Some.structure) = λ i b. elim (below_split c.args.named.now n i b) [
            | inl old ↦ inl old
            | inr e ↦ inr (same_Some i w.in-Some.structure (same_Some (Some i) (Some w.in-Some.structure) (sym e ∙ here)))
          ] in
          let next : (i : ℕ) → i ≡ w.in-Some.structure → IsNamedBelow c.args.named.now (n + 1) i = λ i q. below_here c.args.named.now n i (here ∙ ap (λ x. Some (Some x)) (sym q)) in
          let marked = both_marked c.args.flags.now c.loop-name.flags w.mark.new.flags c.args.waiting.now.items c.loop-name.waiting.items w.mark.new.waiting.items c.loop-name.invariant w.in_ok-mark.ensures split (below_more c.args.named.now n) next in
          subst (λ flags. IsMarked (IsNamedBelow c.args.named.now (n + 1)) c.args.flags.now c.args.waiting.now.items flags c.match-name.waiting.items) (sym w.flags-is)
          (subst (λ (v : Vec ℕ). IsMarked (IsNamedBelow c.args.named.now (n + 1)) c.args.flags.now c.args.waiting.now.items w.mark.new.flags v.items) (sym w.waiting-is) marked)
      | in_default w ↦
          let none : slice_get c.args.named.now n ≡ Some None = slice_get-get_or c.args.named.now n None c.loop-name-test.true ∙ ap (λ o. Some o) w.in_default.is in
          let marked = same_marked c.args.flags.now c.loop-name.flags c.args.waiting.now.items c.loop-name.waiting.items c.loop-name.invariant (λ i b. below_skip c.args.named.now n i none b) (below_more c.args.named.now n) in
          subst (λ flags. IsMarked (IsNamedBelow c.args.named.now (n + 1)) c.args.flags.now c.args.waiting.now.items flags c.match-name.waiting.items) (sym w.flags-is)
          (subst (λ (v : Vec ℕ). IsMarked (IsNamedBelow c.args.named.now (n + 1)) c.args.flags.now c.args.waiting.now.items c.loop-name.flags v.items) (sym w.waiting-is) marked)
    ]

pub returns : goal.returns
returns c =
    let n = c.loop-name.name-index in
    same_marked c.args.flags.now c.loop-name.flags c.args.waiting.now.items c.loop-name.waiting.items c.loop-name.invariant
    (λ i named. named_below c.args.named.now n i (let t = c.loop-name-test.false in omega arith) named) (below_named c.args.named.now n)
