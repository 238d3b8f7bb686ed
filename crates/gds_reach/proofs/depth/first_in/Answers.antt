use Rattle.std.proofs.Common.{◌≡◌, ◌<◌, ℕ, true, false, Option, None, Some, length, [], ◌∷◌, List, refl, sym, ap, ◌∙◌, arith}
use Rattle.std.proofs.lemmas.Grind.{common_steps}
use Rattle.std.proofs.lemmas.Option.{slice_get-get_or}
use Rattle.std.specs.Prelude.{slice_get}
use Rattle.std.specs.Global.{Vec}
use Rattle.gds_reach.specs.References.{named_in, IsOn}
use Rattle.gds_reach.specs.Working.Depths.{StandsIn}
use Rattle.gds_reach.proofs.Firsts.{found_first, none_below}
use Rattle.gds_reach.proofs.Paths.{named_here, stands_within}
use Rattle.gds_reach.proofs.depth.first_in.Goals as goal
use Rattle.gds_reach.proofs.depth.first_in.Goals.{else-flags-structure-via-then-flags-structure+else-not-is_empty, else-flags-structure-via-else-flags-structure}

some_first : (xs : List (Option ℕ)) → 0 < length xs → (x : Option ℕ) × (slice_get xs 0 ≡ Some x)
some_first [] l = absurd (omega arith)
some_first (x ∷ xs) l = (x, refl)

none_there : (xs : List (Option ℕ)) → length xs ≡ 0 → xs ≡ []
none_there [] l = refl
none_there (x ∷ xs) l = absurd (omega arith)

pub returns-then-not-is_empty : goal.returns-then-not-is_empty
returns-then-not-is_empty c =
    let i = c.loop-structure.structure in
    let links = c.args.links.now in
    let on : IsOn c.args.flags.now i = slice_get-get_or c.args.flags.now i false (let n = c.requires.all in let t = c.loop-structure-test.true in omega arith) ∙ ap (λ b. Some b) c.if-flags-structure.true in
    let same : named_in links i ≡ c.index-links-structure.result.items = named_here links i c.index-links-structure.result c.loop-structure-test.true ∙ ap (λ (v : Vec (Option ℕ)). v.items) (sym c.index-links-structure.is) in
    let (name, is) = some_first c.index-links-structure.result.items (let h = c.is_empty.ensures in let g = c.if-not-is_empty.true in grind (arith, common_steps)) in
    found_first (λ x place. Unit {0}) (StandsIn links c.args.flags.now) i 0
    ((name, ap (λ xs. slice_get xs 0) same ∙ is), on) c.loop-structure.invariant (λ place less t. omega arith) (λ r stands. tt)

pub loop-structure-preserved : goal.loop-structure-preserved
loop-structure-preserved c =
    let i = c.loop-structure.structure in
    let links = c.args.links.now in
    let l = c.loop-structure-test.true in
    elim c.else-flags-structure.branch [
      | else-flags-structure-via-then-flags-structure+else-not-is_empty w ↦
          let same : named_in links i ≡ w.index-links-structure.result.items = named_here links i w.index-links-structure.result l ∙ ap (λ (v : Vec (Option ℕ)). v.items) (sym w.index-links-structure.is) in
          let empty : named_in links i ≡ [] = same ∙ none_there w.index-links-structure.result.items (let h = w.is_empty.ensures in let g = w.if-not-is_empty.false in grind (arith, common_steps)) in
          none_below (StandsIn links c.args.flags.now) i c.loop-structure.invariant
          (λ r q stands. let e : None ≡ Some stands.0.0 = ap (λ xs. slice_get xs r.place) (sym empty) ∙ (ap (λ x. slice_get (named_in links x) r.place) (sym q) ∙ stands.0.1) in absurd (cc))
      | else-flags-structure-via-else-flags-structure w ↦
          let off : slice_get c.args.flags.now i ≡ Some false = slice_get-get_or c.args.flags.now i false (let n = c.requires.all in omega arith) ∙ ap (λ b. Some b) w.if-flags-structure.false in
          none_below (StandsIn links c.args.flags.now) i c.loop-structure.invariant
          (λ r q stands. let e : Some false ≡ Some true = sym off ∙ (ap (slice_get c.args.flags.now) (sym q) ∙ stands.1) in absurd (cc))
    ]

pub returns : goal.returns
returns c = λ r stands.
    let l = stands_within c.args.links.now r.structure r.place stands.0.0 stands.0.1 in
    let t = c.loop-structure-test.false in
    c.loop-structure.invariant r (omega arith) stands
