use Rattle.std.proofs.Common.{◌≡◌, ℕ, ◌+◌, ◌<◌, List, [], ◌∷◌, ◌++◌, drop, length, Option, None, Some, sym, ap, subst, ◌∙◌, arith}
use Rattle.std.specs.Borrow.{Bor}
use Rattle.std.specs.Global.{Vec}
use Rattle.std.specs.List.{filter_map}
use Rattle.std.specs.Option.{option_map}
use Rattle.deck_names.specs.declared.definition.Scope.TheVariants as scope
use Rattle.deck_names.specs.Definitions.{stands_for}
use Rattle.gds_links.specs.Working.Naming.{link_by, links_by, name_in}
use Rattle.gds_links.proofs.Finding.{none_found, one_found, some_at}
use Rattle.gds_links.proofs.references.links_in.Goals as goal
use Rattle.gds_links.proofs.references.links_in.Goals.{in-Some+in_ok-push, in_default}

pub loop-index-preserved : goal.loop-index-preserved
loop-index-preserved c =
    let n = c.loop-index.index in
    let kept = c.args.names.now.definitions in
    let elements = c.args.structure.now.elements in
    let whole = links_by kept c.args.structure.now in
    let l : n < length elements = omega arith in
    let (d, here) = some_at elements n l in
    let named : name_in d ≡ option_map (λ (name : Bor (List ℕ)). name.now) c.name_at-named.result = c.name_at-named.ensures d here in
    let stands : Option (List ℕ) → Option (Option ℕ) = option_map (λ name. stands_for kept scope.Everywhere name) in
    elim c.match-named.branch [
      | in-Some+in_ok-push w ↦
          let link : link_by kept d ≡ Some w.find.result = ap stands (named ∙ ap (option_map (λ (name : Bor (List ℕ)). name.now)) w.in-Some.is) ∙ ap (λ o. Some o) (sym w.find.ensures) in
          let more : w.push.new.self.items ≡ c.loop-index.links.items ++ w.find.result ∷ [] = w.in_ok-push.ensures.items in
          subst (λ (v : Vec (Option ℕ)). v.items ++ filter_map (link_by kept) (drop (n + 1) elements) ≡ whole) (sym w.links-is)
          (subst (λ xs. xs ++ filter_map (link_by kept) (drop (n + 1) elements) ≡ whole) (sym more)
          (one_found (link_by kept) elements n d here c.loop-index.links.items w.find.result whole link c.loop-index.invariant))
      | in_default w ↦
          let link : link_by kept d ≡ None = ap stands (named ∙ ap (option_map (λ (name : Bor (List ℕ)). name.now)) w.in_default.is) in
          subst (λ (v : Vec (Option ℕ)). v.items ++ filter_map (link_by kept) (drop (n + 1) elements) ≡ whole) (sym w.links-is)
          (none_found (link_by kept) elements n d here c.loop-index.links.items whole link c.loop-index.invariant)
    ]
