use Rattle.std.proofs.Common.{List, sym, subst, ap, ◌∙◌, length}
use Rattle.std.proofs.lemmas.List.{length-map}
use Rattle.deck_order.specs.Orders.{TellCyclic}
use Rattle.deck_tree.specs.declared.refusal.DeckKind.TheVariants as kinds
use Rattle.deck_definitions.specs.Definitions.{Entry}
use Rattle.deck_graph.specs.Graphs.{uses_of, LeadsTo}
use Rattle.deck_graph.proofs.Leading.{leads_to, leads_back}
use Rattle.deck_facts.specs.FirstFacts.{IsFirst}
use Rattle.deck_definition_facts.specs.Working.Flags.{IsFlagged}
use Rattle.deck_definition_facts.proofs.Flags.{told_of}
use Rattle.deck_definition_facts.proofs.circle.first_circle.Goals as goal

pub returns : goal.returns
returns c =
    let all = c.args.graph.now.definitions in
    let uses = c.uses.result.now in
    let are = c.uses.ensures.uses in
    let flags = c.deref.result.now in
    let tell : TellCyclic uses flags = subst (TellCyclic uses) (sym c.deref.ensures.value) c.in_ok-ordered.ensures.cyclic in
    let P : List Entry → Type 0 = λ those. IsFirst (IsFlagged kinds.LayerCycle those flags) c.first_flagged.result in
    told_of kinds.LayerCycle all flags (λ number. LeadsTo all number number) c.first_flagged.result
    (tell.all ∙ (sym (length-map uses (λ v. v.items)) ∙ (ap length are ∙ length-map all (uses_of all))))
    (λ i b flag. (λ on. leads_to all uses are ((tell.each i b flag).0 on), λ round. (tell.each i b flag).1 (leads_back all uses are round)))
    (subst P c.definitions.ensures.all c.first_flagged.ensures)
