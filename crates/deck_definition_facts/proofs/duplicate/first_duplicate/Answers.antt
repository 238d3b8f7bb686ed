use Rattle.std.proofs.Common.{List, sym, subst, ap, ◌∙◌, length}
use Rattle.std.proofs.lemmas.List.{length-map}
use Rattle.deck_tree.specs.declared.refusal.DeckKind.TheVariants as kinds
use Rattle.deck_definitions.specs.Definitions.{Entry, entry_of}
use Rattle.deck_graph.specs.Graphs.{IsRepeated}
use Rattle.deck_facts.specs.FirstFacts.{IsFirst}
use Rattle.deck_definition_facts.specs.Working.Flags.{IsFlagged}
use Rattle.deck_definition_facts.proofs.Flags.{told_of}
use Rattle.deck_definition_facts.proofs.duplicate.first_duplicate.Goals as goal

pub first_flagged-requires : goal.first_flagged-requires
first_flagged-requires c =
    c.repeated.ensures.as_many ∙ (ap length (sym c.definitions.ensures.all) ∙ length-map c.definitions.result.now entry_of)

pub returns : goal.returns
returns c =
    let all = c.args.graph.now.definitions in
    let flags = c.repeated.result.now in
    let P : List Entry → Type 0 = λ those. IsFirst (IsFlagged kinds.DuplicateName those flags) c.first_flagged.result in
    told_of kinds.DuplicateName all flags (IsRepeated all) c.first_flagged.result c.repeated.ensures.as_many c.repeated.ensures.each
    (subst P c.definitions.ensures.all c.first_flagged.ensures)
