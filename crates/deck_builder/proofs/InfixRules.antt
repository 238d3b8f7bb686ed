-- Operations between two layers, by the words that are there.
use Rattle.std.proofs.Common.{ℕ, true, false, sym, subst}
use Rattle.deck_tree.specs.declared.infix.Infix.TheVariants as infixes
use Rattle.deck_tree.specs.declared.infix.Relation.TheVariants as relations
use Rattle.deck_tree.specs.declared.infix.EdgeRelation.TheVariants as edge_relations
use Rattle.deck_grammar.specs.declared.keyword.Keyword.TheVariants as k
use Rattle.deck_grammar.specs.declared.kind.Kind.{Kind}
use Rattle.deck_grammar.specs.declared.kind.Kind.TheVariants as kinds
use Rattle.deck_grammar.specs.Rules as r
use Rattle.deck_cursor.specs.Places.{Place}
use Rattle.deck_cursor.specs.Steps.{Reads}
use Rattle.deck_builder.specs.declared.infix.Related.{Related}
use Rattle.deck_builder.specs.declared.infix.Related.TheVariants as related
use Rattle.deck_builder.specs.Reading.{TakenAt}
use Rattle.deck_builder.specs.Relations.{placed, MayTake, WithEdge, ReadsRelated, infix_of}
use Rattle.deck_builder.proofs.LayerRules.{or, or_edge, relation, edge_relation, not_relation, not_edge_relation}

pub or_with_edge : {from between to : Place} {at : ℕ} → TakenAt (kinds.Keyword k.Or) from between at → MayTake (kinds.Keyword k.Edge) between to true
    → Reads r.infix_operation from to (placed at infixes.OrEdge)
or_with_edge h m = or_edge h m.1

pub or_alone : {from between to : Place} {at : ℕ} → TakenAt (kinds.Keyword k.Or) from between at → MayTake (kinds.Keyword k.Edge) between to false
    → Reads r.infix_operation from to (placed at infixes.Or)
or_alone {from} {between} {to} {at} h m =
    let P : Place → Type 0 = λ p. Reads r.infix_operation from p (placed at infixes.Or) in subst P (sym m) (or h)

pub inside_with_edge : {from between to : Place} {at : ℕ} → TakenAt (kinds.Keyword k.Inside) from between at → MayTake (kinds.Keyword k.Edge) between to true
    → ReadsRelated from to at (related.Edges edge_relations.Inside)
inside_with_edge h m = record { between = _; edge_at = _; first = h; edge = m.1 }

pub inside_alone : {from between to : Place} {at : ℕ} → TakenAt (kinds.Keyword k.Inside) from between at → MayTake (kinds.Keyword k.Edge) between to false
    → ReadsRelated from to at (related.Polygons relations.Inside)
inside_alone {from} {between} {to} {at} h m = let P : Place → Type 0 = λ p. TakenAt (kinds.Keyword k.Inside) from p at in subst P (sym m) h

pub outside_with_edge : {from between to : Place} {at : ℕ} → TakenAt (kinds.Keyword k.Outside) from between at → MayTake (kinds.Keyword k.Edge) between to true
    → ReadsRelated from to at (related.Edges edge_relations.Outside)
outside_with_edge h m = record { between = _; edge_at = _; first = h; edge = m.1 }

pub outside_alone : {from between to : Place} {at : ℕ} → TakenAt (kinds.Keyword k.Outside) from between at → MayTake (kinds.Keyword k.Edge) between to false
    → ReadsRelated from to at (related.Polygons relations.Outside)
outside_alone {from} {between} {to} {at} h m = let P : Place → Type 0 = λ p. TakenAt (kinds.Keyword k.Outside) from p at in subst P (sym m) h

pub with_edge : {first_kind : Kind} {from between to : Place} {at edge_at : ℕ} → TakenAt first_kind from between at → TakenAt (kinds.Keyword k.Edge) between to edge_at
    → WithEdge first_kind from to at
with_edge h m = record { between = _; edge_at = _; first = h; edge = m }

pub as_infix : (from to : Place) (at : ℕ) (it : Related) → ReadsRelated from to at it → Reads r.infix_operation from to (placed at (infix_of false it))
as_infix from to at (related.Polygons x) h = relation x h
as_infix from to at (related.Edges x) h = edge_relation x h.first h.edge

pub as_not_infix : (from between to : Place) {at : ℕ} (behind : ℕ) (it : Related) → TakenAt (kinds.Keyword k.Not) from between at
    → ReadsRelated between to behind it → Reads r.infix_operation from to (placed at (infix_of true it))
as_not_infix from between to behind (related.Polygons x) h m = not_relation x h m
as_not_infix from between to behind (related.Edges x) h m = not_edge_relation x h m.first m.edge
