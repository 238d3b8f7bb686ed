-- The words of operations are spelled by the grammar as they are.
use Rattle.std.proofs.Common.{◌≡◌, ℕ, true, false, Option, Some, None, refl}
use Rattle.std.specs.Prelude.{codes}
use Rattle.deck_tree.specs.declared.infix.Infix.{Infix}
use Rattle.deck_tree.specs.declared.infix.Infix.TheVariants as infixes
use Rattle.deck_tree.specs.declared.infix.Relation.{Relation}
use Rattle.deck_tree.specs.declared.infix.Relation.TheVariants as relations
use Rattle.deck_tree.specs.declared.infix.EdgeRelation.TheVariants as edge_relations
use Rattle.deck_tree.specs.declared.layer.Turn.{Turn}
use Rattle.deck_tree.specs.declared.layer.Turn.TheVariants as turns
use Rattle.deck_tree.specs.declared.layer.ExpandSide.TheVariants as sides
use Rattle.deck_grammar.specs.declared.kind.Kind.TheVariants as kinds
use Rattle.deck_grammar.specs.Rules as r
use Rattle.deck_grammar.specs.Alternatives as a
use Rattle.deck_printer.specs.Layers.{relation_text, infix_text, turn_text}
use Rattle.deck_round.proofs.Lexing.{Closed, Before}
use Rattle.deck_round.proofs.Pieces.{One}
use Rattle.deck_round.proofs.Parts.{Ruled, nothing, blank_then, last_token, token_space}
use Rattle.deck_round.proofs.Keywords as word

pub relation_one : (which : Relation) → One Closed (kinds.Keyword (a.relation_word which)) (relation_text which)
relation_one relations.Inside = word.inside
relation_one relations.Outside = word.outside
relation_one relations.Interact = word.interact
relation_one relations.Touch = word.touch
relation_one relations.Cut = word.cut
relation_one relations.Enclose = word.enclose

abbrev pub InfixSpelled : ℕ → Infix → Type 0
InfixSpelled n operator = Ruled Closed n r.infix_operation (infix_text operator) (λ (read : r.Placed). read.operator ≡ operator)

pub infix_spelled : (n : ℕ) (operator : Infix) → InfixSpelled n operator
infix_spelled n infixes.And = record { alternative = a.and; spelled = last_token (codes "AND") word.and (λ at. refl) }
infix_spelled n infixes.Or = record { alternative = a.or; spelled = last_token (codes "OR") word.or (λ at. refl) }
infix_spelled n infixes.Not = record { alternative = a.not; spelled = last_token (codes "NOT") word.not (λ at. refl) }
infix_spelled n infixes.Xor = record { alternative = a.xor; spelled = last_token (codes "XOR") word.xor (λ at. refl) }
infix_spelled n infixes.OrEdge = record { alternative = a.or_edge; spelled = token_space (codes "OR") (codes "EDGE") word.or (λ at. last_token (codes "EDGE") word.edge (λ edge. refl)) }
infix_spelled n (infixes.Relation false which) = record { alternative = a.relation which; spelled = last_token (relation_text which) (relation_one which) (λ at. refl) }
infix_spelled n (infixes.Relation true which) = record {
  alternative = a.not_relation which;
  spelled = token_space (codes "NOT") (relation_text which) word.not (λ at. last_token (relation_text which) (relation_one which) (λ second. refl));
}
infix_spelled n (infixes.EdgeRelation false edge_relations.Inside) = record {
  alternative = a.edge_relation edge_relations.Inside;
  spelled = token_space (codes "INSIDE") (codes "EDGE") word.inside (λ at. last_token (codes "EDGE") word.edge (λ edge. refl));
}
infix_spelled n (infixes.EdgeRelation true edge_relations.Inside) = record {
  alternative = a.not_edge_relation edge_relations.Inside;
  spelled = token_space (codes "NOT") (codes "INSIDE EDGE") word.not (λ at. token_space (codes "INSIDE") (codes "EDGE") word.inside (λ second. last_token (codes "EDGE") word.edge (λ edge. refl)));
}
infix_spelled n (infixes.EdgeRelation false edge_relations.Outside) = record {
  alternative = a.edge_relation edge_relations.Outside;
  spelled = token_space (codes "OUTSIDE") (codes "EDGE") word.outside (λ at. last_token (codes "EDGE") word.edge (λ edge. refl));
}
infix_spelled n (infixes.EdgeRelation true edge_relations.Outside) = record {
  alternative = a.not_edge_relation edge_relations.Outside;
  spelled = token_space (codes "NOT") (codes "OUTSIDE EDGE") word.not (λ at. token_space (codes "OUTSIDE") (codes "EDGE") word.outside (λ second. last_token (codes "EDGE") word.edge (λ edge. refl)));
}
infix_spelled n (infixes.EdgeRelation false edge_relations.Coincident) = record {
  alternative = a.edge_relation edge_relations.Coincident;
  spelled = token_space (codes "COINCIDENT") (codes "EDGE") word.coincident (λ at. last_token (codes "EDGE") word.edge (λ edge. refl));
}
infix_spelled n (infixes.EdgeRelation true edge_relations.Coincident) = record {
  alternative = a.not_edge_relation edge_relations.Coincident;
  spelled = token_space (codes "NOT") (codes "COINCIDENT EDGE") word.not (λ at. token_space (codes "COINCIDENT") (codes "EDGE") word.coincident (λ second. last_token (codes "EDGE") word.edge (λ edge. refl)));
}

pub turn_spelled : (n : ℕ) (turning : Option Turn) → Ruled Closed n r.turn (turn_text turning) (λ read. read ≡ turning)
turn_spelled n None = record { alternative = a.no_turn; spelled = nothing refl }
turn_spelled n (Some turns.OverUnder) = record { alternative = a.overunder; spelled = blank_then 32 (codes "OVERUNDER") refl (last_token (codes "OVERUNDER") word.overunder (λ at. refl)) }
turn_spelled n (Some turns.UnderOver) = record { alternative = a.underover; spelled = blank_then 32 (codes "UNDEROVER") refl (last_token (codes "UNDEROVER") word.underover (λ at. refl)) }

pub turn_before : (turning : Option Turn) → Before Closed Closed (turn_text turning)
turn_before None = λ rest e. e
turn_before (Some turns.OverUnder) = λ rest e. refl
turn_before (Some turns.UnderOver) = λ rest e. refl

pub inside_spelled : (n : ℕ) → Ruled Closed n r.side (codes "INSIDE") (λ read. read ≡ sides.Inside)
inside_spelled n = record { alternative = a.inside; spelled = last_token (codes "INSIDE") word.inside (λ at. refl) }

pub outside_spelled : (n : ℕ) → Ruled Closed n r.side (codes "OUTSIDE") (λ read. read ≡ sides.Outside)
outside_spelled n = record { alternative = a.outside; spelled = last_token (codes "OUTSIDE") word.outside (λ at. refl) }
