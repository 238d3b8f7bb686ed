-- The words between two layers that are relations.
use Rattle.std.specs.Prelude.{◌≡◌, ℕ, Bool, true, false, Option, Some}
use Rattle.deck_tree.specs.declared.infix.Infix.{Infix}
use Rattle.deck_tree.specs.declared.infix.Infix.TheVariants as infixes
use Rattle.deck_grammar.specs.declared.keyword.Keyword.TheVariants as k
use Rattle.deck_grammar.specs.declared.kind.Kind.{Kind}
use Rattle.deck_grammar.specs.declared.kind.Kind.TheVariants as kinds
use Rattle.deck_grammar.specs.Rules.{Placed}
use Rattle.deck_grammar.specs.Alternatives.{relation_word, edge_word}
use Rattle.deck_cursor.specs.Places.{Place}
use Rattle.deck_builder.specs.declared.infix.Related.{Related}
use Rattle.deck_builder.specs.declared.infix.Related.TheVariants as related
use Rattle.deck_builder.specs.Reading.{TakenAt}

-- a token of this kind is taken, or nothing is
abbrev pub MayTake : Kind → Place → Place → Bool → Type 0
MayTake it from to true = (at : ℕ) × TakenAt it from to at
MayTake it from to false = to ≡ from

-- the words of a relation between edges
pub record WithEdge (first_kind : Kind) (from to : Place) (at : ℕ) : Type 0 where
  pub between : Place
  pub edge_at : ℕ
  pub first : TakenAt first_kind from between at
  pub edge : TakenAt (kinds.Keyword k.Edge) between to edge_at

-- the words of a relation, of which the first stands at this offset
abbrev pub ReadsRelated : Place → Place → ℕ → Related → Type 0
ReadsRelated from to at (related.Polygons relation) = TakenAt (kinds.Keyword (relation_word relation)) from to at
ReadsRelated from to at (related.Edges relation) = WithEdge (kinds.Keyword (edge_word relation)) from to at

-- an operation, and the offset of its first word
abbrev pub placed : ℕ → Infix → Placed
placed at operator = record { at = at; operator = operator }

-- a relation as an operation
abbrev pub infix_of : Bool → Related → Infix
infix_of negated (related.Polygons relation) = infixes.Relation negated relation
infix_of negated (related.Edges relation) = infixes.EdgeRelation negated relation

abbrev pub begins_relation : Option Kind → Bool
begins_relation (Some (kinds.Keyword k.Inside)) = true
begins_relation (Some (kinds.Keyword k.Outside)) = true
begins_relation (Some (kinds.Keyword k.Interact)) = true
begins_relation (Some (kinds.Keyword k.Touch)) = true
begins_relation (Some (kinds.Keyword k.Cut)) = true
begins_relation (Some (kinds.Keyword k.Enclose)) = true
begins_relation (Some (kinds.Keyword k.Coincident)) = true
begins_relation _ = false

-- the words with which an operation between two layers begins
abbrev pub begins_operation : Option Kind → Bool
begins_operation (Some (kinds.Keyword k.And)) = true
begins_operation (Some (kinds.Keyword k.Or)) = true
begins_operation (Some (kinds.Keyword k.Not)) = true
begins_operation (Some (kinds.Keyword k.Xor)) = true
begins_operation other = begins_relation other
