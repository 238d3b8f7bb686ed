-- What each alternative of a layer reads.
use Rattle.std.proofs.Common.{◌≡◌, ℕ, true, false, [], ◌∷◌, Some, None, refl, sym, ap, subst}
use Rattle.deck_tree.specs.declared.name_at.NameAt.{NameAt}
use Rattle.deck_tree.specs.declared.layer.Layer.{roll-Layer}
use Rattle.deck_tree.specs.declared.layer.Operation.{roll-Operation}
use Rattle.deck_tree.specs.declared.layer.Primary.TheVariants as primaries
use Rattle.deck_tree.specs.declared.layer.Term.TheVariants as terms
use Rattle.deck_tree.specs.declared.layer.Prefix.TheVariants as prefixes
use Rattle.deck_tree.specs.declared.layer.Turn.TheVariants as turns
use Rattle.deck_tree.specs.declared.layer.ExpandSide.TheVariants as sides
use Rattle.deck_tree.specs.declared.infix.Infix.{Infix}
use Rattle.deck_tree.specs.declared.infix.Infix.TheVariants as infixes
use Rattle.deck_tree.specs.declared.infix.Relation.{Relation}
use Rattle.deck_tree.specs.declared.infix.EdgeRelation.{EdgeRelation}
use Rattle.deck_tree.specs.declared.distance.DistanceKind.TheVariants.{Internal, External, Enclosure}
use Rattle.deck_grammar.specs.declared.keyword.Keyword.TheVariants as k
use Rattle.deck_grammar.specs.declared.sign.Sign.TheVariants as s
use Rattle.deck_grammar.specs.declared.kind.Kind.TheVariants as kinds
use Rattle.deck_grammar.specs.Lexemes.{name_of}
use Rattle.deck_grammar.specs.Rules as r
use Rattle.deck_grammar.specs.Rules.{Tree}
use Rattle.deck_grammar.specs.Alternatives as a
use Rattle.deck_grammar.specs.Alternatives.{Alternative, production, no_options, relation_word, edge_word}
use Rattle.deck_cursor.specs.Places.{Place}
use Rattle.deck_cursor.specs.Steps.{Steps, ended, taken, chosen, Reads}
use Rattle.deck_builder.specs.Reading.{TakenAt, Means, Precedes}
use Rattle.deck_builder.specs.Relations.{placed}

pub layer_of : {from p1 to : Place} {first_ : Tree r.primary} {more_ : Tree r.operations}
    → Reads r.primary from p1 first_
    → Reads r.operations p1 to more_
    → Reads r.layer from to (roll-Layer (record { first = first_; more = more_ }))
layer_of h0 h1 =
    record { alternative = a.layer_of; steps = chosen h0.alternative h0.steps (chosen h1.alternative h1.steps (ended refl)) }

pub an_operation : {from p1 p2 to : Place} {placed_ : Tree r.infix_operation} {right_ : Tree r.primary} {more_ : Tree r.operations}
    → Reads r.infix_operation from p1 placed_
    → Reads r.primary p1 p2 right_
    → Reads r.operations p2 to more_
    → Reads r.operations from to (roll-Operation (record { at = placed_.at; operator = placed_.operator; right = right_ }) ∷ more_)
an_operation h0 h1 h2 =
    record { alternative = a.an_operation; steps = chosen h0.alternative h0.steps (chosen h1.alternative h1.steps (chosen h2.alternative h2.steps (ended refl))) }

pub and : {from to : Place} {at_first : ℕ}
    → TakenAt (kinds.Keyword k.And) from to at_first
    → Reads r.infix_operation from to (record { at = at_first; operator = infixes.And })
and h0 =
    record { alternative = a.and; steps = taken _ h0.takes refl (ended refl) }

pub or : {from to : Place} {at_first : ℕ}
    → TakenAt (kinds.Keyword k.Or) from to at_first
    → Reads r.infix_operation from to (record { at = at_first; operator = infixes.Or })
or h0 =
    record { alternative = a.or; steps = taken _ h0.takes refl (ended refl) }

pub not : {from to : Place} {at_first : ℕ}
    → TakenAt (kinds.Keyword k.Not) from to at_first
    → Reads r.infix_operation from to (record { at = at_first; operator = infixes.Not })
not h0 =
    record { alternative = a.not; steps = taken _ h0.takes refl (ended refl) }

pub xor : {from to : Place} {at_first : ℕ}
    → TakenAt (kinds.Keyword k.Xor) from to at_first
    → Reads r.infix_operation from to (record { at = at_first; operator = infixes.Xor })
xor h0 =
    record { alternative = a.xor; steps = taken _ h0.takes refl (ended refl) }

pub or_edge : {from p1 to : Place} {at_first : ℕ} {at_edge : ℕ}
    → TakenAt (kinds.Keyword k.Or) from p1 at_first
    → TakenAt (kinds.Keyword k.Edge) p1 to at_edge
    → Reads r.infix_operation from to (record { at = at_first; operator = infixes.OrEdge })
or_edge h0 h1 =
    record { alternative = a.or_edge; steps = taken _ h0.takes refl (taken _ h1.takes refl (ended refl)) }

pub relation : (x : Relation) → {from to : Place} {at_first : ℕ}
    → TakenAt (kinds.Keyword (relation_word x)) from to at_first
    → Reads r.infix_operation from to (record { at = at_first; operator = infixes.Relation false x })
relation x h0 =
    record { alternative = (a.relation x); steps = taken _ h0.takes refl (ended refl) }

pub not_relation : (x : Relation) → {from p1 to : Place} {at_first : ℕ} {at_second : ℕ}
    → TakenAt (kinds.Keyword k.Not) from p1 at_first
    → TakenAt (kinds.Keyword (relation_word x)) p1 to at_second
    → Reads r.infix_operation from to (record { at = at_first; operator = infixes.Relation true x })
not_relation x h0 h1 =
    record { alternative = (a.not_relation x); steps = taken _ h0.takes refl (taken _ h1.takes refl (ended refl)) }

pub edge_relation : (x : EdgeRelation) → {from p1 to : Place} {at_first : ℕ} {at_edge : ℕ}
    → TakenAt (kinds.Keyword (edge_word x)) from p1 at_first
    → TakenAt (kinds.Keyword k.Edge) p1 to at_edge
    → Reads r.infix_operation from to (record { at = at_first; operator = infixes.EdgeRelation false x })
edge_relation x h0 h1 =
    record { alternative = (a.edge_relation x); steps = taken _ h0.takes refl (taken _ h1.takes refl (ended refl)) }

pub not_edge_relation : (x : EdgeRelation) → {from p1 p2 to : Place} {at_first : ℕ} {at_second : ℕ} {at_edge : ℕ}
    → TakenAt (kinds.Keyword k.Not) from p1 at_first
    → TakenAt (kinds.Keyword (edge_word x)) p1 p2 at_second
    → TakenAt (kinds.Keyword k.Edge) p2 to at_edge
    → Reads r.infix_operation from to (record { at = at_first; operator = infixes.EdgeRelation true x })
not_edge_relation x h0 h1 h2 =
    record { alternative = (a.not_edge_relation x); steps = taken _ h0.takes refl (taken _ h1.takes refl (taken _ h2.takes refl (ended refl))) }

pub name_primary : {from to : Place} {name_ : NameAt}
    → Means kinds.Name name_of from to name_
    → Reads r.primary from to (primaries.Term (terms.Name (name_)))
name_primary h0 =
    record { alternative = a.name_primary; steps = taken _ h0.takes refl (ended (let e0 = h0.is in cc)) }

pub bracketed_primary : {from p1 p2 to : Place} {at_bracket : ℕ} {l_ : Tree r.layer} {at_close_bracket : ℕ}
    → TakenAt (kinds.Sign s.LeftRound) from p1 at_bracket
    → Reads r.layer p1 p2 l_
    → TakenAt (kinds.Sign s.RightRound) p2 to at_close_bracket
    → Reads r.primary from to (primaries.Term (terms.Bracketed at_bracket l_))
bracketed_primary h0 h1 h2 =
    record { alternative = a.bracketed_primary; steps = taken _ h0.takes refl (chosen h1.alternative h1.steps (taken _ h2.takes refl (ended refl))) }

pub copy : {from p1 to : Place} {at_first : ℕ} {t_ : Tree r.term}
    → TakenAt (kinds.Keyword k.Copy) from p1 at_first
    → Reads r.term p1 to t_
    → Reads r.primary from to (primaries.Prefix at_first (prefixes.Copy t_))
copy h0 h1 =
    record { alternative = a.copy; steps = taken _ h0.takes refl (chosen h1.alternative h1.steps (ended refl)) }

pub rectangle : {from p1 to : Place} {at_first : ℕ} {t_ : Tree r.term}
    → TakenAt (kinds.Keyword k.Rectangle) from p1 at_first
    → Reads r.term p1 to t_
    → Reads r.primary from to (primaries.Prefix at_first (prefixes.Rectangle t_))
rectangle h0 h1 =
    record { alternative = a.rectangle; steps = taken _ h0.takes refl (chosen h1.alternative h1.steps (ended refl)) }

pub area : {from p1 p2 to : Place} {at_first : ℕ} {t_ : Tree r.term} {those_ : Tree r.limits}
    → TakenAt (kinds.Keyword k.Area) from p1 at_first
    → Reads r.term p1 p2 t_
    → Reads r.limits p2 to those_
    → Reads r.primary from to (primaries.Prefix at_first (prefixes.Area t_ those_))
area h0 h1 h2 =
    record { alternative = a.area; steps = taken _ h0.takes refl (chosen h1.alternative h1.steps (chosen h2.alternative h2.steps (ended refl))) }

pub length : {from p1 p2 to : Place} {at_first : ℕ} {t_ : Tree r.term} {those_ : Tree r.limits}
    → TakenAt (kinds.Keyword k.Length) from p1 at_first
    → Reads r.term p1 p2 t_
    → Reads r.limits p2 to those_
    → Reads r.primary from to (primaries.Prefix at_first (prefixes.Length t_ those_))
length h0 h1 h2 =
    record { alternative = a.length; steps = taken _ h0.takes refl (chosen h1.alternative h1.steps (chosen h2.alternative h2.steps (ended refl))) }

pub size : {from p1 p2 p3 p4 to : Place} {at_first : ℕ} {t_ : Tree r.term} {at_by_word : ℕ} {v_ : Tree r.value} {w_ : Tree r.turn}
    → TakenAt (kinds.Keyword k.Size) from p1 at_first
    → Reads r.term p1 p2 t_
    → TakenAt (kinds.Keyword k.By) p2 p3 at_by_word
    → Reads r.value p3 p4 v_
    → Reads r.turn p4 to w_
    → Reads r.primary from to (primaries.Prefix at_first (prefixes.Size t_ v_ w_))
size h0 h1 h2 h3 h4 =
    record { alternative = a.size; steps = taken _ h0.takes refl (chosen h1.alternative h1.steps (taken _ h2.takes refl (chosen h3.alternative h3.steps (chosen h4.alternative h4.steps (ended refl))))) }

pub angle : {from p1 p2 p3 to : Place} {at_first : ℕ} {t_ : Tree r.term} {at_equals : ℕ} {v_ : Tree r.value}
    → TakenAt (kinds.Keyword k.Angle) from p1 at_first
    → Reads r.term p1 p2 t_
    → TakenAt (kinds.Sign s.EqualTo) p2 p3 at_equals
    → Reads r.value p3 to v_
    → Reads r.primary from to (primaries.Prefix at_first (prefixes.Angle t_ v_))
angle h0 h1 h2 h3 =
    record { alternative = a.angle; steps = taken _ h0.takes refl (chosen h1.alternative h1.steps (taken _ h2.takes refl (chosen h3.alternative h3.steps (ended refl)))) }

pub expand : {from p1 p2 p3 p4 p5 to : Place} {at_first : ℕ} {at_edge : ℕ} {t_ : Tree r.term} {to__ : Tree r.side} {at_by_word : ℕ} {v_ : Tree r.value}
    → TakenAt (kinds.Keyword k.Expand) from p1 at_first
    → TakenAt (kinds.Keyword k.Edge) p1 p2 at_edge
    → Reads r.term p2 p3 t_
    → Reads r.side p3 p4 to__
    → TakenAt (kinds.Keyword k.By) p4 p5 at_by_word
    → Reads r.value p5 to v_
    → Reads r.primary from to (primaries.Prefix at_first (prefixes.Expand t_ to__ v_))
expand h0 h1 h2 h3 h4 h5 =
    record { alternative = a.expand; steps = taken _ h0.takes refl (taken _ h1.takes refl (chosen h2.alternative h2.steps (chosen h3.alternative h3.steps (taken _ h4.takes refl (chosen h5.alternative h5.steps (ended refl)))))) }

pub internal : {from p1 to : Place} {at_first : ℕ} {d_ : Tree (r.distance Internal)}
    → TakenAt (kinds.Keyword k.Int) from p1 at_first
    → Reads (r.distance Internal) p1 to d_
    → Reads r.primary from to (primaries.Distance at_first d_)
internal h0 h1 =
    record { alternative = a.internal; steps = taken _ h0.takes refl (chosen h1.alternative h1.steps (ended refl)) }

pub external : {from p1 to : Place} {at_first : ℕ} {d_ : Tree (r.distance External)}
    → TakenAt (kinds.Keyword k.Ext) from p1 at_first
    → Reads (r.distance External) p1 to d_
    → Reads r.primary from to (primaries.Distance at_first d_)
external h0 h1 =
    record { alternative = a.external; steps = taken _ h0.takes refl (chosen h1.alternative h1.steps (ended refl)) }

pub enclosure : {from p1 to : Place} {at_first : ℕ} {d_ : Tree (r.distance Enclosure)}
    → TakenAt (kinds.Keyword k.Enc) from p1 at_first
    → Reads (r.distance Enclosure) p1 to d_
    → Reads r.primary from to (primaries.Distance at_first d_)
enclosure h0 h1 =
    record { alternative = a.enclosure; steps = taken _ h0.takes refl (chosen h1.alternative h1.steps (ended refl)) }

pub name_term : {from to : Place} {name_ : NameAt}
    → Means kinds.Name name_of from to name_
    → Reads r.term from to (terms.Name (name_))
name_term h0 =
    record { alternative = a.name_term; steps = taken _ h0.takes refl (ended (let e0 = h0.is in cc)) }

pub bracketed_term : {from p1 p2 to : Place} {at_bracket : ℕ} {l_ : Tree r.layer} {at_close_bracket : ℕ}
    → TakenAt (kinds.Sign s.LeftRound) from p1 at_bracket
    → Reads r.layer p1 p2 l_
    → TakenAt (kinds.Sign s.RightRound) p2 to at_close_bracket
    → Reads r.term from to (terms.Bracketed at_bracket l_)
bracketed_term h0 h1 h2 =
    record { alternative = a.bracketed_term; steps = taken _ h0.takes refl (chosen h1.alternative h1.steps (taken _ h2.takes refl (ended refl))) }

pub overunder : {from to : Place} {at_overunder : ℕ}
    → TakenAt (kinds.Keyword k.OverUnder) from to at_overunder
    → Reads r.turn from to (Some turns.OverUnder)
overunder h0 =
    record { alternative = a.overunder; steps = taken _ h0.takes refl (ended refl) }

pub underover : {from to : Place} {at_underover : ℕ}
    → TakenAt (kinds.Keyword k.UnderOver) from to at_underover
    → Reads r.turn from to (Some turns.UnderOver)
underover h0 =
    record { alternative = a.underover; steps = taken _ h0.takes refl (ended refl) }

pub inside : {from to : Place} {at_inside : ℕ}
    → TakenAt (kinds.Keyword k.Inside) from to at_inside
    → Reads r.side from to (sides.Inside)
inside h0 =
    record { alternative = a.inside; steps = taken _ h0.takes refl (ended refl) }

pub outside : {from to : Place} {at_outside : ℕ}
    → TakenAt (kinds.Keyword k.Outside) from to at_outside
    → Reads r.side from to (sides.Outside)
outside h0 =
    record { alternative = a.outside; steps = taken _ h0.takes refl (ended refl) }

pub no_turn : {from to : Place} → to ≡ from → Reads r.turn from to None
no_turn {from} {to} is = let P : Place → Type 0 = λ at. Reads r.turn from at None in subst P (sym is) (record { alternative = a.no_turn; steps = ended refl })

-- a term is a layer by itself
pub as_primary : {from to : Place} {term : Tree r.term} → Reads r.term from to term → Reads r.primary from to (primaries.Term term)
as_primary {from} {to} {term} h = by_steps h.alternative h.steps
  where
    by_steps : (it : Alternative r.term) → Steps r.term (production it).parts (production it).tree from to term → Reads r.primary from to (primaries.Term term)
    by_steps a.name_term (taken t takes is (ended e)) =
        record { alternative = a.name_primary; steps = taken t takes is (ended (ap primaries.Term e)) }
    by_steps a.bracketed_term (taken t takes is (chosen b s (taken u ends is_end (ended e)))) =
        record { alternative = a.bracketed_primary; steps = taken t takes is (chosen b s (taken u ends is_end (ended (ap primaries.Term e)))) }

pub no_operation : {place : Place} → Reads r.operations place place []
no_operation = record { alternative = a.no_operation; steps = ended refl }

pub operation_is : {from between to : Place} {at : ℕ} {operator : Infix} {right : Tree r.primary} → Reads r.infix_operation from between (placed at operator)
    → Reads r.primary between to right
    → Precedes r.operations (λ all. all) from to (roll-Operation (record { at = at; operator = operator; right = right }))
operation_is h0 h1 = λ behind more h. an_operation h0 h1 h
