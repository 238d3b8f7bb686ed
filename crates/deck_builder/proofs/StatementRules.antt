-- What each alternative of a deck, of its statements and of a check reads.
use Rattle.std.proofs.Common.{◌≡◌, ℕ, List, [], ◌∷◌, Some, None, refl, sym, subst}
use Rattle.deck_tree.specs.declared.name_at.NameAt.{NameAt}
use Rattle.deck_tree.specs.declared.number.Number.{Number}
use Rattle.deck_tree.specs.declared.statement.Statement.TheVariants as statements_of
use Rattle.deck_tree.specs.declared.statement.Item.TheVariants as items_of
use Rattle.deck_tree.specs.declared.statement.MapKind.TheVariants as map_kinds
use Rattle.deck_grammar.specs.declared.keyword.Keyword.TheVariants as k
use Rattle.deck_grammar.specs.declared.sign.Sign.TheVariants as s
use Rattle.deck_grammar.specs.declared.kind.Kind.TheVariants as kinds
use Rattle.deck_grammar.specs.Lexemes.{name_of, file_of, number_of, note_of}
use Rattle.deck_grammar.specs.Rules as r
use Rattle.deck_grammar.specs.Rules.{Tree}
use Rattle.deck_grammar.specs.Alternatives as a
use Rattle.deck_grammar.specs.Alternatives.{Alternative, production, no_options, relation_word, edge_word}
use Rattle.deck_cursor.specs.Places.{Place}
use Rattle.deck_cursor.specs.Steps.{ended, taken, chosen, Reads}
use Rattle.deck_builder.specs.Reading.{TakenAt, Means}

pub a_statement : {from p1 to : Place} {first_ : Tree r.statement} {more_ : Tree r.statements}
    → Reads r.statement from p1 first_
    → Reads r.statements p1 to more_
    → Reads r.statements from to (first_ ∷ more_)
a_statement h0 h1 =
    record { alternative = a.a_statement; steps = chosen h0.alternative h0.steps (chosen h1.alternative h1.steps (ended refl)) }

pub layout_system : {from p1 p2 to : Place} {at_layout : ℕ} {at_system : ℕ} {at_gdsii : ℕ}
    → TakenAt (kinds.Keyword k.Layout) from p1 at_layout
    → TakenAt (kinds.Keyword k.System) p1 p2 at_system
    → TakenAt (kinds.Keyword k.Gdsii) p2 to at_gdsii
    → Reads r.statement from to (statements_of.LayoutSystem at_layout)
layout_system h0 h1 h2 =
    record { alternative = a.layout_system; steps = taken _ h0.takes refl (taken _ h1.takes refl (taken _ h2.takes refl (ended refl))) }

pub layout_path : {from p1 p2 to : Place} {at_layout : ℕ} {at_path : ℕ} {name_ : Tree r.file}
    → TakenAt (kinds.Keyword k.Layout) from p1 at_layout
    → TakenAt (kinds.Keyword k.Path) p1 p2 at_path
    → Reads r.file p2 to name_
    → Reads r.statement from to (statements_of.LayoutPath at_layout name_)
layout_path h0 h1 h2 =
    record { alternative = a.layout_path; steps = taken _ h0.takes refl (taken _ h1.takes refl (chosen h2.alternative h2.steps (ended refl))) }

pub layout_primary : {from p1 p2 to : Place} {at_layout : ℕ} {at_primary : ℕ} {name_ : Tree r.file}
    → TakenAt (kinds.Keyword k.Layout) from p1 at_layout
    → TakenAt (kinds.Keyword k.Primary) p1 p2 at_primary
    → Reads r.file p2 to name_
    → Reads r.statement from to (statements_of.LayoutPrimary at_layout name_)
layout_primary h0 h1 h2 =
    record { alternative = a.layout_primary; steps = taken _ h0.takes refl (taken _ h1.takes refl (chosen h2.alternative h2.steps (ended refl))) }

pub results_database : {from p1 p2 p3 p4 to : Place} {at_drc : ℕ} {at_results : ℕ} {at_database : ℕ} {name_ : Tree r.file} {ascii_ : Tree r.ascii}
    → TakenAt (kinds.Keyword k.Drc) from p1 at_drc
    → TakenAt (kinds.Keyword k.Results) p1 p2 at_results
    → TakenAt (kinds.Keyword k.Database) p2 p3 at_database
    → Reads r.file p3 p4 name_
    → Reads r.ascii p4 to ascii_
    → Reads r.statement from to (statements_of.ResultsDatabase at_drc name_)
results_database h0 h1 h2 h3 h4 =
    record { alternative = a.results_database; steps = taken _ h0.takes refl (taken _ h1.takes refl (taken _ h2.takes refl (chosen h3.alternative h3.steps (chosen h4.alternative h4.steps (ended refl))))) }

pub summary_report : {from p1 p2 p3 p4 to : Place} {at_drc : ℕ} {at_summary : ℕ} {at_report : ℕ} {name_ : Tree r.file} {mode_ : Tree r.mode}
    → TakenAt (kinds.Keyword k.Drc) from p1 at_drc
    → TakenAt (kinds.Keyword k.Summary) p1 p2 at_summary
    → TakenAt (kinds.Keyword k.Report) p2 p3 at_report
    → Reads r.file p3 p4 name_
    → Reads r.mode p4 to mode_
    → Reads r.statement from to (statements_of.SummaryReport at_drc name_)
summary_report h0 h1 h2 h3 h4 =
    record { alternative = a.summary_report; steps = taken _ h0.takes refl (taken _ h1.takes refl (taken _ h2.takes refl (chosen h3.alternative h3.steps (chosen h4.alternative h4.steps (ended refl))))) }

pub maximum_results : {from p1 p2 p3 to : Place} {at_drc : ℕ} {at_maximum : ℕ} {at_results : ℕ} {v_ : Tree r.value}
    → TakenAt (kinds.Keyword k.Drc) from p1 at_drc
    → TakenAt (kinds.Keyword k.Maximum) p1 p2 at_maximum
    → TakenAt (kinds.Keyword k.Results) p2 p3 at_results
    → Reads r.value p3 to v_
    → Reads r.statement from to (statements_of.MaximumResults at_drc (Some v_))
maximum_results h0 h1 h2 h3 =
    record { alternative = a.maximum_results; steps = taken _ h0.takes refl (taken _ h1.takes refl (taken _ h2.takes refl (chosen h3.alternative h3.steps (ended refl)))) }

pub maximum_all : {from p1 p2 p3 to : Place} {at_drc : ℕ} {at_maximum : ℕ} {at_results : ℕ} {at_all : ℕ}
    → TakenAt (kinds.Keyword k.Drc) from p1 at_drc
    → TakenAt (kinds.Keyword k.Maximum) p1 p2 at_maximum
    → TakenAt (kinds.Keyword k.Results) p2 p3 at_results
    → TakenAt (kinds.Keyword k.All) p3 to at_all
    → Reads r.statement from to (statements_of.MaximumResults at_drc None)
maximum_all h0 h1 h2 h3 =
    record { alternative = a.maximum_all; steps = taken _ h0.takes refl (taken _ h1.takes refl (taken _ h2.takes refl (taken _ h3.takes refl (ended refl)))) }

pub select_check : {from p1 p2 p3 p4 to : Place} {at_drc : ℕ} {at_select : ℕ} {at_check : ℕ} {first_ : NameAt} {more_ : Tree r.names}
    → TakenAt (kinds.Keyword k.Drc) from p1 at_drc
    → TakenAt (kinds.Keyword k.Select) p1 p2 at_select
    → TakenAt (kinds.Keyword k.Check) p2 p3 at_check
    → Means kinds.Name name_of p3 p4 first_
    → Reads r.names p4 to more_
    → Reads r.statement from to (statements_of.SelectCheck at_drc (first_ ∷ more_))
select_check h0 h1 h2 h3 h4 =
    record { alternative = a.select_check; steps = taken _ h0.takes refl (taken _ h1.takes refl (taken _ h2.takes refl (taken _ h3.takes refl (chosen h4.alternative h4.steps (ended (let e3 = h3.is in cc)))))) }

pub unselect_check : {from p1 p2 p3 p4 to : Place} {at_drc : ℕ} {at_unselect : ℕ} {at_check : ℕ} {first_ : NameAt} {more_ : Tree r.names}
    → TakenAt (kinds.Keyword k.Drc) from p1 at_drc
    → TakenAt (kinds.Keyword k.Unselect) p1 p2 at_unselect
    → TakenAt (kinds.Keyword k.Check) p2 p3 at_check
    → Means kinds.Name name_of p3 p4 first_
    → Reads r.names p4 to more_
    → Reads r.statement from to (statements_of.UnselectCheck at_drc (first_ ∷ more_))
unselect_check h0 h1 h2 h3 h4 =
    record { alternative = a.unselect_check; steps = taken _ h0.takes refl (taken _ h1.takes refl (taken _ h2.takes refl (taken _ h3.takes refl (chosen h4.alternative h4.steps (ended (let e3 = h3.is in cc)))))) }

pub precision : {from p1 to : Place} {at_precision : ℕ} {v_ : Tree r.value}
    → TakenAt (kinds.Keyword k.Precision) from p1 at_precision
    → Reads r.value p1 to v_
    → Reads r.statement from to (statements_of.Precision at_precision v_)
precision h0 h1 =
    record { alternative = a.precision; steps = taken _ h0.takes refl (chosen h1.alternative h1.steps (ended refl)) }

pub title : {from p1 to : Place} {at_title : ℕ} {name_ : Tree r.file}
    → TakenAt (kinds.Keyword k.Title) from p1 at_title
    → Reads r.file p1 to name_
    → Reads r.statement from to (statements_of.Title at_title name_)
title h0 h1 =
    record { alternative = a.title; steps = taken _ h0.takes refl (chosen h1.alternative h1.steps (ended refl)) }

pub variable : {from p1 p2 to : Place} {at_variable : ℕ} {name_ : NameAt} {v_ : Tree r.value}
    → TakenAt (kinds.Keyword k.Variable) from p1 at_variable
    → Means kinds.Name name_of p1 p2 name_
    → Reads r.value p2 to v_
    → Reads r.statement from to (statements_of.Variable at_variable (name_) v_)
variable h0 h1 h2 =
    record { alternative = a.variable; steps = taken _ h0.takes refl (taken _ h1.takes refl (chosen h2.alternative h2.steps (ended (let e1 = h1.is in cc)))) }

pub layer_numbers : {from p1 p2 p3 to : Place} {at_layer : ℕ} {name_ : NameAt} {first_ : Number} {more_ : Tree r.numbers}
    → TakenAt (kinds.Keyword k.Layer) from p1 at_layer
    → Means kinds.Name name_of p1 p2 name_
    → Means kinds.Number number_of p2 p3 first_
    → Reads r.numbers p3 to more_
    → Reads r.statement from to (statements_of.Layer at_layer (name_) (first_ ∷ more_))
layer_numbers h0 h1 h2 h3 =
    record { alternative = a.layer_numbers; steps = taken _ h0.takes refl (taken _ h1.takes refl (taken _ h2.takes refl (chosen h3.alternative h3.steps (ended (let e1 = h1.is in let e2 = h2.is in cc))))) }

pub layer_map : {from p1 p2 p3 p4 p5 to : Place} {at_layer : ℕ} {at_map : ℕ} {from_ : Number} {kind_ : Tree r.map_kind} {number_ : Number} {to__ : Number}
    → TakenAt (kinds.Keyword k.Layer) from p1 at_layer
    → TakenAt (kinds.Keyword k.Map) p1 p2 at_map
    → Means kinds.Number number_of p2 p3 from_
    → Reads r.map_kind p3 p4 kind_
    → Means kinds.Number number_of p4 p5 number_
    → Means kinds.Number number_of p5 to to__
    → Reads r.statement from to (statements_of.LayerMap at_layer (record { layer = from_; kind = kind_; kind_number = number_; target = to__ }))
layer_map h0 h1 h2 h3 h4 h5 =
    record { alternative = a.layer_map; steps = taken _ h0.takes refl (taken _ h1.takes refl (taken _ h2.takes refl (chosen h3.alternative h3.steps (taken _ h4.takes refl (taken _ h5.takes refl (ended (let e2 = h2.is in let e4 = h4.is in let e5 = h5.is in cc))))))) }

pub definition : {from p1 p2 to : Place} {name_ : NameAt} {at_equals : ℕ} {l_ : Tree r.layer}
    → Means kinds.Name name_of from p1 name_
    → TakenAt (kinds.Sign s.Equals) p1 p2 at_equals
    → Reads r.layer p2 to l_
    → Reads r.statement from to (statements_of.Definition (name_) l_)
definition h0 h1 h2 =
    record { alternative = a.definition; steps = taken _ h0.takes refl (taken _ h1.takes refl (chosen h2.alternative h2.steps (ended (let e0 = h0.is in cc)))) }

pub check : {from p1 p2 p3 to : Place} {name_ : NameAt} {at_bracket : ℕ} {all_ : Tree r.items} {at_close_bracket : ℕ}
    → Means kinds.Name name_of from p1 name_
    → TakenAt (kinds.Sign s.LeftBrace) p1 p2 at_bracket
    → Reads r.items p2 p3 all_
    → TakenAt (kinds.Sign s.RightBrace) p3 to at_close_bracket
    → Reads r.statement from to (statements_of.Check (name_) all_)
check h0 h1 h2 h3 =
    record { alternative = a.check; steps = taken _ h0.takes refl (taken _ h1.takes refl (chosen h2.alternative h2.steps (taken _ h3.takes refl (ended (let e0 = h0.is in cc))))) }

pub file_text : {from to : Place} {it_ : NameAt}
    → Means kinds.Text file_of from to it_
    → Reads r.file from to (it_)
file_text h0 =
    record { alternative = a.file_text; steps = taken _ h0.takes refl (ended (let e0 = h0.is in cc)) }

pub file_name : {from to : Place} {it_ : NameAt}
    → Means kinds.Name name_of from to it_
    → Reads r.file from to (it_)
file_name h0 =
    record { alternative = a.file_name; steps = taken _ h0.takes refl (ended (let e0 = h0.is in cc)) }

pub a_name : {from p1 to : Place} {first_ : NameAt} {more_ : Tree r.names}
    → Means kinds.Name name_of from p1 first_
    → Reads r.names p1 to more_
    → Reads r.names from to (first_ ∷ more_)
a_name h0 h1 =
    record { alternative = a.a_name; steps = taken _ h0.takes refl (chosen h1.alternative h1.steps (ended (let e0 = h0.is in cc))) }

pub a_number : {from p1 to : Place} {first_ : Number} {more_ : Tree r.numbers}
    → Means kinds.Number number_of from p1 first_
    → Reads r.numbers p1 to more_
    → Reads r.numbers from to (first_ ∷ more_)
a_number h0 h1 =
    record { alternative = a.a_number; steps = taken _ h0.takes refl (chosen h1.alternative h1.steps (ended (let e0 = h0.is in cc))) }

pub an_ascii : {from to : Place} {at_ascii : ℕ}
    → TakenAt (kinds.Keyword k.Ascii) from to at_ascii
    → Reads r.ascii from to (tt)
an_ascii h0 =
    record { alternative = a.an_ascii; steps = taken _ h0.takes refl (ended refl) }

pub replace : {from to : Place} {at_replace : ℕ}
    → TakenAt (kinds.Keyword k.Replace) from to at_replace
    → Reads r.mode from to (tt)
replace h0 =
    record { alternative = a.replace; steps = taken _ h0.takes refl (ended refl) }

pub append : {from to : Place} {at_append : ℕ}
    → TakenAt (kinds.Keyword k.Append) from to at_append
    → Reads r.mode from to (tt)
append h0 =
    record { alternative = a.append; steps = taken _ h0.takes refl (ended refl) }

pub datatype : {from to : Place} {at_datatype : ℕ}
    → TakenAt (kinds.Keyword k.DataType) from to at_datatype
    → Reads r.map_kind from to (map_kinds.DataType)
datatype h0 =
    record { alternative = a.datatype; steps = taken _ h0.takes refl (ended refl) }

pub texttype : {from to : Place} {at_texttype : ℕ}
    → TakenAt (kinds.Keyword k.TextType) from to at_texttype
    → Reads r.map_kind from to (map_kinds.TextType)
texttype h0 =
    record { alternative = a.texttype; steps = taken _ h0.takes refl (ended refl) }

pub a_note : {from p1 to : Place} {note_ : List ℕ} {more_ : Tree r.items}
    → Means kinds.Note note_of from p1 note_
    → Reads r.items p1 to more_
    → Reads r.items from to (items_of.Note (note_) ∷ more_)
a_note h0 h1 =
    record { alternative = a.a_note; steps = taken _ h0.takes refl (chosen h1.alternative h1.steps (ended (let e0 = h0.is in cc))) }

pub a_definition : {from p1 p2 p3 to : Place} {name_ : NameAt} {at_equals : ℕ} {l_ : Tree r.layer} {more_ : Tree r.items}
    → Means kinds.Name name_of from p1 name_
    → TakenAt (kinds.Sign s.Equals) p1 p2 at_equals
    → Reads r.layer p2 p3 l_
    → Reads r.items p3 to more_
    → Reads r.items from to (items_of.Definition (name_) l_ ∷ more_)
a_definition h0 h1 h2 h3 =
    record { alternative = a.a_definition; steps = taken _ h0.takes refl (taken _ h1.takes refl (chosen h2.alternative h2.steps (chosen h3.alternative h3.steps (ended (let e0 = h0.is in cc))))) }

pub an_output : {from p1 to : Place} {l_ : Tree r.layer} {more_ : Tree r.items}
    → Reads r.layer from p1 l_
    → Reads r.items p1 to more_
    → Reads r.items from to (items_of.Output l_ ∷ more_)
an_output h0 h1 =
    record { alternative = a.an_output; steps = chosen h0.alternative h0.steps (chosen h1.alternative h1.steps (ended refl)) }

pub no_ascii : {from to : Place} → to ≡ from → Reads r.ascii from to tt
no_ascii {from} {to} is = let P : Place → Type 0 = λ at. Reads r.ascii from at tt in subst P (sym is) (record { alternative = a.no_ascii; steps = ended refl })

pub no_mode : {from to : Place} → to ≡ from → Reads r.mode from to tt
no_mode {from} {to} is = let P : Place → Type 0 = λ at. Reads r.mode from at tt in subst P (sym is) (record { alternative = a.no_mode; steps = ended refl })

pub no_statement : {place : Place} → Reads r.statements place place []
no_statement = record { alternative = a.no_statement; steps = ended refl }

pub no_name : {place : Place} → Reads r.names place place []
no_name = record { alternative = a.no_name; steps = ended refl }

pub no_number : {place : Place} → Reads r.numbers place place []
no_number = record { alternative = a.no_number; steps = ended refl }

pub no_item : {place : Place} → Reads r.items place place []
no_item = record { alternative = a.no_item; steps = ended refl }
