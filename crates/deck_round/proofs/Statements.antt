-- The canonical text of statements is spelled by the grammar as they are, but for places, line by line.
use Rattle.std.proofs.Common.{◌≡◌, ℕ, true, false, ◌&&◌, List, [], ◌∷◌, ◌++◌, map, Some, None, refl, sym, ap, subst, ◌∙◌, append_assoc, append-nil}
use Rattle.std.specs.Prelude.{codes}
use Rattle.std.specs.List.{list_all, flat_map}
use Rattle.std.proofs.lemmas.Bool.{and_parts, false≢true}
use Rattle.deck_tree.specs.declared.name_at.NameAt.{NameAt}
use Rattle.deck_tree.specs.declared.number.Number.{Number}
use Rattle.deck_tree.specs.declared.value.Value.{Value}
use Rattle.deck_tree.specs.declared.statement.Statement.{Statement}
use Rattle.deck_tree.specs.declared.statement.Statement.TheVariants as statement
use Rattle.deck_tree.specs.declared.statement.LayerMap.{LayerMap}
use Rattle.deck_tree.specs.declared.statement.MapKind.{MapKind}
use Rattle.deck_tree.specs.declared.statement.MapKind.TheVariants as map_kinds
use Rattle.deck_tree.specs.declared.statement.Item.{Item}
use Rattle.deck_tree.specs.WellFormed.{is_formed_name, is_formed_number, is_formed_value, is_formed_layer, is_formed_map, is_formed_item, is_formed_statement, deepest, depth_of_item, depth_of_statement}
use Rattle.deck_tree.specs.Plain.{plain_name, plain_number, plain_statement}
use Rattle.deck_grammar.specs.declared.kind.Kind.TheVariants as kinds
use Rattle.deck_grammar.specs.Lexemes.{lexeme, number_of}
use Rattle.deck_grammar.specs.Rules as r
use Rattle.deck_grammar.specs.Alternatives as a
use Rattle.deck_printer.specs.Values.{number_text, value_text}
use Rattle.deck_printer.specs.Layers.{layer_text}
use Rattle.deck_printer.specs.Canonical.{file_text, spaced_name, spaced_number, map_text, item_text, statement_text}
use Rattle.deck_round.proofs.Levels.{Fits, both_fit}
use Rattle.deck_round.proofs.Lexing.{Closed, Anything}
use Rattle.deck_round.proofs.Parts.{Ruled, nothing, blank_then, token_then, rule_then, last_token, last_rule, token_space, rule_space}
use Rattle.deck_round.proofs.Keywords as word
use Rattle.deck_round.proofs.Marks.{name_one, number_one, number_said}
use Rattle.deck_round.proofs.AlikeValues.{alike}
use Rattle.deck_round.proofs.Values.{value_spelled}
use Rattle.deck_round.proofs.Layers.{layer_spelled}
use Rattle.deck_round.proofs.Items.{items_spelled}
use Rattle.deck_round.proofs.Lists.{file_spelled, ascii_spelled, no_mode, names_spelled, numbers_spelled, row_with, datatype_spelled, texttype_spelled}

-- ---- Statements

abbrev StatementSpelled : List ℕ → Statement → Type 0
StatementSpelled w those = Ruled Closed 0 r.statement w (λ read. plain_statement read ≡ plain_statement those)

-- the line of a statement, without its end
record Line (those : Statement) : Type 0 where
  body : List ℕ
  text : statement_text those ≡ body ++ codes "\n"
  ruled : StatementSpelled body those

check_body : NameAt → List Item → List ℕ
check_body name items = name.name ++ (codes " {\n" ++ (flat_map item_text items ++ codes "}"))

check_text : (name : NameAt) (items : List Item) → name.name ++ (codes " {\n" ++ (flat_map item_text items ++ codes "}\n")) ≡ check_body name items ++ codes "\n"
unfolding check_body
check_text name items =
    ap (λ (t : List ℕ). name.name ++ (codes " {\n" ++ t)) (sym (append_assoc (flat_map item_text items) (codes "}") (codes "\n")))
    ∙ sym (append_assoc name.name (codes " {\n" ++ (flat_map item_text items ++ codes "}")) (codes "\n"))

check_spelled : (name : NameAt) (items : List Item) → is_formed_name name ≡ true → Fits (list_all is_formed_item items) (deepest (map depth_of_item items)) 0 → StatementSpelled (check_body name items) (statement.Check name items)
unfolding check_body
check_spelled name items formed all = record {
  alternative = a.check;
  spelled = token_space name.name (codes "{\n" ++ (flat_map item_text items ++ codes "}")) (name_one name.name formed) (λ at.
      token_then (codes "{") (codes "\n" ++ (flat_map item_text items ++ codes "}")) word.left_brace (λ rest e. refl) (λ bracket.
      blank_then 10 (flat_map item_text items ++ codes "}") refl (rule_then (flat_map item_text items) (codes "}") (items_spelled items all) (λ rest e. tt) (λ read same.
      last_token (codes "}") word.right_brace (λ close. ap (statement.Check (plain_name name)) same)))));
}

abbrev said : Number → ℕ → Number
said number at = number_of (lexeme kinds.Number at (number_text number))

map_spelled : (place : ℕ) (row : LayerMap) → is_formed_map row ≡ true → StatementSpelled (codes "LAYER MAP" ++ map_text row) (statement.LayerMap place row)
map_spelled place row formed =
    let outer = and_parts _ (is_formed_number row.target) formed in
    let inner = and_parts (is_formed_number row.layer) (is_formed_number row.kind_number) outer.0 in
    by_kind place row.layer row.kind row.kind_number row.target inner.0 inner.1 outer.1
  where
    last : (from : Number) (kind : MapKind) (number to : Number) → is_formed_number from ≡ true → is_formed_number number ≡ true → is_formed_number to ≡ true
        → (at first second third : ℕ) (k : MapKind) → k ≡ kind
        → plain_statement (statement.LayerMap at (row_with (said from first) k (said number second) (said to third))) ≡ statement.LayerMap 0 (row_with (plain_number from) kind (plain_number number) (plain_number to))
    last from kind number to one two three at first second third k is =
        ap (λ (z : Number). statement.LayerMap 0 (row_with z k (plain_number (said number second)) (plain_number (said to third)))) (number_said from one first)
        ∙ ap (λ (z : MapKind). statement.LayerMap 0 (row_with (plain_number from) z (plain_number (said number second)) (plain_number (said to third)))) is
        ∙ ap (λ (z : Number). statement.LayerMap 0 (row_with (plain_number from) kind z (plain_number (said to third)))) (number_said number two second)
        ∙ ap (λ (z : Number). statement.LayerMap 0 (row_with (plain_number from) kind (plain_number number) z)) (number_said to three third)

    by_kind : (place : ℕ) (from : Number) (kind : MapKind) (number to : Number) → is_formed_number from ≡ true → is_formed_number number ≡ true → is_formed_number to ≡ true
        → StatementSpelled (codes "LAYER MAP" ++ map_text (row_with from kind number to)) (statement.LayerMap place (row_with from kind number to))
    by_kind place from map_kinds.DataType number to one two three = record {
      alternative = a.layer_map;
      spelled = token_space (codes "LAYER") (codes "MAP" ++ map_text (row_with from map_kinds.DataType number to)) word.layer (λ at.
          token_space (codes "MAP") (number_text from ++ (codes " DATATYPE" ++ (codes " " ++ (number_text number ++ (codes " " ++ number_text to))))) word.map (λ map.
          token_space (number_text from) (codes "DATATYPE" ++ (codes " " ++ (number_text number ++ (codes " " ++ number_text to)))) (number_one from one) (λ first.
          rule_space (codes "DATATYPE") (number_text number ++ (codes " " ++ number_text to)) datatype_spelled (λ k is.
          token_space (number_text number) (number_text to) (number_one number two) (λ second.
          last_token (number_text to) (number_one to three) (λ third.
          last from map_kinds.DataType number to one two three at first second third k is))))));
    }
    by_kind place from map_kinds.TextType number to one two three = record {
      alternative = a.layer_map;
      spelled = token_space (codes "LAYER") (codes "MAP" ++ map_text (row_with from map_kinds.TextType number to)) word.layer (λ at.
          token_space (codes "MAP") (number_text from ++ (codes " TEXTTYPE" ++ (codes " " ++ (number_text number ++ (codes " " ++ number_text to))))) word.map (λ map.
          token_space (number_text from) (codes "TEXTTYPE" ++ (codes " " ++ (number_text number ++ (codes " " ++ number_text to)))) (number_one from one) (λ first.
          rule_space (codes "TEXTTYPE") (number_text number ++ (codes " " ++ number_text to)) texttype_spelled (λ k is.
          token_space (number_text number) (number_text to) (number_one number two) (λ second.
          last_token (number_text to) (number_one to three) (λ third.
          last from map_kinds.TextType number to one two three at first second third k is))))));
    }

line_of : (those : Statement) → Fits (is_formed_statement those) (depth_of_statement those) 0 → Line those
line_of (statement.LayoutSystem place) fits = record {
  body = codes "LAYOUT SYSTEM GDSII";
  text = refl;
  ruled = record {
    alternative = a.layout_system;
    spelled = token_space (codes "LAYOUT") (codes "SYSTEM GDSII") word.layout (λ at. token_space (codes "SYSTEM") (codes "GDSII") word.system (λ system. last_token (codes "GDSII") word.gdsii (λ gdsii. refl)));
  };
}
line_of (statement.LayoutPath place file) fits = record {
  body = codes "LAYOUT PATH " ++ file_text file;
  text = refl;
  ruled = record {
    alternative = a.layout_path;
    spelled = token_space (codes "LAYOUT") (codes "PATH " ++ file_text file) word.layout (λ at. token_space (codes "PATH") (file_text file) word.path (λ path.
        last_rule (file_text file) (file_spelled file fits.is) (λ f same. ap (statement.LayoutPath 0) same)));
  };
}
line_of (statement.LayoutPrimary place file) fits = record {
  body = codes "LAYOUT PRIMARY " ++ file_text file;
  text = refl;
  ruled = record {
    alternative = a.layout_primary;
    spelled = token_space (codes "LAYOUT") (codes "PRIMARY " ++ file_text file) word.layout (λ at. token_space (codes "PRIMARY") (file_text file) word.primary (λ primary.
        last_rule (file_text file) (file_spelled file fits.is) (λ f same. ap (statement.LayoutPrimary 0) same)));
  };
}
line_of (statement.ResultsDatabase place file) fits = record {
  body = codes "DRC RESULTS DATABASE " ++ (file_text file ++ codes " ASCII");
  text = ap (λ (t : List ℕ). codes "DRC RESULTS DATABASE " ++ t) (sym (append_assoc (file_text file) (codes " ASCII") (codes "\n")));
  ruled = record {
    alternative = a.results_database;
    spelled = token_space (codes "DRC") (codes "RESULTS DATABASE " ++ (file_text file ++ codes " ASCII")) word.drc (λ at.
        token_space (codes "RESULTS") (codes "DATABASE " ++ (file_text file ++ codes " ASCII")) word.results (λ results.
        token_space (codes "DATABASE") (file_text file ++ codes " ASCII") word.database (λ database.
        rule_space (file_text file) (codes "ASCII") (file_spelled file fits.is) (λ f same. last_rule (codes "ASCII") ascii_spelled (λ ascii is. ap (statement.ResultsDatabase 0) same)))));
  };
}
line_of (statement.SummaryReport place file) fits = record {
  body = codes "DRC SUMMARY REPORT " ++ (file_text file ++ []);
  text = ap (λ (t : List ℕ). codes "DRC SUMMARY REPORT " ++ (t ++ codes "\n")) (sym (append-nil (file_text file)));
  ruled = record {
    alternative = a.summary_report;
    spelled = token_space (codes "DRC") (codes "SUMMARY REPORT " ++ (file_text file ++ [])) word.drc (λ at.
        token_space (codes "SUMMARY") (codes "REPORT " ++ (file_text file ++ [])) word.summary (λ summary.
        token_space (codes "REPORT") (file_text file ++ []) word.report (λ report.
        rule_then (file_text file) [] (file_spelled file fits.is) (λ rest e. e) (λ f same. last_rule [] no_mode (λ mode is. ap (statement.SummaryReport 0) same)))));
  };
}
line_of (statement.MaximumResults place None) fits = record {
  body = codes "DRC MAXIMUM RESULTS ALL";
  text = refl;
  ruled = record {
    alternative = a.maximum_all;
    spelled = token_space (codes "DRC") (codes "MAXIMUM RESULTS ALL") word.drc (λ at. token_space (codes "MAXIMUM") (codes "RESULTS ALL") word.maximum (λ maximum.
        token_space (codes "RESULTS") (codes "ALL") word.results (λ results. last_token (codes "ALL") word.all (λ all. refl))));
  };
}
line_of (statement.MaximumResults place (Some value)) fits = record {
  body = codes "DRC MAXIMUM RESULTS " ++ value_text value;
  text = refl;
  ruled = record {
    alternative = a.maximum_results;
    spelled = token_space (codes "DRC") (codes "MAXIMUM RESULTS " ++ value_text value) word.drc (λ at. token_space (codes "MAXIMUM") (codes "RESULTS " ++ value_text value) word.maximum (λ maximum.
        token_space (codes "RESULTS") (value_text value) word.results (λ results.
        last_rule (value_text value) (value_spelled value 0 fits) (λ v same. ap (λ (z : Value). statement.MaximumResults 0 (Some z)) same))));
  };
}
line_of (statement.SelectCheck place []) fits = absurd (false≢true fits.is)
line_of (statement.SelectCheck place (name ∷ names)) fits =
    let both = and_parts (is_formed_name name) (list_all is_formed_name names) fits.is in
    let rest = names_spelled names both.1 in
    record {
      body = codes "DRC SELECT CHECK" ++ flat_map spaced_name (name ∷ names);
      text = refl;
      ruled = record {
        alternative = a.select_check;
        spelled = token_space (codes "DRC") (codes "SELECT CHECK" ++ flat_map spaced_name (name ∷ names)) word.drc (λ at.
            token_space (codes "SELECT") (codes "CHECK" ++ flat_map spaced_name (name ∷ names)) word.select (λ select.
            token_space (codes "CHECK") (name.name ++ flat_map spaced_name names) word.check (λ check.
            token_then name.name (flat_map spaced_name names) (name_one name.name both.0) rest.1 (λ first.
            last_rule (flat_map spaced_name names) rest.0 (λ read all. ap (statement.SelectCheck 0) (alike refl all))))));
      };
    }
line_of (statement.UnselectCheck place []) fits = absurd (false≢true fits.is)
line_of (statement.UnselectCheck place (name ∷ names)) fits =
    let both = and_parts (is_formed_name name) (list_all is_formed_name names) fits.is in
    let rest = names_spelled names both.1 in
    record {
      body = codes "DRC UNSELECT CHECK" ++ flat_map spaced_name (name ∷ names);
      text = refl;
      ruled = record {
        alternative = a.unselect_check;
        spelled = token_space (codes "DRC") (codes "UNSELECT CHECK" ++ flat_map spaced_name (name ∷ names)) word.drc (λ at.
            token_space (codes "UNSELECT") (codes "CHECK" ++ flat_map spaced_name (name ∷ names)) word.unselect (λ unselect.
            token_space (codes "CHECK") (name.name ++ flat_map spaced_name names) word.check (λ check.
            token_then name.name (flat_map spaced_name names) (name_one name.name both.0) rest.1 (λ first.
            last_rule (flat_map spaced_name names) rest.0 (λ read all. ap (statement.UnselectCheck 0) (alike refl all))))));
      };
    }
line_of (statement.Precision place value) fits = record {
  body = codes "PRECISION " ++ value_text value;
  text = refl;
  ruled = record {
    alternative = a.precision;
    spelled = token_space (codes "PRECISION") (value_text value) word.precision (λ at. last_rule (value_text value) (value_spelled value 0 fits) (λ v same. ap (statement.Precision 0) same));
  };
}
line_of (statement.Title place file) fits = record {
  body = codes "TITLE " ++ file_text file;
  text = refl;
  ruled = record {
    alternative = a.title;
    spelled = token_space (codes "TITLE") (file_text file) word.title (λ at. last_rule (file_text file) (file_spelled file fits.is) (λ f same. ap (statement.Title 0) same));
  };
}
line_of (statement.Variable place name value) fits =
    let both = and_parts (is_formed_name name) (is_formed_value value) fits.is in
    record {
      body = codes "VARIABLE " ++ (name.name ++ 32 ∷ value_text value);
      text = ap (λ (t : List ℕ). codes "VARIABLE " ++ t) (sym (append_assoc name.name (32 ∷ value_text value) (codes "\n")));
      ruled = record {
        alternative = a.variable;
        spelled = token_space (codes "VARIABLE") (name.name ++ 32 ∷ value_text value) word.variable (λ at. token_space name.name (value_text value) (name_one name.name both.0) (λ named.
            last_rule (value_text value) (value_spelled value 0 (record { is = both.1; room = fits.room })) (λ v same. ap (statement.Variable 0 (plain_name name)) same)));
      };
    }
line_of (statement.Layer place name []) fits =
    let outer = and_parts (is_formed_name name && false) true fits.is in
    let inner = and_parts (is_formed_name name) false outer.0 in
    absurd (false≢true inner.1)
line_of (statement.Layer place name (number ∷ numbers)) fits =
    let outer = and_parts (is_formed_name name && true) (list_all is_formed_number (number ∷ numbers)) fits.is in
    let inner = and_parts (is_formed_name name) true outer.0 in
    let both = and_parts (is_formed_number number) (list_all is_formed_number numbers) outer.1 in
    let rest = numbers_spelled numbers both.1 in
    record {
      body = codes "LAYER " ++ (name.name ++ flat_map spaced_number (number ∷ numbers));
      text = ap (λ (t : List ℕ). codes "LAYER " ++ t) (sym (append_assoc name.name (flat_map spaced_number (number ∷ numbers)) (codes "\n")));
      ruled = record {
        alternative = a.layer_numbers;
        spelled = token_space (codes "LAYER") (name.name ++ flat_map spaced_number (number ∷ numbers)) word.layer (λ at.
            token_space name.name (number_text number ++ flat_map spaced_number numbers) (name_one name.name inner.0) (λ named.
            token_then (number_text number) (flat_map spaced_number numbers) (number_one number both.0) rest.1 (λ first.
            last_rule (flat_map spaced_number numbers) rest.0 (λ read all. ap (statement.Layer 0 (plain_name name)) (alike (number_said number both.0 first) all)))));
      };
    }
line_of (statement.LayerMap place row) fits = record { body = codes "LAYER MAP" ++ map_text row; text = refl; ruled = map_spelled place row fits.is }
line_of (statement.Definition name layer) fits =
    let both = and_parts (is_formed_name name) (is_formed_layer layer) fits.is in
    record {
      body = name.name ++ (codes " = " ++ layer_text layer);
      text = sym (append_assoc name.name (codes " = " ++ layer_text layer) (codes "\n"));
      ruled = record {
        alternative = a.definition;
        spelled = token_space name.name (codes "= " ++ layer_text layer) (name_one name.name both.0) (λ at. token_space (codes "=") (layer_text layer) word.equals (λ equals.
            last_rule (layer_text layer) (layer_spelled layer 0 (record { is = both.1; room = fits.room })) (λ l same. ap (statement.Definition (plain_name name)) same)));
      };
    }
line_of (statement.Check name items) fits =
    let both = and_parts (is_formed_name name) (list_all is_formed_item items) fits.is in
    record { body = check_body name items; text = check_text name items; ruled = check_spelled name items both.0 (record { is = both.1; room = fits.room }) }

-- ---- Decks

abbrev pub StatementsSpelled : List ℕ → List Statement → Type 0
StatementsSpelled w all = Ruled Anything 0 r.statements w (λ read. map plain_statement read ≡ map plain_statement all)

pub statements_spelled : (all : List Statement) → Fits (list_all is_formed_statement all) (deepest (map depth_of_statement all)) 0 → StatementsSpelled (flat_map statement_text all) all
statements_spelled [] fits = record { alternative = a.no_statement; spelled = nothing refl }
statements_spelled (those ∷ more) fits =
    let both = both_fit (is_formed_statement those) (list_all is_formed_statement more) (depth_of_statement those) (deepest (map depth_of_statement more)) 0 fits in
    let line = line_of those both.0 in
    let spelled : StatementsSpelled (line.body ++ 10 ∷ flat_map statement_text more) (those ∷ more) = record {
      alternative = a.a_statement;
      spelled = rule_then line.body (10 ∷ flat_map statement_text more) line.ruled (λ rest e. refl) (λ first same.
          blank_then 10 (flat_map statement_text more) refl (last_rule (flat_map statement_text more) (statements_spelled more both.1) (λ read all. alike same all)));
    } in
    let text : statement_text those ++ flat_map statement_text more ≡ line.body ++ 10 ∷ flat_map statement_text more =
    ap (λ (t : List ℕ). t ++ flat_map statement_text more) line.text ∙ append_assoc line.body (codes "\n") (flat_map statement_text more) in
    subst (λ (t : List ℕ). StatementsSpelled t (those ∷ more)) (sym text) spelled
