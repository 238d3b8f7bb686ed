-- The statements of a deck: what is found in them doesn't depend on places, and is all that they say.
use Rattle.std.proofs.Common.{◌≡◌, ℕ, ◌<◌, List, [], ◌∷◌, map, Option, Some, None, refl, ap, subst, ◌∙◌}
use Rattle.std.specs.Prelude.{IfSome}
use Rattle.std.proofs.lemmas.Option.{none-some, same_Some}
use Rattle.list_facts.specs.Attempts.{◌>>=◌}
use Rattle.list_facts.proofs.Attempts.{found_by}
use Rattle.deck_tree.specs.declared.number.Number.{Number}
use Rattle.deck_tree.specs.declared.layer.Layer.{Layer}
use Rattle.deck_tree.specs.declared.statement.Statement.{Statement}
use Rattle.deck_tree.specs.declared.statement.Statement.TheVariants as statement
use Rattle.deck_tree.specs.declared.statement.Item.{Item}
use Rattle.deck_tree.specs.declared.statement.Item.TheVariants as item
use Rattle.deck_tree.specs.Plain.{plain_number, plain_item, plain_statement}
use Rattle.first_form.specs.FirstForm.{LayerLine, IsLayerLine, name_of, layer_statement, check_statement, output_of, layers_then}
use Rattle.first_form.specs.Working.Layers.{LengthLine, Line, layer_line}
use Rattle.first_form.specs.Working.Parts.{Head, head_in, layer_number, lone_number, layer_in, CheckLines, items_in, check_in, Parts, one_layer, two_layers, parts_in}
use Rattle.first_form.proofs.Layers.{layer_facts_of, layer_again}
use Rattle.first_form.proofs.Numbers.{spelled, number_found, number_again}

-- ---- the statements above those of the layers

head_same : (a b c d : Statement) → head_in (plain_statement a) (plain_statement b) (plain_statement c) (plain_statement d) ≡ head_in a b c d
unfolding head_in
head_same (statement.LayoutSystem i) (statement.LayoutPath j layout) (statement.LayoutPrimary k primary) (statement.ResultsDatabase l results) = refl
head_same a b c d = refl

record HeadFound (a b c d : Statement) (h : Head) : Type 0 where
  system : plain_statement a ≡ statement.LayoutSystem 0
  path : plain_statement b ≡ statement.LayoutPath 0 (name_of h.layout)
  top : plain_statement c ≡ statement.LayoutPrimary 0 (name_of h.primary)
  database : plain_statement d ≡ statement.ResultsDatabase 0 (name_of h.results)

head_found : (a b c d : Statement) (h : Head) → head_in a b c d ≡ Some h → HeadFound a b c d h
unfolding head_in
head_found (statement.LayoutSystem i) (statement.LayoutPath j layout) (statement.LayoutPrimary k primary) (statement.ResultsDatabase l results) h e =
    let is = same_Some (record { layout = layout.name; primary = primary.name; results = results.name }) h e in
    record {
      system = refl;
      path = ap (λ (x : Head). statement.LayoutPath 0 (name_of x.layout)) is;
      top = ap (λ (x : Head). statement.LayoutPrimary 0 (name_of x.primary)) is;
      database = ap (λ (x : Head). statement.ResultsDatabase 0 (name_of x.results)) is;
    }
head_found a b c d h e = absurd (none-some h e)

-- ---- a layer

number_same : (number : Number) → layer_number (plain_number number) ≡ layer_number number
unfolding layer_number
number_same number = refl

numbers_same : (numbers : List Number) → lone_number (map plain_number numbers) ≡ lone_number numbers
numbers_same [] = refl
numbers_same (number ∷ []) = number_same number
numbers_same (number ∷ other ∷ more) = refl

layer_same : (s : Statement) → layer_in (plain_statement s) ≡ layer_in s
unfolding layer_in
layer_same (statement.Layer at name numbers) = ap (λ (o : Option ℕ). o >>= λ n. Some (record { name = name.name; number = n })) (numbers_same numbers)
layer_same s = refl

numbers_found : (numbers : List Number) (n : ℕ) → lone_number numbers ≡ Some n → (map plain_number numbers ≡ spelled n ∷ []) × (n < 65536)
numbers_found [] n e = absurd (none-some n e)
numbers_found (number ∷ []) n e = let f = number_found number n e in (ap (λ (x : Number). x ∷ []) f.0, f.1)
numbers_found (number ∷ other ∷ more) n e = absurd (none-some n e)

abbrev LayerFound : Statement → LayerLine → Type 0
LayerFound s l = (plain_statement s ≡ layer_statement l) × IsLayerLine l

layer_found : (s : Statement) (l : LayerLine) → layer_in s ≡ Some l → LayerFound s l
unfolding layer_in
layer_found (statement.Layer at name numbers) l e =
    let f = found_by (lone_number numbers) (λ n. Some (record { name = name.name; number = n })) l e in
    let made : LayerLine = record { name = name.name; number = f.0 } in
    let n = numbers_found numbers f.0 f.1 in
    let is : made ≡ l = same_Some made l f.2 in (
      ap (λ (x : List Number). statement.Layer 0 (name_of name.name) x) n.0 ∙ ap layer_statement is,
      subst (λ (x : LayerLine). IsLayerLine x) is n.1,
    )
layer_found s l e = absurd (none-some l e)

line_again : (l : LayerLine) → IsLayerLine l → layer_in (layer_statement l) ≡ Some l
unfolding layer_in
line_again l below = ap (λ (o : Option ℕ). o >>= λ n. Some (record { name = l.name; number = n })) (number_again l.number below)

-- ---- the check

abbrev Noted : Type 0
Noted = List ℕ × LengthLine

items_same : (items : List Item) → items_in (map plain_item items) ≡ items_in items
unfolding items_in
items_same (item.Note note ∷ item.Output layer ∷ []) = ap (λ (o : Line). o >>= λ l. Some (note, l)) (layer_facts_of layer).same
items_same items = refl

abbrev items_of : List ℕ → LengthLine → List Item
items_of note l = item.Note note ∷ item.Output (output_of l.input l.bound) ∷ []

items_found : (items : List Item) (x : Noted) → items_in items ≡ Some x → map plain_item items ≡ items_of x.0 x.1
unfolding items_in
items_found (item.Note note ∷ item.Output layer ∷ []) x e =
    let f = found_by (layer_line layer) (λ l. Some (note, l)) x e in
    let l : LengthLine = f.0 in
    let made : Noted = (note, l) in
    ap (λ (y : Layer). item.Note note ∷ item.Output y ∷ []) ((layer_facts_of layer).found l f.1) ∙ ap (λ (y : Noted). items_of y.0 y.1) (same_Some made x f.2)
items_found items x e = absurd (none-some x e)

check_same : (s : Statement) → check_in (plain_statement s) ≡ check_in s
unfolding check_in
check_same (statement.Check name items) =
    ap (λ (o : Option Noted). o >>= λ i. Some (record { name = name.name; note = i.0; input = i.1.input; bound = i.1.bound })) (items_same items)
check_same s = refl

abbrev check_of : CheckLines → Statement
check_of c = check_statement c.name c.note c.input c.bound

check_found : (s : Statement) (c : CheckLines) → check_in s ≡ Some c → plain_statement s ≡ check_of c
unfolding check_in
check_found (statement.Check name items) c e =
    let f = found_by (items_in items) (λ i. Some (record { name = name.name; note = i.0; input = i.1.input; bound = i.1.bound })) c e in
    let i : Noted = f.0 in
    let made : CheckLines = record { name = name.name; note = i.0; input = i.1.input; bound = i.1.bound } in
    ap (λ (x : List Item). statement.Check (name_of name.name) x) (items_found items i f.1) ∙ ap check_of (same_Some made c f.2)
check_found s c e = absurd (none-some c e)

abbrev noted : List ℕ → Line → Option Noted
noted note o = o >>= λ l. Some (note, l)

abbrev ruled : List ℕ → Option Noted → Option CheckLines
ruled name o = o >>= λ i. Some (record { name = name; note = i.0; input = i.1.input; bound = i.1.bound })

check_again : (c : CheckLines) → check_in (check_of c) ≡ Some c
unfolding check_in items_in
check_again c =
    let l : LengthLine = record { input = c.input; bound = c.bound } in
    ap (λ (o : Line). ruled c.name (noted c.note o)) (layer_again l)

-- ---- all statements

abbrev one_of : Option Head → Option LayerLine → Option CheckLines → Option Parts
one_of h l c = h >>= λ head. l >>= λ first. c >>= λ check. Some (record { head = head; first = first; second = None; check = check })

abbrev two_of : Option Head → Option LayerLine → Option LayerLine → Option CheckLines → Option Parts
two_of h l m c = h >>= λ head. l >>= λ first. m >>= λ second. c >>= λ check. Some (record { head = head; first = first; second = Some second; check = check })

same_one : (h i : Option Head) (l m : Option LayerLine) (c d : Option CheckLines) → h ≡ i → l ≡ m → c ≡ d → one_of h l c ≡ one_of i m d
same_one h i l m c d e f g =
    ap (λ (x : Option Head). one_of x l c) e ∙ ap (λ (x : Option LayerLine). one_of i x c) f ∙ ap (λ (x : Option CheckLines). one_of i m x) g

same_two : (h i : Option Head) (l m o p : Option LayerLine) (c d : Option CheckLines) → h ≡ i → l ≡ m → o ≡ p → c ≡ d → two_of h l o c ≡ two_of i m p d
same_two h i l m o p c d e f k g =
    ap (λ (x : Option Head). two_of x l o c) e ∙ ap (λ (x : Option LayerLine). two_of i x o c) f ∙ ap (λ (x : Option LayerLine). two_of i m x c) k ∙ ap (λ (x : Option CheckLines). two_of i m p x) g

pub parts_same : (statements : List Statement) → parts_in (map plain_statement statements) ≡ parts_in statements
unfolding parts_in one_layer two_layers
parts_same (a ∷ b ∷ c ∷ d ∷ e ∷ f ∷ []) = same_one _ _ _ _ _ _ (head_same a b c d) (layer_same e) (check_same f)
parts_same (a ∷ b ∷ c ∷ d ∷ e ∷ f ∷ g ∷ []) = same_two _ _ _ _ _ _ _ _ (head_same a b c d) (layer_same e) (layer_same f) (check_same g)
parts_same statements = refl

-- the statements of the parts
abbrev pub lines_of : Parts → List Statement
lines_of p =
    statement.LayoutSystem 0
    ∷ statement.LayoutPath 0 (name_of p.head.layout)
    ∷ statement.LayoutPrimary 0 (name_of p.head.primary)
    ∷ statement.ResultsDatabase 0 (name_of p.head.results)
    ∷ layers_then p.first p.second (check_of p.check)

pub record PartsFound (statements : List Statement) (p : Parts) : Type 0 where
  pub lines : map plain_statement statements ≡ lines_of p
  pub first : IsLayerLine p.first
  pub second : IfSome p.second IsLayerLine

head_then : (a b c d : Statement) (more tail : List Statement) (h : Head) → HeadFound a b c d h → map plain_statement more ≡ tail
    → map plain_statement (a ∷ b ∷ c ∷ d ∷ more) ≡ statement.LayoutSystem 0 ∷ statement.LayoutPath 0 (name_of h.layout) ∷ statement.LayoutPrimary 0 (name_of h.primary) ∷ statement.ResultsDatabase 0 (name_of h.results) ∷ tail
head_then a b c d more tail h f e = cc (f.system, f.path, f.top, f.database, e)

one_found : (a b c d e f : Statement) (p : Parts) → one_layer a b c d e f ≡ Some p → PartsFound (a ∷ b ∷ c ∷ d ∷ e ∷ f ∷ []) p
unfolding one_layer
one_found a b c d e f p is =
    let x = found_by (head_in a b c d) (λ head. layer_in e >>= λ first. check_in f >>= λ check. Some (record { head = head; first = first; second = None; check = check })) p is in
    let y = found_by (layer_in e) (λ first. check_in f >>= λ check. Some (record { head = x.0; first = first; second = None; check = check })) p x.2 in
    let z = found_by (check_in f) (λ check. Some (record { head = x.0; first = y.0; second = None; check = check })) p y.2 in
    let made : Parts = record { head = x.0; first = y.0; second = None; check = z.0 } in
    let first = layer_found e y.0 y.1 in
    let tail : map plain_statement (e ∷ f ∷ []) ≡ layer_statement y.0 ∷ check_of z.0 ∷ [] = cc (first.0, check_found f z.0 z.1) in
    subst (λ (q : Parts). PartsFound (a ∷ b ∷ c ∷ d ∷ e ∷ f ∷ []) q) (same_Some made p z.2)
    (record { lines = head_then a b c d (e ∷ f ∷ []) _ x.0 (head_found a b c d x.0 x.1) tail; first = first.1; second = tt })

two_found : (a b c d e f g : Statement) (p : Parts) → two_layers a b c d e f g ≡ Some p → PartsFound (a ∷ b ∷ c ∷ d ∷ e ∷ f ∷ g ∷ []) p
unfolding two_layers
two_found a b c d e f g p is =
    let x = found_by (head_in a b c d) (λ head. layer_in e >>= λ first. layer_in f >>= λ second. check_in g >>= λ check. Some (record { head = head; first = first; second = Some second; check = check })) p is in
    let y = found_by (layer_in e) (λ first. layer_in f >>= λ second. check_in g >>= λ check. Some (record { head = x.0; first = first; second = Some second; check = check })) p x.2 in
    let w = found_by (layer_in f) (λ second. check_in g >>= λ check. Some (record { head = x.0; first = y.0; second = Some second; check = check })) p y.2 in
    let z = found_by (check_in g) (λ check. Some (record { head = x.0; first = y.0; second = Some w.0; check = check })) p w.2 in
    let made : Parts = record { head = x.0; first = y.0; second = Some w.0; check = z.0 } in
    let first = layer_found e y.0 y.1 in
    let second = layer_found f w.0 w.1 in
    let tail : map plain_statement (e ∷ f ∷ g ∷ []) ≡ layer_statement y.0 ∷ layer_statement w.0 ∷ check_of z.0 ∷ [] = cc (first.0, second.0, check_found g z.0 z.1) in
    subst (λ (q : Parts). PartsFound (a ∷ b ∷ c ∷ d ∷ e ∷ f ∷ g ∷ []) q) (same_Some made p z.2)
    (record { lines = head_then a b c d (e ∷ f ∷ g ∷ []) _ x.0 (head_found a b c d x.0 x.1) tail; first = first.1; second = second.1 })

pub parts_found : (statements : List Statement) (p : Parts) → parts_in statements ≡ Some p → PartsFound statements p
unfolding parts_in
parts_found (a ∷ b ∷ c ∷ d ∷ e ∷ f ∷ []) p is = one_found a b c d e f p is
parts_found (a ∷ b ∷ c ∷ d ∷ e ∷ f ∷ g ∷ []) p is = two_found a b c d e f g p is
parts_found statements p is = absurd (none-some p is)

again_by : (head : Head) (first : LayerLine) (second : Option LayerLine) (check : CheckLines) → IsLayerLine first → IfSome second IsLayerLine
    → parts_in (lines_of (record { head = head; first = first; second = second; check = check })) ≡ Some (record { head = head; first = first; second = second; check = check })
unfolding parts_in one_layer two_layers head_in
again_by head first None check f s = same_one (Some head) (Some head) _ (Some first) _ (Some check) refl (line_again first f) (check_again check)
again_by head first (Some second) check f s = same_two (Some head) (Some head) _ (Some first) _ (Some second) _ (Some check) refl (line_again first f) (line_again second s) (check_again check)

pub parts_again : (p : Parts) → IsLayerLine p.first → IfSome p.second IsLayerLine → parts_in (lines_of p) ≡ Some p
parts_again p f s = again_by p.head p.first p.second p.check f s
