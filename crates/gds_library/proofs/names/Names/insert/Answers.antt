use Rattle.std.proofs.Common.{◌≡◌, refl, sym, ◌∙◌, ap, ℕ, List, ◌||◌, Bool, true, false, not, map, Vec, Global}
use Rattle.std.specs.List.{list_any}
use Rattle.std.specs.BTreeMap.{is_at}
use Rattle.std.specs.Cmp.Lexicographic.{slice_cmp}
use Rattle.std.specs.Ordering.{nat_cmp}
use Rattle.std.specs.Str.{bytes_eq}
use Rattle.std.proofs.lemmas.Map.Text.{is_eq-slice_cmp}
use Rattle.gds_library.specs.Facts.{has_name}
use Rattle.gds_library.proofs.NameSets.{has_already, has_is, inserted, same_key}
use Rattle.gds_library.proofs.names.Names.insert.Goals as goal

held : (c : goal.Then-contains) → has_name c.args.self.now c.args.name.now ≡ true
held c =
    ap (λ names. has_name names c.args.name.now) (sym c.self.view_is) ∙ has_is c.self.inside.names.keys c.args.name.now ∙ sym c.contains.ensures ∙ c.if-contains.true

pub returns-then-contains-clause-fresh : goal.returns-then-contains-clause-fresh
returns-then-contains-clause-fresh c = ap not (sym (held c))

pub returns-then-contains-clause-taken : goal.returns-then-contains-clause-taken
returns-then-contains-clause-taken c = has_already c.args.self.now c.args.name.now (held c)

pub returns-clause-fresh : goal.returns-clause-fresh
returns-clause-fresh c =
    let none : has_name c.args.self.now c.args.name.now ≡ false =
    ap (λ names. has_name names c.args.name.now) (sym c.self.view_is) ∙ has_is c.self.inside.names.keys c.args.name.now ∙ sym c.contains.ensures ∙ c.if-contains.false in
    ap not (sym none)

pub returns-clause-taken : goal.returns-clause-taken
returns-clause-taken c = λ those.
    let old = c.self.inside.names.keys in
    let new = c.insert.new.self.keys in
    let key : Vec ℕ Global = c.in_ok-from_slice.field-0 in
    let test : Vec ℕ Global → Bool = is_at (λ (k : Vec ℕ Global). slice_cmp nat_cmp those k.items) in
    has_is new those ∙ ap (list_any test) c.in_ok-insert.ensures.keys
    ∙ inserted (λ (x y : Vec ℕ Global). slice_cmp nat_cmp x.items y.items) test (same_key those) old key
    ∙ ap (λ t. t || list_any test old) (is_eq-slice_cmp those key.items ∙ ap (bytes_eq those) c.in_ok-from_slice.ensures.items)
    ∙ ap (λ t. bytes_eq those c.args.name.now || t) (sym (has_is old those) ∙ ap (λ names. has_name names those) c.self.view_is)
