-- The tables, once a check is opened or a name is defined.
use Rattle.std.proofs.Common.{◌≡◌, ◌≢◌, ◌⊎◌, ◌↔◌, ◌||◌, is_some, ℕ, zero, suc, ◌+◌, ◌<◌, Bool, true, false, cond, ◌&&◌, List, [], ◌∷◌, ◌++◌, length, Some, None, slice_get, slice_set, refl, sym, ap, subst, ◌∙◌, inl, inr, arith}
use Rattle.std.proofs.lemmas.Bool.{cases_Bool, eqb-true, eq-eqb}
use Rattle.std.proofs.lemmas.List.{length-append}
use Rattle.std.proofs.lemmas.Option.{none-some, same_Some}
use Rattle.std.specs.Prelude.{nat_eq}
use Rattle.std.specs.Borrow.{Bor}
use Rattle.std.specs.List.{AllByRecursion, position_from}
use Rattle.deck_names.specs.declared.definition.Definition.{Definition}
use Rattle.deck_names.specs.declared.definition.Scope.{Scope}
use Rattle.deck_names.specs.declared.definition.Scope.TheVariants as scope
use Rattle.deck_names.specs.declared.table.Table.{Table}
use Rattle.deck_names.specs.declared.tables.Tables.{Tables}
use Rattle.std.specs.Global.{Vec}
use Rattle.deck_names.specs.Definitions.{has_name, definition, stands_for, IsRepetition, IsPlace}
use Rattle.deck_names.specs.Tables.{found, is_outside, is_inside, is_in, HasFirsts, AreTables}
use Rattle.deck_names.specs.Working.Tables.{entered, least_of, IsEntered}
use Rattle.deck_names.proofs.Firsts.{entered_more, kept_more, stands_outside, stands_inside}
use Rattle.deck_names.proofs.Repetitions.{outside_tells, inside_tells}

-- ---- lists

module _ {X : Type 0} where
  old_or_new : (xs : List X) (y : X) (k : ℕ) (x : X) → slice_get (xs ++ y ∷ []) k ≡ Some x → (slice_get xs k ≡ Some x) ⊎ ((k ≡ length xs) × (x ≡ y))
  old_or_new [] y zero x e = inr (refl, sym (same_Some y x e))
  old_or_new [] y (suc k) x e = absurd (none-some x e)
  old_or_new (z ∷ zs) y zero x e = inl e
  old_or_new (z ∷ zs) y (suc k) x e =
      elim (old_or_new zs y k x e) [
        | inl g ↦ inl g
        | inr r ↦ inr (ap suc r.0, r.1)
      ]

  set_or_kept : (xs : List X) (k : ℕ) (y : X) (j : ℕ) (x : X) → slice_get (slice_set xs k y) j ≡ Some x → ((j ≡ k) × (x ≡ y)) ⊎ ((j ≢ k) × (slice_get xs j ≡ Some x))
  set_or_kept [] k y j x e = absurd (none-some x e)
  set_or_kept (z ∷ zs) zero y zero x e = inl (refl, sym (same_Some y x e))
  set_or_kept (z ∷ zs) zero y (suc j) x e = inr ((λ q. absurd (omega (arith, q))), e)
  set_or_kept (z ∷ zs) (suc k) y zero x e = inr ((λ q. absurd (omega (arith, q))), e)
  set_or_kept (z ∷ zs) (suc k) y (suc j) x e =
      elim (set_or_kept zs k y j x e) [
        | inl r ↦ inl (ap suc r.0, r.1)
        | inr r ↦ inr ((λ q. r.0 (omega (arith, q))), r.1)
      ]

  length_set : (xs : List X) (k : ℕ) (y : X) → length (slice_set xs k y) ≡ length xs
  length_set [] k y = refl
  length_set (x ∷ xs) zero y = refl
  length_set (x ∷ xs) (suc k) y = ap suc (length_set xs k y)

  is_there : (xs : List X) (k : ℕ) → k < length xs → (x : X) × (slice_get xs k ≡ Some x)
  is_there [] k l = absurd (omega arith)
  is_there (x ∷ xs) zero l = (x, refl)
  is_there (x ∷ xs) (suc k) l = is_there xs k (omega arith)

  all_behind : (P : X → Type 0) (xs : List X) (x : X) → AllByRecursion P xs → P x → AllByRecursion P (xs ++ x ∷ [])
  all_behind P [] x h t = (t, tt)
  all_behind P (y ∷ ys) x h t = (h.0, all_behind P ys x h.1 t)

  all_other : (P Q : X → Type 0) → ((x : X) → P x → Q x) → (xs : List X) → AllByRecursion P xs → AllByRecursion Q xs
  all_other P Q f [] h = tt
  all_other P Q f (x ∷ xs) h = (f x h.0, all_other P Q f xs h.1)

-- ---- a check is opened

place_of_more : (n : ℕ) (s : Scope) → IsPlace n s → IsPlace (n + 1) s
place_of_more n scope.Everywhere h = tt
place_of_more n (scope.Check k) h = omega arith

not_in : (k : ℕ) (s : Scope) → IsPlace k s → is_in k s ≡ false
not_in k scope.Everywhere h = refl
not_in k (scope.Check j) h =
    elim (cases_Bool (nat_eq j k)) [
      | inl t ↦ let e = eqb-true j k t in absurd (omega arith)
      | inr f ↦ f
    ]

none_in : (k : ℕ) (q : List ℕ) (n : ℕ) (ds : List Definition) → AllByRecursion (λ d. IsPlace k d.scope) ds → position_from (λ d. is_in k d.scope && has_name q d) n ds ≡ None
none_in k q n [] h = refl
none_in k q n (d ∷ ds) h =
    (λ i. cond (not_in k d.scope h.0 i && has_name q d) (Some n) (position_from (λ e. is_in k e.scope && has_name q e) (n + 1) ds))
    ∙ none_in k q (n + 1) ds h.1

module _ (old : Tables) (tables : AreTables old) where
  abbrev definitions : List Definition
  definitions = old.definitions.items

  abbrev checks : List Table
  checks = old.checks.items

  pub opened : (t : Table) (news : Vec Table) → news.items ≡ checks ++ t ∷ [] → ((q : List ℕ) → found t q ≡ None) → AreTables (record old { checks = news })
  opened t news is none =
      record {
        outer = tables.outer;
        inner = tables.inner;
        each = λ k u g. each k u (subst (λ ts. slice_get ts k ≡ Some u) is g);
        places = subst (λ n. AllByRecursion (λ d. IsPlace n d.scope) definitions) (sym one_more) (all_other _ _ (λ d. place_of_more (length checks) d.scope) definitions tables.places);
      }
    where
      one_more : length news.items ≡ length checks + 1
      one_more = ap length is ∙ length-append checks (t ∷ [])

      each : (k : ℕ) (u : Table) → slice_get (checks ++ t ∷ []) k ≡ Some u → HasFirsts (is_in k) definitions u
      each k u e =
          elim (old_or_new checks t k u e) [
            | inl g ↦ tables.each k u g
            | inr r ↦
                subst (λ v. HasFirsts (is_in k) definitions v) (sym r.1)
                (λ q. none q ∙ sym (none_in k q 0 definitions (subst (λ n. AllByRecursion (λ d. IsPlace n d.scope) definitions) (sym r.0) tables.places)))
          ]

  pub unopened : (news : Vec Table) → news.items ≡ checks → AreTables (record old { checks = news })
  unopened news is =
      record {
        outer = tables.outer;
        inner = tables.inner;
        each = λ k u g. tables.each k u (subst (λ ts. slice_get ts k ≡ Some u) is g);
        places = subst (λ ts. AllByRecursion (λ d. IsPlace (length ts) d.scope) definitions) (sym is) tables.places;
      }

  -- ---- a name is found

  pub found_outside : (q : List ℕ) → found old.outside q ≡ stands_for definitions scope.Everywhere q
  found_outside q = tables.outer q ∙ stands_outside definitions q

  pub found_inside : (k : ℕ) (t : Table) (q : List ℕ) → slice_get checks k ≡ Some t → least_of (found old.outside q) (found t q) ≡ stands_for definitions (scope.Check k) q
  found_inside k t q e =
      ap (λ r. least_of r (found t q)) (tables.outer q)
      ∙ (ap (λ r. least_of (position_from (λ d. is_outside d.scope && has_name q d) 0 definitions) r) (tables.each k t e q)
      ∙ stands_inside definitions k q)

  pub repeats_outside : (name : Bor (List ℕ)) (b : Bool) → b ≡ (is_some (found old.outside name.now) || is_some (found old.inside name.now)) → (b ≡ true) ↔ IsRepetition definitions (definition name scope.Everywhere)
  repeats_outside name b e =
      outside_tells definitions name b
      (e ∙ (ap (λ r. is_some r || is_some (found old.inside name.now)) (tables.outer name.now) ∙ ap (λ r. is_some (position_from (λ d. is_outside d.scope && has_name name.now d) 0 definitions) || is_some r) (tables.inner name.now)))

  pub repeats_inside : (name : Bor (List ℕ)) (k : ℕ) (t : Table) (b : Bool) → slice_get checks k ≡ Some t → b ≡ (is_some (found old.outside name.now) || is_some (found t name.now)) → (b ≡ true) ↔ IsRepetition definitions (definition name (scope.Check k))
  repeats_inside name k t b at e =
      inside_tells definitions name k b
      (e ∙ (ap (λ r. is_some r || is_some (found t name.now)) (tables.outer name.now) ∙ ap (λ r. is_some (position_from (λ d. is_outside d.scope && has_name name.now d) 0 definitions) || is_some r) (tables.each k t at name.now)))

  -- ---- a name is defined

  pub defined_outside : (name : Bor (List ℕ)) (new : Table) (more : Vec Definition) → more.items ≡ definitions ++ definition name scope.Everywhere ∷ [] → ((q : List ℕ) → found new q ≡ entered (found old.outside) name.now (length definitions) q) → AreTables (record old { outside = new; definitions = more })
  defined_outside name new more is entry =
      let d = definition name scope.Everywhere in
      record {
        outer = subst (λ ds. HasFirsts is_outside ds new) (sym is) (entered_more is_outside definitions d (found old.outside) (found new) refl tables.outer entry);
        inner = subst (λ ds. HasFirsts is_inside ds old.inside) (sym is) (kept_more is_inside definitions d (found old.inside) refl tables.inner);
        each = λ k t g. subst (λ ds. HasFirsts (is_in k) ds t) (sym is) (kept_more (is_in k) definitions d (found t) refl (tables.each k t g));
        places = subst (λ ds. AllByRecursion (λ e. IsPlace (length checks) e.scope) ds) (sym is) (all_behind _ definitions d tables.places tt);
      }

  module _ (name : Bor (List ℕ)) (k : ℕ) (new : Table) (news : Vec Table) (more : Vec Definition) where
    abbrev d : Definition
    d = definition name (scope.Check k)

    not_here : (j : ℕ) → j ≢ k → nat_eq k j ≡ false
    not_here j ne =
        elim (cases_Bool (nat_eq k j)) [
          | inl t ↦ absurd (ne (sym (eqb-true k j t)))
          | inr f ↦ f
        ]

    each_defined : k < length checks → (entry : IsEntered checks k name.now (length definitions) news.items) → (j : ℕ) (t : Table) → slice_get (slice_set checks k entry.table) j ≡ Some t → HasFirsts (is_in j) (definitions ++ d ∷ []) t
    each_defined within entry j t g =
        elim (set_or_kept checks k entry.table j t g) [
          | inl r ↦
              let w = is_there checks k within in
              subst (λ u. HasFirsts (is_in j) (definitions ++ d ∷ []) u) (sym r.1)
              (entered_more (is_in j) definitions d (found w.0) (found entry.table) (eq-eqb k j (sym r.0)) (subst (λ m. HasFirsts (is_in m) definitions w.0) (sym r.0) (tables.each k w.0 w.1)) (entry.entry w.0 w.1))
          | inr r ↦ kept_more (is_in j) definitions d (found t) (not_here j r.0) (tables.each j t r.1)
        ]

    pub defined_inside : k < length checks → more.items ≡ definitions ++ d ∷ [] → ((q : List ℕ) → found new q ≡ entered (found old.inside) name.now (length definitions) q) → IsEntered checks k name.now (length definitions) news.items → AreTables (record old { inside = new; checks = news; definitions = more })
    defined_inside within is put entry =
        let same_length = ap length entry.set ∙ length_set checks k entry.table in
        record {
          outer = subst (λ ds. HasFirsts is_outside ds old.outside) (sym is) (kept_more is_outside definitions d (found old.outside) refl tables.outer);
          inner = subst (λ ds. HasFirsts is_inside ds new) (sym is) (entered_more is_inside definitions d (found old.inside) (found new) refl tables.inner put);
          each = λ j t g. subst (λ ds. HasFirsts (is_in j) ds t) (sym is) (each_defined within entry j t (subst (λ ts. slice_get ts j ≡ Some t) entry.set g));
          places = subst (λ ds. AllByRecursion (λ e. IsPlace (length news.items) e.scope) ds) (sym is) (all_behind _ definitions d (subst (λ n. AllByRecursion (λ e. IsPlace n e.scope) definitions) (sym same_length) tables.places) (subst (λ n. k < n) (sym same_length) within));
        }
