-- The layer that the check looks at, the names of files, and the bound: what a test tells of each.
use Rattle.std.proofs.Common.{◌≡◌, ◌≢◌, ℕ, Bool, true, false, cond, ltb, leb, not, ◌&&◌, List, length, Option, Some, None, refl, sym, subst, ◌⊎◌, inl, inr}
use Rattle.std.specs.Prelude.{IfSome, IsSome, unwrap_or}
use Rattle.std.specs.Char.{is_ascii_digit}
use Rattle.std.specs.List.{list_all}
use Rattle.std.specs.Str.{bytes_eq}
use Rattle.std.proofs.lemmas.Bool.{and_parts, and_from, not-true, not_from_false, ltb-true, leb-true, lt-ltb, le-leb, false≢true, false_from_ne_true, both_ways}
use Rattle.std.proofs.lemmas.List.Sums.{AllPass-from_list_all, list_all-from_AllPass}
use Rattle.std.proofs.lemmas.Option.{cond_some, none-some, same_Some}
use Rattle.std.proofs.lemmas.Slice.Eq.{bytes_eq-Decides}
use Rattle.first_form.specs.FirstForm.{LayerLine, Decimal, is_file_byte, IsFileName, IsDecimal}
use Rattle.first_form.specs.Working.Parts.{Head, choice_of, is_file_name, files_fit, is_bound}

-- ---- the input's layer

same_bytes : (a : List ℕ) → bytes_eq a a ≡ true
same_bytes a = (bytes_eq-Decides a a).1 refl

pub other_bytes : (a b : List ℕ) → (a ≡ b → ⊥) → bytes_eq a b ≡ false
other_bytes a b h = false_from_ne_true (bytes_eq a b) (λ e. h ((bytes_eq-Decides a b).0 e))

pub differ : (a b : List ℕ) → bytes_eq a b ≡ false → a ≡ b → ⊥
differ a b h e = both_ways (bytes_eq a b) h ((bytes_eq-Decides a b).1 e)

abbrev pub chosen : LayerLine → Option LayerLine → Bool → LayerLine
chosen first second o = cond o (unwrap_or second first) first

-- which layer the input is
pub record Chosen (first : LayerLine) (second : Option LayerLine) (input : List ℕ) (o : Bool) : Type 0 where
  pub name : (chosen first second o).name ≡ input
  pub names : IfSome second (λ l. first.name ≢ l.name)
  pub some : o ≡ true → IsSome second

test_cases : {A : Type 0} (b : Bool) (x y z : A) → cond b x y ≡ z → ((b ≡ true) × (x ≡ z)) ⊎ ((b ≡ false) × (y ≡ z))
test_cases true x y z e = inl (refl, e)
test_cases false x y z e = inr (refl, e)

second_case : (first l : LayerLine) (input : List ℕ) (o : Bool) → (first.name ≡ l.name → ⊥)
    → cond (bytes_eq input first.name) (Some false) (cond (bytes_eq input l.name) (Some true) None) ≡ Some o → Chosen first (Some l) input o
second_case first l input o names e =
    elim (test_cases (bytes_eq input first.name) (Some false) (cond (bytes_eq input l.name) (Some true) None) (Some o) e) [
      | inl a ↦ subst (λ (y : Bool). Chosen first (Some l) input y) (same_Some false o a.1) (record { name = sym ((bytes_eq-Decides input first.name).0 a.0); names = names; some = λ h. refl })
      | inr b ↦
          let g = cond_some (bytes_eq input l.name) true o b.1 in
          subst (λ (y : Bool). Chosen first (Some l) input y) g.1 (record { name = sym ((bytes_eq-Decides input l.name).0 g.0); names = names; some = λ h. refl })
    ]

pub choice_takes : (first : LayerLine) (second : Option LayerLine) (input : List ℕ) (o : Bool) → choice_of first second input ≡ Some o → Chosen first second input o
unfolding choice_of
choice_takes first None input o e =
    let g = cond_some (bytes_eq input first.name) false o e in
    subst (λ (y : Bool). Chosen first None input y) g.1 (record { name = sym ((bytes_eq-Decides input first.name).0 g.0); names = tt; some = λ h. absurd (false≢true h) })
choice_takes first (Some l) input o e =
    elim (test_cases (bytes_eq first.name l.name) None (cond (bytes_eq input first.name) (Some false) (cond (bytes_eq input l.name) (Some true) None)) (Some o) e) [
      | inl a ↦ absurd (none-some o a.1)
      | inr b ↦ second_case first l input o (differ first.name l.name b.0) b.1
    ]

pub choice_again : (first : LayerLine) (second : Option LayerLine) (o : Bool) → IfSome second (λ l. first.name ≢ l.name) → (o ≡ true → IsSome second)
    → choice_of first second (chosen first second o).name ≡ Some o
unfolding choice_of
choice_again first None true names some = absurd (false≢true (some refl))
choice_again first None false names some = rw (same_bytes first.name) refl
choice_again first (Some l) true names some = rw (other_bytes first.name l.name names, other_bytes l.name first.name (λ e. names (sym e)), same_bytes l.name) refl
choice_again first (Some l) false names some = rw (other_bytes first.name l.name names, same_bytes first.name) refl

-- ---- files

pub record FilesFit (deck_name : List ℕ) (h : Head) : Type 0 where
  pub layout : IsFileName h.layout
  pub results : IsFileName h.results
  pub layout_results : h.layout ≢ h.results
  pub layout_deck : h.layout ≢ deck_name
  pub results_deck : h.results ≢ deck_name

file_takes : (name : List ℕ) → is_file_name name ≡ true → IsFileName name
unfolding is_file_name
file_takes name e =
    let p = and_parts (ltb 0 (length name)) (list_all is_file_byte name) e in
    record { some = ltb-true 0 (length name) p.0; bytes = AllPass-from_list_all is_file_byte name p.1 }

file_again : (name : List ℕ) → IsFileName name → is_file_name name ≡ true
unfolding is_file_name
file_again name f =
    and_from (ltb 0 (length name)) (list_all is_file_byte name) (lt-ltb 0 (length name) f.some) (list_all-from_AllPass is_file_byte name f.bytes)

pub files_take : (name : List ℕ) (h : Head) → files_fit name h ≡ true → FilesFit name h
unfolding files_fit
files_take name h e =
    let a = and_parts (is_file_name h.layout) (is_file_name h.results && (not (bytes_eq h.layout h.results) && (not (bytes_eq h.layout name) && not (bytes_eq h.results name)))) e in
    let b = and_parts (is_file_name h.results) (not (bytes_eq h.layout h.results) && (not (bytes_eq h.layout name) && not (bytes_eq h.results name))) a.1 in
    let c = and_parts (not (bytes_eq h.layout h.results)) (not (bytes_eq h.layout name) && not (bytes_eq h.results name)) b.1 in
    let d = and_parts (not (bytes_eq h.layout name)) (not (bytes_eq h.results name)) c.1 in
    record {
      layout = file_takes h.layout a.0;
      results = file_takes h.results b.0;
      layout_results = differ h.layout h.results (not-true (bytes_eq h.layout h.results) c.0);
      layout_deck = differ h.layout name (not-true (bytes_eq h.layout name) d.0);
      results_deck = differ h.results name (not-true (bytes_eq h.results name) d.1);
    }

not_same : (a b : List ℕ) → (a ≡ b → ⊥) → not (bytes_eq a b) ≡ true
not_same a b h = not_from_false (bytes_eq a b) (other_bytes a b h)

pub files_again : (name : List ℕ) (h : Head) → FilesFit name h → files_fit name h ≡ true
unfolding files_fit
files_again name h f =
    rw (file_again h.layout f.layout, file_again h.results f.results, not_same h.layout h.results f.layout_results, not_same h.layout name f.layout_deck, not_same h.results name f.results_deck) refl

-- ---- the bound

pub bound_takes : (v : Decimal) → is_bound v ≡ true → IsDecimal v
unfolding is_bound
bound_takes v e =
    let a = and_parts (leb (length v.whole) 6) (leb (length v.fraction) 3 && (list_all is_ascii_digit v.whole && list_all is_ascii_digit v.fraction)) e in
    let b = and_parts (leb (length v.fraction) 3) (list_all is_ascii_digit v.whole && list_all is_ascii_digit v.fraction) a.1 in
    let c = and_parts (list_all is_ascii_digit v.whole) (list_all is_ascii_digit v.fraction) b.1 in
    record {
      few_whole = leb-true (length v.whole) 6 a.0;
      whole = AllPass-from_list_all is_ascii_digit v.whole c.0;
      few_fraction = leb-true (length v.fraction) 3 b.0;
      fraction = AllPass-from_list_all is_ascii_digit v.fraction c.1;
    }

pub bound_again : (v : Decimal) → IsDecimal v → is_bound v ≡ true
unfolding is_bound
bound_again v d =
    rw (le-leb (length v.whole) 6 d.few_whole, le-leb (length v.fraction) 3 d.few_fraction, list_all-from_AllPass is_ascii_digit v.whole d.whole, list_all-from_AllPass is_ascii_digit v.fraction d.fraction) refl
