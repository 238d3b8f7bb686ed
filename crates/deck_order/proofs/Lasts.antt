-- The last of a list.
use Rattle.std.proofs.Common.{◌≡◌, inl, inr, true, ◌||◌, eqb, ℕ, zero, suc, ◌+◌, ◌-◌, ◌<◌, ◌≤◌, List, [], ◌∷◌, ◌++◌, length, set, Option, Some, refl, sym, ap, subst, ◌∙◌, arith}
use Rattle.std.proofs.lemmas.Bool.{eq-eqb, or_right}
use Rattle.std.proofs.lemmas.Bool.Decides.{eqb_tells}
use Rattle.std.proofs.lemmas.Option.{slice_get-get_or, slice_get_within, same_Some}
use Rattle.std.specs.Prelude.{slice_get, slice_index_or}
use Rattle.std.specs.List.{list_any}
use Rattle.std.specs.Global.{Vec}
use Rattle.deck_order.specs.declared.step.Step.{Step}
use Rattle.deck_order.specs.Uses.{used_by}
use Rattle.deck_order.specs.Working.Walks.{Stage, IsWalk, IsLast, looked}
use Rattle.list_facts.proofs.Slots.{at_end}

pub at_last : (path : List Step) (d : Step) → 0 < length path → IsLast path (slice_index_or path (length path - 1) d)
at_last path d l = (length path - 1, omega arith, slice_get-get_or path (length path - 1) d (omega arith))

pub used_past : (uses : List (Vec ℕ)) (i k j : ℕ) → length uses ≤ i → slice_get (used_by uses i) k ≡ Some j → ⊥
used_past [] i k j l e = absurd (cc)
used_past (v ∷ vs) zero k j l e = omega arith
used_past (v ∷ vs) (suc i) k j l e = used_past vs i k j (omega arith) e

-- a way that isn't empty has a last step
pub some_last : (path : List Step) → 0 < length path → (f : Step) × IsLast path f
some_last path l = last_of path l
  where
    last_of : (fs : List Step) → 0 < length fs → (f : Step) × IsLast fs f
    last_of [] l = absurd (omega arith)
    last_of (f ∷ []) l = (f, (0, refl, refl))
    last_of (f ∷ g ∷ fs) l =
        let (h, (m, e, p)) = last_of (g ∷ fs) (omega arith) in
        (h, (suc m, (let z : suc m + 1 ≡ suc (suc (length fs)) = omega arith in z), p))

-- the last definition on the way of a walk is one of them
pub last_within : {uses : List (Vec ℕ)} {s : Stage} → IsWalk uses s → (f : Step) → IsLast s.path f → f.definition < length uses
last_within {uses} {s} w f (m, e, p) =
    let l = slice_get_within s.marks f.definition _ (w.marked.open_marked f.at f.definition (w.way.there m f p)) in
    let n = w.marks_all in
    omega arith

-- the use at which the last step stands
pub next_is : (uses : List (Vec ℕ)) (path lent : List Step) (f : Step) (r : Option ℕ) (v : ℕ) → lent ≡ path → IsLast path f
    → ((g : Step) → IsLast lent g → r ≡ slice_get (used_by uses g.definition) g.next) → r ≡ Some v → slice_get (used_by uses f.definition) f.next ≡ Some v
next_is uses path lent f r v e last is q = sym (is f (subst (λ p. IsLast p f) (sym e) last)) ∙ q

pub used_here : (uses : List (Vec ℕ)) (i : ℕ) (d : Vec ℕ) → i < length uses → used_by uses i ≡ (slice_index_or uses i d).items
used_here [] i d l = absurd (omega arith)
used_here (v ∷ vs) zero d l = refl
used_here (v ∷ vs) (suc i) d l = used_here vs i d (omega arith)

written_at : (path : List Step) (n : ℕ) (f : Step) → n + 1 ≡ length path → slice_get path n ≡ Some f → set path n (record { definition = f.definition; at = f.at; next = f.next + 1 }) ≡ looked path
written_at [] n f l e = absurd (cc)
written_at (g ∷ []) zero f l e = let q = same_Some g f e in ap (λ (x : Step). record { definition = x.definition; at = x.at; next = x.next + 1 } ∷ []) (sym q)
written_at (g ∷ []) (suc n) f l e = absurd (cc)
written_at (g ∷ h ∷ fs) zero f l e = absurd (omega arith)
written_at (g ∷ h ∷ fs) (suc n) f l e = ap (λ xs. g ∷ xs) (written_at (h ∷ fs) n f (omega arith) e)

pub written_last : (path : List Step) (f : Step) → 0 < length path → slice_get path (length path - 1) ≡ Some f
    → set path (length path - 1) (record { definition = f.definition; at = f.at; next = f.next + 1 }) ≡ looked path
written_last path f l e = written_at path (length path - 1) f (omega arith) e

pub last_behind : (before : List Step) (f : Step) → IsLast (before ++ f ∷ []) f
last_behind before f = (length before, length_more before, at_end before f)
  where
    length_more : (fs : List Step) → length fs + 1 ≡ length (fs ++ f ∷ [])
    length_more [] = refl
    length_more (g ∷ fs) = let l = length_more fs in omega arith

-- ---- whether a list has a number

pub has_from_any : (xs : List ℕ) (x : ℕ) → list_any (λ y. eqb y x) xs ≡ true → (k : ℕ) × (slice_get xs k ≡ Some x)
has_from_any [] x e = absurd (cc)
has_from_any (y ∷ xs) x e =
    elim (eqb_tells y x) [
      | inl t ↦ (0, ap (λ z. Some z) t.1)
      | inr f ↦ let (k, p) = has_from_any xs x (sym (ap (λ b. b || list_any (λ y. eqb y x) xs) f.0) ∙ e) in (suc k, p)
    ]

pub any_from_has : (xs : List ℕ) (k x : ℕ) → slice_get xs k ≡ Some x → list_any (λ y. eqb y x) xs ≡ true
any_from_has [] k x e = absurd (cc)
any_from_has (y ∷ xs) zero x e = ap (λ b. b || list_any (λ y. eqb y x) xs) (eq-eqb y x (same_Some y x e))
any_from_has (y ∷ xs) (suc k) x e = or_right (eqb y x) _ (any_from_has xs k x e)
