-- Which operations a publish makes ready.
use Rattle.std.proofs.Common.{◌≡◌, ◌⊎◌, ℕ, ◌+◌, ◌*◌, ◌/◌, ◌%◌, ◌<◌, ◌≤◌, Bool, true, false, not, ◌&&◌, ◌||◌, cond, List, ◌∷◌, length, set, Option, None, Some, inl, inr, refl, sym, ◌∙◌, ap, subst, arith}
use Rattle.std.proofs.lemmas.Bool.{cases_lt, cases_eq, cases_Bool, and_parts, and_from, or_right, ne_eqb}
use Rattle.std.proofs.lemmas.List.{length-set}
use Rattle.std.specs.Prelude.{slice_get}
use lib.Dec.{eqb}
use Rattle.layer_model.specs.declared.wiring.Wire.{Wire}
use Rattle.layer_model.specs.Wirings.{input}
use Rattle.ledger_history.specs.declared.event.Event.{Event}
use Rattle.ledger_history.specs.declared.event.Event.TheVariants.{Publish}
use Rattle.ledger_history.specs.Histories.{is_claimed, is_published}
use Rattle.ledger_history.specs.Enabled.{Legal}
use Rattle.list_facts.proofs.Tests.{clash}
use Rattle.ledger_history.proofs.Orders.{claimed_has_inputs}
use Rattle.ledger_history.proofs.Returns.{input_is_there}
use Rattle.ledger_table.specs.declared.mark.Mark.{Mark}
use Rattle.ledger_table.specs.Marks.{MarksOf, run_of}
use Rattle.ledger_table.specs.Working.Places.{read_at, IsLastBelow, IsReaderOf, bound_of}
use Rattle.ledger_table.specs.Flags.{is_in, has_inputs, is_open, FlagsOf}
use Rattle.ledger_table.specs.Working.Openings.{OpensFrom, Opening, published, walk}
use Rattle.list_facts.proofs.Slots.{written, unwritten}

-- an input that is in stays so
in_stays : (h : List Event) (w j : ℕ) (o : Option ℕ) → is_in h o ≡ true → is_in (Publish w j ∷ h) o ≡ true
in_stays h w j None e = refl
in_stays h w j (Some m) e = or_right (eqb j m) _ e

inputs_stay : (ws : List Wire) (h : List Event) (w j i : ℕ) → has_inputs ws h i ≡ true → has_inputs ws (Publish w j ∷ h) i ≡ true
inputs_stay ws h w j i e =
    let p = and_parts (is_in h (input ws i 0)) _ e in
    and_from (is_in (Publish w j ∷ h) (input ws i 0)) _ (in_stays h w j (input ws i 0) p.0) (in_stays h w j (input ws i 1) p.1)

inputs_lack : (ws : List Wire) (h : List Event) (w j i : ℕ) → has_inputs ws (Publish w j ∷ h) i ≡ false → has_inputs ws h i ≡ false
inputs_lack ws h w j i e =
    elim (cases_Bool (has_inputs ws h i)) [
      | inl p ↦ clash _ (inputs_stay ws h w j i p) e
      | inr p ↦ p
    ]

-- an input that isn't j is as before
in_same : (h : List Event) (w j : ℕ) (o : Option ℕ) → (o ≡ Some j → ⊥) → is_in (Publish w j ∷ h) o ≡ is_in h o
in_same h w j None n = refl
in_same h w j (Some m) n = ap (λ b. b || is_published h m) (ne_eqb j m (λ e. n (ap (λ k. Some k) (sym e))))

open_same : (ws : List Wire) (h : List Event) (w j i : ℕ) → (input ws i 0 ≡ Some j → ⊥) → (input ws i 1 ≡ Some j → ⊥) → is_open ws (Publish w j ∷ h) i ≡ is_open ws h i
open_same ws h w j i a b =
    ap (λ p. not (is_claimed h i) && (p && is_in (Publish w j ∷ h) (input ws i 1))) (in_same h w j (input ws i 0) a)
    ∙ ap (λ p. not (is_claimed h i) && (is_in h (input ws i 0) && p)) (in_same h w j (input ws i 1) b)

-- the place of an operation by its number
at_first : (ws : List Wire) (i j : ℕ) → input ws i 0 ≡ Some j → read_at ws (2 * i) ≡ Some j
at_first ws i j e =
    let a : 2 * i / 2 ≡ i = omega arith in
    let b : 2 * i % 2 ≡ 0 = omega arith in
    ap (λ k. input ws k (2 * i % 2)) a ∙ (ap (input ws i) b ∙ e)

at_second : (ws : List Wire) (i j : ℕ) → input ws i 1 ≡ Some j → read_at ws (2 * i + 1) ≡ Some j
at_second ws i j e =
    let a : (2 * i + 1) / 2 ≡ i = omega arith in
    let b : (2 * i + 1) % 2 ≡ 1 = omega arith in
    ap (λ k. input ws k ((2 * i + 1) % 2)) a ∙ (ap (input ws i) b ∙ e)

-- a reader of what isn't published isn't claimed
reader_unclaimed : (ws : List Wire) (budget workers w j q : ℕ) (h : List Event) → Legal (run_of ws budget workers (Publish w j ∷ h)) (Publish w j ∷ h) → read_at ws q ≡ Some j → is_claimed h (q / 2) ≡ false
reader_unclaimed ws budget workers w j q h l r =
    elim (cases_Bool (is_claimed h (q / 2))) [
      | inl p ↦ clash _ (claimed_has_inputs (run_of ws budget workers (Publish w j ∷ h)) h (q / 2) (q % 2) j l.1 p r) (l.0).unpublished
      | inr p ↦ p
    ]

open_with : (ws : List Wire) (h : List Event) (i : ℕ) (b : Bool) → is_claimed h i ≡ false → has_inputs ws h i ≡ b → is_open ws h i ≡ b
open_with ws h i b c e = ap (λ p. not p && has_inputs ws h i) c ∙ e

-- one reader is done
pub opens_next : (ws : List Wire) (budget workers w j q : ℕ) (h : List Event) (o : Option ℕ) (flags : List Bool)
    → Legal (run_of ws budget workers (Publish w j ∷ h)) (Publish w j ∷ h) → q < 2 * length ws → read_at ws q ≡ Some j → IsLastBelow ws j q o
    → OpensFrom (published ws h w j) (q + 1) flags → OpensFrom (published ws h w j) (bound_of o) (cond (has_inputs ws (Publish w j ∷ h) (q / 2)) (set flags (q / 2) true) flags)
opens_next ws budget workers w j q h o flags l b r k f =
    by_test (has_inputs ws (Publish w j ∷ h) (q / 2)) refl
  where
    unclaimed : is_claimed h (q / 2) ≡ false
    unclaimed = reader_unclaimed ws budget workers w j q h l r

    none_between : (i : ℕ) → (i ≡ q / 2 → ⊥) → ((p : ℕ) → q + 1 ≤ p → p / 2 ≡ i → read_at ws p ≡ Some j → ⊥) → (v : Option ℕ) → IsLastBelow ws j q v → (p : ℕ) → bound_of v ≤ p → p / 2 ≡ i → read_at ws p ≡ Some j → ⊥
    none_between i n g v t p a d e =
        elim (cases_lt q p) [
          | inl s ↦ g p (omega arith) d e
          | inr s ↦ elim (cases_eq p q) [
            | inl u ↦ n (sym d ∙ ap (λ z. z / 2) u)
            | inr u ↦ below v t a (omega arith) e
          ]
        ]
      where
        below : (v : Option ℕ) → IsLastBelow ws j q v → bound_of v ≤ p → p < q → read_at ws p ≡ Some j → ⊥
        below None t a c e = t p c e
        below (Some m) t a c e = t.2 p (omega arith) c e

    other : (i : ℕ) → (i ≡ q / 2 → ⊥) → (slice_get flags i ≡ Some (is_open ws (Publish w j ∷ h) i)) ⊎ ((slice_get flags i ≡ Some (is_open ws h i)) × ((p : ℕ) → q + 1 ≤ p → p / 2 ≡ i → read_at ws p ≡ Some j → ⊥))
        → (slice_get flags i ≡ Some (is_open ws (Publish w j ∷ h) i)) ⊎ ((slice_get flags i ≡ Some (is_open ws h i)) × ((p : ℕ) → bound_of o ≤ p → p / 2 ≡ i → read_at ws p ≡ Some j → ⊥))
    other i n (inl e) = inl e
    other i n (inr (e, g)) = inr (e, none_between i n g o k)

    by_test : (t : Bool) → has_inputs ws (Publish w j ∷ h) (q / 2) ≡ t → OpensFrom (published ws h w j) (bound_of o) (cond t (set flags (q / 2) true) flags)
    by_test true t = record {
      all = length-set flags (q / 2) true ∙ f.all;
      each = λ i a. elim (cases_eq i (q / 2)) [
        | inl s ↦ inl (subst (λ z. slice_get (set flags (q / 2) true) z ≡ Some (is_open ws (Publish w j ∷ h) z)) (sym s)
            (written flags (q / 2) true (let y = f.all in omega arith) ∙ ap (λ z. Some z) (sym (open_with ws (Publish w j ∷ h) (q / 2) true unclaimed t))))
        | inr s ↦ elim (other i s (f.each i a)) [
          | inl e ↦ inl (unwritten flags (q / 2) i true s ∙ e)
          | inr (e, g) ↦ inr (unwritten flags (q / 2) i true s ∙ e, g)
        ]
      ];
    }
    by_test false t = record {
      all = f.all;
      each = λ i a. elim (cases_eq i (q / 2)) [
        | inl s ↦ elim (f.each i a) [
          | inl e ↦ inl e
          | inr (e, g) ↦ inl (e ∙ ap (λ z. Some z) (subst (λ z. is_open ws h z ≡ is_open ws (Publish w j ∷ h) z) (sym s)
              (open_with ws h (q / 2) false unclaimed (inputs_lack ws h w j (q / 2) t) ∙ sym (open_with ws (Publish w j ∷ h) (q / 2) false unclaimed t))))
        ]
        | inr s ↦ other i s (f.each i a)
      ];
    }

-- where no reader is left below, all flags are as they should be
pub opens_all : (ws : List Wire) (h : List Event) (w j : ℕ) (flags : List Bool) → OpensFrom (published ws h w j) 0 flags → FlagsOf ws (Publish w j ∷ h) flags
opens_all ws h w j flags f =
    record {
      all = f.all;
      each = λ i a. elim (f.each i a) [
        | inl e ↦ e
        | inr (e, g) ↦ e ∙ ap (λ z. Some z) (sym (open_same ws h w j i (λ r. g (2 * i) (omega arith) (omega arith) (at_first ws i j r)) (λ r. g (2 * i + 1) (omega arith) (omega arith) (at_second ws i j r))))
      ];
    }

-- the walk begins at the last reader
pub opening_starts : (ws : List Wire) (marks : List Mark) (j : ℕ) (flags : List Bool) (o : Option ℕ) → IsLastBelow ws j (2 * length ws) o → length flags ≡ length ws → Opening (walk ws marks j flags) o flags
opening_starts ws marks j flags o l n =
    record {
      reader = at_last o l;
      all = n;
      opens = λ budget workers w h g m f. record { all = f.all; each = λ i a. inr (f.each i a, λ p b d e. none_above o l p b e) };
    }
  where
    at_last : (o : Option ℕ) → IsLastBelow ws j (2 * length ws) o → IsReaderOf ws j o
    at_last None t = tt
    at_last (Some q) t = (t.0, t.1)

    none_above : (o : Option ℕ) → IsLastBelow ws j (2 * length ws) o → (p : ℕ) → bound_of o ≤ p → read_at ws p ≡ Some j → ⊥
    none_above None t p b e = let i = input_is_there ws (p / 2) (p % 2) j e in t p (omega arith) e
    none_above (Some q) t p b e = let i = input_is_there ws (p / 2) (p % 2) j e in t.2 p (omega arith) (omega arith) e

-- and goes on at the one before
pub opening_goes_on : (ws : List Wire) (marks : List Mark) (j : ℕ) (before flags after : List Bool) (q : ℕ) (o : Option ℕ) → Opening (walk ws marks j before) (Some q) flags
    → ((h : List Event) → MarksOf ws h marks → after ≡ cond (has_inputs ws h (q / 2)) (set flags (q / 2) true) flags)
    → length after ≡ length flags → ((m : ℕ) → read_at ws q ≡ Some m → IsLastBelow ws m q o) → Opening (walk ws marks j before) o after
opening_goes_on ws marks j before flags after q o p s n k =
    let r = p.reader in
    record {
      reader = lower o (k j r.1);
      all = n ∙ p.all;
      opens = λ budget workers w h g m f.
          subst (λ x. OpensFrom (published ws h w j) (bound_of o) x) (sym (s (Publish w j ∷ h) m))
          (opens_next ws budget workers w j q h o flags g r.0 r.1 (k j r.1) (p.opens budget workers w h g m f));
    }
  where
    lower : (o : Option ℕ) → IsLastBelow ws j q o → IsReaderOf ws j o
    lower None t = tt
    lower (Some m) t = let a : m < q = t.0 in let b : q < 2 * length ws = (p.reader).0 in (omega arith, t.1)
