-- What the events do to the copies of layers.
use Rattle.std.proofs.Common.{◌≡◌, ℕ, ◌+◌, ◌<◌, Bool, true, false, not, ◌&&◌, ◌||◌, cond, List, [], ◌∷◌, length, set, Option, None, Some, inl, inr, refl, sym, ◌∙◌, ap, subst, arith}
use Rattle.std.proofs.lemmas.Bool.{cases_Bool, cases_eq, ne_eqb, or_left, and_left, and_right}
use Rattle.std.proofs.lemmas.List.{length-set}
use Rattle.std.specs.Prelude.{slice_get}
use lib.Dec.{eqb}
use Rattle.layer_model.specs.Wirings.{input, one_if_at, reader_count, IsWiring}
use Rattle.ledger_history.specs.declared.event.Event.{Event}
use Rattle.ledger_history.specs.declared.event.Event.TheVariants.{Claim, Charge, Publish, Release, Stop}
use Rattle.ledger_history.specs.Histories.{Setup, is_claimed, is_published, is_released, is_let_go, is_live}
use Rattle.ledger_history.specs.Enabled.{Legal, IsReady}
use Rattle.list_facts.proofs.Tests.{clash}
use Rattle.ledger_history.proofs.Choices.{eqb_itself}
use Rattle.ledger_history.proofs.Orders.{claimed_has_inputs}
use Rattle.ledger_history.proofs.Returns.{reads_at, readers_by_places}
use Rattle.ledger_history.proofs.Lives.{live_from, reader_keeps, released_is_claimed, let_go_stays}
use Rattle.ledger_history.proofs.Sums.{sum_step, sum_same}
use Rattle.list_facts.proofs.Slots.{unwritten}
use Rattle.ledger_table.proofs.Slots.{slot_is}
use Rattle.ledger_table.proofs.Totals.{let_go_same}
use Rattle.ledger_core.specs.Tokens.{Stock}
use Rattle.ledger_core.specs.States.{StockOf, StocksWith, StocksOf, open_places, due}

one_less : (b : Bool) (x n : ℕ) → x + 1 ≡ cond b (1 + (1 + n)) 0 → x ≡ cond b (1 + n) 0
one_less true x n e = omega arith
one_less false x n e = absurd (omega arith)

-- one copy is lent
pub one_lent : (s : Setup) (h : List Event) (places : ℕ → ℕ) (stocks : List Stock) (j : ℕ) (x y : Stock) → slice_get stocks j ≡ Some x → x ≡ record { op = y.op; count = y.count + 1 }
    → StocksWith s h (λ m. one_if_at (Some j) m + places m) stocks → StocksWith s h places (set stocks j y)
one_lent s h places stocks j x y e r p =
    record {
      all = length-set stocks j y ∙ p.all;
      each = λ m z g. elim (cases_eq m j) [
        | inl t ↦ subst (λ k. StockOf s h places k z) (sym t) (subst (λ w. StockOf s h places j w) (slot_is stocks j y z (subst (λ k. slice_get (set stocks j y) k ≡ Some z) t g)) (at_j (p.each j x e)))
        | inr t ↦ other m z t (p.each m z (sym (unwritten stocks j m y t) ∙ g))
      ];
    }
  where
    at_j : StockOf s h (λ m. one_if_at (Some j) m + places m) j x → StockOf s h places j y
    at_j q = record {
      op = sym (ap (λ w. w.op) r) ∙ q.op;
      count = one_less (is_live s h j) y.count (places j) (sym (ap (λ w. w.count) r) ∙ (q.count ∙ ap (λ b. cond (is_live s h j) (1 + (cond b 1 0 + places j)) 0) (eqb_itself j)));
    }

    other : (m : ℕ) (z : Stock) → (m ≡ j → ⊥) → StockOf s h (λ k. one_if_at (Some j) k + places k) m z → StockOf s h places m z
    other m z t q = record { op = q.op; count = q.count ∙ ap (λ b. cond (is_live s h m) (1 + (cond b 1 0 + places m)) 0) (ne_eqb j m (λ u. t (sym u))) ∙ ap (λ n. cond (is_live s h m) (1 + n) 0) (omega arith) }

-- ---- each event

same_due : (s : Setup) (h : List Event) (e : Event) (j : ℕ) → ((i : ℕ) → is_claimed (e ∷ h) i ≡ is_claimed h i) → due s (e ∷ h) j ≡ due s h j
same_due s h e j c = sum_same (open_places s (e ∷ h) j) (open_places s h j) (length s.wires) (λ i b. ap (λ t. cond t 0 (one_if_at (input s.wires i 0) j + one_if_at (input s.wires i 1) j)) (c i))

same_count : (s : Setup) (h : List Event) (e : Event) (j : ℕ) → ((i : ℕ) → is_claimed (e ∷ h) i ≡ is_claimed h i) → is_live s (e ∷ h) j ≡ is_live s h j
    → cond (is_live s h j) (1 + due s h j) 0 ≡ cond (is_live s (e ∷ h) j) (1 + due s (e ∷ h) j) 0
same_count s h e j c l = sym (ap (λ b. cond b (1 + due s (e ∷ h) j) 0) l ∙ ap (λ n. cond (is_live s h j) (1 + n) 0) (same_due s h e j c))

-- an event that claims, publishes and gives back nothing
pub stocks_same : (s : Setup) (h : List Event) (e : Event) (stocks : List Stock) → ((i : ℕ) → is_claimed (e ∷ h) i ≡ is_claimed h i) → ((j : ℕ) → is_live s (e ∷ h) j ≡ is_live s h j) → StocksOf s h stocks → StocksOf s (e ∷ h) stocks
stocks_same s h e stocks c l p = record { all = p.all; each = λ j x g. let q = p.each j x g in record { op = q.op; count = q.count ∙ same_count s h e j c (l j) } }

-- a claim takes a copy for each of its places
pub stocks_claim : (s : Setup) (h : List Event) (w i : ℕ) (stocks : List Stock) → Legal s (Claim w i ∷ h) → StocksOf s h stocks
    → StocksWith s (Claim w i ∷ h) (λ j. one_if_at (input s.wires i 0) j + (one_if_at (input s.wires i 1) j + due s (Claim w i ∷ h) j)) stocks
stocks_claim s h w i stocks l p =
    record { all = p.all; each = λ j x g. let q = p.each j x g in record { op = q.op; count = q.count ∙ ap (λ n. cond (is_live s h j) (1 + n) 0) (fewer j) } }
  where
    fewer : (j : ℕ) → due s h j ≡ one_if_at (input s.wires i 0) j + (one_if_at (input s.wires i 1) j + due s (Claim w i ∷ h) j)
    fewer j =
        sum_step (open_places s (Claim w i ∷ h) j) (open_places s h j) (length s.wires) i (one_if_at (input s.wires i 0) j + one_if_at (input s.wires i 1) j) (l.0).next.ready.there
        (λ m n. sym (ap (λ b. cond (b || is_claimed h m) 0 (one_if_at (input s.wires m 0) j + one_if_at (input s.wires m 1) j)) (ne_eqb i m (λ e. n (sym e)))))
        (ap (λ b. cond b 0 (one_if_at (input s.wires i 0) j + one_if_at (input s.wires i 1) j)) (l.0).next.ready.unclaimed
        ∙ (omega arith
        ∙ ap (λ b. one_if_at (input s.wires i 0) j + one_if_at (input s.wires i 1) j + cond (b || is_claimed h i) 0 (one_if_at (input s.wires i 0) j + one_if_at (input s.wires i 1) j)) (sym (eqb_itself i))))
        ∙ omega arith

-- the inputs of a ready operation are live
pub ready_input_is_live : (s : Setup) (h : List Event) (i k j : ℕ) → Legal s h → IsReady s h i → input s.wires i k ≡ Some j → is_live s h j ≡ true
ready_input_is_live s h i k j l r e =
    live_from s h j (r.inputs k j e) (reader_keeps s h j l (record { op = i; place = k; reads = e; unreleased = out }))
  where
    out : is_released h i k ≡ false
    out = elim (cases_Bool (is_released h i k)) [ inl p ↦ clash _ (released_is_claimed s h i k l p) r.unclaimed | inr p ↦ p ]

-- a publish puts the copies of its layer in their place
pub stocks_publish : (s : Setup) (h : List Event) (w i : ℕ) (stocks : List Stock) → IsWiring s.wires → Legal s (Publish w i ∷ h) → StocksOf s h stocks
    → StocksOf s (Publish w i ∷ h) (set stocks i (record { op = i; count = reader_count s.wires i + 1 }))
stocks_publish s h w i stocks v l p =
    record {
      all = length-set stocks i (record { op = i; count = reader_count s.wires i + 1 }) ∙ p.all;
      each = λ j x g. elim (cases_eq j i) [
        | inl t ↦ subst (λ k. StockOf s (Publish w i ∷ h) (due s (Publish w i ∷ h)) k x) (sym t)
            (subst (λ y. StockOf s (Publish w i ∷ h) (due s (Publish w i ∷ h)) i y) (slot_is stocks i (record { op = i; count = reader_count s.wires i + 1 }) x (subst (λ k. slice_get (set stocks i (record { op = i; count = reader_count s.wires i + 1 })) k ≡ Some x) t g))
            (record { op = refl; count = omega (arith, all_due) ∙ sym (ap (λ b. cond b (1 + due s (Publish w i ∷ h) i) 0) live) }))
        | inr t ↦ let q = p.each j x (sym (unwritten stocks i j (record { op = i; count = reader_count s.wires i + 1 }) t) ∙ g) in record { op = q.op; count = q.count ∙ same_count s h (Publish w i) j (λ _. refl) (other j t) }
      ];
    }
  where
    kept : (j : ℕ) → is_let_go s (Publish w i ∷ h) j ≡ is_let_go s h j
    kept j = let_go_same s h (Publish w i) j v l (λ x. x)

    other : (j : ℕ) → (j ≡ i → ⊥) → is_live s (Publish w i ∷ h) j ≡ is_live s h j
    other j n = ap (λ b. (b || is_published h j) && not (is_let_go s (Publish w i ∷ h) j)) (ne_eqb i j (λ e. n (sym e))) ∙ ap (λ b. is_published h j && not b) (kept j)

    live : is_live s (Publish w i ∷ h) i ≡ true
    live = live_from s (Publish w i ∷ h) i (or_left (eqb i i) (is_published h i) (eqb_itself i)) (kept i ∙ and_left (is_published h i) _ (l.0).unpublished)

    at : (o : Option ℕ) → (o ≡ Some i → ⊥) → one_if_at o i ≡ 0
    at None n = refl
    at (Some m) n = ap (λ b. cond b 1 0) (ne_eqb m i (λ e. n (ap (λ k. Some k) e)))

    unread : (m k : ℕ) → is_claimed h m ≡ true → one_if_at (input s.wires m k) i ≡ 0
    unread m k c = at (input s.wires m k) (λ e. clash _ (claimed_has_inputs s h m k i l.1 c e) (l.0).unpublished)

    each_due : (m : ℕ) → open_places s h i m ≡ reads_at s i m
    each_due m = elim (cases_Bool (is_claimed h m)) [
      | inl c ↦ ap (λ b. cond b 0 (reads_at s i m)) c ∙ omega (arith, unread m 0 c, unread m 1 c)
      | inr c ↦ ap (λ b. cond b 0 (reads_at s i m)) c
    ]

    all_due : due s (Publish w i ∷ h) i ≡ reader_count s.wires i
    all_due = sum_same (open_places s (Publish w i ∷ h) i) (reads_at s i) (length s.wires) (λ m b. each_due m) ∙ sym (readers_by_places s i)

-- a release may let the layer go that it read
pub stocks_release : (s : Setup) (h : List Event) (w i k j : ℕ) (stocks : List Stock) → IsWiring s.wires → Legal s (Release w i k ∷ h) → input s.wires i k ≡ Some j → StocksOf s h stocks
    → StocksOf s (Release w i k ∷ h) (cond (is_let_go s (Release w i k ∷ h) j) (set stocks j (record { op = j; count = 0 })) stocks)
stocks_release s h w i k j stocks v l e p = by_test (is_let_go s (Release w i k ∷ h) j) refl
  where
    other : (m : ℕ) → (m ≡ j → ⊥) → is_live s (Release w i k ∷ h) m ≡ is_live s h m
    other m n = ap (λ b. is_published h m && not b) (let_go_same s h (Release w i k) m v l (λ r. n (let x : Some j ≡ Some m = sym e ∙ r in cc)))

    stays : is_let_go s (Release w i k ∷ h) j ≡ false → is_let_go s h j ≡ false
    stays f = elim (cases_Bool (is_let_go s h j)) [ inl q ↦ clash _ (let_go_stays s h (Release w i k) j l q) f | inr q ↦ q ]

    by_test : (b : Bool) → is_let_go s (Release w i k ∷ h) j ≡ b → StocksOf s (Release w i k ∷ h) (cond b (set stocks j (record { op = j; count = 0 })) stocks)
    by_test true f = record {
      all = length-set stocks j (record { op = j; count = 0 }) ∙ p.all;
      each = λ m x g. elim (cases_eq m j) [
        | inl t ↦ subst (λ n. StockOf s (Release w i k ∷ h) (due s (Release w i k ∷ h)) n x) (sym t)
            (subst (λ y. StockOf s (Release w i k ∷ h) (due s (Release w i k ∷ h)) j y) (slot_is stocks j (record { op = j; count = 0 }) x (subst (λ n. slice_get (set stocks j (record { op = j; count = 0 })) n ≡ Some x) t g))
            (record { op = refl; count = sym (ap (λ b. cond (is_published h j && not b) (1 + due s (Release w i k ∷ h) j) 0) f ∙ ap (λ b. cond b (1 + due s (Release w i k ∷ h) j) 0) (and_right (is_published h j) false refl)) }))
        | inr t ↦ let q = p.each m x (sym (unwritten stocks j m (record { op = j; count = 0 }) t) ∙ g) in record { op = q.op; count = q.count ∙ same_count s h (Release w i k) m (λ _. refl) (other m t) }
      ];
    }
    by_test false f = record {
      all = p.all;
      each = λ m x g. let q = p.each m x g in elim (cases_eq m j) [
        | inl t ↦ record { op = q.op; count = q.count ∙ same_count s h (Release w i k) m (λ _. refl) (subst (λ n. is_live s (Release w i k ∷ h) n ≡ is_live s h n) (sym t) (ap (λ b. is_published h j && not b) (f ∙ sym (stays f)))) }
        | inr t ↦ record { op = q.op; count = q.count ∙ same_count s h (Release w i k) m (λ _. refl) (other m t) }
      ];
    }

-- a claim's first copy is lent
pub first_lent : (s : Setup) (h : List Event) (w i : ℕ) (stocks later : List Stock) (o : Option ℕ) → o ≡ input s.wires i 0 → Legal s (Claim w i ∷ h) → StocksOf s h stocks
    → ((places : ℕ → ℕ) → StocksWith s (Claim w i ∷ h) (λ j. one_if_at o j + places j) stocks → StocksWith s (Claim w i ∷ h) places later)
    → StocksWith s (Claim w i ∷ h) (λ j. one_if_at (input s.wires i 1) j + due s (Claim w i ∷ h) j) later
first_lent s h w i stocks later o e l p f =
    f (λ j. one_if_at (input s.wires i 1) j + due s (Claim w i ∷ h) j)
    (subst (λ x. StocksWith s (Claim w i ∷ h) (λ j. one_if_at x j + (one_if_at (input s.wires i 1) j + due s (Claim w i ∷ h) j)) stocks) (sym e) (stocks_claim s h w i stocks l p))

-- and its second
pub second_lent : (s : Setup) (h : List Event) (w i : ℕ) (stocks later : List Stock) (o : Option ℕ) → o ≡ input s.wires i 1 → StocksWith s (Claim w i ∷ h) (λ j. one_if_at (input s.wires i 1) j + due s (Claim w i ∷ h) j) stocks
    → ((places : ℕ → ℕ) → StocksWith s (Claim w i ∷ h) (λ j. one_if_at o j + places j) stocks → StocksWith s (Claim w i ∷ h) places later)
    → StocksOf s (Claim w i ∷ h) later
second_lent s h w i stocks later o e p f =
    f (due s (Claim w i ∷ h)) (subst (λ x. StocksWith s (Claim w i ∷ h) (λ j. one_if_at x j + due s (Claim w i ∷ h) j) stocks) (sym e) p)
