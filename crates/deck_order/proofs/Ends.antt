-- Where a walk begins, and what it comes to at its end.
use Rattle.std.proofs.Common.{◌≡◌, inl, inr, ℕ, zero, suc, ◌<◌, false, List, [], ◌∷◌, length, replicate, set, None, Some, refl, sym, ap, ◌∙◌, arith}
use Rattle.std.proofs.lemmas.Bool.{cases_eq}
use Rattle.std.proofs.lemmas.List.{length-replicate}
use Rattle.std.proofs.lemmas.Option.{same_Some, slice_get_within}
use Rattle.std.specs.Prelude.{slice_get}
use Rattle.std.specs.Global.{Vec}
use Rattle.deck_order.specs.declared.mark.Mark.{Mark}
use Rattle.deck_order.specs.declared.mark.Mark.TheVariants.{Unseen, Open, Closed}
use Rattle.deck_order.specs.Orders.{ListsEach, StandBehindUses, TellCyclic}
use Rattle.deck_order.specs.Working.Walks.{Stage, IsWalk, IsSeen, GoesOn}
use Rattle.list_facts.proofs.Slots.{unwritten, written}

-- ---- the beginning

all_same : {X : Type 0} (n : ℕ) (x y : X) (i : ℕ) → slice_get (replicate n x) i ≡ Some y → y ≡ x
all_same zero x y i e = absurd (cc)
all_same (suc n) x y zero e = same_Some y x (sym e)
all_same (suc n) x y (suc i) e = all_same n x y i e

pub start_walk : (uses : List (Vec ℕ)) → IsWalk uses (record { marks = replicate (length uses) Unseen; pending = []; bounds = []; path = []; listed = []; cyclic = replicate (length uses) false })
start_walk uses = record {
  marks_all = length-replicate (length uses) Unseen;
  flags_all = length-replicate (length uses) false;
  marked = record {
    open_marked = λ a u e. absurd (cc);
    marked_open = λ a u e. let q : Open a ≡ Unseen = all_same (length uses) Unseen (Open a) u e in absurd (cc);
    listed_marked = λ k u e. absurd (cc);
    marked_listed = λ u e. let q : Closed ≡ Unseen = all_same (length uses) Unseen Closed u e in absurd (cc);
    once = λ j k u e d. absurd (cc);
  };
  grouped = record { up = λ a b u v e d l. absurd (cc); back = λ a b u v e d l n. absurd (cc); first = λ u e. absurd (cc) };
  way = record { there = λ m f e. absurd (cc); rises = λ l m f g less e d. absurd (cc); begins = λ m c e. absurd (cc); bounds_rise = λ l m c d less e g. absurd (cc) };
  met = λ a u p v e looked past. absurd (cc);
  closed = record {
    inward = λ u v e z. let q : Closed ≡ Unseen = all_same (length uses) Unseen Closed u e in absurd (cc);
    behind = λ k u v e z n. absurd (cc);
    tells = λ u b e d. let q : Closed ≡ Unseen = all_same (length uses) Unseen Closed u e in absurd (cc);
  };
}

-- ---- how marks go on

pub same_goes_on : (marks : List Mark) → GoesOn marks marks
same_goes_on marks = record { seen = λ u s. s; closed = λ u e. e }

pub then_goes_on : (a b c : List Mark) → GoesOn a b → GoesOn b c → GoesOn a c
then_goes_on a b c f g = record { seen = λ u s. g.seen u (f.seen u s); closed = λ u e. g.closed u (f.closed u e) }

pub entered_goes_on : (marks : List Mark) (v n : ℕ) → slice_get marks v ≡ Some Unseen → GoesOn marks (set marks v (Open n))
entered_goes_on marks v n is = record {
  seen = λ u (m, e, s). elim (cases_eq u v) [
    | inl q ↦ absurd (s (same_Some m Unseen (sym e ∙ (ap (slice_get marks) q ∙ is))))
    | inr q ↦ (m, unwritten marks v u (Open n) q ∙ e, s)
  ];
  closed = λ u e. elim (cases_eq u v) [
    | inl q ↦ let r : Some Closed ≡ Some Unseen = sym e ∙ (ap (slice_get marks) q ∙ is) in absurd (cc)
    | inr q ↦ unwritten marks v u (Open n) q ∙ e
  ];
}

pub entered_seen : (marks : List Mark) (v n : ℕ) → v < length marks → IsSeen (set marks v (Open n)) v
entered_seen marks v n l = (Open n, written marks v (Open n) l, λ q. absurd (cc))

-- ---- the end

-- where the way is empty nothing is open
pub none_open : {uses : List (Vec ℕ)} {s : Stage} → IsWalk uses s → s.path ≡ [] → (a u : ℕ) → slice_get s.pending a ≡ Some u → ⊥
none_open {uses} {s} w none a u e = by_first s.pending refl a u e
  where
    by_first : (xs : List ℕ) → xs ≡ s.pending → (a u : ℕ) → slice_get xs a ≡ Some u → ⊥
    by_first [] q a u e = absurd (cc)
    by_first (x ∷ xs) q a u e =
        let (l, f, p, r) = w.way.begins 0 0 (w.grouped.first x (ap (λ ys. slice_get ys 0) (sym q))) in
        let z : None ≡ Some f = ap (λ fs. slice_get fs l) (sym none) ∙ p in
        absurd (cc)

pub seen_is_closed : {uses : List (Vec ℕ)} {s : Stage} → IsWalk uses s → s.path ≡ [] → (u : ℕ) → IsSeen s.marks u → slice_get s.marks u ≡ Some Closed
seen_is_closed {uses} {s} w none u (m, e, n) = by_mark m e n
  where
    by_mark : (m : Mark) → slice_get s.marks u ≡ Some m → (m ≡ Unseen → ⊥) → slice_get s.marks u ≡ Some Closed
    by_mark Unseen e n = absurd (n refl)
    by_mark (Open a) e n = absurd (none_open w none a u (w.marked.marked_open a u e))
    by_mark Closed e n = e

module _ {uses : List (Vec ℕ)} {s : Stage} (walk : IsWalk uses s) (all : (u : ℕ) → u < length uses → slice_get s.marks u ≡ Some Closed) where
  pub lists_each : ListsEach (length uses) s.listed
  lists_each = record {
    below = λ k i e. let l = slice_get_within s.marks i Closed (walk.marked.listed_marked k i e) in let n = walk.marks_all in omega arith;
    there = λ i l. walk.marked.marked_listed i (all i l);
    once = walk.marked.once;
  }

  pub stand_behind : StandBehindUses uses s.listed
  stand_behind = walk.closed.behind

  pub tell_cyclic : TellCyclic uses s.cyclic
  tell_cyclic = record {
    all = walk.flags_all;
    each = λ i b e. walk.closed.tells i b (all i (let l = slice_get_within s.cyclic i b e in let n = walk.flags_all in omega arith)) e;
  }
