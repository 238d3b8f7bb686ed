-- The last definition on the way is left, and its group stays open.
use Rattle.std.proofs.Common.{◌≡◌, ◌⊎◌, inl, inr, ℕ, zero, suc, ◌+◌, ◌<◌, List, [], ◌∷◌, ◌++◌, length, None, Some, refl, sym, ap, ◌∙◌, arith}
use Rattle.std.proofs.lemmas.Bool.{cases_eq}
use Rattle.std.proofs.lemmas.Option.{slice_get_within}
use Rattle.std.specs.Prelude.{slice_get}
use Rattle.std.specs.Global.{Vec}
use Rattle.deck_order.specs.declared.step.Step.{Step}
use Rattle.deck_order.specs.Uses.{used_by}
use Rattle.deck_order.specs.Working.Walks.{Stage, IsPast, IsWalk, IsLast, left}
use Rattle.list_facts.proofs.Slots.{at_end, front, one_more}
use Rattle.deck_order.proofs.Entering.{bounds_low}

-- where a list has no more at a place, each of its places is below that
pub below_none : {X : Type 0} (xs : List X) (i k : ℕ) (x : X) → slice_get xs i ≡ None → slice_get xs k ≡ Some x → k < i
below_none [] i k x n e = absurd (cc)
below_none (y ∷ xs) zero k x n e = absurd (cc)
below_none (y ∷ xs) (suc i) zero x n e = omega arith
below_none (y ∷ xs) (suc i) (suc k) x n e = let l = below_none xs i k x n e in omega arith

module _ {uses : List (Vec ℕ)} {s : Stage} (walk : IsWalk uses s) (before : List Step) (f : Step) (is : s.path ≡ before ++ f ∷ []) (none : slice_get (used_by uses f.definition) f.next ≡ None) where
  pub on_path : (m : ℕ) (g : Step) → slice_get before m ≡ Some g → slice_get s.path m ≡ Some g
  on_path m g e = ap (λ fs. slice_get fs m) is ∙ front before (f ∷ []) m g e

  pub last_on_path : slice_get s.path (length before) ≡ Some f
  last_on_path = ap (λ fs. slice_get fs (length before)) is ∙ at_end before f

  pub path_cases : (m : ℕ) (g : Step) → slice_get s.path m ≡ Some g → ((m < length before) × (slice_get before m ≡ Some g)) ⊎ ((m ≡ length before) × (g ≡ f))
  path_cases m g e = one_more before m g f (ap (λ fs. slice_get fs m) (sym is) ∙ e)

  pub is_last : IsLast s.path f
  is_last = (length before, (let l = length_more before in l ∙ ap length (sym is)), last_on_path)
    where
      length_more : (fs : List Step) → length fs + 1 ≡ length (fs ++ f ∷ [])
      length_more [] = refl
      length_more (g ∷ fs) = let l = length_more fs in omega arith

  -- a use that was looked at wherever its definition stands still was
  pub still_past : (u p w : ℕ) → slice_get (used_by uses u) p ≡ Some w → IsPast before u p → IsPast s.path u p
  still_past u p w e past m g h q =
      elim (path_cases m g h) [
        | inl (l, r) ↦ past m g r q
        | inr (l, r) ↦
            let same : u ≡ f.definition = sym q ∙ ap (λ (x : Step). x.definition) r in
            let less = below_none (used_by uses f.definition) f.next p w none (ap (λ x. slice_get (used_by uses x) p) (sym same) ∙ e) in
            let n = ap (λ (x : Step). x.next) r in
            omega arith
      ]

  -- the bounds of groups that begin before it are those of definitions before it
  module _ (bounds : List ℕ) (same : (m c : ℕ) → slice_get bounds m ≡ Some c → slice_get s.bounds m ≡ Some c) (other : (m c : ℕ) → slice_get bounds m ≡ Some c → c ≡ f.at → ⊥) where
    pub begins_before : (m c : ℕ) → slice_get bounds m ≡ Some c → (l : ℕ) × (g : Step) × (slice_get before l ≡ Some g) × (g.at ≡ c)
    begins_before m c e =
        let (l, g, p, q) = walk.way.begins m c (same m c e) in
        elim (path_cases l g p) [
          | inl (i, r) ↦ (l, g, r, q)
          | inr (i, r) ↦ absurd (other m c e (sym q ∙ ap (λ (x : Step). x.at) r))
        ]

  -- where its group doesn't begin with it no bound is at its place
  pub other_bounds : ((m : ℕ) → m + 1 ≡ length s.bounds → slice_get s.bounds m ≡ Some f.at → ⊥) → (m c : ℕ) → slice_get s.bounds m ≡ Some c → c ≡ f.at → ⊥
  other_bounds n m c e q =
      elim (cases_eq (m + 1) (length s.bounds)) [
        | inl t ↦ n m t (e ∙ ap (λ x. Some x) q)
        | inr t ↦
            let i = slice_get_within s.bounds m c e in
            let (d, g) = more s.bounds (m + 1) (omega arith) in
            let r = walk.way.bounds_rise m (m + 1) c d (omega arith) e g in
            let l = bounds_low f walk.way is_last (m + 1) d g in
            omega arith
      ]
    where
      more : (xs : List ℕ) (n : ℕ) → n < length xs → (x : ℕ) × (slice_get xs n ≡ Some x)
      more [] n l = absurd (omega arith)
      more (x ∷ xs) zero l = (x, refl)
      more (x ∷ xs) (suc n) l = more xs n (omega arith)

  pub left_walk : ((m c : ℕ) → slice_get s.bounds m ≡ Some c → c ≡ f.at → ⊥) → IsWalk uses (left s before)
  left_walk other = record {
    marks_all = walk.marks_all;
    flags_all = walk.flags_all;
    marked = record {
      open_marked = walk.marked.open_marked;
      marked_open = walk.marked.marked_open;
      listed_marked = walk.marked.listed_marked;
      marked_listed = walk.marked.marked_listed;
      once = walk.marked.once;
    };
    grouped = record { up = walk.grouped.up; back = walk.grouped.back; first = walk.grouped.first };
    way = record {
      there = λ m g e. walk.way.there m g (on_path m g e);
      rises = λ l m g h less e d. walk.way.rises l m g h less (on_path l g e) (on_path m h d);
      begins = begins_before s.bounds (λ m c e. e) other;
      bounds_rise = walk.way.bounds_rise;
    };
    met = λ a u p w e looked_at past. walk.met a u p w e looked_at (still_past u p w looked_at past);
    closed = record { inward = walk.closed.inward; behind = walk.closed.behind; tells = walk.closed.tells };
  }
