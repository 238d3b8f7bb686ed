-- The last definition on the way is left, and its group, which begins with it, is closed.
use Rattle.std.proofs.Common.{◌≡◌, ◌⊎◌, ◌↔◌, inl, inr, ℕ, zero, suc, ◌+◌, ◌-◌, ◌<◌, ◌≤◌, Bool, true, List, [], ◌∷◌, ◌++◌, length, drop, reverse, None, Some, refl, sym, ap, subst, ◌∙◌, arith}
use Rattle.std.proofs.lemmas.Bool.{cases_eq, cases_lt}
use Rattle.std.proofs.lemmas.List.{length-reverse}
use Rattle.std.proofs.lemmas.Option.{same_Some, slice_get_within}
use Rattle.std.specs.Prelude.{slice_get}
use Rattle.std.specs.Global.{Vec}
use Rattle.deck_order.specs.declared.mark.Mark.{Mark}
use Rattle.deck_order.specs.declared.mark.Mark.TheVariants.{Unseen, Open, Closed}
use Rattle.deck_order.specs.declared.step.Step.{Step}
use Rattle.deck_order.specs.Uses.{used_by, IsUse, Leads, at_once, by}
use Rattle.deck_order.specs.Working.Walks.{Stage, IsMarked, IsGrouped, IsWay, IsPast, AreMet, IsClosed, IsWalk, IsLast, GoesOn, unseen}
use Rattle.deck_order.specs.Working.Closing.{group_left}
use Rattle.list_facts.proofs.Slots.{at_end, behind, dropped, either, front, one_more, take_has, taken}
use Rattle.deck_order.proofs.Leading.{kept, onward}
use Rattle.deck_order.proofs.Entering.{bounds_low}
use Rattle.deck_order.proofs.Counting.{flag_was, is_closed, length_closed, length_flags, none_seen_more, stays_closed, still_so, was_so}
use Rattle.deck_order.proofs.ClosingSteps.{turned_more}
use Rattle.deck_order.proofs.Leaving as leaving

-- a place of a list that is turned round is one of the list, and the other way round
turned : {X : Type 0} (xs : List X) (k : ℕ) (x : X) → slice_get (reverse xs) k ≡ Some x → (j : ℕ) × (j + k + 1 ≡ length xs) × (slice_get xs j ≡ Some x)
turned [] k x e = absurd (cc)
turned (y ∷ xs) k x e =
    elim (one_more (reverse xs) k x y (ap (λ zs. slice_get zs k) (sym (turned_more y xs)) ∙ e)) [
      | inl (l, p) ↦ let (j, q, r) = turned xs k x p in (suc j, (let z : suc j + k + 1 ≡ suc (length xs) = omega arith in z), r)
      | inr (l, p) ↦ (0, (let n = length-reverse xs in let z : 0 + k + 1 ≡ suc (length xs) = omega arith in z), ap (λ z. Some z) (sym p))
    ]

back_turned : {X : Type 0} (xs : List X) (j : ℕ) (x : X) → slice_get xs j ≡ Some x → (k : ℕ) × (slice_get (reverse xs) k ≡ Some x)
back_turned [] j x e = absurd (cc)
back_turned (y ∷ xs) zero x e = (length (reverse xs), ap (λ zs. slice_get zs (length (reverse xs))) (turned_more y xs) ∙ (at_end (reverse xs) y ∙ e))
back_turned (y ∷ xs) (suc j) x e =
    let (k, p) = back_turned xs j x e in
    (k, ap (λ zs. slice_get zs k) (turned_more y xs) ∙ front (reverse xs) (y ∷ []) k x p)

module _ {uses : List (Vec ℕ)} {s : Stage} (walk : IsWalk uses s) (before : List Step) (f : Step) (is : s.path ≡ before ++ f ∷ []) (none : slice_get (used_by uses f.definition) f.next ≡ None)
    (lows : List ℕ) (is_low : s.bounds ≡ lows ++ f.at ∷ []) (b : Bool) (tells : (b ≡ true) ↔ ((length s.pending ≡ f.at + 1 → ⊥) ⊎ IsUse uses f.definition f.definition)) where
  abbrev group : List ℕ
  group = drop f.at s.pending

  abbrev new : Stage
  new = group_left s before lows f.at b

  last : IsLast s.path f
  last = leaving.is_last walk before f is none

  here : slice_get s.pending f.at ≡ Some f.definition
  here = walk.way.there last.0 f last.2

  -- ---- places of the group

  in_group : (a u : ℕ) → f.at ≤ a → slice_get s.pending a ≡ Some u → (k : ℕ) × (slice_get group k ≡ Some u)
  in_group a u l e = (a - f.at, dropped f.at s.pending (a - f.at) ∙ (let z : f.at + (a - f.at) ≡ a = omega arith in ap (slice_get s.pending) z) ∙ e)

  of_group : (k u : ℕ) → slice_get group k ≡ Some u → slice_get s.pending (f.at + k) ≡ Some u
  of_group k u e = sym (dropped f.at s.pending k) ∙ e

  mark_of : (k u : ℕ) → slice_get group k ≡ Some u → slice_get s.marks u ≡ Some (Open (f.at + k))
  mark_of k u e = walk.marked.open_marked (f.at + k) u (of_group k u e)

  marks_there : (u : ℕ) (m : Mark) → slice_get s.marks u ≡ Some m → u < length s.marks
  marks_there u m e = slice_get_within s.marks u m e

  now_closed : (k u : ℕ) → slice_get group k ≡ Some u → slice_get new.marks u ≡ Some Closed
  now_closed k u e = is_closed s.marks group k u e (marks_there u _ (mark_of k u e))

  stays : (u : ℕ) → slice_get s.marks u ≡ Some Closed → slice_get new.marks u ≡ Some Closed
  stays u e = stays_closed s.marks group u (marks_there u Closed e) e

  -- what is open below the group isn't in it
  not_in : (a u : ℕ) → a < f.at → slice_get s.marks u ≡ Some (Open a) → (k : ℕ) → slice_get group k ≡ Some u → ⊥
  not_in a u l e k g = let m : Some (Open a) ≡ Some (Open (f.at + k)) = sym e ∙ mark_of k u g in let z : a ≡ f.at + k = cc in omega arith

  closed_not_in : (u : ℕ) → slice_get s.marks u ≡ Some Closed → (k : ℕ) → slice_get group k ≡ Some u → ⊥
  closed_not_in u e k g = let m : Some Closed ≡ Some (Open (f.at + k)) = sym e ∙ mark_of k u g in absurd (cc)

  marked : IsMarked new
  marked = record {
    open_marked = λ a u e. let (l, p) = taken f.at s.pending a u e in let m = walk.marked.open_marked a u p in still_so s.marks group u (Open a) (not_in a u l m) m;
    marked_open = λ a u e. elim (was_so s.marks group u (Open a) e) [
      | inl (k, p, q) ↦ absurd (cc)
      | inr m ↦ elim (cases_lt a f.at) [
        | inl l ↦ take_has f.at s.pending a u l (walk.marked.marked_open a u m)
        | inr l ↦ let (k, p) = in_group a u (omega arith) (walk.marked.marked_open a u m) in let z : Some (Open a) ≡ Some Closed = sym e ∙ now_closed k u p in absurd (cc)
      ]
    ];
    listed_marked = λ k u e. elim (either s.listed (reverse group) k u e) [
      | inl (l, p) ↦ stays u (walk.marked.listed_marked k u p)
      | inr (i, l, p) ↦ let (j, q, r) = turned group i u p in now_closed j u r
    ];
    marked_listed = λ u e. elim (was_so s.marks group u Closed e) [
      | inl (k, p, q) ↦ let (i, r) = back_turned group k u p in (length s.listed + i, behind s.listed (reverse group) i ∙ r)
      | inr m ↦ let (k, p) = walk.marked.marked_listed u m in (k, front s.listed (reverse group) k u p)
    ];
    once = λ j k u e d. elim (either s.listed (reverse group) j u e) [
      | inl (l, p) ↦ elim (either s.listed (reverse group) k u d) [
        | inl (m, q) ↦ walk.marked.once j k u p q
        | inr (i, m, q) ↦ let (x, y, z) = turned group i u q in absurd (closed_not_in u (walk.marked.listed_marked j u p) x z)
      ]
      | inr (h, l, p) ↦ elim (either s.listed (reverse group) k u d) [
        | inl (m, q) ↦ let (x, y, z) = turned group h u p in absurd (closed_not_in u (walk.marked.listed_marked k u q) x z)
        | inr (i, m, q) ↦
            let (x, y, z) = turned group h u p in
            let (x', y', z') = turned group i u q in
            let t : Some (Open (f.at + x)) ≡ Some (Open (f.at + x')) = sym (mark_of x u z) ∙ mark_of x' u z' in
            let v : f.at + x ≡ f.at + x' = cc in
            omega arith
      ]
    ];
  }

  -- ---- groups below

  low_bound : (m c : ℕ) → slice_get lows m ≡ Some c → slice_get s.bounds m ≡ Some c
  low_bound m c e = ap (λ cs. slice_get cs m) is_low ∙ front lows (f.at ∷ []) m c e

  last_bound : slice_get s.bounds (length lows) ≡ Some f.at
  last_bound = ap (λ cs. slice_get cs (length lows)) is_low ∙ at_end lows f.at

  low_below : (m c : ℕ) → slice_get lows m ≡ Some c → c < f.at
  low_below m c e = walk.way.bounds_rise m (length lows) c f.at (slice_get_within lows m c e) (low_bound m c e) last_bound

  bound_cases : (m c : ℕ) → slice_get s.bounds m ≡ Some c → (slice_get lows m ≡ Some c) ⊎ (c ≡ f.at)
  bound_cases m c e =
      elim (one_more lows m c f.at (ap (λ cs. slice_get cs m) (sym is_low) ∙ e)) [
        | inl (l, p) ↦ inl p
        | inr (l, p) ↦ inr p
      ]

  grouped : IsGrouped uses new
  grouped = record {
    up = λ a c u v e d l. walk.grouped.up a c u v (taken f.at s.pending a u e).1 (taken f.at s.pending c v d).1 l;
    back = λ a c u v e d l free. walk.grouped.back a c u v (taken f.at s.pending a u e).1 (taken f.at s.pending c v d).1 l (λ m x y low high. elim (bound_cases m x y) [
      | inl p ↦ free m x p low high
      | inr p ↦ let t = (taken f.at s.pending a u e).0 in absurd (omega arith)
    ]);
    first = λ u e. let (l, p) = taken f.at s.pending 0 u e in elim (one_more lows 0 0 f.at (ap (λ cs. slice_get cs 0) (sym is_low) ∙ walk.grouped.first u p)) [
      | inl (i, q) ↦ q
      | inr (i, q) ↦ absurd (omega arith)
    ];
  }

  way : IsWay new
  way = record {
    there = λ m g e.
        let p = leaving.on_path walk before f is none m g e in
        let l = walk.way.rises m (length before) g f (slice_get_within before m g e) p (leaving.last_on_path walk before f is none) in
        take_has f.at s.pending g.at g.definition l (walk.way.there m g p);
    rises = λ l m g h less e d. walk.way.rises l m g h less (leaving.on_path walk before f is none l g e) (leaving.on_path walk before f is none m h d);
    begins = leaving.begins_before walk before f is none lows low_bound (λ m c e q. let l = low_below m c e in absurd (omega arith));
    bounds_rise = λ l m c d less e g. walk.way.bounds_rise l m c d less (low_bound l c e) (low_bound m d g);
  }

  -- ---- uses

  met : AreMet uses new
  met a u p w e looked_at past =
      let (l, q) = taken f.at s.pending a u e in
      elim (walk.met a u p w q looked_at (leaving.still_past walk before f is none u p w looked_at past)) [
        | inl c ↦ inl (stays w c)
        | inr (x, m, free) ↦ elim (cases_lt x f.at) [
          | inl i ↦ inr (x, still_so s.marks group w (Open x) (not_in x w i m) m, λ k c g low high. free k c (low_bound k c g) low high)
          | inr i ↦ let (k, g) = in_group x w (omega arith) (walk.marked.marked_open x w m) in inl (now_closed k w g)
        ]
      ]

  -- a definition of the group uses what was closed, and what is of the group
  group_uses : (k u p w : ℕ) → slice_get group k ≡ Some u → slice_get (used_by uses u) p ≡ Some w → (slice_get s.marks w ≡ Some Closed) ⊎ ((j : ℕ) × (slice_get group j ≡ Some w))
  group_uses k u p w e looked_at =
      elim (walk.met (f.at + k) u p w (of_group k u e) looked_at (leaving.still_past walk before f is none u p w looked_at off_way)) [
        | inl c ↦ inl c
        | inr (x, m, free) ↦ elim (cases_lt x f.at) [
          | inl i ↦ absurd (free (length lows) f.at last_bound i (omega arith))
          | inr i ↦ inr (in_group x w (omega arith) (walk.marked.marked_open x w m))
        ]
      ]
    where
      off_way : IsPast before u p
      off_way m g h q =
          let on = leaving.on_path walk before f is none m g h in
          let l = walk.way.rises m (length before) g f (slice_get_within before m g h) on (leaving.last_on_path walk before f is none) in
          let r = walk.marked.open_marked g.at u (walk.way.there m g on ∙ ap (λ x. Some x) q) in
          absurd (not_in g.at u l r k e)

  -- two definitions of the group lead to each other
  both_ways : (j k u v : ℕ) → (j ≡ k → ⊥) → slice_get group j ≡ Some u → slice_get group k ≡ Some v → Leads uses u v
  both_ways j k u v n e d =
      elim (cases_lt j k) [
        | inl l ↦ walk.grouped.up (f.at + j) (f.at + k) u v (of_group j u e) (of_group k v d) (omega arith)
        | inr l ↦ walk.grouped.back (f.at + j) (f.at + k) u v (of_group j u e) (of_group k v d) (omega arith) (λ m c x low high. let z = bounds_low f walk.way last m c x in absurd (omega arith))
      ]

  first_of_group : slice_get group 0 ≡ Some f.definition
  first_of_group = dropped f.at s.pending 0 ∙ ((let z : f.at + 0 ≡ f.at = omega arith in ap (slice_get s.pending) z) ∙ here)

  round : (k u : ℕ) → slice_get group k ≡ Some u → (b ≡ true) → Leads uses u u
  round k u e t =
      elim (cases_eq k 0) [
        | inl z ↦ alone z
        | inr z ↦ onward (both_ways k 0 u f.definition z e first_of_group) (both_ways 0 k f.definition u (λ q. z (sym q)) first_of_group e)
      ]
    where
      second : (xs : List ℕ) (n : ℕ) → n < length xs → (x : ℕ) × (slice_get xs n ≡ Some x)
      second [] n l = absurd (omega arith)
      second (x ∷ xs) zero l = (x, refl)
      second (x ∷ xs) (suc n) l = second xs n (omega arith)

      alone : k ≡ 0 → Leads uses u u
      alone z =
          let is_f : u ≡ f.definition = same_Some u f.definition (sym e ∙ (ap (slice_get group) z ∙ first_of_group)) in
          elim (tells.0 t) [
            | inl more ↦
                let i = slice_get_within s.pending f.at f.definition here in
                let (x, g) = second s.pending (f.at + 1) (elim (cases_lt (f.at + 1) (length s.pending)) [ inl l ↦ l | inr l ↦ absurd (more (omega arith)) ]) in
                let h : slice_get group 1 ≡ Some x = dropped f.at s.pending 1 ∙ g in
                onward (both_ways k 1 u x (λ q. omega arith) e h) (both_ways 1 k x u (λ q. omega arith) h e)
            | inr itself ↦ at_once (subst (λ x. IsUse uses x x) (sym is_f) itself)
          ]

  flagged : (k u : ℕ) → slice_get group k ≡ Some u → Leads uses u u → b ≡ true
  flagged k u e l =
      elim (cases_eq (length s.pending) (f.at + 1)) [
        | inl one ↦ tells.1 (inr (itself one l))
        | inr more ↦ tells.1 (inl more)
      ]
    where
      is_first : length s.pending ≡ f.at + 1 → (j w : ℕ) → slice_get group j ≡ Some w → w ≡ f.definition
      is_first one j w d =
          let i = slice_get_within s.pending (f.at + j) w (of_group j w d) in
          let z : j ≡ 0 = omega arith in
          same_Some w f.definition (sym d ∙ (ap (slice_get group) z ∙ first_of_group))

      goes_out : (w : ℕ) → slice_get s.marks w ≡ Some Closed → Leads uses w u → ⊥
      goes_out w c m =
          let r = kept (λ x. slice_get s.marks x ≡ Some Closed) (λ x y p q. walk.closed.inward x y p q) c m in
          closed_not_in u r k e

      itself : length s.pending ≡ f.at + 1 → Leads uses u u → IsUse uses f.definition f.definition
      itself one (at_once z) = subst (λ x. IsUse uses x x) (is_first one k u e) z
      itself one (by {k = w} z m) =
          elim (group_uses k u z.0 w e z.1) [
            | inl c ↦ absurd (goes_out w c m)
            | inr (j, d) ↦
                let same : w ≡ u = is_first one j w d ∙ sym (is_first one k u e) in
                subst (λ x. IsUse uses x x) (is_first one k u e) (subst (IsUse uses u) same z)
          ]

  closed_parts : IsClosed uses new
  closed_parts = record {
    inward = λ u w e z. elim (was_so s.marks group u Closed e) [
      | inl (k, p, q) ↦ elim (group_uses k u z.0 w p z.1) [
        | inl c ↦ stays w c
        | inr (j, d) ↦ now_closed j w d
      ]
      | inr m ↦ stays w (walk.closed.inward u w m z)
    ];
    behind = λ k u v e z apart. elim (either s.listed (reverse group) k u e) [
      | inl (l, p) ↦ let (m, less, q) = walk.closed.behind k u v p z apart in (m, less, front s.listed (reverse group) m v q)
      | inr (i, l, p) ↦
          let (j, y, d) = turned group i u p in
          elim (group_uses j u z.0 v d z.1) [
            | inl c ↦ let (m, q) = walk.marked.marked_listed v c in let w = slice_get_within s.listed m v q in (m, omega arith, front s.listed (reverse group) m v q)
            | inr (h, g) ↦ elim (cases_eq h j) [
              | inl same ↦ let t : Some v ≡ Some u = sym g ∙ (ap (slice_get group) same ∙ d) in let r : v ≡ u = cc in absurd (apart (at_once (subst (λ x. IsUse uses x u) (sym r) (subst (IsUse uses u) r z))))
              | inr other ↦ absurd (apart (both_ways h j v u other g d))
            ]
          ]
    ];
    tells = λ u c e d. elim (flag_was s.cyclic b c group u d) [
      | inl (k, p, q) ↦ (λ t. round k u p (sym q ∙ t), λ l. q ∙ flagged k u p l)
      | inr (free, d) ↦ elim (was_so s.marks group u Closed e) [
        | inl (k, p, q) ↦ absurd (free k p)
        | inr m ↦ walk.closed.tells u c m d
      ]
    ];
  }

  pub group_left_walk : IsWalk uses new
  group_left_walk = record {
    marks_all = length_closed s.marks group ∙ walk.marks_all;
    flags_all = length_flags s.cyclic b group ∙ walk.flags_all;
    marked = marked;
    grouped = grouped;
    way = way;
    met = met;
    closed = closed_parts;
  }

  pub group_left_unseen : unseen new.marks ≡ unseen s.marks
  group_left_unseen = none_seen_more s.marks group (λ k u e z. let m : Some Unseen ≡ Some (Open (f.at + k)) = sym z ∙ mark_of k u e in absurd (cc))

  pub group_left_goes_on : GoesOn s.marks new.marks
  group_left_goes_on = record {
    seen = λ u (m, e, n). by_place u m e n;
    closed = stays;
  }
    where
      by_place : (u : ℕ) (m : Mark) → slice_get s.marks u ≡ Some m → (m ≡ Unseen → ⊥) → (c : Mark) × (slice_get new.marks u ≡ Some c) × (c ≡ Unseen → ⊥)
      by_place u Unseen e n = absurd (n refl)
      by_place u Closed e n = (Closed, stays u e, λ q. absurd (cc))
      by_place u (Open a) e n =
          elim (cases_lt a f.at) [
            | inl l ↦ (Open a, still_so s.marks group u (Open a) (not_in a u l e) e, n)
            | inr l ↦ let (k, p) = in_group a u (omega arith) (walk.marked.marked_open a u e) in (Closed, now_closed k u p, λ q. absurd (cc))
          ]
