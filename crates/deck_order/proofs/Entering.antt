-- One more definition is open.
use Rattle.std.proofs.Common.{◌≡◌, ◌⊎◌, inl, inr, ℕ, ◌<◌, ◌≤◌, List, [], ◌∷◌, ◌++◌, length, None, Some, refl, sym, ap, subst, ◌∙◌, arith}
use Rattle.std.proofs.lemmas.Bool.{cases_eq, cases_lt}
use Rattle.std.proofs.lemmas.List.{length-set}
use Rattle.std.proofs.lemmas.Option.{same_Some, slice_get_within}
use Rattle.std.specs.Prelude.{slice_get}
use Rattle.std.specs.Global.{Vec}
use Rattle.deck_order.specs.declared.mark.Mark.{Mark}
use Rattle.deck_order.specs.declared.mark.Mark.TheVariants.{Unseen, Open, Closed}
use Rattle.deck_order.specs.declared.step.Step.{Step}
use Rattle.deck_order.specs.Uses.{IsUse, Leads, at_once}
use Rattle.deck_order.specs.Working.Walks.{Stage, IsMarked, NoneBegins, IsGrouped, IsWay, IsPast, AreMet, IsClosed, IsWalk, IsLast, MayOpen, entered}
use Rattle.list_facts.proofs.Slots.{at_end, front, one_more, unwritten, written, written_cases}
use Rattle.deck_order.proofs.Leading.{onward}

-- every bound is at or below the place of the way's last definition
pub bounds_low : {s : Stage} (f : Step) → IsWay s → IsLast s.path f → (m c : ℕ) → slice_get s.bounds m ≡ Some c → c ≤ f.at
bounds_low {s} f w (k, e, g) m c b =
    let (l, h, p, q) = w.begins m c b in
    let i = slice_get_within s.path l h p in
    elim (cases_eq l k) [
      | inl t ↦ let same : h ≡ f = same_Some h f (sym p ∙ (ap (slice_get s.path) t ∙ g)) in let r = ap (λ (x : Step). x.at) same in omega arith
      | inr t ↦ let r = w.rises l k h f (omega arith) p g in omega arith
    ]

-- each open definition leads to the last on the way, or is it
pub leads_to_last : {uses : List (Vec ℕ)} {s : Stage} (f : Step) → IsGrouped uses s → IsWay s → IsLast s.path f → (a u : ℕ) → slice_get s.pending a ≡ Some u
    → (u ≡ f.definition) ⊎ Leads uses u f.definition
leads_to_last {uses} {s} f g w l a u e =
    let here = w.there l.0 f l.2 in
    elim (cases_lt a f.at) [
      | inl t ↦ inr (g.up a f.at u f.definition e here t)
      | inr t ↦ elim (cases_eq a f.at) [
        | inl q ↦ inl (same_Some u f.definition (sym e ∙ (ap (slice_get s.pending) q ∙ here)))
        | inr q ↦ inr (g.back a f.at u f.definition e here (omega arith) (λ m c b low high. let r = bounds_low f w l m c b in absurd (omega arith)))
      ]
    ]

module _ {uses : List (Vec ℕ)} {s : Stage} (walk : IsWalk uses s) (v : ℕ) (is : slice_get s.marks v ≡ Some Unseen) (may : MayOpen uses s.path v) where
  abbrev n : ℕ
  n = length s.pending

  within : v < length s.marks
  within = slice_get_within s.marks v Unseen is

  -- an open definition isn't the new one
  other : (a u : ℕ) → slice_get s.pending a ≡ Some u → u ≡ v → ⊥
  other a u e q = let m = walk.marked.open_marked a u e in let r : Some Unseen ≡ Some (Open a) = sym is ∙ (ap (slice_get s.marks) (sym q) ∙ m) in absurd (cc)

  as_before : (u : ℕ) (m : Mark) → (u ≡ v → ⊥) → slice_get s.marks u ≡ Some m → slice_get (entered s v).marks u ≡ Some m
  as_before u m q e = unwritten s.marks v u (Open n) q ∙ e

  not_listed : (k u : ℕ) → slice_get s.listed k ≡ Some u → u ≡ v → ⊥
  not_listed k u e q = let m = walk.marked.listed_marked k u e in let r : Some Unseen ≡ Some Closed = sym is ∙ (ap (slice_get s.marks) (sym q) ∙ m) in absurd (cc)

  not_closed : (u : ℕ) → slice_get s.marks u ≡ Some Closed → u ≡ v → ⊥
  not_closed u e q = let r : Some Unseen ≡ Some Closed = sym is ∙ (ap (slice_get s.marks) (sym q) ∙ e) in absurd (cc)

  was_closed : (u : ℕ) → slice_get (entered s v).marks u ≡ Some Closed → slice_get s.marks u ≡ Some Closed
  was_closed u e =
      elim (written_cases s.marks v u (Open n) Closed e) [
        | inl (q, r) ↦ absurd (cc)
        | inr (q, r) ↦ r
      ]

  marked : IsMarked (entered s v)
  marked = record {
    open_marked = λ a u e. elim (one_more s.pending a u v e) [
      | inl (l, p) ↦ as_before u (Open a) (other a u p) (walk.marked.open_marked a u p)
      | inr (q, r) ↦ subst (λ x. slice_get (entered s v).marks x ≡ Some (Open a)) (sym r) (written s.marks v (Open n) within ∙ ap (λ x. Some (Open x)) (sym q))
    ];
    marked_open = λ a u e. elim (written_cases s.marks v u (Open n) (Open a) e) [
      | inl (q, r) ↦ let t : a ≡ n = cc in ap (slice_get (s.pending ++ v ∷ [])) t ∙ (at_end s.pending v ∙ ap (λ x. Some x) (sym q))
      | inr (q, r) ↦ front s.pending (v ∷ []) a u (walk.marked.marked_open a u r)
    ];
    listed_marked = λ k u e. as_before u Closed (not_listed k u e) (walk.marked.listed_marked k u e);
    marked_listed = λ u e. walk.marked.marked_listed u (was_closed u e);
    once = walk.marked.once;
  }

  -- each open definition leads to the new one
  leads : (a u : ℕ) → slice_get s.pending a ≡ Some u → Leads uses u v
  leads a u e =
      elim may [
        | inl none ↦ absurd (nothing_open none)
        | inr (f, last, u_f) ↦ elim (leads_to_last f walk.grouped walk.way last a u e) [
          | inl q ↦ at_once (subst (λ x. IsUse uses x v) (sym q) u_f)
          | inr l ↦ onward l (at_once u_f)
        ]
      ]
    where
      first_open : (xs : List ℕ) (i x : ℕ) → slice_get xs i ≡ Some x → (y : ℕ) × (slice_get xs 0 ≡ Some y)
      first_open [] i x e = absurd (cc)
      first_open (y ∷ xs) i x e = (y, refl)

      nothing_open : s.path ≡ [] → ⊥
      nothing_open none =
          let (y, h) = first_open s.pending a u e in
          let (l, f, p, q) = walk.way.begins 0 0 (walk.grouped.first y h) in
          let r : None ≡ Some f = ap (λ fs. slice_get fs l) (sym none) ∙ p in
          absurd (cc)

  none_old : (b a : ℕ) → NoneBegins (entered s v).bounds b a → NoneBegins s.bounds b a
  none_old b a none m c e = none m c (front s.bounds (n ∷ []) m c e)

  grouped : IsGrouped uses (entered s v)
  grouped = record {
    up = λ a b u w e f l. elim (one_more s.pending a u v e) [
      | inl (i, p) ↦ elim (one_more s.pending b w v f) [
        | inl (j, q) ↦ walk.grouped.up a b u w p q l
        | inr (j, q) ↦ subst (λ x. Leads uses u x) (sym q) (leads a u p)
      ]
      | inr (i, p) ↦ elim (one_more s.pending b w v f) [
        | inl (j, q) ↦ absurd (omega arith)
        | inr (j, q) ↦ absurd (omega arith)
      ]
    ];
    back = λ a b u w e f l none. elim (one_more s.pending a u v e) [
      | inl (i, p) ↦ elim (one_more s.pending b w v f) [
        | inl (j, q) ↦ walk.grouped.back a b u w p q l (none_old b a none)
        | inr (j, q) ↦ absurd (omega arith)
      ]
      | inr (i, p) ↦ absurd (none (length s.bounds) n (at_end s.bounds n) (omega arith) (omega arith))
    ];
    first = λ u e. first_bound s.pending refl u e;
  }
    where
      first_bound : (xs : List ℕ) → xs ≡ s.pending → (u : ℕ) → slice_get (xs ++ v ∷ []) 0 ≡ Some u → slice_get (s.bounds ++ n ∷ []) 0 ≡ Some 0
      first_bound [] q u e = no_bound s.bounds refl
        where
          no_bound : (bs : List ℕ) → bs ≡ s.bounds → slice_get (bs ++ n ∷ []) 0 ≡ Some 0
          no_bound [] r = ap (λ x. Some x) (ap length (sym q))
          no_bound (b ∷ bs) r =
              let (l, f, p, t) = walk.way.begins 0 b (ap (λ ys. slice_get ys 0) (sym r)) in
              let h : None ≡ Some f.definition = ap (λ ys. slice_get ys f.at) q ∙ walk.way.there l f p in
              absurd (cc)
      first_bound (x ∷ xs) q u e = front s.bounds (n ∷ []) 0 0 (walk.grouped.first x (ap (λ ys. slice_get ys 0) (sym q)))

  bound_below : (m c : ℕ) → slice_get s.bounds m ≡ Some c → c < n
  bound_below m c e =
      let (l, f, p, q) = walk.way.begins m c e in
      let i = slice_get_within s.pending f.at f.definition (walk.way.there l f p) in
      omega arith

  abbrev step : Step
  step = record { definition = v; at = n; next = 0 }

  way : IsWay (entered s v)
  way = record {
    there = λ m f e. elim (one_more s.path m f step e) [
      | inl (l, p) ↦ front s.pending (v ∷ []) f.at f.definition (walk.way.there m f p)
      | inr (l, p) ↦ subst (λ (x : Step). slice_get (s.pending ++ v ∷ []) x.at ≡ Some x.definition) (sym p) (at_end s.pending v)
    ];
    rises = λ l m f g less e h. elim (one_more s.path l f step e) [
      | inl (i, p) ↦ elim (one_more s.path m g step h) [
        | inl (j, q) ↦ walk.way.rises l m f g less p q
        | inr (j, q) ↦ let k = slice_get_within s.pending f.at f.definition (walk.way.there l f p) in let r = ap (λ (x : Step). x.at) q in omega arith
      ]
      | inr (i, p) ↦ elim (one_more s.path m g step h) [
        | inl (j, q) ↦ absurd (omega arith)
        | inr (j, q) ↦ absurd (omega arith)
      ]
    ];
    begins = λ m c e. elim (one_more s.bounds m c n e) [
      | inl (l, p) ↦ let (k, f, q, r) = walk.way.begins m c p in (k, f, front s.path (step ∷ []) k f q, r)
      | inr (l, p) ↦ (length s.path, step, at_end s.path step, sym p)
    ];
    bounds_rise = λ l m c d less e f. elim (one_more s.bounds l c n e) [
      | inl (i, p) ↦ elim (one_more s.bounds m d n f) [
        | inl (j, q) ↦ walk.way.bounds_rise l m c d less p q
        | inr (j, q) ↦ let k = bound_below l c p in omega arith
      ]
      | inr (i, p) ↦ elim (one_more s.bounds m d n f) [
        | inl (j, q) ↦ absurd (omega arith)
        | inr (j, q) ↦ absurd (omega arith)
      ]
    ];
  }

  was_past : (u p : ℕ) → IsPast (entered s v).path u p → IsPast s.path u p
  was_past u p past m f e q = past m f (front s.path (step ∷ []) m f e) q

  met : AreMet uses (entered s v)
  met a u p w e looked past =
      elim (one_more s.pending a u v e) [
        | inl (l, q) ↦ elim (walk.met a u p w q looked (was_past u p past)) [
          | inl c ↦ inl (as_before w Closed (not_closed w c) c)
          | inr (b, c, none) ↦ inr (
            b,
            as_before w (Open b) (other b w (walk.marked.marked_open b w c)) c,
            λ m d f low high. elim (one_more s.bounds m d n f) [
              | inl (i, g) ↦ none m d g low high
              | inr (i, g) ↦ absurd (omega arith)
            ],
          )
        ]
        | inr (l, q) ↦ absurd (let z = past (length s.path) step (at_end s.path step) (sym q) in omega arith)
      ]

  closed : IsClosed uses (entered s v)
  closed = record {
    inward = λ u w e z. let c = walk.closed.inward u w (was_closed u e) z in as_before w Closed (not_closed w c) c;
    behind = walk.closed.behind;
    tells = λ u b e. walk.closed.tells u b (was_closed u e);
  }

  pub entered_walk : IsWalk uses (entered s v)
  entered_walk = record {
    marks_all = length-set s.marks v (Open n) ∙ walk.marks_all;
    flags_all = walk.flags_all;
    marked = marked;
    grouped = grouped;
    way = way;
    met = met;
    closed = closed;
  }
