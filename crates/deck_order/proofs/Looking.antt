-- One more use of the last definition on the way is looked at.
use Rattle.std.proofs.Common.{◌≡◌, ◌⊎◌, inl, inr, ℕ, zero, suc, ◌+◌, ◌<◌, ◌≤◌, List, [], ◌∷◌, length, None, Some, refl, sym, ap, subst, ◌∙◌, arith}
use Rattle.std.proofs.lemmas.Bool.{cases_eq, cases_lt}
use Rattle.std.proofs.lemmas.Option.{same_Some, slice_get_within}
use Rattle.std.specs.Prelude.{slice_get}
use Rattle.std.specs.Global.{Vec}
use Rattle.deck_order.specs.declared.mark.Mark.{Mark}
use Rattle.deck_order.specs.declared.mark.Mark.TheVariants.{Unseen, Open, Closed}
use Rattle.deck_order.specs.declared.step.Step.{Step}
use Rattle.deck_order.specs.Uses.{used_by, IsUse, Leads, at_once}
use Rattle.deck_order.specs.Working.Walks.{Stage, IsMarked, NoneBegins, IsGrouped, IsWay, IsPast, IsMet, AreMet, IsWalk, IsLast, IsJoined, IsPassed, left_to_look, looked, seen_more}
use Rattle.list_facts.proofs.Slots.{take_has, taken}
use Rattle.deck_order.proofs.Leading.{onward}
use Rattle.deck_order.proofs.Entering.{leads_to_last}

-- two steps are of one definition, and the second has looked at as many uses, or is the last of the way and at one more
record IsLater (path : List Step) (m : ℕ) (f g : Step) : Type 0 where
  pub definition : g.definition ≡ f.definition
  pub at : g.at ≡ f.at
  pub next : (g.next ≡ f.next) ⊎ ((m + 1 ≡ length path) × (g.next ≡ f.next + 1))

pub looked_length : (path : List Step) → length (looked path) ≡ length path
looked_length [] = refl
looked_length (f ∷ []) = refl
looked_length (f ∷ g ∷ fs) = ap suc (looked_length (g ∷ fs))

later_more : (path : List Step) (m : ℕ) (e f g : Step) → IsLater path m f g → IsLater (e ∷ path) (suc m) f g
later_more path m e f g l = record {
  definition = l.definition;
  at = l.at;
  next = elim l.next [ inl q ↦ inl q | inr (p, q) ↦ inr ((let z : suc m + 1 ≡ suc (length path) = omega arith in z), q) ];
}

was_there : (path : List Step) (m : ℕ) (g : Step) → slice_get (looked path) m ≡ Some g → (f : Step) × (slice_get path m ≡ Some f) × IsLater path m f g
was_there [] m g e = absurd (cc)
was_there (f ∷ []) zero g e =
    let q = same_Some _ g e in
    (f, refl, record { definition = sym (ap (λ (x : Step). x.definition) q); at = sym (ap (λ (x : Step). x.at) q); next = inr (refl, sym (ap (λ (x : Step). x.next) q)) })
was_there (f ∷ []) (suc m) g e = absurd (cc)
was_there (f ∷ h ∷ fs) zero g e =
    let q = same_Some _ g e in
    (f, refl, record { definition = sym (ap (λ (x : Step). x.definition) q); at = sym (ap (λ (x : Step). x.at) q); next = inl (sym (ap (λ (x : Step). x.next) q)) })
was_there (f ∷ h ∷ fs) (suc m) g e =
    let (k, p, l) = was_there (h ∷ fs) m g e in
    (k, p, later_more (h ∷ fs) m f k g l)

is_there : (path : List Step) (m : ℕ) (f : Step) → slice_get path m ≡ Some f → (g : Step) × (slice_get (looked path) m ≡ Some g) × IsLater path m f g
is_there [] m f e = absurd (cc)
is_there (h ∷ []) zero f e =
    let q = same_Some h f e in (
      record { definition = h.definition; at = h.at; next = h.next + 1 },
      refl,
      record { definition = ap (λ (x : Step). x.definition) q; at = ap (λ (x : Step). x.at) q; next = inr (refl, ap (λ (x : Step). x.next + 1) q) },
    )
is_there (h ∷ []) (suc m) f e = absurd (cc)
is_there (h ∷ k ∷ fs) zero f e =
    let q = same_Some h f e in
    (h, refl, record { definition = ap (λ (x : Step). x.definition) q; at = ap (λ (x : Step). x.at) q; next = inl (ap (λ (x : Step). x.next) q) })
is_there (h ∷ k ∷ fs) (suc m) f e =
    let (g, p, l) = is_there (k ∷ fs) m f e in
    (g, p, later_more (k ∷ fs) m h f g l)

-- the last step is one
one_last : (path : List Step) (m : ℕ) (f g : Step) → IsLast path f → m + 1 ≡ length path → slice_get path m ≡ Some g → f ≡ g
one_last path m f g (k, e, p) q r = let same : k ≡ m = omega arith in same_Some f g (sym p ∙ (ap (slice_get path) same ∙ r))

module _ {uses : List (Vec ℕ)} {s : Stage} (walk : IsWalk uses s) (f : Step) (last : IsLast s.path f) (v : ℕ) (use_of : slice_get (used_by uses f.definition) f.next ≡ Some v) where
  here : slice_get s.pending f.at ≡ Some f.definition
  here = walk.way.there last.0 f last.2

  module _ (bounds : List ℕ) (same : (m c : ℕ) → slice_get bounds m ≡ Some c → slice_get s.bounds m ≡ Some c) (grouped : IsGrouped uses (seen_more s bounds)) (met_here : IsMet (seen_more s bounds) f.at v) where
    marked : IsMarked (seen_more s bounds)
    marked = record {
      open_marked = walk.marked.open_marked;
      marked_open = walk.marked.marked_open;
      listed_marked = walk.marked.listed_marked;
      marked_listed = walk.marked.marked_listed;
      once = walk.marked.once;
    }

    way : IsWay (seen_more s bounds)
    way = record {
      there = λ m g e. let (h, p, l) = was_there s.path m g e in ap (slice_get s.pending) l.at ∙ (walk.way.there m h p ∙ ap (λ x. Some x) (sym l.definition));
      rises = λ l m g h less e d.
          let (i, p, a) = was_there s.path l g e in
          let (j, q, b) = was_there s.path m h d in
          let r = walk.way.rises l m i j less p q in
          let x = a.at in
          let y = b.at in
          omega arith;
      begins = λ m c e.
          let (l, g, p, q) = walk.way.begins m c (same m c e) in
          let (h, r, t) = is_there s.path l g p in
          (l, h, r, t.at ∙ q);
      bounds_rise = λ l m c d less e g. walk.way.bounds_rise l m c d less (same l c e) (same m d g);
    }

    -- a use that was looked at is the new one, or was looked at before
    was_past : (u p : ℕ) → ((u ≡ f.definition) × (p ≡ f.next) → ⊥) → IsPast (looked s.path) u p → IsPast s.path u p
    was_past u p other past m g e q =
        let (h, r, l) = is_there s.path m g e in
        let less = past m h r (l.definition ∙ q) in
        elim l.next [
          | inl t ↦ let z = t in omega arith
          | inr (end, t) ↦
              let is_f = one_last s.path m f g last end e in
              let n = ap (λ (x : Step). x.next) is_f in
              elim (cases_eq p f.next) [
                | inl z ↦ absurd (other (sym q ∙ ap (λ (x : Step). x.definition) (sym is_f), z))
                | inr z ↦ omega arith
              ]
        ]

    weaker : (b a : ℕ) → NoneBegins s.bounds b a → NoneBegins bounds b a
    weaker b a none m c e = none m c (same m c e)

    met : AreMet uses (seen_more s bounds)
    met a u p w e looked_at past =
        elim (cases_eq u f.definition) [
          | inl q ↦ elim (cases_eq p f.next) [
            | inl r ↦ new q r
            | inr r ↦ old (λ x. r x.1)
          ]
          | inr q ↦ old (λ x. q x.0)
        ]
      where
        old : ((u ≡ f.definition) × (p ≡ f.next) → ⊥) → IsMet (seen_more s bounds) a w
        old other =
            elim (walk.met a u p w e looked_at (was_past u p other past)) [
              | inl c ↦ inl c
              | inr (b, c, none) ↦ inr (b, c, weaker b a none)
            ]

        new : u ≡ f.definition → p ≡ f.next → IsMet (seen_more s bounds) a w
        new q r =
            let m : slice_get s.marks u ≡ Some (Open f.at) = subst (λ x. slice_get s.marks x ≡ Some (Open f.at)) (sym q) (walk.marked.open_marked f.at f.definition here) in
            let n : Some (Open a) ≡ Some (Open f.at) = sym (walk.marked.open_marked a u e) ∙ m in
            let at : a ≡ f.at = cc in
            let is : Some w ≡ Some v = sym looked_at ∙ (ap (λ x. slice_get (used_by uses x) p) q ∙ (ap (slice_get (used_by uses f.definition)) r ∙ use_of)) in
            let z : w ≡ v = cc in
            subst (λ x. IsMet (seen_more s bounds) x w) (sym at) (subst (IsMet (seen_more s bounds) f.at) (sym z) met_here)

    pub seen_walk : IsWalk uses (seen_more s bounds)
    seen_walk = record {
      marks_all = walk.marks_all;
      flags_all = walk.flags_all;
      marked = marked;
      grouped = grouped;
      way = way;
      met = met;
      closed = record { inward = walk.closed.inward; behind = walk.closed.behind; tells = walk.closed.tells };
    }

  -- ---- a use that is closed

  pub closed_walk : slice_get s.marks v ≡ Some Closed → IsWalk uses (seen_more s s.bounds)
  closed_walk c =
      seen_walk s.bounds (λ m c e. e) (record { up = walk.grouped.up; back = walk.grouped.back; first = walk.grouped.first }) (inl c)

  -- ---- a use that is open

  module _ (at : ℕ) (is : slice_get s.marks v ≡ Some (Open at)) (bounds : List ℕ) (joined : IsJoined at s.bounds bounds) where
    was_bound : (m c : ℕ) → slice_get bounds m ≡ Some c → slice_get s.bounds m ≡ Some c
    was_bound m c e = (taken joined.kept s.bounds m c (ap (λ bs. slice_get bs m) (sym joined.front) ∙ e)).1

    -- a bound at or below the place is left
    still_bound : (m c : ℕ) → slice_get s.bounds m ≡ Some c → c ≤ at → slice_get bounds m ≡ Some c
    still_bound m c e low =
        elim (cases_lt m joined.kept) [
          | inl l ↦ ap (λ bs. slice_get bs m) joined.front ∙ take_has joined.kept s.bounds m c l e
          | inr l ↦ let h = joined.above m c (omega arith) e in absurd (omega arith)
        ]

    all_low : (m c : ℕ) → slice_get bounds m ≡ Some c → c ≤ at
    all_low m c e = by_last (length bounds) refl
      where
        by_last : (n : ℕ) → length bounds ≡ n → c ≤ at
        by_last zero q = let l = slice_get_within bounds m c e in absurd (omega arith)
        by_last (suc k) q = by_slot (slice_get bounds k) refl
          where
            by_slot : (o : _) → slice_get bounds k ≡ o → c ≤ at
            by_slot None r = let l = slice_get_within bounds m c e in absurd (past bounds k r (omega arith))
              where
                past : (bs : List ℕ) (k : ℕ) → slice_get bs k ≡ None → k < length bs → ⊥
                past [] k r l = omega arith
                past (b ∷ bs) zero r l = absurd (cc)
                past (b ∷ bs) (suc k) r l = past bs k r (omega arith)
            by_slot (Some d) r =
                let low = joined.last k d (omega arith) r in
                let l = slice_get_within bounds m c e in
                elim (cases_eq m k) [
                  | inl z ↦ let same : Some c ≡ Some d = sym e ∙ (ap (slice_get bounds) z ∙ r) in let t : c ≡ d = cc in omega arith
                  | inr z ↦ let rise = walk.way.bounds_rise m k c d (omega arith) (was_bound m c e) (was_bound k d r) in omega arith
                ]

    use_here : IsUse uses f.definition v
    use_here = (f.next, use_of)

    there : slice_get s.pending at ≡ Some v
    there = walk.marked.marked_open at v is

    -- an open definition leads to the one that is used
    leads : (a u : ℕ) → slice_get s.pending a ≡ Some u → Leads uses u v
    leads a u e =
        elim (leads_to_last f walk.grouped walk.way last a u e) [
          | inl q ↦ at_once (subst (λ x. IsUse uses x v) (sym q) use_here)
          | inr l ↦ onward l (at_once use_here)
        ]

    grouped : IsGrouped uses (seen_more s bounds)
    grouped = record {
      up = walk.grouped.up;
      back = λ a b u w e g less none. elim (cases_lt at a) [
        | inl l ↦ elim (cases_lt at b) [
          | inl h ↦ onward (leads a u e) (walk.grouped.up at b v w there g h)
          | inr h ↦ elim (cases_eq at b) [
            | inl q ↦ let same : Some v ≡ Some w = sym there ∙ (ap (slice_get s.pending) q ∙ g) in let z : v ≡ w = cc in subst (Leads uses u) z (leads a u e)
            | inr q ↦ onward (leads a u e) (walk.grouped.back at b v w there g (omega arith) (λ m c k low high. none m c (still_bound m c k high) low (omega arith)))
          ]
        ]
        | inr l ↦ walk.grouped.back a b u w e g less (λ m c k low high. none m c (still_bound m c k (omega arith)) low high)
      ];
      first = λ u e. still_bound 0 0 (walk.grouped.first u e) (omega arith);
    }

    pub joined_walk : IsWalk uses (seen_more s bounds)
    joined_walk = seen_walk bounds was_bound grouped (inr (at, is, λ m c e low high. let l = all_low m c e in omega arith))

  -- ---- a use of a definition that the walk has come to

  pub passed_walk : (t : Stage) (m : Mark) → slice_get s.marks v ≡ Some m → (m ≡ Unseen → ⊥) → IsPassed s t m → IsWalk uses t
  passed_walk t Unseen e n p = absurd (n refl)
  passed_walk t (Open at) e n p = subst (IsWalk uses) (sym p.stage) (joined_walk at e t.bounds p.bounds)
  passed_walk t Closed e n p = subst (IsWalk uses) (sym (p.stage ∙ ap (seen_more s) p.bounds)) (closed_walk e)

-- fewer uses are left
pub fewer : (uses : List (Vec ℕ)) (path : List Step) (f : Step) (v : ℕ) → IsLast path f → slice_get (used_by uses f.definition) f.next ≡ Some v
    → left_to_look uses (looked path) < left_to_look uses path
fewer uses [] f v (m, e, p) u = absurd (cc)
fewer uses (g ∷ []) f v (zero, e, p) u =
    let q = same_Some g f p in
    let l = slice_get_within (used_by uses f.definition) f.next v u in
    let d = ap (λ (x : Step). length (used_by uses x.definition)) q in
    let n = ap (λ (x : Step). x.next) q in
    omega arith
fewer uses (g ∷ []) f v (suc m, e, p) u = absurd (cc)
fewer uses (g ∷ h ∷ fs) f v (zero, e, p) u = absurd (omega arith)
fewer uses (g ∷ h ∷ fs) f v (suc m, e, p) u = skip (h ∷ fs) refl (fewer uses (h ∷ fs) f v (m, (let z : m + 1 ≡ suc (length fs) = omega arith in z), p) u)
  where
    skip : (ks : List Step) → h ∷ fs ≡ ks → left_to_look uses (looked (h ∷ fs)) < left_to_look uses (h ∷ fs) → left_to_look uses (g ∷ looked (h ∷ fs)) < left_to_look uses (h ∷ fs)
    skip ks q l = subst (λ n. n < left_to_look uses (h ∷ fs)) (sym (same fs h)) l
      where
        same : (fs : List Step) (h : Step) → left_to_look uses (g ∷ looked (h ∷ fs)) ≡ left_to_look uses (looked (h ∷ fs))
        same [] h = refl
        same (k ∷ ks) h = refl

pub one_more_use : (path : List Step) (f : Step) → IsLast path f → (g : Step) → IsLast path g → g ≡ f
one_more_use path f l g (m, e, p) = sym (one_last path m f g l e p)
