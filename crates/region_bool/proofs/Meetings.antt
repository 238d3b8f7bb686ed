-- What two flips come to that stand first in their lists.
use Rattle.std.proofs.Common.{◌≡◌, ◌⊎◌, inl, inr, Bool, true, false, ◌&&◌, cond, ◌+◌, ◌≤◌, ℤ, ◌<ℤ◌, ◌≤ℤ◌, int_le, length, Option, None, Some, refl, sym, subst, ap, ◌∙◌, arith}
use Rattle.std.proofs.lemmas.Int.{ints, by_lt_z}
use Rattle.list_facts.specs.Between.{between}
use Rattle.list_facts.specs.EitherOr.{exactly_one}
use Rattle.list_facts.proofs.EitherOr.{one_assoc, one_comm, one_itself, one_right_false, one_twice}
use Rattle.list_facts.proofs.Tests.{and_false, between_ends, lt_false, lt_true}
use Rattle.region_form.specs.declared.flip.Flip.{Flip}
use Rattle.region_form.specs.Flips.{changes, StandsBefore}
use Rattle.region_bool.specs.Working.Meetings.{BothStandSo, IsMeeting, IsWide, ItStandsBefore, StandsBeforeIt, listed, odd_where, stretch, stretch_between}

-- ---- either-or of four

pub one_middle : (p q r s : Bool) → exactly_one (exactly_one p q) (exactly_one r s) ≡ exactly_one (exactly_one p r) (exactly_one q s)
one_middle p q r s =
    sym (one_assoc p q (exactly_one r s))
    ∙ (ap (exactly_one p) (one_assoc q r s ∙ (ap (λ t. exactly_one t s) (one_comm q r) ∙ sym (one_assoc r q s)))
    ∙ one_assoc p r (exactly_one q s))

and_one : (k p q : Bool) → exactly_one (k && p) (k && q) ≡ (k && exactly_one p q)
and_one true p q = refl
and_one false p q = refl

-- ---- what flips change, by their ends

by_ends : (k : Bool) (f : Flip) (x : ℤ) → f.x0 <ℤ f.x1 → (k && changes f x) ≡ (k && exactly_one (int_le f.x0 x) (int_le f.x1 x))
by_ends k f x w = ap (λ b. k && b) (between_ends f.x0 f.x1 x w)

abbrev made : (y a b : ℤ) → Flip
made y a b = record { y = y; x0 = a; x1 = b }

stretch_some : (y a b : ℤ) → a <ℤ b → stretch y a b ≡ Some (made y a b)
stretch_some y a b l = ap (λ q. cond q (Some (made y a b)) None) (lt_true a b l)

stretch_none : (y a b : ℤ) → b ≤ℤ a → stretch y a b ≡ None
stretch_none y a b l = ap (λ q. cond q (Some (made y a b)) None) (lt_false a b l)

odd_some : (counts : ℤ → Bool) (y a b x : ℤ) → a <ℤ b → odd_where counts (listed (stretch y a b)) x ≡ (counts y && exactly_one (int_le a x) (int_le b x))
odd_some counts y a b x l =
    ap (λ o. odd_where counts (listed o) x) (stretch_some y a b l)
    ∙ (one_right_false (counts y && between a b x) ∙ ap (λ q. counts y && q) (between_ends a b x l))

odd_none : (counts : ℤ → Bool) (y a b x : ℤ) → b ≤ℤ a → odd_where counts (listed (stretch y a b)) x ≡ false
odd_none counts y a b x l = ap (λ o. odd_where counts (listed o) x) (stretch_none y a b l)

odd_stretch : (counts : ℤ → Bool) (y a b x : ℤ) → a ≤ℤ b → odd_where counts (listed (stretch y a b)) x ≡ (counts y && exactly_one (int_le a x) (int_le b x))
odd_stretch counts y a b x h =
    by_lt_z a b (odd_some counts y a b x)
    (λ l.
    let e : a ≡ b = omega (arith, ints) in
    odd_none counts y a b x l
    ∙ sym (ap (λ c. counts y && exactly_one (int_le a x) (int_le c x)) (sym e) ∙ (ap (λ q. counts y && q) (one_itself (int_le a x)) ∙ and_false (counts y))))

-- of two flips that end on one line, what the one has beyond the other and what the other has beyond the one
odd_ends : (counts : ℤ → Bool) (y a b x : ℤ) → exactly_one (odd_where counts (listed (stretch y a b)) x) (odd_where counts (listed (stretch y b a)) x) ≡ (counts y && exactly_one (int_le a x) (int_le b x))
odd_ends counts y a b x =
    by_lt_z a b
    (λ l.
    ap (exactly_one (odd_where counts (listed (stretch y a b)) x)) (odd_none counts y b a x (omega (arith, ints)))
    ∙ (one_right_false _ ∙ odd_some counts y a b x l))
    (λ l.
    ap (λ q. exactly_one q (odd_where counts (listed (stretch y b a)) x)) (odd_none counts y a b x l)
    ∙ (odd_stretch counts y b a x l ∙ ap (λ q. counts y && q) (one_comm (int_le b x) (int_le a x))))

-- ---- where flips stand

pub stands_on : (f g h : Flip) → StandsBefore f g → g.x0 <ℤ g.x1 → StandsBefore g h → StandsBefore f h
stands_on f g h s w t =
    elim s [
      | inl l ↦ inl (elim t [ inl m ↦ omega (arith, ints) | inr e ↦ let q : g.y ≡ h.y = e.0 in omega (arith, ints) ])
      | inr e ↦
          let q : f.y ≡ g.y = e.0 in
          elim t [
            | inl m ↦ inl (omega (arith, ints))
            | inr o ↦ inr (e.0 ∙ o.0, let a : f.x1 <ℤ g.x0 = e.1 in let b : g.x1 <ℤ h.x0 = o.1 in omega (arith, ints))
          ]
    ]

-- what ends no later stands before what follows, and what begins no sooner stands behind what comes before
ends_no_later : (e f h : Flip) → e.y ≡ f.y → e.x1 ≤ℤ f.x1 → StandsBefore f h → StandsBefore e h
ends_no_later e f h p q s =
    elim s [
      | inl l ↦ inl (subst (λ y. y <ℤ h.y) (sym p) l)
      | inr o ↦ inr (p ∙ o.0, let b : f.x1 <ℤ h.x0 = o.1 in omega (arith, ints))
    ]

begins_no_sooner : (e f h : Flip) → e.y ≡ f.y → f.x0 ≤ℤ e.x0 → StandsBefore h f → StandsBefore h e
begins_no_sooner e f h p q s =
    elim s [
      | inl l ↦ inl (subst (λ y. h.y <ℤ y) (sym p) l)
      | inr o ↦ inr (o.0 ∙ sym p, let b : h.x1 <ℤ f.x0 = o.1 in omega (arith, ints))
    ]

-- flips of which none stands before the other lie on one line, and reach each other
pub meets : (f g : Flip) → (StandsBefore f g → ⊥) → (StandsBefore g f → ⊥) → (f.y ≡ g.y) × (g.x0 ≤ℤ f.x1) × (f.x0 ≤ℤ g.x1)
meets f g p q =
    by_lt_z f.y g.y (λ l. absurd (p (inl l)))
    (λ l. by_lt_z g.y f.y (λ m. absurd (q (inl m)))
    (λ m.
    let e : f.y ≡ g.y = omega (arith, ints) in (
      e,
      by_lt_z f.x1 g.x0 (λ k. absurd (p (inr (e, k)))) (λ k. k),
      by_lt_z g.x1 f.x0 (λ k. absurd (q (inr (sym e, k)))) (λ k. k),
    )))

-- what holds of a stretch
of_stretch : (P : Option Flip → Type 0) (y a b : ℤ) → (a <ℤ b → P (Some (made y a b))) → P None → P (stretch y a b)
of_stretch P y a b f n =
    by_lt_z a b (λ l. subst P (sym (stretch_some y a b l)) (f l)) (λ l. subst P (sym (stretch_none y a b l)) n)

-- ---- the cases

-- the first stands before the second
pub first_before : (f g : Flip) → StandsBefore f g → f.x0 <ℤ f.x1 → g.x0 <ℤ g.x1 → IsMeeting f g (record { passed = Some f; first = None; second = Some g })
first_before f g s v w = record {
  same = λ counts x.
      ap (λ q. exactly_one q (exactly_one (counts g.y && changes g x) false)) (one_right_false (counts f.y && changes f x))
      ∙ ap (exactly_one (counts f.y && changes f x)) (one_right_false (counts g.y && changes g x));
  wide = (v, tt, w);
  behind = λ h p q. (p, tt, q);
  before_first = λ h p. (p, tt);
  before_second = λ h p. (stands_on f g h s w p, p);
  passed = (tt, s);
  fewer = omega arith;
}

-- the second stands before the first
pub second_before : (f g : Flip) → StandsBefore g f → f.x0 <ℤ f.x1 → g.x0 <ℤ g.x1 → IsMeeting f g (record { passed = Some g; first = Some f; second = None })
second_before f g s v w = record {
  same = λ counts x.
      ap (λ q. exactly_one q (exactly_one (exactly_one (counts f.y && changes f x) false) false)) (one_right_false (counts g.y && changes g x))
      ∙ (ap (exactly_one (counts g.y && changes g x)) (one_right_false (exactly_one (counts f.y && changes f x) false) ∙ one_right_false (counts f.y && changes f x))
      ∙ one_comm (counts g.y && changes g x) (counts f.y && changes f x));
  wide = (w, v, tt);
  behind = λ h p q. (q, p, tt);
  before_first = λ h p. (stands_on g f h s v p, p);
  before_second = λ h p. (p, tt);
  passed = (s, tt);
  fewer = omega arith;
}

-- what both flips change by their ends, of flips that touch
touching : (k a b c : Bool) → exactly_one (k && exactly_one a b) (k && exactly_one b c) ≡ (k && exactly_one a c)
touching k a b c =
    and_one k (exactly_one a b) (exactly_one b c)
    ∙ ap (λ q. k && q) (sym (one_assoc a b (exactly_one b c)) ∙ ap (exactly_one a) (one_twice b c))

-- the first ends where the second begins
pub first_touches : (f g : Flip) → f.y ≡ g.y → f.x1 ≡ g.x0 → f.x0 <ℤ f.x1 → g.x0 <ℤ g.x1 → IsMeeting f g (record { passed = None; first = None; second = stretch f.y f.x0 g.x1 })
first_touches f g e t v w =
    let l : f.x0 <ℤ g.x1 = omega (arith, ints) in
    record {
      same = λ counts x.
          odd_some counts f.y f.x0 g.x1 x l
          ∙ sym (ap (exactly_one (counts f.y && changes f x)) (by_ends (counts g.y) g x w)
          ∙ (ap (λ q. exactly_one q (counts g.y && exactly_one (int_le g.x0 x) (int_le g.x1 x))) (by_ends (counts f.y) f x v)
          ∙ (ap (λ y. exactly_one (counts f.y && exactly_one (int_le f.x0 x) (int_le f.x1 x)) (counts y && exactly_one (int_le g.x0 x) (int_le g.x1 x))) (sym e)
          ∙ (ap (λ b. exactly_one (counts f.y && exactly_one (int_le f.x0 x) (int_le f.x1 x)) (counts f.y && exactly_one (int_le b x) (int_le g.x1 x))) (sym t)
          ∙ touching (counts f.y) (int_le f.x0 x) (int_le f.x1 x) (int_le g.x1 x)))));
      wide = (tt, tt, of_stretch IsWide f.y f.x0 g.x1 (λ m. m) tt);
      behind = λ h p q. (tt, tt, of_stretch (StandsBeforeIt h) f.y f.x0 g.x1 (λ m. begins_no_sooner (made f.y f.x0 g.x1) f h refl (omega (arith, ints)) p) tt);
      before_first = λ h p. (tt, tt);
      before_second = λ h p. (tt, of_stretch (λ o. ItStandsBefore o h) f.y f.x0 g.x1 (λ m. ends_no_later (made f.y f.x0 g.x1) g h e (omega (arith, ints)) p) tt);
      passed = (tt, tt);
      fewer = of_stretch (λ o. 0 + length (listed o) ≤ 1) f.y f.x0 g.x1 (λ m. omega arith) (omega arith);
    }

-- the second ends where the first begins
pub second_touches : (f g : Flip) → f.y ≡ g.y → g.x1 ≡ f.x0 → f.x0 <ℤ f.x1 → g.x0 <ℤ g.x1 → IsMeeting f g (record { passed = None; first = stretch f.y g.x0 f.x1; second = None })
second_touches f g e t v w =
    let l : g.x0 <ℤ f.x1 = omega (arith, ints) in
    record {
      same = λ counts x.
          one_right_false _
          ∙ (odd_some counts f.y g.x0 f.x1 x l
          ∙ sym (ap (exactly_one (counts f.y && changes f x)) (by_ends (counts g.y) g x w)
          ∙ (ap (λ q. exactly_one q (counts g.y && exactly_one (int_le g.x0 x) (int_le g.x1 x))) (by_ends (counts f.y) f x v)
          ∙ (ap (λ y. exactly_one (counts f.y && exactly_one (int_le f.x0 x) (int_le f.x1 x)) (counts y && exactly_one (int_le g.x0 x) (int_le g.x1 x))) (sym e)
          ∙ (one_comm (counts f.y && exactly_one (int_le f.x0 x) (int_le f.x1 x)) (counts f.y && exactly_one (int_le g.x0 x) (int_le g.x1 x))
          ∙ (ap (λ b. exactly_one (counts f.y && exactly_one (int_le g.x0 x) (int_le b x)) (counts f.y && exactly_one (int_le f.x0 x) (int_le f.x1 x))) t
          ∙ touching (counts f.y) (int_le g.x0 x) (int_le f.x0 x) (int_le f.x1 x)))))));
      wide = (tt, of_stretch IsWide f.y g.x0 f.x1 (λ m. m) tt, tt);
      behind = λ h p q. (tt, of_stretch (StandsBeforeIt h) f.y g.x0 f.x1 (λ m. begins_no_sooner (made f.y g.x0 f.x1) g h e (omega (arith, ints)) q) tt, tt);
      before_first = λ h p. (tt, of_stretch (λ o. ItStandsBefore o h) f.y g.x0 f.x1 (λ m. ends_no_later (made f.y g.x0 f.x1) f h refl (omega (arith, ints)) p) tt);
      before_second = λ h p. (tt, tt);
      passed = (tt, tt);
      fewer = of_stretch (λ o. length (listed o) + 0 ≤ 1) f.y g.x0 f.x1 (λ m. omega arith) (omega arith);
    }

one_at_most : (y a b : ℤ) → length (listed (stretch y a b)) + length (listed (stretch y b a)) ≤ 1
one_at_most y a b =
    by_lt_z a b
    (λ l. subst (λ o. length (listed (stretch y a b)) + length (listed o) ≤ 1) (sym (stretch_none y b a (omega (arith, ints))))
    (of_stretch (λ o. length (listed o) + 0 ≤ 1) y a b (λ m. omega arith) (omega arith)))
    (λ l. subst (λ o. length (listed o) + length (listed (stretch y b a)) ≤ 1) (sym (stretch_none y a b l))
    (of_stretch (λ o. 0 + length (listed o) ≤ 1) y b a (λ m. omega arith) (omega arith)))

-- they share a column, from hi on: from lo up to there one of them is alone
shares_from : (f g : Flip) (lo hi : ℤ) → f.y ≡ g.y → f.x0 <ℤ f.x1 → g.x0 <ℤ g.x1
    → hi <ℤ f.x1 → hi <ℤ g.x1 → (f.x0 ≤ℤ lo) ⊎ (g.x0 ≤ℤ lo)
    → ((counts : ℤ → Bool) (x : ℤ) → odd_where counts (listed (stretch f.y lo hi)) x ≡ (counts f.y && exactly_one (int_le f.x0 x) (int_le g.x0 x)))
    → IsMeeting f g (record { passed = stretch f.y lo hi; first = stretch f.y g.x1 f.x1; second = stretch f.y f.x1 g.x1 })
shares_from f g lo hi e v w p q from odd = record {
  same = λ counts x.
      ap (λ r. exactly_one r (exactly_one (odd_where counts (listed (stretch f.y g.x1 f.x1)) x) (odd_where counts (listed (stretch f.y f.x1 g.x1)) x))) (odd counts x)
      ∙ (ap (exactly_one (counts f.y && exactly_one (int_le f.x0 x) (int_le g.x0 x))) (odd_ends counts f.y g.x1 f.x1 x ∙ ap (λ r. counts f.y && r) (one_comm (int_le g.x1 x) (int_le f.x1 x)))
      ∙ (and_one (counts f.y) (exactly_one (int_le f.x0 x) (int_le g.x0 x)) (exactly_one (int_le f.x1 x) (int_le g.x1 x))
      ∙ (ap (λ r. counts f.y && r) (one_middle (int_le f.x0 x) (int_le g.x0 x) (int_le f.x1 x) (int_le g.x1 x))
      ∙ (sym (and_one (counts f.y) (exactly_one (int_le f.x0 x) (int_le f.x1 x)) (exactly_one (int_le g.x0 x) (int_le g.x1 x)))
      ∙ (ap (λ r. exactly_one r (counts f.y && exactly_one (int_le g.x0 x) (int_le g.x1 x))) (sym (by_ends (counts f.y) f x v))
      ∙ (ap (exactly_one (counts f.y && changes f x)) (sym (by_ends (counts f.y) g x w))
      ∙ ap (λ y. exactly_one (counts f.y && changes f x) (counts y && changes g x)) e))))));
  wide = (of_stretch IsWide f.y lo hi (λ m. m) tt, of_stretch IsWide f.y g.x1 f.x1 (λ m. m) tt, of_stretch IsWide f.y f.x1 g.x1 (λ m. m) tt);
  behind = λ h r s. (
    of_stretch (StandsBeforeIt h) f.y lo hi (λ m. elim from [
      | inl k ↦ begins_no_sooner (made f.y lo hi) f h refl k r
      | inr k ↦ begins_no_sooner (made f.y lo hi) g h e k s
    ]) tt,
    of_stretch (StandsBeforeIt h) f.y g.x1 f.x1 (λ m. begins_no_sooner (made f.y g.x1 f.x1) g h e (omega (arith, ints)) s) tt,
    of_stretch (StandsBeforeIt h) f.y f.x1 g.x1 (λ m. begins_no_sooner (made f.y f.x1 g.x1) f h refl (omega (arith, ints)) r) tt,
  );
  before_first = λ h r. (
    of_stretch (λ o. ItStandsBefore o h) f.y lo hi (λ m. ends_no_later (made f.y lo hi) f h refl (omega (arith, ints)) r) tt,
    of_stretch (λ o. ItStandsBefore o h) f.y g.x1 f.x1 (λ m. ends_no_later (made f.y g.x1 f.x1) f h refl (omega (arith, ints)) r) tt,
  );
  before_second = λ h r. (
    of_stretch (λ o. ItStandsBefore o h) f.y lo hi (λ m. ends_no_later (made f.y lo hi) g h e (omega (arith, ints)) r) tt,
    of_stretch (λ o. ItStandsBefore o h) f.y f.x1 g.x1 (λ m. ends_no_later (made f.y f.x1 g.x1) g h e (omega (arith, ints)) r) tt,
  );
  passed = (
    of_stretch (λ o. BothStandSo o (stretch f.y g.x1 f.x1)) f.y lo hi (λ m. of_stretch (StandsBeforeIt (made f.y lo hi)) f.y g.x1 f.x1 (λ k. inr (refl, q)) tt) tt,
    of_stretch (λ o. BothStandSo o (stretch f.y f.x1 g.x1)) f.y lo hi (λ m. of_stretch (StandsBeforeIt (made f.y lo hi)) f.y f.x1 g.x1 (λ k. inr (refl, p)) tt) tt,
  );
  fewer = one_at_most f.y g.x1 f.x1;
}

-- they share a column
pub shares : (f g : Flip) → f.y ≡ g.y → f.x0 <ℤ f.x1 → g.x0 <ℤ g.x1 → g.x0 <ℤ f.x1 → f.x0 <ℤ g.x1
    → IsMeeting f g (record { passed = stretch_between f.y f.x0 g.x0; first = stretch f.y g.x1 f.x1; second = stretch f.y f.x1 g.x1 })
shares f g e v w p q =
    let P = λ (o : Option Flip). IsMeeting f g (record { passed = o; first = stretch f.y g.x1 f.x1; second = stretch f.y f.x1 g.x1 }) in
    let pick = λ (b : Bool). cond b (stretch f.y f.x0 g.x0) (stretch f.y g.x0 f.x0) in
    by_lt_z f.x0 g.x0
    (λ l. subst P (sym (ap pick (lt_true f.x0 g.x0 l)))
    (shares_from f g f.x0 g.x0 e v w p w (inl (omega (arith, ints))) (λ counts x. odd_some counts f.y f.x0 g.x0 x l)))
    (λ l. subst P (sym (ap pick (lt_false f.x0 g.x0 l)))
    (shares_from f g g.x0 f.x0 e v w v q (inr (omega (arith, ints))) (λ counts x. odd_stretch counts f.y g.x0 f.x0 x l ∙ ap (λ r. counts f.y && r) (one_comm (int_le g.x0 x) (int_le f.x0 x)))))
