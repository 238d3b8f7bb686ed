-- The walk over two lists of flips: what is passed, and what is left of each.
use Rattle.std.proofs.Common.{◌≡◌, ◌⊎◌, inl, inr, Bool, true, ◌&&◌, ℤ, int_le, List, [], ◌∷◌, ◌++◌, Option, None, Some, refl, sym, subst, ap, ◌∙◌, append_assoc, append-nil}
use Rattle.list_facts.specs.EitherOr.{exactly_one}
use Rattle.list_facts.proofs.EitherOr.{one_assoc}
use Rattle.region_form.specs.declared.flip.Flip.{Flip}
use Rattle.region_form.specs.Flips.{AreSorted, IsRegion, StandsBefore, StandsBeforeFirst, changes, is_odd, squares}
use Rattle.region_bool.specs.declared.meeting.Meeting.{Meeting}
use Rattle.region_bool.specs.Working.Meetings.{AreOfOne, BothStandSo, IsMeeting, IsPassing, IsWide, ItStandsBefore, StandsBeforeIt, listed, odd_where}
use Rattle.region_bool.proofs.Meetings.{one_middle, stands_on}
use Rattle.region_form.proofs.FlipOrder.{sorted_behind}

-- ---- what flips change together

odd_append : (counts : ℤ → Bool) (a b : List Flip) (x : ℤ) → odd_where counts (a ++ b) x ≡ exactly_one (odd_where counts a x) (odd_where counts b x)
odd_append counts [] b x = refl
odd_append counts (f ∷ a) b x =
    let p = counts f.y && changes f x in
    ap (exactly_one p) (odd_append counts a b x) ∙ one_assoc p (odd_where counts a x) (odd_where counts b x)

pub squares_where : (fs : List Flip) (x y : ℤ) → squares fs x y ≡ odd_where (λ line. int_le line y) fs x
squares_where [] x y = refl
squares_where (f ∷ fs) x y = ap (exactly_one (int_le f.y y && changes f x)) (squares_where fs x y)

is_odd_where : (fs : List Flip) (x : ℤ) → is_odd fs x ≡ odd_where (λ line. true) fs x
is_odd_where [] x = refl
is_odd_where (f ∷ fs) x = ap (exactly_one (changes f x)) (is_odd_where fs x)

-- ---- order

-- what stands behind the last of a list, because two others do, follows it
follows : (o a c b : List Flip) → AreSorted (o ++ a) → AreSorted (o ++ c) → AreSorted b → ((h : Flip) → StandsBeforeFirst h a → StandsBeforeFirst h c → StandsBeforeFirst h b) → AreSorted (o ++ b)
follows [] a c b p q s f = s
follows (h ∷ []) a c b p q s f = (p.0, f h p.1 q.1, s)
follows (h ∷ (k ∷ o)) a c b p q s f = (p.0, p.1, follows (k ∷ o) a c b p.2 q.2 s f)

left_sorted : (m : Option Flip) (f : Flip) (fs : List Flip) → IsWide m → ((h : Flip) → StandsBefore f h → ItStandsBefore m h) → AreSorted (f ∷ fs) → AreSorted (listed m ++ fs)
left_sorted None f fs w b s = s.2
left_sorted (Some k) f [] w b s = (w, tt, tt)
left_sorted (Some k) f (g ∷ gs) w b s = (w, b g s.1, s.2)

before_left : (p : Flip) (m : Option Flip) (f : Flip) (fs : List Flip) → StandsBeforeIt p m → ((h : Flip) → StandsBefore f h → StandsBefore p h) → AreSorted (f ∷ fs) → StandsBeforeFirst p (listed m ++ fs)
before_left p None f [] c b s = tt
before_left p None f (g ∷ gs) c b s = b g s.1
before_left p (Some k) f fs c b s = c

all_sorted : (q m : Option Flip) (f : Flip) (fs : List Flip) → IsWide q → IsWide m → BothStandSo q m → ((h : Flip) → StandsBefore f h → ItStandsBefore q h × ItStandsBefore m h) → AreSorted (f ∷ fs) → AreSorted (listed q ++ (listed m ++ fs))
all_sorted None m f fs v w c b s = left_sorted m f fs w (λ h t. (b h t).1) s
all_sorted (Some p) m f fs v w c b s = (v, before_left p m f fs c (λ h t. (b h t).0) s, left_sorted m f fs w (λ h t. (b h t).1) s)

before_all : (h : Flip) (q m : Option Flip) (f : Flip) (fs : List Flip) → StandsBeforeIt h q → StandsBeforeIt h m → StandsBefore h f → AreSorted (f ∷ fs) → StandsBeforeFirst h (listed q ++ (listed m ++ fs))
before_all h (Some p) m f fs c d t s = c
before_all h None m f fs c d t s = before_left h m f fs d (λ k u. stands_on h f k t s.0 u) s

next_sorted : (o fs gs : List Flip) (f g : Flip) (q m : Option Flip) → IsWide q → IsWide m → BothStandSo q m
    → ((h : Flip) → StandsBefore h f → StandsBefore h g → StandsBeforeIt h q × StandsBeforeIt h m)
    → ((h : Flip) → StandsBefore f h → ItStandsBefore q h × ItStandsBefore m h)
    → AreSorted (o ++ (f ∷ fs)) → AreSorted (o ++ (g ∷ gs)) → AreSorted ((o ++ listed q) ++ (listed m ++ fs))
next_sorted o fs gs f g q m v w c d b s t =
    let r = sorted_behind o (f ∷ fs) s in
    subst AreSorted (sym (append_assoc o (listed q) (listed m ++ fs)))
    (follows o (f ∷ fs) (g ∷ gs) (listed q ++ (listed m ++ fs)) s t (all_sorted q m f fs v w c b r)
    (λ h k l. before_all h q m f fs (d h k l).0 (d h k l).1 k r))

-- ---- the walk

regrouped : (o p a b f g s t : Bool) → exactly_one p (exactly_one a b) ≡ exactly_one f g
    → exactly_one (exactly_one o p) (exactly_one (exactly_one a s) (exactly_one b t)) ≡ exactly_one o (exactly_one (exactly_one f s) (exactly_one g t))
regrouped o p a b f g s t e =
    sym (one_assoc o p _)
    ∙ ap (exactly_one o)
    (ap (exactly_one p) (one_middle a s b t)
    ∙ (one_assoc p (exactly_one a b) (exactly_one s t)
    ∙ (ap (λ r. exactly_one r (exactly_one s t)) e ∙ one_middle f g s t)))

-- one step: the first flips of both lists have met
pub goes_on : (first second o fs gs : List Flip) (f g : Flip) (met : Meeting)
    → IsMeeting f g met
    → IsPassing first second (record { passed = o; first = f ∷ fs; second = g ∷ gs })
    → IsPassing first second (record { passed = o ++ listed met.passed; first = listed met.first ++ fs; second = listed met.second ++ gs })
goes_on first second o fs gs f g met m i = record {
  first_sorted =
      next_sorted o fs gs f g met.passed met.first m.wide.0 m.wide.1 m.passed.0
      (λ h s t. let b = m.behind h s t in (b.0, b.1)) m.before_first i.first_sorted i.second_sorted;
  second_sorted =
      next_sorted o gs fs g f met.passed met.second m.wide.0 m.wide.2 m.passed.1
      (λ h s t. let b = m.behind h t s in (b.0, b.2)) m.before_second i.second_sorted i.first_sorted;
  odd = λ counts x.
      let odd = λ (l : List Flip). odd_where counts l x in
      ap (λ r. exactly_one r (exactly_one (odd (listed met.first ++ fs)) (odd (listed met.second ++ gs)))) (odd_append counts o (listed met.passed) x)
      ∙ (ap (λ r. exactly_one (exactly_one (odd o) (odd (listed met.passed))) (exactly_one r (odd (listed met.second ++ gs)))) (odd_append counts (listed met.first) fs x)
      ∙ (ap (λ r. exactly_one (exactly_one (odd o) (odd (listed met.passed))) (exactly_one (exactly_one (odd (listed met.first)) (odd fs)) r)) (odd_append counts (listed met.second) gs x)
      ∙ (regrouped (odd o) (odd (listed met.passed)) (odd (listed met.first)) (odd (listed met.second)) (counts f.y && changes f x) (counts g.y && changes g x) (odd fs) (odd gs) (m.same counts x)
      ∙ i.odd counts x)));
}

pub begins : (first second a b : List Flip) → a ≡ first → b ≡ second → AreSorted first → AreSorted second → IsPassing first second (record { passed = []; first = a; second = b })
begins first second a b p q s t = record {
  first_sorted = subst AreSorted (sym p) s;
  second_sorted = subst AreSorted (sym q) t;
  odd = λ counts x. ap (λ l. exactly_one (odd_where counts l x) (odd_where counts b x)) p ∙ ap (λ l. exactly_one (odd_where counts first x) (odd_where counts l x)) q;
}

-- where one list has come to its end, what is left of the other follows
pub ends : (first second o a b : List Flip) → (a ≡ []) ⊎ (b ≡ []) → IsPassing first second (record { passed = o; first = a; second = b }) → AreOfOne first second ((o ++ a) ++ b)
ends first second o a b e i = record {
  sorted = elim e [
    | inl p ↦ subst (λ l. AreSorted ((o ++ l) ++ b)) (sym p) (subst (λ l. AreSorted (l ++ b)) (sym (append-nil o)) i.second_sorted)
    | inr p ↦ subst (λ l. AreSorted ((o ++ a) ++ l)) (sym p) (subst AreSorted (sym (append-nil (o ++ a))) i.first_sorted)
  ];
  odd = λ counts x.
      odd_append counts (o ++ a) b x
      ∙ (ap (λ r. exactly_one r (odd_where counts b x)) (odd_append counts o a x)
      ∙ (sym (one_assoc (odd_where counts o x) (odd_where counts a x) (odd_where counts b x))
      ∙ i.odd counts x));
}

-- ---- the region of these flips

pub region_of : (first second flips : List Flip) → IsRegion first → IsRegion second → AreOfOne first second flips → IsRegion flips
region_of first second flips r s i = record {
  sorted = i.sorted;
  closed = λ x.
      is_odd_where flips x
      ∙ (i.odd (λ line. true) x
      ∙ (ap (λ p. exactly_one p (odd_where (λ line. true) second x)) (sym (is_odd_where first x) ∙ r.closed x)
      ∙ (sym (is_odd_where second x) ∙ s.closed x)));
}

pub squares_of : (first second flips : List Flip) (x y : ℤ) → AreOfOne first second flips → squares flips x y ≡ exactly_one (squares first x y) (squares second x y)
squares_of first second flips x y i =
    squares_where flips x y
    ∙ (i.odd (λ line. int_le line y) x
    ∙ (ap (λ p. exactly_one p (odd_where (λ line. int_le line y) second x)) (sym (squares_where first x y))
    ∙ ap (exactly_one (squares first x y)) (sym (squares_where second x y))))
