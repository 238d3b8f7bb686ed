-- A region that is cut into bands up to a line: what is kept from one line to the next.
use Rattle.std.proofs.Common.{◌≡◌, ◌⊎◌, ◌<◌, length, Bool, true, false, ◌&&◌, ◌||◌, inl, inr, ℤ, ◌<ℤ◌, ◌≤ℤ◌, int_le, int_lt, if◌then◌else◌, Option, None, Some, List, [], ◌∷◌, ◌++◌, refl, sym, subst, ap, ◌∙◌, arith}
use Rattle.std.proofs.lemmas.Int.{ints, by_lt_z}
use mathlib.Core.Bool.{true≢false}
use Rattle.std.proofs.lemmas.Bool.{and_left, and_right}
use Rattle.list_facts.specs.Between.{between}
use Rattle.list_facts.proofs.EitherOr.{one_from_left_false}
use Rattle.list_facts.proofs.Tests.{and_known, le_false, le_true, lt_true, or_assoc, or_known, or_right_known, and_right_known}
use Rattle.list_facts.specs.EitherOr.{exactly_one}
use Rattle.interval_row.specs.declared.span.Span.{Span}
use Rattle.interval_row.specs.Rows.{has, IsRow}
use Rattle.region_form.specs.declared.flip.Flip.{Flip}
use Rattle.region_bands.specs.declared.band.Band.{Band}
use Rattle.region_form.specs.Flips.{squares, AreSorted, IsRegion}
use Rattle.region_form.specs.Climbs.{Standpoint, ahead, first_line, flips_above, LiesBelow}
use Rattle.region_bands.specs.Bands.{squares_of_band, squares_of_bands, AreBands}
use Rattle.region_bands.specs.Working.Rise.{with_band}
use Rattle.region_form.proofs.FlipLines.{none_below_line, lies_above, no_more_above, sorted_above}
use Rattle.region_form.proofs.FlipRows.{first_square, seen}
use Rattle.region_bands.proofs.BandRows.{past_first}

-- the last band ends below a line, or on it and has not this row
abbrev pub EndsUnder : List Band → ℤ → List Span → Type 0
EndsUnder [] line row = Unit {0}
EndsUnder (b ∷ []) line row = (b.y1 <ℤ line) ⊎ ((b.y1 ≡ line) × (b.row ≡ row → ⊥))
EndsUnder (b ∷ c ∷ bs) line row = EndsUnder (c ∷ bs) line row

-- a region cut into bands up to a line, from which a row stands up to the first of the flips that are left
pub record IsRise (region : List Flip) (bands : List Band) (bottom : ℤ) (place : Standpoint) : Type 0 where
  pub form : AreBands bands
  pub sorted : AreSorted place.flips
  pub lower : ((bands ≡ []) × (place.row ≡ [])) ⊎ LiesBelow bottom (first_line place.flips)
  pub ends : EndsUnder bands bottom place.row
  pub below : (x y : ℤ) → LiesBelow y (first_line place.flips) → (squares_of_bands bands x y || (int_le bottom y && has place.row x)) ≡ squares region x y
  pub above : (x y : ℤ) → (LiesBelow y (first_line place.flips) → ⊥) → ahead place x y ≡ squares region x y

bands_push : (bs : List Band) (t : Band) → AreBands bs → EndsUnder bs t.y0 t.row → t.y0 <ℤ t.y1 → IsRow t.row → (t.row ≡ [] → ⊥) → AreBands (bs ++ t ∷ [])
bands_push [] t a e h r n = (h, r, n, tt, tt)
bands_push (b ∷ []) t a e h r n = (a.0, a.1, a.2, e, (h, r, n, tt, tt))
bands_push (b ∷ c ∷ bs) t a e h r n = (a.0, a.1, a.2, a.3, bands_push (c ∷ bs) t a.4 e h r n)

ends_push : (bs : List Band) (t : Band) (row : List Span) → (t.row ≡ row → ⊥) → EndsUnder (bs ++ t ∷ []) t.y1 row
ends_push [] t row n = inr (refl, n)
ends_push (b ∷ []) t row n = inr (refl, n)
ends_push (b ∷ c ∷ bs) t row n = ends_push (c ∷ bs) t row n

ends_up : (bs : List Band) (y z : ℤ) (row next : List Span) → y <ℤ z → EndsUnder bs y row → EndsUnder bs z next
ends_up [] y z row next h e = tt
ends_up (b ∷ []) y z row next h e = elim e [ inl l ↦ inl (omega (arith, ints)) | inr t ↦ let q : b.y1 ≡ y = t.0 in inl (omega (arith, ints)) ]
ends_up (b ∷ c ∷ bs) y z row next h e = ends_up (c ∷ bs) y z row next h e

first_ends : (b : Band) (bs : List Band) (line : ℤ) (row : List Span) → AreBands (b ∷ bs) → EndsUnder (b ∷ bs) line row → b.y1 ≤ℤ line
first_ends b [] line row a e = elim e [ inl l ↦ omega (arith, ints) | inr t ↦ let q : b.y1 ≡ line = t.0 in omega (arith, ints) ]
first_ends b (c ∷ cs) line row a e =
    let r = first_ends c cs line row a.4 e in
    let h : c.y0 <ℤ c.y1 = a.4.0 in
    elim a.3 [ inl l ↦ omega (arith, ints) | inr t ↦ let q : b.y1 ≡ c.y0 = t.0 in omega (arith, ints) ]

none_past : (bs : List Band) (line : ℤ) (row : List Span) (x y : ℤ) → AreBands bs → EndsUnder bs line row → line ≤ℤ y → squares_of_bands bs x y ≡ false
none_past [] line row x y a e h = refl
none_past (b ∷ []) line row x y a e h =
    let k = first_ends b [] line row a e in
    past_first b [] x y (omega (arith, ints))
none_past (b ∷ c ∷ bs) line row x y a e h =
    let k = first_ends b (c ∷ bs) line row a e in
    past_first b (c ∷ bs) x y (omega (arith, ints)) ∙ none_past (c ∷ bs) line row x y a.4 e h

squares_push : (bs : List Band) (t : Band) (x y : ℤ) → squares_of_bands (bs ++ t ∷ []) x y ≡ (squares_of_bands bs x y || squares_of_band t x y)
squares_push [] t x y = or_right_known (squares_of_band t x y) false refl
squares_push (b ∷ bs) t x y =
    ap (λ v. squares_of_band b x y || v) (squares_push bs t x y)
    ∙ or_assoc (squares_of_band b x y) (squares_of_bands bs x y) (squares_of_band t x y)

flipped : (p : Bool) → p ≡ exactly_one p true → ⊥
flipped true e = true≢false e
flipped false e = cc

under_line : (y0 y1 y : ℤ) (b : Bool) → y <ℤ y1 → (between y0 y1 y && b) ≡ (int_le y0 y && b)
under_line y0 y1 y b h = ap (λ v. v && b) (and_right_known (int_le y0 y) (int_lt y y1) (lt_true y y1 h))

pub rise_start : (region : List Flip) (bottom : ℤ) → IsRegion region → IsRise region [] bottom (record { row = []; flips = region })
rise_start region bottom r =
    record {
      form = tt;
      sorted = r.sorted;
      lower = inl (refl, refl);
      ends = tt;
      below = λ x y l. and_right (int_le bottom y) false refl ∙ sym (none_below_line region x y r.sorted l);
      above = λ x y l. one_from_left_false false (squares region x y) refl;
    }

lies_down : (y z : ℤ) (line : Option ℤ) → y <ℤ z → LiesBelow z line → LiesBelow y line
lies_down y z None h l = tt
lies_down y z (Some line) h l = omega (arith, ints)

ahead_region : (region : List Flip) (bands : List Band) (bottom : ℤ) (row : List Span) (f : Flip) (fs : List Flip) (next : Standpoint) (x y : ℤ) → IsRise region bands bottom (record { row = row; flips = f ∷ fs }) → ((x y : ℤ) → f.y ≤ℤ y → ahead next x y ≡ ahead (record { row = row; flips = f ∷ fs }) x y) → f.y ≤ℤ y → ahead next x y ≡ squares region x y
ahead_region region bands bottom row f fs next x y w a h =
    a x y h ∙ w.above x y (λ l. let k : y <ℤ f.y = l in absurd (omega (arith, ints)))

above_next : (region : List Flip) (line : ℤ) (next : Standpoint) (x y : ℤ) → LiesBelow line (first_line next.flips) → (line ≤ℤ y → ahead next x y ≡ squares region x y) → (LiesBelow y (first_line next.flips) → ⊥) → ahead next x y ≡ squares region x y
above_next region line next x y l a n =
    by_lt_z y line (λ h. absurd (n (lies_down y line (first_line next.flips) h l))) (λ h. a h)

below_next : (region : List Flip) (bands : List Band) (line : ℤ) (next : Standpoint) (x y : ℤ) → AreSorted next.flips → (y <ℤ line → squares_of_bands bands x y ≡ squares region x y) → (line ≤ℤ y → squares_of_bands bands x y ≡ false) → (line ≤ℤ y → ahead next x y ≡ squares region x y) → LiesBelow y (first_line next.flips) → (squares_of_bands bands x y || (int_le line y && has next.row x)) ≡ squares region x y
below_next region bands line next x y s under past a l =
    by_lt_z y line
    (λ h. or_right_known (squares_of_bands bands x y) (int_le line y && has next.row x) (and_left (int_le line y) (has next.row x) (le_false line y h)) ∙ under h)
    (λ h. or_known (squares_of_bands bands x y) (int_le line y && has next.row x) (past h)
    ∙ (and_known (int_le line y) (has next.row x) (le_true line y h) ∙ (sym (seen next.row next.flips x y s l) ∙ a h)))

-- the rows below and above a line differ at the first column of its first flip
row_changes : (row : List Span) (f : Flip) (fs : List Flip) (next : Standpoint) → AreSorted (f ∷ fs) → AreSorted next.flips → LiesBelow f.y (first_line next.flips) → ((x y : ℤ) → f.y ≤ℤ y → ahead next x y ≡ ahead (record { row = row; flips = f ∷ fs }) x y) → row ≡ next.row → ⊥
row_changes row f fs next s t l a q =
    let h : f.y ≤ℤ f.y = omega (arith, ints) in
    let e1 = seen next.row next.flips f.x0 f.y t l in
    let e2 = a f.x0 f.y h in
    let e3 = first_square f fs s in
    flipped (has row f.x0) (ap (λ r. has r f.x0) q ∙ (sym e1 ∙ (e2 ∙ ap (λ v. exactly_one (has row f.x0) v) e3)))

none_up : (bands : List Band) (row : List Span) (bottom line : ℤ) (next : List Span) (o : Option ℤ) → o ≡ Some line → (((bands ≡ []) × (row ≡ [])) ⊎ LiesBelow bottom o) → EndsUnder bands bottom row → EndsUnder bands line next
none_up bands row bottom line next o e w ends =
    elim w [
      | inl n ↦ subst (λ v. EndsUnder v line next) (sym n.0) tt
      | inr l ↦ let h : bottom <ℤ line = subst (LiesBelow bottom) e l in ends_up bands bottom line row next h ends
    ]

pub rise_step : (region : List Flip) (bands : List Band) (bottom : ℤ) (row : List Span) (f : Flip) (fs : List Flip) (next : Standpoint) → IsRow row → IsRise region bands bottom (record { row = row; flips = f ∷ fs }) → next.flips ≡ flips_above f.y (f ∷ fs) → ((x y : ℤ) → f.y ≤ℤ y → ahead next x y ≡ ahead (record { row = row; flips = f ∷ fs }) x y) → IsRise region (with_band bands bottom f.y row) f.y next
rise_step region bands bottom [] f fs next r w e a =
    let s = subst AreSorted (sym e) (sorted_above f.y (f ∷ fs) w.sorted) in
    let l = subst (λ v. LiesBelow f.y (first_line v)) (sym e) (lies_above f.y (f ∷ fs)) in
    let ends = none_up bands [] bottom f.y next.row (Some f.y) refl w.lower w.ends in
    record {
      form = w.form;
      sorted = s;
      lower = inr l;
      ends = ends;
      below = λ x y.
          below_next region bands f.y next x y s
          (λ h. sym (or_right_known (squares_of_bands bands x y) (int_le bottom y && false) (and_right (int_le bottom y) false refl)) ∙ w.below x y h)
          (none_past bands f.y next.row x y w.form ends)
          (ahead_region region bands bottom [] f fs next x y w a);
      above = λ x y. above_next region f.y next x y l (ahead_region region bands bottom [] f fs next x y w a);
    }
rise_step region bands bottom (t ∷ ts) f fs next r w e a =
    let s = subst AreSorted (sym e) (sorted_above f.y (f ∷ fs) w.sorted) in
    let l = subst (λ v. LiesBelow f.y (first_line v)) (sym e) (lies_above f.y (f ∷ fs)) in
    let h : bottom <ℤ f.y = elim w.lower [ inl n ↦ absurd (let q : (t ∷ ts) ≡ [] = n.1 in cc) | inr k ↦ k ] in
    let band : Band = record { y0 = bottom; y1 = f.y; row = t ∷ ts } in
    let form : AreBands (bands ++ band ∷ []) = bands_push bands band w.form w.ends h r (λ q. cc) in
    let ends : EndsUnder (bands ++ band ∷ []) f.y next.row = ends_push bands band next.row (row_changes (t ∷ ts) f fs next w.sorted s l a) in
    record {
      form = form;
      sorted = s;
      lower = inr l;
      ends = ends;
      below = λ x y.
          below_next region (bands ++ band ∷ []) f.y next x y s
          (λ k. squares_push bands band x y ∙ (ap (λ v. squares_of_bands bands x y || v) (under_line bottom f.y y (has (t ∷ ts) x) k) ∙ w.below x y k))
          (none_past (bands ++ band ∷ []) f.y next.row x y form ends)
          (ahead_region region bands bottom (t ∷ ts) f fs next x y w a);
      above = λ x y. above_next region f.y next x y l (ahead_region region bands bottom (t ∷ ts) f fs next x y w a);
    }

pub fewer : (f : Flip) (fs : List Flip) → length (flips_above f.y (f ∷ fs)) < length (f ∷ fs)
fewer f fs =
    let e : flips_above f.y (f ∷ fs) ≡ flips_above f.y fs = ap (λ b. if b then flips_above f.y fs else f ∷ fs) (le_true f.y f.y (omega (arith, ints))) in
    let h = no_more_above f.y fs in
    rw e (omega arith)

-- one line passed, and the row below it added to the bands
pub rise_past : (region : List Flip) (bands more : List Band) (bottom line : ℤ) (row held : List Span) (flips : List Flip) (next : Standpoint) → IsRise region bands bottom (record { row = held; flips = flips }) → Some line ≡ first_line flips → IsRow row → row ≡ held → more ≡ with_band bands bottom line row → next.flips ≡ flips_above line flips → ((x y : ℤ) → line ≤ℤ y → ahead next x y ≡ ahead (record { row = held; flips = flips }) x y) → IsRise region more line next
rise_past region bands more bottom line row held [] next w l r e b n a = absurd (let q : Some line ≡ None = l in cc)
rise_past region bands more bottom line row held (f ∷ fs) next w l r e b n a =
    let q : f.y ≡ line = cc in
    let P : ℤ → Type 0 = λ v. more ≡ with_band bands bottom v row → next.flips ≡ flips_above v (f ∷ fs) → ((x y : ℤ) → v ≤ℤ y → ahead next x y ≡ ahead (record { row = held; flips = f ∷ fs }) x y) → IsRise region more v next in
    let h : IsRow held = subst IsRow e r in
    let p : P f.y = λ b n a. subst (λ v. IsRise region v f.y next) (sym (b ∙ ap (with_band bands bottom f.y) e)) (rise_step region bands bottom held f fs next h w n a) in
    subst P q p b n a

pub fewer_past : (line : ℤ) (flips rest : List Flip) → Some line ≡ first_line flips → rest ≡ flips_above line flips → length rest < length flips
fewer_past line [] rest l n = absurd (let q : Some line ≡ None = l in cc)
fewer_past line (f ∷ fs) rest l n =
    let q : f.y ≡ line = cc in
    let P : ℤ → Type 0 = λ v. rest ≡ flips_above v (f ∷ fs) → length rest < length (f ∷ fs) in
    let p : P f.y = λ e. subst (λ v. length v < length (f ∷ fs)) (sym e) (fewer f fs) in
    subst P q p n
