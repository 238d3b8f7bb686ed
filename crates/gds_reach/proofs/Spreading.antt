-- How flags spread along references.
use Rattle.std.proofs.Common.{◌≡◌, ◌⊎◌, inl, inr, ◌↔◌, ℕ, zero, suc, ◌<◌, Bool, true, false, List, [], ◌∷◌, ◌++◌, length, replicate, Option, None, Some, refl, sym, ap, subst, ◌∙◌, arith}
use Rattle.std.proofs.lemmas.Option.{same_Some}
use Rattle.std.specs.Prelude.{slice_get}
use Rattle.std.specs.Global.{Vec}
use Rattle.list_facts.proofs.Slots.{at_end, front, longer, one_more}
use Rattle.gds_reach.specs.References.{IsClosed, IsNamed, IsOn, Reaches, Refers, named_in}
use Rattle.gds_reach.specs.Working.Marks.{IsMarked}
use Rattle.gds_reach.specs.Working.Spreading.{AreMet, IsSpread, work}
use Rattle.gds_reach.proofs.Paths as paths

pub not_spread : {links : List (Vec (Option ℕ))} (flags : List Bool) (waiting : List ℕ) → AreMet links flags waiting → IsSpread links flags flags waiting
not_spread {links} flags waiting m = record {
  all = refl;
  kept = λ i on. on;
  sound = λ j on. (j, on, paths.reaches_itself links j);
  met = m;
}

pub then_spread : {links : List (Vec (Option ℕ))} (f g h : List Bool) (u v : List ℕ) → IsSpread links f g u → IsSpread links g h v → IsSpread links f h v
then_spread {links} f g h u v a b = record {
  all = b.all ∙ a.all;
  kept = λ i on. b.kept i (a.kept i on);
  sound = λ k on.
      let (j, on_j, r) = b.sound k on in
      let (i, on_i, q) = a.sound j on_j in
      (i, on_i, paths.then_reaches links i j k q r);
  met = b.met;
}

-- what the last that waits names is flagged, and waits, in place of it
pub step_spread : {links : List (Vec (Option ℕ))} (f g : List Bool) (rest waiting : List ℕ) (u : ℕ) → AreMet links f (rest ++ u ∷ [])
    → IsMarked (IsNamed (named_in links u)) f rest g waiting → IsSpread links f g waiting
step_spread {links} f g rest waiting u m a = record {
  all = a.all;
  kept = a.kept;
  sound = λ j on. elim (a.sound j on) [
    | inl old ↦ (j, old, paths.reaches_itself links j)
    | inr (named, w) ↦ (u, u_on, paths.one_more links u u j (paths.reaches_itself links u) named)
  ];
  met = record {
    on = λ i w. elim (a.waits i w) [
      | inl (p, e) ↦ a.kept i (m.on i (p, front rest (u ∷ []) p i e))
      | inr named ↦ a.marked i named
    ];
    met = λ i j on refers. elim (a.sound i on) [
      | inl old ↦ elim (m.met i j old refers) [
        | inl on_j ↦ inl (a.kept j on_j)
        | inr (p, e) ↦ elim (one_more rest p i u e) [
          | inl (l, q) ↦ inr (a.stays i (p, q))
          | inr (l, q) ↦ inl (a.marked j (subst (λ x. Refers links x j) q refers))
        ]
      ]
      | inr (named, w) ↦ inr w
    ];
  };
}
  where
    u_on : IsOn f u
    u_on = m.on u (length rest, at_end rest u)

pub step_less : {holds : ℕ → Type 0} (f g : List Bool) (rest waiting : List ℕ) (u : ℕ) → IsMarked holds f rest g waiting → work g waiting < work f (rest ++ u ∷ [])
step_less f g rest waiting u a =
    let c = a.counts in
    let d = a.fewer in
    let l = longer rest u in
    omega arith

-- one more is flagged, where flags are closed
pub begun : {links : List (Vec (Option ℕ))} (f g : List Bool) (waiting : List ℕ) (from : ℕ) → IsClosed links f → IsMarked (λ i. i ≡ from) f [] g waiting → AreMet links g waiting
begun f g waiting from closed a = record {
  on = λ i w. elim (a.waits i w) [
    | inl (p, e) ↦ absurd (cc)
    | inr q ↦ a.marked i q
  ];
  met = λ i j on refers. elim (a.sound i on) [
    | inl old ↦ inl (a.kept j (closed i j old refers))
    | inr (q, w) ↦ inr w
  ];
}

-- none waits any more
pub ended_closed : {links : List (Vec (Option ℕ))} (f g : List Bool) (waiting : List ℕ) → IsSpread links f g waiting → waiting ≡ [] → IsClosed links g
ended_closed f g waiting s none = λ i j on refers. elim (s.met.met i j on refers) [
  | inl on_j ↦ on_j
  | inr (p, e) ↦ let q : None ≡ Some i = ap (λ xs. slice_get xs p) (sym none) ∙ e in absurd (cc)
]

pub ended_each : {links : List (Vec (Option ℕ))} (f g h : List Bool) (waited waiting : List ℕ) (from : ℕ) → IsClosed links f → IsMarked (λ i. i ≡ from) f [] g waited
    → IsSpread links g h waiting → waiting ≡ [] → (j : ℕ) → IsOn h j ↔ (IsOn f j ⊎ Reaches links from j)
ended_each {links} f g h waited waiting from closed a s none j = (
  λ on.
      let (i, on_i, (path, p)) = s.sound j on in
      elim (a.sound i on_i) [
        | inl old ↦ inl (paths.kept_on links f closed i j path old p)
        | inr (q, w) ↦ inr (subst (λ x. Reaches links x j) q (path, p))
      ],
  λ either. elim either [
    | inl old ↦ s.kept j (a.kept j old)
    | inr (path, p) ↦ paths.kept_on links h (ended_closed g h waiting s none) from j path (s.kept from (a.marked from refl)) p
  ],
)

-- ---- no flags

pub all_off : (n i : ℕ) → IsOn (replicate n false) i → ⊥
all_off n i e = let q = all_same n false true i e in absurd (cc)
  where
    all_same : {X : Type 0} (n : ℕ) (x y : X) (i : ℕ) → slice_get (replicate n x) i ≡ Some y → y ≡ x
    all_same zero x y i e = absurd (cc)
    all_same (suc n) x y zero e = same_Some y x (sym e)
    all_same (suc n) x y (suc i) e = all_same n x y i e
