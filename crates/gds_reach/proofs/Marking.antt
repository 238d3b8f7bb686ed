-- How structures are flagged, and wait.
use Rattle.std.proofs.Common.{◌≡◌, ◌⊎◌, inl, inr, ℕ, zero, suc, ◌+◌, ◌<◌, Bool, true, false, List, [], ◌∷◌, ◌++◌, length, set, Some, refl, sym, ap, subst, ◌∙◌, arith}
use Rattle.std.proofs.lemmas.Bool.{cases_eq}
use Rattle.std.proofs.lemmas.List.{length-set}
use Rattle.std.specs.Prelude.{slice_get}
use Rattle.list_facts.proofs.Slots.{at_end, front, longer, one_more, unwritten, written, written_cases}
use Rattle.gds_reach.specs.References.{IsOn}
use Rattle.gds_reach.specs.Working.Marks.{off, IsMarked, Waits}

one_less : (flags : List Bool) (i : ℕ) → slice_get flags i ≡ Some false → off (set flags i true) + 1 ≡ off flags
one_less [] i e = absurd (cc)
one_less (true ∷ fs) zero e = absurd (cc)
one_less (false ∷ fs) zero e = refl
one_less (true ∷ fs) (suc i) e = one_less fs i e
one_less (false ∷ fs) (suc i) e = let t = one_less fs i e in omega arith

-- none is flagged, or waits, more than before
pub none_marked : {holds : ℕ → Type 0} (flags : List Bool) (waiting : List ℕ) → ((i : ℕ) → holds i → IsOn flags i) → IsMarked holds flags waiting flags waiting
none_marked flags waiting on = record {
  all = refl;
  kept = λ i e. e;
  marked = on;
  sound = λ i e. inl e;
  stays = λ i w. w;
  waits = λ i w. inl w;
  counts = refl;
  fewer = omega arith;
}

-- one that wasn't flagged
pub one_marked : (flags : List Bool) (waiting : List ℕ) (j : ℕ) → j < length flags → slice_get flags j ≡ Some false
    → IsMarked (λ i. i ≡ j) flags waiting (set flags j true) (waiting ++ j ∷ [])
one_marked flags waiting j l e = record {
  all = length-set flags j true;
  kept = λ i on. kept i on;
  marked = λ i q. subst (IsOn (set flags j true)) (sym q) here;
  sound = λ i on. elim (written_cases flags j i true true on) [
    | inl (q, r) ↦ inr (q, waits_now i q)
    | inr (q, r) ↦ inl r
  ];
  stays = λ i (a, w). (a, front waiting (j ∷ []) a i w);
  waits = λ i (a, w). elim (one_more waiting a i j w) [
    | inl (m, r) ↦ inl (a, r)
    | inr (m, r) ↦ inr r
  ];
  counts = let t = one_less flags j e in let n = longer waiting j in omega arith;
  fewer = let t = one_less flags j e in omega arith;
}
  where
    here : IsOn (set flags j true) j
    here = written flags j true l

    kept : (i : ℕ) → IsOn flags i → IsOn (set flags j true) i
    kept i on =
        elim (cases_eq i j) [
          | inl q ↦ subst (IsOn (set flags j true)) (sym q) here
          | inr q ↦ unwritten flags j i true q ∙ on
        ]

    waits_now : (i : ℕ) → i ≡ j → Waits (waiting ++ j ∷ []) i
    waits_now i q = (length waiting, at_end waiting j ∙ ap (λ x. Some x) (sym q))

-- first these, then those
pub both_marked : {P Q R : ℕ → Type 0} (f g h : List Bool) (u v w : List ℕ) → IsMarked P f u g v → IsMarked Q g v h w
    → ((i : ℕ) → R i → P i ⊎ Q i) → ((i : ℕ) → P i → R i) → ((i : ℕ) → Q i → R i) → IsMarked R f u h w
both_marked {P} {Q} {R} f g h u v w a b split left right = record {
  all = b.all ∙ a.all;
  kept = λ i on. b.kept i (a.kept i on);
  marked = λ i r. elim (split i r) [
    | inl p ↦ b.kept i (a.marked i p)
    | inr q ↦ b.marked i q
  ];
  sound = λ i on. elim (b.sound i on) [
    | inl t ↦ elim (a.sound i t) [
      | inl s ↦ inl s
      | inr (p, s) ↦ inr (left i p, b.stays i s)
    ]
    | inr (q, s) ↦ inr (right i q, s)
  ];
  stays = λ i s. b.stays i (a.stays i s);
  waits = λ i s. elim (b.waits i s) [
    | inl t ↦ elim (a.waits i t) [
      | inl r ↦ inl r
      | inr p ↦ inr (left i p)
    ]
    | inr q ↦ inr (right i q)
  ];
  counts = b.counts ∙ a.counts;
  fewer = let x = a.fewer in let y = b.fewer in omega arith;
}

-- those of which one thing holds are those of which another does
pub same_marked : {P R : ℕ → Type 0} (f g : List Bool) (u v : List ℕ) → IsMarked P f u g v → ((i : ℕ) → R i → P i) → ((i : ℕ) → P i → R i) → IsMarked R f u g v
same_marked {P} {R} f g u v a to from = record {
  all = a.all;
  kept = a.kept;
  marked = λ i r. a.marked i (to i r);
  sound = λ i on. elim (a.sound i on) [
    | inl s ↦ inl s
    | inr (p, s) ↦ inr (from i p, s)
  ];
  stays = a.stays;
  waits = λ i s. elim (a.waits i s) [
    | inl r ↦ inl r
    | inr p ↦ inr (from i p)
  ];
  counts = a.counts;
  fewer = a.fewer;
}
