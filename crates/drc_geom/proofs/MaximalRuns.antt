-- Two maximal runs of one set are equal once they have a unit in common.
use Rattle.std.proofs.Common.{◌≡◌, Bool, true, false, ℤ, pos, ◌<ℤ◌, ◌≤ℤ◌, ◌-ℤ◌, refl, sym, subst, ◌∙◌, arith}
use Rattle.std.proofs.lemmas.Int.{ints, by_lt_z}
use Rattle.list_facts.proofs.Tests.{clash}
use Rattle.drc_geom.specs.declared.unit.Side.{Side}
use Rattle.drc_geom.specs.declared.run.Run.{Run}
use Rattle.drc_geom.specs.Units.{Units, has_unit}
use Rattle.drc_geom.specs.Runs.{IsMaximalRun, IsRunOf}
use Rattle.drc_geom.specs.RunOrder.{run_equal}
use Rattle.drc_geom.proofs.RunUnits.{IsOn, on_from_has}

-- the columns a to b - 1 of a line, all in a set, and the columns next to them not
record IsStretch (h : ℤ → Bool) (a b : ℤ) : Type 0 where
  filled : a <ℤ b
  inside : (c : ℤ) → a ≤ℤ c → c <ℤ b → h c ≡ true
  before : h (a -ℤ pos 1) ≡ false
  after : h b ≡ false

one_start : (h : ℤ → Bool) (a b lo hi : ℤ) → IsStretch h a b → IsStretch h lo hi → a ≤ℤ lo → lo <ℤ b → lo ≡ a
one_start h a b lo hi s t p q =
    by_lt_z a lo
    (λ l. clash (h (lo -ℤ pos 1)) (s.inside (lo -ℤ pos 1) (omega (arith, ints)) (omega (arith, ints))) t.before)
    (λ l. omega (arith, ints))

one_end : (h : ℤ → Bool) (a b lo hi : ℤ) → IsStretch h a b → IsStretch h lo hi → a ≤ℤ lo → lo <ℤ b → hi ≡ b
one_end h a b lo hi s t p q =
    let f : lo <ℤ hi = t.filled in
    by_lt_z hi b
    (λ l. clash (h hi) (s.inside hi (omega (arith, ints)) l) t.after)
    (λ l. by_lt_z b hi
    (λ m. clash (h b) (t.inside b (omega (arith, ints)) m) s.after)
    (λ m. omega (arith, ints)))

stretch_of : (units : Units) (r : Run) (side : Side) (line : ℤ) → IsMaximalRun units r → side ≡ r.side → line ≡ r.line → IsStretch (has_unit units side line) r.lo r.hi
stretch_of units r side line m p q =
    let base : IsStretch (has_unit units r.side r.line) r.lo r.hi = record { filled = m.not_empty; inside = m.inside; before = m.before; after = m.after } in
    subst (λ l. IsStretch (has_unit units side l) r.lo r.hi) (sym q) (subst (λ s. IsStretch (has_unit units s r.line) r.lo r.hi) (sym p) base)

pub maximal_runs_meet : (units : Units) (a b : Run) → IsMaximalRun units a → IsMaximalRun units b → a.side ≡ b.side → a.line ≡ b.line → b.lo ≤ℤ a.lo → a.lo <ℤ b.hi → a ≡ b
maximal_runs_meet units a b m n s l p q =
    let h = has_unit units a.side a.line in
    let sb = stretch_of units b a.side a.line n s l in
    let sa = stretch_of units a a.side a.line m refl refl in
    run_equal a b s l (one_start h b.lo b.hi a.lo a.hi sb sa p q) (one_end h b.lo b.hi a.lo a.hi sb sa p q)

-- a unit has at most one run
pub one_run : (units : Units) (side : Side) (line column : ℤ) (a b : Run) → IsRunOf units side line column a → IsRunOf units side line column b → a ≡ b
one_run units side line column a b p q =
    let on : IsOn a side line column = on_from_has a side line column p.has in
    let on' : IsOn b side line column = on_from_has b side line column q.has in
    let s : a.side ≡ b.side = on.one_side ∙ sym on'.one_side in
    let l : a.line ≡ b.line = on.one_line ∙ sym on'.one_line in
    by_lt_z a.lo b.lo
    (λ h. sym (maximal_runs_meet units b a q.maximal p.maximal (sym s) (sym l) (omega (arith, ints)) (omega (arith, ints))))
    (λ h. maximal_runs_meet units a b p.maximal q.maximal s l h (omega (arith, ints)))
