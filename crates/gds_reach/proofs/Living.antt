-- Which structures lead to something drawn.
use Rattle.std.proofs.Common.{◌≡◌, ◌⊎◌, inl, inr, ◌↔◌, ℕ, ◌+◌, Bool, true, false, List, length, replicate, Option, subst, arith}
use Rattle.std.proofs.lemmas.Bool.{cases_eq}
use Rattle.std.proofs.lemmas.Option.{slice_get_within}
use Rattle.std.specs.Global.{Vec}
use Rattle.gds_reach.specs.References.{IsClosed, IsOn, Reaches, Refers, Tell}
use Rattle.gds_reach.specs.Live.{IsLive}
use Rattle.gds_reach.specs.Working.Turning.{AreTurned, AreLive}
use Rattle.gds_reach.proofs.Paths.{stands_within, turned_path}
use Rattle.gds_reach.proofs.Spreading.{all_off}

pub none_live : (turned : List (Vec (Option ℕ))) (drawn : List Bool) (n : ℕ) → AreLive turned drawn 0 (replicate n false)
none_live turned drawn n = record {
  closed = λ i j on refers. absurd (all_off n i on);
  each = λ i. (λ on. absurd (all_off n i on), λ (j, l, o, r). absurd (omega arith));
}

pub live_more : (turned : List (Vec (Option ℕ))) (drawn f g : List Bool) (n : ℕ) → AreLive turned drawn n f → IsOn drawn n → IsClosed turned g
    → ((j : ℕ) → IsOn g j ↔ (IsOn f j ⊎ Reaches turned n j)) → AreLive turned drawn (n + 1) g
live_more turned drawn f g n so_far here closed new = record {
  closed = closed;
  each = λ i. (
    λ on. elim ((new i).0 on) [
      | inl old ↦ let (j, l, o, r) = (so_far.each i).0 old in (j, omega arith, o, r)
      | inr r ↦ (n, omega arith, here, r)
    ],
    λ (j, l, o, r). elim (cases_eq j n) [
      | inl q ↦ (new i).1 (inr (subst (λ x. Reaches turned x i) q r))
      | inr q ↦ (new i).1 (inl ((so_far.each i).1 (j, omega arith, o, r)))
    ],
  );
}

pub live_skip : (turned : List (Vec (Option ℕ))) (drawn f : List Bool) (n : ℕ) → AreLive turned drawn n f → (IsOn drawn n → ⊥) → AreLive turned drawn (n + 1) f
live_skip turned drawn f n so_far not_here = record {
  closed = so_far.closed;
  each = λ i. (
    λ on. let (j, l, o, r) = (so_far.each i).0 on in (j, omega arith, o, r),
    λ (j, l, o, r). elim (cases_eq j n) [
      | inl q ↦ absurd (not_here (subst (IsOn drawn) q o))
      | inr q ↦ (so_far.each i).1 (j, omega arith, o, r)
    ],
  );
}

pub live_all : (links turned : List (Vec (Option ℕ))) (drawn flags : List Bool) → AreTurned links (length links) turned → length drawn ≡ length links → length flags ≡ length links
    → AreLive turned drawn (length links) flags → Tell links (IsLive links drawn) flags
live_all links turned drawn flags turns same all so_far = record {
  all = all;
  each = λ i there. (
    λ on. let (j, l, o, (path, p)) = (so_far.each i).0 on in (j, o, turned_path turned links back j i path p),
    λ (j, o, (path, p)). (so_far.each i).1 (j, (let t = slice_get_within drawn j true o in omega arith), o, turned_path links turned forth i j path p),
  );
}
  where
    back : (i j : ℕ) → Refers turned i j → Refers links j i
    back i j refers = ((turns i j).0 refers).1

    forth : (i j : ℕ) → Refers links i j → Refers turned j i
    forth i j refers = (turns j i).1 (stands_within links i refers.0 _ refers.1, refers)
