-- One definition after another is closed, from the last.
use Rattle.std.proofs.Common.{◌≡◌, ℕ, zero, suc, ◌+◌, ◌<◌, Bool, List, [], ◌∷◌, ◌++◌, length, take, drop, reverse, set, Some, refl, sym, ap, subst, ◌∙◌, append_assoc, arith}
use Rattle.std.proofs.lemmas.List.{length-take-le, reverse-append, take_at, take-take}
use Rattle.std.proofs.lemmas.Option.{same_Some}
use Rattle.std.specs.Prelude.{slice_get}
use Rattle.deck_order.specs.declared.mark.Mark.TheVariants.{Closed}
use Rattle.deck_order.specs.Working.Walks.{Stage}
use Rattle.deck_order.specs.Working.Closing.{flags_set, marks_closed, IsClosing}
use Rattle.deck_order.proofs.Counting.{length_closed, length_flags}
use Rattle.list_facts.proofs.Slots.{at_end, taken}

-- what is cut off behind one place less
cut_one : {X : Type 0} (k : ℕ) (xs : List X) (x : X) → slice_get xs k ≡ Some x → drop k xs ≡ x ∷ drop (k + 1) xs
cut_one k [] x e = absurd (cc)
cut_one zero (y ∷ xs) x e = ap (λ z. z ∷ xs) (same_Some y x e)
cut_one (suc k) (y ∷ xs) x e = cut_one k xs x e ∙ (let z : suc (k + 1) ≡ suc k + 1 = omega arith in ap (λ n. x ∷ drop n (y ∷ xs)) z)

pub turned_more : {X : Type 0} (y : X) (xs : List X) → reverse (y ∷ xs) ≡ reverse xs ++ y ∷ []
turned_more y xs = reverse-append (y ∷ []) xs

-- the parts behind one more
abbrev pub next_of : Stage → ℕ → Bool → List ℕ → Stage
next_of s u b rest = record {
  marks = set s.marks u Closed;
  pending = rest;
  bounds = s.bounds;
  path = s.path;
  listed = s.listed ++ u ∷ [];
  cyclic = set s.cyclic u b;
}

abbrev closed_by : Stage → List ℕ → List ℕ → Bool → Stage
closed_by s rest us b = record {
  marks = marks_closed s.marks us;
  pending = rest;
  bounds = s.bounds;
  path = s.path;
  listed = s.listed ++ reverse us;
  cyclic = flags_set s.cyclic b us;
}

one_more_closed : (s : Stage) (before rest : List ℕ) (u : ℕ) (us : List ℕ) (b : Bool) → next_of (closed_by s before us b) u b rest ≡ closed_by s rest (u ∷ us) b
one_more_closed s before rest u us b =
    ap (λ l. record {
      marks = set (marks_closed s.marks us) u Closed;
      pending = rest;
      bounds = s.bounds;
      path = s.path;
      listed = l;
      cyclic = set (flags_set s.cyclic b us) u b;
    }) (append_assoc s.listed (reverse us) (u ∷ []) ∙ ap (λ xs. s.listed ++ xs) (sym (turned_more u us)))

module _ (old : Stage) (at : ℕ) (b : Bool) (now : Stage) (is : IsClosing old at b now) (below : at < length now.pending) (u : ℕ) (rest : List ℕ) (last : now.pending ≡ rest ++ u ∷ []) where
  abbrev k : ℕ
  k = length rest

  pending_is : now.pending ≡ take is.kept old.pending
  pending_is = ap (λ (s : Stage). s.pending) is.stage

  kept_is : is.kept ≡ k + 1
  kept_is =
      let n = length-take-le is.kept old.pending is.within in
      let m = ap length pending_is in
      let l = length_more rest in
      let q = ap length last in
      omega arith
    where
      length_more : (xs : List ℕ) → length (xs ++ u ∷ []) ≡ length xs + 1
      length_more [] = refl
      length_more (x ∷ xs) = let l = length_more xs in omega arith

  there : slice_get old.pending k ≡ Some u
  there = (taken is.kept old.pending k u (ap (λ xs. slice_get xs k) (sym pending_is ∙ last) ∙ at_end rest u)).1

  rest_is : rest ≡ take k old.pending
  rest_is =
      sym (take_at rest (u ∷ []) k refl)
      ∙ (ap (take k) (sym last ∙ pending_is)
      ∙ take-take k is.kept old.pending (let q = kept_is in omega arith))

  now_is : now ≡ closed_by old (take is.kept old.pending) (drop (k + 1) old.pending) b
  now_is = is.stage ∙ ap (λ n. closed_by old (take is.kept old.pending) (drop n old.pending) b) kept_is

  closed_next : IsClosing old at b (next_of now u b rest)
  closed_next = record {
    kept = k;
    low = (let n = length-take-le is.kept old.pending is.within in let m = ap length pending_is in let q = kept_is in omega arith);
    within = (let q = kept_is in let l = is.within in omega arith);
    stage =
        ap (λ s. next_of s u b rest) now_is
        ∙ (one_more_closed old (take is.kept old.pending) rest u (drop (k + 1) old.pending) b
        ∙ (ap (λ xs. closed_by old xs (u ∷ drop (k + 1) old.pending) b) rest_is
        ∙ ap (λ xs. closed_by old (take k old.pending) xs b) (sym (cut_one k old.pending u there))));
  }

  pub closed_more : (listed : List ℕ) → listed ≡ now.listed ++ u ∷ []
      → IsClosing old at b (record { marks = set now.marks u Closed; pending = rest; bounds = now.bounds; path = now.path; listed = listed; cyclic = set now.cyclic u b })
  closed_more listed e =
      subst (λ l. IsClosing old at b (record { marks = set now.marks u Closed; pending = rest; bounds = now.bounds; path = now.path; listed = l; cyclic = set now.cyclic u b })) (sym e) closed_next

  pub marks_within : ((a v : ℕ) → slice_get old.pending a ≡ Some v → v < length old.marks) → u < length now.marks
  marks_within within =
      let n = length_closed old.marks (drop is.kept old.pending) in
      let m = ap (λ (s : Stage). length s.marks) is.stage in
      let l = within k u there in
      omega arith

  pub flags_within : ((a v : ℕ) → slice_get old.pending a ≡ Some v → v < length old.marks) → length old.cyclic ≡ length old.marks → u < length now.cyclic
  flags_within within e =
      let n = length_flags old.cyclic b (drop is.kept old.pending) in
      let m = ap (λ (s : Stage). length s.cyclic) is.stage in
      let l = within k u there in
      omega arith
