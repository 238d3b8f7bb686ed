-- The steps on what is kept are those of the report that is made.
use Rattle.std.proofs.Common.{◌≡◌, ℕ, zero, suc, ◌+◌, ◌-◌, List, [], ◌∷◌, ◌++◌, length, take, sum_by, is_some, true, Option, Some, None, refl, sym, ap, ◌∙◌, arith, append_assoc, append-nil, length-append}
use Rattle.std.specs.List.{flat_map}
use Rattle.std.proofs.lemmas.Grind.{flat_map-append, common_steps}
use Rattle.std.proofs.lemmas.List.Sums.{sum_by-append}
use mathlib.Core.Bool.{true≢false}
use Rattle.results_db.specs.Results.{Result, results_from}
use Rattle.results_db.specs.Reports.{Check, Report, results_of, found_of, written_of, within, line_text, first_line, counts_text, check_text}
use Rattle.results_db.specs.Making.{Making, Kept, KeptCheck, kept, kept_check, finished, begun, with_output}
use Rattle.results_db.specs.Working.Steps.{closed, with_name, with_lines}
use Rattle.results_db.proofs.Joined.{first_joined}

abbrev making_of : Report → Option Check → Making
making_of r open_check = record { closed = r; open_check = open_check }

abbrev kept_of : List ℕ → Option ℕ → List ℕ → (found written outputs : ℕ) → Option KeptCheck → Kept
kept_of date limit text found written outputs open_check =
    record { date = date; limit = limit; text = text; found = found; written = written; outputs = outputs; open_check = open_check }

abbrev kept_check_of : (notes found : ℕ) → List ℕ → KeptCheck
kept_check_of notes found body = record { notes = notes; found = found; body = body }

-- the open check is closed
abbrev pub with_none_open : Making → Making
with_none_open making = record { closed = finished making; open_check = None }

one_more : {X : Type 0} (f : X → ℕ) (xs : List X) (x : X) → sum_by f (xs ++ x ∷ []) ≡ sum_by f xs + f x
one_more f xs x = grind (arith, common_steps, sum_by-append f xs (x ∷ []))

list_more : {X Y : Type 0} (f : X → List Y) (xs : List X) (x : X) → flat_map f (xs ++ x ∷ []) ≡ flat_map f xs ++ f x
list_more f xs x = flat_map-append f xs (x ∷ []) ∙ ap (λ t. flat_map f xs ++ t) (append-nil (f x))

kept_same : (date : List ℕ) (limit : Option ℕ) (t u : List ℕ) (f g w v o p : ℕ) (c d : Option KeptCheck) → t ≡ u → f ≡ g → w ≡ v → o ≡ p → c ≡ d
    → kept_of date limit t f w o c ≡ kept_of date limit u g v p d
kept_same date limit t u f g w v o p c d e1 e2 e3 e4 e5 = rw (e1, e2, e3, e4, e5) refl

check_same : (notes : ℕ) (f g : ℕ) (t u : List ℕ) → f ≡ g → t ≡ u → kept_check_of notes f t ≡ kept_check_of notes g u
check_same notes f g t u e1 e2 = rw (e1, e2) refl

-- ---- a check is closed

closed_text : (head texts name counts notes results : List ℕ)
    → head ++ texts ++ name ++ counts ++ (notes ++ results) ≡ head ++ (texts ++ (name ++ counts ++ notes ++ results)) ++ []
closed_text head texts name counts notes results = grind (arith, common_steps, append_assoc, append-nil)

closed_kept_of : (r : Report) (open_check : Option Check) → closed (kept (making_of r open_check)) ≡ kept (with_none_open (making_of r open_check))
closed_kept_of r None = refl
closed_kept_of r (Some check) =
    kept_same r.date r.limit _ _ _ _ _ _ _ _ None None
    (closed_text (first_line r.primary r.precision) (flat_map (check_text r.date r.limit) r.checks) (line_text check.name)
    (counts_text (written_of r.limit check) (found_of check) (length check.notes) r.date)
    (flat_map line_text check.notes) (results_from 1 (take (written_of r.limit check) (results_of check)))
    ∙ ap (λ t. first_line r.primary r.precision ++ t ++ []) (sym (list_more (check_text r.date r.limit) r.checks check)))
    (sym (one_more found_of r.checks check))
    (sym (one_more (written_of r.limit) r.checks check))
    (let more = one_more (λ c. length c.outputs) r.checks check in omega (arith, more))
    refl

pub closed_kept : (making : Making) → closed (kept making) ≡ kept (with_none_open making)
closed_kept making = closed_kept_of making.closed making.open_check

-- ---- a check is opened

none_taken : (n : ℕ) → results_from 1 (take n []) ≡ []
none_taken zero = refl
none_taken (suc n) = refl

begun_of : (r : Report) (name : List ℕ) (notes : List (List ℕ))
    → with_name (kept (making_of r None)) name notes ≡ kept (making_of r (Some (record { name = name; notes = notes; outputs = [] })))
begun_of r name notes =
    kept_same r.date r.limit _ _ _ _ _ _ _ _ _ _
    (ap (λ t. t ++ line_text name) (append-nil (first_line r.primary r.precision ++ flat_map (check_text r.date r.limit) r.checks)))
    refl refl refl
    (ap (λ c. Some c) (check_same (length notes) 0 0 _ _ refl
    (sym (append-nil (flat_map line_text notes)) ∙ ap (λ t. flat_map line_text notes ++ t) (sym (none_taken (within r.limit 0))))))

pub begun_kept : (making : Making) (name : List ℕ) (notes : List (List ℕ)) → with_name (closed (kept making)) name notes ≡ kept (begun making name notes)
begun_kept making name notes = ap (λ k. with_name k name notes) (closed_kept making) ∙ begun_of (finished making) name notes

-- ---- an output is added

-- the text of the first of so many results
abbrev shown : Option ℕ → List Result → List ℕ
shown limit results = results_from 1 (take (within limit (length results)) results)

added_text : (limit : Option ℕ) (notes : List ℕ) (old all results : List Result) → all ≡ old ++ results
    → notes ++ shown limit old ++ results_from (within limit (length old) + 1) (take (within limit (length old + length results) - within limit (length old)) results)
    ≡ notes ++ shown limit all
added_text limit notes old all results e =
    append_assoc notes (shown limit old) _
    ∙ ap (λ t. notes ++ t)
    (sym (first_joined limit old results)
    ∙ (ap (λ n. results_from 1 (take (within limit n) (old ++ results))) (sym (length-append old results))
    ∙ ap (λ l. shown limit l) (sym e)))

output_kept_of : (r : Report) (open_check : Option Check) (results : List Result) → is_some open_check ≡ true
    → with_lines (kept (making_of r open_check)) results ≡ kept (with_output (making_of r open_check) results)
output_kept_of r None results e = absurd (true≢false (sym e))
output_kept_of r (Some check) results e =
    let all = list_more (λ x. x) check.outputs results in
    kept_same r.date r.limit _ _ _ _ _ _ _ _ _ _ refl refl refl
    (let more = length-append check.outputs (results ∷ []) in omega (arith, more))
    (ap (λ c. Some c) (check_same (length check.notes) _ _ _ _
    (sym (ap (λ l. length l) all ∙ length-append (results_of check) results))
    (added_text r.limit (flat_map line_text check.notes) (results_of check) (flat_map (λ x. x) (check.outputs ++ results ∷ [])) results all)))

kept_open : (limit : Option ℕ) (open_check : Option Check) → is_some (kept_check limit open_check) ≡ true → is_some open_check ≡ true
kept_open limit None e = e
kept_open limit (Some check) e = refl

pub output_kept : (making : Making) (results : List Result) → is_some (kept making).open_check ≡ true
    → with_lines (kept making) results ≡ kept (with_output making results)
output_kept making results e = output_kept_of making.closed making.open_check results (kept_open making.closed.limit making.open_check e)
