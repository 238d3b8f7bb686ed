-- Lines: what is read stands at the front, and what stands at the front is read again.
use Rattle.std.proofs.Common.{◌≡◌, ℕ, List, ◌++◌, Option, Some, None, IfSome, IfNone, refl, sym, ap, subst, ◌∙◌, append_assoc, arith}
use Rattle.std.specs.Borrow.{Bor}
use Rattle.std.proofs.lemmas.Option.{same_Some}
use Rattle.list_facts.specs.Attempts.{◌>>=◌}
use Rattle.list_facts.proofs.Attempts.{found_by}
use Rattle.ledger_history.specs.declared.event.Event.TheVariants.{Claim, Charge, Publish, Release, Stop}
use Rattle.trace_line.specs.declared.line.Line.{Line}
use Rattle.trace_line.specs.declared.line.Line.TheVariants.{Title, Operations, Workers, Budget, Cost, Step, End}
use Rattle.trace_line.specs.declared.word.Word.{Word}
use Rattle.trace_line.specs.declared.word.Word.TheVariants as words
use Rattle.trace_line.specs.Lines.{line_feed, line_text, IsLine, Begins, one_number, two_numbers, three_numbers}
use Rattle.trace_line.specs.Working.Reading.{Gives, number_before, two_at, three_at, word_at, body_at, line_at, most_32, most_64}
use Rattle.trace_line.proofs.Numbers.{one_takes, one_again, two_takes, two_again, three_takes, three_again}
use Rattle.trace_line.proofs.Words.{word_text, word_takes, word_again}

-- the line stands at the front of the word and the bytes after it
abbrev Stands : Word → List ℕ → (Line × List ℕ) → Type 0
Stands w bytes y = Begins (word_text w ++ bytes) y.0 y.1

-- a line that is its word and the text of its numbers
stands : (w : Word) (bytes numbers : List ℕ) (l : Line) (rest : List ℕ) → IsLine l → line_text l ≡ word_text w ++ numbers → bytes ≡ numbers ++ rest → Stands w bytes (l, rest)
stands w bytes numbers l rest h e p =
    record { line = h; parts = ap (λ (x : List ℕ). word_text w ++ x) p ∙ sym (append_assoc (word_text w) numbers rest) ∙ ap (λ (x : List ℕ). x ++ rest) (sym e) }

body_stands : (w : Word) (bytes : List ℕ) (y : Line × List ℕ) → body_at w bytes ≡ Some y → Stands w bytes y
unfolding body_at
body_stands words.Title bytes y e = subst (Stands words.Title bytes) (same_Some (Title, bytes) y e) (record { line = tt; parts = refl })
body_stands words.End bytes y e = subst (Stands words.End bytes) (same_Some (End, bytes) y e) (record { line = tt; parts = refl })
body_stands words.Operations bytes y e =
    let f = found_by (number_before most_32 line_feed bytes) (λ n. Some (Operations n.0, n.1)) y e in
    let t = one_takes most_32 bytes f.0.0 f.0.1 (omega arith) f.1 in
    subst (Stands words.Operations bytes) (same_Some (Operations f.0.0, f.0.1) y f.2)
    (stands words.Operations bytes (one_number f.0.0) (Operations f.0.0) f.0.1 (omega (arith, t.1)) refl t.0)
body_stands words.Workers bytes y e =
    let f = found_by (number_before most_32 line_feed bytes) (λ n. Some (Workers n.0, n.1)) y e in
    let t = one_takes most_32 bytes f.0.0 f.0.1 (omega arith) f.1 in
    subst (Stands words.Workers bytes) (same_Some (Workers f.0.0, f.0.1) y f.2)
    (stands words.Workers bytes (one_number f.0.0) (Workers f.0.0) f.0.1 (omega (arith, t.1)) refl t.0)
body_stands words.Budget bytes y e =
    let f = found_by (number_before most_64 line_feed bytes) (λ n. Some (Budget n.0, n.1)) y e in
    let t = one_takes most_64 bytes f.0.0 f.0.1 (omega arith) f.1 in
    subst (Stands words.Budget bytes) (same_Some (Budget f.0.0, f.0.1) y f.2)
    (stands words.Budget bytes (one_number f.0.0) (Budget f.0.0) f.0.1 (omega (arith, t.1)) refl t.0)
body_stands words.Cost bytes y e =
    let f = found_by (two_at most_64 bytes) (λ n. Some (Cost n.0 n.1, n.2)) y e in
    let t = two_takes most_64 bytes f.0 (omega arith) f.1 in
    subst (Stands words.Cost bytes) (same_Some (Cost f.0.0 f.0.1, f.0.2) y f.2)
    (stands words.Cost bytes (two_numbers f.0.0 f.0.1) (Cost f.0.0 f.0.1) f.0.2 (omega (arith, t.first), omega (arith, t.second)) refl t.parts)
body_stands words.Claim bytes y e =
    let f = found_by (two_at most_32 bytes) (λ n. Some (Step (Claim n.0 n.1), n.2)) y e in
    let t = two_takes most_32 bytes f.0 (omega arith) f.1 in
    subst (Stands words.Claim bytes) (same_Some (Step (Claim f.0.0 f.0.1), f.0.2) y f.2)
    (stands words.Claim bytes (two_numbers f.0.0 f.0.1) (Step (Claim f.0.0 f.0.1)) f.0.2 (omega (arith, t.first), omega (arith, t.second)) refl t.parts)
body_stands words.Charge bytes y e =
    let f = found_by (three_at most_64 bytes) (λ n. Some (Step (Charge n.0 n.1 n.2), n.3)) y e in
    let t = three_takes most_64 bytes f.0 (omega arith) f.1 in
    subst (Stands words.Charge bytes) (same_Some (Step (Charge f.0.0 f.0.1 f.0.2), f.0.3) y f.2)
    (stands words.Charge bytes (three_numbers f.0.0 f.0.1 f.0.2) (Step (Charge f.0.0 f.0.1 f.0.2)) f.0.3 (omega (arith, t.first), omega (arith, t.second), omega (arith, t.third)) refl t.parts)
body_stands words.Publish bytes y e =
    let f = found_by (two_at most_32 bytes) (λ n. Some (Step (Publish n.0 n.1), n.2)) y e in
    let t = two_takes most_32 bytes f.0 (omega arith) f.1 in
    subst (Stands words.Publish bytes) (same_Some (Step (Publish f.0.0 f.0.1), f.0.2) y f.2)
    (stands words.Publish bytes (two_numbers f.0.0 f.0.1) (Step (Publish f.0.0 f.0.1)) f.0.2 (omega (arith, t.first), omega (arith, t.second)) refl t.parts)
body_stands words.Release bytes y e =
    let f = found_by (three_at most_32 bytes) (λ n. Some (Step (Release n.0 n.1 n.2), n.3)) y e in
    let t = three_takes most_32 bytes f.0 (omega arith) f.1 in
    subst (Stands words.Release bytes) (same_Some (Step (Release f.0.0 f.0.1 f.0.2), f.0.3) y f.2)
    (stands words.Release bytes (three_numbers f.0.0 f.0.1 f.0.2) (Step (Release f.0.0 f.0.1 f.0.2)) f.0.3 (omega (arith, t.first), omega (arith, t.second), omega (arith, t.third)) refl t.parts)

pub line_takes : (bytes : List ℕ) (l : Line) (rest : List ℕ) → line_at bytes ≡ Some (l, rest) → Begins bytes l rest
unfolding line_at
line_takes bytes l rest e =
    let f = found_by (word_at bytes) (λ w. body_at w.0 w.1) (l, rest) e in
    subst (λ (x : List ℕ). Begins x l rest) (sym (word_takes bytes f.0.0 f.0.1 f.1)) (body_stands f.0.0 f.0.1 (l, rest) f.2)

-- a line's word and the text of its numbers
abbrev word_of : Line → Word
word_of Title = words.Title
word_of (Operations n) = words.Operations
word_of (Workers n) = words.Workers
word_of (Budget n) = words.Budget
word_of (Cost i c) = words.Cost
word_of (Step (Claim w i)) = words.Claim
word_of (Step (Charge w i c)) = words.Charge
word_of (Step (Publish w i)) = words.Publish
word_of (Step (Release w i k)) = words.Release
word_of (Step (Stop w)) = words.End
word_of End = words.End

goes_on : (w : Word) (text numbers rest : List ℕ) (y : Line × List ℕ) → text ≡ word_text w ++ numbers → body_at w (numbers ++ rest) ≡ Some y → line_at (text ++ rest) ≡ Some y
unfolding line_at
goes_on w text numbers rest y t e =
    ap (λ (x : List ℕ). word_at (x ++ rest) >>= λ v. body_at v.0 v.1) t
    ∙ ap (λ (x : List ℕ). word_at x >>= λ v. body_at v.0 v.1) (append_assoc (word_text w) numbers rest)
    ∙ rw (word_again w (numbers ++ rest)) e

pub line_again : (l : Line) (rest : List ℕ) → IsLine l → line_at (line_text l ++ rest) ≡ Some (l, rest)
unfolding line_at body_at
line_again Title rest h = rw (word_again words.Title rest) refl
line_again End rest h = rw (word_again words.End rest) refl
line_again (Operations n) rest h = goes_on words.Operations _ (one_number n) rest _ refl (rw (one_again most_32 n rest (omega arith) (omega arith)) refl)
line_again (Workers n) rest h = goes_on words.Workers _ (one_number n) rest _ refl (rw (one_again most_32 n rest (omega arith) (omega arith)) refl)
line_again (Budget n) rest h = goes_on words.Budget _ (one_number n) rest _ refl (rw (one_again most_64 n rest (omega arith) (omega arith)) refl)
line_again (Cost i c) rest h = goes_on words.Cost _ (two_numbers i c) rest _ refl (rw (two_again most_64 i c rest (omega arith) (omega (arith, h.0)) (omega (arith, h.1))) refl)
line_again (Step (Claim w i)) rest h = goes_on words.Claim _ (two_numbers w i) rest _ refl (rw (two_again most_32 w i rest (omega arith) (omega (arith, h.0)) (omega (arith, h.1))) refl)
line_again (Step (Charge w i c)) rest h = goes_on words.Charge _ (three_numbers w i c) rest _ refl (rw (three_again most_64 w i c rest (omega arith) (omega (arith, h.0)) (omega (arith, h.1)) (omega (arith, h.2))) refl)
line_again (Step (Publish w i)) rest h = goes_on words.Publish _ (two_numbers w i) rest _ refl (rw (two_again most_32 w i rest (omega arith) (omega (arith, h.0)) (omega (arith, h.1))) refl)
line_again (Step (Release w i k)) rest h = goes_on words.Release _ (three_numbers w i k) rest _ refl (rw (three_again most_32 w i k rest (omega arith) (omega (arith, h.0)) (omega (arith, h.1)) (omega (arith, h.2))) refl)
line_again (Step (Stop w)) rest h = absurd h

pub begun_again : (text : List ℕ) (l : Line) (rest : List ℕ) → Begins text l rest → line_at text ≡ Some (l, rest)
begun_again text l rest b = ap line_at b.parts ∙ line_again l rest b.line

pub one_line : (text : List ℕ) (k l : Line) (a b : List ℕ) → Begins text k a → Begins text l b → (k ≡ l) × (a ≡ b)
one_line text k l a b p q =
    let e : (k, a) ≡ (l, b) = same_Some (k, a) (l, b) (sym (begun_again text k a p) ∙ begun_again text l b q) in
    (ap (λ (x : Line × List ℕ). x.0) e, ap (λ (x : Line × List ℕ). x.1) e)

-- what a function that reads gives, said of lines
pub found_begins : (text : List ℕ) (o : Option (Line × Bor (List ℕ))) → Gives (λ x. (x.0, x.1.now)) o (line_at text) → IfSome o (λ x. Begins text x.0 x.1.now)
found_begins text None g = tt
found_begins text (Some x) g = line_takes text x.0 x.1.now g

nothing_found : (y : Line × List ℕ) → None ≡ Some y → ⊥
nothing_found y e = cc

pub none_begins : (text : List ℕ) (o : Option (Line × Bor (List ℕ))) → Gives (λ x. (x.0, x.1.now)) o (line_at text) → IfNone o ((l : Line) (rest : List ℕ) → Begins text l rest → ⊥)
none_begins text None g = λ l rest b. nothing_found (l, rest) (sym g ∙ begun_again text l rest b)
none_begins text (Some x) g = tt
