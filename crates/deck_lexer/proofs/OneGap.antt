-- One gap stands at the front of a text, and one answer behind it.
use Rattle.std.proofs.Common.{◌≡◌, ℕ, suc, zero, ◌+◌, ◌-◌, ◌<◌, ◌≤◌, inl, inr, true, false, cond, eqb, List, [], ◌∷◌, ◌++◌, length, take, drop, Option, Result, refl, sym, ap, subst, ◌∙◌, arith, append_assoc, length-append, length-drop}
use Rattle.std.specs.List.{prefix_len, list_all, AllByRecursion}
use Rattle.std.proofs.lemmas.Bool.{lt-ltb, le-ltb, ne_eqb}
use Rattle.std.proofs.lemmas.List.{drop_at, append-nil, take-append-drop, length-take-le, nil_from_length}
use Rattle.deck_lexer.specs.declared.token.Token.{Token}
use Rattle.deck_lexer.specs.declared.token.LexFault.{LexFault}
use Rattle.deck_lexer.specs.Bytes.{is_in_line}
use Rattle.deck_lexer.specs.Tokens.{Part, Blank, Line, Block, part_text, parts_text, IsPart, IsGap, StandsAt, Comes}
use Rattle.deck_lexer.specs.Working.Reading.{line_len, part_len, standing}
use Rattle.deck_lexer.specs.Working.Gaps.{Passes}
use Rattle.deck_lexer.proofs.Spans.{span_len}
use Rattle.deck_lexer.proofs.Blocks.{block_again}
use Rattle.deck_lexer.proofs.Gaps.{pass_part, pass_nothing, from_place, drop_behind}
use Rattle.deck_lexer.proofs.Fronts.{stands}
use Rattle.deck_lexer.proofs.OneAnswer.{only, no_more_gap}

-- ---- The length of a gap's first part

line_again : (body rest : List ℕ) → list_all is_in_line body ≡ true → line_len ((body ++ 10 ∷ []) ++ rest) ≡ length body + 1
line_again body rest fine =
    let text : (body ++ 10 ∷ []) ++ rest ≡ body ++ 10 ∷ rest = append_assoc body (10 ∷ []) rest in
    let len : prefix_len is_in_line (body ++ 10 ∷ rest) ≡ length body = span_len is_in_line body (10 ∷ rest) fine refl in
    let less : prefix_len is_in_line (body ++ 10 ∷ rest) < length (body ++ 10 ∷ rest) = omega (arith, len, length-append body (10 ∷ rest)) in
    rw (text, lt-ltb _ _ less) (ap (λ (n : ℕ). n + 1) len)

last_again : (body : List ℕ) → list_all is_in_line body ≡ true → line_len body ≡ length body
last_again body fine =
    let len : prefix_len is_in_line body ≡ length body = ap (prefix_len is_in_line) (sym (append-nil body)) ∙ span_len is_in_line body [] fine tt in
    rw (le-ltb (prefix_len is_in_line body) (length body) (omega (arith, len))) len

part_again : (part : Part) (rest : List ℕ) → IsPart part → part_len (part_text part ++ rest) ≡ length (part_text part)
unfolding part_len
part_again (Blank c) rest is = rw is refl
part_again (Line body) rest is = ap (λ (n : ℕ). n + 2) (line_again body rest is) ∙ omega (arith, length-append body (10 ∷ []))
part_again (Block body) rest is =
    let text : (body ++ 42 ∷ 47 ∷ []) ++ rest ≡ body ++ 42 ∷ 47 ∷ rest = append_assoc body (42 ∷ 47 ∷ []) rest in
    rw (text, block_again body rest is) (omega (arith, length-append body (42 ∷ 47 ∷ [])))

last_part : (body : List ℕ) → list_all is_in_line body ≡ true → part_len (47 ∷ 47 ∷ body) ≡ length (47 ∷ 47 ∷ body)
unfolding part_len
last_part body fine = ap (λ (n : ℕ). n + 2) (last_again body fine) ∙ omega arith

some_part : (part : Part) → 0 < length (part_text part)
some_part (Blank c) = omega arith
some_part (Line body) = omega arith
some_part (Block body) = omega arith

-- ---- The length of a gap

abbrev reach : ℕ → List ℕ → ℕ
reach zero bytes = 0
reach (suc f) bytes = cond (eqb (part_len bytes) 0) 0 (part_len bytes + reach f (drop (part_len bytes) bytes))

reach_stops : (f : ℕ) (rest : List ℕ) → part_len rest ≡ 0 → reach f rest ≡ 0
reach_stops zero rest none = refl
reach_stops (suc f) rest none = rw none refl

reach_goes : (f : ℕ) (bytes front rest : List ℕ) → bytes ≡ front ++ rest → part_len bytes ≡ length front → 0 < length front → reach (suc f) bytes ≡ length front + reach f rest
reach_goes f bytes front rest whole len some =
    let not_none : eqb (part_len bytes) 0 ≡ false = ne_eqb _ 0 (λ e. omega arith) in
    let behind : drop (part_len bytes) bytes ≡ rest = ap (drop (part_len bytes)) whole ∙ drop_at front rest (part_len bytes) (sym len) in
    rw (not_none, behind, len) refl

none_behind : part_len [] ≡ 0
unfolding part_len
none_behind = refl

abbrev Reaches : List ℕ → List ℕ → Type 0
Reaches gap rest = (f : ℕ) → length (gap ++ rest) ≤ f → length gap ≡ reach f (gap ++ rest)

reaches_more : (part : Part) (gap rest : List ℕ) → IsPart part → Reaches gap rest → Reaches (part_text part ++ gap) rest
reaches_more part gap rest is reaches = λ f enough. reaches_by f part gap rest is reaches enough
  where
    reaches_by : (f : ℕ) (part : Part) (gap rest : List ℕ) → IsPart part → Reaches gap rest → length ((part_text part ++ gap) ++ rest) ≤ f
        → length (part_text part ++ gap) ≡ reach f ((part_text part ++ gap) ++ rest)
    reaches_by zero part gap rest is reaches enough =
        absurd (omega (arith, some_part part, length-append (part_text part ++ gap) rest, length-append (part_text part) gap))
    reaches_by (suc f) part gap rest is reaches enough =
        let text : (part_text part ++ gap) ++ rest ≡ part_text part ++ (gap ++ rest) = append_assoc (part_text part) gap rest in
        let len : part_len ((part_text part ++ gap) ++ rest) ≡ length (part_text part) = ap part_len text ∙ part_again part (gap ++ rest) is in
        let goes = reach_goes f ((part_text part ++ gap) ++ rest) (part_text part) (gap ++ rest) text len (some_part part) in
        let later : length gap ≡ reach f (gap ++ rest) =
        reaches f (omega (arith, enough, some_part part, ap length text, length-append (part_text part) (gap ++ rest))) in
        omega (arith, goes, later, length-append (part_text part) gap)

reaches_last : (body : List ℕ) → list_all is_in_line body ≡ true → (f : ℕ) → length ((47 ∷ 47 ∷ body) ++ []) ≤ f → length (47 ∷ 47 ∷ body) ≡ reach f ((47 ∷ 47 ∷ body) ++ [])
reaches_last body fine zero enough = absurd (omega arith)
reaches_last body fine (suc f) enough =
    let text : (47 ∷ 47 ∷ body) ++ [] ≡ 47 ∷ 47 ∷ body = append-nil (47 ∷ 47 ∷ body) in
    let len : part_len ((47 ∷ 47 ∷ body) ++ []) ≡ length (47 ∷ 47 ∷ body) = ap part_len text ∙ last_part body fine in
    let goes = reach_goes f ((47 ∷ 47 ∷ body) ++ []) (47 ∷ 47 ∷ body) [] refl len (omega arith) in
    omega (arith, goes, reach_stops f [] none_behind)

parts_reach : (parts : List Part) (rest : List ℕ) → AllByRecursion IsPart parts → part_len rest ≡ 0 → Reaches (parts_text parts) rest
parts_reach [] rest each none = λ f enough. sym (reach_stops f rest none)
parts_reach (part ∷ parts) rest each none = reaches_more part (parts_text parts) rest each.0 (parts_reach parts rest each.1 none)

last_reach : (parts : List Part) (body : List ℕ) → AllByRecursion IsPart parts → list_all is_in_line body ≡ true → Reaches (parts_text parts ++ 47 ∷ 47 ∷ body) []
last_reach [] body each fine = reaches_last body fine
last_reach (part ∷ parts) body each fine =
    subst (λ (t : List ℕ). Reaches t []) (sym (append_assoc (part_text part) (parts_text parts) (47 ∷ 47 ∷ body)))
    (reaches_more part (parts_text parts ++ 47 ∷ 47 ∷ body) [] each.0 (last_reach parts body each.1 fine))

gap_reaches : (gap rest : List ℕ) → IsGap gap rest → part_len rest ≡ 0 → Reaches gap rest
gap_reaches gap rest (parts, each, inl whole) none = subst (λ (t : List ℕ). Reaches t rest) (sym whole) (parts_reach parts rest each none)
gap_reaches gap rest (parts, each, inr last) none =
    subst (λ (t : List ℕ). Reaches gap t) (sym last.3) (subst (λ (t : List ℕ). Reaches t []) (sym last.2) (last_reach parts last.0 each last.1))

-- ---- One answer comes

same_length : (gap rest gap' rest' bytes : List ℕ) → bytes ≡ gap ++ rest → bytes ≡ gap' ++ rest' → IsGap gap rest → IsGap gap' rest' → part_len rest ≡ 0 → part_len rest' ≡ 0 → length gap ≡ length gap'
same_length gap rest gap' rest' bytes whole whole' is is' none none' =
    let one : length gap ≡ reach (length bytes) (gap ++ rest) = gap_reaches gap rest is none (length bytes) (omega (arith, ap length whole)) in
    let other : length gap' ≡ reach (length bytes) (gap' ++ rest') = gap_reaches gap' rest' is' none' (length bytes) (omega (arith, ap length whole')) in
    one ∙ ap (reach (length bytes)) (sym whole ∙ whole') ∙ sym other

pub one_comes : (at : ℕ) (bytes : List ℕ) (a b : Result (Option Token) LexFault) → Comes at bytes a → Comes at bytes b → a ≡ b
one_comes at bytes a b one other =
    let size = same_length one.gap one.behind other.gap other.behind bytes one.whole other.whole one.is_gap other.is_gap (no_more_gap _ _ a one.stands) (no_more_gap _ _ b other.stands) in
    let behind : one.behind ≡ other.behind =
    sym (drop_at one.gap one.behind (length one.gap) refl) ∙ ap (drop (length one.gap)) (sym one.whole ∙ other.whole) ∙ drop_at other.gap other.behind (length one.gap) (sym size) in
    only (at + length one.gap) one.behind a one.stands
    ∙ ap (λ (n : ℕ). standing (at + n) one.behind) size
    ∙ ap (standing (at + length other.gap)) behind
    ∙ sym (only (at + length other.gap) other.behind b other.stands)

-- ---- Some answer comes

-- behind a gap that goes no further comes what stands there
pub comes_behind : (at n : ℕ) (bytes : List ℕ) → Passes bytes n → Comes at bytes (standing (at + n) (drop n bytes))
comes_behind at n bytes passes =
    let size : length (take n bytes) ≡ n = length-take-le n bytes passes.within in
    record {
      gap = take n bytes;
      behind = drop n bytes;
      whole = sym (take-append-drop n bytes);
      is_gap = passes.is_gap;
      stands = subst (λ (k : ℕ). StandsAt (at + k) (drop n bytes) (standing (at + n) (drop n bytes))) (sym size) (stands (at + n) (drop n bytes) passes.goes_no_further);
    }

passes_by : (f : ℕ) → ((bytes : List ℕ) → length bytes ≤ f → (n : ℕ) × Passes bytes n) → (bytes : List ℕ) (n : ℕ) → part_len bytes ≡ n → length bytes ≤ suc f → (n : ℕ) × Passes bytes n
passes_by f later bytes zero e few = (0, pass_nothing bytes e)
passes_by f later bytes (suc n) e few =
    let rest = later (drop (part_len bytes) bytes) (omega (arith, few, e, length-drop (part_len bytes) bytes)) in
    (part_len bytes + rest.0, pass_part bytes rest.0 (omega (arith, e)) rest.1)

passes_some : (f : ℕ) (bytes : List ℕ) → length bytes ≤ f → (n : ℕ) × Passes bytes n
passes_some zero bytes few =
    let nothing : bytes ≡ [] = nil_from_length bytes (omega (arith, few)) in
    (0, pass_nothing bytes (ap part_len nothing ∙ none_behind))
passes_some (suc f) bytes few = passes_by f (passes_some f) bytes (part_len bytes) refl few

pub some_comes : (at : ℕ) (bytes : List ℕ) → (answer : Result (Option Token) LexFault) × Comes at bytes answer
some_comes at bytes =
    let passes = passes_some (length bytes) bytes (omega arith) in
    (standing (at + passes.0) (drop passes.0 bytes), comes_behind at passes.0 bytes passes.1)

-- what the code does: the gap, and what stands behind it
pub comes_next : (text : List ℕ) (at gap : ℕ) (answer : Result (Option Token) LexFault) → Passes (take (length text - at) (drop at text)) gap
    → answer ≡ standing (at + gap) (take (length text - (at + gap)) (drop (at + gap) text)) → Comes at (drop at text) answer
comes_next text at gap answer passes is =
    let front : Passes (drop at text) gap = subst (λ (t : List ℕ). Passes t gap) (from_place text at) passes in
    let behind : take (length text - (at + gap)) (drop (at + gap) text) ≡ drop gap (drop at text) = from_place text (at + gap) ∙ drop_behind text at gap in
    let is' : standing (at + gap) (drop gap (drop at text)) ≡ answer = sym (is ∙ ap (standing (at + gap)) behind) in
    subst (λ (a : Result (Option Token) LexFault). Comes at (drop at text) a) is' (comes_behind at gap (drop at text) front)
