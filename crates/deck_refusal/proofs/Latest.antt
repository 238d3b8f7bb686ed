-- The kinds of the last tokens, and what tokens end in.
use Rattle.std.proofs.Common.{◌≡◌, ℕ, ◌+◌, ◌-◌, ◌≤◌, ◌&&◌, true, List, [], ◌∷◌, ◌++◌, map, reverse, length, take, drop, refl, sym, ap, ◌∙◌, append_assoc, arith, lit≤}
use Rattle.std.proofs.lemmas.Bool.{and_parts}
use Rattle.std.proofs.lemmas.List.{reverse-append, reverse-reverse, take-append-drop, drop_at, drop-map, map-append, take-take, length-reverse}
use Rattle.std.proofs.Math.Seq.{take-append-add}
use Rattle.deck_grammar.specs.declared.kind.Kind.{Kind}
use Rattle.deck_grammar.specs.Lexemes.{Lexeme, lexeme, kind}
use Rattle.deck_grammar.specs.Refusals.{EndsIn}
use Rattle.deck_grammar.specs.Working.Numbers.{same_kind}
use Rattle.deck_grammar.proofs.Numbering.{same_is, is_same}
use Rattle.deck_refusal.specs.Working.Recent.{latest, begins_with}

-- ---- Lists that begin with others

begins : (those kinds : List Kind) → begins_with those kinds ≡ true → (rest : List Kind) × (kinds ≡ those ++ rest)
begins [] kinds h = (kinds, refl)
begins (one ∷ those) [] h = absurd (cc)
begins (one ∷ those) (k ∷ kinds) h =
    let both = and_parts (same_kind k one) (begins_with those kinds) h in
    let is : k ≡ one = same_is k one both.0 in
    let r = begins those kinds both.1 in
    (r.0, ap (λ x. x ∷ kinds) is ∙ ap (λ x. one ∷ x) r.1)

begun : (those rest : List Kind) → begins_with those (those ++ rest) ≡ true
begun [] rest = refl
begun (one ∷ those) rest = ap (λ b. b && begins_with those (those ++ rest)) (is_same one one refl) ∙ begun those rest

-- ---- One token more

pub latest_more : (before : List Lexeme) (k : Kind) (at : ℕ) (bytes : List ℕ)
    → latest (before ++ lexeme k at bytes ∷ []) ≡ take 7 (k ∷ latest before)
latest_more before k at bytes =
    let all = reverse (map kind before) in
    let turned : reverse (map kind (before ++ lexeme k at bytes ∷ [])) ≡ k ∷ all =
    ap reverse (map-append kind before (lexeme k at bytes ∷ [])) ∙ reverse-append (map kind before) (k ∷ []) in
    ap (take 7) turned ∙ sym (ap (λ those. k ∷ those) (take-take 6 7 all (lit≤ tt)))

-- ---- What tokens end in

-- the kinds of the last tokens, from their end
pub ends_in : (before : List Lexeme) (those : List Kind) → begins_with those (latest before) ≡ true
    → EndsIn before (reverse those)
ends_in before those h =
    let all = reverse (map kind before) in
    let b = begins those (take 7 all) h in
    let rest = b.0 ++ drop 7 all in
    let whole : all ≡ those ++ rest = sym (take-append-drop 7 all) ∙ (ap (λ front. front ++ drop 7 all) b.1
    ∙ append_assoc those b.0 (drop 7 all)) in
    let kinds : map kind before ≡ reverse rest ++ reverse those = sym (reverse-reverse (map kind before))
    ∙ (ap reverse whole ∙ reverse-append those rest) in
    let n = length (reverse rest) in (
      take n before,
      drop n before,
      sym (take-append-drop n before),
      sym (drop-map kind n before) ∙ (ap (drop n) kinds ∙ drop_at (reverse rest) (reverse those) n refl),
    )

pub ended_in : (before : List Lexeme) (those : List Kind) → length those ≤ 7 → EndsIn before those
    → begins_with (reverse those) (latest before) ≡ true
ended_in before those few e =
    let row = reverse those in
    let rest = reverse (map kind e.0) in
    let whole : reverse (map kind before) ≡ row ++ rest =
    ap reverse (ap (map kind) e.2 ∙ (map-append kind e.0 e.1 ∙ ap (λ last. map kind e.0 ++ last) e.3))
    ∙ reverse-append (map kind e.0) those in
    let size : 7 ≡ length row + (7 - length row) = omega (arith, length-reverse those) in
    let cut : latest before ≡ row ++ take (7 - length row) rest =
    ap (take 7) whole ∙ (ap (λ n. take n (row ++ rest)) size ∙ take-append-add row rest (7 - length row)) in
    ap (begins_with row) cut ∙ begun row (take (7 - length row) rest)
