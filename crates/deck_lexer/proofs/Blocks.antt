-- Comments that end with `*/`.
use Rattle.std.proofs.Common.{◌≡◌, ℕ, suc, ◌+◌, ◌-◌, ◌<◌, ◌≤◌, inl, inr, Bool, true, false, eqb, ◌&&◌, List, [], ◌∷◌, ◌++◌, length, drop, get_or, Option, Some, None, refl, sym, ap, ◌∙◌, arith, length-drop}
use Rattle.std.specs.Option.{option_map}
use Rattle.std.proofs.Math.Seq.{drop-cons}
use Rattle.std.proofs.lemmas.Bool.{and_parts, eqb-true, or_parts, or_from, and_right, cases_Bool}
use Rattle.deck_lexer.specs.Tokens.{has_end}
use Rattle.deck_lexer.specs.Working.Reading.{block_len}

-- is it `*/`?
abbrev pub ends : ℕ → ℕ → Bool
ends c d = eqb c 42 && eqb d 47

map_map : (o : Option ℕ) (i : ℕ) → option_map (λ n. n + i) (option_map suc o) ≡ option_map (λ n. n + (i + 1)) o
map_map None i = refl
map_map (Some n) i = ap (λ (m : ℕ). Some m) (omega arith)

pub block_step : (bytes : List ℕ) (i : ℕ) → i + 1 < length bytes → ends (get_or bytes i 0) (get_or bytes (i + 1) 0) ≡ false
    → option_map (λ n. n + i) (block_len (drop i bytes)) ≡ option_map (λ n. n + (i + 1)) (block_len (drop (i + 1) bytes))
block_step bytes i lt fails =
    let one : suc i ≡ i + 1 = omega arith in
    let here : i < length bytes = omega arith in
    let first : drop i bytes ≡ get_or bytes i 0 ∷ drop (i + 1) bytes = drop-cons bytes i 0 here ∙ ap (λ (k : ℕ). get_or bytes i 0 ∷ drop k bytes) one in
    let second : drop (i + 1) bytes ≡ get_or bytes (i + 1) 0 ∷ drop (suc (i + 1)) bytes = drop-cons bytes (i + 1) 0 lt in
    rw (first, second, fails) (map_map (block_len (get_or bytes (i + 1) 0 ∷ drop (suc (i + 1)) bytes)) i)

pub block_here : (bytes : List ℕ) (i : ℕ) → i + 1 < length bytes → ends (get_or bytes i 0) (get_or bytes (i + 1) 0) ≡ true
    → option_map (λ n. n + i) (block_len (drop i bytes)) ≡ Some (i + 2)
block_here bytes i lt holds =
    let one : suc i ≡ i + 1 = omega arith in
    let here : i < length bytes = omega arith in
    let first : drop i bytes ≡ get_or bytes i 0 ∷ drop (i + 1) bytes = drop-cons bytes i 0 here ∙ ap (λ (k : ℕ). get_or bytes i 0 ∷ drop k bytes) one in
    let second : drop (i + 1) bytes ≡ get_or bytes (i + 1) 0 ∷ drop (suc (i + 1)) bytes = drop-cons bytes (i + 1) 0 lt in
    rw (first, second, holds) (ap (λ (m : ℕ). Some m) (omega arith))

block_short : (bytes : List ℕ) → length bytes ≤ 1 → block_len bytes ≡ None
block_short [] few = refl
block_short (c ∷ []) few = refl
block_short (c ∷ d ∷ more) few = absurd (omega arith)

-- what a search from the front knows where it has come so far
abbrev pub SearchedTo : List ℕ → ℕ → Type 0
SearchedTo bytes i = option_map (λ n. n + i) (block_len (drop i bytes)) ≡ block_len bytes

pub searched_more : (bytes : List ℕ) (last : ℕ) → 1 ≤ last → last < length bytes → ends (get_or bytes (last - 1) 0) (get_or bytes last 0) ≡ false
    → SearchedTo bytes (last - 1) → SearchedTo bytes (last + 1 - 1)
searched_more bytes last low lt fails so_far =
    let next : last - 1 + 1 ≡ last = omega arith in
    let same : last + 1 - 1 ≡ last - 1 + 1 = omega arith in
    let here : ends (get_or bytes (last - 1) 0) (get_or bytes (last - 1 + 1) 0) ≡ false = rw next fails in
    let step = block_step bytes (last - 1) (omega arith) here in
    rw same (sym step ∙ so_far)

pub searched_all : (bytes : List ℕ) (last : ℕ) → 1 ≤ last → length bytes ≤ last → SearchedTo bytes (last - 1) → None ≡ block_len bytes
searched_all bytes last low all so_far =
    let none : block_len (drop (last - 1) bytes) ≡ None = block_short (drop (last - 1) bytes) (omega (arith, length-drop (last - 1) bytes)) in
    rw none at so_far

pub searched_here : (bytes : List ℕ) (last : ℕ) → 1 ≤ last → last < length bytes → ends (get_or bytes (last - 1) 0) (get_or bytes last 0) ≡ true
    → SearchedTo bytes (last - 1) → Some (last + 1) ≡ block_len bytes
searched_here bytes last low lt holds so_far =
    let next : last - 1 + 1 ≡ last = omega arith in
    let here : ends (get_or bytes (last - 1) 0) (get_or bytes (last - 1 + 1) 0) ≡ true = rw next holds in
    let found = block_here bytes (last - 1) (omega arith) here in
    let n : last - 1 + 2 ≡ last + 1 = omega arith in
    rw n at (sym found ∙ so_far)

-- ---- What such a comment is

some_suc : (o : Option ℕ) (n : ℕ) → option_map suc o ≡ Some n → (m : ℕ) × (o ≡ Some m) × (n ≡ suc m)
some_suc None n e = absurd cc
some_suc (Some m) n e = (m, refl, cc)

none_suc : (o : Option ℕ) → option_map suc o ≡ None → o ≡ None
none_suc None e = refl
none_suc (Some m) e = absurd cc

-- the bytes are those of a comment, its end and more
pub record TakesBlock (bytes : List ℕ) (n : ℕ) : Type 0 where
  pub body : List ℕ
  pub more : List ℕ
  pub whole : bytes ≡ body ++ 42 ∷ 47 ∷ more
  pub size : n ≡ length body + 2
  pub no_end : has_end body ≡ false

one_longer : (c d : ℕ) (more body : List ℕ) (rest : List ℕ) → d ∷ more ≡ body ++ rest → ends c d ≡ false → has_end body ≡ false → has_end (c ∷ body) ≡ false
one_longer c d more [] rest whole fails fine = refl
one_longer c d more (e ∷ body) rest whole fails fine =
    let same : e ≡ d = cc in
    or_from (ends c e) (has_end (e ∷ body)) (rw same fails) fine

pub block_takes : (bytes : List ℕ) (n : ℕ) → block_len bytes ≡ Some n → TakesBlock bytes n
block_takes [] n e = absurd cc
block_takes (c ∷ []) n e = absurd cc
block_takes (c ∷ d ∷ more) n e =
    elim (cases_Bool (ends c d)) [
      | inl holds ↦
          let both = and_parts (eqb c 42) (eqb d 47) holds in
          let star : c ≡ 42 = eqb-true c 42 both.0 in
          let slash : d ≡ 47 = eqb-true d 47 both.1 in
          let two : Some 2 ≡ Some n = rw holds at e in
          record { body = []; more = more; whole = cc; size = cc; no_end = refl }
      | inr fails ↦
          let later : option_map suc (block_len (d ∷ more)) ≡ Some n = rw fails at e in
          let found = some_suc (block_len (d ∷ more)) n later in
          let rest = block_takes (d ∷ more) found.0 found.1 in
          record {
            body = c ∷ rest.body;
            more = rest.more;
            whole = ap (λ (t : List ℕ). c ∷ t) rest.whole;
            size = omega (arith, found.2, rest.size);
            no_end = one_longer c d more rest.body _ rest.whole fails rest.no_end;
          }
    ]

pub block_none : (bytes : List ℕ) → block_len bytes ≡ None → has_end bytes ≡ false
block_none [] e = refl
block_none (c ∷ []) e = refl
block_none (c ∷ d ∷ more) e =
    elim (cases_Bool (ends c d)) [
      | inl holds ↦ let two : ◌≡◌ {A = Option ℕ} (Some 2) None = rw holds at e in absurd cc
      | inr fails ↦
          let later : option_map suc (block_len (d ∷ more)) ≡ None = rw fails at e in
          or_from (ends c d) (has_end (d ∷ more)) fails (block_none (d ∷ more) (none_suc (block_len (d ∷ more)) later))
    ]

pub no_block : (bytes : List ℕ) → has_end bytes ≡ false → block_len bytes ≡ None
no_block [] e = refl
no_block (c ∷ []) e = refl
no_block (c ∷ d ∷ more) e =
    let parts = or_parts (ends c d) (has_end (d ∷ more)) e in
    rw (parts.0, no_block (d ∷ more) parts.1) refl

and_right_no : (c : ℕ) → ends c 42 ≡ false
and_right_no c = and_right (eqb c 42) (eqb 42 47) refl

-- a body without `*/`, and then one
pub block_again : (body more : List ℕ) → has_end body ≡ false → block_len (body ++ 42 ∷ 47 ∷ more) ≡ Some (length body + 2)
block_again [] more fine = refl
block_again (c ∷ []) more fine =
    let fails : ends c 42 ≡ false = and_right_no c in
    rw fails refl
block_again (c ∷ d ∷ body) more fine =
    let parts = or_parts (ends c d) (has_end (d ∷ body)) fine in
    rw (parts.0, block_again (d ∷ body) more parts.1) (ap (λ (m : ℕ). Some m) (omega arith))
