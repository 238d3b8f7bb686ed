-- How many round brackets are open, token by token, and how deep a tree may be.
use Rattle.std.proofs.Common.{◌≡◌, ℕ, suc, ◌+◌, ◌<◌, ◌≤◌, max, Bool, true, ◌&&◌, List, [], ◌∷◌, ◌++◌, refl, sym, ap, subst, ◌∙◌, arith}
use Rattle.std.proofs.lemmas.Bool.{and_parts}
use Rattle.deck_tree.specs.WellFormed.{most_nested}
use Rattle.deck_grammar.specs.declared.keyword.Keyword.{Keyword}
use Rattle.deck_grammar.specs.declared.sign.Sign.TheVariants as s
use Rattle.deck_grammar.specs.declared.kind.Kind.{Kind}
use Rattle.deck_grammar.specs.declared.kind.Kind.TheVariants as kinds
use Rattle.deck_grammar.specs.Lexemes.{Lexeme, lexeme}
use Rattle.deck_grammar.specs.Refusals.{open_behind}
use Rattle.deck_cursor.proofs.Rounds.{Shallow, one_by_one}

-- from so many open brackets to so many, and none of them one too many
pub record Walks (n m : ℕ) (those : List Lexeme) : Type 0 where
  pub shallow : Shallow n those
  pub behind : open_behind n those ≡ m

pub walks_nil : (n : ℕ) → Walks n n []
walks_nil n = record { shallow = tt; behind = refl }

pub walks_more : (n m o : ℕ) (t : Lexeme) (more : List Lexeme) → Walks n m (t ∷ []) → Walks m o more → Walks n o (t ∷ more)
walks_more n m o t more first later = record {
  shallow = (first.shallow.0, subst (λ (k : ℕ). Shallow k more) (sym first.behind) later.shallow);
  behind = one_by_one n t more ∙ ap (λ (k : ℕ). open_behind k more) first.behind ∙ later.behind;
}

pub walks_then : (n m o : ℕ) (those more : List Lexeme) → Walks n m those → Walks m o more → Walks n o (those ++ more)
walks_then n m o [] more first later = subst (λ (k : ℕ). Walks k o more) (sym first.behind) later
walks_then n m o (t ∷ those) more first later =
    walks_more n (open_behind n (t ∷ [])) o t (those ++ more) (record { shallow = (first.shallow.0, tt); behind = refl })
    (walks_then (open_behind n (t ∷ [])) m o those more (record { shallow = first.shallow.1; behind = sym (one_by_one n t those) ∙ first.behind }) later)

-- a token of this kind is no round bracket
pub record Flat (k : Kind) : Type 0 where
  pub walks : (n at : ℕ) (bytes : List ℕ) → Walks n n (lexeme k at bytes ∷ [])

pub flat_keyword : (k : Keyword) → Flat (kinds.Keyword k)
flat_keyword k = record { walks = λ n at bytes. record { shallow = (λ is. absurd (cc), tt); behind = refl } }

pub flat_name : Flat kinds.Name
flat_name = record { walks = λ n at bytes. record { shallow = (λ is. absurd (cc), tt); behind = refl } }

pub flat_number : Flat kinds.Number
flat_number = record { walks = λ n at bytes. record { shallow = (λ is. absurd (cc), tt); behind = refl } }

pub flat_text : Flat kinds.Text
flat_text = record { walks = λ n at bytes. record { shallow = (λ is. absurd (cc), tt); behind = refl } }

pub flat_note : Flat kinds.Note
flat_note = record { walks = λ n at bytes. record { shallow = (λ is. absurd (cc), tt); behind = refl } }

pub opens : (n at : ℕ) (bytes : List ℕ) → n < most_nested → Walks n (suc n) (lexeme (kinds.Sign s.LeftRound) at bytes ∷ [])
opens n at bytes below = record { shallow = (λ is full. omega arith, tt); behind = refl }

pub closes_again : (n at : ℕ) (bytes : List ℕ) → Walks (suc n) n (lexeme (kinds.Sign s.RightRound) at bytes ∷ [])
closes_again n at bytes = record { shallow = (λ is. absurd (cc), tt); behind = omega arith }

-- ---- How deep a tree may be

-- a test holds, and so many brackets inside so many open ones are not too many
pub record Fits (formed : Bool) (depth n : ℕ) : Type 0 where
  pub is : formed ≡ true
  pub room : n + depth ≤ most_nested

pub unrolled : {f g : Bool} {d e : ℕ} (n : ℕ) → f ≡ g → d ≡ e → Fits f d n → Fits g e n
unrolled n formed depth fits = record { is = sym formed ∙ fits.is; room = subst (λ (k : ℕ). n + k ≤ most_nested) depth fits.room }

pub both_fit : (f g : Bool) (d e n : ℕ) → Fits (f && g) (max d e) n → Fits f d n × Fits g e n
both_fit f g d e n fits =
    let both = and_parts f g fits.is in
    (record { is = both.0; room = omega (arith, fits.room) }, record { is = both.1; room = omega (arith, fits.room) })

-- inside a bracket
pub inside : (f : Bool) (d n : ℕ) → Fits f (suc d) n → Fits f d (suc n)
inside f d n fits = record { is = fits.is; room = omega (arith, fits.room) }

pub may_open : (f : Bool) (d n : ℕ) → Fits f (suc d) n → n < most_nested
may_open f d n fits = omega (arith, fits.room)
