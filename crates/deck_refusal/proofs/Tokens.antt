-- Tokens one after the other.
use Rattle.std.proofs.Common.{◌≡◌, ℕ, ◌<◌, ◌≤◌, List, [], ◌∷◌, ◌++◌, length, drop, Option, Some, None, Result, Ok, Err, sym, subst, append_assoc, append-nil}
use Rattle.std.specs.Prelude.{IfSome, IfNone}
use Rattle.deck_lexer.specs.declared.token.Token.{Token}
use Rattle.deck_lexer.specs.declared.token.LexFault.{LexFault}
use Rattle.deck_lexer.specs.Tokens.{Comes, Lexes, lexes, IsFirstFact}
use Rattle.deck_lexer.proofs.TokenLaws.{token_ends}
use Rattle.deck_cursor.specs.Inside.{IsUpcoming}
use Rattle.deck_refusal.specs.Working.Walking.{LexedTo}

pub none_yet : (text : List ℕ) → LexedTo text 0 []
none_yet text more last h = h

pub one_more : (text : List ℕ) (at : ℕ) (before : List Token) (t : Token) → LexedTo text at before
    → Comes at (drop at text) (Ok (Some t))
    → LexedTo text t.end (before ++ t ∷ [])
one_more text at before t lexed comes more last h =
    let P : List Token → Type 0 = λ those. Lexes text 0 those last in
    subst P (sym (append_assoc before (t ∷ []) more)) (lexed (t ∷ more) last (comes, h))

pub none_more : (text : List ℕ) (at : ℕ) (before : List Token) (last : Result (Option Token) LexFault)
    → LexedTo text at before → Comes at (drop at text) last
    → Lexes text 0 before last
none_more text at before last lexed comes =
    let P : List Token → Type 0 = λ those. Lexes text 0 those last in subst P (append-nil before) (lexed [] last comes)

-- ---- The walk for the first fact

-- the text has tokens up to the offset
abbrev pub Lexed : List ℕ → ℕ → Type 0
Lexed text at = (at ≤ length text) × ((before : List Token) × LexedTo text at before)

upcoming_ends : (text : List ℕ) (at : ℕ) (t : Token) → IsUpcoming text at (Some t) → at < t.end
upcoming_ends text at t u = token_ends text at t u.0

pub lexed_more : (text : List ℕ) (at : ℕ) (r : Option Token) (t : Token) → r ≡ Some t → IsUpcoming text at r
    → Lexed text at → Lexed text t.end
lexed_more text at r t e u l =
    let some : IsUpcoming text at (Some t) = subst (IsUpcoming text at) e u in
    (some.2, (l.1.0 ++ t ∷ [], one_more text at l.1.0 t l.1.1 some.0))

pub ends_behind : (text : List ℕ) (at : ℕ) (r : Option Token) (t : Token) → r ≡ Some t → IsUpcoming text at r
    → at < t.end
ends_behind text at r t e u = upcoming_ends text at t (subst (IsUpcoming text at) e u)

pub first_so : (text : List ℕ) (at : ℕ) (r : Option LexFault) → Lexed text at
    → IfSome r (λ f. Comes at (drop at text) (Err f))
    → IfSome r (λ f. IsFirstFact text f)
first_so text at (Some f) l h = (l.1.0, none_more text at l.1.0 (Err f) l.1.1 h)
first_so text at None l h = tt

pub none_so : (text : List ℕ) (at : ℕ) (r : Option LexFault) → Lexed text at
    → IfNone r (Comes at (drop at text) (Ok None))
    → IfNone r ((tokens : List Token) × lexes text tokens)
none_so text at (Some f) l h = tt
none_so text at None l h = (l.1.0, none_more text at l.1.0 (Ok None) l.1.1 h)
