-- Which tokens are set aside, by tests and by what the grammar says.
use Rattle.std.proofs.Common.{◌≡◌, inl, inr, ◌&&◌, ◌||◌, Bool, true, List, refl, sym, ap, ◌∙◌, lit≤}
use Rattle.std.specs.Prelude.{Contains}
use Rattle.std.proofs.lemmas.Bool.{cases_Bool, and_parts, and_from, or_right}
use Rattle.std.proofs.lemmas.List.Elements.{All-contains, All-from_recursion}
use Rattle.deck_grammar.specs.declared.keyword.Keyword.{Keyword}
use Rattle.deck_grammar.specs.declared.keyword.Keyword.TheVariants as k
use Rattle.deck_grammar.specs.declared.sign.Sign.{Sign}
use Rattle.deck_grammar.specs.declared.sign.Sign.TheVariants as s
use Rattle.deck_grammar.specs.declared.kind.Kind.{Kind}
use Rattle.deck_grammar.specs.declared.kind.Kind.TheVariants as kinds
use Rattle.deck_grammar.specs.Lexemes.{Lexeme}
use Rattle.deck_grammar.specs.Refusals.{infix_words, other_comparisons, comparisons, AwaitsPrimary, AwaitsBound, AwaitsMapNumber, IsSetAside, word, operation, bracket, comparison, mapped}
use Rattle.deck_refusal.specs.Working.Recent.{latest, begins_with_one}
use Rattle.deck_refusal.specs.Working.Ends.{bound_ends, map_ends}
use Rattle.deck_refusal.specs.Working.SetAside.{is_infix_word, is_other_comparison, is_comparison, comparison_is_set_aside, sign_is_set_aside, is_set_aside}
use Rattle.deck_refusal.proofs.Ended.{input_awaited, input_found, bound_awaited, bound_found, map_awaited, map_found}

as_infix : (x : Keyword) → is_infix_word x ≡ true → Contains infix_words x
as_infix k.Abut h = absurd (cc)
as_infix k.All h = absurd (cc)
as_infix k.And h = (0, lit≤ tt, refl)
as_infix k.Angle h = absurd (cc)
as_infix k.Append h = absurd (cc)
as_infix k.Area h = absurd (cc)
as_infix k.Ascii h = absurd (cc)
as_infix k.By h = absurd (cc)
as_infix k.Check h = absurd (cc)
as_infix k.Coincident h = (10, lit≤ tt, refl)
as_infix k.Copy h = absurd (cc)
as_infix k.Cut h = (8, lit≤ tt, refl)
as_infix k.Database h = absurd (cc)
as_infix k.DataType h = absurd (cc)
as_infix k.Drc h = absurd (cc)
as_infix k.Edge h = absurd (cc)
as_infix k.Enc h = absurd (cc)
as_infix k.Enclose h = (9, lit≤ tt, refl)
as_infix k.Expand h = absurd (cc)
as_infix k.Ext h = absurd (cc)
as_infix k.Gdsii h = absurd (cc)
as_infix k.Inside h = (4, lit≤ tt, refl)
as_infix k.Int h = absurd (cc)
as_infix k.Interact h = (6, lit≤ tt, refl)
as_infix k.Layer h = absurd (cc)
as_infix k.Layout h = absurd (cc)
as_infix k.Length h = absurd (cc)
as_infix k.Map h = absurd (cc)
as_infix k.Maximum h = absurd (cc)
as_infix k.Not h = (2, lit≤ tt, refl)
as_infix k.Notch h = absurd (cc)
as_infix k.Opposite h = absurd (cc)
as_infix k.Or h = (1, lit≤ tt, refl)
as_infix k.Outside h = (5, lit≤ tt, refl)
as_infix k.OverUnder h = absurd (cc)
as_infix k.Path h = absurd (cc)
as_infix k.Precision h = absurd (cc)
as_infix k.Primary h = absurd (cc)
as_infix k.Rectangle h = absurd (cc)
as_infix k.Region h = absurd (cc)
as_infix k.Replace h = absurd (cc)
as_infix k.Report h = absurd (cc)
as_infix k.Results h = absurd (cc)
as_infix k.Select h = absurd (cc)
as_infix k.Singular h = absurd (cc)
as_infix k.Size h = absurd (cc)
as_infix k.Space h = absurd (cc)
as_infix k.Square h = absurd (cc)
as_infix k.Summary h = absurd (cc)
as_infix k.System h = absurd (cc)
as_infix k.TextType h = absurd (cc)
as_infix k.Title h = absurd (cc)
as_infix k.Touch h = (7, lit≤ tt, refl)
as_infix k.UnderOver h = absurd (cc)
as_infix k.Unselect h = absurd (cc)
as_infix k.Variable h = absurd (cc)
as_infix k.Xor h = (3, lit≤ tt, refl)

infix_so : (x : Keyword) → Contains infix_words x → is_infix_word x ≡ true
infix_so x h = All-contains (λ y. is_infix_word y ≡ true) infix_words x (All-from_recursion (λ y. is_infix_word y
    ≡ true) infix_words (refl, (refl, (refl, (refl, (refl, (refl, (refl, (refl, (refl, (refl, (refl, tt)))))))))))) h

as_other : (x : Sign) → is_other_comparison x ≡ true → Contains other_comparisons x
as_other s.LeftBrace h = absurd (cc)
as_other s.RightBrace h = absurd (cc)
as_other s.LeftRound h = absurd (cc)
as_other s.RightRound h = absurd (cc)
as_other s.LeftSquare h = absurd (cc)
as_other s.RightSquare h = absurd (cc)
as_other s.Equals h = absurd (cc)
as_other s.EqualTo h = (2, lit≤ tt, refl)
as_other s.Less h = absurd (cc)
as_other s.LessOrEqual h = absurd (cc)
as_other s.Greater h = (0, lit≤ tt, refl)
as_other s.GreaterOrEqual h = (1, lit≤ tt, refl)
as_other s.NotEqual h = (3, lit≤ tt, refl)
as_other s.Plus h = absurd (cc)
as_other s.Minus h = absurd (cc)
as_other s.Times h = absurd (cc)
as_other s.Over h = absurd (cc)
as_other s.Modulo h = absurd (cc)
as_other s.Power h = absurd (cc)

other_so : (x : Sign) → Contains other_comparisons x → is_other_comparison x ≡ true
other_so x h = All-contains (λ y. is_other_comparison y
    ≡ true) other_comparisons x (All-from_recursion (λ y. is_other_comparison y
    ≡ true) other_comparisons (refl, (refl, (refl, (refl, tt))))) h

as_compared : (x : Sign) → is_comparison x ≡ true → Contains comparisons x
as_compared s.LeftBrace h = absurd (cc)
as_compared s.RightBrace h = absurd (cc)
as_compared s.LeftRound h = absurd (cc)
as_compared s.RightRound h = absurd (cc)
as_compared s.LeftSquare h = absurd (cc)
as_compared s.RightSquare h = absurd (cc)
as_compared s.Equals h = absurd (cc)
as_compared s.EqualTo h = (4, lit≤ tt, refl)
as_compared s.Less h = (0, lit≤ tt, refl)
as_compared s.LessOrEqual h = (1, lit≤ tt, refl)
as_compared s.Greater h = (2, lit≤ tt, refl)
as_compared s.GreaterOrEqual h = (3, lit≤ tt, refl)
as_compared s.NotEqual h = (5, lit≤ tt, refl)
as_compared s.Plus h = absurd (cc)
as_compared s.Minus h = absurd (cc)
as_compared s.Times h = absurd (cc)
as_compared s.Over h = absurd (cc)
as_compared s.Modulo h = absurd (cc)
as_compared s.Power h = absurd (cc)

compared_so : (x : Sign) → Contains comparisons x → is_comparison x ≡ true
compared_so x h = All-contains (λ y. is_comparison y
    ≡ true) comparisons x (All-from_recursion (λ y. is_comparison y
    ≡ true) comparisons (refl, (refl, (refl, (refl, (refl, (refl, tt))))))) h

-- ---- Comparisons

sign_set_aside : (before : List Lexeme) (x : Sign) → comparison_is_set_aside x (latest before) ≡ true
    → IsSetAside before (kinds.Sign x)
sign_set_aside before x h = elim (cases_Bool (is_other_comparison x && begins_with_one bound_ends (latest before))) [
  | inl is ↦
      let both = and_parts (is_other_comparison x) (begins_with_one bound_ends (latest before)) is in
      comparison x (as_other x both.0) (bound_awaited before both.1)
  | inr isnt ↦
      let rest : (is_comparison x && begins_with_one map_ends (latest before)) ≡ true =
      sym (ap (λ b. b || (is_comparison x && begins_with_one map_ends (latest before))) isnt) ∙ h in
      let both = and_parts (is_comparison x) (begins_with_one map_ends (latest before)) rest in
      mapped x (as_compared x both.0) (map_awaited before both.1)
]

by_bound : (before : List Lexeme) (x : Sign) → Contains other_comparisons x → AwaitsBound before
    → comparison_is_set_aside x (latest before) ≡ true
by_bound before x is awaits =
    ap (λ b. b || (is_comparison x && begins_with_one map_ends (latest before)))
    (and_from (is_other_comparison x) (begins_with_one bound_ends (latest before)) (other_so x is) (bound_found
    before awaits))

by_map : (before : List Lexeme) (x : Sign) → Contains comparisons x → AwaitsMapNumber before
    → comparison_is_set_aside x (latest before) ≡ true
by_map before x is awaits =
    or_right (is_other_comparison x && begins_with_one bound_ends (latest before)) (is_comparison x &&
    begins_with_one map_ends (latest before))
    (and_from (is_comparison x) (begins_with_one map_ends (latest before)) (compared_so x is) (map_found before
    awaits))

-- a sign that is a comparison is no bracket
as_comparison : (recent : List Kind) (x : Sign) → is_comparison x ≡ true → comparison_is_set_aside x recent ≡ true
    → sign_is_set_aside x recent ≡ true
as_comparison recent s.LeftBrace is h = h
as_comparison recent s.RightBrace is h = h
as_comparison recent s.LeftRound is h = absurd (cc)
as_comparison recent s.RightRound is h = h
as_comparison recent s.LeftSquare is h = h
as_comparison recent s.RightSquare is h = h
as_comparison recent s.Equals is h = h
as_comparison recent s.EqualTo is h = h
as_comparison recent s.Less is h = h
as_comparison recent s.LessOrEqual is h = h
as_comparison recent s.Greater is h = h
as_comparison recent s.GreaterOrEqual is h = h
as_comparison recent s.NotEqual is h = h
as_comparison recent s.Plus is h = h
as_comparison recent s.Minus is h = h
as_comparison recent s.Times is h = h
as_comparison recent s.Over is h = h
as_comparison recent s.Modulo is h = h
as_comparison recent s.Power is h = h

other_compared : (x : Sign) → is_other_comparison x ≡ true → is_comparison x ≡ true
other_compared s.LeftBrace h = h
other_compared s.RightBrace h = h
other_compared s.LeftRound h = h
other_compared s.RightRound h = h
other_compared s.LeftSquare h = h
other_compared s.RightSquare h = h
other_compared s.Equals h = h
other_compared s.EqualTo h = refl
other_compared s.Less h = refl
other_compared s.LessOrEqual h = refl
other_compared s.Greater h = refl
other_compared s.GreaterOrEqual h = refl
other_compared s.NotEqual h = refl
other_compared s.Plus h = h
other_compared s.Minus h = h
other_compared s.Times h = h
other_compared s.Over h = h
other_compared s.Modulo h = h
other_compared s.Power h = h

signs_set_aside : (before : List Lexeme) (x : Sign) → sign_is_set_aside x (latest before) ≡ true
    → IsSetAside before (kinds.Sign x)
signs_set_aside before s.LeftBrace h = sign_set_aside before s.LeftBrace h
signs_set_aside before s.RightBrace h = sign_set_aside before s.RightBrace h
signs_set_aside before s.LeftRound h = bracket (input_awaited before h)
signs_set_aside before s.RightRound h = sign_set_aside before s.RightRound h
signs_set_aside before s.LeftSquare h = sign_set_aside before s.LeftSquare h
signs_set_aside before s.RightSquare h = sign_set_aside before s.RightSquare h
signs_set_aside before s.Equals h = sign_set_aside before s.Equals h
signs_set_aside before s.EqualTo h = sign_set_aside before s.EqualTo h
signs_set_aside before s.Less h = sign_set_aside before s.Less h
signs_set_aside before s.LessOrEqual h = sign_set_aside before s.LessOrEqual h
signs_set_aside before s.Greater h = sign_set_aside before s.Greater h
signs_set_aside before s.GreaterOrEqual h = sign_set_aside before s.GreaterOrEqual h
signs_set_aside before s.NotEqual h = sign_set_aside before s.NotEqual h
signs_set_aside before s.Plus h = sign_set_aside before s.Plus h
signs_set_aside before s.Minus h = sign_set_aside before s.Minus h
signs_set_aside before s.Times h = sign_set_aside before s.Times h
signs_set_aside before s.Over h = sign_set_aside before s.Over h
signs_set_aside before s.Modulo h = sign_set_aside before s.Modulo h
signs_set_aside before s.Power h = sign_set_aside before s.Power h

-- ---- All kinds

pub set_aside_is : (before : List Lexeme) (may_start : Bool) (x : Kind) → (may_start ≡ true → AwaitsPrimary before)
    → is_set_aside may_start (latest before) x ≡ true
    → IsSetAside before x
set_aside_is before may_start kinds.SetAside may h = word
set_aside_is before may_start (kinds.Keyword w) may h =
    let both = and_parts (is_infix_word w) may_start h in operation w (as_infix w both.0) (may both.1)
set_aside_is before may_start (kinds.Sign x) may h = signs_set_aside before x h
set_aside_is before may_start kinds.Name may h = absurd (cc)
set_aside_is before may_start kinds.Number may h = absurd (cc)
set_aside_is before may_start kinds.Text may h = absurd (cc)
set_aside_is before may_start kinds.Note may h = absurd (cc)

pub is_set_aside_so : (before : List Lexeme) (may_start : Bool) (x : Kind) → (AwaitsPrimary before
    → may_start ≡ true) → IsSetAside before x
    → is_set_aside may_start (latest before) x ≡ true
is_set_aside_so before may_start kinds.SetAside may word = refl
is_set_aside_so before may_start (kinds.Keyword w) may (operation first is awaits) =
    and_from (is_infix_word w) may_start (infix_so w is) (may awaits)
is_set_aside_so before may_start (kinds.Sign s.LeftRound) may (bracket awaits) = input_found before awaits
is_set_aside_so before may_start (kinds.Sign x) may (comparison sign is awaits) =
    as_comparison (latest before) x (other_compared x (other_so x is)) (by_bound before x is awaits)
is_set_aside_so before may_start (kinds.Sign x) may (mapped sign is awaits) =
    as_comparison (latest before) x (compared_so x is) (by_map before x is awaits)
is_set_aside_so before may_start kinds.Name may aside = elim aside [ ]
is_set_aside_so before may_start kinds.Number may aside = elim aside [ ]
is_set_aside_so before may_start kinds.Text may aside = elim aside [ ]
is_set_aside_so before may_start kinds.Note may aside = elim aside [ ]
