-- A list of tokens is refused in one way at most, and not where it is accepted.
use Rattle.std.proofs.Common.{◌≡◌, ℕ, List, [], ◌∷◌, ◌++◌, refl, ap, sym, subst, ◌∙◌, append_assoc, Contains, arith}
use Rattle.std.proofs.lemmas.List.Elements.{Contains-append_right}
use Rattle.std.proofs.lemmas.Option.{same_Some}
use Rattle.deck_tree.specs.declared.statement.Statement.{Statement}
use Rattle.deck_tree.specs.declared.refusal.Single.{Single}
use Rattle.deck_tree.specs.declared.refusal.DeckKind.{DeckKind}
use Rattle.deck_tree.specs.declared.refusal.DeckKind.TheVariants as reasons
use Rattle.deck_tree.specs.declared.refusal.DeckRefusal.{DeckRefusal}
use Rattle.deck_grammar.specs.Lexemes.{Lexeme, at}
use Rattle.deck_grammar.specs.Spelling.{SpellsDeck, Viable}
use Rattle.deck_grammar.specs.Refusals.{Stand, IsWrong, set_aside, no_place, too_deep, single_of, place_of, singles, wanted, IsMissing, StandOnce, IsRepeated, refusal_at, IsRefused, at_token, at_end, missing, repeated, IsAccepted}
use Rattle.deck_grammar.proofs.Fronts.{front_is_viable, viable_has_completion}
use Rattle.deck_grammar.proofs.Unique.{one_deck}

-- two places in one list: the same, or one before the other
pub data Places {X : Type 0} (front front' : List X) (x x' : X) : Type 0 where
  same : front ≡ front' → x ≡ x' → Places front front' x x'
  before : (between : List X) → front' ≡ front ++ x ∷ between → Places front front' x x'
  behind : (between : List X) → front ≡ front' ++ x' ∷ between → Places front front' x x'

more_places : {X : Type 0} {front front' : List X} {x x' : X} (y y' : X) → y ≡ y' → Places front front' x x' → Places (y ∷ front) (y' ∷ front') x x'
more_places y y' e (same p q) = same (cc) q
more_places y y' e (before between p) = before between (cc)
more_places y y' e (behind between p) = behind between (cc)

pub places : {X : Type 0} (front : List X) (x : X) (back front' : List X) (x' : X) (back' : List X) → front ++ x ∷ back ≡ front' ++ x' ∷ back'
    → Places front front' x x'
places [] x back [] x' back' e = same refl (cc)
places [] x back (y ∷ front') x' back' e = before front' (cc)
places (y ∷ front) x back [] x' back' e = behind front (cc)
places (y ∷ front) x back (y' ∷ front') x' back' e = more_places y y' (cc) (places front x back front' x' back' (cc))

pub here_is : {X : Type 0} (front : List X) (x : X) (back : List X) → Contains (front ++ x ∷ back) x
here_is front x back = Contains-append_right front (x ∷ back) x (0, omega arith, refl)

front_of_viable : (tokens more : List Lexeme) → Viable (tokens ++ more) → Viable tokens
front_of_viable tokens more v =
    let c = viable_has_completion (tokens ++ more) v in
    front_is_viable tokens (more ++ c.0) c.1 (let P : List Lexeme → Type 0 = λ those. SpellsDeck those c.1 in subst P (append_assoc tokens more c.0) c.2)

viable_up_to : (all front : List Lexeme) (token : Lexeme) (back : List Lexeme) → Stand all → all ≡ front ++ token ∷ back → Viable (front ++ token ∷ [])
viable_up_to all front token back stand e =
    front_of_viable (front ++ token ∷ []) back (subst Viable (e ∙ sym (append_assoc front (token ∷ []) back)) stand.0)

-- where tokens stand, none among them is wrong
none_wrong : {reason : DeckKind} (all front : List Lexeme) (token : Lexeme) (back : List Lexeme) → Stand all → all ≡ front ++ token ∷ back
    → IsWrong front token reason → ⊥
none_wrong all front token back stand e (set_aside v s) = v (viable_up_to all front token back stand e)
none_wrong all front token back stand e (no_place v s) = v (viable_up_to all front token back stand e)
none_wrong all front token back stand e (too_deep v d) = stand.1 front token back e d

one_reason : (front : List Lexeme) (token : Lexeme) (a b : DeckKind) → IsWrong front token a → IsWrong front token b → a ≡ b
one_reason front token a b (set_aside v s) (set_aside v' s') = refl
one_reason front token a b (set_aside v s) (no_place v' s') = absurd (s' s)
one_reason front token a b (set_aside v s) (too_deep v' d) = absurd (v v')
one_reason front token a b (no_place v s) (set_aside v' s') = absurd (s s')
one_reason front token a b (no_place v s) (no_place v' s') = refl
one_reason front token a b (no_place v s) (too_deep v' d) = absurd (v v')
one_reason front token a b (too_deep v d) (set_aside v' s') = absurd (v' v)
one_reason front token a b (too_deep v d) (no_place v' s') = absurd (v' v)
one_reason front token a b (too_deep v d) (too_deep v' d') = refl

wrong_at : {reason : DeckKind} (front front' : List Lexeme) (token token' : Lexeme) → front ≡ front' → token ≡ token' → IsWrong front' token' reason → IsWrong front token reason
wrong_at {reason} front front' token token' p q w =
    let P : List Lexeme → Type 0 = λ those. IsWrong those token reason in
    let Q : Lexeme → Type 0 = λ it. IsWrong front' it reason in
    subst P (sym p) (subst Q (sym q) w)

same_refusal : (a b : ℕ) (x y : DeckKind) → a ≡ b → x ≡ y → refusal_at a x ≡ refusal_at b y
same_refusal a b x y p q = cc

tokens_refused_once : (tokens : List Lexeme) {a b : DeckKind} (front : List Lexeme) (token : Lexeme) (back : List Lexeme) → tokens ≡ front ++ token ∷ back
    → Stand front → IsWrong front token a → (front' : List Lexeme) (token' : Lexeme) (back' : List Lexeme) → tokens ≡ front' ++ token' ∷ back'
    → Stand front' → IsWrong front' token' b → refusal_at (at token) a ≡ refusal_at (at token') b
tokens_refused_once tokens {a} {b} front token back e stand w front' token' back' e' stand' w' =
    by (places front token back front' token' back' (sym e ∙ e'))
  where
    by : Places front front' token token' → refusal_at (at token) a ≡ refusal_at (at token') b
    by (same p q) = same_refusal (at token) (at token') a b (ap at q) (one_reason front token a b w (wrong_at front front' token token' p q w'))
    by (before between p) = absurd (none_wrong front' front token between stand' p w)
    by (behind between p) = absurd (none_wrong front front' token' between stand p w')

first_missing : (all : List Statement) (a b : Single) → IsMissing all a → IsMissing all b → a ≡ b
first_missing all a b m n = by (places m.before a m.behind n.before b n.behind (sym m.is_wanted ∙ n.is_wanted))
  where
    by : Places m.before n.before a b → a ≡ b
    by (same p q) = q
    by (before between p) = absurd (m.missing (n.earlier a (subst (λ those. Contains those a) (sym p) (here_is m.before a between))))
    by (behind between p) = absurd (n.missing (m.earlier b (subst (λ those. Contains those b) (sym p) (here_is n.before b between))))

not_missing : (all : List Statement) (which : Single) → IsMissing all which → ((one : Single) → Contains wanted one → Contains (singles all) one) → ⊥
not_missing all which m stand = m.missing (stand which (subst (λ those. Contains those which) (sym m.is_wanted) (here_is m.before which m.behind)))

first_repeated : (all : List Statement) (a b : Single) (place place' : ℕ) → IsRepeated all a place → IsRepeated all b place' → refusal_at place (reasons.RepeatedStatement a) ≡ refusal_at place' (reasons.RepeatedStatement b)
first_repeated all a b place place' m n = by (places m.before m.repeat m.behind n.before n.repeat n.behind (sym m.stands ∙ n.stands))
  where
    by : Places m.before n.before m.repeat n.repeat → refusal_at place (reasons.RepeatedStatement a) ≡ refusal_at place' (reasons.RepeatedStatement b)
    by (same p q) = same_refusal place place' _ _ ((m.place_is ∙ ap place_of q) ∙ sym n.place_is)
        (ap reasons.RepeatedStatement (same_Some a b ((sym m.is_single ∙ ap single_of q) ∙ n.is_single)))
    by (before between p) = absurd (n.first m.before m.repeat between a p m.is_single m.came)
    by (behind between p) = absurd (m.first n.before n.repeat between b p n.is_single n.came)

as_deck : (P : List Statement → Type 0) (tokens : List Lexeme) (a b : List Statement) → SpellsDeck tokens a → SpellsDeck tokens b → P b → P a
as_deck P tokens a b s s' p = subst P (sym (one_deck tokens a b s s')) p

pub one_refusal : (tokens : List Lexeme) (len : ℕ) (a b : DeckRefusal) → IsRefused tokens len a → IsRefused tokens len b → a ≡ b
one_refusal tokens len a b (at_token f t k e st w) (at_token f' t' k' e' st' w') = tokens_refused_once tokens f t k e st w f' t' k' e' st' w'
one_refusal tokens len a b (at_token f t k e st w) (at_end st' n) = absurd (none_wrong tokens f t k st' e w)
one_refusal tokens len a b (at_token f t k e st w) (missing all which st' s m) = absurd (none_wrong tokens f t k st' e w)
one_refusal tokens len a b (at_token f t k e st w) (repeated all which place st' s h m) = absurd (none_wrong tokens f t k st' e w)
one_refusal tokens len a b (at_end st n) (at_token f t k e st' w) = absurd (none_wrong tokens f t k st e w)
one_refusal tokens len a b (at_end st n) (at_end st' n') = refl
one_refusal tokens len a b (at_end st n) (missing all which st' s m) = absurd (n all s)
one_refusal tokens len a b (at_end st n) (repeated all which place st' s h m) = absurd (n all s)
one_refusal tokens len a b (missing all which st s m) (at_token f t k e st' w) = absurd (none_wrong tokens f t k st e w)
one_refusal tokens len a b (missing all which st s m) (at_end st' n) = absurd (n all s)
one_refusal tokens len a b (missing all which st s m) (missing all' which' st' s' m') =
    same_refusal len len _ _ refl (ap reasons.MissingStatement (first_missing all which which' m (as_deck (λ those. IsMissing those which') tokens all all' s s' m')))
one_refusal tokens len a b (missing all which st s m) (repeated all' which' place st' s' h m') =
    absurd (not_missing all which m (as_deck (λ those. (one : Single) → Contains wanted one → Contains (singles those) one) tokens all all' s s' h))
one_refusal tokens len a b (repeated all which place st s h m) (at_token f t k e st' w) = absurd (none_wrong tokens f t k st e w)
one_refusal tokens len a b (repeated all which place st s h m) (at_end st' n) = absurd (n all s)
one_refusal tokens len a b (repeated all which place st s h m) (missing all' which' st' s' m') =
    absurd (not_missing all' which' m' (as_deck (λ those. (one : Single) → Contains wanted one → Contains (singles those) one) tokens all' all s' s h))
one_refusal tokens len a b (repeated all which place st s h m) (repeated all' which' place' st' s' h' m') =
    first_repeated all which which' place place' m (as_deck (λ those. IsRepeated those which' place') tokens all all' s s' m')

pub not_both : (tokens : List Lexeme) (len : ℕ) (all : List Statement) (a : DeckRefusal) → IsAccepted tokens all → IsRefused tokens len a → ⊥
not_both tokens len all a y (at_token f t k e st w) = none_wrong tokens f t k y.stand e w
not_both tokens len all a y (at_end st n) = n all y.spelled
not_both tokens len all a y (missing all' which st s m) =
    not_missing all' which m (as_deck (λ those. (one : Single) → Contains wanted one → Contains (singles those) one) tokens all' all s y.spelled y.wanted_stand)
not_both tokens len all a y (repeated all' which place st s h m) =
    as_deck StandOnce tokens all' all s y.spelled y.stand_once m.before m.repeat m.behind which m.stands m.is_single m.came
