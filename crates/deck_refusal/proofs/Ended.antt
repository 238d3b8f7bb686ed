-- Where an input, a bound or a number of LAYER MAP may start, by what the tokens end in.
use Rattle.std.proofs.Common.{◌≡◌, inl, inr, ◌||◌, ◌≤◌, true, List, [], ◌∷◌, ◌++◌, reverse, length, refl, sym, ap, ◌∙◌, lit≤}
use Rattle.std.specs.Prelude.{Contains}
use Rattle.std.proofs.lemmas.Bool.{cases_Bool}
use Rattle.std.proofs.lemmas.List.Elements.{All-contains, All-from_recursion}
use Rattle.deck_grammar.specs.declared.keyword.Keyword.{Keyword}
use Rattle.deck_grammar.specs.declared.keyword.Keyword.TheVariants as k
use Rattle.deck_grammar.specs.declared.sign.Sign.TheVariants as s
use Rattle.deck_grammar.specs.declared.kind.Kind.{Kind}
use Rattle.deck_grammar.specs.declared.kind.Kind.TheVariants as kinds
use Rattle.deck_grammar.specs.Lexemes.{Lexeme}
use Rattle.deck_grammar.specs.Refusals.{EndsIn, distance_words, one_input_words, inputs, AwaitsInput, first_input, second_input, AwaitsBound, behind_one, behind_two, behind_abut, AwaitsMapNumber, first_number, second_number, third_number}
use Rattle.deck_refusal.specs.Working.Recent.{latest, begins_with, begins_with_one}
use Rattle.deck_refusal.specs.Working.Ends.{input_ends, bound_ends, map_ends}
use Rattle.deck_refusal.proofs.Latest.{ends_in, ended_in}

abbrev plain : List Kind
plain = kinds.Name ∷ []

abbrev bracketed : List Kind
bracketed = kinds.Sign s.LeftSquare ∷ kinds.Name ∷ kinds.Sign s.RightSquare ∷ []

-- the fact follows from each end of the list
abbrev EachGives : List Lexeme → Type 0 → List (List Kind) → Type 0
EachGives before P [] = Unit {0}
EachGives before P (those ∷ others) = (EndsIn before (reverse those) → P) × EachGives before P others

given : (before : List Lexeme) (P : Type 0) (all : List (List Kind)) → EachGives before P all
    → begins_with_one all (latest before) ≡ true → P
given before P [] each h = absurd (cc)
given before P (those ∷ others) each h = elim (cases_Bool (begins_with those (latest before))) [
  | inl is ↦ each.0 (ends_in before those is)
  | inr isnt ↦ given before P others each.1 (sym (ap (λ b. b || begins_with_one others (latest before)) isnt) ∙ h)
]

-- one of the list
data In (those : List Kind) : List (List Kind) → Type 0 where
  here : {others : List (List Kind)} → In those (those ∷ others)
  later : {first : List Kind} {others : List (List Kind)} → In those others → In those (first ∷ others)

one_of : (recent those : List Kind) (all : List (List Kind)) → In those all → begins_with those recent ≡ true
    → begins_with_one all recent ≡ true
one_of recent those [] m h = elim m [ ]
one_of recent _ (those ∷ others) here h = ap (λ b. b || begins_with_one others recent) h
one_of recent those (first ∷ others) (later m) h = elim (cases_Bool (begins_with first recent)) [
  | inl is ↦ ap (λ b. b || begins_with_one others recent) is
  | inr isnt ↦ ap (λ b. b || begins_with_one others recent) isnt ∙ one_of recent those others m h
]

ended : (before : List Lexeme) (those : List Kind) (all : List (List Kind)) → length those ≤ 7
    → In (reverse those) all → EndsIn before those
    → begins_with_one all (latest before) ≡ true
ended before those all few m e = one_of (latest before) (reverse those) all m (ended_in before those few e)

pub input_awaited : (before : List Lexeme) → begins_with_one input_ends (latest before) ≡ true → AwaitsInput before
input_awaited before = given before (AwaitsInput before) input_ends (
  (λ e. first_input k.Int (0, lit≤ tt, refl) e),
  (
    (λ e. first_input k.Ext (1, lit≤ tt, refl) e),
    (
      (λ e. first_input k.Enc (2, lit≤ tt, refl) e),
      (
        (λ e. second_input k.Int plain (0, lit≤ tt, refl) (0, lit≤ tt, refl) e),
        (
          (λ e. second_input k.Int bracketed (0, lit≤ tt, refl) (1, lit≤ tt, refl) e),
          (
            (λ e. second_input k.Ext plain (1, lit≤ tt, refl) (0, lit≤ tt, refl) e),
            (
              (λ e. second_input k.Ext bracketed (1, lit≤ tt, refl) (1, lit≤ tt, refl) e),
              (
                (λ e. second_input k.Enc plain (2, lit≤ tt, refl) (0, lit≤ tt, refl) e),
                ((λ e. second_input k.Enc bracketed (2, lit≤ tt, refl) (1, lit≤ tt, refl) e), tt),
              ),
            ),
          ),
        ),
      ),
    ),
  ),
)

pub bound_awaited : (before : List Lexeme) → begins_with_one bound_ends (latest before) ≡ true → AwaitsBound before
bound_awaited before = given before (AwaitsBound before) bound_ends (
  (λ e. behind_one k.Int plain (
    0,
    lit≤ tt,
    refl,
  ) (0, lit≤ tt, refl) e),
  (
    (λ e. behind_one k.Int bracketed (0, lit≤ tt, refl) (1, lit≤ tt, refl) e),
    (
      (λ e. behind_one k.Ext plain (1, lit≤ tt, refl) (0, lit≤ tt, refl) e),
      (
        (λ e. behind_one k.Ext bracketed (
          1,
          lit≤ tt,
          refl,
        ) (1, lit≤ tt, refl) e),
        (
          (λ e. behind_two k.Int plain plain (0, lit≤ tt, refl) (
            0,
            lit≤ tt,
            refl,
          ) (0, lit≤ tt, refl) e),
          (
            (λ e. behind_two k.Int plain bracketed (0, lit≤ tt, refl) (0, lit≤ tt, refl) (
              1,
              lit≤ tt,
              refl,
            ) e),
            (
              (λ e. behind_two k.Int bracketed plain (0, lit≤ tt, refl) (1, lit≤ tt, refl) (
                0,
                lit≤ tt,
                refl,
              ) e),
              (
                (λ e. behind_two k.Int bracketed bracketed (0, lit≤ tt, refl) (1, lit≤ tt, refl) (
                  1,
                  lit≤ tt,
                  refl,
                ) e),
                (
                  (λ e. behind_two k.Ext plain plain (1, lit≤ tt, refl) (0, lit≤ tt, refl) (0, lit≤ tt, refl) e),
                  (
                    (λ e. behind_two k.Ext plain bracketed (1, lit≤ tt, refl) (0, lit≤ tt, refl) (1, lit≤ tt, refl) e),
                    (
                      (λ e. behind_two k.Ext bracketed plain (1, lit≤ tt, refl) (1, lit≤ tt, refl) (0, lit≤ tt, refl) e),
                      (
                        (λ e. behind_two k.Ext bracketed bracketed (1, lit≤ tt, refl) (1, lit≤ tt, refl) (1, lit≤ tt, refl) e),
                        (
                          (λ e. behind_two k.Enc plain plain (2, lit≤ tt, refl) (0, lit≤ tt, refl) (0, lit≤ tt, refl) e),
                          (
                            (λ e. behind_two k.Enc plain bracketed (2, lit≤ tt, refl) (0, lit≤ tt, refl) (1, lit≤ tt, refl) e),
                            (
                              (λ e. behind_two k.Enc bracketed plain (2, lit≤ tt, refl) (1, lit≤ tt, refl) (0, lit≤ tt, refl) e),
                              (
                                (λ e. behind_two k.Enc bracketed bracketed (2, lit≤ tt, refl) (1, lit≤ tt, refl) (1, lit≤ tt, refl) e),
                                ((λ e. behind_abut e), tt),
                              ),
                            ),
                          ),
                        ),
                      ),
                    ),
                  ),
                ),
              ),
            ),
          ),
        ),
      ),
    ),
  ),
)

pub map_awaited : (before : List Lexeme) → begins_with_one map_ends (latest before) ≡ true → AwaitsMapNumber before
map_awaited before = given before (AwaitsMapNumber before) map_ends (
  (λ e. first_number e),
  (
    (λ e. second_number k.DataType (0, lit≤ tt, refl) e),
    (
      (λ e. second_number k.TextType (1, lit≤ tt, refl) e),
      ((λ e. third_number k.DataType (0, lit≤ tt, refl) e), ((λ e. third_number k.TextType (1, lit≤ tt, refl) e), tt)),
    ),
  ),
)

-- ---- The other way

-- some end of the list is that of the tokens
abbrev Shown : List (List Kind) → List Lexeme → Type 0
Shown all before = begins_with_one all (latest before) ≡ true

each_distance : (P : Keyword → Type 0) → P k.Int → P k.Ext → P k.Enc → (word : Keyword)
    → Contains distance_words word → P word
each_distance P int ext enc word is = All-contains P distance_words word (All-from_recursion P distance_words (
  int,
  (ext, (enc, tt)),
)) is

each_one_input : (P : Keyword → Type 0) → P k.Int → P k.Ext → (word : Keyword) → Contains one_input_words word → P word
each_one_input P int ext word is = All-contains P one_input_words word (All-from_recursion P one_input_words (
  int,
  (ext, tt),
)) is

each_input : (P : List Kind → Type 0) → P plain → P bracketed → (one : List Kind) → Contains inputs one → P one
each_input P a b one is = All-contains P inputs one (All-from_recursion P inputs (a, (b, tt))) is

each_map : (P : Keyword → Type 0) → P k.DataType → P k.TextType → (word : Keyword)
    → Contains (k.DataType ∷ k.TextType ∷ []) word → P word
each_map P a b word is =
    All-contains P (k.DataType ∷ k.TextType ∷ []) word (All-from_recursion P (k.DataType ∷ k.TextType ∷ []) (
      a,
      (
        b,
        tt,
      ),
    )) is

pub input_found : (before : List Lexeme) → AwaitsInput before → begins_with_one input_ends (latest before) ≡ true
input_found before (first_input word is e) =
    each_distance (λ w. EndsIn before (kinds.Keyword w ∷ []) → Shown input_ends before)
    (ended before (kinds.Keyword k.Int ∷ []) input_ends (lit≤ tt) here)
    (ended before (kinds.Keyword k.Ext ∷ []) input_ends (lit≤ tt) (later here))
    (ended before (kinds.Keyword k.Enc ∷ []) input_ends (lit≤ tt) (later (later here))) word is e
input_found before (second_input word first is firsts e) =
    each_distance (λ w. (one : List Kind) → Contains inputs one → EndsIn before (kinds.Keyword w ∷ one)
    → Shown input_ends before)
    (each_input (λ f. EndsIn before (kinds.Keyword k.Int ∷ f) → Shown input_ends before)
    (ended before (kinds.Keyword k.Int ∷ plain) input_ends (lit≤ tt) (later (later (later here))))
    (ended before (kinds.Keyword k.Int ∷ bracketed) input_ends (lit≤ tt) (later (later (later (later here))))))
    (each_input (λ f. EndsIn before (kinds.Keyword k.Ext ∷ f) → Shown input_ends before)
    (ended before (kinds.Keyword k.Ext ∷ plain) input_ends (lit≤ tt) (later (later (later (later (later here))))))
    (ended before (kinds.Keyword k.Ext ∷ bracketed) input_ends (lit≤ tt) (later (later (later (later (later (later
    here))))))))
    (each_input (λ f. EndsIn before (kinds.Keyword k.Enc ∷ f) → Shown input_ends before)
    (ended before (kinds.Keyword k.Enc ∷ plain) input_ends (lit≤ tt) (later (later (later (later (later (later (later
    here))))))))
    (ended before (kinds.Keyword k.Enc ∷ bracketed) input_ends (lit≤ tt) (later (later (later (later (later (later
    (later (later here)))))))))) word is first firsts e

pub bound_found : (before : List Lexeme) → AwaitsBound before → begins_with_one bound_ends (latest before) ≡ true
bound_found before (behind_one word first is firsts e) =
    each_one_input (λ w. (one : List Kind) → Contains inputs one → EndsIn before (kinds.Keyword w ∷ one)
    → Shown bound_ends before)
    (each_input (λ f. EndsIn before (kinds.Keyword k.Int ∷ f) → Shown bound_ends before)
    (ended before (kinds.Keyword k.Int ∷ plain) bound_ends (lit≤ tt) here)
    (ended before (kinds.Keyword k.Int ∷ bracketed) bound_ends (lit≤ tt) (later here)))
    (each_input (λ f. EndsIn before (kinds.Keyword k.Ext ∷ f) → Shown bound_ends before)
    (ended before (kinds.Keyword k.Ext ∷ plain) bound_ends (lit≤ tt) (later (later here)))
    (ended before (kinds.Keyword k.Ext ∷ bracketed) bound_ends (lit≤ tt) (later (later (later here))))) word is first
    firsts e
bound_found before (behind_two word first second is firsts seconds e) =
    each_distance (λ w. (one : List Kind) → Contains inputs one → (two : List Kind) → Contains inputs two
    → EndsIn before (kinds.Keyword w ∷ one ++ two) → Shown bound_ends before)
    (each_input (λ f. (two : List Kind) → Contains inputs two → EndsIn before (kinds.Keyword k.Int ∷ f ++ two)
    → Shown bound_ends before)
    (each_input (λ g. EndsIn before (kinds.Keyword k.Int ∷ plain ++ g) → Shown bound_ends before)
    (ended before (kinds.Keyword k.Int ∷ plain ++ plain) bound_ends (lit≤ tt) (later (later (later (later here)))))
    (ended before (kinds.Keyword k.Int ∷ plain ++ bracketed) bound_ends (lit≤ tt) (later (later (later (later (later
    here)))))))
    (each_input (λ g. EndsIn before (kinds.Keyword k.Int ∷ bracketed ++ g) → Shown bound_ends before)
    (ended before (kinds.Keyword k.Int ∷ bracketed ++ plain) bound_ends (lit≤ tt) (later (later (later (later (later
    (later here)))))))
    (ended before (kinds.Keyword k.Int ∷ bracketed ++ bracketed) bound_ends (lit≤ tt) (later (later (later (later
    (later (later (later here))))))))))
    (each_input (λ f. (two : List Kind) → Contains inputs two → EndsIn before (kinds.Keyword k.Ext ∷ f ++ two)
    → Shown bound_ends before)
    (each_input (λ g. EndsIn before (kinds.Keyword k.Ext ∷ plain ++ g) → Shown bound_ends before)
    (ended before (kinds.Keyword k.Ext ∷ plain ++ plain) bound_ends (lit≤ tt) (later (later (later (later (later
    (later (later (later here)))))))))
    (ended before (kinds.Keyword k.Ext ∷ plain ++ bracketed) bound_ends (lit≤ tt) (later (later (later (later (later
    (later (later (later (later here)))))))))))
    (each_input (λ g. EndsIn before (kinds.Keyword k.Ext ∷ bracketed ++ g) → Shown bound_ends before)
    (ended before (kinds.Keyword k.Ext ∷ bracketed ++ plain) bound_ends (lit≤ tt) (later (later (later (later (later
    (later (later (later (later (later here)))))))))))
    (ended before (kinds.Keyword k.Ext ∷ bracketed ++ bracketed) bound_ends (lit≤ tt) (later (later (later (later
    (later (later (later (later (later (later (later here))))))))))))))
    (each_input (λ f. (two : List Kind) → Contains inputs two → EndsIn before (kinds.Keyword k.Enc ∷ f ++ two)
    → Shown bound_ends before)
    (each_input (λ g. EndsIn before (kinds.Keyword k.Enc ∷ plain ++ g) → Shown bound_ends before)
    (ended before (kinds.Keyword k.Enc ∷ plain ++ plain) bound_ends (lit≤ tt) (later (later (later (later (later
    (later (later (later (later (later (later (later here)))))))))))))
    (ended before (kinds.Keyword k.Enc ∷ plain ++ bracketed) bound_ends (lit≤ tt) (later (later (later (later (later
    (later (later (later (later (later (later (later (later here)))))))))))))))
    (each_input (λ g. EndsIn before (kinds.Keyword k.Enc ∷ bracketed ++ g) → Shown bound_ends before)
    (ended before (kinds.Keyword k.Enc ∷ bracketed ++ plain) bound_ends (lit≤ tt) (later (later (later (later (later
    (later (later (later (later (later (later (later (later (later here)))))))))))))))
    (ended before (kinds.Keyword k.Enc ∷ bracketed ++ bracketed) bound_ends (lit≤ tt) (later (later (later (later
    (later (later (later (later (later (later (later (later (later (later (later here)))))))))))))))))) word is
    first firsts second seconds e
bound_found before (behind_abut e) = ended before (kinds.Keyword k.Abut ∷ []) bound_ends (lit≤ tt) (later (later
    (later (later (later (later (later (later (later (later (later (later (later (later (later (later
    here)))))))))))))))) e

pub map_found : (before : List Lexeme) → AwaitsMapNumber before → begins_with_one map_ends (latest before) ≡ true
map_found before (first_number e) = ended before (kinds.Keyword k.Layer ∷ kinds.Keyword k.Map ∷ []) map_ends (lit≤
    tt) here e
map_found before (second_number word is e) =
    each_map (λ w. EndsIn before (kinds.Keyword k.Layer ∷ kinds.Keyword k.Map ∷ kinds.Number ∷ kinds.Keyword w ∷ [])
    → Shown map_ends before)
    (ended before (kinds.Keyword k.Layer ∷ kinds.Keyword k.Map ∷ kinds.Number ∷ kinds.Keyword k.DataType ∷ [])
    map_ends (lit≤ tt) (later here))
    (ended before (kinds.Keyword k.Layer ∷ kinds.Keyword k.Map ∷ kinds.Number ∷ kinds.Keyword k.TextType ∷ [])
    map_ends (lit≤ tt) (later (later here))) word is e
map_found before (third_number word is e) =
    each_map (λ w. EndsIn before (kinds.Keyword k.Layer ∷ kinds.Keyword k.Map ∷ kinds.Number ∷ kinds.Keyword w ∷
    kinds.Number ∷ []) → Shown map_ends before)
    (ended before (kinds.Keyword k.Layer ∷ kinds.Keyword k.Map ∷ kinds.Number ∷ kinds.Keyword k.DataType ∷
    kinds.Number ∷ []) map_ends (lit≤ tt) (later (later (later here))))
    (ended before (kinds.Keyword k.Layer ∷ kinds.Keyword k.Map ∷ kinds.Number ∷ kinds.Keyword k.TextType ∷
    kinds.Number ∷ []) map_ends (lit≤ tt) (later (later (later (later here))))) word is e
